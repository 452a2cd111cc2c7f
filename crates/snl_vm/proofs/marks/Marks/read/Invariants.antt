use Rattle.std.proofs.Common.{◌≡◌, ◌<◌, ◌^◌, ℕ, length}
use Rattle.snl_vm.specs.Pictures.{number_word}
use Rattle.snl_vm.proofs.Pictured.{AreRead}
use Rattle.snl_vm.proofs.marks.Marks.read.Given as goal

-- the words so far were read, and no place came or went
abbrev pub invariant-loop-number : goal.invariant-loop-number
invariant-loop-number l = record {
  words : AreRead number_word (λ (n : ℕ). n < 2 ^ 64) (length l.fn.self.words.items) l.own l.number l.self.words.items;
  count : l.self.count ≡ l.fn.self.count;
  start : l.self.start ≡ 0;
  end : l.self.end ≡ length l.self.words.items;
}
