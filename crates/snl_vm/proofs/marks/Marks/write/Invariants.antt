use Rattle.std.proofs.Common.{◌≡◌, ◌<◌, ◌^◌, ◌++◌, ℕ, drop, get_or, map}
use Rattle.snl_vm.specs.Pictures.{number_word}
use Rattle.snl_vm.proofs.marks.Marks.write.Given as goal

-- the words so far, and those that are left; the numbers so far fit
abbrev pub invariant-loop-word : goal.invariant-loop-word
invariant-loop-word l = record {
  words : l.words.items ++ map number_word (drop l.word-index l.self.words.items) ≡ l.fn.words.items ++ map number_word l.self.words.items;
  fit : (k : ℕ) → k < l.word-index → (d : ℕ) → get_or l.self.words.items k d < 2 ^ 64;
}
