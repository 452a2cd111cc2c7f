use Rattle.std.proofs.Common.{◌≡◌, ℕ, ◌+◌, List, drop, length, map, unwrap_or}
use Rattle.std.specs.Prelude.{bytes_eq}
use Rattle.std.specs.HashMap.{get_by}
use Rattle.snl_meaning.specs.Names.{text_number}
use Rattle.snl_meaning.proofs.strings.Strings.of.Given as goal

-- those from a number on have theirs
abbrev pub invariant-loop-number : goal.invariant-loop-number
invariant-loop-number l =
    (q : List ℕ) → unwrap_or (get_by (λ key. bytes_eq q key.now) l.numbers) (length l.all.items)
    ≡ l.number + text_number (map (λ t. t.now) (drop l.number l.all.items)) q
