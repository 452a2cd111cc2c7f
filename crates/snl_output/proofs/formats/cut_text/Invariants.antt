use Rattle.std.proofs.Common.{◌≡◌, ◌++◌, ℤ, List, drop}
use Rattle.snl_names.specs.declared.formats.FormatState.TheVariants.{Plain}
use Rattle.snl_meaning.specs.Printing.{shown}
use Rattle.snl_output.specs.Formats.{filled, left_behind}
use Rattle.snl_output.proofs.formats.cut_text.Given as goal

-- what was cut so far, and what the bytes that are left write with the numbers that are left
abbrev pub invariant-loop-byte : goal.invariant-loop-byte
invariant-loop-byte l =
    (zs : List ℤ) → shown Plain zs l.text ≡ filled l.done.parts.items zs (l.done.text.items ++ shown l.state (left_behind l.done.parts.items zs) (drop l.byte-index l.text))
