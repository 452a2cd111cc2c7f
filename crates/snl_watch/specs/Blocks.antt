-- A block of lines that comes again, and what is written of it.
use Rattle.std.specs.Prelude.{◌≡◌, ◌==◌, ℕ, List, [], if◌then◌else◌}
use Rattle.snl_watch.specs.Folding.{again_line}
use Rattle.snl_watch.specs.declared.block.Block.{Block}

-- No block comes again.
abbrev pub is_none : Block → Type 0
is_none b = (b.size ≡ 0) × (b.times ≡ 0) × (b.count ≡ 0) × (b.held.items ≡ [])

-- What is written of those that came whole.
abbrev pub told_again : Block → List ℕ
told_again b = if b.times == 0 then [] else again_line b.size b.times b.until.items
