use Rattle.std.proofs.Common.{length}
use Rattle.snl_syntax.specs.Definitions.{starts_part}
use Rattle.snl_tree.specs.reading.Definitions.{part_at, parts_at}
use Rattle.snl_syntax.specs.view.Definitions.{definition_view}
use Rattle.snl_tree.proofs.code.Turns.{Found}
use Rattle.snl_tree.proofs.readers.options.parts.Given as goal

-- the definitions and options are those found, and those left to read
abbrev pub invariant-loop-alloc : goal.invariant-loop-alloc
invariant-loop-alloc l = Found starts_part (part_at l.depth) definition_view (parts_at l.fn.depth l.fn.cursor.left.now) l.found.items l.cursor.left.now

-- the count of the tokens that are left
abbrev pub decreases-loop-alloc : goal.decreases-loop-alloc
decreases-loop-alloc l = length l.cursor.left.now
