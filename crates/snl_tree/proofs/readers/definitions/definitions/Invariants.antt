use Rattle.std.proofs.Common.{length}
use Rattle.snl_syntax.specs.Definitions.{starts_definition}
use Rattle.snl_tree.specs.reading.Definitions.{definition_at, definitions_at}
use Rattle.snl_syntax.specs.view.Definitions.{definition_view}
use Rattle.snl_tree.proofs.code.Turns.{Found}
use Rattle.snl_tree.proofs.readers.definitions.definitions.Given as goal

-- the definitions are those found, and those left to read
abbrev pub invariant-loop-alloc : goal.invariant-loop-alloc
invariant-loop-alloc l = Found starts_definition (definition_at l.depth) definition_view (definitions_at l.fn.depth l.fn.cursor.left.now) l.found.items l.cursor.left.now

-- the count of the tokens that are left
abbrev pub decreases-loop-alloc : goal.decreases-loop-alloc
decreases-loop-alloc l = length l.cursor.left.now
