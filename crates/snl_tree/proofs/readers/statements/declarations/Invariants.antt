use Rattle.std.proofs.Common.{length}
use Rattle.snl_syntax.specs.Declarations.{starts_declaration}
use Rattle.snl_tree.specs.reading.Declarations.{declaration_at}
use Rattle.snl_syntax.specs.view.Declarations.{declaration_view}
use Rattle.snl_tree.specs.reading.Statements.{declarations_at}
use Rattle.snl_tree.proofs.code.Turns.{Found}
use Rattle.snl_tree.proofs.readers.statements.declarations.Given as goal

-- the declarations are those found, and those left to read
abbrev pub invariant-loop-alloc : goal.invariant-loop-alloc
invariant-loop-alloc l = Found starts_declaration (declaration_at l.limit) declaration_view (declarations_at l.fn.limit l.fn.cursor.left.now) l.found.items l.cursor.left.now

-- the count of the tokens that are left
abbrev pub decreases-loop-alloc : goal.decreases-loop-alloc
decreases-loop-alloc l = length l.cursor.left.now
