use Rattle.std.proofs.Common.{length}
use Rattle.snl_text.specs.declared.kinds.Kind.TheVariants.{When}
use Rattle.snl_syntax.specs.Kinds.{is}
use Rattle.snl_tree.specs.reading.Programs.{clause_at, clauses_at}
use Rattle.snl_syntax.specs.view.Programs.{clause_view}
use Rattle.snl_tree.proofs.code.Turns.{Found}
use Rattle.snl_tree.proofs.readers.programs.clauses.Given as goal

-- the clauses are those found, and those left to read
abbrev pub invariant-loop-alloc : goal.invariant-loop-alloc
invariant-loop-alloc l = Found (is When) (clause_at l.depth) clause_view (clauses_at l.fn.depth l.fn.cursor.left.now) l.found.items l.cursor.left.now

-- the count of the tokens that are left
abbrev pub decreases-loop-alloc : goal.decreases-loop-alloc
decreases-loop-alloc l = length l.cursor.left.now
