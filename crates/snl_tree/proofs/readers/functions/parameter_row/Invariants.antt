use Rattle.std.proofs.Common.{length}
use Rattle.snl_text.specs.declared.kinds.Kind.TheVariants.{Comma}
use Rattle.snl_syntax.specs.Kinds.{is}
use Rattle.snl_tree.specs.reading.Sequences.{behind}
use Rattle.snl_tree.specs.reading.Functions.{parameter_at, parameter_row_at}
use Rattle.snl_syntax.specs.view.Functions.{parameter_view}
use Rattle.snl_tree.proofs.code.Turns.{Found}
use Rattle.snl_tree.proofs.readers.functions.parameter_row.Given as goal

-- the parameters are those found, and those left to read
abbrev pub invariant-loop-cursor : goal.invariant-loop-cursor
invariant-loop-cursor l = Found (is Comma) (behind Comma parameter_at) parameter_view (parameter_row_at l.fn.cursor.left.now) l.found.items l.cursor.left.now

-- the count of the tokens that are left
abbrev pub decreases-loop-cursor : goal.decreases-loop-cursor
decreases-loop-cursor l = length l.cursor.left.now
