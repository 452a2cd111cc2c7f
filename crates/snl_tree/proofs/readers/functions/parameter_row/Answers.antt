use Rattle.std.proofs.Common.{sym}
use Rattle.std.proofs.lemmas.Result.{err_from_is_err_and}
use Rattle.snl_text.specs.declared.kinds.Kind.TheVariants.{Comma}
use Rattle.snl_syntax.specs.Kinds.{is}
use Rattle.snl_tree.specs.reading.Sequences.{behind}
use Rattle.snl_tree.specs.reading.Functions.{parameter_at, parameter_row_at}
use Rattle.snl_syntax.specs.view.Functions.{parameter_view}
use Rattle.snl_tree.proofs.code.Turns.{found_part, part_fails, found_more, found_all}
use Rattle.snl_tree.proofs.grammar.FunctionLaws.{next_parameter_less}
use Rattle.snl_tree.proofs.readers.functions.parameter_row.Goals as goal

-- fewer tokens are left after a comma and a parameter
pub loop-cursor-smaller : goal.loop-cursor-smaller
loop-cursor-smaller c = next_parameter_less c.loop-cursor.cursor.left.now c.next_parameter.new.cursor.left.now (parameter_view c.in_ok-next.next) c.in_ok-next.ensures

-- where no comma is next, the parameters found are all of them
pub returns : goal.returns
returns c =
    found_all (is Comma) (behind Comma parameter_at) parameter_view (parameter_row_at c.args.cursor.now.left.now) c.loop-cursor.found.items c.loop-cursor.cursor.left.now
    c.loop-cursor.invariant (sym c.loop-cursor-test.ensures)

-- a fault in the first parameter is a fault of them all
pub returns-in_err-first : goal.returns-in_err-first
unfolding parameter_row_at
returns-in_err-first c =
    let p = err_from_is_err_and c.from_residual.result c.from_residual.ensures.1 in
    rw (p.1, p.2) (part_fails Comma parameter_at c.args.cursor.now.left.now c.in_err-first.field-0.0 c.parameter.new.cursor.left.now c.in_err-first.ensures)

-- with the first parameter found, those after each comma are left to read
pub loop-cursor-init : goal.loop-cursor-init
unfolding parameter_row_at
loop-cursor-init c =
    found_part Comma parameter_at parameter_view c.args.cursor.now.left.now c.parameter.new.cursor.left.now c.in_ok-first.first c.pushed.new.row.items
    c.new-found.result.items c.new-found.ensures.items c.in_ok-pushed.ensures.items c.in_ok-first.ensures

-- with one more parameter found, the others are left to read
pub loop-cursor-preserved : goal.loop-cursor-preserved
loop-cursor-preserved c =
    found_more (is Comma) (behind Comma parameter_at) next_parameter_less parameter_view (parameter_row_at c.args.cursor.now.left.now)
    c.loop-cursor.found.items c.loop-cursor.cursor.left.now c.in_ok-next.next c.next_parameter.new.cursor.left.now _
    c.in_ok-pushed-2.ensures.items c.loop-cursor.invariant (sym c.loop-cursor-test.ensures) c.in_ok-next.ensures
