use Rattle.std.proofs.Common.{sym}
use Rattle.std.proofs.lemmas.Result.{err_from_is_err_and}
use Rattle.snl_syntax.specs.Definitions.{starts_program_part}
use Rattle.snl_tree.specs.reading.Functions.{program_part_at, program_parts_at}
use Rattle.snl_syntax.specs.view.Definitions.{definition_view}
use Rattle.snl_tree.proofs.code.Turns.{found_none, found_more, found_all, found_fails}
use Rattle.snl_tree.proofs.code.ProgramLess.{program_part_less}
use Rattle.snl_tree.proofs.readers.functions.program_parts.Goals as goal

-- at first no definition is found, and all are left to read
pub loop-alloc-init : goal.loop-alloc-init
unfolding program_parts_at
loop-alloc-init c = found_none starts_program_part (program_part_at c.args.depth) definition_view c.args.cursor.now.left.now c.new-found.result.items c.new-found.ensures.items

-- with one more definition found, the others are left to read
pub loop-alloc-preserved : goal.loop-alloc-preserved
loop-alloc-preserved c =
    let next = c.in_ok-program_part.ensures in
    found_more starts_program_part (program_part_at c.args.depth) (program_part_less c.args.depth c.requires) definition_view (program_parts_at c.args.depth c.args.cursor.now.left.now)
    c.loop-alloc.found.items c.loop-alloc.cursor.left.now next.0 c.program_part.new.cursor.left.now _ next.1 c.loop-alloc.invariant (sym c.loop-alloc-test.ensures) next.2

-- fewer tokens are left after a definition
pub loop-alloc-smaller : goal.loop-alloc-smaller
loop-alloc-smaller c =
    let next = c.in_ok-program_part.ensures in
    program_part_less c.args.depth c.requires c.loop-alloc.cursor.left.now c.program_part.new.cursor.left.now (definition_view next.0) next.2

-- where no definition begins, those found are all of them
pub returns : goal.returns
returns c =
    found_all starts_program_part (program_part_at c.args.depth) definition_view (program_parts_at c.args.depth c.args.cursor.now.left.now) c.loop-alloc.found.items c.loop-alloc.cursor.left.now
    c.loop-alloc.invariant (sym c.loop-alloc-test.ensures)

-- a fault in a definition is a fault of them all
pub returns-in_err-program_part : goal.returns-in_err-program_part
returns-in_err-program_part c =
    let p = err_from_is_err_and c.from_residual.result c.from_residual.ensures.1 in
    rw (p.1, p.2) (found_fails starts_program_part (program_part_at c.args.depth) (program_part_less c.args.depth c.requires) definition_view
    (program_parts_at c.args.depth c.args.cursor.now.left.now) c.loop-alloc.found.items c.loop-alloc.cursor.left.now c.in_err-program_part.field-0.0 c.program_part.new.cursor.left.now
    c.loop-alloc.invariant (sym c.loop-alloc-test.ensures) c.in_err-program_part.ensures)
