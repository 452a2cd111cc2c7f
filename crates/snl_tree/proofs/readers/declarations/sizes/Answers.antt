use Rattle.std.proofs.Common.{sym}
use Rattle.std.proofs.lemmas.Result.{err_from_is_err_and}
use Rattle.snl_text.specs.declared.kinds.Kind.TheVariants.{OpenBracket}
use Rattle.snl_syntax.specs.Kinds.{is}
use Rattle.snl_syntax.specs.view.Expressions.{boxed}
use Rattle.snl_tree.specs.reading.Declarations.{bracket_at, sizes_at}
use Rattle.snl_tree.proofs.code.Turns.{found_none, found_more, found_all, found_fails}
use Rattle.snl_tree.proofs.grammar.DeclarationLaws.{bracket_less}
use Rattle.snl_tree.proofs.readers.declarations.sizes.Goals as goal

-- with one more size found, the others are left to read
pub loop-alloc-preserved : goal.loop-alloc-preserved
loop-alloc-preserved c =
    found_more (is OpenBracket) (bracket_at c.args.depth) (bracket_less c.args.depth) boxed (sizes_at c.args.depth c.args.cursor.now.left.now) c.loop-alloc.found.items
    c.loop-alloc.cursor.left.now c.in_ok-next.next c.bracket.new.cursor.left.now _
    c.in_ok-pushed.ensures.items c.loop-alloc.invariant (sym c.loop-alloc-test.ensures) c.in_ok-next.ensures

-- fewer tokens are left after a size in brackets
pub loop-alloc-smaller : goal.loop-alloc-smaller
loop-alloc-smaller c = bracket_less c.args.depth c.loop-alloc.cursor.left.now c.bracket.new.cursor.left.now (boxed c.in_ok-next.next) c.in_ok-next.ensures

-- where no bracket is next, the sizes found are all of them
pub returns : goal.returns
returns c =
    found_all (is OpenBracket) (bracket_at c.args.depth) boxed (sizes_at c.args.depth c.args.cursor.now.left.now) c.loop-alloc.found.items c.loop-alloc.cursor.left.now
    c.loop-alloc.invariant (sym c.loop-alloc-test.ensures)

-- a fault in a size is a fault of them all
pub returns-in_err-next : goal.returns-in_err-next
returns-in_err-next c =
    let p = err_from_is_err_and c.from_residual.result c.from_residual.ensures.1 in
    rw (p.1, p.2) (found_fails (is OpenBracket) (bracket_at c.args.depth) (bracket_less c.args.depth) boxed (sizes_at c.args.depth c.args.cursor.now.left.now) c.loop-alloc.found.items
    c.loop-alloc.cursor.left.now c.in_err-next.field-0.0 c.bracket.new.cursor.left.now
    c.loop-alloc.invariant (sym c.loop-alloc-test.ensures) c.in_err-next.ensures)

-- at first no size is found, and all are left to read
pub loop-alloc-init : goal.loop-alloc-init
unfolding sizes_at
loop-alloc-init c = found_none (is OpenBracket) (bracket_at c.args.depth) boxed c.args.cursor.now.left.now c.new-found.result.items c.new-found.ensures.items
