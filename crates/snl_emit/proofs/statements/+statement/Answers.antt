use Rattle.std.proofs.Common.{◌≡◌, ◌-◌, arith, length, reverse}
use Rattle.std.proofs.lemmas.Result.{on_ok_weaker}
use Rattle.snl_syntax.specs.view.Statements.{statement_view}
use Rattle.snl_meaning.specs.Known.{here_of}
use Rattle.snl_emit.proofs.LoopCode.{turn-made, nested-made, while-made, for-made}
use Rattle.snl_emit.proofs.statements.+statement.Goals as goal

pub emit_turn-returns : goal.emit_turn-returns
emit_turn-returns t c =
    let again : c.len-again.result ≡ length c.args.code.now.items = omega (arith, c.len-again.ensures, c.args.code.now.ok.0) in
    on_ok_weaker c.close.result
    (turn-made (here_of c.args.known.now) (statement_view c.args.body.now) c.args.line c.args.end c.args.test c.len-again.result
    c.args.code.now.items c.emit_statement.new.code.items (reverse c.close.new.code.items) c.requires.end c.requires.test again
    c.in_ok-emit_statement.ensures)
    c.close.ensures

pub emit_statement-returns-in-Block : goal.emit_statement-returns-in-Block
emit_statement-returns-in-Block t c =
    on_ok_weaker c.emit_nested.result
    (nested-made (here_of c.args.known.now) c.args.statement.now c.in-Block.block (length c.args.code.now.items - c.args.around.end)
    (length c.args.code.now.items - c.args.around.again) (reverse c.args.code.now.items) (reverse c.emit_nested.new.code.items) c.in-Block.is)
    c.emit_nested.ensures

pub emit_statement-returns-in_ok-emit_test-in-While : goal.emit_statement-returns-in_ok-emit_test-in-While
emit_statement-returns-in_ok-emit_test-in-While t c =
    let end : c.len-end.result ≡ length c.args.code.now.items = omega (arith, c.len-end.ensures, c.args.code.now.ok.0) in
    let test : c.len.result ≡ length c.emit_test.new.code.items = omega (arith, c.len.ensures, c.emit_test.new.code.ok.0) in
    on_ok_weaker c.emit_turn.result
    (while-made (here_of c.args.known.now) c.args.statement.now c.in-While.word c.in-While.condition c.in-While.body
    c.deref-in-While.result.now c.deref-in-While-2.result.now (length c.args.code.now.items - c.args.around.end)
    (length c.args.code.now.items - c.args.around.again) c.len-end.result c.len.result
    c.args.code.now.items c.open.new.code.items c.emit_test.new.code.items (reverse c.emit_turn.new.code.items)
    c.in-While.is c.deref-in-While.ensures c.deref-in-While-2.ensures end c.in_ok-open-in-While.ensures c.in_ok-emit_test-in-While.ensures test)
    c.emit_turn.ensures

pub emit_statement-returns-in_ok-emit_turn-in-For : goal.emit_statement-returns-in_ok-emit_turn-in-For
emit_statement-returns-in_ok-emit_turn-in-For t c =
    let end : c.len-end-in-For.result ≡ length c.args.code.now.items = omega (arith, c.len-end-in-For.ensures, c.args.code.now.ok.0) in
    let test : c.len-test.result ≡ length c.open_tested.new.code.items = omega (arith, c.len-test.ensures, c.open_tested.new.code.ok.0) in
    on_ok_weaker c.emit_if_there-in-For.result
    (for-made (here_of c.args.known.now) c.args.statement.now c.in-For.word c.in-For.header c.in-For.body
    c.deref-in-For.result.now c.deref-in-For-2.result.now c.deref-in-For-4.result.now c.deref-in-For-3.result.now
    (length c.args.code.now.items - c.args.around.end) (length c.args.code.now.items - c.args.around.again) c.len-end-in-For.result c.len-test.result
    c.args.code.now.items c.open_tested.new.code.items c.emit_if_there.new.code.items
    (reverse c.emit_turn-in-For.new.code.items) (reverse c.emit_if_there-in-For.new.code.items)
    c.in-For.is c.deref-in-For.ensures c.deref-in-For-2.ensures c.deref-in-For-3.ensures c.deref-in-For-4.ensures end
    c.in_ok-open_tested-in-For.ensures.made test c.in_ok-emit_if_there-in-For.ensures.made
    c.in_ok-emit_turn-in-For.ensures)
    c.emit_if_there-in-For.ensures.made
