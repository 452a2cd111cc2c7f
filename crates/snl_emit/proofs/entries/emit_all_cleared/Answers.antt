use Rattle.std.proofs.Common.{reverse, arith}
use Rattle.snl_emit.specs.BlockCode.{all_cleared_code}
use Rattle.snl_meaning.specs.Known.{here_of}
use Rattle.snl_emit.proofs.EntryCode.{cleared-append, declaration-more}
use Rattle.snl_emit.proofs.entries.emit_all_cleared.Goals as goal

pub loop-number-preserved : goal.loop-number-preserved
loop-number-preserved c =
    let h = here_of c.args.known.now in
    declaration-more (all_cleared_code h) (cleared-append h) c.args.declarations.now c.loop-number.number c.index-declarations-number.result c.as_slice.result.now
    (reverse c.args.code.now.items) (reverse c.loop-number.code.items) (reverse c.emit_names_cleared.new.code.items)
    c.loop-number-test.true (omega (arith, c.loop-number.auto.number)) c.as_slice.ensures.value
    c.loop-number.invariant c.in_ok-emit_names_cleared.ensures
