use Rattle.std.proofs.Common.{refl}
use Rattle.std.specs.List.{flat_map}
use Rattle.snl_channels.specs.Tables.{channel_line}
use Rattle.snl_channels.proofs.AppendLaws.{row_begun_at, on_err}
use Rattle.snl_channels.proofs.listing.put_channels.Goals as goal

pub returns-in_err-put_channel-clause-begun : goal.returns-in_err-put_channel-clause-begun
returns-in_err-put_channel-clause-begun c =
    on_err c.from_residual.result
    (row_begun_at (λ k t. channel_line t) (λ k ts. flat_map channel_line ts) (λ k x xs. refl) c.args.ties.now c.loop-tie.tie-index _
    c.args.out.now.items c.loop-tie.out.items c.put_channel.new.out.items _
    c.loop-tie-test.true c.loop-tie.invariant c.in_err-put_channel.ensures.begun)
