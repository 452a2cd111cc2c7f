use Rattle.std.proofs.Common.{ap, drop, map}
use Rattle.std.specs.List.{flat_map}
use Rattle.std.proofs.Math.ListN.{drop_of_length-le}
use Rattle.snl_channels.specs.LinkViews.{link_view}
use Rattle.snl_channels.specs.Links.{Link}
use Rattle.snl_load.specs.Places.{named}
use Rattle.snl_load.specs.Sets.{names_in}
use Rattle.snl_load.proofs.Names.{noted_all-ends}
use Rattle.snl_load.proofs.channels.channels_of.Goals as goal

pub returns : goal.returns
returns c =
    let all = c.args.links.now in
    let i = c.loop-link.link-index in
    noted_all-ends (names_in c.loop-link.names) (flat_map (λ (k : Link). named k.name) (map link_view (drop i all))) (flat_map (λ (k : Link). named k.name) (map link_view all))
    (ap (λ ls. flat_map (λ (k : Link). named k.name) (map link_view ls)) (drop_of_length-le all c.loop-link-test.false)) c.loop-link.invariant
