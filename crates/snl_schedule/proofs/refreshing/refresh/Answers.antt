use Rattle.std.proofs.Common.{◌∙◌, ◌+◌, ap, sym, drop, List, slice_get}
use Rattle.snl_meaning.specs.declared.ties.Tied.{Tied}
use Rattle.snl_meaning.specs.Links.{home_of}
use Rattle.snl_meaning.specs.World.{World}
use Rattle.snl_vm.specs.Views.{world_of}
use Rattle.snl_schedule.specs.Refresh.{refreshed_from}
use Rattle.snl_schedule.proofs.Rows.{nothing_left, none_left, one_left, copied_ties}
use Rattle.snl_schedule.proofs.refreshing.refresh.Goals as goal

pub returns-in-None : goal.returns-in-None
returns-in-None c =
    let ts = c.args.store.now.ties.items in
    let i = c.loop-link.invariant in
    let none = ap (λ (all : List Tied). slice_get all c.in-Some.link) (sym i.1) ∙ c.tie.ensures ∙ c.in-None.is in
    sym (none_left c.args.set c.loop-link.from ts (world_of c.loop-link.store) c.in-Some.link c.in-Some.ensures none) ∙ i.0

pub loop-link-preserved : goal.loop-link-preserved
loop-link-preserved c =
    let ts = c.args.store.now.ties.items in
    let link = c.in-Some.link in
    let t = c.in-Some-tie.tie in
    let w = world_of c.loop-link.store in
    let i = c.loop-link.invariant in
    let at = ap (λ (all : List Tied). slice_get all link) (sym i.1) ∙ c.tie.ensures ∙ c.in-Some-tie.is in (
      ap (λ v. refreshed_from c.args.set (link + 1) (drop (link + 1) ts) v) c.take_in.ensures
          ∙ one_left c.args.set c.loop-link.from ts w link c.in-Some.ensures t at ∙ i.0,
      ap (λ (v : World). v.ties) c.take_in.ensures ∙ copied_ties c.args.set (home_of c.args.set link w) t w ∙ i.1,
    )

pub returns : goal.returns
returns c =
    let i = c.loop-link.invariant in
    sym (nothing_left c.args.set c.loop-link.from c.args.store.now.ties.items (world_of c.loop-link.store) c.in_default.ensures) ∙ i.0
