use Rattle.std.proofs.Common.{map}
use Rattle.std.proofs.lemmas.Result.{IfOk-weaker}
use Rattle.snl_channels.specs.LinkViews.{link_view}
use Rattle.snl_flat.specs.Copies.{sets_of, variables_in}
use Rattle.snl_load.specs.Places.{homes_in}
use Rattle.snl_load.specs.Sets.{names_in}
use Rattle.snl_moments.proofs.LoadLaws.{rooms-first}
use Rattle.snl_syntax.specs.view.Programs.{program_view}
use Rattle.snl_moments.proofs.subject.spares_of.Goals as goal

pub returns : goal.returns
returns c =
    let ls = map link_view c.args.links.now in
    let parts = c.in_ok-parts.parts in
    let known = c.in_ok-parts.ensures in
    IfOk-weaker c.spares_by.result _ _
    (λ all h. rooms-first (program_view c.args.program.now) ls (sets_of parts.copies.held.items) (variables_in parts.copies.shared) parts.flags (names_in parts.names)
    (homes_in parts.copies.places.items ls) all.items known.held known.shared known.flags known.names h)
    c.spares_by.ensures
