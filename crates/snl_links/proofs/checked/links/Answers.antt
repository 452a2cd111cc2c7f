use Rattle.std.proofs.Common.{◌≡◌, map, subst}
use Rattle.std.specs.Prelude.{IfOk}
use Rattle.snl_syntax.specs.view.Programs.{program_view}
use Rattle.snl_channels.specs.LinkViews.{link_view}
use Rattle.snl_channels.specs.Links.{links}
use Rattle.snl_links.proofs.checked.links.Goals as goal

-- the links of the tree that was checked
pub returns : goal.returns
returns c =
    subst (λ p. IfOk c.links_of.result (λ all. map link_view all.items ≡ links (program_view p) c.args.macros.now.text.now)) c.program.ensures.tree c.links_of.ensures
