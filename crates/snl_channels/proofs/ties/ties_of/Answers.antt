use Rattle.std.proofs.Common.{◌≡◌, ◌∙◌, ◌++◌, List, ap, map, subst}
use Rattle.std.specs.Prelude.{IfOk}
use Rattle.snl_syntax.specs.view.Programs.{program_view}
use Rattle.snl_channels.specs.LinkViews.{said_view}
use Rattle.snl_channels.specs.Links.{Said, said_in_program, ties_among}
use Rattle.snl_channels.proofs.ties.ties_of.Goals as goal

-- the definitions are those of the program
pub returns : goal.returns
returns c =
    let p = program_view c.args.program.now in
    subst (λ (l : List Said). IfOk c.ties_among.result (λ ties. ties.items ≡ ties_among l))
    (ap (map said_view) c.as_slice-all.ensures.value ∙ c.in_ok-push_said.ensures ∙ ap (λ l. map said_view l ++ said_in_program p) c.new-all.ensures.items)
    c.ties_among.ensures
