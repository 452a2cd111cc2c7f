use Rattle.std.proofs.Common.{◌≡◌, List, ℕ, subst, sym}
use Rattle.std.proofs.lemmas.Result.{IfOk-weaker}
use Rattle.snc.specs.Answered.{macros_in}
use Rattle.snl_moments.specs.Loaded.{IsSubjectFrom}
use Rattle.snl_moments.specs.declared.subject.Subject.{Subject}
use Rattle.snl_syntax.specs.view.Programs.{program_view}
use Rattle.snl_scenes.specs.Staged.{IsSubjectOf}
use Rattle.snl_scenes.proofs.loader.boxed_subject.Goals as goal

-- the program is loaded with the macros of the job
pub returns : goal.returns
returns c =
    let whole = program_view c.args.checked.now.program in
    let macros = macros_in c.args.job.now in
    let budget = c.args.job.now.budget in
    let options = c.args.checked.now.options in
    let subject = c.in_ok-subject.subject in
    let made = subst (λ (t : List ℕ). IsSubjectFrom c.args.checked.now t budget subject) c.macros_of-macros.ensures c.in_ok-subject.ensures in
    let right : IsSubjectOf macros budget whole options subject = record { machine = made.machine; spares = made.spares; untold = made.untold } in
    IfOk-weaker c.boxed.result (λ found. found.value ≡ subject) (λ found. IsSubjectOf macros budget whole options found.value)
    (λ found is. subst (λ (s : Subject). IsSubjectOf macros budget whole options s) (sym is) right) c.boxed.ensures
