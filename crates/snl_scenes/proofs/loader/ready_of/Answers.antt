use Rattle.std.proofs.Common.{ℕ, List, IfSome, Option, None, Some, Box, Global, string_bytes}
use Rattle.snc.specs.Answered.{IsAnswered, macros_in}
use Rattle.snl_moments.specs.Loaded.{IsUntold}
use Rattle.snl_names.specs.declared.options.Options.{Options}
use Rattle.snl_scenes.specs.Staged.{IsBoxedScene}
use Rattle.snl_scenes.specs.declared.loader.Scene.{Scene}
use Rattle.snl_scenes.proofs.loader.ready_of.Goals as goal

-- nothing is told yet of what is answered
untold : (given : Options) (word macros source text : List ℕ) (budget : ℕ) (made : Option (Box Scene Global)) →
    IsAnswered (IsBoxedScene macros budget) given word source text made → IfSome made (λ scene. IsUntold scene.value.subject.value)
untold given word macros source text budget None w = tt
untold given word macros source text budget (Some scene) w = w.says.1.1.1.untold

-- so it is with the answer
pub returns-clause-untold : goal.returns-clause-untold
returns-clause-untold c =
    let job = c.args.job.now in
    let answered = c.in_ok-answered.answered in
    untold job.options (string_bytes job.file) (macros_in job) c.args.source.now answered.messages.items job.budget answered.made c.in_ok-answered.ensures
