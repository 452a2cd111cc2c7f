-- From what the other words tell to what is said of all of them.
use Rattle.std.proofs.Common.{◌≡◌, ◌∙◌, List, [], None, subst}
use Rattle.std.specs.Prelude.{Err, IfErr, IfOk, Ok, Result}
use Rattle.clap.specs.Words.{Text, fault_of, matches_of}
use Rattle.snl_names.specs.declared.options.Options.{Options}
use Rattle.snc_args.specs.Commands.{command_of}
use Rattle.snc_args.specs.Options.{first_refused, options_among, options_in_force, rest_words}
use Rattle.snc_args.specs.Reads.{FailsBy, FailsOn, ReadsMatches, ReadsTo}
use Rattle.snc_args.specs.declared.words.Job.{Job}
use Rattle.snc_args.specs.declared.words.Tool.{Tool}
use Rattle.snc_args.specs.declared.words.WordsFault.{WordsFault}
use Rattle.snc_args.specs.declared.words.WordsFault.TheVariants as fault

-- Where no option is refused, a job that the other words tell, with the options in force, is the job of all words.
pub made : (tool : Tool) (ws rest : List Text) (o : Options) (r : Result Job WordsFault) → first_refused (options_among ws) ≡ None
    → o ≡ options_in_force (options_among ws) → rest ≡ rest_words ws
    → IfOk r (λ _. fault_of (command_of tool) rest ≡ []) → IfOk r (λ job. job.options ≡ o)
    → IfOk r (ReadsMatches tool (matches_of (command_of tool) rest)) → IfOk r (ReadsTo tool ws)
made tool ws rest o (Err e) none in_force is faultless options rows = tt
made tool ws rest o (Ok job) none in_force is faultless options rows = record {
  supported = none;
  faultless = subst (λ (w : List Text). fault_of (command_of tool) w ≡ []) is faultless;
  options = options ∙ in_force;
  matches = subst (λ (w : List Text). ReadsMatches tool (matches_of (command_of tool) w) job) is rows;
}

-- Where no option is refused, a fault of the other words is the fault of all words.
pub failed : (tool : Tool) (ws rest : List Text) (r : Result Job WordsFault) → first_refused (options_among ws) ≡ None → rest ≡ rest_words ws
    → IfErr r (FailsBy (fault_of (command_of tool) rest)) → IfErr r (FailsOn tool ws)
failed tool ws rest (Ok job) none is fails = tt
failed tool ws rest (Err fault.Memory) none is fails = tt
failed tool ws rest (Err (fault.Help text)) none is fails =
    (none, subst (λ (w : List Text). FailsBy (fault_of (command_of tool) w) (fault.Help text)) is fails)
failed tool ws rest (Err (fault.Usage text)) none is fails =
    (none, subst (λ (w : List Text). FailsBy (fault_of (command_of tool) w) (fault.Usage text)) is fails)
failed tool ws rest (Err (fault.BadOption sign character)) none is fails = absurd fails.2
