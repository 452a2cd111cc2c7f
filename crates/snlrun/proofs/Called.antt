-- A session on streams that were fresh is a call.
use Rattle.std.proofs.Common.{◌≡◌, ◌∙◌, ◌++◌, ℕ, Bool, List, [], Option, None, Some, ap, subst, sym}
use Rattle.snl_syntax.specs.Programs.{ProgramTree}
use Rattle.snl_channels.specs.Links.{links}
use Rattle.snl_names.specs.declared.options.Options.{Options}
use Rattle.snl_messages.specs.Messages.{Said}
use Rattle.snl_messages.specs.Silence.{options_in_force}
use Rattle.snl_check.specs.Waits.{waits}
use Rattle.snl_load.specs.First.{first_world_of}
use Rattle.snl_machine.specs.MachineOf.{task_of}
use Rattle.snl_meaning.specs.World.{World}
use Rattle.snl_trace.specs.Run.{Rules, rules_by}
use Rattle.snl_trace.specs.RunOver.{RunsOn, RunsOver}
use Rattle.snl_trace.specs.declared.runner.End.{End}
use Rattle.snc.specs.Outcomes.{GoesOn, IsSession, at_first}
use Rattle.snc.specs.declared.jobs.Status.{Status}
use Rattle.snlrun.specs.Calls.{Goes, IsCall}

-- what came is what was given, where nothing was given before
fresh-run : (rules : Rules) (e : End) (old new : List ℕ) (ended : Bool) (first w : World) (before : List ℕ) (told : Option (List ℕ)) → old ≡ [] → before ≡ [] →
    RunsOn rules e old new ended (at_first first (Some before)) w told → RunsOver rules e new ended (at_first first (Some [])) w told
fresh-run rules e old new ended first w before told none unwritten ran =
    let came : ran.came ≡ new = sym (ran.gave ∙ ap (λ z. z ++ ran.came) none) in
    subst (λ (b : List ℕ). RunsOver rules e new ended (at_first first (Some b)) w told) unwritten
    (subst (λ (z : List ℕ). RunsOver rules e z ended (at_first first (Some before)) w told) came ran.over)

module _ {R S : Type 0} (gave : R → List ℕ) (ended : R → Bool) (source_failures : R → ℕ) (took : S → List ℕ) (sink_failures : S → ℕ)
    (given : Options) (word macros source : List ℕ) (budget : ℕ) (trace trace' : R) (sink sink' : S) (text : List ℕ) (status : Status) (unread : gave trace ≡ []) (unwritten : took sink ≡ []) where
  goes : (messages : List Said) (tree : Option ProgramTree) (end : Option End) →
      GoesOn gave ended source_failures (λ s. Some (took s)) sink_failures given macros messages tree budget trace trace' sink sink' end status →
      Goes given macros messages tree budget (gave trace') (ended trace') (took sink') end status
  goes messages tree None on = (on.0, on.1, ap gave on.2 ∙ unread, ap took on.3 ∙ unwritten)
  goes messages tree (Some e) on =
      let ls = links on.2.whole macros in (
        on.0,
        on.1,
        record {
          whole = on.2.whole;
          tree_is = on.2.tree_is;
          world = on.2.run.world;
          ran = fresh-run (rules_by (task_of on.2.whole ls (waits (options_in_force on.2.whole given))) budget) e (gave trace) (gave trace') (ended trace')
              (first_world_of on.2.whole ls) on.2.run.world (took sink) (Some (took sink')) unread unwritten on.2.run.ran;
        },
      )

  pub is-call : (end : Option End) →
      IsSession gave ended source_failures (λ s. Some (took s)) sink_failures given word macros source budget trace trace' sink sink' text end status →
      IsCall given word macros source budget (gave trace') (ended trace') (took sink') text end status
  is-call end s = record {
    names = s.names;
    messages = s.messages;
    tree = s.tree;
    finds = s.finds;
    text_is = s.text_is;
    goes = goes s.messages s.tree end s.goes_on;
  }
