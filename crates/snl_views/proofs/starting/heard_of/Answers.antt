use Rattle.std.proofs.Common.{◌∙◌, [], Some, ap, subst, sym}
use Rattle.snl_machine.specs.MachineOf.{task_of, world_held}
use Rattle.snl_trace.specs.Run.{rules_by}
use Rattle.snl_trace.specs.RunOver.{standing}
use Rattle.snl_watch.specs.Window.{window}
use Rattle.snc.specs.Runs.{EndsAt}
use Rattle.snl_views.proofs.ByLines.{by-line-on}
use Rattle.snl_views.proofs.starting.heard_of.Goals as goal

-- what was handed on and what is held are all that the trace gave
pub returns-clause-means : goal.returns-clause-means
returns-clause-means g c = λ p ls waits budget is.
    let before = c.new-listener.result.inner in
    let lines = c.run-end.new.source.inner in
    let fresh = ap (λ l. l.past.bytes) c.new-listener.ensures.inner ∙ c.in_ok-lines.ensures.past in
    let back = c.into_inner-trace.ensures ∙ ap (λ l. l.inner) c.into_parts-lines.ensures.inner in
    subst (λ t. EndsAt p ls waits budget (world_held c.args.machine.now) (g.R.Source.gave t) (g.R.Source.ended t) (Some []) (Some []) c.run-end.result (world_held c.run-end.new.machine)) (sym back)
    (by-line-on (rules_by (task_of p ls waits) budget) c.run-end.result before.past.bytes lines.past.bytes (window lines.held) (g.R.Source.gave lines.inner) lines.said
    (g.R.Source.ended lines.inner) lines.is_broken (standing [] 1 c.args.machine.now (Some [])) (world_held c.run-end.new.machine) (Some []) fresh lines.gave lines.empty (λ s. lines.over (lines.last s))
    c.run-end.ensures.broke lines.partial (c.run-end.ensures.means p ls waits budget is))
