use Rattle.std.proofs.Common.{◌≡◌, ◌∙◌, ◌+◌, ap, arith, sym}
use Rattle.std.specs.Prelude.{not}
use Rattle.snl_machine.specs.MachineOf.{world_held}
use Rattle.snl_output.specs.Devices.{counted}
use Rattle.snl_trace.specs.Ends.{sink_failed}
use Rattle.snl_watch.specs.Extra.{shown}
use Rattle.snl_views.proofs.RunAnswers.{failed-once, runs-like-as}
use Rattle.snl_views.proofs.running.whole_of.Goals as goal

pub returns-clause-runs : goal.returns-clause-runs
returns-clause-runs g c =
    let first = ap (λ k. shown (g.K.Sink.told k)) c.new-teller.ensures.inner in
    let last = sym (ap (λ k. shown (g.K.Sink.told k)) c.into_inner.ensures ∙ c.summed-is_whole.ensures.told) in
    let trace = c.in_ok-ran.ran.trace in
    runs-like-as c.args.stage.now.prepared c.notes_of.new.stage.prepared (world_held c.ran_over.new.machine) (g.R.Source.gave trace) (g.R.Source.ended trace) _ _ _ _ c.in_ok-ran.ran.end
    c.in_ok-notes.ensures first last c.in_ok-ran.ensures.means

pub returns-clause-counted : goal.returns-clause-counted
returns-clause-counted g c =
    let failures = g.K.Sink.failures in
    let whole = c.summed-is_whole.result in
    let first : failures c.new-teller.result.inner + c.new-teller.result.refused ≡ failures c.args.sink =
    omega (arith, ap failures c.new-teller.ensures.inner, c.new-teller.ensures.refused) in
    let none : c.summed-is_whole.new.teller.refused ≡ 0 = c.is_faithful-is_faithful.ensures.0 c.if-not-is_faithful.false in
    let once = failed-once (sink_failed c.in_ok-ran.ran.end) whole _ _ _ c.summed-is_whole.ensures.failed c.in_ok-ran.ensures.failures c.summed-is_whole.ensures.stays
    c.summed-is_whole.ensures.counted in
    let last : failures c.summed-is_whole.new.teller.inner + c.summed-is_whole.new.teller.refused ≡ failures c.summed-is_whole.new.teller.inner = omega (arith, none) in
    ap failures c.into_inner.ensures ∙ sym last ∙ once ∙ ap (counted (not whole)) first
