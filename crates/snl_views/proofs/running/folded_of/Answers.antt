use Rattle.std.proofs.Common.{◌≡◌, ◌∙◌, ◌+◌, ap, arith, sym}
use Rattle.std.specs.Prelude.{not}
use Rattle.snl_machine.specs.MachineOf.{world_held}
use Rattle.snl_output.specs.Devices.{counted}
use Rattle.snl_trace.specs.Ends.{sink_failed}
use Rattle.snl_views.proofs.RunAnswers.{failed-once, runs-like-as}
use Rattle.snl_views.proofs.running.folded_of.Goals as goal

pub returns-clause-runs : goal.returns-clause-runs
returns-clause-runs g c =
    let first = ap g.W.Sink.told c.in_ok-folder.ensures.witness in
    let last = sym (ap g.W.Sink.told c.into_parts.ensures.witness ∙ c.finished-is_whole.ensures.told) in
    let trace = c.in_ok-ran.ran.trace in
    runs-like-as c.args.stage.now.prepared c.notes_of.new.stage.prepared (world_held c.ran_over.new.machine) (g.R.Source.gave trace) (g.R.Source.ended trace) _ _ _ _ c.in_ok-ran.ran.end
    c.in_ok-notes.ensures first last c.in_ok-ran.ensures.means

pub returns-clause-folded : goal.returns-clause-folded
returns-clause-folded g c = λ whole run output was now.
    c.finished-is_whole.ensures.folded whole run output (sym (ap g.W.Sink.told c.into_parts.ensures.witness) ∙ was) (sym (ap g.K.Sink.told c.into_parts.ensures.inner) ∙ now)

pub returns-clause-counted : goal.returns-clause-counted
returns-clause-counted g c =
    let whole = c.finished-is_whole.result in
    let folder = c.finished-is_whole.new.folder in
    let first : g.K.Sink.failures c.in_ok-folder.folder.inner + (g.W.Sink.failures c.in_ok-folder.folder.witness + c.in_ok-folder.folder.refused)
    ≡ g.K.Sink.failures c.args.sink + g.W.Sink.failures c.args.witness =
    omega (arith, ap g.K.Sink.failures c.in_ok-folder.ensures.inner, ap g.W.Sink.failures c.in_ok-folder.ensures.witness, c.in_ok-folder.ensures.refused) in
    let none : folder.refused ≡ 0 = c.is_faithful-is_faithful.ensures.0 c.if-not-is_faithful.false in
    let once = failed-once (sink_failed c.in_ok-ran.ran.end) whole _ _ _ c.finished-is_whole.ensures.failed c.in_ok-ran.ensures.failures c.finished-is_whole.ensures.stays
    c.finished-is_whole.ensures.counted in
    let last : g.K.Sink.failures c.into_parts.result.0 + g.W.Sink.failures c.into_parts.result.1
    ≡ g.K.Sink.failures folder.inner + (g.W.Sink.failures folder.witness + folder.refused) =
    omega (arith, ap g.K.Sink.failures c.into_parts.ensures.inner, ap g.W.Sink.failures c.into_parts.ensures.witness, none) in
    last ∙ once ∙ ap (counted (not whole)) first
