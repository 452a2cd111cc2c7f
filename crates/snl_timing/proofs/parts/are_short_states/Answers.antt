use Rattle.std.proofs.Common.{Option, ℕ, map, refl, rules, subst}
use Rattle.std.proofs.lemmas.Option.{slice_get_read}
use Rattle.snl_alike.specs.Delays.{DelaysInState, DelaysInStates, IsShort, longest_in}
use Rattle.snl_syntax.specs.view.Programs.{state_view}
use Rattle.snl_timing.proofs.Steps.{all-from, one-from}
use Rattle.snl_timing.proofs.parts.are_short_states.Goals as goal

pub loop-number-preserved : goal.loop-number-preserved
loop-number-preserved c =
    let states = c.args.states.now in
    let it = c.index-states-number.result in
    let n = c.loop-number.number in
    one-from (λ k l. DelaysInStates (λ state. IsShort (longest_in c.args.longests.now state)) k (map state_view l)) states n it c.loop-number-test.true
    (slice_get_read states _ n it refl c.loop-number-test.true (search rules)) c.loop-number.invariant
    (λ rest more. (
      subst (λ (o : Option ℕ). DelaysInState (IsShort o) (state_view it)) c.longest_in-longest.ensures (c.is_short_state_by.ensures c.if-not-is_short_state_by.false),
      more,
    ))

pub returns : goal.returns
returns c = λ yes.
    all-from (λ k l. DelaysInStates (λ state. IsShort (longest_in c.args.longests.now state)) k (map state_view l)) c.args.states.now
    c.loop-number.number tt c.loop-number-test.false c.loop-number.invariant
