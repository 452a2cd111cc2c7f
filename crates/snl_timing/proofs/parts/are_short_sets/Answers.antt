use Rattle.std.proofs.Common.{ℕ, List, Option, map, refl, rules, subst}
use Rattle.std.proofs.lemmas.Option.{slice_get_read}
use Rattle.snl_alike.specs.Delays.{DelaysInSets, DelaysInStates, IsShort, longest_in, longests_of}
use Rattle.snl_alike.specs.Timing.{longests_in}
use Rattle.snl_syntax.specs.declared.programs.State.{State}
use Rattle.snl_syntax.specs.view.Programs.{state_set_view, state_view}
use Rattle.snl_timing.proofs.Steps.{all-from, one-from}
use Rattle.snl_timing.proofs.parts.are_short_sets.Goals as goal

pub loop-number-preserved : goal.loop-number-preserved
loop-number-preserved c =
    let sets = c.args.sets.now in
    let it = c.index-sets-number.result in
    let n = c.loop-number.number in
    one-from (λ k l. DelaysInSets (λ set state. IsShort (longest_in (longests_of (longests_in c.args.table.now) set) state)) k (map state_set_view l)) sets n it c.loop-number-test.true
    (slice_get_read sets _ n it refl c.loop-number-test.true (search rules)) c.loop-number.invariant
    (λ rest more. (
      subst (λ (ls : List (Option ℕ)). DelaysInStates (λ state. IsShort (longest_in ls state)) 0 (map state_view it.states.items)) c.longests_of-longests.ensures
          (subst (λ (l : List State). DelaysInStates (λ state. IsShort (longest_in c.longests_of-longests.result.now state)) 0 (map state_view l)) c.as_slice.ensures.value
          (c.are_short_states.ensures c.if-not-are_short_states.false)),
      more,
    ))

pub returns : goal.returns
returns c = λ yes.
    all-from (λ k l. DelaysInSets (λ set state. IsShort (longest_in (longests_of (longests_in c.args.table.now) set) state)) k (map state_set_view l)) c.args.sets.now
    c.loop-number.number tt c.loop-number-test.false c.loop-number.invariant
