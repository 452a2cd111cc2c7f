use Rattle.snl_schedule.specs.Loaded.{context_for, loaded}
use Rattle.std.proofs.Common.{◌≡◌, ◌∙◌, ℕ, List, refl, ap, sym, subst, get_or, rules, ◌<◌, length}
use Rattle.std.proofs.lemmas.Option.{slice_get_read}
use Rattle.snl_schedule.specs.Plans.{CanRunSet, set_of}
use Rattle.snl_schedule.proofs.OneByOne.{turn-goes_on, turn-exits, turn-stops}
use Rattle.snl_schedule.proofs.Counting.{turns-go_on, turns-exit, turns-stop}
use Rattle.snl_schedule.proofs.instants.round.Goals as goal

pub turn-requires-clause-runs : goal.turn-requires-clause-runs
turn-requires-clause-runs g c =
    let t = loaded c.args.program.now in
    let sets = t.plan.sets.items in
    let i = c.loop-set.set in
    let s = c.plan-item.result in
    let within : i < length sets = search rules in
    let is : s ≡ get_or sets i s = search rules in
    subst (λ (name : List ℕ). CanRunSet (context_for t i name) t.code s.states.items) (sym c.as_slice.ensures.value)
    (c.requires.runs.sets i s (slice_get_read sets (length sets) i s refl within is))

pub returns-in-Err-clause-does : goal.returns-in-Err-clause-does
returns-in-Err-clause-does g c =
    let t = loaded c.args.program.now in
    let sets = t.plan.sets.items in
    let s = c.plan-item.result in
    let within : c.loop-set.set < length sets = search rules in
    let is : s ≡ get_or sets c.loop-set.set s = search rules in
    let this-is = ap (λ (name : List ℕ). set_of (context_for t c.loop-set.set name) t.code s)
    c.as_slice.ensures.value in
    turn-stops t sets c.loop-set.set c.loop-set.before s within is _ this-is _ _ _ _ c.loop-set.invariant.on_way c.in-Err.stop _ _ c.in-Err.ensures.does

pub returns-then-is_exit-clause-does : goal.returns-then-is_exit-clause-does
returns-then-is_exit-clause-does g c =
    let t = loaded c.args.program.now in
    let sets = t.plan.sets.items in
    let s = c.plan-item.result in
    let within : c.loop-set.set < length sets = search rules in
    let is : s ≡ get_or sets c.loop-set.set s = search rules in
    let this-is = ap (λ (name : List ℕ). set_of (context_for t c.loop-set.set name) t.code s)
    c.as_slice.ensures.value in
    turn-exits t sets c.loop-set.set c.loop-set.before s within is _ this-is _ _ _ _ c.loop-set.invariant.on_way _ _ c.in-Ok.turned c.later-before.result c.later-before.ensures
    (sym c.is_exit.ensures ∙ c.if-is_exit.true) c.in-Ok.ensures.does

pub loop-set-preserved : goal.loop-set-preserved
loop-set-preserved g c =
    let t = loaded c.args.program.now in
    let sets = t.plan.sets.items in
    let s = c.plan-item.result in
    let within : c.loop-set.set < length sets = search rules in
    let is : s ≡ get_or sets c.loop-set.set s = search rules in
    let this-is = ap (λ (name : List ℕ). set_of (context_for t c.loop-set.set name) t.code s)
    c.as_slice.ensures.value in
    record {
      on_way = turn-goes_on t sets c.loop-set.set c.loop-set.before s within is _ this-is _ _ _ _ c.loop-set.invariant.on_way _ _ c.in-Ok.turned c.later-before.result c.later-before.ensures
          (sym c.is_exit.ensures ∙ c.if-is_exit.false) c.in-Ok.ensures.does;
      count = turns-go_on t sets c.loop-set.set c.loop-set.before s within is _
          (ap (λ (name : List ℕ). context_for t c.loop-set.set name) c.as_slice.ensures.value)
          _ _ _ c.loop-set.invariant.count c.in-Ok.turned c.later-before.result _ _ _ _ c.later-before.ensures
          (sym c.is_exit.ensures ∙ c.if-is_exit.false) c.in-Ok.ensures.does c.in-Ok.ensures.steps;
      frame = c.turn.ensures.keeps.frame ∙ c.loop-set.invariant.frame;
      room = c.turn.ensures.keeps.room ∙ c.loop-set.invariant.room;
      none_failed = search rules;
    }

pub returns-in-Err-clause-steps : goal.returns-in-Err-clause-steps
returns-in-Err-clause-steps g c =
    let t = loaded c.args.program.now in
    let sets = t.plan.sets.items in
    let s = c.plan-item.result in
    let within : c.loop-set.set < length sets = search rules in
    let is : s ≡ get_or sets c.loop-set.set s = search rules in
    turns-stop t sets c.loop-set.set c.loop-set.before s within is _
    (ap (λ (name : List ℕ). context_for t c.loop-set.set name) c.as_slice.ensures.value)
    _ _ _ c.loop-set.invariant.count c.in-Err.stop _ _ _ _ _ _ refl c.in-Err.ensures.does c.in-Err.ensures.steps

pub returns-then-is_exit-clause-steps : goal.returns-then-is_exit-clause-steps
returns-then-is_exit-clause-steps g c =
    let t = loaded c.args.program.now in
    let sets = t.plan.sets.items in
    let s = c.plan-item.result in
    let within : c.loop-set.set < length sets = search rules in
    let is : s ≡ get_or sets c.loop-set.set s = search rules in
    turns-exit t sets c.loop-set.set c.loop-set.before s within is _
    (ap (λ (name : List ℕ). context_for t c.loop-set.set name) c.as_slice.ensures.value)
    _ _ _ c.loop-set.invariant.count c.in-Ok.turned c.later-before.result _ _ _ _ c.later-before.ensures
    (sym c.is_exit.ensures ∙ c.if-is_exit.true) c.in-Ok.ensures.does c.in-Ok.ensures.steps
