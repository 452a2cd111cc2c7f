use Rattle.std.proofs.Common.{◌≡◌, ◌∙◌, ℕ, List, refl, ap, sym, subst, get_or, rules, ◌<◌, length}
use Rattle.std.proofs.lemmas.Option.{slice_get_read}
use Rattle.snl_schedule.specs.Loaded.{context_for, loaded}
use Rattle.snl_schedule.specs.Plans.{CanRunSet, set_of}
use Rattle.snl_schedule.proofs.OneByOne.{begin-goes_on, begin-stops}
use Rattle.snl_schedule.proofs.Counting.{begins-go_on, begins-stop}
use Rattle.snl_schedule.proofs.starting.begin_sets.Goals as goal

pub begin-requires-clause-runs : goal.begin-requires-clause-runs
begin-requires-clause-runs g c =
    let t = loaded c.args.program.now in
    let sets = t.plan.sets.items in
    let i = c.loop-set.set in
    let s = c.plan-item.result in
    let within : i < length sets = search rules in
    let is : s ≡ get_or sets i s = search rules in
    subst (λ (name : List ℕ). CanRunSet (context_for t i name) t.code s.states.items) (sym c.as_slice.ensures.value)
    (c.requires.runs.sets i s (slice_get_read sets (length sets) i s refl within is))

pub returns-in-Err-clause-does : goal.returns-in-Err-clause-does
returns-in-Err-clause-does g c =
    let t = loaded c.args.program.now in
    let sets = t.plan.sets.items in
    let s = c.plan-item.result in
    let within : c.loop-set.set < length sets = search rules in
    let is : s ≡ get_or sets c.loop-set.set s = search rules in
    let this-is = ap (λ (name : List ℕ). set_of (context_for t c.loop-set.set name) t.code s)
    c.as_slice.ensures.value in
    begin-stops t sets c.loop-set.set s within is _ this-is _ _ _ _ c.loop-set.invariant.on_way c.in-Err.stop _ _ c.in-Err.ensures.does

pub loop-set-preserved : goal.loop-set-preserved
loop-set-preserved g c =
    let t = loaded c.args.program.now in
    let sets = t.plan.sets.items in
    let s = c.plan-item.result in
    let within : c.loop-set.set < length sets = search rules in
    let is : s ≡ get_or sets c.loop-set.set s = search rules in
    let this-is = ap (λ (name : List ℕ). set_of (context_for t c.loop-set.set name) t.code s)
    c.as_slice.ensures.value in
    record {
      on_way = begin-goes_on t sets c.loop-set.set s within is _ this-is _ _ _ _ c.loop-set.invariant.on_way _ _ c.in-Ok.ensures.does;
      count = begins-go_on t sets c.loop-set.set s within is _
          (ap (λ (name : List ℕ). context_for t c.loop-set.set name) c.as_slice.ensures.value)
          _ _ _ c.loop-set.invariant.count _ _ _ _ c.in-Ok.ensures.does c.in-Ok.ensures.steps;
      frame = c.begin.ensures.keeps.frame ∙ c.loop-set.invariant.frame;
      room = c.begin.ensures.keeps.room ∙ c.loop-set.invariant.room;
      none_failed = search rules;
    }

pub returns-in-Err-clause-steps : goal.returns-in-Err-clause-steps
returns-in-Err-clause-steps g c =
    let t = loaded c.args.program.now in
    let sets = t.plan.sets.items in
    let s = c.plan-item.result in
    let within : c.loop-set.set < length sets = search rules in
    let is : s ≡ get_or sets c.loop-set.set s = search rules in
    begins-stop t sets c.loop-set.set s within is _
    (ap (λ (name : List ℕ). context_for t c.loop-set.set name) c.as_slice.ensures.value)
    _ _ _ c.loop-set.invariant.count c.in-Err.stop _ _ _ _ _ _ refl c.in-Err.ensures.does c.in-Err.ensures.steps
