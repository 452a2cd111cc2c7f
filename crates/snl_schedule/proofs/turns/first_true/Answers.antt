use Rattle.std.proofs.Common.{◌∙◌, Bool, Option, arith, map, refl}
use Rattle.std.proofs.lemmas.Option.{slice_get-get_or}
use Rattle.snl_output.proofs.Doing.{on_way-start}
use Rattle.snl_vm.specs.Views.{world_of}
use Rattle.snl_schedule.specs.declared.plans.ClausePlan.{ClausePlan}
use Rattle.snl_schedule.specs.Turn.{chosen}
use Rattle.snl_schedule.specs.Plans.{clause_of, clause_by, context_on}
use Rattle.snl_schedule.proofs.Choices.{goes_on, chooses, stops, none-holds}
use Rattle.snl_schedule.proofs.Counting.{count-goes_on, count-chooses, count-stops, count-none}
use Rattle.snl_schedule.proofs.Kept.{failed-passed}
use Rattle.snl_schedule.proofs.turns.first_true.Goals as goal

pub loop-clause-init : goal.loop-clause-init
loop-clause-init g c =
    let f = clause_of (context_on c.args.state_set.now) c.args.state_set.now.code.now in
    record {
      on_way = on_way-start (g.S.Sink.told c.args.sink.now) (chosen (map f c.args.clauses.now) (world_of c.args.memory.now.store));
      count = λ fire. refl;
      frame = refl;
      room = refl;
      none_failed = refl;
    }

pub holds-requires-clause-ready : goal.holds-requires-clause-ready
holds-requires-clause-ready g c = record {
  room = c.loop-clause.invariant.room ∙ c.requires.ready.room;
  failures = rw c.loop-clause.invariant.none_failed c.requires.ready.failures;
}

pub holds-requires-clause-runs : goal.holds-requires-clause-runs
holds-requires-clause-runs g c =
    (c.requires.runs c.loop-clause.clause-index _ (slice_get-get_or c.args.clauses.now c.loop-clause.clause-index _ c.loop-clause-test.true)).condition

pub holds-requires-clause-tested : goal.holds-requires-clause-tested
holds-requires-clause-tested g c =
    (c.requires.runs c.loop-clause.clause-index _ (slice_get-get_or c.args.clauses.now c.loop-clause.clause-index _ c.loop-clause-test.true)).tested

pub returns-in-Ok-true-clause-runs : goal.returns-in-Ok-true-clause-runs
returns-in-Ok-true-clause-runs g c =
    c.requires.runs c.loop-clause.clause-index _ (slice_get-get_or c.args.clauses.now c.loop-clause.clause-index _ c.loop-clause-test.true)

pub returns-in-Ok-true-clause-does : goal.returns-in-Ok-true-clause-does
returns-in-Ok-true-clause-does g c =
    let f = clause_of (context_on c.args.state_set.now) c.args.state_set.now.code.now in
    chooses f c.args.clauses.now c.loop-clause.clause-index _ c.loop-clause-test.true _ _ _ _ c.loop-clause.invariant.on_way _ _ (rw c.in-Ok-true.field-0-test at c.in-Ok-true.ensures.does)

pub returns-in-Err-clause-does : goal.returns-in-Err-clause-does
returns-in-Err-clause-does g c =
    let f = clause_of (context_on c.args.state_set.now) c.args.state_set.now.code.now in
    stops f c.args.clauses.now c.loop-clause.clause-index _ c.loop-clause-test.true _ _ _ _ c.loop-clause.invariant.on_way
    (clause_by (context_on c.args.state_set.now) c.args.state_set.now.code.now) c.in-Err.stop _ _ c.in-Err.ensures.does

pub loop-clause-preserved : goal.loop-clause-preserved
loop-clause-preserved g c =
    let f = clause_of (context_on c.args.state_set.now) c.args.state_set.now.code.now in
    record {
      on_way = goes_on f c.args.clauses.now c.loop-clause.clause-index _ c.loop-clause-test.true _ _ _ _ c.loop-clause.invariant.on_way _ _
          (rw c.in-Ok-false.field-0-test at c.in-Ok-false.ensures.does);
      count = λ fire.
          let t = c.args.state_set.now in
          count-goes_on (context_on t) t.code.now fire c.args.clauses.now c.loop-clause.clause-index _ c.loop-clause-test.true _ _ _ (c.loop-clause.invariant.count fire) _ _ _ _
          (rw c.in-Ok-false.field-0-test at c.in-Ok-false.ensures.does) c.in-Ok-false.ensures.steps;
      frame = c.holds.ensures.keeps.frame ∙ c.loop-clause.invariant.frame;
      room = c.holds.ensures.keeps.room ∙ c.loop-clause.invariant.room;
      none_failed = c.in-Ok-false.ensures.keeps.failures ∙ c.loop-clause.invariant.none_failed;
    }

pub returns-in-Ok-true-clause-steps : goal.returns-in-Ok-true-clause-steps
returns-in-Ok-true-clause-steps g c = λ fire.
    let t = c.args.state_set.now in
    count-chooses (context_on t) t.code.now fire c.args.clauses.now c.loop-clause.clause-index _ c.loop-clause-test.true _ _ _ (c.loop-clause.invariant.count fire) _ _ _ _
    (rw c.in-Ok-true.field-0-test at c.in-Ok-true.ensures.does) c.in-Ok-true.ensures.steps

pub returns-in-Err-clause-steps : goal.returns-in-Err-clause-steps
returns-in-Err-clause-steps g c = λ fire.
    let t = c.args.state_set.now in
    count-stops (context_on t) t.code.now fire c.args.clauses.now c.loop-clause.clause-index _ c.loop-clause-test.true _ _ _ (c.loop-clause.invariant.count fire) c.in-Err.stop _ _ _ _ _ _ refl
    c.in-Err.ensures.does c.in-Err.ensures.steps

pub returns-in-Ok-true-clause-keeps : goal.returns-in-Ok-true-clause-keeps
returns-in-Ok-true-clause-keeps g c = record {
  frame = c.holds.ensures.keeps.frame ∙ c.loop-clause.invariant.frame;
  room = c.holds.ensures.keeps.room ∙ c.loop-clause.invariant.room;
  failures = c.in-Ok-true.ensures.keeps.failures ∙ c.loop-clause.invariant.none_failed;
}

pub returns-in-Err-clause-keeps : goal.returns-in-Err-clause-keeps
returns-in-Err-clause-keeps g c = record {
  frame = c.holds.ensures.keeps.frame ∙ c.loop-clause.invariant.frame;
  room = c.holds.ensures.keeps.room ∙ c.loop-clause.invariant.room;
  failures = failed-passed Bool (Option ClausePlan) c.in-Err.stop _ _ _ c.loop-clause.invariant.none_failed c.in-Err.ensures.keeps.failures;
}

pub returns-clause-does : goal.returns-clause-does
returns-clause-does g c =
    let f = clause_of (context_on c.args.state_set.now) c.args.state_set.now.code.now in
    none-holds f c.args.clauses.now c.loop-clause.clause-index (omega (arith, c.loop-clause-test.false)) _ _ _ _ c.loop-clause.invariant.on_way

pub returns-clause-steps : goal.returns-clause-steps
returns-clause-steps g c = λ fire.
    let t = c.args.state_set.now in
    count-none (context_on t) t.code.now fire c.args.clauses.now c.loop-clause.clause-index (omega (arith, c.loop-clause-test.false)) _ _ _ (c.loop-clause.invariant.count fire)

pub returns-clause-keeps : goal.returns-clause-keeps
returns-clause-keeps g c = record {
  frame = c.loop-clause.invariant.frame;
  room = c.loop-clause.invariant.room;
  failures = c.loop-clause.invariant.none_failed;
}
