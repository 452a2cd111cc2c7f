-- The examples, computed by the tests.
use Rattle.std.proofs.Common.{◌≡◌, ℕ, ◌<◌, true, false, [], ◌∷◌, None, Some, codes, refl, sym, ◌∙◌, Contains, arith}
use Rattle.std.proofs.lemmas.Bool.{false≢true}
use Rattle.std.proofs.lemmas.List.Elements.{Contains-append_left, Contains-append_right, Contains-push}
use Rattle.snl_syntax.specs.Programs.{ProgramTree}
use Rattle.snl_resolve.specs.Examples.{name}
use Rattle.snl_copies.specs.declared.touches.Touch.TheVariants.{Reads}
use Rattle.snl_copies.specs.Code.{in_clause}
use Rattle.snl_copies.specs.Copies.{Written, LeadsTo}
use Rattle.snl_copies.specs.Tests.{is_written_in, leads}
use Rattle.snl_copies.specs.Examples.{valve, pressure, linked, interlock, watch, state, to_bad, by_functions, by_a_get, by_a_queue, InterlockExamples, CodeExamples}
use Rattle.snl_copies.proofs.CopyLaws.{any_decides, does_law, written_in_decides}
use Rattle.snl_copies.proofs.UnwrittenLaws.{lead_decides}

-- what the test finds is written
is_so : (p : ProgramTree) (set v : ℕ) → is_written_in p set v ≡ true → Written p set v
is_so p set v e = (written_in_decides p set v).0 e

-- and what it does not find is not
is_not : (p : ProgramTree) (set v : ℕ) → is_written_in p set v ≡ false → Written p set v → ⊥
is_not p set v e w = false≢true (sym e ∙ (written_in_decides p set v).1 w)

-- the valve of the state set that watches
valve_in_watch : Written interlock 1 valve → ⊥
valve_in_watch = is_not interlock 1 valve refl

-- the interlock
pub interlock_examples : InterlockExamples
interlock_examples = (
  is_so interlock 0 valve refl,
  is_so interlock 0 pressure refl,
  is_so interlock 1 pressure refl,
  valve_in_watch,
  record {
    clause = to_bad;
    stands = record {
      state_set = watch;
      state = state (codes "ok") (to_bad ∷ []);
      stands = refl;
      among = Contains-append_left (state (codes "ok") (to_bad ∷ []) ∷ []) (state (codes "bad") [] ∷ []) _ (Contains-push [] _);
      inside = Contains-push [] to_bad;
    };
    leads = (any_decides (leads (codes "bad")) (LeadsTo (codes "bad")) (lead_decides (codes "bad")) (in_clause to_bad)).0 refl;
    reads = (does_law linked (in_clause to_bad) (Reads (name 110 (codes "valve")))).0 (0, omega arith, refl);
    means = refl;
    never = valve_in_watch;
  },
)

-- functions, a get and a queue
pub code_examples : CodeExamples
code_examples = (
  is_so by_functions 0 valve refl,
  is_not by_functions 1 valve refl,
  is_so by_a_get 0 valve refl,
  is_not by_a_get 1 valve refl,
  is_so by_a_queue 0 pressure refl,
  is_not by_a_queue 1 pressure refl,
)
