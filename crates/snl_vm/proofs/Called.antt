-- A call of a function: what it needs, and what it gives.
use Rattle.std.proofs.Common.{◌≡◌, ◌∙◌, ◌+◌, ◌<◌, ◌≤◌, ℕ, ℤ, Bool, true, false, inl, inr, List, [], ◌∷◌, Some, Result, ap, arith, get_or, length, map, sym, take, drop, reverse, slice_get, subst, nat_le, nat_lt, le-leb, lt-ltb, leb-true, ltb-true, refl}
use Rattle.std.specs.Prelude.{if◌then◌else◌}
use Rattle.std.proofs.lemmas.Bool.{cases_lt}
use Rattle.std.proofs.lemmas.List.{get_or-map, length-map}
use Rattle.std.proofs.lemmas.Option.{slice_get-get_or, slice_get_past}
use Rattle.snl_meaning.specs.declared.instrs.Instr.TheVariants as instr
use Rattle.snl_meaning.specs.Ran.{Ran, Gives, then_do}
use Rattle.snl_meaning.specs.Run.{Entry, PieceContext, Step, Sticks, calls, done_by, goes_over, with_place}
use Rattle.snl_meaning.specs.Words.{called_with}
use Rattle.snl_meaning.specs.World.{World}
use Rattle.snl_vm.specs.declared.words.Charge.{Charge}
use Rattle.snl_vm.specs.Steps.{CanStep}
use Rattle.snl_vm.specs.Views.{gave}

-- the view of a member that was read
pub found-in : {A B : Type 0} (view : A → B) (xs : List A) (i : ℕ) (x : A) → i < length xs → x ≡ get_or xs i x → slice_get (map view xs) i ≡ Some (view x)
found-in view xs i x within is =
    slice_get-get_or (map view xs) i (view x) (omega (arith, length-map xs view, within)) ∙ ap Some (get_or-map view xs i x (view x) within ∙ ap view (sym is))

module _ (g : PieceContext) (f n line pc : ℕ) (s : List ℤ) (w : World) where
  -- the function is there
  pub calls-there : CanStep (done_by g (instr.Call f n line) pc s w) → f < length g.functions
  calls-there can =
      elim (cases_lt f (length g.functions)) [
        | inl within ↦ within
        | inr beyond ↦ absurd (subst CanStep (ap (λ o. calls g o n line pc s w) (slice_get_past g.functions f beyond)) can)
      ]

  module _ (e : Entry) (found : slice_get g.functions f ≡ Some e) where
    -- what a call comes to where there are the operands and the place
    abbrev goes : Ran Step
    goes = then_do (called_with g.set e.parameters line (reverse (take n s)) w) (goes_over ((pc + 1) ∷ g.returns) e.start (drop n s))

    -- a call that can be done
    can-call : CanStep (done_by g (instr.Call f n line) pc s w) → CanStep (if nat_le n (length s) then with_place g w goes else Gives Sticks w [])
    can-call can = subst CanStep (ap (λ o. calls g o n line pc s w) found) can

    -- there are the operands
    pub calls-operands : CanStep (done_by g (instr.Call f n line) pc s w) → n ≤ length s
    calls-operands can = by (nat_le n (length s)) refl (can-call can)
      where
        by : (b : Bool) → nat_le n (length s) ≡ b → CanStep (if b then with_place g w goes else Gives Sticks w []) → n ≤ length s
        by true is can = leb-true n (length s) is
        by false is can = absurd can

    -- and a return place
    pub calls-place : CanStep (done_by g (instr.Call f n line) pc s w) → length g.returns < length g.functions
    calls-place can = by (nat_le n (length s)) (nat_lt (length g.returns) (length g.functions)) refl (can-call can)
      where
        by : (a b : Bool) → nat_lt (length g.returns) (length g.functions) ≡ b → CanStep (if a then (if b then goes else Gives Sticks w []) else Gives Sticks w []) →
            length g.returns < length g.functions
        by true true is can = ltb-true (length g.returns) (length g.functions) is
        by true false is can = absurd can
        by false b is can = absurd can

    -- what it comes to
    pub calls-does : n ≤ length s → length g.returns < length g.functions → (r : Result (Unit {0}) Charge) (u : World) →
        called_with g.set e.parameters line (reverse (take n s)) w ≡ gave r u →
        done_by g (instr.Call f n line) pc s w ≡ then_do (gave r u) (goes_over ((pc + 1) ∷ g.returns) e.start (drop n s))
    calls-does enough place r u did =
        ap (λ o. calls g o n line pc s w) found
        ∙ ap (λ (b : Bool). if b then with_place g w goes else Gives Sticks w []) (le-leb n (length s) enough)
        ∙ ap (λ (b : Bool). if b then goes else Gives Sticks w []) (lt-ltb (length g.returns) (length g.functions) place)
        ∙ ap (λ (q : Ran (Unit {0})). then_do q (goes_over ((pc + 1) ∷ g.returns) e.start (drop n s))) did
