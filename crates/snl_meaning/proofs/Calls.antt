-- A call forgets what its parameters and the variables of its body were before.
use Rattle.std.proofs.Common.{◌≡◌, ◌∙◌, ◌+◌, ◌⊎◌, inl, inr, refl, sym, ap, subst, ℕ, zero, suc, ℤ, Bool, true, false, List, [], ◌∷◌, Some, slice_get, nat_eq, if◌then◌else◌}
use Rattle.std.specs.Prelude.{slice_set}
use Rattle.std.proofs.lemmas.Bool.{eqb-true, eqb-false}
use Rattle.snl_syntax.specs.Statements.{BlockTree}
use Rattle.snl_meaning.specs.declared.faults.Fault.TheVariants.{DoesNotFit}
use Rattle.snl_meaning.specs.declared.instrs.Variable.{Variable}
use Rattle.snl_meaning.specs.Effect.{block_effect}
use Rattle.snl_meaning.specs.Functions.{result, inside, callable_of}
use Rattle.snl_meaning.specs.Laws.{AreFit, CallsForgetParameters, CallsForgetVariables}
use Rattle.snl_meaning.specs.Ran.{Ran, Gives, Faults, also, then_do}
use Rattle.snl_meaning.specs.Scenes.{Callable}
use Rattle.snl_meaning.specs.Value.{performed}
use Rattle.snl_meaning.specs.Words.{bound, spent_of}
use Rattle.snl_meaning.specs.World.{World, with_element}
use Rattle.snl_meaning.proofs.Forgetting.{set-same, set-other, same-changes, IsLost, lost, blocks_forget}

-- the world in which values stand in their parameters
abbrev bound_in : ℕ → List Variable → List ℤ → World → World
bound_in set [] zs w = w
bound_in set (p ∷ ps) [] w = w
bound_in set (p ∷ ps) (z ∷ zs) w = bound_in set ps zs (with_element set p 0 z w)

-- values that fit come there
all-bound : (set line : ℕ) (ps : List Variable) (zs : List ℤ) (w : World) → AreFit ps zs → bound set ps line zs w ≡ Gives tt (bound_in set ps zs w) []
all-bound set line [] [] w fit = refl
all-bound set line [] (z ∷ zs) w fit = refl
all-bound set line (p ∷ ps) [] w fit = refl
all-bound set line (p ∷ ps) (z ∷ zs) w fit =
    ap (λ (b : Bool). then_do (if b then Gives z (with_element set p 0 z w) [] else Faults DoesNotFit line w []) (λ _ u. bound set ps line zs u)) fit.0
    ∙ ap (also []) (all-bound set line ps zs (with_element set p 0 z w) fit.1)

-- a word that is set before another one
lost-word : (p q : ℕ) (x y : ℤ) → IsLost (λ (l : List ℤ). slice_set l p x) (λ l. slice_set l q y)
lost-word p q x y l = by (nat_eq p q) refl
  where
    by : (b : Bool) → nat_eq p q ≡ b → (slice_set (slice_set l p x) q y ≡ slice_set l q y) ⊎ (slice_set (slice_set l p x) q y ≡ slice_set (slice_set l q y) p x)
    by true is = inl (ap (λ (r : ℕ). slice_set (slice_set l r x) q y) (eqb-true p q is) ∙ set-same l q x y)
    by false is = inr (set-other l p q x y (eqb-false p q is))

module _ (set : ℕ) (v : Variable) (k : ℕ) (z : ℤ) where
  -- parameters hand on that what follows does not know of an element
  binding-hands : {A : Type 0} (P : World → A) (ps : List Variable) (zs : List ℤ) → ((u : World) → P (with_element set v k z u) ≡ P u) →
      (w : World) → P (bound_in set ps zs (with_element set v k z w)) ≡ P (bound_in set ps zs w)
  binding-hands P [] zs others w = others w
  binding-hands P (p ∷ ps) [] others w = others w
  binding-hands P (p ∷ ps) (y ∷ ys) others w =
      lost (λ u. P (bound_in set ps ys u)) (λ l. slice_set l (v.place + k) z) (λ l. slice_set l (p.place + 0) y) v.is_shared p.is_shared set w
      (lost-word (v.place + k) (p.place + 0) z y) (binding-hands P ps ys others)

-- what a parameter was is forgotten
binding-forgets : (set : ℕ) (p : Variable) (z : ℤ) (ps : List Variable) (zs : List ℤ) (i : ℕ) → AreFit ps zs → slice_get ps i ≡ Some p →
    (w : World) → bound_in set ps zs (with_element set p 0 z w) ≡ bound_in set ps zs w
binding-forgets set p z [] zs i fit at w = absurd (cc)
binding-forgets set p z (q ∷ ps) [] i fit at w = absurd fit
binding-forgets set p z (q ∷ ps) (y ∷ ys) zero fit at w =
    let same : q ≡ p = cc in
    ap (bound_in set ps ys)
    (subst (λ (x : Variable). with_element set x 0 y (with_element set p 0 z w) ≡ with_element set x 0 y w) (sym same)
    (same-changes (λ l. slice_set l (p.place + 0) z) (λ l. slice_set l (p.place + 0) y) (λ l. slice_set l (p.place + 0) y) p.is_shared set w
    (λ l. set-same l (p.place + 0) z y)))
binding-forgets set p z (q ∷ ps) (y ∷ ys) (suc i) fit at w =
    lost (bound_in set ps ys) (λ l. slice_set l (p.place + 0) z) (λ l. slice_set l (q.place + 0) y) p.is_shared q.is_shared set w
    (lost-word (p.place + 0) (q.place + 0) z y) (binding-forgets set p z ps ys i fit.1 at)

-- a call for which a tick is left, and whose values fit
call-begins : (set : ℕ) (c : Callable) (line : ℕ) (zs : List ℤ) (w : World) (left : ℕ) → w.ticks ≡ suc left → AreFit c.parameters zs →
    performed set c line zs w ≡ also [] (c.body (bound_in set c.parameters zs (record w { ticks = left })))
call-begins set c line zs w left some fit =
    ap (λ (n : ℕ). then_do (then_do (spent_of line n w) (λ _ u. bound set c.parameters line zs u)) (λ _. c.body)) some
    ∙ ap (λ (r : Ran (Unit {0})). then_do (also [] r) (λ _. c.body)) (all-bound set line c.parameters zs (record w { ticks = left }) fit)

-- parameters
pub calls_forget_parameters : CallsForgetParameters
calls_forget_parameters set c line zs w left i p z some fit at =
    let u = record w { ticks = left } in
    call-begins set c line zs (with_element set p 0 z w) left some fit
    ∙ ap (λ (x : World). also [] (c.body x)) (binding-forgets set p z c.parameters zs i fit at u)
    ∙ sym (call-begins set c line zs w left some fit)

-- variables of the body
pub calls_forget_variables : CallsForgetVariables
calls_forget_variables set name above r line zs w left ds all i k d v z is some fit at place within =
    let c = callable_of set name above r in
    let m = inside set name above r in
    let u = record w { ticks = left } in
    call-begins set c line zs (with_element set v k z w) left some fit
    ∙ ap (also []) (binding-hands set v k z c.body r.parameters zs (λ x.
    ap (λ y. then_do y result)
    (subst (λ (b : BlockTree). block_effect m b (with_element set v k z x) ≡ block_effect m b x) (sym is) (blocks_forget m ds all x i k d v z at place within))) u)
    ∙ sym (call-begins set c line zs w left some fit)
