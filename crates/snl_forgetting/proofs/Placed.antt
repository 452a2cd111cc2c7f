-- Where variables are found by the offsets of their declarations.
use Rattle.std.proofs.Common.{◌≡◌, ◌∙◌, ◌⊎◌, inl, inr, refl, sym, ap, ℕ, Bool, true, false, if◌then◌else◌, List, [], ◌∷◌, ◌++◌, Some}
use Rattle.std.specs.Prelude.{◌==◌}
use Rattle.std.proofs.lemmas.Bool.{eq-eqb, eqb-true, false≢true}
use Rattle.snl_names.specs.Scopes.{elements}
use Rattle.snl_names.specs.Variables.{CopyVariable}
use Rattle.snl_meaning.specs.declared.instrs.Variable.{Variable}
use Rattle.snl_meaning.specs.declared.names.Placed.{Placed}
use Rattle.snl_meaning.specs.Names.{behind, held_from, placed_by, variable_in}
use Rattle.snl_machine.proofs.Declared.{In}

-- What is found at an offset: a variable that is declared there, of a copy or of functions.
pub record IsFound (is_shared : Bool) (vs : List CopyVariable) (offset : ℕ) (v : Variable) : Type 0 where
  pub of : CopyVariable
  pub among : In of vs
  pub stands : of.name.pos.offset ≡ offset
  pub shared : v.is_shared ≡ is_shared
  pub size : v.size ≡ elements of.size

-- what is found
pub found-in : (b : Bool) (vs : List CopyVariable) (at o : ℕ) (v : Variable) → variable_in (placed_by b at vs) o ≡ Some v → IsFound b vs o v
found-in b [] at o v is = absurd (cc)
found-in b (u ∷ us) at o v is = by (u.name.pos.offset == o) refl is (found-in b us (behind at u) o v)
  where
    by : (same : Bool) → (u.name.pos.offset == o) ≡ same → (if same then Some (held_from b at u) else variable_in (placed_by b (behind at u) us) o) ≡ Some v →
        (variable_in (placed_by b (behind at u) us) o ≡ Some v → IsFound b us o v) → IsFound b (u ∷ us) o v
    by true e found rest =
        let it : held_from b at u ≡ v = cc in
        record { of = u; among = inl refl; stands = eqb-true u.name.pos.offset o e; shared = sym (ap (λ (x : Variable). x.is_shared) it); size = sym (ap (λ (x : Variable). x.size) it) }
    by false e found rest = let w = rest found in record { of = w.of; among = inr w.among; stands = w.stands; shared = w.shared; size = w.size }

-- at the place of a variable something is found
pub found-there : (b : Bool) (vs : List CopyVariable) (at : ℕ) (q : CopyVariable) → In q vs → (v : Variable) × (variable_in (placed_by b at vs) q.name.pos.offset ≡ Some v)
found-there b [] at q is = absurd is
found-there b (u ∷ us) at q is = by (u.name.pos.offset == q.name.pos.offset) refl is (found-there b us (behind at u) q)
  where
    by : (same : Bool) → (u.name.pos.offset == q.name.pos.offset) ≡ same → In q (u ∷ us) →
        (In q us → (v : Variable) × (variable_in (placed_by b (behind at u) us) q.name.pos.offset ≡ Some v)) →
        (v : Variable) × ((if same then Some (held_from b at u) else variable_in (placed_by b (behind at u) us) q.name.pos.offset) ≡ Some v)
    by true e it rest = (held_from b at u, refl)
    by false e (inl same) rest = absurd (false≢true (sym e ∙ eq-eqb u.name.pos.offset q.name.pos.offset (ap (λ (w : CopyVariable). w.name.pos.offset) same)))
    by false e (inr there) rest = rest there

-- what is found in two lists is found in either
pub found-either : (xs ys : List Placed) (o : ℕ) (v : Variable) → variable_in (xs ++ ys) o ≡ Some v → (variable_in xs o ≡ Some v) ⊎ (variable_in ys o ≡ Some v)
found-either [] ys o v is = inr is
found-either (x ∷ xs) ys o v is = by (x.offset == o) is (found-either xs ys o v)
  where
    by : (same : Bool) → (if same then Some x.variable else variable_in (xs ++ ys) o) ≡ Some v →
        (variable_in (xs ++ ys) o ≡ Some v → (variable_in xs o ≡ Some v) ⊎ (variable_in ys o ≡ Some v)) →
        ((if same then Some x.variable else variable_in xs o) ≡ Some v) ⊎ (variable_in ys o ≡ Some v)
    by true found rest = inl found
    by false found rest = rest found

-- and what is found in the second, something is found in both
pub found-behind : (xs ys : List Placed) (o : ℕ) (v : Variable) → variable_in ys o ≡ Some v → (w : Variable) × (variable_in (xs ++ ys) o ≡ Some w)
found-behind [] ys o v is = (v, is)
found-behind (x ∷ xs) ys o v is = by (x.offset == o) (found-behind xs ys o v is)
  where
    by : (same : Bool) → ((w : Variable) × (variable_in (xs ++ ys) o ≡ Some w)) → (w : Variable) × ((if same then Some x.variable else variable_in (xs ++ ys) o) ≡ Some w)
    by true rest = (x.variable, refl)
    by false rest = rest
