-- Tables that tell which states of a program are reached give it the same size.
use Rattle.std.proofs.Common.{◌≡◌, ◌+◌, ◌<◌, ◌↔◌, ℕ, suc, Bool, true, false, List, [], ◌∷◌, Some, refl, ap, subst, arith, length, slice_get}
use Rattle.std.proofs.lemmas.Bool.{false≢true}
use Rattle.std.proofs.lemmas.Option.{slice_get_within}
use Rattle.snl_syntax.specs.Programs.{StateSetTree, ProgramTree}
use Rattle.snl_names.specs.Programs.{sites}
use Rattle.snl_reach.specs.Reach.{IsReached}
use Rattle.snl_flat.specs.Reached.{Table, TellsReached}
use Rattle.snl_flat.specs.Size.{kept_size, row_size, set_size, program_size}

-- two truth values that say the same
same-truth : (a b : Bool) (P : Type 0) → (a ≡ true) ↔ P → (b ≡ true) ↔ P → a ≡ b
same-truth true true P h k = refl
same-truth false false P h k = refl
same-truth true false P h k = absurd (false≢true (k.1 (h.0 refl)))
same-truth false true P h k = absurd (false≢true (h.1 (k.0 refl)))

-- rows whose members have the same sizes
rows-alike : {A : Type 0} (f g : ℕ → A → ℕ) (k : ℕ) (all : List A) → ((i : ℕ) (a : A) → slice_get all i ≡ Some a → f (k + i) a ≡ g (k + i) a) →
    row_size f k all ≡ row_size g k all
rows-alike f g k [] same = refl
rows-alike f g k (a ∷ all) same =
    let here : k + 0 ≡ k = omega arith in
    let first : f k a ≡ g k a = subst (λ (n : ℕ). f n a ≡ g n a) here (same 0 a refl) in
    let rest = rows-alike f g (suc k) all (λ i b at. let e : k + suc i ≡ suc k + i = omega arith in subst (λ (n : ℕ). f n b ≡ g n b) e (same (suc i) b at)) in
    omega (arith, first, rest)

module _ (p : ProgramTree) (reached other : Table) (tells : TellsReached p reached) (too : TellsReached p other) where
  -- a state set
  set-alike : (set : ℕ) (g : StateSetTree) → slice_get p.state_sets set ≡ Some g → set_size (sites p) (reached set) g ≡ set_size (sites p) (other set) g
  set-alike set g at =
      let states = rows-alike (λ k s. kept_size (sites p) (reached set k) s) (λ k s. kept_size (sites p) (other set k) s) 0 g.states
      (λ i s there. ap (λ (b : Bool). kept_size (sites p) b s) (state-alike i (slice_get_within g.states i s there))) in
      omega (arith, states)
    where
      state-alike : (i : ℕ) → i < length g.states → reached set (0 + i) ≡ other set (0 + i)
      state-alike i within =
          let e : i ≡ 0 + i = omega arith in
          subst (λ (n : ℕ). reached set n ≡ other set n) e (same-truth (reached set i) (other set i) (IsReached g.states i) (tells set i g at within) (too set i g at within))

  -- the program
  pub sizes-alike : program_size reached p ≡ program_size other p
  sizes-alike =
      let sets = rows-alike (λ k g. set_size (sites p) (reached k) g) (λ k g. set_size (sites p) (other k) g) 0 p.state_sets
      (λ i g there. let e : i ≡ 0 + i = omega arith in subst (λ (n : ℕ). set_size (sites p) (reached n) g ≡ set_size (sites p) (other n) g) e (set-alike i g there)) in
      omega (arith, sets)
