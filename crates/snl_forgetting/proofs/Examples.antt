-- Which functions name their own variables alone.
use Rattle.std.proofs.Common.{◌≡◌, ◌<◌, ◌⊎◌, inl, inr, refl, arith, true, false, [], ◌∷◌, codes}
use Rattle.snl_meaning.specs.FunctionExamples.{functions}
use Rattle.snl_forgetting.specs.Own.{OwnInBodies}
use Rattle.snl_forgetting.specs.Examples.{OwnExamples, missing, peeks}

-- there is an element
one : 0 < 1
one = omega arith

-- what is shared is no copy
shared : (true ≡ false) → ⊥
shared never = absurd (cc)

-- each function in turn
own : OwnInBodies 0 (codes "s") [] functions
own = (
  ((refl, tt), ((tt, tt), ((inr (inl (inl refl), one), inr (inr (inl refl), one)), (inr (inl (inl refl), one), tt)))),
  (
    ((refl, (refl, tt)), (tt, ((inr (inr (inl refl), one), (inr (inr (inr (inl refl)), one), tt)), tt))),
    (
      (tt, (tt, (tt, tt))),
      (
        (tt, (tt, ((tt, tt), tt))),
        (
          (tt, (tt, tt)),
          (
            (tt, (tt, ((tt, (tt, tt)), tt))),
            (
              (tt, (tt, ((tt, (tt, tt)), tt))),
              (
                ((refl, tt), (tt, (((refl, (inr (inr (inl refl), one), tt)), (tt, tt)), tt))),
                tt,
              ),
            ),
          ),
        ),
      ),
    ),
  ),
)

-- the parameter of another function is none of its own
peeking : OwnInBodies 0 (codes "s") [] (peeks ∷ []) → ⊥
peeking is = by is.0.1.1.0
  where
    by : (true ≡ false) ⊎ ((⊥ ⊎ ⊥) × (0 < 1)) → ⊥
    by (inl never) = shared never
    by (inr never) = elim never.0 [ inl none ↦ absurd none | inr none ↦ absurd none ]

-- no value is not one value
short : OwnInBodies 0 (codes "s") [] missing → ⊥
short is = let never : 0 ≡ 1 = is.1.0.1.1.0.0 in absurd (omega (arith, never))

-- all of them
pub own_examples : OwnExamples
own_examples = record { own = own; peeking = peeking; short = short; seen = refl; seen_other = refl; kept = refl; kept_other = refl }
