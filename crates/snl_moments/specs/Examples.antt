-- Some texts and times.
use Rattle.std.specs.Prelude.{◌≡◌, [], ◌∷◌, ◌++◌, codes, true, false}
use Rattle.snl_moments.specs.Plans.{AreFrom}
use Rattle.snl_moments.specs.Tells.{whole_of}

-- A text whose last line lacks its newline, and one that is whole.
pub record TextExamples : Type 0 where
  pub unended : whole_of true (codes "0 tick") ≡ codes "0 tick" ++ 10 ∷ []
  pub ended : whole_of false (codes "0 tick" ++ 10 ∷ []) ≡ codes "0 tick" ++ 10 ∷ []

-- Times that are in order, and some that are not.
pub record TimeExamples : Type 0 where
  pub none : AreFrom 7 []
  pub same : AreFrom 5 (5 ∷ 5 ∷ 9 ∷ [])
  pub early : AreFrom 6 (5 ∷ []) → ⊥
  pub back : AreFrom 0 (9 ∷ 5 ∷ []) → ⊥
