-- From how far tokens go to a cure.
use Rattle.std.proofs.Common.{◌≡◌, ◌+◌, ℕ, List, length, slice_get, subst, inl, inr}
use Rattle.snl_text.specs.declared.tokens.Pos.{Pos}
use Rattle.snl_text.specs.declared.tokens.Token.{Token}
use Rattle.snl_cures.specs.declared.cures.Cure.{Cure}
use Rattle.snl_cures.specs.declared.reach.Reach.{Reach}
use Rattle.snl_cures.specs.declared.reach.Reach.TheVariants.{Whole, Unexpected, TooDeep}
use Rattle.snl_cures.specs.Reaching.{IsReach, IsPast}
use Rattle.snl_cures.specs.Cures.{Fits, GoesBeyond, IsCure, IsFarther, mended, place_of, put_count}

-- tokens that go on behind so many of them, and behind a place
goes_beyond : (n : ℕ) (from : Pos) (ts : List Token) (eof : Pos) (reach : Reach) →
    IsReach ts reach → IsPast n reach → IsFarther from ts eof reach → GoesBeyond n from ts eof
goes_beyond n from ts eof Whole is past far = inl is
goes_beyond n from ts eof (Unexpected k) is past far = inr (k, past, far, inl is)
goes_beyond n from ts eof (TooDeep k) is past far = inr (k, past, far, inr is)

-- the same of tokens that equal them
goes_beyond_as : (n : ℕ) (from : Pos) (ts new : List Token) (eof end : Pos) (reach : Reach) → new ≡ ts → end ≡ eof →
    IsReach new reach → IsPast n reach → IsFarther from new end reach → GoesBeyond n from ts eof
goes_beyond_as n from ts new eof end reach e f is past far =
    let P : List Token → Type 0 = λ xs. IsReach xs reach in
    let Q : List Token → Type 0 = λ xs. IsFarther from xs eof reach in
    let R : Pos → Type 0 = λ x. IsFarther from new x reach in
    goes_beyond n from ts eof reach (subst P e is) past (subst Q e (subst R f far))

-- tokens with a change go on behind it
pub is_cure : (old new : List Token) (eof end : Pos) (at : ℕ) (cure : Cure) (reach : Reach) →
    Fits (length old) at cure → new ≡ mended old eof at cure → end ≡ eof →
    IsReach new reach → IsPast (at + put_count cure) reach → IsFarther (place_of (slice_get old at) eof) new end reach → IsCure old eof at cure
is_cure old new eof end at cure reach fits e f is past far = record {
  fits = fits;
  beyond = goes_beyond_as (at + put_count cure) (place_of (slice_get old at) eof) (mended old eof at cure) new eof end reach e f is past far;
}
