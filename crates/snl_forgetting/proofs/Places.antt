-- Two lists of words that are changed in the same way.
use Rattle.std.proofs.Common.{◌≡◌, ◌∙◌, ◌+◌, ◌<◌, refl, sym, subst, arith, ℕ, zero, suc, ℤ, pos, List, [], ◌∷◌, length}
use Rattle.std.specs.Prelude.{slice_set, slice_index_or}
use Rattle.snl_meaning.specs.World.{zeroed}

-- the word at a place
abbrev pub at : List ℤ → ℕ → ℤ
at l k = slice_index_or l k (pos 0)

-- as many words, where one is set
pub set-length : (l : List ℤ) (p : ℕ) (z : ℤ) → length (slice_set l p z) ≡ length l
set-length [] p z = refl
set-length (x ∷ l) zero z = refl
set-length (x ∷ l) (suc p) z = let e : length (slice_set l p z) ≡ length l = set-length l p z in omega (arith, e)

-- in both
pub set-long : (a b : List ℤ) (p : ℕ) (z : ℤ) → length b ≡ length a → length (slice_set b p z) ≡ length (slice_set a p z)
set-long a b p z long = set-length b p z ∙ long ∙ sym (set-length a p z)

-- words that are the same stay so, wherever one is set in both
pub set-both : (a b : List ℤ) (p q : ℕ) (z : ℤ) → length b ≡ length a → at a q ≡ at b q → at (slice_set a p z) q ≡ at (slice_set b p z) q
set-both [] [] p q z long same = same
set-both [] (y ∷ b) p q z long same = absurd (omega (arith, long))
set-both (x ∷ a) [] p q z long same = absurd (omega (arith, long))
set-both (x ∷ a) (y ∷ b) zero zero z long same = refl
set-both (x ∷ a) (y ∷ b) zero (suc q) z long same = same
set-both (x ∷ a) (y ∷ b) (suc p) zero z long same = same
set-both (x ∷ a) (y ∷ b) (suc p) (suc q) z long same = set-both a b p q z (omega (arith, long)) same

-- and the one that is set is the same
pub set-gains : (a b : List ℤ) (p : ℕ) (z : ℤ) → length b ≡ length a → at (slice_set a p z) p ≡ at (slice_set b p z) p
set-gains [] [] p z long = refl
set-gains [] (y ∷ b) p z long = absurd (omega (arith, long))
set-gains (x ∷ a) [] p z long = absurd (omega (arith, long))
set-gains (x ∷ a) (y ∷ b) zero z long = refl
set-gains (x ∷ a) (y ∷ b) (suc p) z long = set-gains a b p z (omega (arith, long))

-- as many words, where some are 0 then
pub zeroed-length : (n : ℕ) (l : List ℤ) (p : ℕ) → length (zeroed l p n) ≡ length l
zeroed-length zero l p = refl
zeroed-length (suc n) l p = zeroed-length n (slice_set l p (pos 0)) (suc p) ∙ set-length l p (pos 0)

-- in both
pub zeroed-long : (n : ℕ) (a b : List ℤ) (p : ℕ) → length b ≡ length a → length (zeroed b p n) ≡ length (zeroed a p n)
zeroed-long n a b p long = zeroed-length n b p ∙ long ∙ sym (zeroed-length n a p)

-- words that are the same stay so
pub zeroed-both : (n : ℕ) (a b : List ℤ) (p q : ℕ) → length b ≡ length a → at a q ≡ at b q → at (zeroed a p n) q ≡ at (zeroed b p n) q
zeroed-both zero a b p q long same = same
zeroed-both (suc n) a b p q long same =
    zeroed-both n (slice_set a p (pos 0)) (slice_set b p (pos 0)) (suc p) q (set-long a b p (pos 0) long) (set-both a b p q (pos 0) long same)

-- and those that are 0 then are the same
pub zeroed-gains : (n k : ℕ) (a b : List ℤ) (p : ℕ) → length b ≡ length a → k < n → at (zeroed a p n) (p + k) ≡ at (zeroed b p n) (p + k)
zeroed-gains zero k a b p long less = absurd (omega (arith, less))
zeroed-gains (suc n) zero a b p long less =
    let e : p ≡ p + 0 = omega arith in
    subst (λ (q : ℕ). at (zeroed (slice_set a p (pos 0)) (suc p) n) q ≡ at (zeroed (slice_set b p (pos 0)) (suc p) n) q) e
    (zeroed-both n (slice_set a p (pos 0)) (slice_set b p (pos 0)) (suc p) p (set-long a b p (pos 0) long) (set-gains a b p (pos 0) long))
zeroed-gains (suc n) (suc k) a b p long less =
    let e : suc p + k ≡ p + suc k = omega arith in
    subst (λ (q : ℕ). at (zeroed (slice_set a p (pos 0)) (suc p) n) q ≡ at (zeroed (slice_set b p (pos 0)) (suc p) n) q) e
    (zeroed-gains n k (slice_set a p (pos 0)) (slice_set b p (pos 0)) (suc p) (set-long a b p (pos 0) long) (omega (arith, less)))
