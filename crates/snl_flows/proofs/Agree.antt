-- Lists of words that have the same at some places.
use Rattle.std.proofs.Common.{◌≡◌, ◌∙◌, ◌⊎◌, ◌+◌, ◌≤◌, ◌<◌, inl, inr, ⊎_elim, refl, sym, ap, subst, arith, ℕ, zero, suc, ℤ, pos, List, [], ◌∷◌, length}
use Rattle.std.specs.Prelude.{slice_index_or, slice_set}
use Rattle.snl_meaning.specs.World.{overwritten, words_at, zeroed}
use Rattle.snl_meaning.proofs.Sizes.{set-many}

-- Two lists of words are as long, and have the same at some places.
pub record AgreeOn (P : ℕ → Type 0) (xs ys : List ℤ) : Type 0 where
  pub long : length xs ≡ length ys
  pub at : (k : ℕ) → P k → slice_index_or xs k (pos 0) ≡ slice_index_or ys k (pos 0)

-- the same list
pub agree-same : (P : ℕ → Type 0) (xs : List ℤ) → AgreeOn P xs xs
agree-same P xs = record { long = refl; at = λ k p. refl }

-- fewer places
pub agree-less : (P Q : ℕ → Type 0) (xs ys : List ℤ) → ((k : ℕ) → Q k → P k) → AgreeOn P xs ys → AgreeOn Q xs ys
agree-less P Q xs ys less e = record { long = e.long; at = λ k q. e.at k (less k q) }

-- where each gets a word, they agree there if those are the same, and elsewhere where they did
set-each : (xs ys : List ℤ) (i j : ℕ) (a b : ℤ) → length xs ≡ length ys → (j ≡ i → a ≡ b) → ((j ≡ i → ⊥) → slice_index_or xs j (pos 0) ≡ slice_index_or ys j (pos 0)) →
    slice_index_or (slice_set xs i a) j (pos 0) ≡ slice_index_or (slice_set ys i b) j (pos 0)
set-each [] [] i j a b long same h = refl
set-each [] (y ∷ ys) i j a b long same h = absurd (omega (arith, long))
set-each (x ∷ xs) [] i j a b long same h = absurd (omega (arith, long))
set-each (x ∷ xs) (y ∷ ys) zero zero a b long same h = same refl
set-each (x ∷ xs) (y ∷ ys) zero (suc j) a b long same h = h (λ (e : suc j ≡ zero). absurd (omega (arith, e)))
set-each (x ∷ xs) (y ∷ ys) (suc i) zero a b long same h = h (λ (e : zero ≡ suc i). absurd (omega (arith, e)))
set-each (x ∷ xs) (y ∷ ys) (suc i) (suc j) a b long same h =
    set-each xs ys i j a b (omega (arith, long)) (λ (e : j ≡ i). same (ap suc e)) (λ other. h (λ (e : suc j ≡ suc i). other (omega (arith, e))))

-- where something is written in both, they agree elsewhere where they did
set-apart : (xs ys : List ℤ) (i j : ℕ) (a b : ℤ) → (j ≡ i → ⊥) → slice_index_or xs j (pos 0) ≡ slice_index_or ys j (pos 0) →
    slice_index_or (slice_set xs i a) j (pos 0) ≡ slice_index_or (slice_set ys i b) j (pos 0)
set-apart xs ys i j a b other h = beside xs i j a other ∙ h ∙ sym (beside ys i j b other)
  where
    beside : (xs : List ℤ) (i j : ℕ) (a : ℤ) → (j ≡ i → ⊥) → slice_index_or (slice_set xs i a) j (pos 0) ≡ slice_index_or xs j (pos 0)
    beside [] i j a other = refl
    beside (x ∷ xs) zero zero a other = absurd (other refl)
    beside (x ∷ xs) zero (suc j) a other = refl
    beside (x ∷ xs) (suc i) zero a other = refl
    beside (x ∷ xs) (suc i) (suc j) a other = beside xs i j a (λ (e : j ≡ i). other (ap suc e))

-- one place more, which was written in both
pub agree-set : (P : ℕ → Type 0) (xs ys : List ℤ) (i : ℕ) (z : ℤ) → AgreeOn P xs ys → AgreeOn (λ k. P k ⊎ (k ≡ i)) (slice_set xs i z) (slice_set ys i z)
agree-set P xs ys i z e = record {
  long = set-many xs i z ∙ e.long ∙ sym (set-many ys i z);
  at = λ k known. set-each xs ys i k z z e.long (λ here. refl) (λ other. ⊎_elim (λ p. e.at k p) (λ same. absurd (other same)) known);
}

-- other words at a place of which nothing is said
pub agree-apart : (P : ℕ → Type 0) (xs ys : List ℤ) (i : ℕ) (a b : ℤ) → ((k : ℕ) → P k → k ≡ i → ⊥) → AgreeOn P xs ys → AgreeOn P (slice_set xs i a) (slice_set ys i b)
agree-apart P xs ys i a b apart e = record {
  long = set-many xs i a ∙ e.long ∙ sym (set-many ys i b);
  at = λ k known. set-apart xs ys i k a b (apart k known) (e.at k known);
}

-- some places more, which are 0 in both
pub agree-zeroed : (n : ℕ) (P : ℕ → Type 0) (xs ys : List ℤ) (place : ℕ) → AgreeOn P xs ys →
    AgreeOn (λ k. P k ⊎ ((place ≤ k) × (k < place + n))) (zeroed xs place n) (zeroed ys place n)
agree-zeroed zero P xs ys place e = agree-less P _ xs ys (λ k known.
    ⊎_elim (λ p. p) (λ (in-it : (place ≤ k) × (k < place + 0)). let a = in-it.0 in let b = in-it.1 in absurd (omega (arith, a, b))) known) e
agree-zeroed (suc n) P xs ys place e =
    agree-less (λ k. (P k ⊎ (k ≡ place)) ⊎ ((suc place ≤ k) × (k < suc place + n))) _ _ _
    (λ k known. ⊎_elim (λ p. inl (inl p)) (λ (in-it : (place ≤ k) × (k < place + suc n)). next k in-it.0 in-it.1) known)
    (agree-zeroed n (λ k. P k ⊎ (k ≡ place)) (slice_set xs place (pos 0)) (slice_set ys place (pos 0)) (suc place) (agree-set P xs ys place (pos 0) e))
  where
    next : (k : ℕ) → place ≤ k → k < place + suc n → (P k ⊎ (k ≡ place)) ⊎ ((suc place ≤ k) × (k < suc place + n))
    next k low high = ⊎_elim (λ (here : k ≡ place). inl (inr here)) (λ (more : suc place ≤ k). inr (more, omega (arith, high))) (split k place low)
      where
        split : (k place : ℕ) → place ≤ k → (k ≡ place) ⊎ (suc place ≤ k)
        split zero zero low = inl refl
        split (suc k) zero low = inr (omega arith)
        split zero (suc place) low = absurd (omega (arith, low))
        split (suc k) (suc place) low = ⊎_elim (λ (e : k ≡ place). inl (ap suc e)) (λ (m : suc place ≤ k). inr (omega (arith, m))) (split k place (omega (arith, low)))

-- words from a place on, each of which is the same where they have to agree
pub agree-overwritten-by : (zs vs : List ℤ) (P : ℕ → Type 0) (xs ys : List ℤ) (place : ℕ) → length zs ≡ length vs →
    ((k : ℕ) → k < length zs → P (place + k) → slice_index_or zs k (pos 0) ≡ slice_index_or vs k (pos 0)) → AgreeOn P xs ys → AgreeOn P (overwritten xs place zs) (overwritten ys place vs)
agree-overwritten-by [] [] P xs ys place many same e = e
agree-overwritten-by [] (v ∷ vs) P xs ys place many same e = absurd (omega (arith, many))
agree-overwritten-by (z ∷ zs) [] P xs ys place many same e = absurd (omega (arith, many))
agree-overwritten-by (z ∷ zs) (v ∷ vs) P xs ys place many same e =
    agree-overwritten-by zs vs P (slice_set xs place z) (slice_set ys place v) (suc place) (omega (arith, many))
    (λ k low known. same (suc k) (omega (arith, low)) (subst P (shifted place k) known))
    (record {
      long = set-many xs place z ∙ e.long ∙ sym (set-many ys place v);
      at = λ k known. set-each xs ys place k z v e.long (λ here. same 0 (omega arith) (subst P (first k place here) known)) (λ other. e.at k known);
    })
  where
    first : (k place : ℕ) → k ≡ place → k ≡ place + 0
    first k place here = omega (arith, here)

    shifted : (place k : ℕ) → suc place + k ≡ place + suc k
    shifted place k = omega arith

-- the same words from a place on
pub agree-overwritten : (zs : List ℤ) (P : ℕ → Type 0) (xs ys : List ℤ) (place : ℕ) → AgreeOn P xs ys → AgreeOn P (overwritten xs place zs) (overwritten ys place zs)
agree-overwritten zs P xs ys place e = agree-overwritten-by zs zs P xs ys place refl (λ k low known. refl) e

-- words from a place on that are the same are so as a list
pub agree-words : (n : ℕ) (P : ℕ → Type 0) (xs ys : List ℤ) (place : ℕ) → ((k : ℕ) → k < n → P (place + k)) → AgreeOn P xs ys → words_at xs place n ≡ words_at ys place n
agree-words zero P xs ys place known e = refl
agree-words (suc n) P xs ys place known e =
    let here : slice_index_or xs place (pos 0) ≡ slice_index_or ys place (pos 0) =
    subst (λ (k : ℕ). slice_index_or xs k (pos 0) ≡ slice_index_or ys k (pos 0)) (first place) (e.at (place + 0) (known 0 (omega arith))) in
    ap (λ (z : ℤ). z ∷ words_at xs (suc place) n) here
    ∙ ap (λ (zs : List ℤ). slice_index_or ys place (pos 0) ∷ zs)
    (agree-words n P xs ys (suc place) (λ k low. subst P (shifted place k) (known (suc k) (omega (arith, low)))) e)
  where
    first : (place : ℕ) → place + 0 ≡ place
    first place = omega arith

    shifted : (place k : ℕ) → place + suc k ≡ suc place + k
    shifted place k = omega arith
