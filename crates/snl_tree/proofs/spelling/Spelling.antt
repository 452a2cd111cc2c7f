-- Spellings put together and taken apart.
use Rattle.std.proofs.Common.{◌≡◌, ◌≤◌, List, [], ◌∷◌, ◌++◌, ◌⊎◌, inl, inr, refl, sym, length, subst, arith, le_refl}
use Rattle.snl_text.specs.declared.tokens.Token.{Token}
use Rattle.snl_syntax.specs.Slots.{Slot, Spelled}

-- tokens that spell one list of slots and then another spell the two joined
pub spelled_join : (a b : List Slot) (ts mid rest : List Token) → Spelled a ts mid → Spelled b mid rest → Spelled (a ++ b) ts rest
spelled_join [] b ts mid rest h k = subst (λ x. Spelled b x rest) (sym h) k
spelled_join (s ∷ a) b [] mid rest h k = absurd h
spelled_join (s ∷ a) b (t ∷ ts) mid rest h k = (h.0, spelled_join a b ts mid rest h.1 k)

-- tokens that spell two lists of slots joined spell the first, and from there the second
pub spelled_split : (a b : List Slot) (ts rest : List Token) → Spelled (a ++ b) ts rest → (mid : List Token) × Spelled a ts mid × Spelled b mid rest
spelled_split [] b ts rest h = (ts, refl, h)
spelled_split (s ∷ a) b [] rest h = absurd h
spelled_split (s ∷ a) b (t ∷ ts) rest h =
    let more = spelled_split a b ts rest h.1 in (more.0, (h.0, more.1), more.2)

-- after tokens that spell slots no more is left than there was
pub spelled_length : (a : List Slot) (ts rest : List Token) → Spelled a ts rest → length rest ≤ length ts
spelled_length [] ts rest h = subst (λ x. length x ≤ length ts) h (le_refl _)
spelled_length (s ∷ a) [] rest h = absurd h
spelled_length (s ∷ a) (t ∷ ts) rest h = let e = spelled_length a ts rest h.1 in omega arith

-- a cut of two lists after one another lies in the first, or in the second
pub append_split : (xs ys front back : List Slot) → xs ++ ys ≡ front ++ back → ((m : List Slot) × (xs ≡ front ++ m)) ⊎ ((m : List Slot) × (front ≡ xs ++ m) × (ys ≡ m ++ back))
append_split [] ys front back e = inr (front, refl, e)
append_split (x ∷ xs) ys [] back e = inl (x ∷ xs, refl)
append_split (x ∷ xs) ys (f ∷ front) back e =
    let h : x ≡ f = cc in
    let t : xs ++ ys ≡ front ++ back = cc in
    elim (append_split xs ys front back t) [ inl m ↦ inl (m.0, cc m.1) | inr m ↦ inr (m.0, cc m.1, m.2) ]
