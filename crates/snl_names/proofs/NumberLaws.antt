-- A table of names has the number of the first of each.
use Rattle.std.proofs.Common.{◌≡◌, ℕ, ◌+◌, ◌<◌, suc, true, false, cond, List, [], ◌∷◌, ◌++◌, length, get_or, take, Option, None, Some, nat_eq, refl, sym, ap, ◌∙◌, Bor, arith, length-take}
use Rattle.std.specs.Cmp.Lexicographic.{pointwise}
use Rattle.std.specs.HashMap.{HashMap, get_by}
use Rattle.std.specs.Map.{lookup}
use Rattle.std.proofs.lemmas.List.{take_more}
use Rattle.indexmap.specs.IndexMap.{insert_entry}
use Rattle.indexmap.proofs.CallerLemmas.{insert_entry-new}
use Rattle.snl_text.specs.declared.tokens.Token.{Token}
use Rattle.snl_names.specs.Numbered.{number_from, number_of}
use Rattle.snl_names.specs.NumberTables.{number_in, only_number}
use Rattle.snl_names.specs.Scopes.{is_spelled, or_in}

-- an entry at the end is found where none before it is
lookup_last : (q : List ℕ) (t : Token) (k : ℕ) (es : List (Bor (List ℕ) × ℕ)) → lookup (λ key. pointwise nat_eq q key.now) (es ++ (t.text, k) ∷ [])
    ≡ or_in (lookup (λ key. pointwise nat_eq q key.now) es) (only_number q t k)
lookup_last q t k [] = refl
lookup_last q t k (e ∷ es) =
    elim (pointwise nat_eq q e.0.now) as (λ b. cond b (Some e.1) (lookup (λ key. pointwise nat_eq q key.now) (es ++ (t.text, k) ∷ []))
    ≡ or_in (cond b (Some e.1) (lookup (λ key. pointwise nat_eq q key.now) es)) (only_number q t k)) [ true ↦ refl | false ↦ lookup_last q t k es ]

-- and so with a name at the end
number_from_last : (q : List ℕ) (k : ℕ) (ts : List Token) (t : Token) (m : ℕ) → m ≡ k + length ts → number_from k (ts ++ t ∷ []) q ≡ or_in (number_from k ts q) (only_number q t m)
number_from_last q k [] t m e = let h : k ≡ m = omega arith in ap (λ n. only_number q t n) h
number_from_last q k (s ∷ ts) t m e =
    elim (is_spelled q s) as (λ b. cond b (Some k) (number_from (suc k) (ts ++ t ∷ []) q) ≡ or_in (cond b (Some k) (number_from (suc k) ts q)) (only_number q t m))
    [ true ↦ refl | false ↦ number_from_last q (suc k) ts t m (omega arith) ]

-- what is found after a name was added
pub number_after : {S : Type 0} (m n : HashMap (Bor (List ℕ)) ℕ S) (t : Token) (k : ℕ) → get_by (λ key. pointwise nat_eq t.text.now key.now) m ≡ None → n.entries
    ≡ insert_entry (λ a b. pointwise nat_eq a.now b.now) m.entries t.text k → (q : List ℕ) → number_in n q ≡ or_in (number_in m q) (only_number q t k)
number_after m n t k none e q =
    ap (lookup (λ key. pointwise nat_eq q key.now)) (e ∙ insert_entry-new (λ a b. pointwise nat_eq a.now b.now) m t.text k none)
    ∙ lookup_last q t k m.entries

-- one more name is in the table
pub number_step : (names : List Token) (i : ℕ) (d : Token) → i < length names → (before after : List ℕ → Option ℕ)
    → ((q : List ℕ) → before q ≡ number_of (take i names) q)
    → ((q : List ℕ) → after q ≡ or_in (before q) (only_number q (get_or names i d) i))
    → (q : List ℕ) → after q ≡ number_of (take (i + 1) names) q
number_step names i d h before after inv step q =
    step q ∙ ap (λ o. or_in o (only_number q (get_or names i d) i)) (inv q)
    ∙ sym (number_from_last q 0 (take i names) (get_or names i d) i (omega (arith, length-take i names))) ∙ ap (λ l. number_of l q) (sym (take_more names i d h))
