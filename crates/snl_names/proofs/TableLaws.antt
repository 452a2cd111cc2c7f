-- The table of a scope has the first declaration of each name.
use Rattle.std.proofs.Common.{◌≡◌, ℕ, ◌+◌, ◌<◌, Bool, true, false, cond, if◌then◌else◌, List, [], ◌∷◌, ◌++◌, length, get_or, take, drop, Option, None, Some, nat_eq, is_some, refl, sym, ap, ◌∙◌, append_assoc, add-one, Bor}
use Rattle.std.specs.Cmp.Lexicographic.{pointwise, same_text}
use Rattle.std.specs.HashMap.{HashMap, get_by}
use Rattle.std.specs.Map.{lookup}
use Rattle.std.proofs.Math.Seq.{drop-cons}
use Rattle.std.proofs.lemmas.Cmp.{nat_list_eq_equiv}
use Rattle.std.proofs.lemmas.List.{take_more}
use Rattle.indexmap.specs.IndexMap.{insert_entry}
use Rattle.indexmap.proofs.CallerLemmas.{insert_entry-new}
use Rattle.snl_names.specs.declared.scopes.Declared.{Declared}
use Rattle.snl_names.specs.declared.sites.Site.{Site}
use Rattle.snl_names.specs.declared.sites.Site.TheVariants.{Declaration}
use Rattle.snl_names.specs.Scopes.{first_of, is_spelled, or_in}
use Rattle.snl_names.specs.Sites.{declares, is_flag, words_of}
use Rattle.snl_names.specs.Tables.{found_in, only}

-- what is not there
pub none_of : {A : Type 0} (o : Option A) → is_some o ≡ false → o ≡ None
none_of None e = refl
none_of (Some t) e = cc

-- what is nothing is not there
pub none_where : {A : Type 0} (o : Option A) → ((x : A) → o ≡ Some x → ⊥) → o ≡ None
none_where None never = refl
none_where (Some x) never = absurd (never x refl)

-- an entry at the end is found where none before it is
pub lookup_last : (q : List ℕ) (t : Declared) (es : List (Bor (List ℕ) × Declared)) → lookup (λ key. pointwise nat_eq q key.now) (es ++ (t.name.text, t) ∷ [])
    ≡ or_in (lookup (λ key. pointwise nat_eq q key.now) es) (only q t)
lookup_last q t [] = refl
lookup_last q t (e ∷ es) =
    elim (pointwise nat_eq q e.0.now) as (λ b. cond b (Some e.1) (lookup (λ key. pointwise nat_eq q key.now) (es ++ (t.name.text, t) ∷ []))
    ≡ or_in (cond b (Some e.1) (lookup (λ key. pointwise nat_eq q key.now) es)) (only q t)) [ true ↦ refl | false ↦ lookup_last q t es ]

-- and so with a name at the end of a scope
pub first_of_last : (q : List ℕ) (ts : List Declared) (t : Declared) → first_of q (ts ++ t ∷ []) ≡ or_in (first_of q ts) (only q t)
first_of_last q [] t = refl
first_of_last q (s ∷ ts) t =
    elim (is_spelled q s.name) as (λ b. cond b (Some s) (first_of q (ts ++ t ∷ [])) ≡ or_in (cond b (Some s) (first_of q ts)) (only q t)) [ true ↦ refl | false ↦ first_of_last q ts t ]

-- what is found after a name was added
pub found_after : {S : Type 0} (m n : HashMap (Bor (List ℕ)) Declared S) (t : Declared) → get_by (λ key. pointwise nat_eq t.name.text.now key.now) m ≡ None
    → n.entries ≡ insert_entry (λ a b. pointwise nat_eq a.now b.now) m.entries t.name.text t → (q : List ℕ) → found_in n q ≡ or_in (found_in m q) (only q t)
found_after m n t none e q =
    ap (lookup (λ key. pointwise nat_eq q key.now)) (e ∙ insert_entry-new (λ a b. pointwise nat_eq a.now b.now) m t.name.text t none)
    ∙ lookup_last q t m.entries

-- the first of two
or_none : {A : Type 0} (o : Option A) → or_in o None ≡ o
or_none None = refl
or_none (Some x) = refl

-- a first declaration that another one replaced, and that was put back, is found as before
pub found_back : {S : Type 0} (m n back : HashMap (Bor (List ℕ)) Declared S) (t first : Declared) → Some first ≡ found_in m t.name.text.now
    → ((q : Bor (List ℕ)) → found_in n q.now ≡ cond (pointwise nat_eq t.name.text.now q.now) (Some t) (found_in m q.now))
    → ((q : Bor (List ℕ)) → found_in back q.now ≡ cond (pointwise nat_eq t.name.text.now q.now) (Some first) (found_in n q.now))
    → (q : List ℕ) → found_in back q ≡ or_in (found_in m q) (only q t)
found_back m n back t first there replaced put_back q = by (pointwise nat_eq k q) refl
  where
    k : List ℕ
    k = t.name.text.now

    key : Bor (List ℕ)
    key = record { ref_ptr = (0, 0); now = q }

    by : (b : Bool) → pointwise nat_eq k q ≡ b → found_in back q ≡ or_in (found_in m q) (only q t)
    by true same =
        put_back key ∙ ap (λ b. cond b (Some first) (found_in n q)) same
        ∙ sym (ap (λ o. or_in o (only q t)) (ap (found_in m) (sym (same_text k q (sym same))) ∙ sym there))
    by false other =
        put_back key ∙ ap (λ b. cond b (Some first) (found_in n q)) other ∙ replaced key ∙ ap (λ b. cond b (Some t) (found_in m q)) other
        ∙ sym (ap (λ b. or_in (found_in m q) (if b then Some t else None)) (nat_list_eq_equiv.symm q k ∙ other) ∙ or_none (found_in m q))

-- one more name is in the table
pub table_step : (names : List Declared) (i : ℕ) (d : Declared) → i < length names → (before after : List ℕ → Option Declared)
    → ((q : List ℕ) → before q ≡ first_of q (take i names))
    → ((q : List ℕ) → after q ≡ or_in (before q) (only q (get_or names i d)))
    → (q : List ℕ) → after q ≡ first_of q (take (i + 1) names)
table_step names i d h before after inv step q =
    step q ∙ ap (λ o. or_in o (only q (get_or names i d))) (inv q)
    ∙ sym (first_of_last q (take i names) (get_or names i d)) ∙ ap (first_of q) (sym (take_more names i d h))

-- one more name is noted
pub declared_step : (names : List Declared) (i : ℕ) (d : Declared) → i < length names → (before : List ℕ → Option Declared) (old new all : List Site)
    → ((q : List ℕ) → before q ≡ first_of q (take i names))
    → old ++ declares (take i names) (drop i names) ≡ all
    → new ≡ old ++ Declaration (get_or names i d).name (is_flag (get_or names i d)) (is_some (before (get_or names i d).name.text.now)) (words_of (get_or names i d)) ∷ []
    → new ++ declares (take (i + 1) names) (drop (i + 1) names) ≡ all
declared_step names i d h before old new all inv so_far e =
    let t = get_or names i d in
    let front : take (i + 1) names ≡ take i names ++ t ∷ [] = take_more names i d h in
    let back : drop i names ≡ t ∷ drop (i + 1) names = drop-cons names i d h ∙ ap (λ k. t ∷ drop k names) (sym (add-one i)) in
    let site : Option Declared → Site = λ o. Declaration t.name (is_flag t) (is_some o) (words_of t) in
    let added : new ≡ old ++ site (first_of t.name.text.now (take i names)) ∷ [] = e ∙ ap (λ o. old ++ site o ∷ []) (inv t.name.text.now) in
    (λ j. added j ++ declares (front j) (drop (i + 1) names))
    ∙ append_assoc old (site (first_of t.name.text.now (take i names)) ∷ []) (declares (take i names ++ t ∷ []) (drop (i + 1) names))
    ∙ ap (λ l. old ++ declares (take i names) l) (sym back) ∙ so_far
