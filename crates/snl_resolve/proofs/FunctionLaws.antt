-- The table of functions has the first of each name.
use Rattle.std.proofs.Common.{◌≡◌, ℕ, true, false, cond, List, [], ◌∷◌, ◌++◌, Option, None, Some, nat_eq, refl, sym, ap, ◌∙◌, Bor}
use Rattle.std.specs.Cmp.Lexicographic.{pointwise}
use Rattle.std.specs.HashMap.{HashMap, get_by}
use Rattle.std.specs.Map.{lookup}
use Rattle.indexmap.specs.IndexMap.{insert_entry}
use Rattle.indexmap.proofs.CallerLemmas.{insert_entry-new}
use Rattle.snl_names.specs.declared.calls.Heading.{Heading}
use Rattle.snl_names.specs.Calls.{heading_in}
use Rattle.snl_resolve.specs.FunctionTables.{function_in, only_function}
use Rattle.snl_names.specs.Scopes.{is_spelled, or_in}

-- an entry at the end is found where none before it is
lookup_last : (q : List ℕ) (f : Heading) (es : List (Bor (List ℕ) × Heading)) → lookup (λ key. pointwise nat_eq q key.now) (es ++ (f.name.text, f) ∷ [])
    ≡ or_in (lookup (λ key. pointwise nat_eq q key.now) es) (only_function q f)
lookup_last q f [] = refl
lookup_last q f (e ∷ es) =
    elim (pointwise nat_eq q e.0.now) as (λ b. cond b (Some e.1) (lookup (λ key. pointwise nat_eq q key.now) (es ++ (f.name.text, f) ∷ []))
    ≡ or_in (cond b (Some e.1) (lookup (λ key. pointwise nat_eq q key.now) es)) (only_function q f)) [ true ↦ refl | false ↦ lookup_last q f es ]

-- and so with a function behind others
heading_in_last : (q : List ℕ) (fs : List Heading) (f : Heading) → heading_in (fs ++ f ∷ []) q ≡ or_in (heading_in fs q) (only_function q f)
heading_in_last q [] f = refl
heading_in_last q (g ∷ fs) f =
    elim (is_spelled q g.name) as (λ b. cond b (Some g) (heading_in (fs ++ f ∷ []) q) ≡ or_in (cond b (Some g) (heading_in fs q)) (only_function q f))
    [ true ↦ refl | false ↦ heading_in_last q fs f ]

-- What is found after a function was added.
pub function_after : {S : Type 0} (m n : HashMap (Bor (List ℕ)) Heading S) (f : Heading) → get_by (λ key. pointwise nat_eq f.name.text.now key.now) m ≡ None
    → n.entries ≡ insert_entry (λ a b. pointwise nat_eq a.now b.now) m.entries f.name.text f → (q : List ℕ) → function_in n q ≡ or_in (function_in m q) (only_function q f)
function_after m n f none e q =
    ap (lookup (λ key. pointwise nat_eq q key.now)) (e ∙ insert_entry-new (λ a b. pointwise nat_eq a.now b.now) m f.name.text f none)
    ∙ lookup_last q f m.entries

-- One more function is in the table.
pub table_with : (fs gs : List Heading) (f : Heading) (before after : List ℕ → Option Heading)
    → ((q : List ℕ) → before q ≡ heading_in fs q)
    → ((q : List ℕ) → after q ≡ or_in (before q) (only_function q f))
    → gs ≡ fs ++ f ∷ []
    → (q : List ℕ) → after q ≡ heading_in gs q
table_with fs gs f before after inv step e q =
    step q ∙ ap (λ o. or_in o (only_function q f)) (inv q) ∙ sym (heading_in_last q fs f) ∙ ap (λ l. heading_in l q) (sym e)
