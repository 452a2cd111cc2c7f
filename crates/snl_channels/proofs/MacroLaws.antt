-- Laws of macros: a text and its first piece, the last of more definitions, a name and its first brackets.
use Rattle.std.proofs.Common.{◌≡◌, ℕ, true, false, cond, eqb, List, [], ◌∷◌, ◌++◌, Option, None, Some, option_map, unwrap_or, refl, sym, ap, ◌∙◌, append_assoc, append-nil, Bor, Result, Ok, Err, IfOk, IfSome, length, suc, ◌<◌, subst, arith}
use Rattle.std.specs.Prelude.{bytes_eq}
use Rattle.std.specs.List.{flat_map}
use Rattle.std.specs.HashMap.{HashMap, get_by}
use Rattle.std.specs.Map.{lookup}
use Rattle.std.specs.Option.{option_or}
use Rattle.snl_channels.specs.Texts.{before, after}
use Rattle.snl_channels.specs.Macros.{Macro, with_first, pieces, defined_by, definitions, last_value, macro_value, replaced}
use Rattle.snl_channels.specs.MacroTables.{found}
use Rattle.snl_channels.specs.MacroViews.{left_of, left_size}

-- what a function gives for the rest of a plain text, if there is a rest
abbrev pub rest_of : {A : Type 0} → (List ℕ → List A) → Option (List ℕ) → List A
rest_of f None = []
rest_of f (Some t) = f t

-- the same of a borrowed rest
pub rest_is : {A : Type 0} (f : List ℕ → List A) (t : Option (Bor (List ℕ))) → left_of f t ≡ rest_of f (option_map (λ b. b.now) t)
rest_is f None = refl
rest_is f (Some t) = refl

-- a text's first piece, and those after it
pub first_piece : (text : List ℕ) → pieces text ≡ before 44 text ∷ rest_of pieces (after 44 text)
first_piece [] = refl
first_piece (b ∷ more) =
    elim (eqb b 44) as (λ t. cond t ([] ∷ pieces more) (with_first b (pieces more)) ≡ cond t [] (b ∷ before 44 more) ∷ rest_of pieces (cond t (Some more) (after 44 more)))
    [ true ↦ refl | false ↦ ap (with_first b) (first_piece more) ]

-- what a text defines: what its first piece does, and what those after it do
pub first_defined : (text : List ℕ) → definitions text ≡ defined_by (before 44 text) ++ rest_of definitions (after 44 text)
first_defined text =
    ap (flat_map defined_by) (first_piece text)
    ∙ ap (λ l. defined_by (before 44 text) ++ l) (elim (after 44 text) as (λ o. flat_map defined_by (rest_of pieces o) ≡ rest_of definitions o) [ None ↦ refl | Some t ↦ refl ])

pub option_or_assoc : {A : Type 0} (a b c : Option A) → option_or (option_or a b) c ≡ option_or a (option_or b c)
option_or_assoc None b c = refl
option_or_assoc (Some x) b c = refl

-- the last of more definitions
pub last_of_both : (q : List ℕ) (xs ys : List Macro) → last_value q (xs ++ ys) ≡ option_or (last_value q ys) (last_value q xs)
last_of_both q [] ys = elim (last_value q ys) as (λ o. o ≡ option_or o None) [ None ↦ refl | Some t ↦ refl ]
last_of_both q (x ∷ xs) ys =
    let here = cond (bytes_eq x.name q) (Some x.value) None in
    ap (λ o. option_or o here) (last_of_both q xs ys) ∙ option_or_assoc (last_value q ys) (last_value q xs) here

-- one more definition is in the table
pub noted : {S : Type 0} (m n : HashMap (Bor (List ℕ)) (Bor (List ℕ)) S) (k v : Bor (List ℕ)) (all : List Macro)
    → ((q : Bor (List ℕ)) → get_by (λ key. bytes_eq q.now key.now) n ≡ cond (bytes_eq k.now q.now) (Some v) (get_by (λ key. bytes_eq q.now key.now) m))
    → record { name = k.now; value = v.now } ∷ [] ≡ all
    → (q : List ℕ) → found n q ≡ option_or (last_value q all) (found m q)
noted m n k v all updates e q =
    let was = get_by (λ key. bytes_eq q key.now) m in
    ap (option_map (λ b. b.now)) (updates (record { ref_ptr = (0, 0); now = q }))
    ∙ elim (bytes_eq k.now q) as (λ t. option_map (λ b. b.now) (cond t (Some v) was) ≡ option_or (option_or None (cond t (Some v.now) None)) (option_map (λ b. b.now) was)) [ true ↦ refl | false ↦ refl ]
    ∙ ap (λ l. option_or (last_value q l) (found m q)) e

-- one more piece of a text is noted
pub piece_step : (q text piece : List ℕ) (left : Option (Bor (List ℕ))) (old new start : Option (List ℕ))
    → piece ≡ before 44 text → option_map (λ b. b.now) left ≡ after 44 text
    → new ≡ option_or (last_value q (defined_by piece)) old
    → option_or (last_value q (definitions text)) old ≡ start
    → option_or (last_value q (left_of definitions left)) new ≡ start
piece_step q text piece left old new start ep el en inv =
    ap (λ o. option_or (last_value q (left_of definitions left)) o) (en ∙ ap (λ p. option_or (last_value q (defined_by p)) old) ep)
    ∙ ap (λ l. option_or (last_value q l) (option_or (last_value q (defined_by (before 44 text))) old)) (rest_is definitions left ∙ ap (rest_of definitions) el)
    ∙ sym (option_or_assoc (last_value q (rest_of definitions (after 44 text))) (last_value q (defined_by (before 44 text))) old)
    ∙ ap (λ o. option_or o old) (sym (last_of_both q (defined_by (before 44 text)) (rest_of definitions (after 44 text))) ∙ ap (last_value q) (sym (first_defined text)))
    ∙ inv

-- the macros of two texts, one noted after the other: the value of the last definition
pub both_found : (q : List ℕ) (xs ys : List Macro) (first second : Option (List ℕ)) → first ≡ option_or (last_value q xs) None → second ≡ option_or (last_value q ys) first
    → second ≡ last_value q (xs ++ ys)
both_found q xs ys first second ef es =
    let last : option_or (last_value q xs) None ≡ last_value q xs = elim (last_value q xs) as (λ o. option_or o None ≡ o) [ None ↦ refl | Some t ↦ refl ] in
    es ∙ ap (option_or (last_value q ys)) (ef ∙ last) ∙ sym (last_of_both q xs ys)

-- and what stands for the name
pub both_noted : (q : List ℕ) (xs ys : List Macro) (first second : Option (List ℕ)) → first ≡ option_or (last_value q xs) None → second ≡ option_or (last_value q ys) first
    → unwrap_or second [] ≡ macro_value (xs ++ ys) q
both_noted q xs ys first second ef es = ap (λ o. unwrap_or o []) (both_found q xs ys first second ef es)

-- a name up to its first `{`, and what stands for the rest
pub up_to_open : (value : List ℕ → List ℕ) (text : List ℕ) → replaced value None text ≡ before 123 text ++ rest_of (replaced value (Some [])) (after 123 text)
up_to_open value [] = refl
up_to_open value (b ∷ more) =
    elim (eqb b 123) as (λ t. cond t (replaced value (Some []) more) (b ∷ replaced value None more)
    ≡ cond t [] (b ∷ before 123 more) ++ rest_of (replaced value (Some [])) (cond t (Some more) (after 123 more)))
    [ true ↦ refl | false ↦ ap (λ l. b ∷ l) (up_to_open value more) ]

-- what stands for a text after a `{`
abbrev pub closed_by : (List ℕ → List ℕ) → List ℕ → List ℕ → Option (List ℕ) → List ℕ
closed_by value all inside None = 123 ∷ all
closed_by value all inside (Some left) = value inside ++ replaced value None left

pub up_to_close : (value : List ℕ → List ℕ) (kept text : List ℕ) → replaced value (Some kept) text ≡ closed_by value (kept ++ text) (kept ++ before 125 text) (after 125 text)
up_to_close value kept [] = ap (λ l. 123 ∷ l) (sym (append-nil kept))
up_to_close value kept (b ∷ more) =
    elim (eqb b 125) as (λ t. cond t (value kept ++ replaced value None more) (replaced value (Some (kept ++ b ∷ [])) more)
    ≡ closed_by value (kept ++ b ∷ more) (kept ++ cond t [] (b ∷ before 125 more)) (cond t (Some more) (after 125 more))) [
      | true ↦ ap (λ l. value l ++ replaced value None more) (sym (append-nil kept))
      | false ↦ up_to_close value (kept ++ b ∷ []) more
          ∙ (λ j. closed_by value (append_assoc kept (b ∷ []) more j) (append_assoc kept (b ∷ []) (before 125 more) j) (after 125 more))
    ]

-- a rest that is shorter than what was left
pub left_falls : (left part : Option (Bor (List ℕ))) (text : Bor (List ℕ)) → left ≡ Some text → IfSome part (λ t. length t.now < length text.now) → left_size part < left_size left
left_falls left part text e h = subst (λ o. left_size part < left_size o) (sym e) (elim part as (λ (o : Option (Bor (List ℕ))). IfSome o (λ t. length t.now < length text.now) → left_size o < suc (length text.now)) [ None ↦ (λ i. omega arith) | Some t ↦ (λ i. omega arith) ] h)

-- a `{` with its `}`: the value stands in their place
pub closed_step : (v : List ℕ → List ℕ) (opened inside val old new : List ℕ) (rest : Option (Bor (List ℕ))) (left : Bor (List ℕ))
    → inside ≡ before 125 opened → option_map (λ b. b.now) rest ≡ after 125 opened → rest ≡ Some left → val ≡ v inside → new ≡ old ++ val
    → new ++ replaced v None left.now ≡ old ++ replaced v (Some []) opened
closed_step v opened inside val old new rest left ei er es ev en =
    let ea : Some left.now ≡ after 125 opened = sym (ap (option_map (λ b. b.now)) es) ∙ er in
    ap (λ l. l ++ replaced v None left.now) (en ∙ ap (λ x. old ++ x) (ev ∙ ap v ei)) ∙ append_assoc old (v (before 125 opened)) (replaced v None left.now)
    ∙ ap (λ o. old ++ closed_by v opened (before 125 opened) o) ea ∙ ap (λ l. old ++ l) (sym (up_to_close v [] opened))

-- a `{` without one stays, with what stands after it
pub open_step : (v : List ℕ → List ℕ) (opened old mid new : List ℕ) (rest : Option (Bor (List ℕ)))
    → option_map (λ b. b.now) rest ≡ after 125 opened → rest ≡ None → mid ≡ old ++ 123 ∷ [] → new ≡ mid ++ opened
    → new ++ [] ≡ old ++ replaced v (Some []) opened
open_step v opened old mid new rest er es em en =
    let ea : None ≡ after 125 opened = sym (ap (option_map (λ b. b.now)) es) ∙ er in
    append-nil new ∙ en ∙ ap (λ l. l ++ opened) em ∙ append_assoc old (123 ∷ []) opened
    ∙ ap (λ o. old ++ closed_by v opened (before 125 opened) o) ea ∙ ap (λ l. old ++ l) (sym (up_to_close v [] opened))

-- a name with a `{`, by what stands for the text after that
pub first_step : (v : List ℕ → List ℕ) (name front old mid : List ℕ) (rest : Option (Bor (List ℕ))) (opened : Bor (List ℕ))
    → front ≡ before 123 name → option_map (λ b. b.now) rest ≡ after 123 name → rest ≡ Some opened → mid ≡ old ++ front
    → mid ++ replaced v (Some []) opened.now ≡ old ++ replaced v None name
first_step v name front old mid rest opened ef er es em =
    let ea : Some opened.now ≡ after 123 name = sym (ap (option_map (λ b. b.now)) es) ∙ er in
    ap (λ l. l ++ replaced v (Some []) opened.now) (em ∙ ap (λ x. old ++ x) ef) ∙ append_assoc old (before 123 name) (replaced v (Some []) opened.now)
    ∙ ap (λ o. old ++ (before 123 name ++ rest_of (replaced v (Some [])) o)) ea ∙ ap (λ l. old ++ l) (sym (up_to_open v name))

-- and one without
pub plain_step : (v : List ℕ → List ℕ) (name front old new : List ℕ) (rest : Option (Bor (List ℕ)))
    → front ≡ before 123 name → option_map (λ b. b.now) rest ≡ after 123 name → rest ≡ None → new ≡ old ++ front
    → new ++ [] ≡ old ++ replaced v None name
plain_step v name front old new rest ef er es en =
    let ea : None ≡ after 123 name = sym (ap (option_map (λ b. b.now)) es) ∙ er in
    append-nil new ∙ en ∙ ap (λ x. old ++ x) (ef ∙ sym (append-nil (before 123 name)))
    ∙ ap (λ o. old ++ (before 123 name ++ rest_of (replaced v (Some [])) o)) ea ∙ ap (λ l. old ++ l) (sym (up_to_open v name))

-- what holds of an answer holds of what follows from it
pub follows : {A E : Type 0} {P Q : A → Type 0} (r : Result A E) → ((x : A) → P x → Q x) → IfOk r P → IfOk r Q
follows (Ok x) f h = f x h
follows (Err e) f h = tt

-- nothing is found in an empty table
pub found_nothing : {S : Type 0} (m : HashMap (Bor (List ℕ)) (Bor (List ℕ)) S) (q : List ℕ) → m.entries ≡ [] → found m q ≡ None
found_nothing m q e = ap (λ es. option_map (λ b. b.now) (lookup (λ key. bytes_eq q key.now) es)) e
