-- Laws of tables: what stands at the number of the first declaration at an offset.
use Rattle.std.proofs.Common.{◌≡◌, ℕ, suc, ◌+◌, ◌<◌, ◌==◌, true, false, cond, List, [], ◌∷◌, drop, get_or, length, map, Option, Some, option_map, slice_get, unwrap_or, refl, sym, ap, ◌∙◌, add-one, arith, Bor}
use Rattle.std.specs.Prelude.{bytes_eq}
use Rattle.std.proofs.Math.Seq.{drop-cons}
use Rattle.snl_meaning.specs.declared.instrs.Variable.{Variable}
use Rattle.snl_meaning.specs.declared.names.Placed.{Placed}
use Rattle.snl_meaning.specs.Names.{number_at, text_number, variable_in}

-- The variable that is declared at an offset stands at the number of its declaration.
pub placed_found : (vs : List Placed) (q : ℕ) → option_map (λ v. v.variable) (slice_get vs (number_at (map (λ v. v.offset) vs) q)) ≡ variable_in vs q
placed_found [] q = refl
placed_found (v ∷ vs) q =
    elim (v.offset == q) as (λ b. option_map (λ (x : Placed). x.variable) (slice_get (v ∷ vs) (cond b 0 (suc (number_at (map (λ v. v.offset) vs) q)))) ≡ cond b (Some v.variable) (variable_in vs q))
    [ true ↦ refl | false ↦ placed_found vs q ]

-- One string more is in the table of strings, before those that are there.
pub string_step : (all : List (Bor (List ℕ))) (i size : ℕ) (t d : Bor (List ℕ)) → i < length all → t ≡ get_or all i d → (before after : List ℕ → Option ℕ)
    → ((q : List ℕ) → unwrap_or (before q) size ≡ (i + 1) + text_number (map (λ s. s.now) (drop (i + 1) all)) q)
    → ((q : Bor (List ℕ)) → after q.now ≡ cond (bytes_eq t.now q.now) (Some i) (before q.now))
    → (q : List ℕ) → unwrap_or (after q) size ≡ i + text_number (map (λ s. s.now) (drop i all)) q
string_step all i size t d h is before after inv step q =
    let rest = text_number (map (λ s. s.now) (drop (i + 1) all)) q in
    let front : drop i all ≡ t ∷ drop (i + 1) all = drop-cons all i d h ∙ (λ j. sym is j ∷ drop (sym (add-one i) j) all) in
    ap (λ o. unwrap_or o size) (step (record { ref_ptr = (0, 0); now = q }))
    ∙ (elim (bytes_eq t.now q) as (λ b. unwrap_or (cond b (Some i) (before q)) size ≡ i + cond b 0 (suc rest)) [ true ↦ omega arith | false ↦ omega (arith, inv q) ])
    ∙ ap (λ l. i + text_number (map (λ s. s.now) l) q) (sym front)

-- One offset more is in the table of offsets, before those that are there.
pub offset_step : (all : List ℕ) (i size t d : ℕ) → i < length all → t ≡ get_or all i d → (before after : ℕ → Option ℕ)
    → ((q : ℕ) → unwrap_or (before q) size ≡ (i + 1) + number_at (drop (i + 1) all) q) → ((q : ℕ) → after q ≡ cond (t == q) (Some i) (before q))
    → (q : ℕ) → unwrap_or (after q) size ≡ i + number_at (drop i all) q
offset_step all i size t d h is before after inv step q =
    let rest = number_at (drop (i + 1) all) q in
    let front : drop i all ≡ t ∷ drop (i + 1) all = drop-cons all i d h ∙ (λ j. sym is j ∷ drop (sym (add-one i) j) all) in
    ap (λ o. unwrap_or o size) (step q)
    ∙ (elim (t == q) as (λ b. unwrap_or (cond b (Some i) (before q)) size ≡ i + cond b 0 (suc rest)) [ true ↦ omega arith | false ↦ omega (arith, inv q) ])
    ∙ ap (λ l. i + number_at l q) (sym front)

-- The variable at the number of a declaration is the one that is declared there.
pub placed_got : (vs all : List Placed) (ds : List ℕ) (q n : ℕ) (o : Option Variable) → o ≡ option_map (λ v. v.variable) (slice_get all n) → n ≡ number_at ds q
    → ds ≡ map (λ v. v.offset) all → vs ≡ all → o ≡ variable_in vs q
placed_got vs all ds q n o got number declared same =
    got ∙ ap (λ k. option_map (λ v. v.variable) (slice_get all k)) (number ∙ ap (λ l. number_at l q) declared)
    ∙ placed_found all q ∙ ap (λ l. variable_in l q) (sym same)
