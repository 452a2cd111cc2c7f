-- Variables, found by the offsets of their declarations.
use Rattle.std.proofs.Common.{◌≡◌, ◌∙◌, ◌<◌, ◌==◌, ℕ, zero, suc, List, [], ◌∷◌, Vec, Global, true, false, Option, None, Some, refl, sym, ap, drop, get_or, length, map, slice_get, slice_index_or, cond, arith}
use Rattle.snl_names.specs.CopyVariables.{variable_view}
use Rattle.snl_names.specs.Variables.{CopyVariable}
use Rattle.snl_names.specs.declared.copy_variables.CopyVariable as declared
use Rattle.snl_flat.specs.Copies.{sets_of}
use Rattle.snl_meaning.specs.Names.{number_at}
use Rattle.snl_load.specs.Initials.{held_in, held_among}
use Rattle.snl_load.specs.Offsets.{first_of, offsets_of}

-- the variable that is declared at an offset stands at the number of that offset
found-in : (vs : List CopyVariable) (q : ℕ) → held_in vs q ≡ slice_get vs (number_at (offsets_of vs) q)
found-in [] q = refl
found-in (v ∷ vs) q =
    elim (v.name.pos.offset == q) as (λ b. cond b (Some v) (held_in vs q) ≡ slice_get (v ∷ vs) (cond b 0 (suc (number_at (offsets_of vs) q)))) [ true ↦ refl | false ↦ found-in vs q ]

-- the first copy decides, and where it has no such variable the others
found-first : (sets : List (List CopyVariable)) (q : ℕ) → held_among sets q ≡ elim (held_in (first_of sets) q) [ Some v ↦ Some v | None ↦ held_among (drop 1 sets) q ]
found-first [] q = refl
found-first (vs ∷ more) q = refl

-- what the table of the first copy finds
pub found-there : (sets : List (List CopyVariable)) (ds : List ℕ) (q n : ℕ) (o : Option CopyVariable) (v : CopyVariable) → ds ≡ offsets_of (first_of sets) → n ≡ number_at ds q
    → slice_get (first_of sets) n ≡ Some v → o ≡ Some v → o ≡ held_among sets q
found-there sets ds q n o v declared number there is =
    let found : held_in (first_of sets) q ≡ Some v =
    found-in (first_of sets) q ∙ ap (slice_get (first_of sets)) (ap (λ l. number_at l q) (sym declared) ∙ sym number) ∙ there in
    is ∙ sym (found-first sets q ∙ ap (λ (x : Option CopyVariable). elim x [ Some v ↦ Some v | None ↦ held_among (drop 1 sets) q ]) found)

-- what the table of the first copy does not find
pub found-later : (sets : List (List CopyVariable)) (ds : List ℕ) (q n : ℕ) (o : Option CopyVariable) → ds ≡ offsets_of (first_of sets) → n ≡ number_at ds q
    → slice_get (first_of sets) n ≡ None → o ≡ held_among (drop 1 sets) q → o ≡ held_among sets q
found-later sets ds q n o declared number there is =
    let found : held_in (first_of sets) q ≡ None =
    found-in (first_of sets) q ∙ ap (slice_get (first_of sets)) (ap (λ l. number_at l q) (sym declared) ∙ sym number) ∙ there in
    is ∙ sym (found-first sets q ∙ ap (λ (x : Option CopyVariable). elim x [ Some v ↦ Some v | None ↦ held_among (drop 1 sets) q ]) found)

-- the first copy
pub first-some : (sets : List (Vec declared.CopyVariable Global)) (v : Vec declared.CopyVariable Global) → 0 < length sets
    → v ≡ slice_index_or sets 0 v → first_of (sets_of sets) ≡ map variable_view v.items
first-some [] v some is = absurd (omega (arith, some))
first-some (u ∷ sets) v some is = ap (λ (x : Vec declared.CopyVariable Global). map variable_view x.items) (sym is)

-- the others
pub later-of : (sets : List (Vec declared.CopyVariable Global)) → sets_of (drop 1 sets) ≡ drop 1 (sets_of sets)
later-of [] = refl
later-of (v ∷ sets) = refl

-- a variable that was read, in the plain form
pub got : (xs : List declared.CopyVariable) (n : ℕ) (x : declared.CopyVariable) → n < length xs → x ≡ get_or xs n x → slice_get (map variable_view xs) n ≡ Some (variable_view x)
got [] n x within is = absurd (omega (arith, within))
got (y ∷ xs) zero x within is = ap (λ z. Some (variable_view z)) (sym is)
got (y ∷ xs) (suc n) x within is = got xs n x (omega (arith, within)) is
