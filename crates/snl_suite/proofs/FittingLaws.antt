-- Laws of which program a trace is of.
use Rattle.std.proofs.Common.{◌≡◌, ◌≢◌, ◌≤◌, ◌<◌, ◌+◌, ◌∙◌, ◌++◌, ◌∷◌, ℕ, List, [], None, Option, Some, add-one, ap, arith, get_or, length, map, subst, sym, take}
use Rattle.std.specs.Prelude.{◌↔◌}
use Rattle.std.proofs.Math.Seq.{take-suc}
use Rattle.std.proofs.lemmas.List.{append_cancel_left, get_or-map, length-map}
use denote.Ref.{Bor}
use Rattle.std.proofs.lemmas.List.Elements.{All-push, All-weaker, Contains-append_left, Contains-push}
use Rattle.snl_suite.specs.Fitting.{Fits, IsDay, IsProgramOf}

-- a name with something behind it fits exactly if that is a day
pub fits-by : (name stem rest : List ℕ) → stem ≡ name ++ rest → IsDay rest ↔ Fits name stem
fits-by name stem rest is =
    (λ day. (rest, is, day), λ (other, are, day). subst IsDay (append_cancel_left name other rest (sym are ∙ is)) day)

-- one that is not in front of a stem does not fit it
pub fits-not : (name stem : List ℕ) → ((rest : List ℕ) → stem ≢ name ++ rest) → Fits name stem → ⊥
fits-not name stem apart (rest, are, day) = apart rest are

-- a name that does not fit changes nothing
pub program-other : (names : List (List ℕ)) (stem name : List ℕ) → (Fits name stem → ⊥) → (best : Option (List ℕ)) → IsProgramOf names stem best →
    IsProgramOf (names ++ name ∷ []) stem best
program-other names stem name unfit None none = All-push (λ other. Fits other stem → ⊥) names name none unfit
program-other names stem name unfit (Some best) (in', fits, most) =
    (Contains-append_left names (name ∷ []) best in', fits, All-push (λ other. Fits other stem → length other ≤ length best) names name most (λ it. absurd (unfit it)))

-- the first name that fits
pub program-first : (names : List (List ℕ)) (stem name : List ℕ) → Fits name stem → IsProgramOf names stem None → IsProgramOf (names ++ name ∷ []) stem (Some name)
program-first names stem name fits none = (
  Contains-push names name,
  fits,
  All-push (λ other. Fits other stem → length other ≤ length name) names name
      (All-weaker (λ other. Fits other stem → ⊥) (λ other. Fits other stem → length other ≤ length name) (λ other unfit it. absurd (unfit it)) names none) (λ it. omega arith),
)

-- a name that is longer than the one that was found
pub program-longer : (names : List (List ℕ)) (stem name best : List ℕ) → Fits name stem → length best < length name → IsProgramOf names stem (Some best) →
    IsProgramOf (names ++ name ∷ []) stem (Some name)
program-longer names stem name best fits longer (in', before, most) = (
  Contains-push names name,
  fits,
  All-push (λ other. Fits other stem → length other ≤ length name) names name
      (All-weaker (λ other. Fits other stem → length other ≤ length best) (λ other. Fits other stem → length other ≤ length name)
      (λ other within it. let less : length other ≤ length best = within it in omega arith) names most)
      (λ it. omega arith),
)

-- one name more, by its place among references
pub names-more : (xs : List (Bor (List ℕ))) (i : ℕ) (d : Bor (List ℕ)) → i < length xs →
    take (i + 1) (map (λ (x : Bor (List ℕ)). x.now) xs) ≡ take i (map (λ (x : Bor (List ℕ)). x.now) xs) ++ ((get_or xs i d).now ∷ [])
names-more xs i d within =
    let now = λ (x : Bor (List ℕ)). x.now in
    let few : i < length (map now xs) = omega (arith, within, length-map xs now) in
    ap (λ n. take n (map now xs)) (add-one i) ∙ take-suc (map now xs) i d.now few ∙ ap (λ (x : List ℕ). take i (map now xs) ++ (x ∷ [])) (get_or-map now xs i d d.now within)
