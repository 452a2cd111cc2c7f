-- A program is ready exactly where it waits for nothing.
use Rattle.std.proofs.Common.{◌≡◌, ◌+◌, ◌↔◌, ◌&&◌, ◌||◌, ℕ, Bool, true, false, not, List, [], ◌∷◌, ◌++◌, if◌then◌else◌, refl, ap, sym, ◌∙◌, zero, suc, Some, drop, slice_get, arith, append_assoc}
use Rattle.std.specs.List.{list_all}
use Rattle.std.proofs.lemmas.Bool.{and_from, and_parts}
use Rattle.snl_meaning.specs.World.{World}
use Rattle.snl_meaning.specs.declared.ties.Tied.{Tied}
use Rattle.snl_schedule.specs.Instant.{is_so, is_link_ready}
use Rattle.snl_views.specs.declared.awaited.Awaited.{Awaited}
use Rattle.snl_views.specs.declared.awaited.Awaited.TheVariants.{ToBeUp, ToBeValued}
use Rattle.snl_views.specs.Awaits.{awaited_at, awaited_from, awaited_in}
use Rattle.snl_views.specs.Laws.{ReadyAwaitsNothing}

-- of two lists that are nothing together each is nothing
pub none-left : {A : Type 0} (xs ys : List A) → xs ++ ys ≡ [] → xs ≡ []
none-left [] ys none = refl
none-left (x ∷ xs) ys none = absurd (cc)

-- and so is the second
pub none-right : {A : Type 0} (xs ys : List A) → xs ++ ys ≡ [] → ys ≡ []
none-right [] ys none = none
none-right (x ∷ xs) ys none = absurd (cc)

-- one link
one : (k : ℕ) (up valued monitored : Bool) →
    ((if up then [] else ToBeUp k ∷ []) ++ (if valued || not monitored then [] else ToBeValued k ∷ []) ≡ []) ↔ ((up && (valued || not monitored)) ≡ true)
one k true true monitored = (λ _. refl, λ _. refl)
one k true false true = (λ none. absurd (cc), λ ready. absurd (cc))
one k true false false = (λ _. refl, λ _. refl)
one k false valued monitored = (λ none. absurd (cc), λ ready. absurd (cc))

-- links
from : (w : World) (k : ℕ) (ls : List Tied) → (awaited_from w k ls ≡ []) ↔ (list_all (is_link_ready w) ls ≡ true)
from w k [] = (λ _. refl, λ _. refl)
from w k (l ∷ ls) =
    let here = one k (is_so w.ups l.channel) (is_so w.valued l.channel) l.is_monitored in
    let rest = from w (k + 1) ls in (
      λ none. and_from (is_link_ready w l) (list_all (is_link_ready w) ls) (here.0 (none-left (awaited_at w k l) (awaited_from w (k + 1) ls) none))
          (rest.0 (none-right (awaited_at w k l) (awaited_from w (k + 1) ls) none)),
      λ all.
          let parts = and_parts (is_link_ready w l) (list_all (is_link_ready w) ls) all in
          ap (λ xs. xs ++ awaited_from w (k + 1) ls) (here.1 parts.0) ∙ rest.1 parts.1,
    )

-- a program that waits is ready where no link is left to wait for; one that does not wait is always ready
pub ready_awaits_nothing : ReadyAwaitsNothing
ready_awaits_nothing p w = by p.waits
  where
    by : (b : Bool) → (awaited_in b p.links w ≡ []) ↔ ((not b || list_all (is_link_ready w) p.links) ≡ true)
    by true = from w 0 p.links
    by false = (λ _. refl, λ _. refl)

-- ---- link by link

-- where one stands the rest begins with it
drop-some : (xs : List Tied) (n : ℕ) (x : Tied) → slice_get xs n ≡ Some x → drop n xs ≡ x ∷ drop (n + 1) xs
drop-some [] n x some = absurd (cc)
drop-some (y ∷ ys) zero x some = let same : y ≡ x = cc in ap (λ z. z ∷ ys) same
drop-some (y ∷ ys) (suc n) x some = let same : suc n + 1 ≡ suc (n + 1) = omega arith in drop-some ys n x some ∙ sym (ap (λ m. x ∷ drop m (y ∷ ys)) same)

-- what a link waits for comes to what is known, and the others are left
pub next-link : (w : World) (links : List Tied) (n : ℕ) (l : Tied) (known more : List Awaited) → slice_get links n ≡ Some l → more ≡ known ++ awaited_at w n l →
    known ++ awaited_from w n (drop n links) ≡ awaited_from w 0 links → more ++ awaited_from w (n + 1) (drop (n + 1) links) ≡ awaited_from w 0 links
next-link w links n l known more is adds all =
    ap (λ xs. xs ++ awaited_from w (n + 1) (drop (n + 1) links)) adds ∙ append_assoc known (awaited_at w n l) (awaited_from w (n + 1) (drop (n + 1) links))
    ∙ ap (λ xs. known ++ awaited_from w n xs) (sym (drop-some links n l is)) ∙ all
