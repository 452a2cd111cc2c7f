-- Laws of the tables of what definitions say.
use Rattle.std.proofs.Common.{◌≡◌, ℕ, ◌+◌, ◌<◌, ◌≤◌, Bool, true, false, cond, ◌||◌, ◌&&◌, ◌==◌, List, [], ◌∷◌, drop, get_or, length, map, Option, None, Some, refl, sym, ap, ◌∙◌, add-one}
use Rattle.std.proofs.Math.Bool.{or-false}
use Rattle.std.proofs.Math.Seq.{drop-cons}
use Rattle.std.proofs.lemmas.Bool.{eqb-true}
use Rattle.std.proofs.lemmas.List.{drop_all}
use Rattle.std.specs.Option.{option_or}
use Rattle.snl_channels.specs.declared.said.Said as declared
use Rattle.snl_channels.specs.Facts.{alone_by, only_if}
use Rattle.snl_channels.specs.LinkViews.{said_view}
use Rattle.snl_channels.specs.Links.{is_monitored, monitors}

-- three facts, of which one holds
or_assoc : (a b c : Bool) → ((a || b) || c) ≡ (a || (b || c))
or_assoc true b c = refl
or_assoc false b c = refl

-- what is left begins with the definition of a number
left : {A : Type 0} (all : List A) (i : ℕ) (a : A) → i < length all → a ≡ get_or all i a → drop i all ≡ a ∷ drop (i + 1) all
left all i a h e = drop-cons all i a h ∙ (λ j. sym e j ∷ drop (sym (add-one i) j) all)

-- one definition more is noted
pub noted_step : (all : List declared.Said) (i : ℕ) (x : declared.Said) → i < length all → x ≡ get_or all i x → (before after : ℕ → ℕ → Bool)
    → ((v k : ℕ) → (before v k || is_monitored v k (map said_view (drop i all))) ≡ is_monitored v k (map said_view all))
    → ((v k : ℕ) → after v k ≡ (before v k || monitors v k (said_view x)))
    → (v k : ℕ) → (after v k || is_monitored v k (map said_view (drop (i + 1) all))) ≡ is_monitored v k (map said_view all)
noted_step all i x h e before after inv step v k =
    let rest = is_monitored v k (map said_view (drop (i + 1) all)) in
    ap (λ b. b || rest) (step v k) ∙ or_assoc (before v k) (monitors v k (said_view x)) rest
    ∙ ap (λ l. before v k || is_monitored v k (map said_view l)) (sym (left all i x h e)) ∙ inv v k

-- all definitions are noted
pub noted_all : (all : List declared.Said) (i : ℕ) → length all ≤ i → (known : ℕ → ℕ → Bool)
    → ((v k : ℕ) → (known v k || is_monitored v k (map said_view (drop i all))) ≡ is_monitored v k (map said_view all))
    → (v k : ℕ) → known v k ≡ is_monitored v k (map said_view all)
noted_all all i h known inv v k =
    sym (or-false (known v k)) ∙ ap (λ l. known v k || is_monitored v k (map said_view l)) (sym (drop_all i all h)) ∙ inv v k

-- nothing comes after what is there
or_nothing : {A : Type 0} (o : Option A) → o ≡ option_or o None
or_nothing None = refl
or_nothing (Some a) = refl

-- nothing is said where the condition fails
never_alone : {A : Type 0} (whole : Option A) (y : A) → alone_by whole false y ≡ None
never_alone None y = refl
never_alone (Some w) y = refl

-- the same by whether the element is this one, of which nothing was said then
alone_case : {A : Type 0} (old whole : Option A) (y : A) (h g : Bool) → (h ≡ true → g ≡ true → (old ≡ None) × (whole ≡ None))
    → cond (h && g) (Some y) old ≡ option_or old (alone_by whole (h && g) y)
alone_case old whole y true true none = let n = none refl refl in sym (λ j. option_or (n.0 j) (alone_by (n.1 j) true y))
alone_case old whole y true false none = or_nothing old ∙ ap (option_or old) (sym (never_alone whole y))
alone_case old whole y false g none = or_nothing old ∙ ap (option_or old) (sym (never_alone whole y))

-- what is said of an element alone is noted
pub single_noted : {A : Type 0} (old new : ℕ → ℕ → Option A) (whole : ℕ → Option A) (a b : ℕ) (y : A) → whole a ≡ None → old a b ≡ None
    → ((v k : ℕ) → new v k ≡ cond (a == v && b == k) (Some y) (old v k))
    → (v k : ℕ) → new v k ≡ option_or (old v k) (alone_by (whole v) (a == v && b == k) y)
single_noted old new whole a b y none absent step v k =
    step v k
    ∙ alone_case (old v k) (whole v) y (a == v) (b == k) (λ e f.
    let same : v ≡ a = sym (eqb-true a v e) in
    let alike : k ≡ b = sym (eqb-true b k f) in
    ((λ j. old (same j) (alike j)) ∙ absent, ap whole same ∙ none))
