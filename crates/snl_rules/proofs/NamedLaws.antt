-- What definitions name: one more part, one more site.
use Rattle.std.proofs.Common.{◌≡◌, ℕ, zero, suc, ◌+◌, ◌<◌, ◌≤◌, Bool, true, false, ◌||◌, ◌&&◌, ◌==◌, nat_lt, List, [], length, take, get_or, None, Some, refl, sym, ap, ◌∙◌, arith, ◌⊎◌, inl, inr}
use Rattle.std.specs.List.{list_any}
use Rattle.std.proofs.Math.Bool.{or-false}
use Rattle.std.proofs.lemmas.Bool.Decides.{nat_tests}
use Rattle.std.proofs.lemmas.List.Folds.{list_any_more}
use Rattle.snl_names.specs.declared.sites.Extent.{Extent}
use Rattle.snl_names.specs.declared.sites.Extent.TheVariants.{Whole, Front, Element}
use Rattle.snl_names.specs.declared.sites.Part.{Part}
use Rattle.snl_names.specs.declared.sites.Sort.{Sort}
use Rattle.snl_names.specs.declared.sites.Site.{Site}
use Rattle.snl_rules.specs.Elements.{part_at}
use Rattle.snl_rules.specs.Tests.{Named, is_in, names_element, names_variable, named_of, some_below, with_part}

-- two that say the same are one
pub named_same : (a b : Named) → ((v k : ℕ) → a.element v k ≡ b.element v k) → ((v n : ℕ) → a.below v n ≡ b.below v n) → ((v : ℕ) → a.some v ≡ b.some v) → a ≡ b
named_same a b element below some = λ j. record { element = λ v k. element v k j; below = λ v n. below v n j; some = λ v. some v j }

-- no test holds below any number
pub below_none : (n : ℕ) → some_below (λ k. false) n ≡ false
below_none zero = refl
below_none (suc n) = below_none n

-- a test that holds of no number below n
pub below_never : (f : ℕ → Bool) (n : ℕ) → ((k : ℕ) → k < n → f k ≡ false) → some_below f n ≡ false
below_never f zero h = refl
below_never f (suc n) h = (λ j. h n (omega arith) j || some_below f n) ∙ below_never f n (λ k l. h k (omega arith))

-- or with true
or_true : (b : Bool) → (b || true) ≡ true
or_true true = refl
or_true false = refl

-- numbers that are tested equal
same_number : (n k : ℕ) → (n == k) ≡ true → n ≡ k
same_number n k s = grind (arith, nat_tests)

-- a lower number that is not the last
lower_number : (n k : ℕ) → k < suc n → (n == k) ≡ false → k < n
lower_number n k l s = grind (arith, nat_tests)

-- a step of the search for a number that passes
once_or : (f : ℕ → Bool) (n k : ℕ) (rest b : Bool) → (n == k) ≡ b → f k ≡ true → (b ≡ false → rest ≡ true) → (f n || rest) ≡ true
once_or f n k rest true s e h = ap (λ m. f m || rest) (same_number n k s) ∙ ap (λ b. b || rest) e
once_or f n k rest false s e h = ap (λ b. f n || b) (h refl) ∙ or_true (f n)

-- a test that holds of one
pub below_once : (f : ℕ → Bool) (n k : ℕ) → k < n → f k ≡ true → some_below f n ≡ true
below_once f zero k l e = absurd (omega arith)
below_once f (suc n) k l e = once_or f n k (some_below f n) (n == k) refl e (λ s. below_once f n k (lower_number n k l s) e)

-- the middle two change places
or_swap : (a b c d : Bool) → ((a || b) || (c || d)) ≡ ((a || c) || (b || d))
or_swap true b c d = refl
or_swap false true true d = refl
or_swap false true false d = refl
or_swap false false true d = refl
or_swap false false false d = refl

-- one test or the other
pub below_or : (f g : ℕ → Bool) (n : ℕ) → some_below (λ k. f k || g k) n ≡ (some_below f n || some_below g n)
below_or f g zero = refl
below_or f g (suc n) = ap (λ b. (f n || g n) || b) (below_or f g n) ∙ or_swap (f n) (g n) (some_below f n) (some_below g n)

-- one number more is looked at
one_more : (e n : ℕ) → ((n == e) || nat_lt e n) ≡ nat_lt e (suc n)
one_more e n = grind (arith, nat_tests)

-- a number below that is this one
equal_below : (e n : ℕ) → some_below (λ k. k == e) n ≡ nat_lt e n
equal_below e zero = grind (arith, nat_tests)
equal_below e (suc n) = ap (λ b. (n == e) || b) (equal_below e n) ∙ one_more e n

-- one number more, of the first ones
first_more : (c n : ℕ) → (nat_lt n c || (nat_lt 0 c && nat_lt 0 n)) ≡ (nat_lt 0 c && nat_lt 0 (suc n))
first_more c n = grind (arith, nat_tests)

-- no number is below 0
first_none : (c : ℕ) → false ≡ (nat_lt 0 c && nat_lt 0 0)
first_none c = grind (arith, nat_tests)

-- a number below that is one of the first
less_below : (c n : ℕ) → some_below (λ k. nat_lt k c) n ≡ (nat_lt 0 c && nat_lt 0 n)
less_below c zero = first_none c
less_below c (suc n) = ap (λ b. nat_lt n c || b) (less_below c n) ∙ first_more c n

-- below a number is the element of a part of this variable
pub below_element : (b : Bool) (e n : ℕ) → (b && nat_lt e n) ≡ some_below (λ k. b && (k == e)) n
below_element true e n = sym (equal_below e n)
below_element false e n = sym (below_none n)

-- or one of its first elements
pub below_first : (b : Bool) (c n : ℕ) → (b && (nat_lt 0 c && nat_lt 0 n)) ≡ some_below (λ k. b && nat_lt k c) n
below_first true c n = sym (less_below c n)
below_first false c n = sym (below_none n)

-- an element is named
pub element_noted : (old new : Named) (p : Part) (e : ℕ) → p.extent ≡ Element e
    → ((v k : ℕ) → new.element v k ≡ (old.element v k || (p.variable.offset == v && (k == e))))
    → ((v n : ℕ) → new.below v n ≡ (old.below v n || (p.variable.offset == v && nat_lt e n)))
    → ((v : ℕ) → new.some v ≡ (old.some v || (p.variable.offset == v)))
    → new ≡ with_part old (Some p)
element_noted old new p e is element below some =
    let d = p.variable.offset in
    named_same new (with_part old (Some p))
    (λ v k. element v k ∙ ap (λ x. old.element v k || (d == v && is_in k x)) (sym is))
    (λ v n. below v n ∙ ap (λ b. old.below v n || b) (below_element (d == v) e n) ∙ ap (λ x. old.below v n || some_below (λ k. d == v && is_in k x) n) (sym is))
    some

-- the first elements are named
pub first_noted : (old new : Named) (p : Part) (c : ℕ) → ((k : ℕ) → is_in k p.extent ≡ nat_lt k c)
    → ((v k : ℕ) → new.element v k ≡ (old.element v k || (p.variable.offset == v && nat_lt k c)))
    → ((v n : ℕ) → new.below v n ≡ (old.below v n || (p.variable.offset == v && (nat_lt 0 c && nat_lt 0 n))))
    → ((v : ℕ) → new.some v ≡ (old.some v || (p.variable.offset == v)))
    → new ≡ with_part old (Some p)
first_noted old new p c is element below some =
    let d = p.variable.offset in
    named_same new (with_part old (Some p))
    (λ v k. element v k ∙ ap (λ x. old.element v k || (d == v && x)) (sym (is k)))
    (λ v n. below v n ∙ ap (λ b. old.below v n || b) (below_first (d == v) c n) ∙ ap (λ (f : ℕ → Bool). old.below v n || some_below (λ k. d == v && f k) n) (λ j k. sym (is k) j))
    some

-- what is in an extent of first elements
pub in_first : (x : Extent) (c : ℕ) → (x ≡ Whole c) ⊎ (x ≡ Front c) → (k : ℕ) → is_in k x ≡ nat_lt k c
in_first x c (inl e) k = ap (is_in k) e
in_first x c (inr e) k = ap (is_in k) e

-- a number that is not below
not_less : (k g : ℕ) → g ≤ k → nat_lt k g ≡ false
not_less k g h = grind (arith, nat_tests)

-- an element is not named
pub missing : (k front g : ℕ) (b r : Bool) → front ≡ g → front ≤ k → r ≡ b → r ≡ false → (nat_lt k g || b) ≡ false
missing k front g b r e h same none = let under : g ≤ k = omega arith in (λ j. not_less k g under j || (sym same ∙ none) j)

-- nothing more is named
pub with_none : (n : Named) → n ≡ with_part n None
with_none n =
    named_same n (with_part n None) (λ v k. sym (or-false (n.element v k))) (λ v m. sym (ap (λ b. n.below v m || b) (below_none m) ∙ or-false (n.below v m))) (λ v. sym (or-false (n.some v)))

-- no site names anything
pub named_nothing : (sorts : Sort → Bool) (n : Named) → ((v k : ℕ) → n.element v k ≡ false) → ((v m : ℕ) → n.below v m ≡ false) → ((v : ℕ) → n.some v ≡ false) → n ≡ named_of sorts []
named_nothing sorts n element below some = named_same n (named_of sorts []) element (λ v m. below v m ∙ sym (below_none m)) some

-- one more site
pub named_step : (sorts : Sort → Bool) (all : List Site) (i : ℕ) (s : Site) → i < length all
    → named_of sorts (take (i + 1) all) ≡ with_part (named_of sorts (take i all)) (part_at sorts (get_or all i s))
named_step sorts all i s h =
    named_same (named_of sorts (take (i + 1) all)) (with_part (named_of sorts (take i all)) (part_at sorts (get_or all i s)))
    (λ v k. list_any_more (names_element sorts v k) all i s h)
    (λ v n. ap (λ f. some_below f n) (λ j k. list_any_more (names_element sorts v k) all i s h j)
    ∙ below_or (λ k. list_any (names_element sorts v k) (take i all)) (λ k. names_element sorts v k (get_or all i s)) n)
    (λ v. list_any_more (names_variable sorts v) all i s h)

-- one more site is noted
pub named_loop : (sorts : Sort → Bool) (all : List Site) (i : ℕ) (s : Site) (before after : Named) → i < length all → before ≡ named_of sorts (take i all)
    → after ≡ with_part before (part_at sorts (get_or all i s)) → after ≡ named_of sorts (take (i + 1) all)
named_loop sorts all i s before after h inv en = en ∙ ap (λ n. with_part n (part_at sorts (get_or all i s))) inv ∙ sym (named_step sorts all i s h)
