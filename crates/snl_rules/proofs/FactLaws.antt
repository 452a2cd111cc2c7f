-- First assigns and limits, after one more site.
use Rattle.std.proofs.Common.{◌≡◌, ℕ, ◌+◌, ◌-◌, ◌<◌, ◌≤◌, Bool, true, false, cond, ◌==◌, nat_le, List, [], ◌∷◌, ◌++◌, length, take, get_or, Option, None, Some, is_some, refl, sym, ap, ◌∙◌, arith, if◌then◌else◌}
use Rattle.std.specs.List.{sum_by}
use Rattle.std.proofs.lemmas.Bool.{false≢true, leb-true, leb-false}
use Rattle.std.proofs.lemmas.Bool.Decides.{nat_tests}
use Rattle.std.proofs.lemmas.List.{take_more}
use Rattle.std.proofs.lemmas.List.Sums.{sum_by_more}
use Rattle.snl_names.specs.declared.sites.Part.{Part}
use Rattle.snl_names.specs.declared.sites.Site.{Site}
use Rattle.snl_rules.specs.Elements.{part_at, is_assign, is_sync}
use Rattle.snl_rules.specs.Rules.{sets_at, states_at, functions_at, channels_at}
use Rattle.snl_rules.specs.Tests.{first_or, first_whole, whole_by, room, room_after, SeenFacts, seen_facts, seen_after}
use Rattle.snl_rules.proofs.NamedLaws.{named_step}

-- ---- first assigns

-- nothing comes after
first_or_none : (x : Option Bool) → first_or x None ≡ x
first_or_none None = refl
first_or_none (Some b) = refl

-- the first of three
first_or_assoc : (x y z : Option Bool) → first_or (first_or x y) z ≡ first_or x (first_or y z)
first_or_assoc None y z = refl
first_or_assoc (Some b) y z = refl

-- a site at the end
first_last : (all : List Site) (s : Site) (v : ℕ) → first_whole (all ++ s ∷ []) v ≡ first_or (first_whole all v) (whole_by v (part_at is_assign s))
first_last [] s v = first_or_none (whole_by v (part_at is_assign s))
first_last (x ∷ all) s v =
    ap (first_or (whole_by v (part_at is_assign x))) (first_last all s v)
    ∙ sym (first_or_assoc (whole_by v (part_at is_assign x)) (first_whole all v) (whole_by v (part_at is_assign s)))

-- one more site
pub first_step : (all : List Site) (i : ℕ) (s : Site) (before after : ℕ → Option Bool) → i < length all → ((v : ℕ) → before v ≡ first_whole (take i all) v)
    → ((v : ℕ) → after v ≡ first_or (before v) (whole_by v (part_at is_assign (get_or all i s)))) → (v : ℕ) → after v ≡ first_whole (take (i + 1) all) v
first_step all i s before after h inv en v =
    en v ∙ ap (λ x. first_or x (whole_by v (part_at is_assign (get_or all i s)))) (inv v)
    ∙ sym (first_last (take i all) (get_or all i s) v) ∙ ap (λ l. first_whole l v) (sym (take_more all i s h))

-- a site that is no `assign`
pub first_kept : (f : ℕ → Option Bool) (p : Option Part) → None ≡ p → (v : ℕ) → f v ≡ first_or (f v) (whole_by v p)
first_kept f p e v = sym (first_or_none (f v)) ∙ ap (λ x. first_or (f v) (whole_by v x)) e

-- what is there stays the first
kept_by : (x : Option Bool) (w b : Bool) → (b ≡ true → is_some x ≡ true) → x ≡ first_or x (if b then Some w else None)
kept_by None w true h = absurd (false≢true (h refl))
kept_by None w false h = refl
kept_by (Some y) w b h = refl

-- numbers that are tested equal
same_number : (a b : ℕ) → (a == b) ≡ true → b ≡ a
same_number a b e = grind (arith, nat_tests)

-- an `assign` after the first
pub first_there : (f : ℕ → Option Bool) (a : ℕ) (w : Bool) → is_some (f a) ≡ true → (v : ℕ) → f v ≡ first_or (f v) (if a == v then Some w else None)
first_there f a w there v = kept_by (f v) w (a == v) (λ e. ap (λ x. is_some (f x)) (same_number a v e) ∙ there)

-- ---- limits

-- n more fit
room_fits : (limit u n : ℕ) → u ≤ limit → n ≤ limit - u → Some (limit - u - n) ≡ room limit (u + n)
room_fits limit u n h k =
    let e : nat_le (u + n) limit ≡ true = grind (arith, nat_tests) in
    let s : limit - u - n ≡ limit - (u + n) = omega arith in
    ap Some s ∙ sym (ap (λ b. cond b (Some (limit - (u + n))) None) e)

-- n more pass the limit
room_full : (limit u n : ℕ) → u ≤ limit → limit - u < n → None ≡ room limit (u + n)
room_full limit u n h k =
    let e : nat_le (u + n) limit ≡ false = grind (arith, nat_tests) in
    sym (ap (λ b. cond b (Some (limit - (u + n))) None) e)

-- the limit was passed before
room_past : (limit u n : ℕ) → limit < u → None ≡ room limit (u + n)
room_past limit u n h =
    let e : nat_le (u + n) limit ≡ false = grind (arith, nat_tests) in
    sym (ap (λ b. cond b (Some (limit - (u + n))) None) e)

-- the room after n more, by whether they fit
room_left : (limit u n : ℕ) (b : Bool) → nat_le n (limit - u) ≡ b → u ≤ limit → (if b then Some (limit - u - n) else None) ≡ room limit (u + n)
room_left limit u n true e h = room_fits limit u n h (leb-true n (limit - u) e)
room_left limit u n false e h = room_full limit u n h (leb-false n (limit - u) e)

-- the same, by whether the limit was passed before
room_by : (limit u n : ℕ) (b : Bool) → nat_le u limit ≡ b → room_after (if b then Some (limit - u) else None) n ≡ room limit (u + n)
room_by limit u n true e = room_left limit u n (nat_le n (limit - u)) refl (leb-true u limit e)
room_by limit u n false e = room_past limit u n (leb-false u limit e)

-- the room after n more
pub room_more : (limit u n : ℕ) → room_after (room limit u) n ≡ room limit (u + n)
room_more limit u n = room_by limit u n (nat_le u limit) refl

-- the room after one more site
counted : (limit : ℕ) (f : Site → ℕ) (all : List Site) (i : ℕ) (s : Site) → i < length all
    → room limit (sum_by f (take (i + 1) all)) ≡ room_after (room limit (sum_by f (take i all))) (f (get_or all i s))
counted limit f all i s h = ap (room limit) (sum_by_more f all i s h) ∙ sym (room_more limit (sum_by f (take i all)) (f (get_or all i s)))

-- what is known after one more site
seen_step : (all : List Site) (i : ℕ) (s : Site) → i < length all → seen_facts (take (i + 1) all) ≡ seen_after (seen_facts (take i all)) (get_or all i s)
seen_step all i s h = λ j. record {
  assigned = named_step is_assign all i s h j;
  synced = named_step is_sync all i s h j;
  sets = counted 64 sets_at all i s h j;
  states = counted 1024 states_at all i s h j;
  functions = counted 256 functions_at all i s h j;
  channels = counted 1024 channels_at all i s h j;
}

-- one more site was seen
pub seen_loop : (all : List Site) (i : ℕ) (s : Site) (before after : SeenFacts) → i < length all → before ≡ seen_facts (take i all)
    → after ≡ seen_after before (get_or all i s) → after ≡ seen_facts (take (i + 1) all)
seen_loop all i s before after h inv en = en ∙ ap (λ f. seen_after f (get_or all i s)) inv ∙ sym (seen_step all i s h)
