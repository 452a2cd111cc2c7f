-- What is told of all sites is what is broken.
use Rattle.std.proofs.Common.{◌≡◌, ℕ, ◌+◌, ◌<◌, ◌≤◌, Bool, true, false, List, [], ◌∷◌, ◌++◌, map, length, take, drop, get_or, Option, refl, sym, ap, ◌∙◌, subst, append_assoc, append-nil, arith, ◌⊎◌, inl, inr, ◌↔◌, if◌then◌else◌}
use Rattle.std.specs.Bool.{Decides}
use Rattle.std.specs.List.{Contains, sum_by}
use Rattle.std.proofs.lemmas.Bool.{false≢true}
use Rattle.std.proofs.lemmas.List.{take_more, drop_more, drop_all}
use Rattle.std.proofs.lemmas.List.Elements.{Contains-push, Contains-push_cases, Contains-append_left, Contains-append_right, Contains-append_cases}
use Rattle.snl_names.specs.declared.sites.Part.{Part}
use Rattle.snl_names.specs.declared.sites.Sort.{Sort}
use Rattle.snl_names.specs.declared.sites.Sort.TheVariants.{Assign, Monitor}
use Rattle.snl_names.specs.declared.sites.Site.{Site}
use Rattle.snl_names.specs.declared.sites.Site.TheVariants.{Declaration, Defined, Use, State, StateSet, Function}
use Rattle.snl_rules.specs.declared.rules.Broken.{Broken}
use Rattle.snl_rules.specs.declared.rules.Rule.{Rule}
use Rattle.snl_rules.specs.declared.rules.Rule.TheVariants as r
use Rattle.snl_rules.specs.Elements.{is_assign, is_sync}
use Rattle.snl_rules.specs.Rules.{when, Told, ByElements, Together, Breaks, IsBroken, unused, sets_at, states_at, functions_at, channels_at}
use Rattle.snl_rules.specs.Tests.{SeenFacts, AllFacts, seen_facts, all_facts, by_elements, together, rules_at, broken_at, broken_from, all_broken}
use Rattle.snl_rules.proofs.RuleLaws.{twice_decides, unmonitored_decides, unassigned_decides, definition_decides, use_decides, unassigned_use_decides, queue_decides, unused_decides, over_decides}

-- ---- elements of lists

-- nothing is in an empty list
in_none : {X B : Type 0} (y : X) → Contains [] y → B
in_none y h = let l : h.0 < 0 = h.1 in absurd (omega arith)

-- what is in a list of one
in_one : {X : Type 0} (x y : X) → Contains (x ∷ []) y → x ≡ y
in_one x y h = elim (Contains-push_cases [] x y h) [ inl w ↦ in_none y w | inr e ↦ e ]

-- what is in a list is its first or in the rest
in_cons : {X : Type 0} (x : X) (xs : List X) (y : X) → Contains (x ∷ xs) y → (x ≡ y) ⊎ Contains xs y
in_cons x xs y h = elim (Contains-append_cases (x ∷ []) xs y h) [ inl w ↦ inl (in_one x y w) | inr w ↦ inr w ]

-- the first is in a list
in_first : {X : Type 0} (x : X) (xs : List X) → Contains (x ∷ xs) x
in_first x xs = Contains-append_left (x ∷ []) xs x (Contains-push [] x)

-- what is in the rest is in a list
in_rest : {X : Type 0} (x : X) (xs : List X) (y : X) → Contains xs y → Contains (x ∷ xs) y
in_rest x xs y h = Contains-append_right (x ∷ []) xs y h

-- ---- the rules of a site

-- a rule where a test holds
when_law : (b : Bool) (P : Type 0) → Decides b P → (this rule : Rule) → Contains (when b this) rule ↔ Told P this rule
when_law true P d this rule = (
  (λ h. (sym (in_one this rule h), d.0 refl)),
  (λ t. subst (Contains (this ∷ [])) (sym t.0) (in_first this [])),
)
when_law false P d this rule = ((λ h. in_none rule h), (λ t. absurd (false≢true (d.1 t.1))))

-- rules of two lists
join_law : (xs ys : List Rule) (P Q : Type 0) (rule : Rule) → Contains xs rule ↔ P → Contains ys rule ↔ Q → Contains (xs ++ ys) rule ↔ (P ⊎ Q)
join_law xs ys P Q rule p q = (
  (λ h. elim (Contains-append_cases xs ys rule h) [ inl w ↦ inl (p.0 w) | inr w ↦ inr (q.0 w) ]),
  (λ h. elim h [ inl w ↦ Contains-append_left xs ys rule (p.1 w) | inr w ↦ Contains-append_right xs ys rule (q.1 w) ]),
)

-- one rule, or else others
if_law : (b : Bool) (P Q : Type 0) → Decides b P → (this rule : Rule) (xs : List Rule) → Contains xs rule ↔ Q
    → Contains (if b then this ∷ [] else xs) rule ↔ (Told P this rule ⊎ ((P → ⊥) × Q))
if_law true P Q d this rule xs q = (
  (λ h. inl (sym (in_one this rule h), d.0 refl)),
  (λ h. elim h [ inl t ↦ subst (Contains (this ∷ [])) (sym t.0) (in_first this []) | inr w ↦ absurd (w.0 (d.0 refl)) ]),
)
if_law false P Q d this rule xs q = (
  (λ h. inr ((λ p. false≢true (d.1 p)), q.0 h)),
  (λ h. elim h [ inl t ↦ absurd (false≢true (d.1 t.1)) | inr w ↦ q.1 w.1 ]),
)

-- no rule
nothing_law : (rule : Rule) → Contains [] rule ↔ ⊥
nothing_law rule = ((λ h. in_none rule h), (λ h. absurd h))

-- the rules of elements
elements_law : (before all : List Site) (sort : Sort) (p : Option Part) (rule : Rule)
    → Contains (by_elements (seen_facts before) (all_facts all) sort p) rule ↔ ByElements sort before all p rule
elements_law before all Assign p rule = when_law _ _ (twice_decides is_assign before p) r.AssignedTwice rule
elements_law before all Monitor p rule = when_law _ _ (unassigned_decides all p) r.Unassigned rule
elements_law before all sort p rule =
    join_law _ _ _ _ rule (when_law _ _ (unassigned_decides all p) r.Unassigned rule)
    (join_law _ _ _ _ rule (when_law _ _ (twice_decides is_sync before p) r.SyncedTwice rule) (when_law _ _ (unmonitored_decides all p) r.NotMonitored rule))

-- the rules of a site beside others
together_law : (before all : List Site) (s : Site) (rule : Rule) → Contains (together (seen_facts before) (all_facts all) s) rule ↔ Together before all s rule
together_law before all (Declaration t flag later words) rule = when_law _ _ (unused_decides all t) (unused flag) rule
together_law before all (Defined sort word t m sub wrong part) rule =
    let both = join_law _ _ _ _ rule
    (if_law _ _ _ (definition_decides all sort m sub wrong) r.WrongArray rule _ (elements_law before all sort part rule))
    (when_law _ _ (over_decides 1024 (sum_by channels_at before) (channels_at (Defined sort word t m sub wrong part))) r.TooManyChannels rule) in (
      (λ h. elim (both.0 h) [ inl w ↦ elim w [ inl x ↦ inl x | inr x ↦ inr (inl x) ] | inr w ↦ inr (inr w) ]),
      (λ h. both.1 (elim h [ inl x ↦ inl (inl x) | inr w ↦ elim w [ inl x ↦ inl (inr x) | inr x ↦ inr x ] ])),
    )
together_law before all (Use p t m sub) rule =
    join_law _ _ _ _ rule (when_law _ _ (use_decides all p m sub) r.WrongArray rule)
    (join_law _ _ _ _ rule (when_law _ _ (unassigned_use_decides all p m) r.Unassigned rule) (when_law _ _ (queue_decides all p m) r.NoQueue rule))
together_law before all (State word t later clauses) rule = when_law _ _ (over_decides 1024 (sum_by states_at before) 1) r.TooManyStates rule
together_law before all (StateSet word t later) rule = when_law _ _ (over_decides 64 (sum_by sets_at before) 1) r.TooManySets rule
together_law before all (Function t taken) rule =
    join_law _ _ _ _ rule (when_law _ _ (unused_decides all t) r.UnusedFunction rule) (when_law _ _ (over_decides 256 (sum_by functions_at before) 1) r.TooManyFunctions rule)
together_law before all s rule = nothing_law rule

-- all rules of a site
breaks_law : (before all : List Site) (s : Site) (rule : Rule) → Contains (rules_at (seen_facts before) (all_facts all) s) rule ↔ Breaks before all s rule
breaks_law before all s rule = join_law _ _ _ _ rule ((λ h. h), (λ h. h)) (together_law before all s rule)

-- ---- all sites

-- the rule is told at a site after some
abbrev At : List Site → List Site → Site → Rule → Type 0
At before all s rule = Contains (rules_at (seen_facts before) (all_facts all) s) rule

-- what is broken at a site
from_map : (s : Site) (rules : List Rule) (b : Broken) → Contains (map (broken_at s) rules) b → (b.site ≡ s) × Contains rules b.rule
from_map s [] b h = in_none b h
from_map s (x ∷ rules) b h =
    elim (in_cons (broken_at s x) (map (broken_at s) rules) b h) [
      | inl e ↦ (sym (ap (λ y. y.site) e), subst (Contains (x ∷ rules)) (ap (λ y. y.rule) e) (in_first x rules))
      | inr w ↦ let rest = from_map s rules b w in (rest.0, in_rest x rules b.rule rest.1)
    ]

-- a rule of a site is broken there
to_map : (s : Site) (rules : List Rule) (rule : Rule) → Contains rules rule → Contains (map (broken_at s) rules) (broken_at s rule)
to_map s [] rule h = in_none rule h
to_map s (x ∷ rules) rule h =
    elim (in_cons x rules rule h) [
      | inl e ↦ subst (λ y. Contains (map (broken_at s) (x ∷ rules)) (broken_at s y)) e (in_first (broken_at s x) (map (broken_at s) rules))
      | inr w ↦ in_rest (broken_at s x) (map (broken_at s) rules) (broken_at s rule) (to_map s rules rule w)
    ]

-- a site of these where the rule is told
abbrev Split : List Site → List Site → List Site → Broken → Type 0
Split before all rest b = (mid : List Site) × (after : List Site) × (rest ≡ mid ++ b.site ∷ after) × At (before ++ mid) all b.site b.rule

-- it is the first site
from_first : (before all : List Site) (s : Site) (rest : List Site) (b : Broken) → b.site ≡ s → At before all s b.rule → Split before all (s ∷ rest) b
from_first before all s rest b e h = (
  [],
  rest,
  ap (λ x. x ∷ rest) (sym e),
  subst (λ l. At l all b.site b.rule) (sym (append-nil before)) (subst (λ x. At before all x b.rule) (sym e) h),
)

-- it is a later site
from_rest : (before all : List Site) (s : Site) (rest : List Site) (b : Broken) → Split (before ++ s ∷ []) all rest b → Split before all (s ∷ rest) b
from_rest before all s rest b w = (s ∷ w.0, w.1, ap (λ l. s ∷ l) w.2, subst (λ l. At l all b.site b.rule) (append_assoc before (s ∷ []) w.0) w.3)

-- what is told is told at some site
from_broken : (before all rest : List Site) (b : Broken) → Contains (broken_from before all rest) b → Split before all rest b
from_broken before all [] b h = in_none b h
from_broken before all (s ∷ rest) b h =
    let rules = rules_at (seen_facts before) (all_facts all) s in
    elim (Contains-append_cases (map (broken_at s) rules) (broken_from (before ++ s ∷ []) all rest) b h) [
      | inl w ↦ (let here = from_map s rules b w in from_first before all s rest b here.0 here.1)
      | inr w ↦ from_rest before all s rest b (from_broken (before ++ s ∷ []) all rest b w)
    ]

-- what a site breaks is told
to_broken : (before all mid : List Site) (x : Site) (after : List Site) (rule : Rule) → At (before ++ mid) all x rule → Contains (broken_from before all (mid ++ x ∷ after)) (broken_at x rule)
to_broken before all [] x after rule h =
    let rules = rules_at (seen_facts before) (all_facts all) x in
    Contains-append_left (map (broken_at x) rules) (broken_from (before ++ x ∷ []) all after) (broken_at x rule)
    (to_map x rules rule (subst (λ l. At l all x rule) (append-nil before) h))
to_broken before all (s ∷ mid) x after rule h =
    Contains-append_right (map (broken_at s) (rules_at (seen_facts before) (all_facts all) s)) (broken_from (before ++ s ∷ []) all (mid ++ x ∷ after)) (broken_at x rule)
    (to_broken (before ++ s ∷ []) all mid x after rule (subst (λ l. At l all x rule) (sym (append_assoc before (s ∷ []) mid)) h))

-- what is told is what is broken
pub broken_law : (all : List Site) (b : Broken) → Contains (all_broken all) b ↔ IsBroken all b
broken_law all b = (
  (λ h. let w = from_broken [] all all b h in record { before = w.0; after = w.1; stands = w.2; breaks = (breaks_law w.0 all b.site b.rule).0 w.3 }),
  (λ h. subst (λ l. Contains (broken_from [] all l) b) (sym h.stands) (to_broken [] all h.before b.site h.after b.rule ((breaks_law h.before all b.site b.rule).1 h.breaks))),
)

-- one more site is told
pub broken_step : (all : List Site) (i : ℕ) (s : Site) (f : SeenFacts) (a : AllFacts) (old new : List Broken) → i < length all
    → f ≡ seen_facts (take i all) → a ≡ all_facts all → old ++ broken_from (take i all) all (drop i all) ≡ all_broken all
    → new ≡ old ++ map (broken_at (get_or all i s)) (rules_at f a (get_or all i s))
    → new ++ broken_from (take (i + 1) all) all (drop (i + 1) all) ≡ all_broken all
broken_step all i s f a old new h ef ea so_far en =
    let x = get_or all i s in
    let rest = drop (i + 1) all in
    let rules = rules_at (seen_facts (take i all)) (all_facts all) x in
    ap (λ l. l ++ broken_from (take (i + 1) all) all rest) (en ∙ (λ j. old ++ map (broken_at x) (rules_at (ef j) (ea j) x)))
    ∙ append_assoc old (map (broken_at x) rules) (broken_from (take (i + 1) all) all rest)
    ∙ ap (λ l. old ++ (map (broken_at x) rules ++ broken_from l all rest)) (take_more all i s h)
    ∙ ap (λ l. old ++ broken_from (take i all) all l) (sym (drop_more all i s h)) ∙ so_far

-- nothing is left
pub broken_end : (all : List Site) (i : ℕ) (found : List Broken) → length all ≤ i → found ++ broken_from (take i all) all (drop i all) ≡ all_broken all → found ≡ all_broken all
broken_end all i found h inv =
    sym (append-nil found) ∙ ap (λ l. found ++ broken_from (take i all) all l) (sym (drop_all i all h)) ∙ inv
