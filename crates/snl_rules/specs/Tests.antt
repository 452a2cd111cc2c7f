-- The tests by which the rules are told, on what tables know of the sites before a site and of all sites.
use Rattle.std.specs.Prelude.{ℕ, zero, suc, ◌-◌, Bool, false, not, ◌&&◌, ◌||◌, ◌==◌, nat_le, nat_lt, List, [], ◌∷◌, ◌++◌, map, Option, None, Some, if◌then◌else◌}
use Rattle.std.specs.List.{list_any, sum_by}
use Rattle.snl_text.specs.declared.tokens.Pos.{Pos}
use Rattle.snl_names.specs.declared.sites.Extent.{Extent}
use Rattle.snl_names.specs.declared.sites.Extent.TheVariants.{Whole, Front, Element}
use Rattle.snl_names.specs.declared.sites.Meaning.{Meaning}
use Rattle.snl_names.specs.declared.sites.Meaning.TheVariants.{Variable, Flag, Number}
use Rattle.snl_names.specs.declared.sites.Part.{Part}
use Rattle.snl_names.specs.declared.sites.Purpose.{Purpose}
use Rattle.snl_names.specs.declared.sites.Purpose.TheVariants.{Read, Channel, Queued, Flagged, Delayed, Dropped, Ignored}
use Rattle.snl_names.specs.declared.sites.Size.{Size}
use Rattle.snl_names.specs.declared.sites.Size.TheVariants.{Scalar}
use Rattle.snl_names.specs.declared.sites.Sort.{Sort}
use Rattle.snl_names.specs.declared.sites.Sort.TheVariants.{Assign, Monitor, Queue}
use Rattle.snl_names.specs.declared.sites.Site.{Site}
use Rattle.snl_names.specs.declared.sites.Site.TheVariants.{Declaration, Defined, Use, Call, State, StateSet, Function}
use Rattle.snl_names.specs.Scopes.{is_array}
use Rattle.snl_rules.specs.declared.rules.Broken.{Broken}
use Rattle.snl_rules.specs.declared.rules.Rule.{Rule}
use Rattle.snl_rules.specs.declared.rules.Rule.TheVariants as r
use Rattle.snl_rules.specs.Elements.{is_assign, is_monitor, is_queue, is_sync, part_at, is_whole}
use Rattle.snl_rules.specs.Rules.{when, alone, unused, sets_at, states_at, functions_at, channels_at}

-- ---- elements

-- The extent has element k.
abbrev pub is_in : ℕ → Extent → Bool
is_in k (Whole n) = nat_lt k n
is_in k (Front n) = nat_lt k n
is_in k (Element j) = k == j

-- The part has element k of the variable.
abbrev pub has_element : ℕ → ℕ → Option Part → Bool
has_element variable k None = false
has_element variable k (Some p) = p.variable.offset == variable && is_in k p.extent

-- The part is of the variable.
abbrev pub is_of : ℕ → Option Part → Bool
is_of variable None = false
is_of variable (Some p) = p.variable.offset == variable

-- A definition of such a sort names the element.
abbrev pub names_element : (Sort → Bool) → ℕ → ℕ → Site → Bool
names_element sorts variable k s = has_element variable k (part_at sorts s)

-- A definition of such a sort names something of the variable.
abbrev pub names_variable : (Sort → Bool) → ℕ → Site → Bool
names_variable sorts variable s = is_of variable (part_at sorts s)

-- The test holds of some number below n.
abbrev pub some_below : (ℕ → Bool) → ℕ → Bool
some_below test zero = false
some_below test (suc n) = test n || some_below test n

-- What definitions name: an element, an element below a number, anything of a variable.
pub record Named : Type 0 where
  pub element : ℕ → ℕ → Bool
  pub below : ℕ → ℕ → Bool
  pub some : ℕ → Bool

-- What the definitions of such a sort name, of those in some sites.
abbrev pub named_of : (Sort → Bool) → List Site → Named
named_of sorts sites = record {
  element = λ v k. list_any (names_element sorts v k) sites;
  below = λ v n. some_below (λ k. list_any (names_element sorts v k) sites) n;
  some = λ v. list_any (names_variable sorts v) sites;
}

-- The same with one more part.
abbrev pub with_part : Named → Option Part → Named
with_part n part = record {
  element = λ v k. n.element v k || has_element v k part;
  below = λ v m. n.below v m || some_below (λ k. has_element v k part) m;
  some = λ v. n.some v || is_of v part;
}

-- Some element of a part is named.
abbrev pub overlaps : Named → ℕ → Extent → Bool
overlaps n v (Whole m) = n.below v m
overlaps n v (Front m) = n.below v m
overlaps n v (Element k) = n.element v k

-- Some element of what a definition names is named.
abbrev pub names_again : Named → Option Part → Bool
names_again n None = false
names_again n (Some p) = overlaps n p.variable.offset p.extent

-- Some element of a part is not named.
abbrev pub lacks : Named → ℕ → Extent → Bool
lacks n v (Whole m) = some_below (λ k. not (n.element v k)) m
lacks n v (Front m) = some_below (λ k. not (n.element v k)) m
lacks n v (Element k) = not (n.element v k)

-- Some element of what a definition names is not named.
abbrev pub lacks_some : Named → Option Part → Bool
lacks_some n None = false
lacks_some n (Some p) = lacks n p.variable.offset p.extent

-- ---- first assigns: whether of the whole

-- Of a part of the variable, whether it is of the whole.
abbrev pub whole_by : ℕ → Option Part → Option Bool
whole_by variable None = None
whole_by variable (Some p) = if p.variable.offset == variable then Some (is_whole p.extent) else None

-- The first of two, if it is there.
abbrev pub first_or : Option Bool → Option Bool → Option Bool
first_or None other = other
first_or (Some b) other = Some b

-- Of the first `assign` of the variable, whether it is of the whole.
abbrev pub first_whole : List Site → ℕ → Option Bool
first_whole [] variable = None
first_whole (s ∷ rest) variable = first_or (whole_by variable (part_at is_assign s)) (first_whole rest variable)

-- There is one, of the whole.
abbrev pub is_yes : Option Bool → Bool
is_yes None = false
is_yes (Some b) = b

-- There is one, of elements.
abbrev pub is_no : Option Bool → Bool
is_no None = false
is_no (Some b) = not b

-- ---- uses

-- The meaning is the declaration at this offset.
abbrev pub is_meant : ℕ → Meaning → Bool
is_meant offset (Variable d size) = d.offset == offset
is_meant offset (Flag d) = d.offset == offset
is_meant offset m = false

-- There is a place, and it is at this offset.
abbrev pub is_place : ℕ → Option Pos → Bool
is_place offset None = false
is_place offset (Some p) = p.offset == offset

-- The site has a name that means that declaration or function.
abbrev pub uses_declared : ℕ → Site → Bool
uses_declared offset (Use p t m sub) = is_meant offset m
uses_declared offset (Defined sort word t m sub wrong part) = is_meant offset m
uses_declared offset (Call t known fitting may valued function) = is_place offset function
uses_declared offset s = false

-- ---- limits: how many more are allowed, nothing once the limit is passed

-- What is left of a limit after so many.
abbrev pub room : ℕ → ℕ → Option ℕ
room limit count = if nat_le count limit then Some (limit - count) else None

-- What is left after n more.
abbrev pub room_after : Option ℕ → ℕ → Option ℕ
room_after None n = None
room_after (Some left) n = if nat_le n left then Some (left - n) else None

-- With n more the limit is passed for the first time.
abbrev pub is_over : Option ℕ → ℕ → Bool
is_over None n = false
is_over (Some left) n = nat_lt left n

-- ---- facts

-- What is known of all sites.
pub record AllFacts : Type 0 where
  pub assigned : Named
  pub monitored : Named
  pub queued : Named
  pub first : ℕ → Option Bool
  pub used : ℕ → Bool

-- The facts of all sites.
abbrev pub all_facts : List Site → AllFacts
all_facts all = record {
  assigned = named_of is_assign all;
  monitored = named_of is_monitor all;
  queued = named_of is_queue all;
  first = λ v. first_whole all v;
  used = λ v. list_any (uses_declared v) all;
}

-- What is known of the sites before a site.
pub record SeenFacts : Type 0 where
  pub assigned : Named
  pub synced : Named
  pub sets : Option ℕ
  pub states : Option ℕ
  pub functions : Option ℕ
  pub channels : Option ℕ

-- The facts of the sites before a site.
abbrev pub seen_facts : List Site → SeenFacts
seen_facts before = record {
  assigned = named_of is_assign before;
  synced = named_of is_sync before;
  sets = room 64 (sum_by sets_at before);
  states = room 1024 (sum_by states_at before);
  functions = room 256 (sum_by functions_at before);
  channels = room 1024 (sum_by channels_at before);
}

-- The same with one more site.
abbrev pub seen_after : SeenFacts → Site → SeenFacts
seen_after f s = record {
  assigned = with_part f.assigned (part_at is_assign s);
  synced = with_part f.synced (part_at is_sync s);
  sets = room_after f.sets (sets_at s);
  states = room_after f.states (states_at s);
  functions = room_after f.functions (functions_at s);
  channels = room_after f.channels (channels_at s);
}

-- ---- rules

-- E29 at a definition.
abbrev pub is_wrong_definition : AllFacts → Sort → Meaning → Bool → Bool → Bool
is_wrong_definition a Assign (Variable d size) sub wrong = wrong
is_wrong_definition a (Queue n) (Variable d size) sub wrong = wrong || (sub || (is_array size && is_no (a.first d.offset)))
is_wrong_definition a sort (Variable d size) sub wrong = wrong || (sub && is_yes (a.first d.offset))
is_wrong_definition a sort m sub wrong = false

-- E20 at a definition, by its extent.
abbrev pub is_unassigned_extent : AllFacts → ℕ → Extent → Bool
is_unassigned_extent a v (Element k) = not (a.assigned.element v k)
is_unassigned_extent a v extent = not (a.assigned.some v)

-- E20 at a definition.
abbrev pub is_unassigned : AllFacts → Option Part → Bool
is_unassigned a None = false
is_unassigned a (Some p) = is_unassigned_extent a p.variable.offset p.extent

-- E20, E22 and W4 at a `sync` or `syncQ`.
abbrev pub by_sync : SeenFacts → AllFacts → Option Part → List Rule
by_sync f a part =
    when (is_unassigned a part) r.Unassigned ++ (when (names_again f.synced part) r.SyncedTwice ++ when (lacks_some a.monitored part) r.NotMonitored)

-- What a definition breaks where its name has no E29.
abbrev pub by_elements : SeenFacts → AllFacts → Sort → Option Part → List Rule
by_elements f a Assign part = when (names_again f.assigned part) r.AssignedTwice
by_elements f a Monitor part = when (is_unassigned a part) r.Unassigned
by_elements f a sort part = by_sync f a part

-- E29, or else those.
abbrev pub by_definition : SeenFacts → AllFacts → Sort → Meaning → Bool → Bool → Option Part → List Rule
by_definition f a sort m sub wrong part = if is_wrong_definition a sort m sub wrong then r.WrongArray ∷ [] else by_elements f a sort part

-- E29 where a channel or a queue is used.
abbrev pub is_wrong_channel : AllFacts → ℕ → Size → Bool → Bool
is_wrong_channel a v Scalar sub = sub
is_wrong_channel a v size sub = if sub then is_yes (a.first v) else is_no (a.first v)

-- E29 where a value is used or changed.
abbrev pub is_wrong_plain : Size → Bool → Bool
is_wrong_plain size sub = if is_array size then not sub else sub

-- E29 in an expression.
abbrev pub is_wrong_use : AllFacts → Purpose → Meaning → Bool → Bool
is_wrong_use a Ignored m sub = false
is_wrong_use a Flagged m sub = false
is_wrong_use a Channel (Variable d size) sub = is_wrong_channel a d.offset size sub
is_wrong_use a Queued (Variable d size) sub = is_wrong_channel a d.offset size sub
is_wrong_use a p (Variable d size) sub = is_wrong_plain size sub
is_wrong_use a Read Number sub = sub
is_wrong_use a Delayed Number sub = sub
is_wrong_use a Dropped Number sub = sub
is_wrong_use a p m sub = false

-- E20 in an expression.
abbrev pub is_unassigned_use : AllFacts → Purpose → Meaning → Bool
is_unassigned_use a Channel (Variable d size) = not (a.assigned.some d.offset)
is_unassigned_use a Queued (Variable d size) = not (a.assigned.some d.offset)
is_unassigned_use a p m = false

-- E23.
abbrev pub is_without_queue : AllFacts → Purpose → Meaning → Bool
is_without_queue a Queued (Variable d size) = not (a.queued.some d.offset)
is_without_queue a p m = false

-- What a name in an expression breaks beside all sites.
abbrev pub by_use : AllFacts → Purpose → Meaning → Bool → List Rule
by_use a p m sub =
    when (is_wrong_use a p m sub) r.WrongArray ++ (when (is_unassigned_use a p m) r.Unassigned ++ when (is_without_queue a p m) r.NoQueue)

-- What a site breaks beside the facts.
abbrev pub together : SeenFacts → AllFacts → Site → List Rule
together f a (Declaration t is_flag later words) = when (not (a.used t.pos.offset)) (unused is_flag)
together f a (Defined sort word t m sub wrong part) =
    by_definition f a sort m sub wrong part
    ++ when (is_over f.channels (channels_at (Defined sort word t m sub wrong part))) r.TooManyChannels
together f a (Use p t m sub) = by_use a p m sub
together f a (State word t later clauses) = when (is_over f.states 1) r.TooManyStates
together f a (StateSet word t later) = when (is_over f.sets 1) r.TooManySets
together f a (Function t taken) = when (not (a.used t.pos.offset)) r.UnusedFunction ++ when (is_over f.functions 1) r.TooManyFunctions
together f a s = []

-- All rules that a site breaks.
abbrev pub rules_at : SeenFacts → AllFacts → Site → List Rule
rules_at f a s = alone s ++ together f a s

-- A rule that is broken at a site.
abbrev pub broken_at : Site → Rule → Broken
broken_at s rule = record { rule = rule; site = s }

-- What is broken at the sites after some, in their order.
abbrev pub broken_from : List Site → List Site → List Site → List Broken
broken_from before all [] = []
broken_from before all (s ∷ rest) =
    map (broken_at s) (rules_at (seen_facts before) (all_facts all) s) ++ broken_from (before ++ s ∷ []) all rest

-- What is broken at all sites.
abbrev pub all_broken : List Site → List Broken
all_broken all = broken_from [] all all
