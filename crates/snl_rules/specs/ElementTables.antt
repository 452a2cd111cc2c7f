-- What the tables of elements, of first assigns and of uses know.
use Rattle.std.specs.Prelude.{◌≡◌, ℕ, Bool, false, ◌&&◌, ◌||◌, nat_eq, nat_lt, is_some, Option, Some, None}
use Rattle.std.specs.HashMap.{HashMap, get}
use Rattle.std.specs.HashSet.{contains}
use Rattle.snl_names.specs.declared.sites.Sort.{Sort}
use Rattle.snl_rules.specs.declared.elements.Elements.{Elements}
use Rattle.snl_rules.specs.declared.elements.Naming.{Naming}
use Rattle.snl_rules.specs.declared.elements.Naming.TheVariants.{Assigning, Monitoring, Syncing, Queueing}
use Rattle.snl_rules.specs.declared.facts.ProgramFacts.{ProgramFacts}
use Rattle.snl_rules.specs.declared.facts.EarlierFacts.{EarlierFacts}
use Rattle.snl_rules.specs.Elements.{is_assign, is_monitor, is_queue, is_sync}
use Rattle.snl_rules.specs.Tests.{Named, AllFacts, SeenFacts}

-- The sorts of definitions that a table is of.
abbrev pub sorts_of : Naming → Sort → Bool
sorts_of Assigning = is_assign
sorts_of Monitoring = is_monitor
sorts_of Syncing = is_sync
sorts_of Queueing = is_queue

-- A number, or 0.
abbrev pub or_zero : Option ℕ → ℕ
or_zero None = 0
or_zero (Some n) = n

-- How many first elements of a variable one entry names.
abbrev pub front_in : {S : Type 0} → HashMap ℕ ℕ S → ℕ → ℕ
front_in fronts v = or_zero (get nat_eq fronts v)

-- The same element of the same variable.
abbrev pub same_pair : ℕ × ℕ → ℕ × ℕ → Bool
same_pair a b = nat_eq a.0 b.0 && nat_eq a.1 b.1

-- There is a least element, and it is below n.
abbrev pub is_least_below : Option ℕ → ℕ → Bool
is_least_below None n = false
is_least_below (Some least) n = nat_lt least n

-- The least element of a variable is below n.
abbrev pub least_in : {S : Type 0} → HashMap ℕ ℕ S → ℕ → ℕ → Bool
least_in leasts v n = is_least_below (get nat_eq leasts v) n

-- The table names an element.
abbrev pub element_in : Elements → ℕ → ℕ → Bool
element_in t v k = nat_lt k (front_in t.fronts v) || contains same_pair t.singles (v, k)

-- The table names an element below n.
abbrev pub below_in : Elements → ℕ → ℕ → Bool
below_in t v n = least_in t.leasts v n

-- The table names something of a variable.
abbrev pub some_in : Elements → ℕ → Bool
some_in t v = is_some (get nat_eq t.fronts v)

-- All that the table names.
abbrev pub named_in : Elements → Named
named_in t = record { element = λ v k. element_in t v k; below = λ v n. below_in t v n; some = λ v. some_in t v }

-- The table names nothing.
pub record IsEmpty (t : Elements) : Type 0 where
  pub element : (v k : ℕ) → element_in t v k ≡ false
  pub below : (v n : ℕ) → below_in t v n ≡ false
  pub some : (v : ℕ) → some_in t v ≡ false

-- Nothing is known.
pub record IsBlank (k : ProgramFacts) : Type 0 where
  pub assigned : IsEmpty k.assigned
  pub monitored : IsEmpty k.monitored
  pub queued : IsEmpty k.queued
  pub firsts : (v : ℕ) → get nat_eq k.firsts v ≡ None
  pub used : (v : ℕ) → contains nat_eq k.used v ≡ false

-- The facts that the tables of all sites know.
abbrev pub known_in : ProgramFacts → AllFacts
known_in k = record {
  assigned = named_in k.assigned;
  monitored = named_in k.monitored;
  queued = named_in k.queued;
  first = λ v. get nat_eq k.firsts v;
  used = λ v. contains nat_eq k.used v;
}

-- The facts that the tables of the sites before a site know.
abbrev pub seen_in : EarlierFacts → SeenFacts
seen_in s = record {
  assigned = named_in s.assigned;
  synced = named_in s.synced;
  sets = s.sets;
  states = s.states;
  functions = s.functions;
  channels = s.channels;
}
