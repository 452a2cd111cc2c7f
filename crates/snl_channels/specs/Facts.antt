-- What the tables of what is said of elements stand for.
use Rattle.std.specs.Prelude.{◌≡◌, ℕ, Bool, ◌&&◌, ◌||◌, List, Option, None, Some, nat_eq, if◌then◌else◌}
use Rattle.std.specs.HashMap.{get}
use Rattle.std.specs.HashSet.{contains}
use Rattle.std.specs.Option.{option_or}
use Rattle.snl_syntax.specs.view.Shown.{shown}
use Rattle.snl_channels.specs.declared.facts.Monitored.{Monitored}
use Rattle.snl_channels.specs.declared.facts.Syncs.{Syncs}
use Rattle.snl_channels.specs.LinkViews.{synced_view}
use Rattle.snl_channels.specs.Links.{Said, Synced, is_monitored, first_sync}

-- The same element of the same variable.
abbrev pub same_pair : ℕ × ℕ → ℕ × ℕ → Bool
same_pair a b = nat_eq a.0 b.0 && nat_eq a.1 b.1

-- Something under a condition.
abbrev pub only_if : {A : Type 0} → Bool → A → Option A
only_if holds a = if holds then Some a else None

-- The same, where there is nothing of the whole.
abbrev pub alone_by : {A : Type 0} → Option A → Bool → A → Option A
alone_by None holds a = only_if holds a
alone_by (Some whole) holds a = None

-- The tables say that an element is monitored: its variable as a whole, or the element alone.
abbrev pub monitored_in : Monitored → ℕ → ℕ → Bool
monitored_in t v k = contains nat_eq t.wholes v || contains same_pair t.singles (v, k)

-- What the tables say of an element alone, or else of its whole variable, or else what comes later.
abbrev pub synced_in : Syncs → ℕ → ℕ → Option Synced → Option Synced
synced_in t v k later = option_or (shown synced_view (option_or (get same_pair t.singles (v, k)) (get nat_eq t.wholes v))) later

-- The tables say of each element what some definitions say of it.
abbrev pub AreMonitored : Monitored → List Said → Type 0
AreMonitored t all = (v k : ℕ) → monitored_in t v k ≡ is_monitored v k all

-- The same of event flags and queues.
abbrev pub AreSyncs : Syncs → List Said → Type 0
AreSyncs t all = (v k : ℕ) → synced_in t v k None ≡ first_sync v k all
