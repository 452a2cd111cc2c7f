-- The refresh of a state set: values that came to links are copied into its variables.
use Rattle.std.specs.Prelude.{ℕ, ◌+◌, Bool, false, List, [], ◌∷◌, Option, None, Some, slice_index_or, slice_set, if◌then◌else◌}
use Rattle.snl_meaning.specs.declared.ties.Tied.{Tied}
use Rattle.snl_meaning.specs.Links.{home_of, with_elements, buffer_of}
use Rattle.snl_meaning.specs.World.{World}

-- Whether a value came to a link that a state set's copy does not have yet.
abbrev pub is_marked : ℕ → ℕ → World → Bool
is_marked set link w = slice_index_or (slice_index_or w.marks set []) link false

-- The world in which a link is marked for a state set, or not.
abbrev pub with_mark : ℕ → ℕ → Bool → World → World
with_mark set link mark w = record w { marks = slice_set w.marks set (slice_set (slice_index_or w.marks set []) link mark) }

-- The words of a buffer are copied, where the state set has the variable.
abbrev pub copied_to : ℕ → Option ℕ → Tied → World → World
copied_to set None t w = w
copied_to set (Some home) t w = with_elements set home (buffer_of t w) w

-- A link of this number: if it is marked, its buffer is copied and the mark is taken away.
abbrev pub refreshed_link : ℕ → ℕ → Tied → World → World
refreshed_link set number t w = if is_marked set number w then with_mark set number false (copied_to set (home_of set number w) t w) else w

-- The links from a number on.
abbrev pub refreshed_from : ℕ → ℕ → List Tied → World → World
refreshed_from set number [] w = w
refreshed_from set number (t ∷ ts) w = refreshed_from set (number + 1) ts (refreshed_link set number t w)

-- All links.
abbrev pub refreshed : ℕ → World → World
refreshed set w = refreshed_from set 0 w.ties w
