-- A program without the pieces of the states that it never reaches.
use Rattle.std.specs.Prelude.{ℕ, ◌+◌, Bool, true, false, List, [], ◌∷◌, map}
use Rattle.snl_schedule.specs.Instant.{Program}
use Rattle.snl_schedule.specs.Turn as turn

-- A state without its pieces: its name and its options are left.
abbrev pub without_pieces : turn.State → turn.State
without_pieces q = record q { entry = turn.nothing; clauses = []; exit = turn.nothing }

-- A state as it is where it is reached, and without its pieces where it is not.
abbrev pub if_reached : Bool → turn.State → turn.State
if_reached true q = q
if_reached false q = without_pieces q

-- The same of states with numbers from k on.
abbrev pub states_reached : (ℕ → Bool) → ℕ → List turn.State → List turn.State
states_reached reached k [] = []
states_reached reached k (q ∷ qs) = if_reached (reached k) q ∷ states_reached reached (k + 1) qs

-- A state set, by a table that says of each of its states whether it is reached.
abbrev pub set_reached : (ℕ → ℕ → Bool) → turn.StateSet → turn.StateSet
set_reached reached s = record s { states = states_reached (reached s.set) 0 s.states }

-- A program, by such tables for its state sets. Its own blocks stay.
abbrev pub only_reached : (ℕ → ℕ → Bool) → Program → Program
only_reached reached p = record p { sets = map (set_reached reached) p.sets }
