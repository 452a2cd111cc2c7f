-- What happens at one time: the start, where it is due, and rounds until one has no transition.
use Rattle.std.specs.Prelude.{ℕ, zero, suc, Bool, true, false, not, ◌&&◌, ◌||◌, List, [], ◌∷◌, Option, None, Some, slice_index_or, if◌then◌else◌}
use Rattle.std.specs.List.{list_all}
use Rattle.snl_output.specs.Lines.{start_line, exit_line}
use Rattle.snl_meaning.specs.declared.live.Live.{Live}
use Rattle.snl_meaning.specs.declared.live.Live.TheVariants.{Waiting, Running, Ended}
use Rattle.snl_meaning.specs.Ran.{Ran, Gives, then_do}
use Rattle.snl_meaning.specs.World.{World}
use Rattle.snl_meaning.specs.declared.ties.Tied.{Tied}
use Rattle.snl_schedule.specs.declared.transitions.Turned.{Turned}
use Rattle.snl_schedule.specs.declared.transitions.Turned.TheVariants.{Stayed, Moved, Exited}
use Rattle.snl_schedule.specs.Refresh.{refreshed}
use Rattle.snl_schedule.specs.Turn.{StateSet, state_in, entered_in, told_fault, turn_of}

-- What a program is to its events: its name, its links and its state sets, each in their order, its own two blocks,
-- which run on the copy of the first state set, and whether it waits for its channels before it starts.
pub record Program : Type 0 where
  pub name : List ℕ
  pub links : List Tied
  pub waits : Bool
  pub entry : World → Ran (Unit {0})
  pub sets : List StateSet
  pub exit : World → Ran (Unit {0})

-- ---- the program's own blocks

-- The name of the first state set.
abbrev pub first_name : List StateSet → List ℕ
first_name [] = []
first_name (s ∷ ss) = s.name

-- One of the two blocks. The line of its fault names the first state set.
abbrev pub owned : Program → (World → Ran (Unit {0})) → World → Ran (Unit {0})
owned p block w = told_fault (first_name p.sets) (block w)

-- ---- rounds

-- What is known of a round after one more turn.
abbrev pub later : Turned → Turned → Turned
later before Stayed = before
later before turned = turned

-- It led out of the program.
abbrev pub is_exit : Turned → Bool
is_exit Exited = true
is_exit _ = false

-- What follows a turn in a round: the others. After a transition that leads out of the program no other state set has
-- its turn.
abbrev pub unless_exited : (Turned → World → Ran Turned) → Turned → World → Ran Turned
unless_exited others turned w = if is_exit turned then Gives turned w [] else others turned w

-- One turn of each state set; whether one had a transition, or there was one before.
abbrev pub round_from : List StateSet → Turned → World → Ran Turned
round_from [] before w = Gives before w []
round_from (s ∷ ss) before w = then_do (turn_of s w) (λ turned. unless_exited (round_from ss) (later before turned))

-- A round, in which no due time is noted at first.
abbrev pub round_of : Program → World → Ran Turned
round_of p w = round_from p.sets Stayed (record w { due = None })

-- The last line of a program.
abbrev pub closed_by : List ℕ → World → Ran (Unit {0})
closed_by name w = Gives tt (record w { phase = Ended }) (exit_line w.time name)

-- The end of a program by a transition that leads out of it: its exit block, and its line.
abbrev pub exited : Program → World → Ran (Unit {0})
exited p w = then_do (owned p p.exit w) (λ _ u. closed_by p.name u)

-- What follows a round: others, if it had a transition. The wake is the least due time of the last one.
abbrev pub unless_still : Program → (World → Ran (Unit {0})) → Turned → World → Ran (Unit {0})
unless_still p others Stayed w = Gives tt (record w { wake = w.due }) []
unless_still p others Moved w = others w
unless_still p others Exited w = exited p w

-- At most so many rounds, until one has no transition.
abbrev pub rounds_of : Program → ℕ → World → Ran (Unit {0})
rounds_of p zero w = Gives tt w []
rounds_of p (suc n) w = then_do (round_of p w) (unless_still p (rounds_of p n))

-- Each transition spends a tick, so there is at most one round more than ticks are left.
abbrev pub all_rounds : Program → World → Ran (Unit {0})
all_rounds p w = rounds_of p (suc w.ticks) w

-- ---- the start

-- What is known of a channel; a link without one waits for nothing.
abbrev pub is_so : List Bool → Option ℕ → Bool
is_so known None = true
is_so known (Some channel) = slice_index_or known channel false

-- The channel of a link is connected and, where the link is monitored, was valued.
abbrev pub is_link_ready : World → Tied → Bool
is_link_ready w l = is_so w.ups l.channel && (is_so w.valued l.channel || not l.is_monitored)

-- So are those of all links, or it does not wait: the program can start.
abbrev pub is_ready : Program → World → Bool
is_ready p w = not p.waits || list_all (is_link_ready w) p.links

-- Every state set is refreshed.
abbrev pub refreshed_sets : List StateSet → World → World
refreshed_sets [] w = w
refreshed_sets (s ∷ ss) w = refreshed_sets ss (refreshed s.set w)

-- A state set enters its first state: the time of its entry is now, and its entry block is done, whatever its options say.
abbrev pub begun : StateSet → World → Ran (Unit {0})
begun s w = told_fault s.name ((state_in s 0).entry (entered_in s.set 0 true w))

-- Every state set does so, one after another.
abbrev pub begun_sets : List StateSet → World → Ran (Unit {0})
begun_sets [] w = Gives tt w []
begun_sets (s ∷ ss) w = then_do (begun s w) (λ _ u. begun_sets ss u)

-- What follows the line of the start: every state set is refreshed, then comes the program's entry block, then every state
-- set enters its first state.
abbrev pub opened : Program → World → Ran (Unit {0})
opened p w = then_do (owned p p.entry (refreshed_sets p.sets w)) (λ _ u. begun_sets p.sets u)

-- The line of the start.
abbrev pub told_start : Program → World → Ran (Unit {0})
told_start p w = Gives tt (record w { phase = Running }) (start_line w.time p.name)

-- The start. It may fault, and what it spends are ticks of the first instant.
abbrev pub started : Program → World → Ran (Unit {0})
started p w = then_do (told_start p w) (λ _ u. opened p u)

-- ---- an instant

-- By how far the program has come. One that waits starts once it can.
abbrev pub instant_by : Program → Live → World → Ran (Unit {0})
instant_by p Waiting w = if is_ready p w then then_do (started p w) (λ _ u. all_rounds p u) else Gives tt w []
instant_by p Running w = all_rounds p w
instant_by p Ended w = Gives tt w []

-- An instant with so many ticks.
abbrev pub instant_of : Program → ℕ → World → Ran (Unit {0})
instant_of p budget w = instant_by p w.phase (record w { ticks = budget })
