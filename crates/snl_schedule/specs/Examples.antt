-- Small state sets, and what their clauses, states, rounds and wakes do, and what events change: computed from the definitions alone.
use Rattle.std.specs.Prelude.{◌≡◌, ℕ, Bool, true, false, not, nat_lt, pos, List, [], ◌∷◌, None, Some, codes}
use Rattle.snl_meaning.specs.declared.live.Live.TheVariants.{Waiting, Running, Ended}
use Rattle.snl_meaning.specs.Examples.{start}
use Rattle.snl_meaning.specs.LinkExamples.{answerless}
use Rattle.snl_meaning.specs.Ran.{Ran, Gives}
use Rattle.snl_meaning.specs.World.{SetMemory, World}
use Rattle.snl_schedule.specs.declared.events.Event.TheVariants.{Up, Down, Done, Tick}
use Rattle.snl_schedule.specs.declared.plans.Destination.{Destination}
use Rattle.snl_schedule.specs.declared.plans.Destination.TheVariants as to
use Rattle.snl_schedule.specs.declared.transitions.Turned.TheVariants.{Exited}
use Rattle.snl_schedule.specs.Event.{applied, line_of, wake_before}
use Rattle.snl_schedule.specs.Instant.{Program, instant_of, round_of}
use Rattle.snl_schedule.specs.Turn.{Clause, State, StateSet, chosen, come_to}

-- ---- what they are made of

-- A block that writes a word.
abbrev pub writes : List ℕ → World → Ran (Unit {0})
writes word w = Gives tt w word

-- A clause whose condition writes a word, and whose block leaves for no state.
abbrev pub clause : (World → Bool) → List ℕ → Destination → Clause
clause holds word target = record { holds = λ w. Gives (holds w) w word; acts = λ w. Gives None w []; target = target; line = 7 }

-- A state whose blocks write `in ` and `out `; whether it does all things also where a transition leads from it to itself.
abbrev pub state : List ℕ → Bool → List Clause → State
state name again clauses = record {
  name = name;
  entry = writes (codes "in ");
  clauses = clauses;
  exit = writes (codes "out ");
  again = record { time = again; entry = again; exit = again };
}

-- A state set that is in its state `lo` at first; `hi` has no clause.
abbrev pub set_with : ℕ → List ℕ → Bool → List Clause → StateSet
set_with set name again clauses = record { set = set; name = name; states = state (codes "lo") again clauses ∷ state (codes "hi") again [] ∷ [] }

-- A program of some state sets, with the links of a world; it does not wait for its channels.
abbrev pub program : List StateSet → Program
program sets = record { name = codes "p"; links = start.ties; waits = false; entry = writes (codes "on "); sets = sets; exit = writes (codes "off ") }

-- The copy of a state set that is in a state since a time.
abbrev pub copy_since : ℕ → ℕ → SetMemory
copy_since state entered = record { words = pos 0 ∷ pos 5 ∷ pos 6 ∷ pos 9 ∷ []; state = state; entered = entered }

-- At 1500 ms, with 3 ticks: one state set in a state since a time; where there is a second one, it is in its first state since 1000 ms.
abbrev pub one_since : ℕ → ℕ → World
one_since state entered = record start { copies = copy_since state entered ∷ [] }

-- two of them
abbrev pub two_since : ℕ → ℕ → World
two_since state entered = record start { copies = copy_since state entered ∷ copy_since 0 1000 ∷ [] }

-- whether it is so late
abbrev pub is_late : ℕ → World → Bool
is_late ms w = not (nat_lt w.time ms)

-- ---- clauses

-- Of three clauses the second one is the first that holds; the condition of the third one is not evaluated.
abbrev pub ChoiceExample : Type 0
ChoiceExample =
    (chosen (clause (λ w. false) (codes "a") to.Exit ∷ clause (λ w. true) (codes "b") (to.State 1) ∷ clause (λ w. true) (codes "c") (to.State 0) ∷ []) start
    ≡ Gives (Some (clause (λ w. true) (codes "b") (to.State 1))) start (codes "ab"))
    × (chosen (clause (λ w. false) (codes "a") to.Exit ∷ []) start ≡ Gives None start (codes "a"))

-- ---- states

-- On the way from itself to itself a state keeps the time of its entry and does no entry block, unless it does all again; from
-- another state it does both in any case.
abbrev pub EntryExamples : Type 0
EntryExamples =
    (come_to (set_with 0 (codes "s") false []) 0 0 (one_since 0 1000) ≡ Gives tt (one_since 0 1000) [])
    × (come_to (set_with 0 (codes "s") true []) 0 0 (one_since 0 1000) ≡ Gives tt (one_since 0 1500) (codes "in "))
    × (come_to (set_with 0 (codes "s") false []) 1 0 (one_since 1 1000) ≡ Gives tt (one_since 0 1500) (codes "in "))

-- ---- rounds

-- a state set that leaves the program
abbrev pub leaving : ℕ → List ℕ → StateSet
leaving set name = set_with set name false (clause (λ w. true) [] to.Exit ∷ [])

-- one that goes on to `hi`, once it is so late
abbrev pub going : ℕ → ℕ → List ℕ → StateSet
going ms set name = set_with set name false (clause (is_late ms) [] (to.State 1) ∷ [])

-- After a transition that leads out of the program no other state set has its turn, no state does a block, and the program does
-- its own; after one that leads to a state the others have their turns. An instant begins with all its ticks, whatever was left.
abbrev pub RoundExamples : Type 0
RoundExamples =
    (round_of (program (leaving 0 (codes "s") ∷ going 0 1 (codes "t") ∷ [])) (two_since 0 1000) ≡ Gives Exited (record (two_since 0 1000) { ticks = 2 }) (codes "1500 go s lo exit\n"))
    × (round_of (program (going 0 0 (codes "s") ∷ leaving 1 (codes "t") ∷ [])) (two_since 0 1000)
    ≡ Gives Exited (record (two_since 1 1500) { ticks = 1 }) (codes "1500 go s lo hi\nout in 1500 go t lo exit\n"))
    × (instant_of (program (leaving 0 (codes "s") ∷ [])) 3 (one_since 0 1000)
    ≡ Gives tt (record (one_since 0 1000) { ticks = 2; phase = Ended }) (codes "1500 go s lo exit\noff 1500 exit p\n"))
    × (instant_of (program (going 0 0 (codes "s") ∷ [])) 3 (record (one_since 0 1000) { ticks = 1 })
    ≡ Gives tt (record (one_since 1 1500) { ticks = 2 }) (codes "1500 go s lo hi\nout in "))

-- ---- wakes and events

-- A world of one state set that has a wake.
abbrev pub waking : ℕ → World
waking ms = record (one_since 0 1000) { wake = Some ms }

-- A wake comes before a later time, and not before its own, nor in a program that waits for its channels. A line has an instant at
-- the wake before it: the transition is told with that time, and not with its own.
abbrev pub WakeExamples : Type 0
WakeExamples =
    (wake_before 1701 (waking 1700) ≡ Some 1700)
    × (wake_before 1700 (waking 1700) ≡ None)
    × (wake_before 1701 (record (waking 1700) { phase = Waiting }) ≡ None)
    × (line_of (program (going 1700 0 (codes "s") ∷ [])) 3 2000 Tick (waking 1700)
    ≡ Gives Running (record (one_since 1 1700) { time = 2000; ticks = 3 }) (codes "1700 go s lo hi\nout in "))

-- The first link waits for an answer to a put. It does not any more once its channel is down, or answered; neither another channel
-- that is answered nor its own that is up again changes that.
abbrev pub EventExamples : Type 0
EventExamples =
    (applied (program []) (Down 0) answerless ≡ record start { ups = false ∷ false ∷ [] })
    × (applied (program []) (Done 0) answerless ≡ start)
    × (applied (program []) (Done 1) answerless ≡ answerless)
    × (applied (program []) (Up 0) answerless ≡ answerless)
