-- Rounds end by themselves, and no tick is given back.
use Rattle.std.proofs.Common.{◌≡◌, ◌<◌, ◌≤◌, refl, arith, ℕ, zero, suc, Bool, List}
use Rattle.snl_syntax.specs.Programs.{ProgramTree}
use Rattle.snl_channels.specs.Links.{Link}
use Rattle.snl_machine.specs.Rounds.{Rounds, Last, Leaves, Stops, Again, RoundsEnd, TicksWithinBudget}
use Rattle.snl_machine.proofs.Steady.{IsLoose, loosely, round-turns, instant-keeps}
use Rattle.snl_machine.proofs.Turning.{Turns}
use Rattle.snl_meaning.specs.Ran.{Ran, Gives, Faults, then_do}
use Rattle.snl_meaning.specs.World.{World}
use Rattle.snl_load.specs.Meaning.{program_meaning}
use Rattle.snl_schedule.specs.declared.transitions.Turned.{Turned}
use Rattle.snl_schedule.specs.declared.transitions.Turned.TheVariants.{Stayed, Moved, Exited}
use Rattle.snl_schedule.specs.Instant.{Program, round_of, unless_still, rounds_of}

-- ---- ticks

-- no more ticks than before
abbrev NoMore : World → World → Type 0
NoMore w u = u.ticks ≤ w.ticks

-- fewer
abbrev Fewer : World → World → Type 0
Fewer w u = u.ticks < w.ticks

-- no change of a run gives ticks back
ticks-steady : IsLoose NoMore Fewer
ticks-steady = record {
  nothing = λ w. omega arith;
  both = λ u v w a b. omega (arith, a, b);
  copies = λ x w. omega arith;
  shared = λ x w. omega arith;
  marks = λ x w. omega arith;
  flags = λ x w. omega arith;
  waits = λ x w. omega arith;
  buffers = λ x w. omega arith;
  queues = λ x w. omega arith;
  opens = λ w. omega arith;
  notes = λ t w late. omega arith;
  wakes = λ w. omega arith;
  phase = λ x lives w. omega arith;
  spends = λ left w is. omega (arith, is);
  weaker = λ w u a. omega (arith, a);
  before = λ u v w a b. omega (arith, a, b);
  after = λ u v w a b. omega (arith, a, b);
}

-- with more rounds than ticks they end by themselves
rounds-end : (p : ProgramTree) (ls : List Link) (waits : Bool) (n : ℕ) (w : World) → w.ticks < n →
    Rounds (program_meaning p ls waits) w (rounds_of (program_meaning p ls waits) n w)
rounds-end p ls waits zero w few = absurd (omega (arith, few))
rounds-end p ls waits (suc n) w few =
    by (λ u. rounds-end p ls waits n u) (round_of (program_meaning p ls waits) w) refl (round-turns p ls waits NoMore Fewer (loosely NoMore Fewer ticks-steady p) w)
  where
    q : Program
    q = program_meaning p ls waits

    by : ((u : World) → u.ticks < n → Rounds q u (rounds_of q n u)) → (r : Ran Turned) → round_of q w ≡ r → Turns NoMore Fewer w r →
        Rounds q w (then_do r (unless_still q (rounds_of q n)))
    by others (Gives Stayed u text) is h = Last w u text is
    by others (Gives Moved u text) is h = Again w u text (rounds_of q n u) is (others u (omega (arith, h, few)))
    by others (Gives Exited u text) is h = Leaves w u text is
    by others (Faults f line u text) is h = Stops f line w u text is

-- so do those of an instant
pub rounds_end : RoundsEnd
rounds_end p ls waits w = rounds-end p ls waits (suc w.ticks) w (omega arith)

-- an instant leaves no more ticks than its budget
pub ticks_within_budget : TicksWithinBudget
ticks_within_budget p ls waits budget w = instant-keeps p ls waits NoMore Fewer (loosely NoMore Fewer ticks-steady p) w.phase (record w { ticks = budget })
