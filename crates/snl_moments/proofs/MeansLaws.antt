-- What a machine makes of a line is what its program means.
use Rattle.std.proofs.Common.{◌≡◌, ◌∙◌, ℕ, Bool, Option, Result, length, ap, sym}
use Rattle.snl_load.specs.Names.{position_of}
use Rattle.snl_channels.specs.Links.{Link}
use Rattle.snl_syntax.specs.Programs.{ProgramTree}
use Rattle.snl_machine.proofs.Tasks.{runs_its_program}
use Rattle.snl_machine.specs.Lookup.{channel_of, fits_of}
use Rattle.snl_machine.specs.MachineOf.{IsMachineOf, StaysMachineOf, task_of, world_held}
use Rattle.snl_machine.specs.declared.machine.Machine.{Machine}
use Rattle.snl_moments.specs.Walks.{MeansAs}
use Rattle.snl_schedule.specs.Event.{is_event_fit}
use Rattle.snl_schedule.specs.declared.events.Event.{Event}
use Rattle.snl_trace.proofs.RunOverLaws.{read-is}
use Rattle.snl_trace.specs.Grammar.{read_of}
use Rattle.snl_trace.specs.Run.{Rules, rules_by, rules_of}
use Rattle.snl_trace.specs.declared.trace_faults.TraceFault.{TraceFault}
use Rattle.std.proofs.Common.{List}

-- a machine stays one of its program
pub means-stays : (r : Rules) (old new : Machine) → StaysMachineOf old new → MeansAs r old → MeansAs r new
means-stays r old new stays meant = record {
  program = meant.program;
  links = meant.links;
  waits = meant.waits;
  budget = meant.budget;
  made = stays meant.program meant.links meant.waits meant.budget meant.made;
  rules_are = meant.rules_are;
}

-- it reads lines as its program does
reads-same : (m : Machine) (p : ProgramTree) (ls : List Link) (waits : Bool) (budget last : ℕ) (line : List ℕ) → IsMachineOf p ls waits budget m →
    (rules_of m).read last line ≡ (rules_by (task_of p ls waits) budget).read last line
unfolding rules_by
reads-same m p ls waits budget last line made =
    let runs = runs_its_program p ls waits budget m made in
    λ j. read_of (position_of (runs.channels j)) (is_event_fit (length (runs.channels j)) (runs.program j).links) last line

-- so what it read is what the rules read
pub read-means : (m : Machine) (r : Rules) (last : ℕ) (line : List ℕ) (read : Result (Option (ℕ × Event)) TraceFault) → MeansAs r m →
    read ≡ read_of (channel_of m) (fits_of m) last line → last ≡ (world_held m).time → r.read (world_held m).time line ≡ read
read-means m r last line read meant is at =
    ap (λ (z : Rules). z.read (world_held m).time line) meant.rules_are
    ∙ sym (reads-same m meant.program meant.links meant.waits meant.budget (world_held m).time line meant.made)
    ∙ read-is m last line read is at
