-- What a program waits for before it starts, and what is said of that after a trace.
use Rattle.std.specs.Prelude.{◌≡◌, ◌+◌, ◌↔◌, ℕ, Bool, true, false, not, ◌||◌, List, [], ◌∷◌, ◌++◌, None, Some, Ok, Err, Result, Option, if◌then◌else◌}
use Rattle.snl_meaning.specs.Keeping.{world_after}
use Rattle.snl_meaning.specs.World.{World}
use Rattle.snl_meaning.specs.declared.ties.Tied.{Tied}
use Rattle.snl_output.specs.Does.{text_of}
use Rattle.snl_schedule.specs.Instant.{Program, is_so}
use Rattle.snl_schedule.specs.declared.events.Event.{Event}
use Rattle.snl_output.specs.TraceLines.{lines_from, whole_lines}
use Rattle.snl_trace.specs.Run.{Rules, run_from}
use Rattle.snl_trace.specs.RunOver.{MayFollow}
use Rattle.snl_trace.specs.declared.runner.End.{End}
use Rattle.snl_trace.specs.declared.runner.End.TheVariants as end
use Rattle.snl_trace.specs.declared.trace_faults.TraceFault.{TraceFault}
use Rattle.snl_views.specs.declared.awaited.Awaited.{Awaited}
use Rattle.snl_views.specs.declared.awaited.Awaited.TheVariants.{ToBeUp, ToBeValued}

-- ---- what a program waits for

-- Of a link of this number: that its channel is connected; and where it is monitored, that its channel has a value.
abbrev pub awaited_at : World → ℕ → Tied → List Awaited
awaited_at w k l =
    (if is_so w.ups l.channel then [] else ToBeUp k ∷ []) ++ (if is_so w.valued l.channel || not l.is_monitored then [] else ToBeValued k ∷ [])

-- Of links with numbers from k on.
abbrev pub awaited_from : World → ℕ → List Tied → List Awaited
awaited_from w k [] = []
awaited_from w k (l ∷ ls) = awaited_at w k l ++ awaited_from w (k + 1) ls

-- Of all links, if the program waits at all.
abbrev pub awaited_in : Bool → List Tied → World → List Awaited
awaited_in waits links w = if waits then awaited_from w 0 links else []

-- Of a program.
abbrev pub awaited : Program → World → List Awaited
awaited p w = awaited_in p.waits p.links w

-- ---- what is said of that after a trace

-- Whether a line that was read so tells an event; where it tells none, the rest has to be asked. A bad line ends the trace.
abbrev pub is_event_or : Bool → Result (Option (ℕ × Event)) TraceFault → Bool
is_event_or rest (Err fault) = false
is_event_or rest (Ok None) = rest
is_event_or rest (Ok (Some at)) = true

-- Whether some lines have an event before the first bad one, where the last event was at a time.
abbrev pub has_event : Rules → ℕ → List (List ℕ) → Bool
has_event rules last [] = false
has_event rules last (line ∷ lines) = is_event_or (has_event rules last lines) (rules.read last line)

-- What is named, by the way in which a run ended: nothing where its sink refused the first byte, since the program began.
abbrev pub left_in : End → List Awaited → List Awaited
left_in end.SinkFailed all = []
left_in e all = all

-- What is said of a program after a run over some lines, from a first world on: what is named is exactly what the program waits
-- for in the last world, where the run wrote nothing, and nothing where it wrote something. So with an event nothing is named
-- exactly if the run wrote something, that is, if the program began.
pub record IsAwaited (rules : Rules) (p : Program) (first : World) (lines : List (List ℕ)) (named : List Awaited) : Type 0 where
  pub waits : text_of (run_from rules 1 lines first) ≡ [] → named ≡ awaited p (world_after (run_from rules 1 lines first))
  pub began : (text_of (run_from rules 1 lines first) ≡ [] → ⊥) → named ≡ []
  pub exactly : has_event rules first.time lines ≡ true → named ≡ [] ↔ (text_of (run_from rules 1 lines first) ≡ [] → ⊥)

-- The same of what a trace gave that has ended or not, by the way in which the run ended: whatever may follow these bytes; where the
-- trace could not be read to its end, of the lines that came whole.
abbrev pub Awaits : Rules → Program → End → World → List ℕ → Bool → List Awaited → Type 0
Awaits rules p end.SourceFailed first gave ended named = IsAwaited rules p first (whole_lines gave) named
Awaits rules p e first gave ended named = (more : List ℕ) → MayFollow ended more → IsAwaited rules p first (lines_from [] (gave ++ more)) named
