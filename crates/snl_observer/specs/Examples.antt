-- What is heard of a run of an interlock over six lines.
use Rattle.std.specs.Prelude.{◌≡◌, ◌==◌, ℕ, true, List, [], ◌∷◌, None, Some, codes, if◌then◌else◌}
use Rattle.snl_outline.specs.Names.{Names}
use Rattle.snl_meaning.specs.Examples.{start}
use Rattle.snl_meaning.specs.Ran.{Faults, Gives}
use Rattle.snl_meaning.specs.World.{World}
use Rattle.snl_meaning.specs.declared.faults.Fault.TheVariants.{Overflow}
use Rattle.snl_meaning.specs.declared.live.Live.TheVariants.{Running, Ended}
use Rattle.snl_observer.specs.Heard.{heard}
use Rattle.snl_observer.specs.Observed.{IsObserved, Pair}
use Rattle.snl_observer.specs.Stands.{StandsBy}
use Rattle.snl_observer.specs.declared.closes.Close.TheVariants.{Never, Run, Watch}
use Rattle.snl_observer.specs.declared.closes.Ending.TheVariants.{Exited, Faulted}
use Rattle.snl_trace.specs.Grammar.{read_of}
use Rattle.snl_trace.specs.Run.{Rules}
use Rattle.snl_trace.specs.declared.runner.End.TheVariants.{Fault, TraceEnded}

-- The state sets of an interlock.
abbrev pub sets : List Names
sets = record { set = codes "guard"; states = codes "shut" ∷ codes "open" ∷ [] } ∷ record { set = codes "watchdog"; states = codes "alive" ∷ codes "dead" ∷ [] } ∷ []

-- The world before the first line, at time 0.
abbrev pub first : World
first = record start { time = 0 }

-- What it writes at the event of a time: it starts at 10, opens at 1500, and at 8500 it shuts, since its watchdog woke at 7100.
abbrev pub written : ℕ → List ℕ
written ms =
    if ms == 10 then codes "10 start interlock\n"
    else if ms == 1500 then codes "1500 print guard put VALVE 1\n1500 put VALVE 1\n1500 go guard shut open\n"
    else if ms == 8500 then codes "7100 go watchdog alive dead\n8500 put VALVE 0\n8500 go guard open shut\n"
    else []

-- Rules by which each event writes that; all channels are others.
abbrev pub interlock : Rules
interlock = record { read = read_of (λ name. None) (λ event. true); act = λ ms event w. Gives Running (record w { time = ms }) (written ms) }

-- The same of a program that comes to its end at its first event.
abbrev pub short : Rules
short = record { read = read_of (λ name. None) (λ event. true); act = λ ms event w. Gives Ended (record w { time = ms }) (codes "10 start p\n10 exit p\n") }

-- Each line of the trace is heard as it is, a comment too, and among them the start, a put and two transitions; the wake at 7100 comes
-- in front of the line at 8500. A bad line is not heard, nor what comes behind it; and nothing behind the end of the program.
pub record RunExamples : Type 0 where
  pub six : heard sets interlock 1 (codes "10 up VALVE" ∷ codes "# a press" ∷ codes "1500 val RESET 1" ∷ codes "1505 val RESET 0" ∷ codes "8500 tick" ∷ codes "9000 done VALVE" ∷ []) first
      ≡ codes "10 up VALVE" ∷ codes "10 val state:guard 0" ∷ codes "10 val state:watchdog 0" ∷ codes "# a press" ∷ codes "1500 val RESET 1" ∷ codes "1500 val put:VALVE 1"
      ∷ codes "1500 val state:guard 1" ∷ codes "1505 val RESET 0" ∷ codes "7100 val state:watchdog 1" ∷ codes "8500 tick" ∷ codes "8500 val put:VALVE 0"
      ∷ codes "8500 val state:guard 0" ∷ codes "9000 done VALVE" ∷ []
  pub bad : heard sets interlock 1 (codes "1505 tick" ∷ codes "1500 tick" ∷ codes "8500 tick" ∷ []) first ≡ codes "1505 tick" ∷ []
  pub ended : heard sets short 1 (codes "10 tick" ∷ codes "20 tick" ∷ []) first ≡ codes "10 tick" ∷ codes "10 val state:guard 0" ∷ codes "10 val state:watchdog 0" ∷ []

-- A requirement that writes a line at each event.
abbrev pub writing : Rules
writing = record { read = read_of (λ name. None) (λ event. true); act = λ ms event w. Gives Running (record w { time = ms }) (codes "w\n") }

-- The world at a time.
abbrev pub at : ℕ → World
at ms = record start { time = ms }

-- The interlock, watched by that requirement.
abbrev pub watched : Pair
watched = record { run = interlock; watch = writing; sets = sets; run_first = first; watch_first = first }

-- A program that comes to its end at its first event stands there, whatever the second one is.
abbrev pub StandExamples : Type 0
StandExamples = StandsBy short (codes "10 tick" ∷ codes "20 tick" ∷ []) first (at 10) (codes "10 start p\n10 exit p\n") (Some Exited)

-- A requirement that faults at each event, in its line 3.
abbrev pub failing : Rules
failing = record { read = read_of (λ name. None) (λ event. true); act = λ ms event w. Faults Overflow 3 (record w { time = ms }) (codes "f\n") }

-- Over one line the interlock starts, and the requirement hears that line and the first state of both state sets. Where a state came to be
-- that must not, beginnings of both are told. A requirement that faults does so at the first line that it hears, whatever follows, and that
-- is told as its mistake; where the program faults, that is told as the end of the run.
pub record ObservedExamples : Type 0 where
  pub whole : IsObserved watched (codes "10 up VALVE" ∷ []) (codes "10 start interlock\n") (codes "w\nw\nw\n") (Run TraceEnded)
  pub never : IsObserved watched (codes "10 up VALVE" ∷ codes "1500 tick" ∷ []) (codes "10 start interlock\n") (codes "w\nw\n") (Never 0)
  pub mistake : IsObserved (record watched { watch = failing }) (codes "10 up VALVE" ∷ codes "1500 tick" ∷ []) [] (codes "f\n") (Watch (Faulted Overflow 3))
  pub fault : IsObserved (record watched { run = failing }) (codes "10 up VALVE" ∷ codes "1500 tick" ∷ []) (codes "f\n") (codes "w\n") (Run (Fault Overflow 3))
