-- Small fields and traces: what they spell, and what comes of them.
use Rattle.std.specs.Prelude.{◌≡◌, ℕ, false, pos, negsuc, [], ◌∷◌, None, Some, codes}
use Rattle.snl_meaning.specs.declared.live.Live.TheVariants.{Running}
use Rattle.snl_meaning.specs.Examples.{start}
use Rattle.snl_meaning.specs.Ran.{Gives}
use Rattle.snl_meaning.specs.World.{World}
use Rattle.snl_output.specs.TraceLines.{lines_from, whole_lines}
use Rattle.snl_trace.specs.declared.runner.End.TheVariants.{TraceEnded, TraceFault}
use Rattle.snl_trace.specs.declared.trace_faults.TraceFault.TheVariants.{BackInTime, BadTime, UnknownWord}
use Rattle.snl_trace.specs.Grammar.{read_of}
use Rattle.snl_trace.specs.Numbers.{spelled_value, time_of}
use Rattle.snl_trace.specs.Run.{Rules, run_from}

-- A value has an optional `-` and one to 19 digits, and fits 64 bits; no other sign, and nothing behind.
abbrev pub ValueExamples : Type 0
ValueExamples =
    (spelled_value (codes "50") ≡ Some (pos 50))
    × (spelled_value (codes "-5") ≡ Some (negsuc 4))
    × (spelled_value (codes "+5") ≡ None)
    × (spelled_value (codes "-") ≡ None)
    × (spelled_value (codes "--5") ≡ None)
    × (spelled_value (codes "5.") ≡ None)
    × (spelled_value [] ≡ None)
    × (spelled_value (codes "0000000000000000005") ≡ Some (pos 5))
    × (spelled_value (codes "00000000000000000005") ≡ None)
    × (spelled_value (codes "9223372036854775807") ≡ Some (pos 9223372036854775807))
    × (spelled_value (codes "9223372036854775808") ≡ None)
    × (spelled_value (codes "-9223372036854775808") ≡ Some (negsuc 9223372036854775807))
    × (spelled_value (codes "-9223372036854775809") ≡ None)

-- A time has one to 16 digits, and is at most 10^15.
abbrev pub TimeExamples : Type 0
TimeExamples =
    (time_of (codes "1500") ≡ Some 1500)
    × (time_of (codes "1000000000000000") ≡ Some 1000000000000000)
    × (time_of (codes "1000000000000001") ≡ None)
    × (time_of (codes "00000000000001500") ≡ None)
    × (time_of (codes "-1") ≡ None)

-- A text has lines; the last one may lack its newline, and then does not count among those that came whole.
abbrev pub LineExamples : Type 0
LineExamples =
    (lines_from [] (codes "a\n\nbc\n") ≡ codes "a" ∷ [] ∷ codes "bc" ∷ [])
    × (lines_from [] (codes "a\nbc") ≡ codes "a" ∷ codes "bc" ∷ [])
    × (whole_lines (codes "a\nbc") ≡ codes "a" ∷ [])

-- Rules by which each event writes a word and the time goes on.
abbrev pub writing : Rules
writing = record { read = read_of (λ name. None) (λ event. false); act = λ ms event w. Gives Running (record w { time = ms }) (codes "done ") }

-- the world at a time
abbrev pub at : ℕ → World
at ms = record start { time = ms }

-- Each event is done, in order. A bad line ends the run, whatever comes after it, and at it nothing is done; a line without an event
-- counts, and does nothing.
abbrev pub RunExamples : Type 0
RunExamples =
    (run_from writing 1 (codes "1600 tick" ∷ codes "# note" ∷ codes "1700 tick" ∷ []) start ≡ Gives TraceEnded (at 1700) (codes "done done "))
    × (run_from writing 1 (codes "1600 tick" ∷ [] ∷ codes "1500 tick" ∷ codes "1700 tick" ∷ []) start ≡ Gives (TraceFault 3 BackInTime) (at 1600) (codes "done "))
    × (run_from writing 1 (codes "tick" ∷ codes "1600 tick" ∷ []) start ≡ Gives (TraceFault 1 BadTime) start [])
    × (run_from writing 1 (codes "1600 tock" ∷ codes "1600 tick" ∷ []) start ≡ Gives (TraceFault 1 UnknownWord) start [])
