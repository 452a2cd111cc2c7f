-- What is heard of small runs, and what is written of them.
use Rattle.std.specs.Prelude.{◌≡◌, ℕ, true, false, List, [], ◌∷◌, codes}
use Rattle.snl_heard.specs.Heard.{among, heard_of}
use Rattle.snl_outline.specs.Names.{Names}
use Rattle.snl_heard.specs.Printed.{run_lines, watch_lines}
use Rattle.snl_heard.specs.Words.{go_end, has_time, kind_of, rest_of, set_of, target_of, time_of}

-- The words of a put and of a transition, and the time of a line: `1500` is not that of `15000`.
pub record WordExamples : Type 0 where
  pub time : time_of (codes "1500 put V 1") ≡ codes "1500"
  pub kind : kind_of (codes "1500 put V 1") ≡ codes "put"
  pub rest : rest_of (codes "1500 put V 1 -2") ≡ codes "V 1 -2"
  pub set : set_of (codes "1500 go guard shut open") ≡ codes "guard"
  pub target : target_of (codes "1500 go guard shut open") ≡ codes "open"
  pub end : go_end (codes "guard") (codes "shut") (codes "open") ≡ codes " go guard shut open"
  pub same : has_time 1500 (codes "1500 put V 1") ≡ true
  pub other : has_time 1500 (codes "15000 put V 1") ≡ false

-- The state sets of an interlock.
abbrev pub sets : List Names
sets = record { set = codes "guard"; states = codes "shut" ∷ codes "open" ∷ [] } ∷ record { set = codes "watchdog"; states = codes "alive" ∷ codes "dead" ∷ [] } ∷ []

-- Of a put the values are heard, of a transition the number of the state, and of the start the first state of each state set. Of a
-- print nothing is heard, not even where it prints the words of a put; nor of an exit, nor of a fault.
pub record HeardExamples : Type 0 where
  pub put : heard_of sets (codes "1500 put VAC:VALVE:OPEN 1") ≡ codes "1500 val put:VAC:VALVE:OPEN 1" ∷ []
  pub array : heard_of sets (codes "15 put V 1 -2 3") ≡ codes "15 val put:V 1 -2 3" ∷ []
  pub go : heard_of sets (codes "1500 go guard shut open") ≡ codes "1500 val state:guard 1" ∷ []
  pub second : heard_of sets (codes "8500 go watchdog dead alive") ≡ codes "8500 val state:watchdog 0" ∷ []
  pub start : heard_of sets (codes "10 start interlock") ≡ codes "10 val state:guard 0" ∷ codes "10 val state:watchdog 0" ∷ []
  pub print : heard_of sets (codes "15 print guard put V 1") ≡ []
  pub exit : heard_of sets (codes "15 exit interlock") ≡ []
  pub fault : heard_of sets (codes "15 fault guard 3 overflow") ≡ []

-- A wake of the program at 7100, before the line of the trace at 8500, is heard at its time and in front of that line; what the line
-- makes it write is heard behind it. Where nothing is written the line is heard alone.
pub record AmongExamples : Type 0 where
  pub wake : among sets 8500 (codes "8500 val VAC:GAUGE:BEAT 6") (codes "7100 go watchdog alive dead" ∷ codes "8500 put V 1" ∷ codes "8500 go guard shut open" ∷ [])
      ≡ codes "7100 val state:watchdog 1" ∷ codes "8500 val VAC:GAUGE:BEAT 6" ∷ codes "8500 val put:V 1" ∷ codes "8500 val state:guard 1" ∷ []
  pub none : among sets 8500 (codes "8500 tick") [] ≡ codes "8500 tick" ∷ []
  pub late : among sets 8500 (codes "8500 tick") (codes "7100 go watchdog alive dead" ∷ []) ≡ codes "7100 val state:watchdog 1" ∷ codes "8500 tick" ∷ []

-- The lines of both, in an output with notes of its own. What no newline ends is no line.
pub record PrintedExamples : Type 0 where
  pub run : run_lines (codes "# watch 0 start w\n10 start p\n# end\n10 pu") ≡ codes "10 start p" ∷ []
  pub watch : watch_lines (codes "# watch 0 start w\n10 start p\n# end\n# watch 10 go a b c\n") ≡ codes "0 start w" ∷ codes "10 go a b c" ∷ []
