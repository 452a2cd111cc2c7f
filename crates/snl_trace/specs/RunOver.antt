-- What a run did with the bytes of a trace, by the definition of the run.
use Rattle.std.specs.Prelude.{◌≡◌, ℕ, ◌+◌, Bool, true, false, List, [], ◌∷◌, ◌++◌, Option, None, Some, All, length}
use Rattle.snl_machine.specs.declared.machine.Machine.{Machine}
use Rattle.snl_machine.specs.MachineOf.{world_held}
use Rattle.snl_output.specs.Devices.{told_more, IsCutShort}
use Rattle.snl_output.specs.Does.{Gave, Faulted}
use Rattle.snl_meaning.specs.Ran.{Ran, Gives, also}
use Rattle.snl_output.specs.Does.{text_of}
use Rattle.snl_meaning.specs.World.{World}
use Rattle.snl_trace.specs.declared.runner.End.{End}
use Rattle.snl_trace.specs.declared.runner.End.TheVariants as end
use Rattle.snl_output.specs.TraceLines.{IsShortEnough, lines_to, lines_from, whole_lines}
use Rattle.snl_trace.specs.Run.{Rules, run_from, line_done, rules_of}

-- what is done of a line, by the answer how the run ends there; where the sink failed, it was told a prefix
abbrev pub LineDoes : Option End → World → Option (List ℕ) → Option (List ℕ) → Ran (Option End) → Type 0
LineDoes None w old new ran = Gave None w old new ran
LineDoes (Some end.ProgramEnded) w old new ran = Gave (Some end.ProgramEnded) w old new ran
LineDoes (Some (end.TraceFault number fault)) w old new ran = Gave (Some (end.TraceFault number fault)) w old new ran
LineDoes (Some (end.Fault fault line)) w old new ran = Faulted fault line w old new ran
LineDoes (Some end.SinkFailed) w old new ran = IsCutShort (text_of ran) old new
LineDoes (Some end.TraceEnded) w old new ran = ⊥
LineDoes (Some end.SourceFailed) w old new ran = ⊥

-- where a run stands between two bytes of its trace
pub record Place : Type 0 where
  -- the bytes after the last newline, and the number of the line that they begin
  pub begun : List ℕ
  pub number : ℕ
  pub world : World
  -- what the sink tells
  pub told : Option (List ℕ)

-- where a run of a machine stands
abbrev pub standing : List ℕ → ℕ → Machine → Option (List ℕ) → Place
standing begun number machine told = record { begun = begun; number = number; world = world_held machine; told = told }

-- bytes were taken in: they end some lines, which gave a text that was told, and begin another
pub record Reaches (rules : Rules) (bytes : List ℕ) (from to : Place) : Type 0 where
  pub done : List (List ℕ)
  pub text : List ℕ
  pub lines : (last : List ℕ → List (List ℕ)) → lines_to last from.begun bytes ≡ done ++ last to.begun
  pub number : to.number ≡ from.number + length done
  pub ran : run_from rules from.number done from.world ≡ Gives end.TraceEnded to.world text
  pub told : to.told ≡ told_more from.told text

-- the sink failed at one of some lines: it was told the text of all lines before, and a prefix of what that
-- line gives
pub record IsCutIn (rules : Rules) (lines : List (List ℕ)) (from : Place) (told : Option (List ℕ)) : Type 0 where
  pub before : List (List ℕ)
  pub line : List ℕ
  pub after : List (List ℕ)
  pub are : lines ≡ before ++ line ∷ after
  pub world : World
  pub text : List ℕ
  pub ran : run_from rules from.number before from.world ≡ Gives end.TraceEnded world text
  pub cut : IsCutShort (text_of (line_done rules (from.number + length before) line world)) (told_more from.told text) told

-- over some lines a run ended so, in a world, and the sink tells this
abbrev pub EndsIn : Rules → End → List (List ℕ) → Place → World → Option (List ℕ) → Type 0
EndsIn rules (end.Fault fault line) lines from w told = Faulted fault line w from.told told (run_from rules from.number lines from.world)
EndsIn rules end.SinkFailed lines from w told = IsCutIn rules lines from told
EndsIn rules end.SourceFailed lines from w told = ⊥
EndsIn rules end.TraceEnded lines from w told = Gave end.TraceEnded w from.told told (run_from rules from.number lines from.world)
EndsIn rules end.ProgramEnded lines from w told = Gave end.ProgramEnded w from.told told (run_from rules from.number lines from.world)
EndsIn rules (end.TraceFault number fault) lines from w told = Gave (end.TraceFault number fault) w from.told told (run_from rules from.number lines from.world)

-- bytes were taken in; or the run ended in them, whatever follows
abbrev pub Takes : Rules → Option End → List ℕ → Place → Place → Type 0
Takes rules None bytes from to = Reaches rules bytes from to
Takes rules (Some end) bytes from to = (more : List ℕ) → EndsIn rules end (lines_from from.begun (bytes ++ more)) from to.world to.told

-- The source failed: of the bytes that it gave no line is too long, also not the one that was broken off, and all was told
-- that the lines give that came whole.
pub record IsBroken (rules : Rules) (came : List ℕ) (from : Place) (w : World) (told : Option (List ℕ)) : Type 0 where
  pub short : All IsShortEnough (lines_from [] came)
  pub gave : Gave end.TraceEnded w from.told told (run_from rules from.number (whole_lines came) from.world)

-- what may follow the bytes that a source gave: nothing, where it has ended
abbrev pub MayFollow : Bool → List ℕ → Type 0
MayFollow true more = more ≡ []
MayFollow false more = Unit {0}

-- over the bytes that a source gave a run ended so, whatever may follow them
abbrev pub EndsOver : Rules → End → List ℕ → Bool → Place → World → Option (List ℕ) → Type 0
EndsOver rules e came ended from w told = (more : List ℕ) → MayFollow ended more → EndsIn rules e (lines_from [] (came ++ more)) from w told

-- a run over the bytes that a source gave, which has ended or not. Of a trace that may go on no bytes are its end: so the trace
-- ended only where the source did
abbrev pub RunsOver : Rules → End → List ℕ → Bool → Place → World → Option (List ℕ) → Type 0
RunsOver rules end.SourceFailed came ended from w told = IsBroken rules came from w told
RunsOver rules e came ended from w told = EndsOver rules e came ended from w told

-- The same of a run whose bytes were handed on by the line: where the source failed, nothing is said of a line that did not come whole.
abbrev pub RunsByLine : Rules → End → List ℕ → Bool → Place → World → Option (List ℕ) → Type 0
RunsByLine rules end.SourceFailed came ended from w told = Gave end.TraceEnded w from.told told (run_from rules from.number (whole_lines came) from.world)
RunsByLine rules e came ended from w told = EndsOver rules e came ended from w told

-- a source that had given some bytes gave more, and a run over these ended so
pub record RunsOn (rules : Rules) (e : End) (old new : List ℕ) (ended : Bool) (from : Place) (w : World) (told : Option (List ℕ)) : Type 0 where
  pub came : List ℕ
  pub gave : new ≡ old ++ came
  pub over : RunsOver rules e came ended from w told

-- the text over the first of some lines is a prefix of the text over all
abbrev pub TextBegins : Type 0
TextBegins = (rules : Rules) (number : ℕ) (first rest : List (List ℕ)) (w : World) →
    (more : List ℕ) × (text_of (run_from rules number (first ++ rest) w) ≡ text_of (run_from rules number first w) ++ more)

-- after the last line nothing is written, and nothing changes
abbrev pub NothingFollows : Type 0
NothingFollows = (rules : Rules) (number : ℕ) (w : World) → run_from rules number [] w ≡ Gives end.TraceEnded w []

-- where a trace ended behind some lines, the run over more lines is what that one was, and then the rest from its last world on
abbrev pub RestGoesOn : Type 0
RestGoesOn = (rules : Rules) (number : ℕ) (first rest : List (List ℕ)) (w v : World) (text : List ℕ) → run_from rules number first w ≡ Gives end.TraceEnded v text →
    run_from rules number (first ++ rest) w ≡ also text (run_from rules (number + length first) rest v)

-- Where a source is known to have some bytes left behind those that it gave, and none where it has ended, the run over what it
-- gave is the run over all, unless the source failed.
abbrev pub RunsOverAll : Type 0
RunsOverAll = (rules : Rules) (e : End) (came left : List ℕ) (ended : Bool) (from : Place) (w : World) (told : Option (List ℕ)) → (e ≡ end.SourceFailed → ⊥) →
    (ended ≡ true → left ≡ []) → RunsOver rules e came ended from w told → EndsIn rules e (lines_from [] (came ++ left)) from w told

-- A trace ends only where its source does.
abbrev pub EndsWithItsSource : Type 0
EndsWithItsSource = (m : Machine) (came : List ℕ) (ended : Bool) (from : Place) (w : World) (told : Option (List ℕ)) →
    RunsOver (rules_of m) end.TraceEnded came ended from w told → ended ≡ true
