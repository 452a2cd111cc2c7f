-- Laws of bytes that are taken in.
use Rattle.std.proofs.Common.{◌≡◌, ℕ, ◌+◌, ◌<◌, List, [], ◌∷◌, ◌++◌, ◌≢◌, All, Option, None, Some, Result, Ok, Err, OnErr, length, get_or, eqb, cond, true, false, refl, sym, ap, ◌∙◌, subst, arith, append_assoc, append-nil, length-append}
use Rattle.std.proofs.lemmas.Bool.{lt-ltb}
use Rattle.std.proofs.lemmas.List.Elements.{All-get_or}
use Rattle.std.specs.Option.{IfSome, unwrap_or}
use Rattle.snl_schedule.specs.declared.events.Event.{Event}
use Rattle.snl_meaning.specs.declared.live.Live.{Live}
use Rattle.snl_meaning.specs.declared.live.Live.TheVariants as live
use Rattle.snl_output.specs.declared.faults.Stop.{Stop}
use Rattle.snl_output.specs.declared.faults.Stop.TheVariants as stop
use Rattle.snl_machine.specs.declared.machine.Machine.{Machine}
use Rattle.snl_output.specs.Devices.{told_more, IsCutShort, stopped_by_sink}
use Rattle.snl_output.specs.Does.{Gave, Does}
use Rattle.snl_machine.specs.Holding.{loaded_by}
use Rattle.snl_machine.specs.MachineOf.{Fixed, fixed_of, world_held}
use Rattle.snl_schedule.specs.Loaded.{program_of}
use Rattle.snl_machine.specs.Lookup.{channel_of, fits_of}
use Rattle.snl_meaning.specs.Ran.{Ran, Gives, also, then_do}
use Rattle.snl_output.specs.Does.{text_of}
use Rattle.snl_meaning.specs.World.{World}
use Rattle.snl_output.proofs.Doing.{faulted-then, cut-then}
use Rattle.snl_output.proofs.Writing.{told_more-told_more, told_more-nil}
use Rattle.snl_trace.specs.declared.reader.Heard.{Heard}
use Rattle.snl_trace.specs.declared.runner.End.{End}
use Rattle.snl_trace.specs.declared.runner.End.TheVariants as end
use Rattle.snl_trace.specs.declared.trace_faults.TraceFault.{TraceFault}
use Rattle.snl_trace.specs.declared.trace_faults.TraceFault.TheVariants.{LineTooLong}
use Rattle.snl_trace.specs.Ends.{OnStop, OnStopHere, ends_by_sink}
use Rattle.snl_trace.specs.Grammar.{told_of, read_of}
use Rattle.snl_output.specs.TraceLines.{lines_to, lines_from, last_line}
use Rattle.snl_trace.specs.Run.{Rules, run_from, line_done, or_rest, done_by, end_by, ending_of, rules_of, rules_by}
use Rattle.snl_trace.specs.RunOver.{Place, Reaches, EndsIn, Takes, LineDoes}
use Rattle.snl_trace.specs.Seen.{event_heard}
use Rattle.snl_trace.proofs.LineLaws.{lines_to-newline, lines_to-end, lines_to-append}
use Rattle.snl_trace.proofs.RunLaws.{run_from-append}

-- no bytes
pub reaches-start : (rules : Rules) (a : Place) → Reaches rules [] a a
unfolding run_from lines_to
reaches-start rules a = record {
  done = [];
  text = [];
  lines = λ last. refl;
  number = omega arith;
  ran = refl;
  told = sym (told_more-nil a.told);
}

-- some bytes and then others
pub reaches-then : (rules : Rules) (front rest : List ℕ) (a b c : Place) → Reaches rules front a b → Reaches rules rest b c → Reaches rules (front ++ rest) a c
reaches-then rules front rest a b c first then = record {
  done = first.done ++ then.done;
  text = first.text ++ then.text;
  lines = λ last.
      lines_to-append last a.begun front rest
      ∙ first.lines (λ line. lines_to last line rest)
      ∙ ap (λ z. first.done ++ z) (then.lines last)
      ∙ sym (append_assoc first.done then.done (last c.begun));
  number = omega (arith, first.number, then.number, length-append first.done then.done);
  ran =
      run_from-append rules a.number first.done then.done a.world b.world first.text first.ran
      ∙ ap (λ n. also first.text (run_from rules n then.done b.world)) (sym first.number)
      ∙ ap (also first.text) then.ran;
  told = then.told ∙ ap (λ o. told_more o then.text) first.told ∙ told_more-told_more a.told first.text then.text;
}

-- lines that follow go on from where the others came to
run-behind : (rules : Rules) (done lines : List (List ℕ)) (a b : Place) (text : List ℕ) →
    b.number ≡ a.number + length done → run_from rules a.number done a.world ≡ Gives end.TraceEnded b.world text →
    run_from rules a.number (done ++ lines) a.world ≡ also text (run_from rules b.number lines b.world)
run-behind rules done lines a b text number ran =
    run_from-append rules a.number done lines a.world b.world text ran
    ∙ ap (λ n. also text (run_from rules n lines b.world)) (sym number)

-- the same, with what was told
gave-behind : (rules : Rules) (e : End) (done lines : List (List ℕ)) (a b : Place) (text : List ℕ) (w : World) (told : Option (List ℕ)) →
    b.number ≡ a.number + length done → run_from rules a.number done a.world ≡ Gives end.TraceEnded b.world text → b.told ≡ told_more a.told text →
    Gave e w b.told told (run_from rules b.number lines b.world) → Gave e w a.told told (run_from rules a.number (done ++ lines) a.world)
gave-behind rules e done lines a b text w told number ran before ended = record {
  text = text ++ ended.text;
  is = run-behind rules done lines a b text number ran ∙ ap (also text) ended.is;
  told = ended.told ∙ ap (λ o. told_more o ended.text) before ∙ told_more-told_more a.told text ended.text;
}

-- what ends the run in the lines that follow, ends it in all
pub ends-behind : (rules : Rules) (e : End) (done lines : List (List ℕ)) (a b : Place) (text : List ℕ) (w : World) (told : Option (List ℕ)) →
    b.number ≡ a.number + length done → run_from rules a.number done a.world ≡ Gives end.TraceEnded b.world text → b.told ≡ told_more a.told text →
    EndsIn rules e lines b w told → EndsIn rules e (done ++ lines) a w told
ends-behind rules (end.Fault fault line) done lines a b text w told number ran before ended = record {
  text = text ++ ended.text;
  is = run-behind rules done lines a b text number ran ∙ ap (also text) ended.is;
  told = ended.told ∙ ap (λ o. told_more o ended.text) before ∙ told_more-told_more a.told text ended.text;
}
ends-behind rules end.TraceEnded done lines a b text w told number ran before ended = gave-behind rules end.TraceEnded done lines a b text w told number ran before ended
ends-behind rules end.ProgramEnded done lines a b text w told number ran before ended = gave-behind rules end.ProgramEnded done lines a b text w told number ran before ended
ends-behind rules (end.TraceFault line fault) done lines a b text w told number ran before ended = gave-behind rules (end.TraceFault line fault) done lines a b text w told number ran before ended
ends-behind rules end.SourceFailed done lines a b text w told number ran before ended = ended
ends-behind rules end.SinkFailed done lines a b text w told number ran before ended = record {
  before = done ++ ended.before;
  line = ended.line;
  after = ended.after;
  are = ap (λ z. done ++ z) ended.are ∙ sym (append_assoc done ended.before (ended.line ∷ ended.after));
  world = ended.world;
  text = text ++ ended.text;
  ran = run-behind rules done ended.before a b text number ran ∙ ap (also text) ended.ran;
  cut =
      let place : b.number + length ended.before ≡ a.number + length (done ++ ended.before) = omega (arith, number, length-append done ended.before) in
      let now : told_more b.told ended.text ≡ told_more a.told (text ++ ended.text) = ap (λ o. told_more o ended.text) before ∙ told_more-told_more a.told text ended.text in
      subst (λ (n : ℕ). IsCutShort (text_of (line_done rules n ended.line ended.world)) (told_more a.told (text ++ ended.text)) told) place
      (subst (λ (o : Option (List ℕ)). IsCutShort (text_of (line_done rules (b.number + length ended.before) ended.line ended.world)) o told) now ended.cut);
}

-- some bytes, and what is taken after them
pub takes-behind : (rules : Rules) (result : Option End) (front rest : List ℕ) (a b c : Place) → Reaches rules front a b → Takes rules result rest b c → Takes rules result (front ++ rest) a c
takes-behind rules None front rest a b c first then = reaches-then rules front rest a b c first then
takes-behind rules (Some e) front rest a b c first then = λ more.
    let all : lines_from a.begun ((front ++ rest) ++ more) ≡ first.done ++ lines_from b.begun (rest ++ more) =
    ap (lines_to last_line a.begun) (append_assoc front rest more)
    ∙ lines_to-append last_line a.begun front (rest ++ more)
    ∙ first.lines (λ line. lines_to last_line line (rest ++ more)) in
    subst (λ (ls : List (List ℕ)). EndsIn rules e ls a c.world c.told) (sym all)
    (ends-behind rules e first.done (lines_from b.begun (rest ++ more)) a b first.text c.world c.told first.number first.ran first.told (then more))

-- one line that ends the run
gave-here : (rules : Rules) (e : End) (line : List ℕ) (behind : List (List ℕ)) (a : Place) (w : World) (told : Option (List ℕ)) →
    Gave (Some e) w a.told told (line_done rules a.number line a.world) → Gave e w a.told told (run_from rules a.number (line ∷ behind) a.world)
unfolding run_from
gave-here rules e line behind a w told did = record {
  text = did.text;
  is = ap (λ (r : Ran (Option End)). then_do r (or_rest (λ v. run_from rules (a.number + 1) behind v))) did.is ∙ ap (Gives e w) (append-nil did.text);
  told = did.told;
}

-- the same, by the way in which it ends
pub ends-here : (rules : Rules) (e : End) (line : List ℕ) (behind : List (List ℕ)) (a : Place) (w : World) (told : Option (List ℕ)) →
    LineDoes (Some e) w a.told told (line_done rules a.number line a.world) → EndsIn rules e (line ∷ behind) a w told
unfolding run_from
ends-here rules (end.Fault fault number) line behind a w told did = record {
  text = did.text;
  is = ap (λ (r : Ran (Option End)). then_do r (or_rest (λ v. run_from rules (a.number + 1) behind v))) did.is;
  told = did.told;
}
ends-here rules end.TraceEnded line behind a w told did = absurd did
ends-here rules end.ProgramEnded line behind a w told did = gave-here rules end.ProgramEnded line behind a w told did
ends-here rules (end.TraceFault number fault) line behind a w told did = gave-here rules (end.TraceFault number fault) line behind a w told did
ends-here rules end.SourceFailed line behind a w told did = did
ends-here rules end.SinkFailed line behind a w told did = record {
  before = [];
  line = line;
  after = behind;
  are = refl;
  world = a.world;
  text = [];
  ran = refl;
  cut =
      let number : a.number ≡ a.number + 0 = omega arith in
      let now : a.told ≡ told_more a.told [] = sym (told_more-nil a.told) in
      subst (λ (n : ℕ). IsCutShort (text_of (line_done rules n line a.world)) (told_more a.told []) told) number
      (subst (λ (o : Option (List ℕ)). IsCutShort (text_of (line_done rules a.number line a.world)) o told) now did);
}

-- one line that does not
pub goes_on : (rules : Rules) (line : List ℕ) (a : Place) (w : World) (told : Option (List ℕ)) →
    (did : Gave None w a.told told (line_done rules a.number line a.world)) → run_from rules a.number (line ∷ []) a.world ≡ Gives end.TraceEnded w did.text
unfolding run_from
goes_on rules line a w told did =
    ap (λ (r : Ran (Option End)). then_do r (or_rest (λ v. run_from rules (a.number + 1) [] v))) did.is
    ∙ ap (Gives end.TraceEnded w) (append-nil did.text)

-- no newline stands at any place
plain : (text : List ℕ) → All (λ byte. byte ≢ 10) text → (j : ℕ) → j < length text → get_or text j 0 ≡ 10 → ⊥
plain text none j below = All-get_or (λ (byte : ℕ). byte ≢ 10) text j 0 below none

-- a newline ends a line
pub takes-line : (rules : Rules) (result : Option End) (front : List ℕ) (a : Place) (w : World) (told : Option (List ℕ)) →
    All (λ byte. byte ≢ 10) front →
    LineDoes result w a.told told (line_done rules a.number (a.begun ++ front) a.world) →
    Takes rules result (front ++ 10 ∷ []) a (record { begun = []; number = a.number + 1; world = w; told = told })
unfolding lines_to
takes-line rules None front a w told none did = record {
  done = (a.begun ++ front) ∷ [];
  text = did.text;
  lines = λ last. lines_to-newline last a.begun front [] (plain front none);
  number = refl;
  ran = goes_on rules (a.begun ++ front) a w told did;
  told = did.told;
}
takes-line rules (Some e) front a w told none did = λ more.
    let lines : lines_from a.begun ((front ++ 10 ∷ []) ++ more) ≡ (a.begun ++ front) ∷ lines_from [] more =
    ap (lines_to last_line a.begun) (append_assoc front (10 ∷ []) more) ∙ lines_to-newline last_line a.begun front more (plain front none) in
    subst (λ (ls : List (List ℕ)). EndsIn rules e ls a w told) (sym lines) (ends-here rules e (a.begun ++ front) (lines_from [] more) a w told did)

-- and a line that no bytes before it begin
pub takes-whole : (rules : Rules) (result : Option End) (front begun : List ℕ) (number : ℕ) (v w : World) (old new : Option (List ℕ)) →
    begun ≡ [] → All (λ byte. byte ≢ 10) front → LineDoes result w old new (line_done rules number front v) →
    Takes rules result (front ++ 10 ∷ []) (record { begun = begun; number = number; world = v; told = old }) (record { begun = begun; number = number + 1; world = w; told = new })
takes-whole rules result front begun number v w old new is none did =
    let at : List ℕ → Place = λ b. record { begun = b; number = number; world = v; told = old } in
    let P : List ℕ → Type 0 = λ b. Takes rules result (front ++ 10 ∷ []) (at b) (record { begun = b; number = number + 1; world = w; told = new }) in
    subst P (sym is) (takes-line rules result front (at []) w new none did)

-- bytes without one go on the line
pub takes-more : (rules : Rules) (left : List ℕ) (a : Place) → All (λ byte. byte ≢ 10) left →
    Reaches rules left a (record a { begun = a.begun ++ left })
unfolding run_from
takes-more rules left a none = record {
  done = [];
  text = [];
  lines = λ last. lines_to-end last a.begun left (plain left none);
  number = omega arith;
  ran = refl;
  told = sym (told_more-nil a.told);
}

-- an event gave an answer, and how the run ends there
gave-on : (live : Live) (w : World) (old new : Option (List ℕ)) (ran : Ran Live) →
    Gave live w old new ran → Gave (end_by live) w old new (then_do ran (λ live v. Gives (end_by live) v []))
gave-on live w old new ran did = record {
  text = did.text;
  is = ap (λ r. then_do r (λ live v. Gives (end_by live) v [])) did.is ∙ ap (Gives (end_by live) w) (append-nil did.text);
  told = did.told;
}

-- an event is done, and how the run ends there
pub event-does : (result : Result Live Stop) (w : World) (old new : Option (List ℕ)) (ran : Ran Live) →
    Does (λ live. live) result w old new ran → LineDoes (ending_of result) w old new (then_do ran (λ live v. Gives (end_by live) v []))
event-does (Ok live.Waiting) w old new ran did = gave-on live.Waiting w old new ran did
event-does (Ok live.Running) w old new ran did = gave-on live.Running w old new ran did
event-does (Ok live.Ended) w old new ran did = gave-on live.Ended w old new ran did
event-does (Err (stop.Fault fault line)) w old new ran did = faulted-then ran (λ live v. Gives (end_by live) v []) fault line w old new did
event-does (Err stop.Sink) w old new ran did = cut-then ran (λ live v. Gives (end_by live) v []) old new did

-- whether the sink ended it
pub event-fails : (result : Result Live Stop) → stopped_by_sink result ≡ ends_by_sink (ending_of result)
event-fails (Ok live.Waiting) = refl
event-fails (Ok live.Running) = refl
event-fails (Ok live.Ended) = refl
event-fails (Err (stop.Fault fault line)) = refl
event-fails (Err stop.Sink) = refl

-- after a fault, and where the sink fails, the machine has ended
pub stop-ends : (result : Result Live Stop) (fact : Type 0) → OnErr result fact → OnStopHere (ending_of result) fact
stop-ends (Ok live.Waiting) fact holds = tt
stop-ends (Ok live.Running) fact holds = tt
stop-ends (Ok live.Ended) fact holds = tt
stop-ends (Err (stop.Fault fault line)) fact holds = holds
stop-ends (Err stop.Sink) fact holds = holds

-- also where there was nothing more to do
pub stop-last : (result : Option End) (fact : Type 0) → OnStopHere result fact → OnStop (unwrap_or result end.TraceEnded) fact
stop-last None fact holds = tt
stop-last (Some e) fact holds = holds

-- after the last byte: a line without its newline is one
pub ends-last : (rules : Rules) (result : Option End) (line : List ℕ) (a : Place) (w : World) (told : Option (List ℕ)) → 0 < length line →
    LineDoes result w a.told told (line_done rules a.number line a.world) → EndsIn rules (unwrap_or result end.TraceEnded) (last_line line) a w told
ends-last rules result [] a w told filled did = absurd (omega arith)
ends-last rules None (b ∷ bs) a w told filled did = record { text = did.text; is = goes_on rules (b ∷ bs) a w told did; told = did.told }
ends-last rules (Some e) (b ∷ bs) a w told filled did = ends-here rules e (b ∷ bs) [] a w told did

-- and where nothing stands there, the trace ends
pub ends-none : (rules : Rules) (line : List ℕ) (a : Place) → length line ≡ 0 → EndsIn rules end.TraceEnded (last_line line) a a.world a.told
unfolding run_from
ends-none rules [] a none = record { text = []; is = refl; told = sym (told_more-nil a.told) }
ends-none rules (b ∷ bs) a none = absurd (omega arith)

-- of some lines the first is too long
abbrev BeginsLong : List (List ℕ) → Type 0
BeginsLong lines = (line : List ℕ) × (after : List (List ℕ)) × (lines ≡ line ∷ after) × (32768 < length line)

-- a line that goes on from one that is too long is too long
long-first : (begun bytes : List ℕ) → 32768 < length begun → BeginsLong (lines_from begun bytes)
unfolding lines_to
long-first [] [] long = absurd (omega arith)
long-first (c ∷ cs) [] long = (c ∷ cs, [], refl, long)
long-first begun (b ∷ bs) long =
    elim (eqb b 10) as (λ t. BeginsLong (cond t (begun ∷ lines_to last_line [] bs) (lines_to last_line (begun ++ b ∷ []) bs))) [
      | true ↦ (begun, lines_to last_line [] bs, refl, long)
      | false ↦ long-first (begun ++ b ∷ []) bs (omega (arith, length-append begun (b ∷ [])))
    ]

-- the rules know lines that are too long
pub record KnowsLong (rules : Rules) : Type 0 where
  pub knows : (last : ℕ) (line : List ℕ) → 32768 < length line → rules.read last line ≡ Err LineTooLong

-- bytes that make a line too long end the run, whatever follows
pub takes-long : (rules : Rules) → KnowsLong rules → (fault : TraceFault) (front : List ℕ) (a : Place) → fault ≡ LineTooLong →
    All (λ byte. byte ≢ 10) front → 32768 < length a.begun + length front →
    (more : List ℕ) → EndsIn rules (end.TraceFault a.number fault) (lines_from a.begun (front ++ more)) a a.world a.told
unfolding run_from
takes-long rules long fault front a is none size more =
    let first = long-first (a.begun ++ front) more (omega (arith, length-append a.begun front)) in
    let lines : lines_from a.begun (front ++ more) ≡ first.0 ∷ first.1 =
    lines_to-append last_line a.begun front more
    ∙ lines_to-end (λ line. lines_to last_line line more) a.begun front (plain front none)
    ∙ first.2 in
    let read : rules.read a.world.time first.0 ≡ Err fault = long.knows a.world.time first.0 first.3 ∙ ap (λ (f : TraceFault). Err f) (sym is) in
    record {
      text = [];
      is = ap (λ ls. run_from rules a.number ls a.world) lines
          ∙ ap (λ r. then_do (done_by rules a.number r a.world) (or_rest (λ v. run_from rules (a.number + 1) first.1 v))) read;
      told = sym (told_more-nil a.told);
    }

-- those of a machine do
pub rules-long : (m : Machine) → KnowsLong (rules_of m)
unfolding rules_by told_of
rules-long m = record { knows = λ last line long. rw (lt-ltb 32768 (length line) long) refl }

-- machines that run one plan with one code have the same rules
pub rules-same : (a b : Machine) → fixed_of b ≡ fixed_of a → rules_of b ≡ rules_of a
rules-same a b same = ap (λ (f : Fixed). rules_by (record { program = program_of (loaded_by f.plan f.code); channels = f.channels }) f.budget) same

-- what a machine reads
pub read-is : (m : Machine) (last : ℕ) (line : List ℕ) (read : Result (Option (ℕ × Event)) TraceFault) →
    read ≡ read_of (channel_of m) (fits_of m) last line → last ≡ (world_held m).time → (rules_of m).read (world_held m).time line ≡ read
unfolding rules_by
read-is m last line read is at = sym (is ∙ ap (λ t. read_of (channel_of m) (fits_of m) t line) at)

-- the same of what was heard, where that may be known with its time
pub known-is : (m : Machine) (line : List ℕ) (room : Event) (known : Option (ℕ × Heard)) →
    IfSome known (λ at. Ok (Some (at.0, event_heard room at.1)) ≡ read_of (channel_of m) (fits_of m) (world_held m).time line) →
    IfSome known (λ at. Ok (Some (at.0, event_heard room at.1)) ≡ (rules_of m).read (world_held m).time line)
known-is m line room None read = tt
known-is m line room (Some at) read = sym (read-is m (world_held m).time line (Ok (Some (at.0, event_heard room at.1))) read refl)

-- of some bytes the first were taken in
pub record IsPartWay (rules : Rules) (bytes left : List ℕ) (from to : Place) : Type 0 where
  pub taken : List ℕ
  pub are : bytes ≡ taken ++ left
  pub reaches : Reaches rules taken from to

-- none were taken in yet
pub way-start : (rules : Rules) (bytes : List ℕ) (a : Place) → IsPartWay rules bytes bytes a a
way-start rules bytes a = record { taken = []; are = refl; reaches = reaches-start rules a }

-- more of them
pub way-on : (rules : Rules) (bytes left front rest : List ℕ) (a b c : Place) → IsPartWay rules bytes left a b → left ≡ front ++ rest →
    Reaches rules front b c → IsPartWay rules bytes rest a c
way-on rules bytes left front rest a b c way are more = record {
  taken = way.taken ++ front;
  are = way.are ∙ ap (λ z. way.taken ++ z) are ∙ sym (append_assoc way.taken front rest);
  reaches = reaches-then rules way.taken front a b c way.reaches more;
}

-- the run ends in those that are next
pub way-ends : (rules : Rules) (bytes left front rest : List ℕ) (e : End) (a b c : Place) → IsPartWay rules bytes left a b → left ≡ front ++ rest →
    Takes rules (Some e) front b c → Takes rules (Some e) bytes a c
way-ends rules bytes left front rest e a b c way are ends = λ more.
    let all : (way.taken ++ front) ++ (rest ++ more) ≡ bytes ++ more =
    append_assoc way.taken front (rest ++ more) ∙ ap (λ z. way.taken ++ z) (sym (append_assoc front rest more) ∙ ap (λ z. z ++ more) (sym are))
    ∙ sym (append_assoc way.taken left more) ∙ ap (λ z. z ++ more) (sym way.are) in
    subst (λ (z : List ℕ). EndsIn rules e (lines_from a.begun z) a c.world c.told) all
    (takes-behind rules (Some e) way.taken front a b c way.reaches ends (rest ++ more))

-- no bytes are left
pub way-all : (rules : Rules) (bytes left : List ℕ) (a b c : Place) → IsPartWay rules bytes left a b → Reaches rules left b c → Reaches rules bytes a c
way-all rules bytes left a b c way more = subst (λ (z : List ℕ). Reaches rules z a c) (sym way.are) (reaches-then rules way.taken left a b c way.reaches more)
