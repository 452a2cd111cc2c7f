-- Laws of when a line is read, and of the time behind an event.
use Rattle.std.proofs.Common.{◌≡◌, ◌∙◌, ◌≤◌, ℕ, Bool, true, false, nat_lt, List, [], ◌∷◌, Option, None, Some, Result, Ok, Err, if◌then◌else◌, arith, refl, ap, length, subst, sym}
use Rattle.std.specs.List.{list_all}
use Rattle.std.proofs.lemmas.Bool.{le-ltb, ltb-false}
use Rattle.snl_load.specs.Names.{position_of}
use Rattle.snl_machine.proofs.Wakes.{time_never_falls}
use Rattle.snl_machine.specs.MachineOf.{task_of, world_held}
use Rattle.snl_machine.specs.declared.machine.Machine.{Machine}
use Rattle.snl_meaning.specs.Keeping.{world_after}
use Rattle.snl_meaning.specs.World.{World}
use Rattle.snl_moments.specs.Walks.{MeansAs, ReadsAt}
use Rattle.snl_output.specs.TraceLines.{without_return}
use Rattle.snl_schedule.specs.Event.{is_event_fit}
use Rattle.snl_schedule.specs.declared.events.Event.{Event}
use Rattle.snl_trace.specs.Fields.{fields, is_silent, is_text}
use Rattle.snl_trace.specs.Grammar.{Told, ◌>>=◌, event_at, event_of, in_order, read_of, spoken, timed, told_by, told_of}
use Rattle.snl_trace.specs.Numbers.{time_of}
use Rattle.snl_trace.specs.Run.{Rules, rules_by}
use Rattle.snl_trace.specs.declared.trace_faults.TraceFault.{TraceFault}
use Rattle.snl_trace.specs.declared.trace_faults.TraceFault.TheVariants.{BackInTime, LineTooLong, NotAscii}

-- a time, and the fields behind it
abbrev Timed : Type 0
Timed = ℕ × List (List ℕ)

-- the time of a line is its own, wherever it is read
timed-on : (last other : ℕ) (fs : List (List ℕ)) (t : Timed) → timed last fs ≡ Ok t → (last ≤ t.0) × (other ≤ t.0 → timed other fs ≡ Ok t)
unfolding timed
timed-on last other [] t is = absurd cc
timed-on last other (field ∷ rest) t is = by (time_of field) is
  where
    ordered : (ms : ℕ) (b : Bool) → nat_lt ms last ≡ b → ((if b then Err BackInTime else Ok ms) >>= λ x. Ok (x, rest)) ≡ Ok t →
        (last ≤ t.0) × (other ≤ t.0 → (in_order other (Some ms) >>= λ x. Ok (x, rest)) ≡ Ok t)
    ordered ms true before is = absurd cc
    ordered ms false before is =
        let both : ◌≡◌ {A = Timed} (ms, rest) t = cc in
        let same : ms ≡ t.0 = ap (λ (x : Timed). x.0) both in
        (omega (arith, same, ltb-false ms last before), λ le. rw (le-ltb ms other (omega (arith, le, same))) is)

    by : (o : Option ℕ) → (in_order last o >>= λ x. Ok (x, rest)) ≡ Ok t → (last ≤ t.0) × (other ≤ t.0 → (in_order other o >>= λ x. Ok (x, rest)) ≡ Ok t)
    by None is = absurd cc
    by (Some ms) is = ordered ms (nat_lt ms last) refl is

module _ (channel : List ℕ → Option ℕ) (fits : Event → Bool) where
  -- what a line says, by its time
  abbrev said-by : (is_long is_quiet is_plain : Bool) → Result Timed TraceFault → Result (Option (ℕ × Event)) TraceFault
  said-by is_long is_quiet is_plain time =
      (if is_long then Err LineTooLong
      else if is_quiet then Ok None
      else if is_plain then (time >>= λ t. told_by t.1 >>= λ told. Ok (Some (t.0, told)))
      else Err NotAscii)
      >>= event_at channel fits

  -- so it is read
  read-by : (last : ℕ) (line : List ℕ) → read_of channel fits last line ≡
      said-by (nat_lt 32768 (length line)) (is_silent (without_return line)) (list_all is_text (without_return line)) (timed last (fields (without_return line)))
  unfolding told_of spoken
  read-by last line = refl

  -- one that has an event has its time
  timed-so : (is_long is_quiet is_plain : Bool) (time : Result Timed TraceFault) (at : ℕ × Event) → said-by is_long is_quiet is_plain time ≡ Ok (Some at) →
      (t : Timed) × (time ≡ Ok t) × (t.0 ≡ at.0)
  timed-so true is_quiet is_plain time at is = absurd cc
  timed-so false true is_plain time at is = absurd cc
  timed-so false false false time at is = absurd cc
  timed-so false false true (Err fault) at is = absurd cc
  timed-so false false true (Ok t) at is = (t, refl, by-told (told_by t.1) is)
    where
      by-event : (event : Result Event TraceFault) → (event >>= λ e. Ok (Some (t.0, e))) ≡ Ok (Some at) → t.0 ≡ at.0
      by-event (Err fault) is = absurd cc
      by-event (Ok event) is = let both : ◌≡◌ {A = ℕ × Event} (t.0, event) at = cc in ap (λ (x : ℕ × Event). x.0) both

      by-told : (told : Result Told TraceFault) → ((told >>= λ x. Ok (Some (t.0, x))) >>= event_at channel fits) ≡ Ok (Some at) → t.0 ≡ at.0
      by-told (Err fault) is = absurd cc
      by-told (Ok told) is = by-event (event_of channel fits told) is

  -- so it comes at the same time, behind any event that does not come after it
  read-on : (last other : ℕ) (line : List ℕ) (at : ℕ × Event) → read_of channel fits last line ≡ Ok (Some at) →
      (last ≤ at.0) × (other ≤ at.0 → read_of channel fits other line ≡ Ok (Some at))
  read-on last other line at is =
      let is_long = nat_lt 32768 (length line) in
      let is_quiet = is_silent (without_return line) in
      let is_plain = list_all is_text (without_return line) in
      let how = sym (read-by last line) ∙ is in
      let time = timed-so is_long is_quiet is_plain (timed last (fields (without_return line))) at how in
      let moved = timed-on last other (fields (without_return line)) time.0 time.1 in (
        omega (arith, moved.0, time.2),
        λ le.
            read-by other line
            ∙ ap (λ (x : Result Timed TraceFault). said-by is_long is_quiet is_plain x) (moved.1 (omega (arith, le, time.2)) ∙ sym time.1)
            ∙ how,
      )

-- a number that is there is one
pub some-same : (a b : ℕ) → ◌≡◌ {A = Option ℕ} (Some a) (Some b) → a ≡ b
some-same a b is = cc

-- a line has one time
pub same-time : (r : Rules) (w : World) (line : List ℕ) (ms at : ℕ) → ReadsAt r w line ms → ReadsAt r w line at → ms ≡ at
same-time r w line ms at one other = by (sym one.1 ∙ other.1)
  where
    by : ◌≡◌ {A = Result (Option (ℕ × Event)) TraceFault} (Ok (Some (ms, one.0))) (Ok (Some (at, other.0))) → ms ≡ at
    by same = let both : ◌≡◌ {A = ℕ × Event} (ms, one.0) (at, other.0) = cc in ap (λ (x : ℕ × Event). x.0) both

-- one without an event has none
pub never-quiet : (read : Result (Option (ℕ × Event)) TraceFault) (at : ℕ × Event) → read ≡ Ok None → read ≡ Ok (Some at) → ⊥
never-quiet read at none some = cc

-- nor has one that is refused
pub never-refused : (read : Result (Option (ℕ × Event)) TraceFault) (fault : TraceFault) (at : ℕ × Event) → read ≡ Err fault → read ≡ Ok (Some at) → ⊥
never-refused read fault at refused some = cc

-- by the rules of a machine, too
pub reads-on : (r : Rules) (m : Machine) (last other : ℕ) (line : List ℕ) (at : ℕ × Event) → MeansAs r m → r.read last line ≡ Ok (Some at) →
    (last ≤ at.0) × (other ≤ at.0 → r.read other line ≡ Ok (Some at))
unfolding rules_by
reads-on r m last other line at meant is =
    let t = task_of meant.program meant.links meant.waits in
    let same : (n : ℕ) → r.read n line ≡ read_of (position_of t.channels) (is_event_fit (length t.channels) t.program.links) n line =
    λ n. ap (λ (z : Rules). z.read n line) meant.rules_are in
    let moved = read-on (position_of t.channels) (is_event_fit (length t.channels) t.program.links) last other line at (sym (same last) ∙ is) in
    (moved.0, λ le. same other ∙ moved.1 le)

-- behind an event it is no later than that
pub act-time : (r : Rules) (m : Machine) (ms : ℕ) (event : Event) → MeansAs r m → (world_held m).time ≤ ms → (world_after (r.act ms event (world_held m))).time ≤ ms
unfolding rules_by
act-time r m ms event meant early =
    let w = world_held m in
    let kept = time_never_falls meant.program meant.links meant.waits meant.budget ms event w meant.made.world_is.wake_is_later early in
    subst (λ (z : Rules). (world_after (z.act ms event w)).time ≤ ms) (sym meant.rules_are) kept.1
