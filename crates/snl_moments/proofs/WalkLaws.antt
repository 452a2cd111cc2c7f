-- Laws of where a walk stands.
use Rattle.std.proofs.Common.{◌≡◌, ◌≢◌, ◌∙◌, ◌+◌, ◌<◌, ◌≤◌, ℕ, Bool, true, false, List, [], ◌∷◌, ◌++◌, Option, None, Some, Ok, inl, inr, ◌⊎◌, refl, ap, arith, sym, subst, append_assoc, length, slice_get}
use Rattle.std.specs.List.{All}
use Rattle.std.proofs.lemmas.List.Elements.{All-pop, All-push, All-weaker}
use Rattle.snl_machine.specs.MachineOf.{world_held}
use Rattle.snl_machine.specs.Snapshots.{Pictures, anew}
use Rattle.snl_machine.specs.declared.machine.Machine.{Machine}
use Rattle.snl_machine.specs.declared.snapshots.Snapshot.{Snapshot}
use Rattle.snl_meaning.specs.Keeping.{world_after}
use Rattle.snl_meaning.specs.World.{World}
use Rattle.snl_moments.proofs.MeansLaws.{means-stays}
use Rattle.snl_moments.proofs.PlanLaws.{from-next, from-same, from-sooner}
use Rattle.snl_moments.proofs.ReadLaws.{act-time, reads-on}
use Rattle.snl_moments.proofs.StepLaws.{ends-world}
use Rattle.snl_moments.proofs.WakeLaws.{runs-by}
use Rattle.snl_moments.specs.Comes.{Begins, ByLine, ByWake, ComesTo, IsAhead, IsLater, IsLine}
use Rattle.snl_moments.specs.Plans.{AreFrom, SameAsked, left_of}
use Rattle.snl_moments.specs.Stepping.{Follows, GoesTo, LineFollows}
use Rattle.snl_moments.specs.Tells.{IsAtTime, IsBad, IsMoment, sizes_of}
use Rattle.snl_moments.specs.Walks.{EndsAt, HasRoom, IsRefused, Keeps, KeepsTold, Leaves, MayCome, MeansAs, Nears, ReadsBehind, Stands, TellsAt, TellsBad, TellsNow, WakesTo}
use Rattle.std.proofs.lemmas.Bool.{false≢true}
use Rattle.snl_meaning.specs.declared.live.Live.{Live}
use Rattle.snl_meaning.specs.declared.live.Live.TheVariants.{Ended, Running}
use Rattle.snl_moments.specs.declared.subject.Subject.{Subject}
use Rattle.snl_moments.specs.declared.walks.Kind.{Kind}
use Rattle.snl_moments.specs.declared.walks.Kind.TheVariants as kind
use Rattle.snl_moments.specs.declared.walks.Moment.{Moment}
use Rattle.snl_moments.specs.declared.walks.Sort.TheVariants.{Times}
use Rattle.snl_schedule.specs.Event.{wake_before}
use Rattle.snl_schedule.specs.declared.events.Event.{Event}
use Rattle.snl_schedule.specs.declared.events.Event.TheVariants.{Tick}
use Rattle.snl_trace.specs.Run.{Rules, done_by, line_done}
use Rattle.snl_trace.specs.declared.trace_faults.TraceFault.{TraceFault}
use Rattle.std.proofs.Common.{Result}
use Rattle.snl_vm.specs.declared.stores.Store.{Store}

-- what is asked of a walk stays none
pub idle-same : (s t : Subject) → SameAsked s t → ((s.sort ≡ Times → ⊥) → s.times.items ≡ []) → (t.sort ≡ Times → ⊥) → t.times.items ≡ []
idle-same s t same idle never = same.times ∙ idle (λ is. never (same.sort ∙ is))

-- ---- a walk whose machine, stores and moments are as before

-- of which the next time is the one behind that
pub goes-on : (at_end : Bool) (r : Rules) (first : World) (gave rest : List ℕ) (s t : Subject) → KeepsTold s t → t.sort ≡ s.sort → t.times.items ≡ s.times.items →
    ((ms : ℕ) → AreFrom ms (left_of s) → AreFrom ms (left_of t)) → Stands at_end r first gave rest s → Stands at_end r first gave rest t
goes-on at_end r first gave rest s t told sort times early at = record {
  means = subst (λ (m : Machine). MeansAs r m) (sym told.machine) at.means;
  behind = subst (λ (m : Machine). ComesTo at_end r first gave rest (world_held m)) (sym told.machine) at.behind;
  early = subst (λ (m : Machine). AreFrom (world_held m).time (left_of t)) (sym told.machine) (early (world_held s.machine).time at.early);
  idle = λ never. times ∙ at.idle (λ is. never (sort ∙ is));
  spares = subst (λ (m : Machine). All (HasRoom (world_held m)) t.spares.items) (sym told.machine)
      (subst (λ (xs : List Store). All (HasRoom (world_held s.machine)) xs) (sym told.spares) at.spares);
  moments = subst (λ (xs : List Moment). All (IsMoment at_end r first gave) xs) (sym told.moments) at.moments;
  rooms = subst (λ (m : Machine). All (λ (x : Moment). HasRoom (world_held m) x.store) t.moments.items) (sym told.machine)
      (subst (λ (xs : List Moment). All (λ (x : Moment). HasRoom (world_held s.machine) x.store) xs) (sym told.moments) at.rooms);
}

-- where the same is asked of it, too
pub leaves-stands : (at_end : Bool) (r : Rules) (first : World) (gave rest : List ℕ) (s t : Subject) → Leaves s t → Stands at_end r first gave rest s → Stands at_end r first gave rest t
leaves-stands at_end r first gave rest s t same at = goes-on at_end r first gave rest s t same.told same.asked.sort same.asked.times (λ ms are. from-same ms s t same.asked are) at

-- ---- a walk that goes on

-- stores have room for another world that is as large
room-kept : (w u : World) (xs : List Store) → sizes_of u ≡ sizes_of w → All (HasRoom w) xs → All (HasRoom u) xs
room-kept w u xs same fit = All-weaker (HasRoom w) (HasRoom u) (λ s room. room ∙ sym same) xs fit

-- so have those of moments
rooms-kept : (w u : World) (xs : List Moment) → sizes_of u ≡ sizes_of w → All (λ (x : Moment). HasRoom w x.store) xs → All (λ (x : Moment). HasRoom u x.store) xs
rooms-kept w u xs same fit = All-weaker (λ (x : Moment). HasRoom w x.store) (λ (x : Moment). HasRoom u x.store) (λ x room. room ∙ sym same) xs fit

-- to a world by a machine that goes there
pub goes-stands : (at_end : Bool) (r : Rules) (first : World) (gave rest more : List ℕ) (s t : Subject) → GoesTo s.machine t.machine → t.spares.items ≡ s.spares.items →
    t.moments.items ≡ s.moments.items → SameAsked s t → Stands at_end r first gave rest s → ComesTo at_end r first gave more (world_held t.machine) →
    AreFrom (world_held t.machine).time (left_of s) → Stands at_end r first gave more t
goes-stands at_end r first gave rest more s t goes spares moments asked at behind early = record {
  means = means-stays r s.machine t.machine goes.stays at.means;
  behind = behind;
  early = from-same (world_held t.machine).time s t asked early;
  idle = idle-same s t asked at.idle;
  spares = room-kept (world_held s.machine) (world_held t.machine) t.spares.items goes.sizes (subst (λ (xs : List Store). All (HasRoom (world_held s.machine)) xs) (sym spares) at.spares);
  moments = subst (λ (xs : List Moment). All (IsMoment at_end r first gave) xs) (sym moments) at.moments;
  rooms = rooms-kept (world_held s.machine) (world_held t.machine) t.moments.items goes.sizes
      (subst (λ (xs : List Moment). All (λ (x : Moment). HasRoom (world_held s.machine) x.store) xs) (sym moments) at.rooms);
}

-- ---- by a wake

-- a line that comes after a time comes after an earlier one
later-sooner : (at_end : Bool) (r : Rules) (early late : ℕ) (w : World) (rest : List ℕ) → early ≤ late → IsLater at_end r late w rest → IsLater at_end r early w rest
later-sooner at_end r early late w rest le is = by at_end is
  where
    ahead : IsAhead r late w rest → IsAhead r early w rest
    ahead (inl ended) = inl ended
    ahead (inr (line, at, here, read, behind)) = inr (line, at, here, read, omega (arith, le, behind))

    by : (e : Bool) → IsLater e r late w rest → IsLater e r early w rest
    by false is = ahead is
    by true (inl over) = inl over
    by true (inr is) = inr (ahead is)

-- it still does in another world of that time or an earlier one
later-there : (at_end : Bool) (r : Rules) (m : Machine) (ms : ℕ) (u : World) (rest : List ℕ) → MeansAs r m → u.time ≤ ms → (world_held m).phase ≢ Ended →
    IsLater at_end r ms (world_held m) rest → IsLater at_end r ms u rest
later-there at_end r m ms u rest meant early runs is = by at_end is
  where
    ahead : IsAhead r ms (world_held m) rest → IsAhead r ms u rest
    ahead (inl ended) = absurd (runs ended)
    ahead (inr (line, at, here, read, late)) = inr (line, at, here, (reads-on r m (world_held m).time u.time line at meant read).1 (omega (arith, early, late)), late)

    by : (e : Bool) → IsLater e r ms (world_held m) rest → IsLater e r ms u rest
    by false is = ahead is
    by true (inl over) = inl over
    by true (inr is) = inr (ahead is)

-- a program that runs has not ended
not-ended : (phase : Live) → phase ≡ Running → phase ≢ Ended
not-ended phase runs ended = cc

-- by a wake
wakes-on : (at_end : Bool) (r : Rules) (first : World) (gave rest : List ℕ) (s t : Subject) (ms wake : ℕ) → Follows wake Tick s.machine t.machine → t.spares.items ≡ s.spares.items →
    t.moments.items ≡ s.moments.items → SameAsked s t → wake_before (ms + 1) (world_held s.machine) ≡ Some wake → Stands at_end r first gave rest s →
    IsLater at_end r ms (world_held s.machine) rest → AreFrom ms (left_of s) → Stands at_end r first gave rest t × IsLater at_end r ms (world_held t.machine) rest
wakes-on at_end r first gave rest s t ms wake follows spares moments asked due at later left =
    let w = world_held s.machine in
    let u = world_held t.machine in
    let known = runs-by (ms + 1) wake w.phase w.wake due in
    let is = follows.world r at.means in
    let after : w.time < wake = at.means.made.world_is.wake_is_later wake known.0 known.1 in
    let up : wake ≤ ms = omega (arith, known.2) in
    let by-then : u.time ≤ wake = subst (λ (z : World). z.time ≤ wake) (sym is) (act-time r s.machine wake Tick at.means (omega (arith, after))) in
    let early : u.time ≤ ms = omega (arith, by-then, up) in (
      goes-stands at_end r first gave rest rest s t follows.goes spares moments asked at
          (ByWake rest w u (ms + 1) wake at.behind due (later-sooner at_end r wake ms w rest up later) is)
          (from-sooner u.time ms (left_of s) early left),
      later-there at_end r s.machine ms u rest at.means early (not-ended w.phase known.0) later,
    )

-- ---- by a line

-- where no event comes the world stays
quiet-time : (r : Rules) (line : List ℕ) (w u : World) → r.read w.time line ≡ Ok None → u ≡ world_after (line_done r 0 line w) → u ≡ w
quiet-time r line w u read is = is ∙ ap (λ (z : Result (Option (ℕ × Event)) TraceFault). world_after (done_by r 0 z w)) read

-- where one does it is that behind the event
event-time : (r : Rules) (line : List ℕ) (w u : World) (at : ℕ × Event) → r.read w.time line ≡ Ok (Some at) → u ≡ world_after (line_done r 0 line w) → u ≡ world_after (r.act at.0 at.1 w)
event-time r line w u at read is = is ∙ ap (λ (z : Result (Option (ℕ × Event)) TraceFault). world_after (done_by r 0 z w)) read ∙ ends-world (r.act at.0 at.1 w)

-- so no time that is left comes before the world behind a line that may come now
line-early : (r : Rules) (line : List ℕ) (s : Subject) (u : World) (read : Option (ℕ × Event)) → MeansAs r s.machine → r.read (world_held s.machine).time line ≡ Ok read →
    u ≡ world_after (line_done r 0 line (world_held s.machine)) → AreFrom (world_held s.machine).time (left_of s) → MayCome r line s → AreFrom u.time (left_of s)
line-early r line s u None meant read is early may = subst (λ (z : World). AreFrom z.time (left_of s)) (sym (quiet-time r line (world_held s.machine) u read is)) early
line-early r line s u (Some at) meant read is early may =
    let w = world_held s.machine in
    let in-order = (reads-on r s.machine w.time w.time line at meant read).0 in
    let by-then : u.time ≤ at.0 = subst (λ (z : World). z.time ≤ at.0) (sym (event-time r line w u at read is)) (act-time r s.machine at.0 at.1 meant in-order) in
    from-sooner u.time at.0 (left_of s) by-then (may at.0 (at.1, read))

-- a line that was read and done leads on
pub line-on : (r : Rules) (first : World) (gave line more : List ℕ) (s t : Subject) → IsLine line → LineFollows line s.machine t.machine → t.spares.items ≡ s.spares.items →
    t.moments.items ≡ s.moments.items → SameAsked s t → Stands false r first gave (line ++ 10 ∷ more) s → MayCome r line s → Stands false r first gave more t
line-on r first gave line more s t plain follows spares moments asked at may =
    let did = follows.world r at.means in
    let w = world_held s.machine in
    let u = world_held t.machine in
    goes-stands false r first gave (line ++ 10 ∷ more) more s t follows.goes spares moments asked at (ByLine line more 0 w u did.0 at.behind plain did.1 did.2)
    (line-early r line s u did.0 at.means did.1 did.2 at.early may)

-- ---- more bytes

-- what comes next still does, where more bytes follow
later-more : (r : Rules) (ms : ℕ) (w : World) (rest bytes : List ℕ) → IsLater false r ms w rest → IsLater false r ms w (rest ++ bytes)
later-more r ms w rest bytes (inl ended) = inl ended
later-more r ms w rest bytes (inr (line, at, here, read, late)) =
    inr (line, at, record { more = here.more ++ bytes; plain = here.plain; is = ap (λ (z : List ℕ). z ++ bytes) here.is ∙ append_assoc line (10 ∷ here.more) bytes }, read, late)

-- a bad line stays bad, whatever follows
bad-more : (r : Rules) (w : World) (rest bytes : List ℕ) → IsBad r w rest → IsBad r w (rest ++ bytes)
bad-more r w rest bytes (inl (line, fault, here, read)) =
    inl (line, fault, record { more = here.more ++ bytes; plain = here.plain; is = ap (λ (z : List ℕ). z ++ bytes) here.is ∙ append_assoc line (10 ∷ here.more) bytes }, read)
bad-more r w rest bytes (inr long) =
    inr (record {
      begun = long.begun;
      more = long.more ++ bytes;
      plain = long.plain;
      long = long.long;
      is = ap (λ (z : List ℕ). z ++ bytes) long.is ∙ append_assoc long.begun long.more bytes;
    })

-- a moment stays right, whatever follows
at-more : (k : Kind) (r : Rules) (w : World) (rest bytes : List ℕ) → IsAtTime false k r w rest → IsAtTime false k r w (rest ++ bytes)
at-more (kind.At ms) r w rest bytes at = (at.0, at.1, later-more r ms w rest bytes at.2)
at-more (kind.Before ms) r w rest bytes at = (at.0, bad-more r w rest bytes at.1)
at-more kind.Trip r w rest bytes at = tt
at-more kind.Into r w rest bytes at = tt

-- so the run still comes to a world
behind-more : (r : Rules) (first : World) (gave : List ℕ) (w : World) (rest bytes : List ℕ) → ComesTo false r first gave rest w → ComesTo false r first (gave ++ bytes) (rest ++ bytes) w
behind-more r first gave _ _ bytes Begins = Begins
behind-more r first gave _ _ bytes (ByLine line more number w u read comes plain reads is) =
    ByLine line (more ++ bytes) number w u read
    (subst (λ (z : List ℕ). ComesTo false r first (gave ++ bytes) z w) (append_assoc line (10 ∷ more) bytes) (behind-more r first gave w (line ++ 10 ∷ more) bytes comes)) plain reads is
behind-more r first gave _ _ bytes (ByWake rest w u ms wake comes due later is) =
    ByWake (rest ++ bytes) w u ms wake (behind-more r first gave w rest bytes comes) due (later-more r wake w rest bytes later) is

-- a moment that was told stays right
pub moment-more : (r : Rules) (first : World) (gave bytes : List ℕ) (m : Moment) → IsMoment false r first gave m → IsMoment false r first (gave ++ bytes) m
moment-more r first gave bytes m is = record {
  world = is.world;
  rest = is.rest ++ bytes;
  behind = behind-more r first gave is.world is.rest bytes is.behind;
  at = at-more m.kind r is.world is.rest bytes is.at;
  tells = is.tells;
}

-- so do all
pub moments-more : (r : Rules) (first : World) (gave bytes : List ℕ) (ms : List Moment) → All (IsMoment false r first gave) ms → All (IsMoment false r first (gave ++ bytes)) ms
moments-more r first gave bytes ms are = All-weaker (IsMoment false r first gave) (IsMoment false r first (gave ++ bytes)) (moment-more r first gave bytes) ms are

-- a walk stands in front of more bytes
pub stands-more : (r : Rules) (first : World) (gave rest bytes : List ℕ) (s : Subject) → Stands false r first gave rest s → Stands false r first (gave ++ bytes) (rest ++ bytes) s
stands-more r first gave rest bytes s at = record {
  means = at.means;
  behind = behind-more r first gave (world_held s.machine) rest bytes at.behind;
  early = at.early;
  idle = at.idle;
  spares = at.spares;
  moments = moments-more r first gave bytes s.moments.items at.moments;
  rooms = at.rooms;
}

-- ---- at the end

-- a moment that is right before the end is right at the end
at-ends : (e : Bool) (k : Kind) (r : Rules) (w : World) (rest : List ℕ) → IsAtTime false k r w rest → IsAtTime e k r w rest
at-ends false k r w rest at = at
at-ends true (kind.At ms) r w rest at = (at.0, at.1, inr at.2)
at-ends true (kind.Before ms) r w rest at = at
at-ends true kind.Trip r w rest at = tt
at-ends true kind.Into r w rest at = tt

-- what comes next does so at the end, too
later-ends : (e : Bool) (r : Rules) (ms : ℕ) (w : World) (rest : List ℕ) → IsLater false r ms w rest → IsLater e r ms w rest
later-ends false r ms w rest is = is
later-ends true r ms w rest is = inr is

-- and so does the run
behind-ends : (e : Bool) (r : Rules) (first : World) (gave : List ℕ) (w : World) (rest : List ℕ) → ComesTo false r first gave rest w → ComesTo e r first gave rest w
behind-ends e r first gave _ _ Begins = Begins
behind-ends e r first gave _ _ (ByLine line more number w u read comes plain reads is) =
    ByLine line more number w u read (behind-ends e r first gave w (line ++ 10 ∷ more) comes) plain reads is
behind-ends e r first gave _ _ (ByWake rest w u ms wake comes due later is) =
    ByWake rest w u ms wake (behind-ends e r first gave w rest comes) due (later-ends e r wake w rest later) is

-- the same of a moment with its world
pub moment-ends : (e : Bool) (r : Rules) (first : World) (gave : List ℕ) (m : Moment) → IsMoment false r first gave m → IsMoment e r first gave m
moment-ends e r first gave m is = record {
  world = is.world;
  rest = is.rest;
  behind = behind-ends e r first gave is.world is.rest is.behind;
  at = at-ends e m.kind r is.world is.rest is.at;
  tells = is.tells;
}

-- a walk that goes on stands at the end, too
pub stands-ends : (e : Bool) (r : Rules) (first : World) (gave rest : List ℕ) (s : Subject) → Stands false r first gave rest s → Stands e r first gave rest s
stands-ends e r first gave rest s at = record {
  means = at.means;
  behind = behind-ends e r first gave (world_held s.machine) rest at.behind;
  early = at.early;
  idle = at.idle;
  spares = at.spares;
  moments = All-weaker (IsMoment false r first gave) (IsMoment e r first gave) (moment-ends e r first gave) s.moments.items at.moments;
  rooms = at.rooms;
}

-- ---- moments

-- the next line comes after a time
pub before-line : (r : Rules) (w : World) (line more : List ℕ) (ms : ℕ) → IsLine line → ReadsBehind r w line ms → IsLater false r ms w (line ++ 10 ∷ more)
before-line r w line more ms plain read = inr (line, read.0, record { more = more; plain = plain; is = refl }, read.1, read.2)

-- nothing follows, or the program has ended
pub at-last : (is_over : Bool) (r : Rules) (w : World) (rest : List ℕ) (ms : ℕ) → (is_over ≡ true → rest ≡ []) → (is_over ≡ true) ⊎ (w.phase ≡ Ended) → IsLater is_over r ms w rest
at-last true r w rest ms over which = inl (over refl)
at-last false r w rest ms over (inl never) = absurd (false≢true never)
at-last false r w rest ms over (inr ended) = inl ended

-- a line that was refused is bad
pub refused-bad : (r : Rules) (w : World) (line more : List ℕ) → IsLine line → IsRefused r w line → IsBad r w (line ++ 10 ∷ more)
refused-bad r w line more plain bad = inl (line, bad.0, record { more = more; plain = plain; is = refl }, bad.1)

-- so is one that is too long
pub long-bad : (r : Rules) (w : World) (begun more : List ℕ) → IsLine begun → 32768 < length begun → IsBad r w (begun ++ more)
long-bad r w begun more plain long = inr (record { begun = begun; more = more; plain = plain; long = long; is = refl })

-- the last moment taken away, and its store kept
pub untold : (at_end : Bool) (r : Rules) (first : World) (gave rest : List ℕ) (s t : Subject) (m : Moment) → t.machine ≡ s.machine → SameAsked s t →
    s.moments.items ≡ t.moments.items ++ m ∷ [] → t.spares.items ≡ s.spares.items ++ m.store ∷ [] → Stands at_end r first gave rest s → Stands at_end r first gave rest t
untold at_end r first gave rest s t m machine asked moments spares at =
    let w = world_held s.machine in
    let told = All-pop (IsMoment at_end r first gave) s.moments.items t.moments.items (Some m) moments at.moments in
    let room = All-pop (λ (x : Moment). HasRoom w x.store) s.moments.items t.moments.items (Some m) moments at.rooms in
    record {
      means = subst (λ (k : Machine). MeansAs r k) (sym machine) at.means;
      behind = subst (λ (k : Machine). ComesTo at_end r first gave rest (world_held k)) (sym machine) at.behind;
      early = subst (λ (k : Machine). AreFrom (world_held k).time (left_of t)) (sym machine) (from-same w.time s t asked at.early);
      idle = idle-same s t asked at.idle;
      spares = subst (λ (k : Machine). All (HasRoom (world_held k)) t.spares.items) (sym machine)
          (subst (λ (xs : List Store). All (HasRoom w) xs) (sym spares) (All-push (HasRoom w) s.spares.items m.store at.spares room.1));
      moments = told.0;
      rooms = subst (λ (k : Machine). All (λ (x : Moment). HasRoom (world_held k) x.store) t.moments.items) (sym machine) room.0;
    }

-- ---- one after another

-- as before
pub leaves-keeps : (s t : Subject) → Leaves s t → Keeps s t
leaves-keeps s t same = λ at_end r first gave rest at. leaves-stands at_end r first gave rest s t same at

-- to keep twice is to keep
pub keeps-then : (s t u : Subject) → Keeps s t → Keeps t u → Keeps s u
keeps-then s t u one other = λ at_end r first gave rest at. other at_end r first gave rest (one at_end r first gave rest at)

-- wherever it stands, in front of a line, too
pub keeps-nears : (line : List ℕ) (s t : Subject) → Keeps s t → Nears line s t
keeps-nears line s t keeps = λ r first gave more plain at. keeps false r first gave (line ++ 10 ∷ more) at

-- a line comes nearer twice
pub nears-then : (line : List ℕ) (s t u : Subject) → Nears line s t → Nears line t u → Nears line s u
nears-then line s t u one other = λ r first gave more plain at. other r first gave more plain (one r first gave more plain at)

-- what is kept ends right
pub keeps-ends : (is_over : Bool) (s t : Subject) → Keeps s t → EndsAt is_over s t
keeps-ends is_over s t keeps = λ r first gave rest over at. keeps is_over r first gave rest at

-- ends come one after another
pub ends-then : (is_over : Bool) (s t u : Subject) → EndsAt is_over s t → EndsAt is_over t u → EndsAt is_over s u
ends-then is_over s t u one other = λ r first gave rest over at. other r first gave rest over (one r first gave rest over at)

-- ---- wakes, one after another

-- none was run yet
pub wakes-none : (ms : ℕ) (s : Subject) → WakesTo ms s s
wakes-none ms s = λ at_end r first gave rest at later left. (at, later)

-- where the machine is as before, and what is asked for
pub wakes-keep : (ms : ℕ) (s t u : Subject) → SameAsked s t → WakesTo ms s t → Keeps t u → u.machine ≡ t.machine → WakesTo ms s u
wakes-keep ms s t u asked wakes keeps machine = λ at_end r first gave rest at later left.
    let here = wakes at_end r first gave rest at later left in
    (keeps at_end r first gave rest here.0, subst (λ (m : Machine). IsLater at_end r ms (world_held m) rest) (sym machine) here.1)

-- one more
pub wakes-more : (ms wake : ℕ) (s t u : Subject) → SameAsked s t → WakesTo ms s t → Follows wake Tick t.machine u.machine → u.spares.items ≡ t.spares.items →
    u.moments.items ≡ t.moments.items → SameAsked t u → wake_before (ms + 1) (world_held t.machine) ≡ Some wake → WakesTo ms s u
wakes-more ms wake s t u same wakes follows spares moments asked due = λ at_end r first gave rest at later left.
    let here = wakes at_end r first gave rest at later left in
    wakes-on at_end r first gave rest t u ms wake follows spares moments asked due here.0 here.1 (from-same ms s t same left)

-- ---- what is told

-- the next time that is asked for, behind the wakes up to it
pub tells-at : (ms : ℕ) (now : Snapshot) (s t u : Subject) → SameAsked s t → WakesTo ms s t → wake_before (ms + 1) (world_held t.machine) ≡ None →
    Pictures now (anew (world_held t.machine)) → TellsNow (kind.At ms) now t u → TellsAt ms s u
tells-at ms now s t u asked wakes still pictures tells = λ at_end r first gave rest next at later.
    let left = (from-next (world_held s.machine).time ms s.times.items s.next next at.early).1 in
    let here = wakes at_end r first gave rest at later left in
    let next-there : slice_get t.times.items t.next ≡ Some ms = (λ j. slice_get (asked.times j) (asked.next j)) ∙ next in
    let early = (from-next (world_held t.machine).time ms t.times.items t.next next-there here.0.early).0 in
    tells at_end r first gave rest here.0 (early, still, here.1) pictures

-- so it is told in front of a line that comes after it
pub tells-nears : (line : List ℕ) (ms : ℕ) (s t : Subject) → slice_get s.times.items s.next ≡ Some ms → ((r : Rules) → MeansAs r s.machine → ReadsBehind r (world_held s.machine) line ms) →
    TellsAt ms s t → Nears line s t
tells-nears line ms s t next reads tells = λ r first gave more plain at.
    tells false r first gave (line ++ 10 ∷ more) next at (before-line r (world_held s.machine) line more ms plain (reads r at.means))

-- and where nothing follows, or the program has ended
pub tells-last : (is_over : Bool) (ms : ℕ) (s t : Subject) → (is_over ≡ true) ⊎ ((world_held s.machine).phase ≡ Ended) → TellsAt ms s t → slice_get s.times.items s.next ≡ Some ms →
    EndsAt is_over s t
tells-last is_over ms s t which tells next = λ r first gave rest over at.
    tells is_over r first gave rest next at (at-last is_over r (world_held s.machine) rest ms over which)

-- a fault, wherever it is
pub tells-trip : (now : Snapshot) (s t : Subject) → Pictures now (anew (world_held s.machine)) → TellsNow kind.Trip now s t → Keeps s t
tells-trip now s t pictures tells = λ at_end r first gave rest at. tells at_end r first gave rest at tt pictures

-- a way into a state, in the place of an earlier one
pub tells-into : (now : Snapshot) (s t u v : Subject) → Leaves s t → Keeps t u → u.machine ≡ t.machine → Pictures now (anew (world_held s.machine)) → TellsNow kind.Into now u v → Keeps s v
tells-into now s t u v same keeps machine pictures tells = λ at_end r first gave rest at.
    tells at_end r first gave rest (keeps at_end r first gave rest (leaves-stands at_end r first gave rest s t same at)) tt
    (subst (λ (m : Machine). Pictures now (anew (world_held m))) (sym (machine ∙ same.told.machine)) pictures)

-- what the program is in front of a bad line
pub tells-bad : (ms : ℕ) (now : Snapshot) (s t : Subject) → Pictures now (anew (world_held s.machine)) → TellsNow (kind.Before ms) now s t → slice_get s.times.items s.next ≡ Some ms →
    TellsBad s t
tells-bad ms now s t pictures tells next = λ r first gave rest bad at.
    tells false r first gave rest at ((from-next (world_held s.machine).time ms s.times.items s.next next at.early).0, bad) pictures
