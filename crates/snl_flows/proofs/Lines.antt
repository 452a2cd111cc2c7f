-- Where what is hidden is right, the lines of a program come out alike from worlds that are the same but for that.
use Rattle.std.proofs.Common.{◌≡◌, ◌∙◌, ◌+◌, ◌<◌, inl, refl, sym, ap, subst, ℕ, suc, Bool, true, false, List, [], ◌∷◌, length, map}
use Rattle.std.proofs.lemmas.List.{length-map}
use Rattle.snl_channels.specs.Links.{Link}
use Rattle.snl_flat.specs.declared.code.Code.{Code}
use Rattle.snl_flat.specs.Heres.{for_each_set, placed_in}
use Rattle.snl_flat.specs.Reached.{Table}
use Rattle.snl_flat.specs.Starts.{holds_in, table_of}
use Rattle.snl_load.specs.Meaning.{program_meaning}
use Rattle.snl_load.specs.Places.{home_in, placed_sets}
use Rattle.snl_load.specs.Reached.{only_reached}
use Rattle.snl_meaning.specs.declared.live.Live.{Live}
use Rattle.snl_meaning.specs.declared.live.Live.TheVariants.{Waiting}
use Rattle.snl_meaning.specs.declared.names.Placed.{Placed}
use Rattle.snl_meaning.specs.Ran.{Ran}
use Rattle.snl_meaning.specs.World.{World, copy_of}
use Rattle.snl_schedule.specs.declared.events.Event.{Event}
use Rattle.snl_schedule.specs.declared.events.Event.TheVariants.{Val}
use Rattle.snl_schedule.specs.Arrivals.{received}
use Rattle.snl_schedule.specs.Event.{applied, line_of}
use Rattle.snl_schedule.specs.Instant.{Program}
use Rattle.snl_syntax.specs.Programs.{ProgramTree, StateSetTree}
use Rattle.snl_alike.specs.Runs.{AnyComes, AreAlikeInRuns, NothingMore, StartAgrees, ProgramAgrees}
use Rattle.snl_alike.specs.TwoRuns.{Alike, BothGive, BothFault, FirstLeftOut, SecondLeftOut, SecondWrote}
use Rattle.snl_alike.proofs.Instants.{line-alike, lines-alike, started-alike}
use Rattle.snl_alike.proofs.Programs.{any-comes}
use Rattle.snl_flows.specs.Flows.{AreStaleValues, IsAlike}
use Rattle.snl_flows.specs.Outside.{each_always, has, hidden_in, places_by, places_for}
use Rattle.snl_flows.specs.Tables.{Ground}
use Rattle.snl_flows.specs.Texts.{SameButValues, NoLines}
use Rattle.snl_flows.proofs.Alike.{flow-in-runs, flow-stale}
use Rattle.snl_flows.proofs.Buffers.{received-keeps, values-keep, KeepsStale}
use Rattle.snl_flows.proofs.ByState.{IsAlikeIn, IsAlikeNow, by-wide, now-stale, place-at, relisted, state-in-runs, Carries}
use Rattle.snl_flows.proofs.Links.{links-hidden, links-shown}
use Rattle.snl_flows.proofs.Meets.{always-at}
use Rattle.snl_flows.proofs.Pieces.{less-open}
use Rattle.snl_flows.proofs.Programs.{program-agrees}
use Rattle.snl_flows.proofs.Texts.{texts-joined}
use Rattle.snl_flows.proofs.Claims.{Claim, IsClaimed, ground_by, pieces-always, pieces-now}

module _ (p : ProgramTree) (ls : List Link) (c : Code) (claim : Claim) (right : IsClaimed p ls c claim) (waits : Bool) (some : 0 < length p.state_sets) where
  -- what holds for all state sets, where nothing is hidden,
  abbrev ground : Ground
  ground = ground_by p ls c claim []

  -- and where that is which is so in each state
  abbrev always : Ground
  always = ground_by p ls c claim (each_always claim.hidden)

  -- two worlds that are the same but for what is hidden in their states,
  abbrev pub Now : World → World → Type 0
  Now = IsAlikeNow ground claim.hidden claim.Clean claim.Waits right.fits

  -- while a state set is in a state,
  abbrev In : (set state : ℕ) → World → World → Type 0
  In = IsAlikeIn ground claim.hidden claim.Clean claim.Waits right.fits

  -- and on the way from a state to a state
  abbrev Leaves : (set from to : ℕ) → World → World → Type 0
  Leaves = Carries ground claim.hidden claim.Clean claim.Waits right.fits

  -- texts that are the same
  abbrev Texts : List ℕ → List ℕ → Type 0
  Texts = SameButValues claim.names

  -- the states that a run can come to
  abbrev reached : Table
  reached = holds_in (table_of c)

  -- as many copies as state sets
  sets-many : (f : ℕ → List Placed) (k : ℕ) (gs : List StateSetTree) → length (for_each_set f k gs) ≡ length gs
  sets-many f k [] = refl
  sets-many f k (x ∷ gs) = ap suc (sets-many f (k + 1) gs)

  -- so it is of the links
  as-many : length p.state_sets ≡ length ground.homes
  as-many = sym (length-map (placed_sets p 0 p.state_sets) (λ places. map (home_in places) ls) ∙ sets-many (placed_in p) 0 p.state_sets)

  -- the program without what it never reaches
  abbrev pub program : Program
  program = only_reached reached (program_meaning p ls waits)

  -- what runs keep, by states
  abbrev now-runs : AreAlikeInRuns (length p.state_sets) (λ n m. n ≡ m) Now In Leaves Texts
  now-runs = state-in-runs ground claim.hidden claim.Clean claim.Waits right.fits (length p.state_sets) some as-many

  -- and at the start
  abbrev always-runs : AreAlikeInRuns (length p.state_sets) (λ n m. n ≡ m) (IsAlike always) (λ set state. IsAlike always) NothingMore Texts
  always-runs = flow-in-runs always (length p.state_sets) some

  -- a world that waits
  to-always : (w u : World) → w.phase ≡ Waiting → Now w u → IsAlike always w u
  to-always w u waiting e = record {
    behind = right.fits.waits (e.stands.waits waiting);
    links = links-hidden ground (each_always claim.hidden) w e.links;
    outside = relisted claim.stale (hidden_in claim.hidden w) (each_always claim.hidden) w u
        (λ n k shows. inl (subst (λ (ps : List ℕ). has ps k ≡ false) (sym (place-at w.phase claim.hidden w.copies n))
        (subst (λ (phase : Live). has (places_by phase (places_for claim.hidden n) (copy_of n w).state) k ≡ false) (sym waiting)
        (subst (λ (ps : List ℕ). has ps k ≡ false) (always-at claim.hidden n) shows)))) e.outside;
  }

  -- what is the same but for that is so by states, where worlds may wait
  to-states : claim.Waits → (w u : World) → IsAlike always w u → Now w u
  to-states may w u e = record {
    stands = record { waits = λ is. may; clean = λ set. right.fits.starts may set (copy_of set w).state };
    links = links-shown ground (each_always claim.hidden) w e.links;
    outside = relisted claim.stale (each_always claim.hidden) (hidden_in claim.hidden w) w u
        (λ n k shows. inl (subst (λ (ps : List ℕ). has ps k ≡ false) (sym (always-at claim.hidden n))
        (less-open (places_by w.phase (places_for claim.hidden n) (copy_of n w).state) (places_for claim.hidden n).always k (by-wide claim.hidden right.fits.wide w.phase n (copy_of n w).state k)
        (subst (λ (ps : List ℕ). has ps k ≡ false) (place-at w.phase claim.hidden w.copies n) shows)))) e.outside;
  }

  -- outcomes
  weaker : {A : Type 0} (r t : Ran A) → claim.Waits → Alike claim.exempt (IsAlike always) Texts r t → Alike claim.exempt Now Texts r t
  weaker _ _ may (BothGive v w u a b e k) = BothGive v w u a b (to-states may w u e) k
  weaker _ _ may (BothFault fault line w u a b e k) = BothFault fault line w u a b (to-states may w u e) k
  weaker _ _ may (FirstLeftOut fault line w a r out) = FirstLeftOut fault line w a r out
  weaker _ _ may (SecondLeftOut fault line u b r out) = SecondLeftOut fault line u b r out
  weaker _ _ may (SecondWrote r t wrote) = SecondWrote r t wrote

  -- the start
  start-now : StartAgrees claim.exempt Now Texts program
  start-now w u waiting e =
      weaker _ _ (e.stands.waits waiting)
      (started-alike claim.exempt (length p.state_sets) (λ n m. n ≡ m) (IsAlike always) (λ set state. IsAlike always) NothingMore Texts always-runs AnyComes claim.Strays program
      (program-agrees claim.exempt Texts NoLines (texts-joined claim.names) (IsAlike always) (λ set state. IsAlike always) claim.Strays NothingMore p reached
      (pieces-always p ls c claim right) right.tells AnyComes ls waits
      (λ channel values link t x y may is k. received-keeps always (IsAlike always) (flow-stale always) channel values link t is x y k))
      (λ set low x y k. always-runs.enters set (copy_of set x).state 0 true low (inl refl) x y k tt) w u (to-always w u waiting e))

  -- what comes to links comes alike
  abbrev comes-now : KeepsStale ground Now
  comes-now = now-stale ground claim.hidden claim.Clean claim.Waits right.fits

  -- the program
  program-now : ProgramAgrees claim.exempt AnyComes Now In claim.Strays Leaves Texts (length p.state_sets) program
  program-now =
      program-agrees claim.exempt Texts NoLines (texts-joined claim.names) Now In claim.Strays Leaves p reached (pieces-now p ls c claim right) right.tells AnyComes ls waits
      (λ channel values link t x y may is k. received-keeps ground Now comes-now channel values link t is x y k)

  -- a line without what is never reached
  pub line-now : (budget ms : ℕ) (event : Event) (w u : World) → Now w u → Alike claim.exempt Now Texts (line_of program budget ms event w) (line_of program budget ms event u)
  line-now budget ms event w u e =
      line-alike claim.exempt (length p.state_sets) (λ n m. n ≡ m) Now In Leaves Texts now-runs AnyComes claim.Strays program program-now start-now budget ms ms refl event
      (any-comes event) w u e

  -- events that bring values of a channel of which all may differ
  stale-values : (event other : Event) → AreStaleValues ground event other → (w u : World) → Now w u → Now (applied program event w) (applied program other u)
  stale-values (Val channel values) (Val same others) is w u e =
      subst (λ (n : ℕ). Now (received program channel values.items w) (received program n others.items u)) is.0
      (values-keep ground Now comes-now channel values.items others.items is.1 w u e)
  stale-values _ _ is w u e = absurd is

  -- lines with them
  pub others-now : (budget ms : ℕ) (event other : Event) → AreStaleValues ground event other → (w u : World) → Now w u →
      Alike claim.exempt Now Texts (line_of program budget ms event w) (line_of program budget ms other u)
  others-now budget ms event other is w u e =
      lines-alike claim.exempt (length p.state_sets) (λ n m. n ≡ m) Now In Leaves Texts now-runs AnyComes claim.Strays program program-now start-now budget ms ms refl event other
      (stale-values event other is) w u e
