-- The laws of lines: they come out alike from worlds in the first of which a machine of the program can be.
use Rattle.std.proofs.Common.{◌≡◌, ◌∙◌, ◌+◌, refl, sym, ap, subst, ℕ, suc, Bool, List, [], ◌∷◌, length, map, ◌⊎◌, inr, true}
use Rattle.std.proofs.lemmas.List.{length-map}
use Rattle.snl_channels.specs.Links.{Link}
use Rattle.snl_flat.specs.declared.code.Code.{Code}
use Rattle.snl_flat.specs.Copies.{held_sets}
use Rattle.snl_flat.specs.Heres.{for_each_set, placed_in}
use Rattle.snl_flat.specs.Starts.{holds_in, table_of}
use Rattle.snl_load.specs.Meaning.{program_meaning}
use Rattle.snl_load.specs.Places.{home_in, placed_sets}
use Rattle.snl_load.specs.Reached.{only_reached}
use Rattle.snl_machine.specs.Reached.{AreReached, IsIn}
use Rattle.snl_machine.specs.Snapshots.{CanBeIn}
use Rattle.snl_machine.proofs.Reached.{reached_are_closed, unreached_do_nothing}
use Rattle.snl_meaning.specs.declared.live.Live.{Live}
use Rattle.snl_meaning.specs.Frames.{Frame}
use Rattle.snl_meaning.specs.declared.names.Placed.{Placed}
use Rattle.snl_meaning.specs.Names.{words_of}
use Rattle.snl_meaning.specs.Ran.{Ran}
use Rattle.snl_meaning.specs.World.{SetMemory, World}
use Rattle.snl_names.specs.Variables.{CopyVariable, variables_of}
use Rattle.snl_schedule.specs.declared.events.Event.{Event}
use Rattle.snl_schedule.specs.Event.{line_of}
use Rattle.snl_syntax.specs.Programs.{ProgramTree, StateSetTree}
use Rattle.snl_alike.specs.TwoRuns.{Alike, BothGive, BothFault, FirstLeftOut, SecondLeftOut, SecondWrote}
use Rattle.snl_flows.specs.Flows.{AreFlowsOf, EventsFlow, LinesFlow, Covers}
use Rattle.snl_flows.specs.LeftOut.{left_out}
use Rattle.snl_flows.specs.Outside.{IsSameByState, Places, AreSameAt, has, places_for}
use Rattle.snl_flows.specs.Tables.{HasLinks}
use Rattle.snl_flows.specs.Texts.{SameButValues}
use Rattle.snl_alike.specs.Runs.{NoStray}
use Rattle.snl_flows.specs.Chosen.{no_share, with_more}
use Rattle.snl_flows.proofs.Claims.{Claim, IsClaimed, Now, ground_by}
use Rattle.snl_flows.proofs.Lines.{line-now, others-now}
use Rattle.snl_flows.proofs.Meets.{always-at}
use Rattle.snl_flows.proofs.Pieces.{CarriesOver, block-carries, each-flows, none-fewer, none-free, none-more}

module _ (p : ProgramTree) (ls : List Link) (c : Code) (claim : Claim) (right : IsClaimed p ls c claim) where
  -- worlds that are alike,
  abbrev Alikes : World → World → Type 0
  Alikes = Now p ls c claim right

  -- and texts
  abbrev Texts : List ℕ → List ℕ → Type 0
  Texts = SameButValues claim.names

  -- what is known of two worlds is let go
  let-go : {A : Type 0} (E : World → World → Type 0) → ((w u : World) → Alikes w u → E w u) → (r t : Ran A) → Alike claim.exempt Alikes Texts r t → Alike claim.exempt E Texts r t
  let-go E less _ _ (BothGive v w u a b e k) = BothGive v w u a b (less w u e) k
  let-go E less _ _ (BothFault fault line w u a b e k) = BothFault fault line w u a b (less w u e) k
  let-go E less _ _ (FirstLeftOut fault line w a r out) = FirstLeftOut fault line w a r out
  let-go E less _ _ (SecondLeftOut fault line u b r out) = SecondLeftOut fault line u b r out
  let-go E less _ _ (SecondWrote r t wrote) = SecondWrote r t wrote

  -- states that a run can come to are so in the second world, too
  reached-in-both : (w u : World) → IsSameByState claim.hidden claim.stale w u → AreReached p (holds_in (table_of c)) w → AreReached p (holds_in (table_of c)) u
  reached-in-both w u e at going set = subst (IsIn p (holds_in (table_of c)) set) (e.copies set).state (at (λ ended. going (sym (ap (λ (v : World). v.phase) e.same) ∙ ended)) set)

  -- in the first world a machine of the program can be
  pub linked : (w : World) → CanBeIn p ls c w → HasLinks (ground_by p ls c claim []) w
  linked w can = record {
    channels = ap (λ (r : Frame). r.channels) can.world_is.frame_is;
    ties = ap (λ (r : Frame). r.ties) can.world_is.frame_is;
    homes = ap (λ (r : Frame). r.homes) can.world_is.frame_is;
    rooms = ap (λ (r : Frame). r.queues) can.world_is.frame_is;
    many = sym (length-map w.copies (λ (x : SetMemory). length x.words)) ∙ ap (λ (r : Frame). length r.words) can.world_is.frame_is
        ∙ length-map (held_sets p 0 p.state_sets) words_of ∙ held-many (variables_of p) 0 p.state_sets
        ∙ sym (length-map (placed_sets p 0 p.state_sets) (λ places. map (home_in places) ls) ∙ placed-many (placed_in p) 0 p.state_sets);
  }
    where
      held-many : (f : ℕ → List CopyVariable) (k : ℕ) (gs : List StateSetTree) → length (for_each_set f k gs) ≡ length gs
      held-many f k [] = refl
      held-many f k (x ∷ gs) = ap suc (held-many f (k + 1) gs)

      placed-many : (f : ℕ → List Placed) (k : ℕ) (gs : List StateSetTree) → length (for_each_set f k gs) ≡ length gs
      placed-many f k [] = refl
      placed-many f k (x ∷ gs) = ap suc (placed-many f (k + 1) gs)

  -- a line of the program is one of the program without what it never reaches
  pub from-less : (E : World → World → Type 0) → ((w u : World) → Alikes w u → E w u) → (waits : Bool) (budget ms : ℕ) (event other : Event) (w u : World) →
      AreReached p (holds_in (table_of c)) w → IsSameByState claim.hidden claim.stale w u →
      Alike claim.exempt Alikes Texts (line_of (only_reached (holds_in (table_of c)) (program_meaning p ls waits)) budget ms event w)
      (line_of (only_reached (holds_in (table_of c)) (program_meaning p ls waits)) budget ms other u) →
      Alike claim.exempt E Texts (line_of (program_meaning p ls waits) budget ms event w) (line_of (program_meaning p ls waits) budget ms other u)
  from-less E more waits budget ms event other w u here e both =
      let reached = holds_in (table_of c) in
      let closed = reached_are_closed p reached right.code.reached in
      let there : AreReached p reached u = reached-in-both w u e here in
      let less : Event → World → Ran Live = λ event x. line_of (only_reached reached (program_meaning p ls waits)) budget ms event x in
      subst (λ (r : Ran Live). Alike claim.exempt E Texts r (line_of (program_meaning p ls waits) budget ms other u))
      (unreached_do_nothing p ls waits reached budget ms event w closed here)
      (subst (λ (r : Ran Live). Alike claim.exempt E Texts (less event w) r)
      (unreached_do_nothing p ls waits reached budget ms other u closed there)
      (let-go E more (less event w) (less other u) both))

-- ---- with no free channel

module _ (p : ProgramTree) (ls : List Link) (c : Code) (hidden : List Places) (stale lines : List ℕ) (names : List (List ℕ)) (right : AreFlowsOf p ls c hidden stale lines names) where
  -- runs stray nowhere, each state is clean, and worlds may wait
  abbrev plain : Claim
  plain = record {
    hidden = hidden;
    stale = stale;
    lines = lines;
    names = names;
    exempt = left_out lines;
    Strays = NoStray;
    Clean = λ set state. Unit {0};
    Waits = Unit {0};
  }

  -- all that is hidden in a state alone is the same wherever its block leads
  goes-on : (set from : ℕ) (known : List ℕ) (to : ℕ) (w u : World) → Covers (places_for (with_more hidden []) set) from to known → AreSameAt set known w u →
      NoStray set to ⊎ (CarriesOver hidden set from to w u × Unit {0})
  goes-on set from known to w u covers same =
      let all : Covers (places_for hidden set) from to known = subst (λ (more : List Places). Covers (places_for more set) from to known) (none-more hidden) covers in
      inr ((λ k here shows. same k (all k here shows)), tt)

  -- it is so of the program
  plain-right : IsClaimed p ls c plain
  plain-right = record {
    code = right.code;
    fits = record {
      wide = right.wide;
      hides = λ set state link e home t clean at begins low old.
          right.wide set state (home + e) (subst (λ (ps : List ℕ). has ps (home + e) ≡ true) (always-at hidden set) (right.behind.hides set link e home t at begins low old));
      queued = right.behind.queued;
      waits = λ may. right.behind;
      starts = λ may set state. tt;
    };
    some = right.some;
    out = λ fault line is. is;
    tells = λ set g at from to ms never. absurd never;
    flows = each-flows p ls c hidden stale lines names no_share (none-free p ls c hidden stale lines names right) stale (none-fewer p ls c hidden stale lines names right);
    leads = λ set state k x places clause is between w u e.
        block-carries p ls c hidden stale lines names no_share (none-free p ls c hidden stale lines names right) stale (none-fewer p ls c hidden stale lines names right) set state k x places
        (NoStray set) (λ to v z. CarriesOver hidden set state to v z × Unit {0}) (goes-on set state) clause is between w u e;
  }

  -- two worlds are alike, where a machine can be in the first one
  plain-now : (w u : World) → CanBeIn p ls c w → IsSameByState hidden stale w u → Now p ls c plain plain-right w u
  plain-now w u can e = record { stands = record { waits = λ is. tt; clean = λ set. tt }; links = linked p ls c plain plain-right w can; outside = e }

-- the law of lines with one event
pub lines_flow : LinesFlow
lines_flow p ls c hidden stale lines names waits budget ms event w u right some can e =
    let claim = plain p ls c hidden stale lines names right in
    let is = plain-right p ls c hidden stale lines names right in
    from-less p ls c claim is (IsSameByState hidden stale) (λ v z k. k.outside) waits budget ms event event w u can.reached e
    (line-now p ls c claim is waits some budget ms event w u (plain-now p ls c hidden stale lines names right w u can e))

-- and that of lines with other values
pub events_flow : EventsFlow
events_flow p ls c hidden stale lines names waits budget ms event other w u right some can e others =
    let claim = plain p ls c hidden stale lines names right in
    let is = plain-right p ls c hidden stale lines names right in
    from-less p ls c claim is (IsSameByState hidden stale) (λ v z k. k.outside) waits budget ms event other w u can.reached e
    (others-now p ls c claim is waits some budget ms event other others w u (plain-now p ls c hidden stale lines names right w u can e))
