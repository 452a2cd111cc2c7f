-- Where pieces of a program come out alike from worlds that are the same but for what is hidden in their states, they do so in runs.
use Rattle.std.proofs.Common.{◌≡◌, ◌∙◌, ◌⊎◌, ◌+◌, ◌<◌, inl, inr, ⊎_elim, refl, sym, ap, subst, arith, ℕ, pos, Bool, true, false, List, [], Option, None, Some, length}
use Rattle.std.specs.Prelude.{nat_lt, option_map, slice_get, slice_index_or}
use Rattle.std.proofs.lemmas.Bool.{false≢true, ltb-true, ltb-false}
use Rattle.snl_channels.specs.Links.{Link}
use Rattle.snl_flat.specs.declared.code.Code.{Code}
use Rattle.snl_flat.specs.declared.starts.Piece.{Piece}
use Rattle.snl_flat.specs.declared.starts.Piece.TheVariants.{ProgramEntry, ProgramExit, Entry, Exit, Condition, Block}
use Rattle.snl_flat.specs.Heres.{routines_in, scene_in}
use Rattle.snl_flat.specs.Pieces.{Test, Action, kept_piece, IsCodeOf, clause_at, PieceTree}
use Rattle.snl_flat.specs.Reached.{Table}
use Rattle.snl_flat.specs.Starts.{holds_in, table_of}
use Rattle.snl_load.specs.Meaning.{set_meaning, state_left_for, target_of}
use Rattle.snl_load.specs.Reached.{set_reached}
use Rattle.snl_machine.proofs.States.{pieces-stay}
use Rattle.snl_meaning.specs.declared.live.Live.{Live}
use Rattle.snl_meaning.specs.Effect.{block_effect, held_by}
use Rattle.snl_meaning.specs.Keeping.{world_after}
use Rattle.snl_meaning.specs.Ran.{Ran, Gives, Faults, then_do}
use Rattle.snl_meaning.specs.World.{World, copy_of, SetMemory}
use Rattle.snl_meaning.proofs.Frames.{pieces_keep_the_frame}
use Rattle.snl_meaning.proofs.Keeping.{pieces_keep_the_phase}
use Rattle.snl_schedule.specs.Turn.{target_by}
use Rattle.snl_syntax.specs.Expressions.{ExprTree}
use Rattle.snl_syntax.specs.Programs.{ProgramTree, StateSetTree, ClauseTree}
use Rattle.snl_syntax.specs.Statements.{BlockTree}
use Rattle.snl_alike.specs.Runs.{HoldsBehind, NothingMore, TellsStrays, GoesTo}
use Rattle.snl_alike.specs.TwoRuns.{Alike, BothGive, BothFault, FirstLeftOut, SecondLeftOut, SecondWrote, Exempt}
use Rattle.snl_alike.proofs.Programs.{nothing-behind, nothing-there}
use Rattle.snl_flows.specs.Flows.{IsAlike, IsBetween, RunsIn, ground_of, PieceFlows, set_of}
use Rattle.snl_flows.specs.LeftOut.{left_out, IsLeftOut}
use Rattle.snl_flows.specs.Outside.{Places, each_always, has, hidden_in, places_by, places_for, places_in, places_of}
use Rattle.snl_flows.specs.Tables.{AreBehind, Ground}
use Rattle.snl_flows.specs.Texts.{SameButValues, NoLines}
use Rattle.snl_flows.proofs.ByState.{AreInSame, IsAlikeIn, IsAlikeNow, back, by-wide, in-state, place-at, relisted, to-now, Carries, Fits, IsWide, Stands, behind-now}
use Rattle.snl_flows.proofs.Links.{links-hidden}
use Rattle.snl_flows.proofs.Meets.{always-at, beyond, meet, meet-both, meet-has, met, met-open, met-own}
use Rattle.snl_flows.proofs.Pieces.{CarriesOver, after-then, less-open, state-left-after}
use Rattle.snl_flows.proofs.Programs.{IsOf, PiecesAgree}
use Rattle.snl_flows.proofs.Runs.{many-by}
use Rattle.snl_flows.proofs.Texts.{texts-joined}
use Rattle.snl_meaning.specs.declared.faults.Fault.{Fault}
use Rattle.snl_schedule.specs.declared.plans.Destination.{Destination}
use Rattle.snl_schedule.specs.declared.plans.Destination.TheVariants as to

-- a piece of a state runs in it
runs-of : (hidden : List Places) (name : Piece) (state : ℕ) → IsOf name state → RunsIn hidden name state
runs-of hidden (Entry set s) state is = is
runs-of hidden (Exit set s) state is = is
runs-of hidden (Condition set s k) state is = is
runs-of hidden (Block set s k) state is = is
runs-of hidden ProgramEntry state is = absurd is
runs-of hidden ProgramExit state is = absurd is

-- ---- a program

-- What is claimed of two runs of a program: what is hidden, what is stale, which faults are charged to lines and left out, and which texts are
-- the same; what is exempt; states in which runs stray, those that are clean, and whether worlds may wait.
pub record Claim : Type 1 where
  pub hidden : List Places
  pub stale : List ℕ
  pub lines : List ℕ
  pub names : List (List ℕ)
  pub exempt : Exempt
  pub Strays : (set state : ℕ) → Type 0
  pub Clean : (set state : ℕ) → Type 0
  pub Waits : Type 0

-- What holds for all state sets of a program with such places.
abbrev pub ground_by : ProgramTree → List Link → Code → Claim → (places : List (List ℕ)) → Ground
ground_by p ls c s places = ground_of p ls c places s.stale s.lines s.names

-- Its pieces come out alike where at most that is hidden; behind the block of a clause a run strays, or it goes to a clean state, and what is
-- hidden in its state alone is the same.
pub record IsClaimed (p : ProgramTree) (ls : List Link) (c : Code) (s : Claim) : Type 0 where
  pub code : IsCodeOf p c
  pub fits : Fits (ground_by p ls c s []) s.hidden s.Clean s.Waits
  pub some : 0 < length (places_for s.hidden 0).states
  pub out : (fault : Fault) (line : ℕ) → IsLeftOut s.lines fault line → s.exempt.faults fault line
  pub tells : (set : ℕ) (g : StateSetTree) → slice_get p.state_sets set ≡ Some g → TellsStrays s.exempt s.Strays (set_reached (holds_in (table_of c)) (set_meaning p set g))
  pub flows : (name : Piece) (piece : PieceTree) (state : ℕ) (places : List (List ℕ)) → kept_piece (holds_in (table_of c)) p name ≡ Some piece → RunsIn s.hidden name state →
      IsBetween (places_for s.hidden (set_of piece)) state (places_of places (set_of piece)) → PieceFlows (ground_by p ls c s places) p piece
  pub leads : (set state k : ℕ) (x : ClauseTree) (places : List (List ℕ)) → clause_at p set state k ≡ Some x →
      kept_piece (holds_in (table_of c)) p (Block set state k) ≡ Some (Action set x.block) → IsBetween (places_for s.hidden set) state (places_of places set) → (w u : World) →
      IsAlike (ground_by p ls c s places) w u →
      HoldsBehind (λ left. GoesTo (s.Strays set) (λ to v z. CarriesOver s.hidden set state to v z × s.Clean set to) (target_by left (target_of (scene_in p set).here.states x.target)))
      (then_do (block_effect (scene_in p set) x.block w) state_left_for) (then_do (block_effect (scene_in p set) x.block u) state_left_for)

module _ (p : ProgramTree) (ls : List Link) (c : Code) (claim : Claim) (right : IsClaimed p ls c claim) where
  -- what holds for all state sets, where nothing is hidden
  abbrev pub ground : Ground
  ground = ground_by p ls c claim []

  -- what is hidden
  abbrev pub hidden : List Places
  hidden = claim.hidden

  -- so it is in each state
  abbrev pub wide : IsWide hidden
  wide = right.fits.wide

  -- two worlds that are the same but for what is hidden in their states,
  abbrev pub Now : World → World → Type 0
  Now = IsAlikeNow ground hidden claim.Clean claim.Waits right.fits

  -- while a state set is in a state,
  abbrev pub In : (set state : ℕ) → World → World → Type 0
  In = IsAlikeIn ground hidden claim.Clean claim.Waits right.fits

  -- on the way from a state to a state,
  abbrev pub Leaves : (set from to : ℕ) → World → World → Type 0
  Leaves = Carries ground hidden claim.Clean claim.Waits right.fits

  -- and but for what is hidden in each state
  abbrev pub always : Ground
  always = ground_by p ls c claim (each_always hidden)

  -- how far a program has come, and its states
  abbrev AreStanding : Live → List SetMemory → Type 0
  AreStanding = Stands ground hidden claim.Clean claim.Waits right.fits

  -- texts that are the same
  abbrev pub Texts : List ℕ → List ℕ → Type 0
  Texts = SameButValues claim.names

  -- what is exempt
  abbrev pub Out : Exempt
  Out = claim.exempt

  -- the states that a run can come to
  abbrev pub reached : Table
  reached = holds_in (table_of c)

  -- worlds that are alike are the same but for what is hidden then
  abbrev alike-now : (w u : World) → Now w u → IsAlike (record ground { hidden = hidden_in hidden w }) w u
  alike-now = to-now ground hidden claim.Clean claim.Waits right.fits

  -- and back
  abbrev back-now : (w x y : World) → AreStanding w.phase w.copies → x.phase ≡ w.phase → AreInSame x.copies w.copies →
      IsAlike (record ground { hidden = hidden_in hidden w }) x y → Now x y
  back-now = back ground hidden claim.Clean claim.Waits right.fits

  -- ---- what pieces keep

  -- How far the program has come, the states of state sets, and how many copies there are.
  record Keeps (w x : World) : Type 0 where
    pub phase : x.phase ≡ w.phase
    pub states : AreInSame x.copies w.copies
    pub many : length x.copies ≡ length w.copies

  -- a condition keeps them,
  test-keeps : (set : ℕ) (e : ExprTree) (w : World) → Keeps w (world_after (held_by (scene_in p set) (Some e) w))
  test-keeps set e w = record {
    phase = (pieces_keep_the_phase (routines_in p) (scene_in p set) refl).condition (Some e) w;
    states = (pieces-stay (λ n state. state ≡ (copy_of n w).state) p set).condition (Some e) w (λ n. refl);
    many = many-by w (world_after (held_by (scene_in p set) (Some e) w)) ((pieces_keep_the_frame (routines_in p) (scene_in p set) refl).condition (Some e) w);
  }

  -- and a block
  block-keeps : (set : ℕ) (b : BlockTree) (w : World) → Keeps w (world_after (then_do (block_effect (scene_in p set) b w) state_left_for))
  block-keeps set b w =
      subst (Keeps w) (sym (after-then (block_effect (scene_in p set) b w) state_left_for state-left-after)) (record {
        phase = (pieces_keep_the_phase (routines_in p) (scene_in p set) refl).block b w;
        states = (pieces-stay (λ n state. state ≡ (copy_of n w).state) p set).block b w (λ n. refl);
        many = many-by w (world_after (block_effect (scene_in p set) b w)) ((pieces_keep_the_frame (routines_in p) (scene_in p set) refl).block b w);
      })

  -- ---- outcomes

  -- what comes out alike where the same is hidden before and behind it
  settled-now : {A : Type 0} (w : World) (r t : Ran A) → AreStanding w.phase w.copies → Keeps w (world_after r) →
      Alike (left_out claim.lines) (IsAlike (record ground { hidden = hidden_in hidden w })) Texts r t → Alike Out Now Texts r t
  settled-now w _ _ stands keeps (BothGive v x y a b e k) = BothGive v x y a b (back-now w x y stands keeps.phase keeps.states e) k
  settled-now w _ _ stands keeps (BothFault fault line x y a b e k) = BothFault fault line x y a b (back-now w x y stands keeps.phase keeps.states e) k
  settled-now w _ _ stands keeps (FirstLeftOut fault line x a r out) = FirstLeftOut fault line x a r (right.out fault line out)
  settled-now w _ _ stands keeps (SecondLeftOut fault line y b r out) = SecondLeftOut fault line y b r (right.out fault line out)
  settled-now w _ _ stands keeps (SecondWrote r t never) = absurd never

  -- while a state set is in a state
  settled-in : {A : Type 0} (set state : ℕ) (w : World) (r t : Ran A) → (copy_of set w).state ≡ state → AreStanding w.phase w.copies → Keeps w (world_after r) →
      Alike (left_out claim.lines) (IsAlike (record ground { hidden = hidden_in hidden w })) Texts r t → Alike Out (In set state) Texts r t
  settled-in set state w _ _ is stands keeps (BothGive v x y a b e k) =
      BothGive v x y a b (record { alike = back-now w x y stands keeps.phase keeps.states e; is_in = keeps.states set ∙ is }) k
  settled-in set state w _ _ is stands keeps (BothFault fault line x y a b e k) =
      BothFault fault line x y a b (record { alike = back-now w x y stands keeps.phase keeps.states e; is_in = keeps.states set ∙ is }) k
  settled-in set state w _ _ is stands keeps (FirstLeftOut fault line x a r out) = FirstLeftOut fault line x a r (right.out fault line out)
  settled-in set state w _ _ is stands keeps (SecondLeftOut fault line y b r out) = SecondLeftOut fault line y b r (right.out fault line out)
  settled-in set state w _ _ is stands keeps (SecondWrote r t never) = absurd never

  -- at the start
  settled-always : {A : Type 0} (r t : Ran A) → Alike (left_out claim.lines) (IsAlike always) Texts r t → Alike Out (IsAlike always) Texts r t
  settled-always _ _ (BothGive v x y a b e k) = BothGive v x y a b e k
  settled-always _ _ (BothFault fault line x y a b e k) = BothFault fault line x y a b e k
  settled-always _ _ (FirstLeftOut fault line x a r out) = FirstLeftOut fault line x a r (right.out fault line out)
  settled-always _ _ (SecondLeftOut fault line y b r out) = SecondLeftOut fault line y b r (right.out fault line out)
  settled-always _ _ (SecondWrote r t never) = absurd never

  -- ---- pieces, by states

  -- what is hidden in a world is so in the state of a state set
  between : (set state : ℕ) (w : World) → (copy_of set w).state ≡ state → IsBetween (places_for hidden set) state (places_of (hidden_in hidden w) set)
  between set state w is =
      subst (IsBetween (places_for hidden set) state) (sym (place-at w.phase hidden w.copies set))
      (subst (λ (n : ℕ). IsBetween (places_for hidden set) state (places_by w.phase (places_for hidden set) n)) (sym is)
      (record { low = λ k here. by-wide hidden wide w.phase set state k here; high = λ k here. in-state hidden wide w.phase set state k here }))

  -- a state in which the blocks of the program can run, by the state of the first state set
  some-state : (w : World) → (state : ℕ) × (state < length (places_for hidden 0).states) × IsBetween (places_for hidden 0) state (places_of (hidden_in hidden w) 0)
  some-state w = by (nat_lt (copy_of 0 w).state (length (places_for hidden 0).states)) refl
    where
      s : Places
      s = places_for hidden 0

      outside : (phase : Live) (k : ℕ) → ((copy_of 0 w).state < length s.states → ⊥) → has (places_by phase s (copy_of 0 w).state) k ≡ true → has (places_in s 0) k ≡ true
      outside phase k out here =
          wide 0 0 k (subst (λ (ps : List ℕ). has ps k ≡ true) (beyond s.states (copy_of 0 w).state s.always out) (in-state hidden wide phase 0 (copy_of 0 w).state k here))

      by : (b : Bool) → nat_lt (copy_of 0 w).state (length s.states) ≡ b → (state : ℕ) × (state < length s.states) × IsBetween s state (places_of (hidden_in hidden w) 0)
      by true is = ((copy_of 0 w).state, ltb-true (copy_of 0 w).state (length s.states) is, between 0 (copy_of 0 w).state w refl)
      by false is =
          let above = ltb-false (copy_of 0 w).state (length s.states) is in (
            0,
            right.some,
            subst (IsBetween s 0) (sym (place-at w.phase hidden w.copies 0))
                (record { low = λ k here. by-wide hidden wide w.phase 0 (copy_of 0 w).state k here; high = λ k here. outside w.phase k (λ low. absurd (omega (arith, low, above))) here }),
          )

  -- behind an exit block all is the same that was so on the way to a state
  exit-carries : (set state to : ℕ) (b : BlockTree) → kept_piece reached p (Exit set state) ≡ Some (Action set b) → (w u : World) → In set state w u → Leaves set state to w u →
      HoldsBehind (λ _. Leaves set state to) (then_do (block_effect (scene_in p set) b w) state_left_for) (then_do (block_effect (scene_in p set) b u) state_left_for)
  exit-carries set state to b is w u e carries = by _ _ (right.flows (Exit set state) (Action set b) state less is refl within w u alike)
    where
      s : Places
      s = places_for hidden set

      held : List ℕ
      held = places_of (hidden_in hidden w) set

      less : List (List ℕ)
      less = met (hidden_in hidden w) set (places_in s to)

      inside : IsBetween s state held
      inside = between set state w e.is_in

      within : IsBetween s state (places_of less set)
      within = record {
        low = λ k here. met-own (hidden_in hidden w) set (places_in s to) k ∙ meet-has held (places_in s to) k (inside.low k here) (wide set to k here);
        high = λ k here. inside.high k (meet-both held (places_in s to) k (sym (met-own (hidden_in hidden w) set (places_in s to) k) ∙ here)).0;
      }

      same-there : (n k : ℕ) → has (places_of less n) k ≡ false →
          (has (places_of (hidden_in hidden w) n) k ≡ false) ⊎ (slice_index_or (copy_of n w).words k (pos 0) ≡ slice_index_or (copy_of n u).words k (pos 0))
      same-there n k shows =
          ⊎_elim (λ free. inl free)
          (λ (own : (n ≡ set) × (has held k ≡ true) × (has (places_in s to) k ≡ false)).
          inr (subst (λ (m : ℕ). slice_index_or (copy_of m w).words k (pos 0) ≡ slice_index_or (copy_of m u).words k (pos 0)) (sym own.0) (carries.over k (inside.high k own.1) own.2)))
          (met-open (hidden_in hidden w) set (places_in s to) n k shows)

      -- what is hidden in the world, and in the state that it leaves for, is so there
      covered : (n k : ℕ) → has (places_of (hidden_in hidden w) n) k ≡ true → (n ≡ set → has (places_in s to) k ≡ true) → (b : Bool) → has (places_of less n) k ≡ b → has (places_of less n) k ≡ true
      covered n k here there true is = is
      covered n k here there false shows =
          ⊎_elim (λ (free : has (places_of (hidden_in hidden w) n) k ≡ false). absurd (false≢true (sym free ∙ here)))
          (λ (own : (n ≡ set) × (has held k ≡ true) × (has (places_in s to) k ≡ false)). absurd (false≢true (sym own.2 ∙ there own.0)))
          (met-open (hidden_in hidden w) set (places_in s to) n k shows)

      behind : AreBehind (record ground { hidden = less })
      behind = record {
        hides = λ n link k home t at begins low old.
            covered n (home + k) ((behind-now ground hidden claim.Clean claim.Waits right.fits w e.alike.stands).hides n link k home t at begins low old)
            (λ (same : n ≡ set). right.fits.hides set to link k home t carries.clean at
            (subst (λ (m : ℕ). slice_index_or (slice_index_or ground.homes m []) link None ≡ Some home) same begins) low old)
            (has (places_of less n) (home + k)) refl;
        queued = right.fits.queued;
      }

      alike : IsAlike (record ground { hidden = less }) w u
      alike = record { behind = behind; links = links-hidden ground less w e.alike.links; outside = relisted claim.stale (hidden_in hidden w) less w u same-there e.alike.outside }

      by : (r t : Ran (Option ℕ)) → Alike (left_out claim.lines) (IsAlike (record ground { hidden = less })) Texts r t → HoldsBehind (λ _. Leaves set state to) r t
      by _ _ (BothGive v x y a d k t) = record {
        over = λ n here shows.
            (k.outside.copies set).at n
            (met-own (hidden_in hidden w) set (places_in s to) n ∙ less-open (places_in s to) (meet held (places_in s to)) n (λ h. (meet-both held (places_in s to) n h).1) shows);
        clean = carries.clean;
      }
      by _ _ (BothFault fault line x y a d k t) = tt
      by _ _ (FirstLeftOut fault line x a r out) = tt
      by (Gives v x a) _ (SecondLeftOut fault line y d r out) = tt
      by (Faults f l x a) _ (SecondLeftOut fault line y d r out) = tt
      by _ _ (SecondWrote r t never) = absurd never

  -- behind the block of a clause
  clause-carries : (set from : ℕ) (target : Destination) (r t : Ran (Option ℕ)) →
      HoldsBehind (λ left. GoesTo (claim.Strays set) (λ to v z. CarriesOver hidden set from to v z × claim.Clean set to) (target_by left target)) r t →
      HoldsBehind (λ left. GoesTo (claim.Strays set) (Leaves set from) (target_by left target)) r t
  clause-carries set from target (Gives v w a) (Gives z u b) h = by (target_by v target) h
    where
      by : (d : Destination) → GoesTo (claim.Strays set) (λ to x y. CarriesOver hidden set from to x y × claim.Clean set to) d w u → GoesTo (claim.Strays set) (Leaves set from) d w u
      by (to.State state) either = ⊎_elim (λ stray. inl stray) (λ both. inr (record { over = both.0; clean = both.1 })) either
      by to.Exit k = tt
  clause-carries set from target (Gives v w a) (Faults fault line u b) h = tt
  clause-carries set from target (Faults fault line w a) t h = tt

  -- all pieces
  pub pieces-now : PiecesAgree Out Texts NoLines (texts-joined claim.names) Now In claim.Strays Leaves p reached
  pieces-now = record {
    tests = λ set state name x of is w u e.
        settled-in set state w _ _ e.is_in e.alike.stands (test-keeps set x w)
        (right.flows name (Test set x) state (hidden_in hidden w) is (runs-of hidden name state of) (between set state w e.is_in) w u (alike-now w u e.alike));
    blocks = λ set state name b of is w u e.
        settled-in set state w _ _ e.is_in e.alike.stands (block-keeps set b w)
        (right.flows name (Action set b) state (hidden_in hidden w) is (runs-of hidden name state of) (between set state w e.is_in) w u (alike-now w u e.alike));
    own = λ b which w u e.
        let some = some-state w in
        settled-now w _ _ e.stands (block-keeps 0 b w)
        (⊎_elim
        (λ (entry : p.entry ≡ Some b). right.flows ProgramEntry (Action 0 b) some.0 (hidden_in hidden w) (ap (option_map (Action 0)) entry) some.1 some.2 w u (alike-now w u e))
        (λ (exit : p.exit ≡ Some b). right.flows ProgramExit (Action 0 b) some.0 (hidden_in hidden w) (ap (option_map (Action 0)) exit) some.1 some.2 w u (alike-now w u e))
        which);
    leads = λ set state k x clause is w u e.
        clause-carries set state (target_of (scene_in p set).here.states x.target) _ _
        (right.leads set state k x (hidden_in hidden w) clause is (between set state w e.is_in) w u (alike-now w u e.alike));
    keeps = λ set state to b is w u e l. exit-carries set state to b is w u e l;
  }

  -- ---- pieces at the start

  -- what is hidden in each state
  among : (set state : ℕ) → IsBetween (places_for hidden set) state (places_of (each_always hidden) set)
  among set state =
      subst (IsBetween (places_for hidden set) state) (sym (always-at hidden set)) (record { low = λ k here. here; high = λ k here. wide set state k here })

  -- all pieces
  pub pieces-always : PiecesAgree Out Texts NoLines (texts-joined claim.names) (IsAlike always) (λ set state. IsAlike always) claim.Strays NothingMore p reached
  pieces-always = record {
    tests = λ set state name x of is w u e.
        settled-always _ _ (right.flows name (Test set x) state (each_always hidden) is (runs-of hidden name state of) (among set state) w u e);
    blocks = λ set state name b of is w u e.
        settled-always _ _ (right.flows name (Action set b) state (each_always hidden) is (runs-of hidden name state of) (among set state) w u e);
    own = λ b which w u e.
        settled-always _ _
        (⊎_elim (λ (entry : p.entry ≡ Some b). right.flows ProgramEntry (Action 0 b) 0 (each_always hidden) (ap (option_map (Action 0)) entry) right.some (among 0 0) w u e)
        (λ (exit : p.exit ≡ Some b). right.flows ProgramExit (Action 0 b) 0 (each_always hidden) (ap (option_map (Action 0)) exit) right.some (among 0 0) w u e) which);
    leads = λ set state k x clause is w u e.
        nothing-behind {A = Option ℕ} (claim.Strays set) set state (λ left. target_by left (target_of (scene_in p set).here.states x.target))
        (then_do (block_effect (scene_in p set) x.block w) state_left_for) (then_do (block_effect (scene_in p set) x.block u) state_left_for);
    keeps = λ set state to b is w u e l. nothing-there set state to _ _;
  }
