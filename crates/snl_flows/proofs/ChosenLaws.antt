-- The law of lines where the values of some channels are chosen: pieces come out alike from worlds in which the words of the other free channels
-- are hidden, as long as runs do not stray.
use Rattle.std.proofs.Common.{◌≡◌, ◌∙◌, ◌⊎◌, ◌+◌, ◌<◌, inl, inr, ⊎_elim, refl, sym, ap, subst, ℕ, zero, suc, pos, Bool, true, false, List, [], ◌∷◌, ◌++◌, None, Some, map}
use Rattle.std.specs.Prelude.{◌==◌, slice_get, slice_index_or}
use Rattle.std.proofs.lemmas.Bool.{eq-eqb, eqb-true, false≢true, or_cases}
use Rattle.snl_channels.specs.Links.{Link}
use Rattle.snl_flat.specs.declared.code.Code.{Code}
use Rattle.snl_flat.specs.declared.starts.Piece.{Piece}
use Rattle.snl_flat.specs.declared.starts.Piece.TheVariants.{ProgramEntry, ProgramExit, Entry, Exit, Condition, Block}
use Rattle.snl_flat.specs.Starts.{holds_in, table_of}
use Rattle.snl_load.specs.Meaning.{set_meaning}
use Rattle.snl_load.specs.Reached.{if_reached, set_reached, states_reached}
use Rattle.snl_machine.specs.Reached.{AreReached, IsIn}
use Rattle.snl_machine.specs.Snapshots.{CanBeIn}
use Rattle.snl_meaning.specs.declared.live.Live.{Live}
use Rattle.snl_meaning.specs.declared.live.Live.TheVariants.{Waiting, Running, Ended}
use Rattle.snl_meaning.specs.declared.ties.Tied.{Tied}
use Rattle.snl_meaning.specs.Frames.{room_in}
use Rattle.snl_meaning.specs.World.{World, copy_of}
use Rattle.snl_output.specs.Lines.{go_line}
use Rattle.snl_schedule.specs.Turn.{State, StateSet, no_state, state_name}
use Rattle.snl_syntax.specs.Programs.{ProgramTree, StateSetTree}
use Rattle.snl_alike.specs.Runs.{TellsStrays}
use Rattle.snl_flows.specs.Chosen.{AreChosen, AreChosenFlowsOf, IsSameByChoice, LinesFlowByChoice, Share, StrayLine, Strays, TellsStray, out_or_stray, with_more}
use Rattle.snl_flows.specs.Flows.{Covers, IsBetween, RunsIn, ground_of, set_of}
use Rattle.snl_flows.specs.Outside.{AreSameAt, IsSameOutside, Places, has, hidden_in, places_by, places_for, places_in, places_of}
use Rattle.snl_flows.proofs.ByState.{Fits, place-at, relisted}
use Rattle.snl_flows.proofs.Claims.{Claim, IsClaimed, Now}
use Rattle.snl_flows.proofs.LineLaws.{from-less, linked}
use Rattle.snl_flows.proofs.Lines.{line-now}
use Rattle.snl_flows.proofs.Links.{links-same}
use Rattle.snl_flows.proofs.Meets.{always-at, or-first, or-second}
use Rattle.snl_flows.proofs.Pieces.{CarriesOver, block-carries, each-flows, less-open}
use Rattle.snl_flows.proofs.Shares.{has-either, minus, minus-both, minus-has, with-more-either, with-more-has, without, without-always, without-both, without-has, without-many}

-- ---- states in which runs stray

-- what is not both is the other one
pub other-way : (b : Bool) → (b ≡ true → ⊥) → b ≡ false
other-way true never = absurd (never refl)
other-way false never = refl

-- A state strays by one of some words.
record StraysBy (others places words : List ℕ) : Type 0 where
  pub word : ℕ
  pub free : has words word ≡ true
  pub other : has others word ≡ false
  pub read : has places word ≡ false

-- It does not.
abbrev StraysNever : (others places words : List ℕ) → Type 0
StraysNever others places words = (k : ℕ) → has words k ≡ true → has others k ≡ false → has places k ≡ false → ⊥

-- it does or does not by the words behind one by which it does not
by-others : (others places : List ℕ) (x : ℕ) (words : List ℕ) → (has others x ≡ false → has places x ≡ false → ⊥) → StraysBy others places words ⊎ StraysNever others places words →
    StraysBy others places (x ∷ words) ⊎ StraysNever others places (x ∷ words)
by-others others places x words none rest =
    ⊎_elim
    (λ (found : StraysBy others places words). inl (record { word = found.word; free = or-second (x == found.word) (has words found.word) found.free; other = found.other; read = found.read }))
    (λ (never : StraysNever others places words).
    inr (λ k here other read.
    ⊎_elim
    (λ (is : (x == k) ≡ true).
    let same : k ≡ x = sym (eqb-true x k is) in
    none (subst (λ (n : ℕ). has others n ≡ false) same other) (subst (λ (n : ℕ). has places n ≡ false) same read))
    (λ (more : has words k ≡ true). never k more other read) (or_cases (x == k) (has words k) here))) rest

-- it does or does not
by-word : (others places words : List ℕ) → StraysBy others places words ⊎ StraysNever others places words
by-word others places [] = inr (λ k here other read. false≢true here)
by-word others places (x ∷ words) = by (has others x) (has places x) refl refl (by-word others places words)
  where
    by : (a b : Bool) → has others x ≡ a → has places x ≡ b → StraysBy others places words ⊎ StraysNever others places words →
        StraysBy others places (x ∷ words) ⊎ StraysNever others places (x ∷ words)
    by true b is other rest = by-others others places x words (λ none read. false≢true (sym none ∙ is)) rest
    by false true is other rest = by-others others places x words (λ none read. false≢true (sym read ∙ other)) rest
    by false false is other rest = inl (record { word = x; free = or-first (x == x) (has words x) (eq-eqb x x refl); other = is; read = other })

-- ---- the line of a transition

-- a state has its name, whether it is reached or not
name-if : (b : Bool) (q : State) → (if_reached b q).name ≡ q.name
name-if true q = refl
name-if false q = refl

-- so do all of them
name-of : (is : ℕ → Bool) (k : ℕ) (qs : List State) (n : ℕ) → (slice_index_or (states_reached is k qs) n no_state).name ≡ (slice_index_or qs n no_state).name
name-of is k [] n = refl
name-of is k (q ∷ qs) zero = name-if (is k) q
name-of is k (q ∷ qs) (suc n) = name-of is (k + 1) qs n

-- ---- worlds

-- what is hidden in a world that does not wait
hidden-by : (phase : Live) → (phase ≡ Waiting → ⊥) → (s : Places) (state : ℕ) → places_by phase s state ≡ places_in s state
hidden-by Waiting runs s state = absurd (runs refl)
hidden-by Running runs s state = refl
hidden-by Ended runs s state = refl

-- of a state set
pub hidden-at : (rows : List Places) (w : World) → (w.phase ≡ Waiting → ⊥) → (set : ℕ) → places_of (hidden_in rows w) set ≡ places_in (places_for rows set) (copy_of set w).state
hidden-at rows w runs set = place-at w.phase rows w.copies set ∙ hidden-by w.phase runs (places_for rows set) (copy_of set w).state

-- other buffers may be stale
pub restaled : (rows : List (List ℕ)) (xs ys : List ℕ) (w u : World) →
    ((k : ℕ) → has ys k ≡ false → (has xs k ≡ false) ⊎ (slice_index_or w.buffers k (pos 0) ≡ slice_index_or u.buffers k (pos 0))) →
    IsSameOutside rows xs w u → IsSameOutside rows ys w u
restaled rows xs ys w u less e = record {
  same = e.same;
  long = e.long;
  count = e.count;
  copies = e.copies;
  buffers = record { long = e.buffers.long; at = λ k fresh. ⊎_elim (λ free. e.buffers.at k free) (λ same. same) (less k fresh) };
}

-- ---- a program

module _ (p : ProgramTree) (ls : List Link) (c : Code) (hidden : List Places) (stale lines : List ℕ) (names : List (List ℕ)) (free chosen : Share)
    (right : AreChosenFlowsOf p ls c hidden stale lines names free) (choice : AreChosen (ground_of p ls c [] stale lines names) free chosen) where
  -- what is hidden of two runs,
  abbrev left : List Places
  left = without hidden chosen.words

  -- and stale
  abbrev old : List ℕ
  old = minus (stale ++ free.buffers) chosen.buffers

  -- what runs from worlds are that are alike but for channels that are not chosen
  abbrev claim : Claim
  claim = record {
    hidden = left;
    stale = old;
    lines = lines;
    names = names;
    exempt = out_or_stray p hidden free chosen lines;
    Strays = Strays hidden free chosen;
    Clean = λ set state. Strays hidden free chosen set state → ⊥;
    Waits = ⊥;
  }

  -- no chosen word is hidden in each state
  chosen-shown : (set k : ℕ) → has (places_of chosen.words set) k ≡ true → has (places_for hidden set).always k ≡ false
  chosen-shown set k here = right.are_free.shown set k (choice.words set k here)

  -- a word that is so is none of them
  always-other : (set k : ℕ) → has (places_for hidden set).always k ≡ true → has (places_of chosen.words set) k ≡ false
  always-other set k here = other-way (has (places_of chosen.words set) k) (λ is. false≢true (sym (chosen-shown set k is) ∙ here))

  -- what is left is hidden, and no chosen word
  left-both : (set state k : ℕ) → has (places_in (places_for left set) state) k ≡ true →
      (has (places_in (places_for hidden set) state) k ≡ true) × (has (places_of chosen.words set) k ≡ false)
  left-both set state k here = without-both hidden chosen.words set state k (chosen-shown set k) here

  -- what is hidden in each state is left in every one
  left-wide : (set state k : ℕ) → has (places_for left set).always k ≡ true → has (places_in (places_for left set) state) k ≡ true
  left-wide set state k here =
      let always : has (places_for hidden set).always k ≡ true = subst (λ (ps : List ℕ). has ps k ≡ true) (without-always hidden chosen.words set) here in
      without-has hidden chosen.words set state k (right.wide set state k always) (always-other set k always)

  -- free words of no chosen channel are hidden where runs do not stray
  other-hidden : (set state k : ℕ) → (Strays hidden free chosen set state → ⊥) → has (places_of free.words set) k ≡ true → has (places_of chosen.words set) k ≡ false →
      has (places_in (places_for hidden set) state) k ≡ true
  other-hidden set state k clean is other = by (has (places_in (places_for hidden set) state) k) refl
    where
      by : (b : Bool) → has (places_in (places_for hidden set) state) k ≡ b → has (places_in (places_for hidden set) state) k ≡ true
      by true here = here
      by false read = absurd (clean (record { word = k; is_free = is; other = other; read = read }))

  -- what may differ of buffers comes to what is left
  left-hides : (set state link e home : ℕ) (t : Tied) → (Strays hidden free chosen set state → ⊥) → slice_get (ground_of p ls c [] old lines names).ties link ≡ Some t →
      slice_index_or (slice_index_or (ground_of p ls c [] old lines names).homes set []) link None ≡ Some home → e < t.count → has old (t.from + e) ≡ true →
      has (places_in (places_for left set) state) (home + e) ≡ true
  left-hides set state link e home t clean at begins low may =
      let both = minus-both (stale ++ free.buffers) chosen.buffers (t.from + e) may in
      ⊎_elim
      (λ (plain : has stale (t.from + e) ≡ true).
      let always : has (places_for hidden set).always (home + e) ≡ true = subst (λ (ps : List ℕ). has ps (home + e) ≡ true) (always-at hidden set)
      (right.behind.hides set link e home t at begins low plain) in
      without-has hidden chosen.words set state (home + e) (right.wide set state (home + e) always) (always-other set (home + e) always))
      (λ (buffer : has free.buffers (t.from + e) ≡ true).
      let word : has (places_of free.words set) (home + e) ≡ true = right.are_free.comes set link e home t at begins low buffer in
      let other : has (places_of chosen.words set) (home + e) ≡ false = other-way (has (places_of chosen.words set) (home + e))
      (λ is. false≢true (sym both.1 ∙ choice.comes set link e home t at begins low is)) in
      without-has hidden chosen.words set state (home + e) (other-hidden set state (home + e) clean word other) other) (has-either stale free.buffers (t.from + e) both.0)

  -- it is what is hidden by state
  left-fits : Fits (ground_of p ls c [] old lines names) left (λ set state. Strays hidden free chosen set state → ⊥) ⊥
  left-fits = record {
    wide = left-wide;
    hides = left-hides;
    queued = λ link e t at some low.
        other-way (has old (t.from + e))
        (λ may. ⊎_elim (λ (plain : has stale (t.from + e) ≡ true). false≢true (sym (right.behind.queued link e t at some low) ∙ plain))
        (λ (buffer : has free.buffers (t.from + e) ≡ true). false≢true (sym (right.are_free.queueless link e t at some low) ∙ buffer))
        (has-either stale free.buffers (t.from + e) (minus-both (stale ++ free.buffers) chosen.buffers (t.from + e) may).0));
    waits = λ may. absurd may;
    starts = λ may set state. absurd may;
  }

  -- ---- pieces

  -- a piece runs in the same states
  runs-left : (name : Piece) (state : ℕ) → RunsIn left name state → RunsIn hidden name state
  runs-left (Entry set s) state is = is
  runs-left (Exit set s) state is = is
  runs-left (Condition set s k) state is = is
  runs-left (Block set s k) state is = is
  runs-left ProgramEntry state is = subst (λ (n : ℕ). state < n) (without-many hidden chosen.words 0) is
  runs-left ProgramExit state is = subst (λ (n : ℕ). state < n) (without-many hidden chosen.words 0) is

  -- what is between what is left is between what is hidden
  between-left : (set state : ℕ) (places : List ℕ) → IsBetween (places_for left set) state places → IsBetween (places_for hidden set) state places
  between-left set state places between = record {
    low = λ k here. between.low k (subst (λ (ps : List ℕ). has ps k ≡ true) (sym (without-always hidden chosen.words set)) here);
    high = λ k here. (left-both set state k (between.high k here)).0;
  }

  -- behind a block a run strays, or all that is left in its state alone is the same
  goes-on : (set from : ℕ) (known : List ℕ) (to : ℕ) (w u : World) → Covers (places_for (with_more hidden free.words) set) from to known → AreSameAt set known w u →
      Strays hidden free chosen set to ⊎ (CarriesOver left set from to w u × (Strays hidden free chosen set to → ⊥))
  goes-on set from known to w u covers same =
      ⊎_elim (λ (found : StraysBy (places_of chosen.words set) (places_in (places_for hidden set) to) (places_of free.words set)).
      inl (record { word = found.word; is_free = found.free; other = found.other; read = found.read }))
      (λ (never : StraysNever (places_of chosen.words set) (places_in (places_for hidden set) to) (places_of free.words set)).
      let clean : Strays hidden free chosen set to → ⊥ = λ s. never s.word s.is_free s.other s.read in
      inr ((λ k here shows. same k (carried k clean (left-both set from k here) shows)), clean))
      (by-word (places_of chosen.words set) (places_in (places_for hidden set) to) (places_of free.words set))
    where
      -- a word that is hidden no more is known
      carried : (k : ℕ) → (Strays hidden free chosen set to → ⊥) → (has (places_in (places_for hidden set) from) k ≡ true) × (has (places_of chosen.words set) k ≡ false) →
          has (places_in (places_for left set) to) k ≡ false → has known k ≡ true
      carried k clean both shows =
          covers k (with-more-has hidden free.words set from k both.0)
          (other-way (has (places_in (places_for (with_more hidden free.words) set) to) k)
          (λ here. ⊎_elim (λ (still : has (places_in (places_for hidden set) to) k ≡ true). false≢true (sym shows ∙ without-has hidden chosen.words set to k still both.1))
          (λ (is : has (places_of free.words set) k ≡ true).
          false≢true (sym shows ∙ without-has hidden chosen.words set to k (other-hidden set to k clean is both.1) both.1)) (with-more-either hidden free.words set to k here)))

  -- the line of a transition into a state in which runs stray
  tells : (set : ℕ) (g : StateSetTree) → slice_get p.state_sets set ≡ Some g →
      TellsStrays (out_or_stray p hidden free chosen lines) (Strays hidden free chosen) (set_reached (holds_in (table_of c)) (set_meaning p set g))
  tells set g at from to ms stray =
      let s : StateSet = set_meaning p set g in
      let name : (n : ℕ) → state_name (set_reached (holds_in (table_of c)) s) n ≡ state_name s n = λ n. name-of (holds_in (table_of c) set) 0 s.states n in
      subst (λ (a : List ℕ). TellsStray p (Strays hidden free chosen) (go_line ms s.name a (state_name (set_reached (holds_in (table_of c)) s) to))) (sym (name from))
      (subst (λ (b : List ℕ). TellsStray p (Strays hidden free chosen) (go_line ms s.name (state_name s from) b)) (sym (name to)) (StrayLine set from to ms g at stray))

  -- all of the program
  is-claimed : IsClaimed p ls c claim
  is-claimed = record {
    code = right.code;
    fits = left-fits;
    some = subst (λ (n : ℕ). 0 < n) (sym (without-many hidden chosen.words 0)) right.some;
    out = λ fault line is. is;
    tells = tells;
    flows = λ name piece state places is runs between.
        each-flows p ls c hidden stale lines names free right old (λ k here. (minus-both (stale ++ free.buffers) chosen.buffers k here).0) name piece state places is
        (runs-left name state runs) (between-left (set_of piece) state (places_of places (set_of piece)) between);
    leads = λ set state k x places clause is between w u e.
        block-carries p ls c hidden stale lines names free right old (λ n here. (minus-both (stale ++ free.buffers) chosen.buffers n here).0) set state k x places
        (Strays hidden free chosen set) (λ to v z. CarriesOver left set state to v z × (Strays hidden free chosen set to → ⊥)) (goes-on set state) clause is
        (between-left set state (places_of places set) between) w u e;
  }

  -- ---- worlds

  -- what is hidden and no chosen word is left, in a world
  left-in : (w : World) → (w.phase ≡ Waiting → ⊥) → (set k : ℕ) → has (places_of (hidden_in left w) set) k ≡ false →
      (has (places_of (hidden_in hidden w) set) k ≡ false) ⊎ (has (places_of chosen.words set) k ≡ true)
  left-in w runs set k shows = by (has (places_of chosen.words set) k) refl
    where
      by : (b : Bool) → has (places_of chosen.words set) k ≡ b → (has (places_of (hidden_in hidden w) set) k ≡ false) ⊎ (has (places_of chosen.words set) k ≡ true)
      by true is = inr is
      by false other = inl (other-way (has (places_of (hidden_in hidden w) set) k) (λ here.
          false≢true (sym shows ∙ ap (λ (ps : List ℕ). has ps k) (hidden-at left w runs set) ∙ without-has hidden chosen.words set (copy_of set w).state k
          (subst (λ (ps : List ℕ). has ps k ≡ true) (hidden-at hidden w runs set) here) other)))

  -- and what is left is hidden, and no chosen word
  in-left : (w : World) → (w.phase ≡ Waiting → ⊥) → (set k : ℕ) → has (places_of (hidden_in left w) set) k ≡ true →
      (has (places_of (hidden_in hidden w) set) k ≡ true) × (has (places_of chosen.words set) k ≡ false)
  in-left w runs set k here =
      let both = left-both set (copy_of set w).state k (subst (λ (ps : List ℕ). has ps k ≡ true) (hidden-at left w runs set) here) in
      (subst (λ (ps : List ℕ). has ps k ≡ true) (sym (hidden-at hidden w runs set)) both.0, both.1)

  -- a buffer that is fresh is so without the chosen ones, or is one
  old-in : (k : ℕ) → has old k ≡ false → (has (stale ++ free.buffers) k ≡ false) ⊎ (has chosen.buffers k ≡ true)
  old-in k fresh = by (has chosen.buffers k) refl
    where
      by : (b : Bool) → has chosen.buffers k ≡ b → (has (stale ++ free.buffers) k ≡ false) ⊎ (has chosen.buffers k ≡ true)
      by true is = inr is
      by false other = inl (other-way (has (stale ++ free.buffers) k) (λ here. false≢true (sym fresh ∙ minus-has (stale ++ free.buffers) chosen.buffers k here other)))

  -- two worlds that are alike, in the second of which a machine can be
  to-claim : (w u : World) → CanBeIn p ls c u → IsSameByChoice hidden stale free chosen w u → Now p ls c claim is-claimed w u
  to-claim w u can s = record {
    stands = record { waits = s.runs; clean = s.within };
    links = links-same (ground_of p ls c [] old lines names) u w (ap (λ (v : World). v.channels) s.outside.same) (ap (λ (v : World). v.ties) s.outside.same)
        (ap (λ (v : World). v.homes) s.outside.same) (ap (λ (v : World). map room_in v.queues) s.outside.same) s.outside.count (linked p ls c claim is-claimed u can);
    outside = restaled (hidden_in left w) (stale ++ free.buffers) old w u (λ k fresh. ⊎_elim (λ free. inl free) (λ is. inr (s.buffers k is)) (old-in k fresh))
        (relisted (stale ++ free.buffers) (hidden_in hidden w) (hidden_in left w) w u
        (λ n k shows. ⊎_elim (λ free. inl free) (λ is. inr (s.words n k is)) (left-in w s.runs n k shows)) s.outside);
  }

  -- its states are those that a run can come to in the first one, too
  reached-first : (w u : World) → AreReached p (holds_in (table_of c)) u → IsSameByChoice hidden stale free chosen w u → AreReached p (holds_in (table_of c)) w
  reached-first w u there s going set =
      subst (IsIn p (holds_in (table_of c)) set) (sym (s.outside.copies set).state) (there (λ ended. going (ap (λ (v : World). v.phase) s.outside.same ∙ ended)) set)

  -- and back
  from-claim : (w u : World) → Now p ls c claim is-claimed w u → IsSameByChoice hidden stale free chosen w u
  from-claim w u e = record {
    runs = e.stands.waits;
    outside = restaled (hidden_in hidden w) old (stale ++ free.buffers) w u
        (λ k fresh. inl (less-open (stale ++ free.buffers) old k (λ here. (minus-both (stale ++ free.buffers) chosen.buffers k here).0) fresh))
        (relisted old (hidden_in left w) (hidden_in hidden w) w u
        (λ n k shows. inl (less-open (places_of (hidden_in hidden w) n) (places_of (hidden_in left w) n) k (λ here. (in-left w e.stands.waits n k here).0) shows)) e.outside);
    words = λ set k is.
        (e.outside.copies set).at k (other-way (has (places_of (hidden_in left w) set) k) (λ here. false≢true (sym (in-left w e.stands.waits set k here).1 ∙ is)));
    buffers = λ k is. e.outside.buffers.at k (other-way (has old k) (λ here. false≢true (sym (minus-both (stale ++ free.buffers) chosen.buffers k here).1 ∙ is)));
    within = e.stands.clean;
  }

-- the law
pub lines_flow_by_choice : LinesFlowByChoice
lines_flow_by_choice p ls c hidden stale lines names free chosen waits budget ms event w u right choice some can s =
    let here = claim p ls c hidden stale lines names free chosen right choice in
    let is = is-claimed p ls c hidden stale lines names free chosen right choice in
    let e = to-claim p ls c hidden stale lines names free chosen right choice w u can s in
    from-less p ls c here is (IsSameByChoice hidden stale free chosen) (from-claim p ls c hidden stale lines names free chosen right choice) waits budget ms event event w u
    (reached-first p ls c hidden stale lines names free chosen right choice w u can.reached s) e.outside
    (line-now p ls c here is waits some budget ms event w u e)
