-- What a run of code does from two worlds that are the same outside, where a table is right of the code.
use Rattle.std.proofs.Common.{◌≡◌, ◌∙◌, ◌*◌, ◌+◌, ◌-◌, ◌≤◌, ◌<◌, inl, inr, ⊎_elim, refl, sym, ap, subst, arith, ℕ, zero, suc, ℤ, Bool, true, false, List, [], ◌∷◌, ◌++◌, Option, None, Some, length, map, if◌then◌else◌}
use Rattle.std.specs.Prelude.{slice_get}
use Rattle.std.proofs.lemmas.List.{length-map}
use Rattle.snl_arithmetic.specs.Arithmetic.{is_zero}
use Rattle.snl_meaning.specs.declared.instrs.Instr.{Instr}
use Rattle.snl_meaning.specs.declared.instrs.Instr.TheVariants.{JumpIfZero}
use Rattle.snl_meaning.specs.Frames.{Frame, frame_of, room_in}
use Rattle.snl_meaning.specs.Keeping.{world_after}
use Rattle.snl_meaning.specs.Ran.{Ran, also, then_do}
use Rattle.snl_meaning.specs.Run.{PieceContext, with_returns, Step, done_by, step_of, Exit, Over, LeftFor, from_there, exec, credit, run_of}
use Rattle.snl_meaning.specs.World.{SetMemory, World}
use Rattle.snl_meaning.proofs.Frames.{steps_keep_the_frame}
use Rattle.snl_flows.specs.Fine.{IsFineAt}
use Rattle.snl_flows.specs.Outside.{AreSameAt, has, IsSameOutside}
use Rattle.snl_flows.specs.Quiet.{AreFine, ArePassed, IsPassed, IsQuietAt, height_at, join_at, others_on}
use Rattle.snl_flows.specs.Tables.{Operand, Facts, Flow, Ground, HasLinks, IsReached, below, facts_at, first_facts, said_at}
use Rattle.snl_flows.specs.Texts.{NoLines}
use Rattle.snl_flows.proofs.Instructions.{done-alike}
use Rattle.snl_flows.proofs.Joined.{same-back, same-joined}
use Rattle.snl_flows.proofs.Alone.{Firm, Still}
use Rattle.snl_flows.proofs.Operands.{HoldOf, no-more-of}
use Rattle.snl_flows.proofs.Outcomes.{AlikeTo, BothLead, BothStop, FirstStops, SecondStops, also-to, lead, left-to}
use Rattle.snl_flows.proofs.Quiet.{Arrives, Arrived, FailedThere, IsOver, arrives, over-also}
use Rattle.snl_flows.proofs.Steps.{After, AreBack, BothEnd, BothGo, BothGoOver, BothLeave, BothStick, Here, IsOfGround}
use Rattle.snl_flows.proofs.Texts.{prints-same}
use Rattle.snl_flows.proofs.Worlds.{SameOn, same-less, same-nowhere}

-- A piece is over, and words are the same, as a table says.
abbrev pub KnownBehind : Flow → (set : ℕ) → Exit → World → World → Type 0
KnownBehind f set (Over s) w u = AreSameAt set f.ends w u
KnownBehind f set (LeftFor state) w u = AreSameAt set f.leaves w u
KnownBehind f set _ w u = ⊥

-- Two runs come to the same exit, and their worlds are the same outside, and at words of which the table says so.
abbrev pub Ends : Ground → Flow → (set : ℕ) → Exit → Exit → World → World → Type 0
Ends g f set x y w u = (x ≡ y) × IsSameOutside g.hidden g.stale w u × KnownBehind f set x w u

-- a world with the frame of another one has as many copies
pub many-by : (w v : World) → frame_of v ≡ frame_of w → length v.copies ≡ length w.copies
many-by w v same =
    let size : SetMemory → ℕ = λ c. length c.words in
    sym (length-map v.copies size) ∙ ap (λ (r : Frame). length r.words) same ∙ length-map w.copies size

-- numbers of which nothing is known, on two stacks
others-hold : (many : ℕ) (xs ys s t : List ℤ) (os : List Operand) → length xs ≡ many → length ys ≡ many → HoldOf os s t → HoldOf (others_on many os) (xs ++ s) (ys ++ t)
others-hold zero [] [] s t os p q h = h
others-hold zero [] (y ∷ ys) s t os p q h = absurd (omega (arith, q))
others-hold zero (x ∷ xs) ys s t os p q h = absurd (omega (arith, p))
others-hold (suc many) [] ys s t os p q h = absurd (omega (arith, p))
others-hold (suc many) (x ∷ xs) [] s t os p q h = absurd (omega (arith, q))
others-hold (suc many) (x ∷ xs) (y ∷ ys) s t os p q h = (tt, others-hold many xs ys s t os (omega (arith, p)) (omega (arith, q)) h)

-- one step and then the rest of the run, where both runs come to an end
then-over : (g : Ground) (f : Flow) (set : ℕ) (F : Step → Step → World → World → Type 0) (r s : Ran Step) (go to : Step → World → Ran Exit) → AlikeTo g F r s →
    IsOver (then_do r go) → IsOver (then_do s to) →
    ((x y : Step) (w u : World) → F x y w u → IsOver (go x w) → IsOver (to y u) → AlikeTo g (Ends g f set) (go x w) (to y u)) → AlikeTo g (Ends g f set) (then_do r go) (then_do s to)
then-over g f set F _ _ go to (BothLead x y w u a b e t) over ends k =
    also-to g (Ends g f set) a b (go x w) (to y u) t (k x y w u e (over-also a (go x w) over) (over-also b (to y u) ends))
then-over g f set F _ _ go to (BothStop fault line w u a b e t) over ends k = BothStop fault line w u a b e t
then-over g f set F _ _ go to (FirstStops fault line w a s left) over ends k = FirstStops fault line w a (then_do s to) left
then-over g f set F _ _ go to (SecondStops fault line u b r left) over ends k = SecondStops fault line u b (then_do r go) left

module _ (g : Ground) (f : Flow) (set : ℕ) (code : List Instr) (fine : AreFine g set f code) where
  -- a world keeps its links
  links-stay : (w v : World) → frame_of v ≡ frame_of w → HasLinks g w → HasLinks g v
  links-stay w v same links = record {
    channels = ap (λ (r : Frame). r.channels) same ∙ links.channels;
    ties = ap (λ (r : Frame). r.ties) same ∙ links.ties;
    homes = ap (λ (r : Frame). r.homes) same ∙ links.homes;
    rooms = ap (λ (r : Frame). r.queues) same ∙ links.rooms;
    many = many-by w v same ∙ links.many;
  }

  -- so does one where all is the same but words that may differ
  links-still : (w v : World) → Still g f set w v → HasLinks g w → HasLinks g v
  links-still w v still links = record {
    channels = sym (ap (λ (x : World). x.channels) still.same) ∙ links.channels;
    ties = sym (ap (λ (x : World). x.ties) still.same) ∙ links.ties;
    homes = sym (ap (λ (x : World). x.homes) still.same) ∙ links.homes;
    rooms = sym (ap (λ (x : World). map room_in x.queues) still.same) ∙ links.rooms;
    many = sym still.count ∙ links.many;
  }

  -- ---- one step

  -- an instruction that does the same in both
  step-alike : (c : PieceContext) → c.set ≡ set → IsOfGround g c → AreBack f c.returns → (i : Instr) (at : ℕ) → IsFineAt g set f at i → (s t : List ℤ) (w u : World) → HasLinks g w →
      HoldOf (facts_at f at).operands s t → SameOn g set (Here f (at ∷ c.returns)) w u →
      AlikeTo g (λ x y v z. After g set f c.returns x y v z × HasLinks g v) (done_by c i at s w) (done_by c i at t u)
  step-alike c is same backs i at right s t w u links h e =
      subst (λ (n : ℕ). AlikeTo g (λ x y v z. After g n f c.returns x y v z × HasLinks g v) (done_by c i at s w) (done_by c i at t u)) is
      (left-to g (After g c.set f c.returns) (HasLinks g) (done_by c i at s w) (done_by c i at t u)
      (links-stay w (world_after (done_by c i at s w)) (steps_keep_the_frame c i at s w) links)
      (done-alike g f c i at s t w u links backs same
      (subst (λ (n : ℕ). IsFineAt g n f at i) (sym is) right) h (subst (λ (n : ℕ). SameOn g n (Here f (at ∷ c.returns)) w u) (sym is) e)))

  -- ---- a jump of which it does not matter where it leads

  -- the jump
  jump-of : (at : ℕ) (i : Instr) → IsPassed g set f code at i → (n : ℕ) × (i ≡ JumpIfZero n) × ArePassed g set f code at n
  jump-of at (JumpIfZero n) passed = (n, refl, passed)
  jump-of at _ passed = absurd passed

  module _ (c : PieceContext) (is : c.set ≡ set) (same : IsOfGround g c) (at passed : ℕ) (ways : ArePassed g set f code at passed) where
    -- where it leads
    abbrev way : ℤ → ℕ
    way z = if is_zero z then at + 1 + passed else at + 1

    -- how many operands there are then
    abbrev base : ℕ
    base = height_at f (at + 1)

    -- where both ways come together
    abbrev join : ℕ
    join = join_at f at

    -- each instruction of them is quiet
    each : (k : ℕ) (i : Instr) → at < k → k < join → slice_get code k ≡ Some i → IsQuietAt g c.set f base join k i
    each k i past near found = subst (λ (n : ℕ). IsQuietAt g n f base join k i) (sym is) (ways.each k i past near found)

    -- what a run of them does
    abbrev Arriving : List ℤ → ℕ → World → Ran Exit → Type 0
    Arriving s = Arrives g f c base join s code

    -- nothing stands there at first
    none : base + 0 ≡ base
    none = omega arith

    -- a run of one of the ways
    way-arrives : (n : ℕ) (z : ℤ) (s : List ℤ) (w : World) → IsOver (exec code n c (way z) s w) → Arriving s n w (exec code n c (way z) s w)
    way-arrives n z s w over = by (is_zero z) over
      where
        by : (b : Bool) → IsOver (exec code n c (if b then at + 1 + passed else at + 1) s w) →
            Arriving s n w (exec code n c (if b then at + 1 + passed else at + 1) s w)
        by true ends = arrives g f c same base join s code at ways.inside each n (at + 1 + passed) [] w (omega arith) ways.far (none ∙ sym ways.level) ends
        by false ends = arrives g f c same base join s code at ways.inside each n (at + 1) [] w (omega arith) ways.near none ends

    -- the worlds behind both ways
    worlds-meet : (w u v x : World) → SameOn g set (Here f (at ∷ c.returns)) w u → Still g f c.set w v → Still g f c.set u x → SameOn g set (Here f (join ∷ c.returns)) v x
    worlds-meet w u v x e still other =
        same-joined g set K v w x (same-back g set K w v (own w v still)) (same-joined g set K w u x
        (same-less g set (Here f (at ∷ c.returns)) K w u (λ b k known. (known.0, ⊎_elim (λ said. inl (ways.leads.2 b k said)) (λ others. inr others) known.1)) e) (own u x other))
      where
        K : Bool → ℕ → Type 0
        K = Here f (join ∷ c.returns)

        own : (y z : World) → Still g f c.set y z → SameOn g set K y z
        own y z h = same-less g set (Firm f) K y z (λ b k known. known.0) (subst (λ (n : ℕ). SameOn g n (Firm f) y z) is h)

    -- the operands
    operands-meet : (xs ys s t : List ℤ) → base + length xs ≡ height_at f join → base + length ys ≡ height_at f join → HoldOf (below (facts_at f at).operands) s t →
        HoldOf (facts_at f join).operands (xs ++ s) (ys ++ t)
    operands-meet xs ys s t p q h =
        let many = height_at f join - base in
        no-more-of (xs ++ s) (ys ++ t) (facts_at f join).operands (others_on many (below (facts_at f at).operands)) ways.leads.0
        (others-hold many xs ys s t (below (facts_at f at).operands) (omega (arith, p)) (omega (arith, q)) h)

    -- What is claimed of both runs from where the ways come together.
    abbrev FromJoin : ℕ → Type 0
    FromJoin size = (n m : ℕ) (s t : List ℤ) (w u : World) → n ≤ size → HasLinks g w → HoldOf (facts_at f join).operands s t → SameOn g set (Here f (join ∷ c.returns)) w u →
        IsOver (exec code n c join s w) → IsOver (exec code m c join t u) → AlikeTo g (Ends g f set) (exec code n c join s w) (exec code m c join t u)

    -- both runs of the ways
    ways-meet : (size n m : ℕ) (s t : List ℤ) (w u : World) (r q : Ran Exit) → n ≤ size → FromJoin size → HasLinks g w → HoldOf (below (facts_at f at).operands) s t →
        SameOn g set (Here f (at ∷ c.returns)) w u → Arriving s n w r → Arriving t m u q → IsOver r → IsOver q → AlikeTo g (Ends g f set) r q
    ways-meet size n m s t w u _ q low go links h e (FailedThere fault line v text left) second over ends = FirstStops fault line v text q left
    ways-meet size n m s t w u _ _ low go links h e (Arrived k xs v a short p still told) (FailedThere fault line x b left) over ends =
        SecondStops fault line x b (also a (exec code k c join (xs ++ s) v)) left
    ways-meet size n m s t w u _ _ low go links h e (Arrived k xs v a short p still told) (Arrived l ys x b near q other more) over ends =
        also-to g (Ends g f set) a b (exec code k c join (xs ++ s) v) (exec code l c join (ys ++ t) x) (prints-same g.names a b told more)
        (go k l (xs ++ s) (ys ++ t) v x (omega (arith, short, low)) (links-still w v (subst (λ (i : ℕ). SameOn g i (Firm f) w v) is still) links) (operands-meet xs ys s t p q h)
        (worlds-meet w u v x e still other) (over-also a (exec code k c join (xs ++ s) v) over) (over-also b (exec code l c join (ys ++ t) x) ends))

    -- both runs from the jump on
    jumps-alike : (size n m : ℕ) (s t : List ℤ) (w u : World) → n ≤ size → FromJoin size → HasLinks g w → HoldOf (facts_at f at).operands s t →
        SameOn g set (Here f (at ∷ c.returns)) w u → IsOver (then_do (done_by c (JumpIfZero passed) at s w) (from_there c (exec code n))) →
        IsOver (then_do (done_by c (JumpIfZero passed) at t u) (from_there c (exec code m))) →
        AlikeTo g (Ends g f set) (then_do (done_by c (JumpIfZero passed) at s w) (from_there c (exec code n))) (then_do (done_by c (JumpIfZero passed) at t u) (from_there c (exec code m)))
    jumps-alike size n m [] t w u low go links h e over ends = absurd over
    jumps-alike size n m (z ∷ s) [] w u low go links h e over ends = absurd h
    jumps-alike size n m (z ∷ s) (y ∷ t) w u low go links h e over ends =
        let first = over-also [] (exec code n c (way z) s w) over in
        let second = over-also [] (exec code m c (way y) t u) ends in
        also-to g (Ends g f set) [] [] (exec code n c (way z) s w) (exec code m c (way y) t u) NoLines
        (ways-meet size n m s t w u (exec code n c (way z) s w) (exec code m c (way y) t u) low go links h.1 e (way-arrives n z s w first) (way-arrives m y t u second) first second)

  -- ---- runs

  -- What is claimed of runs of at most so many instructions.
  abbrev Claims : ℕ → Type 0
  Claims size = (n m : ℕ) (c : PieceContext) → n ≤ size → c.set ≡ set → IsOfGround g c → AreBack f c.returns → (at : ℕ) (s t : List ℤ) (w u : World) → HasLinks g w →
      IsReached f at → HoldOf (facts_at f at).operands s t → SameOn g set (Here f (at ∷ c.returns)) w u → IsOver (exec code n c at s w) → IsOver (exec code m c at t u) →
      AlikeTo g (Ends g f set) (exec code n c at s w) (exec code m c at t u)

  -- one instruction, and the rest of the runs
  module _ (size : ℕ) (more : Claims size) (n m : ℕ) (c : PieceContext) (low : n ≤ size) (is : c.set ≡ set) (same : IsOfGround g c) (backs : AreBack f c.returns) (at : ℕ)
      (s t : List ℤ) (w u : World) (links : HasLinks g w) (h : HoldOf (facts_at f at).operands s t) (e : SameOn g set (Here f (at ∷ c.returns)) w u) where
    -- where the steps of both lead
    go : (x y : Step) (a b : World) → After g set f c.returns x y a b → HasLinks g a → IsOver (from_there c (exec code n) x a) → IsOver (from_there c (exec code m) y b) →
        AlikeTo g (Ends g f set) (from_there c (exec code n) x a) (from_there c (exec code m) y b)
    go _ _ _ _ (BothGo pc s t a b there hold on) l first second = more n m c low is same backs pc s t a b l there hold on first second
    go _ _ _ _ (BothGoOver others pc s t a b back there hold on) l first second =
        more n m (with_returns c others) low is (record { functions = same.functions; formats = same.formats; named = same.named }) back pc s t a b l there hold on first second
    go _ _ _ _ (BothEnd s a b outside known) l first second = lead g (Ends g f set) (Over s) (Over s) a b (refl, outside, known)
    go _ _ _ _ (BothLeave state a b outside known) l first second = lead g (Ends g f set) (LeftFor state) (LeftFor state) a b (refl, outside, known)
    go _ _ _ _ (BothStick a b outside) l first second = absurd first

    -- What is claimed, by what stands there.
    abbrev Claim : Option Instr → Type 0
    Claim o = IsOver (then_do (step_of c o at s w) (from_there c (exec code n))) → IsOver (then_do (step_of c o at t u) (from_there c (exec code m))) →
        AlikeTo g (Ends g f set) (then_do (step_of c o at s w) (from_there c (exec code n))) (then_do (step_of c o at t u) (from_there c (exec code m)))

    -- an instruction that does the same in both
    both : (i : Instr) → IsFineAt g set f at i → Claim (Some i)
    both i right first second =
        then-over g f set (λ x y v z. After g set f c.returns x y v z × HasLinks g v) (done_by c i at s w) (done_by c i at t u) (from_there c (exec code n)) (from_there c (exec code m))
        (step-alike c is same backs i at right s t w u links h e) first second (λ x y a b after. go x y a b after.0 after.1)

    -- a jump of which it does not matter where it leads
    either : (i : Instr) → IsPassed g set f code at i → Claim (Some i)
    either i passed =
        let jump = jump-of at i passed in
        subst (λ (j : Instr). Claim (Some j)) (sym jump.1)
        (jumps-alike c is same at jump.0 jump.2 size n m s t w u low
        (λ k l a b v x short others held on first second. more k l c short is same backs (join_at f at) a b v x others jump.2.leads.1 held on first second) links h e)

    -- whatever it is
    one : IsReached f at → (o : Option Instr) → slice_get code at ≡ o → Claim o
    one there None found first second = absurd first
    one there (Some i) found first second = ⊎_elim (λ right. both i right first second) (λ passed. either i passed first second) (fine at i found there)

  -- as many instructions as both runs take to their ends
  pub exec-alike : (size : ℕ) → Claims size
  exec-alike size zero m c low is same backs at s t w u links there h e over ends = absurd over
  exec-alike size (suc n) zero c low is same backs at s t w u links there h e over ends = absurd ends
  exec-alike zero (suc n) (suc m) c low is same backs at s t w u links there h e over ends = absurd (omega (arith, low))
  exec-alike (suc size) (suc n) (suc m) c low is same backs at s t w u links there h e over ends =
      one size (λ k l d short i o b pc p q v x r reached held on first second. exec-alike size k l d short i o b pc p q v x r reached held on first second)
      n m c (omega (arith, low)) is same backs at s t w u links h e there (slice_get code at) refl over ends

  -- a piece, at whose first instruction nothing is said
  pub run-alike : (c : PieceContext) → c.set ≡ set → IsOfGround g c → c.returns ≡ [] → (start : ℕ) → facts_at f start ≡ first_facts → (w u : World) → HasLinks g w →
      IsSameOutside g.hidden g.stale w u → IsOver (run_of c code start w) → IsOver (run_of c code start u) →
      AlikeTo g (Ends g f set) (run_of c code start w) (run_of c code start u)
  run-alike c is same none start empty w u links e over ends =
      exec-alike (suc (credit c w) * length code) (suc (credit c w) * length code) (suc (credit c u) * length code) c (omega arith) is same (subst (AreBack f) (sym none) tt) start [] [] w u links
      (ap (λ (r : Facts). r.is_reached) empty) tt (same-nowhere g set (Here f (start ∷ c.returns)) w u nothing e) over ends
    where
      nothing : (b : Bool) (k : ℕ) → Here f (start ∷ c.returns) b k → ⊥
      nothing b k here =
          let at-none : Here f (start ∷ []) b k = subst (λ (rs : List ℕ). Here f (start ∷ rs) b k) none here in
          ⊎_elim (λ said. never b k said) (λ others. others) at-none.1
        where
          never : (b : Bool) (k : ℕ) → has (said_at f start b) k ≡ true → ⊥
          never true k said = let p : has [] k ≡ true = subst (λ (r : Facts). has r.functions k ≡ true) empty said in absurd (cc)
          never false k said = let p : has [] k ≡ true = subst (λ (r : Facts). has r.own k ≡ true) empty said in absurd (cc)
