-- Each piece of a program has its address in the program's code.
use Rattle.std.proofs.Common.{map, ◌≡◌, ◌∙◌, ◌+◌, ◌<◌, ◌≤◌, ◌↔◌, Bool, true, false, if◌then◌else◌, ℕ, zero, suc, List, [], ◌∷◌, ◌++◌, Option, None, Some, refl, sym, ap, subst, arith, append-nil, append_assoc, length, length-append, take, slice_get, option_map, option_and_then}
use Rattle.snl_syntax.specs.Expressions.{ExprTree}
use Rattle.snl_syntax.specs.Definitions.{DefinitionTree}
use Rattle.snl_syntax.specs.Functions.{FunctionTree}
use Rattle.snl_syntax.specs.Programs.{ClauseTree, StateTree, StateSetTree, ProgramTree}
use Rattle.snl_syntax.specs.Statements.{BlockTree}
use Rattle.snl_meaning.specs.declared.instrs.Instr.{Instr}
use Rattle.snl_emit.specs.BlockCode.{condition_piece, block_piece}
use Rattle.snl_meaning.specs.Names.{Here, format_at}
use Rattle.std.proofs.lemmas.Bool.{false≢true}
use Rattle.std.proofs.lemmas.List.{length-map}
use Rattle.std.proofs.lemmas.Option.{slice_get_within}
use Rattle.snl_reach.specs.Reach.{IsReached}
use Rattle.snl_flat.specs.Depths.{capped, program_depth}
use Rattle.snl_flat.specs.Heres.{entries_in, function_places, here_in, routine_by, routine_of, routines_in, scene_in, states_by}
use Rattle.snl_names.specs.Programs.{sites}
use Rattle.snl_names.specs.declared.sites.Site.{Site}
use Rattle.snl_names.specs.Variables.{function_by, functions_of}
use Rattle.snl_meaning.specs.declared.names.Placed.{Placed}
use Rattle.snl_emit.specs.FunctionCode.{entries_from, functions_code}
use Rattle.std.specs.List.{flat_map}
use Rattle.snl_meaning.specs.Endings.{HasAt}
use Rattle.snl_meaning.specs.Run as run
use Rattle.snl_emit.specs.Right.{AreFunctions, IsPieceOf, IsReady}
use Rattle.snl_emit.proofs.Pieces.{conditions-right, blocks-right}
use Rattle.snl_emit.proofs.Ready.{programs-ready}
use Rattle.snl_flat.specs.declared.code.Code.{Code}
use Rattle.snl_flat.specs.declared.starts.ClauseStarts.{ClauseStarts}
use Rattle.snl_flat.specs.declared.starts.Piece.{Piece}
use Rattle.snl_flat.specs.declared.starts.Piece.TheVariants.{ProgramEntry, ProgramExit, Entry, Exit, Condition, Block}
use Rattle.snl_flat.specs.Layout.{row_code, row_starts, maybe_code, start_after, clause_code, clause_starts, state_code, state_starts, code_if, starts_if, kept_code, kept_starts, set_code, set_starts, routines_code, program_code, program_starts}
use Rattle.snl_flat.specs.Apart.{AreApart}
use Rattle.snl_flat.specs.Pieces.{PieceTree, Test, Action, state_at, kept_piece, IsPlaced, texts_of, IsCodeOf}
use Rattle.snl_flat.specs.Reached.{Table, HasState, TellsReached}
use Rattle.snl_flat.specs.Starts.{StateTable, ProgramTable, no_pieces, state_tables, entries_of, table_of, state_in, is_held, holds_in, start_in}

-- ---- lists

-- what stands behind a front has its length as its number
pub get-behind : {A : Type 0} (before : List A) (a : A) (after : List A) → slice_get (before ++ a ∷ after) (length before) ≡ Some a
get-behind [] a after = refl
get-behind (b ∷ before) a after = get-behind before a after

-- a list has a member at each of its numbers
pub member : {A : Type 0} (all : List A) (i : ℕ) → i < length all → (a : A) × (slice_get all i ≡ Some a)
member [] i less = absurd (omega (arith, less))
member (a ∷ all) zero less = (a, refl)
member (a ∷ all) (suc i) less = member all i (omega (arith, less))

-- code that stands in code is found there
pub has-at : (before piece after whole : List Instr) → whole ≡ before ++ (piece ++ after) → HasAt whole (length before) piece
has-at before [] after whole e = tt
has-at before (i ∷ is) after whole e = (
  ap (λ l. slice_get l (length before)) e ∙ get-behind before i (is ++ after),
  (let n : length (before ++ i ∷ []) ≡ length before + 1 = length-snoc before i in
      subst (λ n. HasAt whole n is) n (has-at (before ++ i ∷ []) is after whole (e ∙ sym (append_assoc before (i ∷ []) (is ++ after))))),
)
  where
    length-snoc : (l : List Instr) (i : Instr) → length (l ++ i ∷ []) ≡ length l + 1
    length-snoc [] i = refl
    length-snoc (x ∷ l) i = let r = length-snoc l i in omega (arith, r)

-- the brackets of four lists
pub regrouped : {A : Type 0} (a b c d : List A) → a ++ ((b ++ c) ++ d) ≡ (a ++ b) ++ (c ++ d)
regrouped a b c d = ap (λ l. a ++ l) (append_assoc b c d) ∙ sym (append_assoc a b (c ++ d))

-- ---- rows

-- the i-th number from k on
abbrev pub number : ℕ → ℕ → ℕ
number k zero = k
number k (suc i) = number (suc k) i

-- it is their sum
number-is : (k i : ℕ) → number k i ≡ k + i
number-is k zero = let e : k ≡ k + 0 = omega arith in e
number-is k (suc i) = let e : suc k + i ≡ k + suc i = omega arith in number-is (suc k) i ∙ e

-- What a row has at a number, and what its starts have there: both nothing, or a member with its code in the whole, behind so many
-- instructions at least.
abbrev pub Found : {A B : Type 0} → ℕ → (ℕ → A → List Instr) → (ℕ → List Instr → A → B) → List Instr → ℕ → Option A → Option B → Type 0
Found low code starts whole k None None = Unit {0}
Found low code starts whole k (Some a) (Some b) =
    (before : List Instr) × (after : List Instr) × (whole ≡ before ++ (code k a ++ after)) × (b ≡ starts k before a) × (low ≤ length before)
Found low code starts whole k _ _ = ⊥

-- more code stands behind as many
behind-more : (low : ℕ) (before code : List Instr) → low ≤ length before → low ≤ length (before ++ code)
behind-more low before code le = let long = length-append before code in omega (arith, long, le)

-- each member of a row is found
row-found : {A B : Type 0} (low : ℕ) (code : ℕ → A → List Instr) (starts : ℕ → List Instr → A → B) (all : List A) (k : ℕ) (before after whole : List Instr)
    → whole ≡ before ++ (row_code code k all ++ after) → low ≤ length before → (i : ℕ)
    → Found low code starts whole (number k i) (slice_get all i) (slice_get (row_starts code starts k before all) i)
row-found low code starts [] k before after whole e le i = tt
row-found low code starts (a ∷ all) k before after whole e le zero =
    (before, row_code code (suc k) all ++ after, e ∙ ap (λ l. before ++ l) (append_assoc (code k a) (row_code code (suc k) all) after), refl, le)
row-found low code starts (a ∷ all) k before after whole e le (suc i) =
    row-found low code starts all (suc k) (before ++ code k a) after whole (e ∙ regrouped before (code k a) (row_code code (suc k) all) after)
    (behind-more low before (code k a) le) i

-- ---- pieces

-- the code of a piece
abbrev pub piece_code : ProgramTree → PieceTree → List Instr
piece_code p (Test set e) = condition_piece (here_in p set) e
piece_code p (Action set b) = block_piece (here_in p set) b

-- there is an address for a piece where there is a piece, and its code stands there
abbrev pub Stands : ProgramTree → List Instr → Option PieceTree → Option ℕ → Type 0
Stands p code (Some piece) (Some start) = (before : List Instr) × (after : List Instr) × (code ≡ before ++ (piece_code p piece ++ after)) × (start ≡ length before)
Stands p code None None = Unit {0}
Stands p code _ _ = ⊥

-- the functions of a program know its sites, each in its body
are-functions : (p : ProgramTree) (fs : List FunctionTree) → AreFunctions (sites p) (map (routine_of p) fs)
are-functions p [] = tt
are-functions p (f ∷ fs) = (tt, refl, are-functions p fs)

-- a state set's pieces may call all functions
pub piece-of : (p : ProgramTree) (set : ℕ) → IsPieceOf (routines_in p) (scene_in p set)
piece-of p set = record { callees = refl; names = refl; within = refl; functions = are-functions p (functions_of p) }

-- code that begins with the functions is ready for calls,
pub ready : (p : ProgramTree) (code pieces : List Instr) → code ≡ routines_code p ++ pieces → IsReady (routines_in p) code (entries_in p)
ready p code pieces is = subst (λ (l : List Instr). IsReady (routines_in p) l (entries_in p)) (sym is) (programs-ready.whole (routines_in p) pieces)

-- also up to an address behind them
pub ready-to : (p : ProgramTree) (code pieces : List Instr) (end : ℕ) → code ≡ routines_code p ++ pieces → length (routines_code p) ≤ end →
    IsReady (routines_in p) (take end code) (entries_in p)
ready-to p code pieces end is le =
    subst (λ (l : List Instr). IsReady (routines_in p) (take end l) (entries_in p)) (sym is) (programs-ready.front (routines_in p) pieces end le)

-- where its code stands, it is right for it
stands-right : (p : ProgramTree) (code : List Instr) → IsReady (routines_in p) code (entries_in p) → (o : Option PieceTree) (t : Option ℕ) → Stands p code o t →
    IsPlaced p code (entries_in p) o t
stands-right p code is None None f = tt
stands-right p code is None (Some start) f = absurd f
stands-right p code is (Some piece) None f = absurd f
stands-right p code is (Some (Test set e)) (Some start) f = λ room deep.
    conditions-right (routines_in p) (scene_in p set) code (entries_in p) room start e (piece-of p set) is
    (subst (λ n. HasAt code n (condition_piece (here_in p set) e)) (sym f.3) (has-at f.0 (condition_piece (here_in p set) e) f.1 code f.2)) deep
stands-right p code is (Some (Action set b)) (Some start) f = λ room deep.
    blocks-right (routines_in p) (scene_in p set) code (entries_in p) room start b (piece-of p set) is
    (subst (λ n. HasAt code n (block_piece (here_in p set) b)) (sym f.3) (has-at f.0 (block_piece (here_in p set) b) f.1 code f.2)) deep

module _ (p : ProgramTree) (low : ℕ) (whole : List Instr) (set : ℕ) where
  abbrev h : Here
  h = here_in p set

  -- a block that may be missing
  block-placed : (o : Option BlockTree) (before after : List Instr) → whole ≡ before ++ (maybe_code (block_piece h) o ++ after) → Stands p whole (option_map (Action set) o) (start_after before o)
  block-placed None before after e = tt
  block-placed (Some b) before after e = (before, after, e, refl)

  -- a condition that may be missing
  condition-placed : (o : Option ExprTree) (before after : List Instr) → whole ≡ before ++ (maybe_code (condition_piece h) o ++ after)
      → Stands p whole (option_map (Test set) o) (start_after before o)
  condition-placed None before after e = tt
  condition-placed (Some c) before after e = (before, after, e, refl)

  -- the entry block of a state
  entry-placed : (k : ℕ) (o : Option StateTree) (t : Option StateTable) → Found low (state_code h) (state_starts h) whole k o t
      → Stands p whole (option_and_then (λ s. option_map (Action set) s.entry) o) (option_and_then (λ s. s.entry) t)
  entry-placed k None None f = tt
  entry-placed k (Some s) (Some t) f =
      let before = f.0 in
      let after = f.1 in
      let e = f.2 in
      let is = f.3 in
      subst (λ t. Stands p whole (option_map (Action set) s.entry) t.entry) (sym is)
      (block-placed s.entry before ((row_code (clause_code h) 0 s.clauses ++ maybe_code (block_piece h) s.exit) ++ after)
      (e ∙ ap (λ l. before ++ l) (append_assoc (maybe_code (block_piece h) s.entry) (row_code (clause_code h) 0 s.clauses ++ maybe_code (block_piece h) s.exit) after)))
  entry-placed k None (Some t) f = absurd f
  entry-placed k (Some s) None f = absurd f

  -- the addresses of a state's clauses
  pub clauses-at : (s : StateTree) (before after : List Instr) → whole ≡ before ++ (state_code h 0 s ++ after)
      → whole ≡ (before ++ maybe_code (block_piece h) s.entry) ++ (row_code (clause_code h) 0 s.clauses ++ (maybe_code (block_piece h) s.exit ++ after))
  clauses-at s before after e =
      e ∙ regrouped before (maybe_code (block_piece h) s.entry) (row_code (clause_code h) 0 s.clauses ++ maybe_code (block_piece h) s.exit) after
      ∙ ap (λ l. (before ++ maybe_code (block_piece h) s.entry) ++ l) (append_assoc (row_code (clause_code h) 0 s.clauses) (maybe_code (block_piece h) s.exit) after)

  -- the exit block of a state
  exit-placed : (k : ℕ) (o : Option StateTree) (t : Option StateTable) → Found low (state_code h) (state_starts h) whole k o t
      → Stands p whole (option_and_then (λ s. option_map (Action set) s.exit) o) (option_and_then (λ s. s.exit) t)
  exit-placed k None None f = tt
  exit-placed k (Some s) (Some t) f =
      let before = f.0 in
      let after = f.1 in
      let e = f.2 in
      let is = f.3 in
      subst (λ t. Stands p whole (option_map (Action set) s.exit) t.exit) (sym is)
      (block-placed s.exit ((before ++ maybe_code (block_piece h) s.entry) ++ row_code (clause_code h) 0 s.clauses) after
      (clauses-at s before after e
      ∙ sym (append_assoc (before ++ maybe_code (block_piece h) s.entry) (row_code (clause_code h) 0 s.clauses) (maybe_code (block_piece h) s.exit ++ after))))
  exit-placed k None (Some t) f = absurd f
  exit-placed k (Some s) None f = absurd f

  -- a clause of a state
  clause-found : (i k : ℕ) (o : Option StateTree) (t : Option StateTable) → Found low (state_code h) (state_starts h) whole k o t
      → Found low (clause_code h) (clause_starts h) whole (number 0 i) (option_and_then (λ s. slice_get s.clauses i) o) (option_and_then (λ s. slice_get s.clauses i) t)
  clause-found i k None None f = tt
  clause-found i k (Some s) (Some t) f =
      let before = f.0 in
      let after = f.1 in
      let e = f.2 in
      let is = f.3 in
      subst (λ t. Found low (clause_code h) (clause_starts h) whole (number 0 i) (slice_get s.clauses i) (slice_get t.clauses i)) (sym is)
      (row-found low (clause_code h) (clause_starts h) s.clauses 0 (before ++ maybe_code (block_piece h) s.entry) (maybe_code (block_piece h) s.exit ++ after) whole (clauses-at s before after e)
      (behind-more low before (maybe_code (block_piece h) s.entry) f.4) i)
  clause-found i k None (Some t) f = absurd f
  clause-found i k (Some s) None f = absurd f

  -- its condition
  clause-condition : (k : ℕ) (o : Option ClauseTree) (t : Option ClauseStarts) → Found low (clause_code h) (clause_starts h) whole k o t
      → Stands p whole (option_and_then (λ c. option_map (Test set) c.condition) o) (option_and_then (λ c. c.condition) t)
  clause-condition k None None f = tt
  clause-condition k (Some c) (Some t) f =
      let before = f.0 in
      let after = f.1 in
      let e = f.2 in
      let is = f.3 in
      subst (λ t. Stands p whole (option_map (Test set) c.condition) t.condition) (sym is)
      (condition-placed c.condition before (block_piece h c.block ++ after)
      (e ∙ ap (λ l. before ++ l) (append_assoc (maybe_code (condition_piece h) c.condition) (block_piece h c.block) after)))
  clause-condition k None (Some t) f = absurd f
  clause-condition k (Some c) None f = absurd f

  -- its block
  clause-block : (k : ℕ) (o : Option ClauseTree) (t : Option ClauseStarts) → Found low (clause_code h) (clause_starts h) whole k o t
      → Stands p whole (option_map (λ c. Action set c.block) o) (option_map (λ c. c.block) t)
  clause-block k None None f = tt
  clause-block k (Some c) (Some t) f =
      let before = f.0 in
      let after = f.1 in
      let e = f.2 in
      let is = f.3 in
      subst (λ t. Stands p whole (Some (Action set c.block)) (Some t.block)) (sym is)
      (block-placed (Some c.block) (before ++ maybe_code (condition_piece h) c.condition) after
      (e ∙ regrouped before (maybe_code (condition_piece h) c.condition) (block_piece h c.block) after))
  clause-block k None (Some t) f = absurd f
  clause-block k (Some c) None f = absurd f

  -- a piece of a state that is reached stands, and of one that is not there is none
  kept-stands : (reached : ℕ → Bool) (piece : Option StateTree → Option PieceTree) (start : Option StateTable → Option ℕ) → start None ≡ None → start (Some no_pieces) ≡ None → (k : ℕ) →
      ((o : Option StateTree) (t : Option StateTable) → Found low (state_code h) (state_starts h) whole k o t → Stands p whole (piece o) (start t)) →
      (o : Option StateTree) (t : Option StateTable) → Found low (kept_code h reached) (kept_starts h reached) whole k o t →
      Stands p whole (if is_held t then piece o else None) (start t)
  kept-stands reached piece start none left k go None None f = subst (λ (s : Option ℕ). Stands p whole None s) (sym none) tt
  kept-stands reached piece start none left k go None (Some t) f = absurd f
  kept-stands reached piece start none left k go (Some s) None f = absurd f
  kept-stands reached piece start none left k go (Some s) (Some t) f = by (reached k) f
    where
      by : (b : Bool) → (before : List Instr) × (after : List Instr) × (whole ≡ before ++ (code_if b h k s ++ after)) × (t ≡ starts_if b h k before s) × (low ≤ length before) →
          Stands p whole (if t.is_reached then piece (Some s) else None) (start (Some t))
      by true g =
          let held : t.is_reached ≡ true = ap (λ (x : StateTable). x.is_reached) g.3 in
          subst (λ (b : Bool). Stands p whole (if b then piece (Some s) else None) (start (Some t))) (sym held) (go (Some s) (Some t) g)
      by false g =
          subst (λ (x : StateTable). Stands p whole (if x.is_reached then piece (Some s) else None) (start (Some x))) (sym g.3)
          (subst (λ (n : Option ℕ). Stands p whole None n) (sym left) tt)

  -- a state that is there is held where it is reached
  kept-held : (reached : ℕ → Bool) (k : ℕ) (o : Option StateTree) (t : Option StateTable) (s : StateTree) →
      Found low (kept_code h reached) (kept_starts h reached) whole k o t → o ≡ Some s → is_held t ≡ reached k
  kept-held reached k None t s f is = absurd (cc)
  kept-held reached k (Some x) None s f is = absurd f
  kept-held reached k (Some x) (Some t) s f is = ap (λ (y : StateTable). y.is_reached) f.3 ∙ by (reached k)
    where
      by : (b : Bool) → (starts_if b h k f.0 x).is_reached ≡ b
      by true = refl
      by false = refl

  -- one that is not there is not held
  not-held : (reached : ℕ → Bool) (k : ℕ) (o : Option StateTree) (t : Option StateTable) →
      Found low (kept_code h reached) (kept_starts h reached) whole k o t → is_held t ≡ true → (s : StateTree) × (o ≡ Some s)
  not-held reached k None None f held = absurd (false≢true held)
  not-held reached k None (Some t) f held = absurd f
  not-held reached k (Some s) t f held = (s, refl)

-- a state of a state set
state-in-set : (p : ProgramTree) (reached : Table) (low : ℕ) (whole : List Instr) (set state : ℕ) (o : Option StateSetTree) (t : Option (List StateTable)) →
    Found low (set_code reached p) (set_starts reached p) whole set o t →
    Found low (kept_code (here_in p set) (reached set)) (kept_starts (here_in p set) (reached set)) whole (number 0 state)
    (option_and_then (λ g. slice_get g.states state) o) (option_and_then (λ l. slice_get l state) t)
state-in-set p reached low whole set state None None f = tt
state-in-set p reached low whole set state (Some g) (Some t) f =
    let before = f.0 in
    let after = f.1 in
    let e = f.2 in
    let is = f.3 in
    let code = kept_code (here_in p set) (reached set) in
    let starts = kept_starts (here_in p set) (reached set) in
    subst (λ t. Found low code starts whole (number 0 state) (slice_get g.states state) (slice_get t state)) (sym is)
    (row-found low code starts g.states 0 before after whole e f.4 state)
state-in-set p reached low whole set state None (Some t) f = absurd f
state-in-set p reached low whole set state (Some g) None f = absurd f

-- the code of the program's entry block
abbrev first : ProgramTree → List Instr
first p = maybe_code (block_piece (here_in p 0)) p.entry

-- that of its exit block
abbrev last : ProgramTree → List Instr
last p = maybe_code (block_piece (here_in p 0)) p.exit

-- that of its state sets
abbrev middle : ProgramTree → Table → List Instr
middle p reached = row_code (set_code reached p) 0 p.state_sets

module _ (p : ProgramTree) (reached : Table) where
  -- how many instructions its functions have
  abbrev low : ℕ
  low = length (routines_code p)

  -- its code
  abbrev whole : List Instr
  whole = program_code reached p

  -- and where its pieces begin
  abbrev table : ProgramTable
  table = program_starts reached p

  -- a state of the program
  pub state-found : (set state : ℕ) → Found (length (routines_code p)) (kept_code (here_in p set) (reached set)) (kept_starts (here_in p set) (reached set)) whole (number 0 state)
      (state_at p set state) (state_in table set state)
  state-found set state =
      let n : number 0 set ≡ set = (let r = number-is 0 set in omega (arith, r)) in
      state-in-set p reached low whole set state (slice_get p.state_sets set) (slice_get table.sets set)
      (subst (λ n. Found low (set_code reached p) (set_starts reached p) whole n (slice_get p.state_sets set) (slice_get table.sets set)) n
      (row-found low (set_code reached p) (set_starts reached p) p.state_sets 0 (routines_code p ++ first p) (last p) whole
      (sym (append_assoc (routines_code p) (first p) (middle p reached ++ last p))) (let long = length-append (routines_code p) (first p) in omega (arith, long)) set))

  -- a piece of a state
  in-state : (set state : ℕ) (piece : Option StateTree → Option PieceTree) (start : Option StateTable → Option ℕ) → start None ≡ None → start (Some no_pieces) ≡ None →
      ((o : Option StateTree) (t : Option StateTable) → Found low (state_code (here_in p set)) (state_starts (here_in p set)) whole (number 0 state) o t →
      Stands p whole (piece o) (start t)) →
      Stands p whole (if holds_in table set state then piece (state_at p set state) else None) (start (state_in table set state))
  in-state set state piece start none left go =
      kept-stands p low whole set (reached set) piece start none left (number 0 state) go (state_at p set state) (state_in table set state) (state-found set state)

  -- each piece stands at its address
  pub all-stand : (name : Piece) → Stands p whole (kept_piece (holds_in table) p name) (start_in table name)
  all-stand ProgramEntry = block-placed p low whole 0 p.entry (routines_code p) (middle p reached ++ last p) refl
  all-stand ProgramExit =
      let front = routines_code p ++ first p in
      block-placed p low whole 0 p.exit (front ++ middle p reached) []
      (sym (append_assoc (routines_code p) (first p) (middle p reached ++ last p)) ∙ sym (append_assoc front (middle p reached) (last p))
      ∙ ap (λ (l : List Instr). (front ++ middle p reached) ++ l) (sym (append-nil (last p))))
  all-stand (Entry set state) =
      in-state set state (option_and_then (λ s. option_map (Action set) s.entry)) (option_and_then (λ s. s.entry)) refl refl (entry-placed p low whole set (number 0 state))
  all-stand (Exit set state) =
      in-state set state (option_and_then (λ s. option_map (Action set) s.exit)) (option_and_then (λ s. s.exit)) refl refl (exit-placed p low whole set (number 0 state))
  all-stand (Condition set state k) =
      in-state set state (λ o. option_and_then (λ c. option_map (Test set) c.condition) (option_and_then (λ s. slice_get s.clauses k) o))
      (λ t. option_and_then (λ c. c.condition) (option_and_then (λ s. slice_get s.clauses k) t)) refl refl
      (λ o t f. clause-condition p low whole set (number 0 k) (option_and_then (λ s. slice_get s.clauses k) o) (option_and_then (λ s. slice_get s.clauses k) t)
      (clause-found p low whole set k (number 0 state) o t f))
  all-stand (Block set state k) =
      in-state set state (λ o. option_map (λ c. Action set c.block) (option_and_then (λ s. slice_get s.clauses k) o))
      (λ t. option_map (λ c. c.block) (option_and_then (λ s. slice_get s.clauses k) t)) refl refl
      (λ o t f. clause-block p low whole set (number 0 k) (option_and_then (λ s. slice_get s.clauses k) o) (option_and_then (λ s. slice_get s.clauses k) t)
      (clause-found p low whole set k (number 0 state) o t f))

  -- the code tells of each state that is there what the table of reached states tells;
  pub held-is : (set state : ℕ) (g : StateSetTree) → slice_get p.state_sets set ≡ Some g → state < length g.states → holds_in table set state ≡ reached set state
  held-is set state g at within =
      let found = member g.states state within in
      let there : state_at p set state ≡ Some found.0 = ap (option_and_then (λ x. slice_get x.states state)) at ∙ found.1 in
      let same : holds_in table set state ≡ reached set (number 0 state) =
      kept-held p low whole set (reached set) (number 0 state) (state_at p set state) (state_in table set state) found.0 (state-found set state) there in
      let n : number 0 state ≡ state = (let r = number-is 0 state in omega (arith, r)) in
      same ∙ ap (reached set) n

  -- so where that table is right, the code tells which are reached,
  held-tells : TellsReached p reached → TellsReached p (holds_in table)
  held-tells tells set state g at within = subst (λ (b : Bool). (b ≡ true) ↔ IsReached g.states state) (sym (held-is set state g at within)) (tells set state g at within)

  -- and holds no state that is not there
  held-within : (set state : ℕ) → holds_in table set state ≡ true → HasState p set state
  held-within set state held = by (slice_get p.state_sets set) (let r = not-held p low whole set (reached set) (number 0 state) _ _ (state-found set state) held in r)
    where
      by : (o : Option StateSetTree) → (s : StateTree) × (option_and_then (λ g. slice_get g.states state) o ≡ Some s) → state < length (states_by o)
      by None r = absurd (let e : ◌≡◌ {A = Option StateTree} None (Some r.0) = r.1 in cc)
      by (Some g) r = let within = slice_get_within g.states state r.0 r.1 in let long = length-map g.states (λ (s : StateTree). s.name) in omega (arith, within, long)

-- The conditions of each state that the code has stand apart.
abbrev pub AllApart : ProgramTree → List Instr → List run.Entry → ProgramTable → Type 0
AllApart p code functions table = (set state : ℕ) (s : StateTree) (t : StateTable) → state_at p set state ≡ Some s → state_in table set state ≡ Some t → t.is_reached ≡ true →
    AreApart p set code functions 0 s.clauses t.clauses

-- The code of the functions that were found among a program's definitions is that of its functions,
pub routines-are : (p : ProgramTree) (before code : List Instr) (all : List Site) (places : List Placed) (ds : List DefinitionTree) → before ≡ [] → all ≡ sites p → places ≡ function_places p
    → ds ≡ p.definitions → code ≡ before ++ functions_code [] (map (routine_by all places) (flat_map function_by ds)) → code ≡ routines_code p
routines-are p before code all places ds e0 es ep ed is = is ∙ (λ j. e0 j ++ functions_code [] (map (routine_by (es j) (ep j)) (flat_map function_by (ed j))))

-- with their entries.
pub entries-are : (p : ProgramTree) (before : List Instr) (found : List run.Entry) (all : List Site) (places : List Placed) (ds : List DefinitionTree) → before ≡ [] → all ≡ sites p
    → places ≡ function_places p → ds ≡ p.definitions → found ≡ entries_from (length before) [] (map (routine_by all places) (flat_map function_by ds)) → found ≡ entries_in p
entries-are p before found all places ds e0 es ep ed is =
    is ∙ (λ j. entries_from (length (e0 j)) [] (map (routine_by (es j) (ep j)) (flat_map function_by (ed j))))

-- What is made of a program's parts, one after another, is the program's code,
pub code-is : (p : ProgramTree) (reached : Table) (before entered placed code : List Instr) (sets : List StateSetTree) → sets ≡ p.state_sets → before ≡ routines_code p
    → entered ≡ before ++ first p → placed ≡ entered ++ row_code (set_code reached p) 0 sets → code ≡ placed ++ last p → code ≡ program_code reached p
code-is p reached before entered placed code sets es e0 e1 e2 e3 =
    let front = routines_code p ++ first p in
    let e1' : entered ≡ front = e1 ∙ ap (λ (l : List Instr). l ++ first p) e0 in
    let e2' : placed ≡ front ++ middle p reached = e2 ∙ (λ j. e1' j ++ row_code (set_code reached p) 0 (es j)) in
    e3 ∙ ap (λ (l : List Instr). l ++ last p) e2' ∙ append_assoc front (middle p reached) (last p) ∙ append_assoc (routines_code p) (first p) (middle p reached ++ last p)

-- where they begin is where its pieces begin,
pub table-is : (p : ProgramTree) (reached : Table) (c : Code) (before entered placed : List Instr) (sets : List StateSetTree) → sets ≡ p.state_sets → before ≡ routines_code p
    → entered ≡ before ++ first p → c.entry ≡ start_after before p.entry → placed ≡ entered ++ row_code (set_code reached p) 0 sets
    → map state_tables c.sets.items ≡ row_starts (set_code reached p) (set_starts reached p) 0 entered sets → c.exit ≡ start_after placed p.exit → table_of c ≡ program_starts reached p
table-is p reached c before entered placed sets es e0 e1 s1 e2 s2 s3 =
    let front = routines_code p ++ first p in
    let e1' : entered ≡ front = e1 ∙ ap (λ (l : List Instr). l ++ first p) e0 in
    let e2' : placed ≡ front ++ middle p reached = e2 ∙ (λ j. e1' j ++ row_code (set_code reached p) 0 (es j)) in
    let entry : c.entry ≡ (program_starts reached p).entry = s1 ∙ ap (λ (l : List Instr). start_after l p.entry) e0 in
    let tables : map state_tables c.sets.items ≡ (program_starts reached p).sets = s2 ∙ (λ j. row_starts (set_code reached p) (set_starts reached p) 0 (e1' j) (es j)) in
    let exit : c.exit ≡ (program_starts reached p).exit = s3 ∙ ap (λ (l : List Instr). start_after l p.exit) e2' in
    (λ j. record { entry = entry j; sets = tables j; exit = exit j })

-- and with its functions and its strings it is right for the program.
pub code-made : (p : ProgramTree) (reached : Table) (c : Code) → TellsReached p reached → AllApart p (program_code reached p) (entries_in p) (program_starts reached p)
    → c.instrs.items ≡ program_code reached p → table_of c ≡ program_starts reached p → entries_of c ≡ entries_in p
    → texts_of c ≡ flat_map format_at (sites p) → c.depth ≡ capped (program_depth p) → IsCodeOf p c
code-made p reached c tells apart is all es ex ed = record {
  reached = subst (λ (t : ProgramTable). TellsReached p (holds_in t)) (sym all) (held-tells p reached tells);
  within = subst (λ (t : ProgramTable). (set state : ℕ) → holds_in t set state ≡ true → HasState p set state) (sym all) (held-within p reached);
  functions = es;
  placed = λ piece. subst (λ (l : List Instr). IsPlaced p l (entries_of c) (kept_piece (holds_in (table_of c)) p piece) (start_in (table_of c) piece)) (sym is)
      (subst (λ (fs : List run.Entry). IsPlaced p (program_code reached p) fs (kept_piece (holds_in (table_of c)) p piece) (start_in (table_of c) piece)) (sym es)
      (subst (λ (t : ProgramTable). IsPlaced p (program_code reached p) (entries_in p) (kept_piece (holds_in t) p piece) (start_in t piece)) (sym all)
      (stands-right p (program_code reached p) (ready p (program_code reached p) (first p ++ (middle p reached ++ last p)) refl)
      (kept_piece (holds_in (program_starts reached p)) p piece) (start_in (program_starts reached p) piece) (all-stand p reached piece))));
  apart = subst (λ (l : List Instr). AllApart p l (entries_of c) (table_of c)) (sym is)
      (subst (λ (fs : List run.Entry). AllApart p (program_code reached p) fs (table_of c)) (sym es)
      (subst (AllApart p (program_code reached p) (entries_in p)) (sym all) apart));
  texts = ex;
  depth = ed;
}
