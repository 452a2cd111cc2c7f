-- What is named in a piece is there on the copy on which the piece runs.
use Rattle.std.proofs.Common.{◌≡◌, ◌∙◌, ◌+◌, ◌<◌, ◌≤◌, ◌⊎◌, inl, inr, refl, sym, ap, subst, arith, ℕ, zero, suc, Bool, true, false, List, [], ◌∷◌, ◌++◌, Option, None, Some, length, length-append, map, slice_get}
use Rattle.std.specs.Prelude.{◌-◌, ◌||◌, option_map, option_and_then, if◌then◌else◌}
use Rattle.std.proofs.lemmas.Bool.{cases_lt}
use Rattle.snl_text.specs.declared.tokens.Token.{Token}
use Rattle.snl_syntax.specs.Expressions.{ExprTree}
use Rattle.snl_syntax.specs.Programs.{ClauseTree, StateTree, StateSetTree, ProgramTree}
use Rattle.snl_syntax.specs.Statements.{BlockTree}
use Rattle.snl_names.specs.declared.sites.Purpose.TheVariants.{Read}
use Rattle.snl_names.specs.Programs.{in_definitions, in_target, is_always_true, in_clause, in_clauses, in_plain_block, in_state, in_numbered, in_states, in_all_states, in_state_set, in_numbered_set, in_state_sets, in_all_sets, in_program_parts, program_sight}
use Rattle.snl_names.specs.declared.sites.Room.{Room}
use Rattle.snl_names.specs.declared.sites.Room.TheVariants as room
use Rattle.snl_names.specs.Scopes.{scope_of}
use Rattle.snl_names.specs.Sights.{Sight, within}
use Rattle.snl_names.specs.Sites.{in_expression, in_block, declares, maybe}
use Rattle.snl_meaning.specs.declared.instrs.Instr.{Instr}
use Rattle.snl_meaning.specs.declared.instrs.Instr.TheVariants.{End}
use Rattle.snl_emit.specs.BlockCode.{block_code}
use Rattle.snl_emit.specs.ExpressionCode.{expression_code}
use Rattle.snl_flat.specs.declared.starts.Piece.{Piece}
use Rattle.snl_flat.specs.declared.starts.Piece.TheVariants.{ProgramEntry, ProgramExit, Entry, Exit, Condition, Block}
use Rattle.snl_flat.specs.Heres.{here_in}
use Rattle.snl_flat.specs.Inside.{NamesInside, set_of, IsInPiece}
use Rattle.snl_flat.specs.Layout.{program_code, program_starts}
use Rattle.snl_flat.specs.Pieces.{PieceTree, Test, Action, state_at, clause_at, piece_of, is_kept}
use Rattle.snl_flat.specs.Reached.{Table}
use Rattle.snl_flat.specs.Starts.{holds_in, start_in}
use Rattle.snl_flat.proofs.Inside.{Whole, whole-condition, whole-block}
use Rattle.snl_flat.proofs.InsideLists.{get-after, get-before}
use Rattle.snl_flat.proofs.InsideParts.{fits-at, AllIn, in-front, in-back, in-all}
use Rattle.snl_flat.proofs.InsideWords.{Named}
use Rattle.snl_flat.proofs.Placed.{get-behind, piece_code, Stands, all-stand}

module _ (p : ProgramTree) where
  -- ---- the sites of a piece

  -- of a condition
  abbrev TestIn : ExprTree → Type 0
  TestIn e = (w : Bool) × (s : Sight) × AllIn p (in_expression w s Read e)

  -- of a block
  abbrev ActionIn : BlockTree → Type 0
  ActionIn b = (c : Room) × (g : List Token) × (s : Sight) × (l : Bool) × AllIn p (in_block c g s l b)

  -- of a piece
  abbrev PieceIn : PieceTree → Type 0
  PieceIn (Test set e) = TestIn e
  PieceIn (Action set b) = ActionIn b

  -- of a clause
  abbrev ClauseIn : ClauseTree → Type 0
  ClauseIn c = (s : Sight) × (g : List Token) × (blocked : Bool) × AllIn p (in_clause s g blocked c)

  -- of a state
  abbrev StateIn : StateTree → Type 0
  StateIn st = (outer : Sight) × (g : List Token) × AllIn p (in_state outer g st)

  -- of a state set
  abbrev SetIn : StateSetTree → Type 0
  SetIn g = (outer : Sight) × AllIn p (in_state_set outer g)

  -- of what may be missing
  abbrev IfThere : {A : Type 0} → (A → Type 0) → Option A → Type 0
  IfThere P None = Unit {0}
  IfThere P (Some a) = P a

  -- what is found in what may be missing
  then-there : {A B : Type 0} (P : A → Type 0) (Q : B → Type 0) (go : A → Option B) (o : Option A) → IfThere P o → ((a : A) → P a → IfThere Q (go a)) → IfThere Q (option_and_then go o)
  then-there P Q go None is k = tt
  then-there P Q go (Some a) is k = k a is

  -- what is made of it
  map-there : {A B : Type 0} (P : A → Type 0) (Q : B → Type 0) (f : A → B) (o : Option A) → IfThere P o → ((a : A) → P a → Q (f a)) → IfThere Q (option_map f o)
  map-there P Q f None is k = tt
  map-there P Q f (Some a) is k = k a is

  -- clauses
  clauses-in : (cs : List ClauseTree) (s : Sight) (g : List Token) (blocked : Bool) → AllIn p (in_clauses s g blocked cs) → (i : ℕ) → IfThere ClauseIn (slice_get cs i)
  clauses-in [] s g blocked all i = tt
  clauses-in (c ∷ cs) s g blocked all zero = (s, g, blocked, in-front p (in_clause s g blocked c) (in_clauses s g (blocked || is_always_true s c) cs) all)
  clauses-in (c ∷ cs) s g blocked all (suc i) =
      clauses-in cs s g (blocked || is_always_true s c) (in-back p (in_clause s g blocked c) (in_clauses s g (blocked || is_always_true s c) cs) all) i

  -- states
  states-in : (sts : List StateTree) (outer : Sight) (g : List Token) (n : ℕ) → AllIn p (in_states outer g n sts) → (i : ℕ) → IfThere StateIn (slice_get sts i)
  states-in [] outer g n all i = tt
  states-in (st ∷ sts) outer g n all zero = (outer, g, (in-front p (in_numbered outer g n st) (in_states outer g (suc n) sts) all).1)
  states-in (st ∷ sts) outer g n all (suc i) = states-in sts outer g (suc n) (in-back p (in_numbered outer g n st) (in_states outer g (suc n) sts) all) i

  -- state sets
  sets-in : (gs : List StateSetTree) (outer : Sight) (names : List Token) (n : ℕ) → AllIn p (in_state_sets outer names n gs) → (i : ℕ) → IfThere SetIn (slice_get gs i)
  sets-in [] outer names n all i = tt
  sets-in (g ∷ gs) outer names n all zero = (outer, (in-front p (in_numbered_set outer names n g) (in_state_sets outer names (suc n) gs) all).1)
  sets-in (g ∷ gs) outer names n all (suc i) = sets-in gs outer names (suc n) (in-back p (in_numbered_set outer names n g) (in_state_sets outer names (suc n) gs) all) i

  -- a block outside of clauses
  block-in : (o : Option BlockTree) (s : Sight) (g : List Token) → AllIn p (maybe (in_plain_block s g) o) → IfThere ActionIn o
  block-in None s g all = tt
  block-in (Some b) s g all = (room.Elsewhere, g, s, false, all)

  -- a condition
  condition-in : (o : Option ExprTree) (s : Sight) → AllIn p (maybe (in_expression true s Read) o) → IfThere TestIn o
  condition-in None s all = tt
  condition-in (Some e) s all = (true, s, all)

  -- the parts of a program
  parts-in : IfThere ActionIn p.entry × AllIn p (in_all_sets (program_sight p) p.state_sets) × IfThere ActionIn p.exit
  parts-in =
      let s = program_sight p in
      let entry = maybe (in_plain_block s []) p.entry in
      let sets = in_all_sets s p.state_sets in
      let exit = maybe (in_plain_block s []) p.exit in
      let defs = declares [] (scope_of [] p.definitions) ++ in_program_parts s.scopes [] p.definitions in
      let all = in-all p in
      let three = in-front p (defs ++ entry ++ sets) exit all in
      let two = in-front p (defs ++ entry) sets three in
      (block-in p.entry s [] (in-back p defs entry two), in-back p (defs ++ entry) sets three, block-in p.exit s [] (in-back p (defs ++ entry ++ sets) exit all))

  -- a state by its number
  state-in : (set state : ℕ) → IfThere StateIn (state_at p set state)
  state-in set state =
      then-there SetIn StateIn (λ g. slice_get g.states state) (slice_get p.state_sets set)
      (sets-in p.state_sets (program_sight p) (map (λ g. g.name) p.state_sets) 0 parts-in.1 set)
      (λ g is. states-in g.states (within (scope_of is.0.scopes g.definitions) is.0) (map (λ s. s.name) g.states) 0
      (in-back p (in_definitions false is.0 g.definitions) (in_all_states (within (scope_of is.0.scopes g.definitions) is.0) g.states) is.1) state)

  -- the parts of a state
  state-parts : (st : StateTree) → StateIn st → IfThere ActionIn st.entry × ((i : ℕ) → IfThere ClauseIn (slice_get st.clauses i)) × IfThere ActionIn st.exit
  state-parts st is =
      let outer = is.0 in
      let g = is.1 in
      let s = within (scope_of outer.scopes st.definitions) outer in
      let entry = maybe (in_plain_block s g) st.entry in
      let clauses = in_clauses s g false st.clauses in
      let exit = maybe (in_plain_block s g) st.exit in
      let defs = in_definitions true outer st.definitions in
      let three = in-front p (defs ++ entry ++ clauses) exit is.2 in
      let two = in-front p (defs ++ entry) clauses three in (
        block-in st.entry s g (in-back p defs entry two),
        clauses-in st.clauses s g false (in-back p (defs ++ entry) clauses three),
        block-in st.exit s g (in-back p (defs ++ entry ++ clauses) exit is.2),
      )

  -- the parts of a clause
  clause-parts : (c : ClauseTree) → ClauseIn c → IfThere TestIn c.condition × ActionIn c.block
  clause-parts c is =
      let s = is.0 in
      let g = is.1 in
      let condition = maybe (in_expression true s Read) c.condition in
      let block = in_block room.Clause g s false c.block in
      let own = is.3.1 in
      let two = in-front p (condition ++ block) (in_target g c.target) own in
      (condition-in c.condition s (in-front p condition block two), (room.Clause, g, s, false, in-back p condition block two))

  -- a clause by its number
  clause-in : (set state k : ℕ) → IfThere ClauseIn (clause_at p set state k)
  clause-in set state k = then-there StateIn ClauseIn (λ s. slice_get s.clauses k) (state_at p set state) (state-in set state) (λ st is. (state-parts st is).1 k)

  -- a piece
  piece-in : (name : Piece) → IfThere PieceIn (piece_of p name)
  piece-in ProgramEntry = map-there ActionIn PieceIn (Action 0) p.entry parts-in.0 (λ b is. is)
  piece-in ProgramExit = map-there ActionIn PieceIn (Action 0) p.exit parts-in.2 (λ b is. is)
  piece-in (Entry set state) =
      then-there StateIn PieceIn (λ s. option_map (Action set) s.entry) (state_at p set state) (state-in set state)
      (λ st is. map-there ActionIn PieceIn (Action set) st.entry (state-parts st is).0 (λ b k. k))
  piece-in (Exit set state) =
      then-there StateIn PieceIn (λ s. option_map (Action set) s.exit) (state_at p set state) (state-in set state)
      (λ st is. map-there ActionIn PieceIn (Action set) st.exit (state-parts st is).2 (λ b k. k))
  piece-in (Condition set state k) =
      then-there ClauseIn PieceIn (λ c. option_map (Test set) c.condition) (clause_at p set state k) (clause-in set state k)
      (λ c is. map-there TestIn PieceIn (Test set) c.condition (clause-parts c is).0 (λ e l. l))
  piece-in (Block set state k) = map-there ClauseIn PieceIn (λ c. Action set c.block) (clause_at p set state k) (clause-in set state k) (λ c is. (clause-parts c is).1)

  -- ---- the code of a piece

  -- it lies inside
  piece-whole : (piece : PieceTree) → PieceIn piece → Whole (Named p (set_of piece)) (piece_code p piece)
  piece-whole (Test set e) is = whole-condition p set (Some e) is.0 is.1 is.2
  piece-whole (Action set b) is = whole-block p set b is.0 is.1 is.2 is.3 is.4

  -- its last instruction ends it
  piece-ends : (piece : PieceTree) → (x : List Instr) × (piece_code p piece ≡ x ++ End ∷ [])
  piece-ends (Test set e) = (expression_code (here_in p set) e, refl)
  piece-ends (Action set b) = (block_code (here_in p set) 0 0 b, refl)

  -- an instruction in it
  in-piece : (code before after : List Instr) (piece : PieceTree) (start at : ℕ) (i : Instr) → code ≡ before ++ (piece_code p piece ++ after) → start ≡ length before → PieceIn piece →
      IsInPiece code start at → slice_get code at ≡ Some i → NamesInside p (set_of piece) i
  in-piece code before after piece start at i is from known inside there = by (cases_lt n (length own))
    where
      own : List Instr
      own = piece_code p piece

      n : ℕ
      n = at - start

      at-is : at ≡ length before + n
      at-is = let more = inside.0 in omega (arith, more, from)

      found : slice_get (own ++ after) n ≡ Some i
      found = sym (get-after before (own ++ after) n) ∙ ap (slice_get (before ++ (own ++ after))) (sym at-is) ∙ ap (λ (l : List Instr). slice_get l at) (sym is) ∙ there

      by : (n < length own) ⊎ (length own ≤ n) → NamesInside p (set_of piece) i
      by (inl less) =
          let k = fits-at (Named p (set_of piece)) 0 0 own n i (piece-whole piece known 0 0) (sym (get-before own after n less) ∙ found) in k.names
      by (inr more) =
          let e = piece-ends piece in
          let x = e.0 in
          let long : length own ≡ length x + 1 = ap (λ (l : List Instr). length l) e.1 ∙ length-append x (End ∷ []) in
          let last : slice_get own (length x) ≡ Some End = ap (λ (l : List Instr). slice_get l (length x)) e.1 ∙ get-behind x End [] in
          let end : slice_get code (length before + length x) ≡ Some End =
          ap (λ (l : List Instr). slice_get l (length before + length x)) is ∙ get-after before (own ++ after) (length x)
          ∙ get-before own after (length x) (omega (arith, long)) ∙ last in
          absurd (inside.1 (length before + length x) (omega (arith, from)) (omega (arith, at-is, more, long)) end)

  -- an instruction in a piece of the program
  pub own-names : (reached : Table) (name : Piece) (piece : PieceTree) (start at : ℕ) (i : Instr) → piece_of p name ≡ Some piece → start_in (program_starts reached p) name ≡ Some start →
      IsInPiece (program_code reached p) start at → slice_get (program_code reached p) at ≡ Some i → NamesInside p (set_of piece) i
  own-names reached name piece start at i is begins inside there =
      by (is_kept (holds_in (program_starts reached p)) name) (piece_of p name) (start_in (program_starts reached p) name) is begins (all-stand p reached name) (piece-in name)
    where
      by : (b : Bool) (o : Option PieceTree) (t : Option ℕ) → o ≡ Some piece → t ≡ Some start → Stands p (program_code reached p) (if b then o else None) t → IfThere PieceIn o →
          NamesInside p (set_of piece) i
      by b None t no_piece at_start stands known = absurd (cc)
      by b (Some q) None this no_start stands known = absurd (cc)
      by false (Some q) (Some s) this at_start stands known = absurd stands
      by true (Some q) (Some s) this at_start stands known =
          let one : q ≡ piece = cc in
          let here : s ≡ start = cc in
          in-piece (program_code reached p) stands.0 stands.1 piece start at i
          (stands.2 ∙ ap (λ (r : PieceTree). stands.0 ++ (piece_code p r ++ stands.1)) one) (sym here ∙ stands.3) (subst PieceIn one known) inside there
