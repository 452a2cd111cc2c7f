-- The pieces of an accepted program do the same on whatever words of functions.
use Rattle.std.proofs.Common.{◌≡◌, inl, inr, refl, sym, subst, ℕ, zero, suc, Bool, true, false, ◌||◌, List, [], ◌∷◌, ◌++◌, map, Option, None, Some, slice_get}
use Rattle.std.specs.Prelude.{option_and_then, option_map}
use Rattle.std.specs.List.{AllByRecursion, flat_map}
use Rattle.snl_text.specs.declared.tokens.Pos.{Pos}
use Rattle.snl_text.specs.declared.tokens.Token.{Token}
use Rattle.snl_syntax.specs.Expressions.{ExprTree}
use Rattle.snl_syntax.specs.Programs.{ClauseTree, ProgramTree, StateSetTree, StateTree}
use Rattle.snl_syntax.specs.Statements.{BlockTree}
use Rattle.snl_names.specs.declared.calls.Heading.{Heading}
use Rattle.snl_names.specs.declared.options.Options.{Options}
use Rattle.snl_names.specs.declared.sites.Meaning.{Meaning}
use Rattle.snl_names.specs.declared.sites.Meaning.TheVariants as meanings
use Rattle.snl_names.specs.declared.sites.Purpose.TheVariants.{Read}
use Rattle.snl_names.specs.declared.sites.Room.{Room}
use Rattle.snl_names.specs.declared.sites.Room.TheVariants as room
use Rattle.snl_names.specs.declared.sites.Site.{Site}
use Rattle.snl_names.specs.Programs.{in_all_sets, in_all_states, in_clause, in_clauses, in_definitions, in_numbered, in_numbered_set, in_plain_block, in_state, in_state_set, in_state_sets, in_states, in_target, is_always_true, program_sight, sites}
use Rattle.snl_names.specs.Scopes.{meaning, scope_of}
use Rattle.snl_names.specs.Sights.{Sight, headings_by, within}
use Rattle.snl_names.specs.Sites.{in_block, in_expression, maybe}
use Rattle.snl_names.specs.Uses.{use_at}
use Rattle.snl_names.specs.Variables.{variables_of}
use Rattle.snl_flat.specs.declared.starts.Piece.{Piece}
use Rattle.snl_flat.specs.declared.starts.Piece.TheVariants.{Block, Condition, Entry, Exit, ProgramEntry, ProgramExit}
use Rattle.snl_flat.specs.Heres.{name_by, placed_in, routines_in, scene_in}
use Rattle.snl_flat.specs.Pieces.{Action, PieceTree, Test, clause_at, piece_of, state_at}
use Rattle.snl_machine.specs.Accepted.{IsAcceptedTree, IsRead}
use Rattle.snl_machine.proofs.TiedLinks.{at-number}
use Rattle.snl_forgetting.specs.Accepted.{AcceptedForget, PieceForgets}
use Rattle.snl_forgetting.specs.Forgotten.{NoVariable, PiecesForget}
use Rattle.snl_forgetting.proofs.Accepted.{all-numbered, headed-all, names-own, right}
use Rattle.snl_forgetting.proofs.Called.{AreHeaded}
use Rattle.snl_forgetting.proofs.Effects.{no_call_leaves_words}
use Rattle.snl_forgetting.proofs.Placed.{found-in}
use Rattle.snl_forgetting.proofs.Walk.{AreCopied, IsMeant, IsOwn, IsRight, IsSound, back, front, own-block, own-in}

module _ (o : Options) (p : ProgramTree) (embedded : List Pos) (beyond : Option Pos) (read : IsRead p) (accepted : IsAcceptedTree o p embedded beyond) where
  -- what calls see of all functions
  abbrev all-headings : List Heading
  all-headings = flat_map headings_by p.definitions

  module _ (set : ℕ) where
    -- the variables that pieces name are those of the copy
    copied : AreCopied (sites p) (placed_in p set)
    copied at v is = (found-in false (variables_of p set) 0 at v is).shared

    abbrev P : Site → Type 0
    P = IsSound (sites p) (placed_in p set)

    -- all sites are sound there
    sound : AllByRecursion P (sites p)
    sound = all-numbered P (sites p) (λ n x is. (meant (use_at x), at-number IsRight (sites p) n x (right o p embedded beyond read accepted) is))
      where
        meant : (u : Option (Token × Meaning)) → IsMeant (sites p) (placed_in p set) u
        meant None = tt
        meant (Some u) = inr copied

    -- whatever a name means
    any-own : (mn : Meaning) → IsOwn (scene_in p set) NoVariable mn
    any-own (meanings.Variable d size) = λ v is. inl (copied d.offset v is)
    any-own (meanings.Flag d) = λ v is. inl (copied d.offset v is)
    any-own meanings.Number = tt
    any-own meanings.Nothing = tt

    -- what functions leave is seen by no piece that names none of their variables
    laws : PiecesForget (scene_in p set)
    laws = no_call_leaves_words (routines_in p) (scene_in p set) refl (names-own o p embedded beyond read accepted set (name_by (slice_get p.state_sets set)))

    module _ (s : Sight) (same : s.functions ≡ all-headings) where
      -- what calls see here
      headed : AreHeaded (scene_in p set).callees s.functions
      headed = subst (AreHeaded (scene_in p set).callees) (sym same) (headed-all o p embedded beyond read accepted set (name_by (slice_get p.state_sets set)))

      -- a block
      block-forgets : (c : Room) (g : List Token) (l : Bool) (b : BlockTree) → AllByRecursion P (in_block c g s l b) → PieceForgets p (Action set b)
      block-forgets c g l b all =
          laws.block b (own-block (scene_in p set) (λ at v is. inl (copied at v is)) NoVariable s (λ t. any-own (meaning s.scopes t)) headed c g l b all)

      -- one that may be missing
      maybe-forgets : (g : List Token) (found : Option BlockTree) → AllByRecursion P (maybe (in_plain_block s g) found) → (piece : PieceTree) → option_map (Action set) found ≡ Some piece →
          PieceForgets p piece
      maybe-forgets g None all piece is = absurd (cc)
      maybe-forgets g (Some b) all piece is = subst (PieceForgets p) (let it : Action set b ≡ piece = cc in it) (block-forgets room.Elsewhere g false b all)

      -- a condition that may be missing
      test-forgets : (found : Option ExprTree) → AllByRecursion P (maybe (in_expression true s Read) found) → (piece : PieceTree) → option_map (Test set) found ≡ Some piece → PieceForgets p piece
      test-forgets None all piece is = absurd (cc)
      test-forgets (Some e) all piece is =
          subst (PieceForgets p) (let it : Test set e ≡ piece = cc in it)
          (laws.condition (Some e) (own-in (scene_in p set) NoVariable s (λ t. any-own (meaning s.scopes t)) headed true Read refl e all))

    -- ---- where pieces stand

    -- the sites of a state
    record IsState (a : StateTree) : Type 0 where
      outer : Sight
      names : List Token
      functions : outer.functions ≡ all-headings
      all : AllByRecursion P (in_state outer names a)

    -- those of a clause
    record IsClause (c : ClauseTree) : Type 0 where
      sight : Sight
      names : List Token
      blocked : Bool
      functions : sight.functions ≡ all-headings
      all : AllByRecursion P (in_clause sight names blocked c)

    -- a state set by its number
    set-at : (outer : Sight) (g : List Token) (k : ℕ) (l : List StateSetTree) (n : ℕ) (a : StateSetTree) → slice_get l n ≡ Some a → AllByRecursion P (in_state_sets outer g k l) →
        AllByRecursion P (in_state_set outer a)
    set-at outer g k [] n a is all = absurd (cc)
    set-at outer g k (x ∷ l) zero a is all =
        subst (λ (y : StateSetTree). AllByRecursion P (in_state_set outer y)) (let it : x ≡ a = cc in it) (front P (in_numbered_set outer g k x) (in_state_sets outer g (suc k) l) all).1
    set-at outer g k (x ∷ l) (suc n) a is all = set-at outer g (suc k) l n a is (back P (in_numbered_set outer g k x) (in_state_sets outer g (suc k) l) all)

    -- a state by its number
    state-in : (outer : Sight) (g : List Token) (k : ℕ) (l : List StateTree) (n : ℕ) (a : StateTree) → slice_get l n ≡ Some a → AllByRecursion P (in_states outer g k l) →
        AllByRecursion P (in_state outer g a)
    state-in outer g k [] n a is all = absurd (cc)
    state-in outer g k (x ∷ l) zero a is all =
        subst (λ (y : StateTree). AllByRecursion P (in_state outer g y)) (let it : x ≡ a = cc in it) (front P (in_numbered outer g k x) (in_states outer g (suc k) l) all).1
    state-in outer g k (x ∷ l) (suc n) a is all = state-in outer g (suc k) l n a is (back P (in_numbered outer g k x) (in_states outer g (suc k) l) all)

    -- a clause by its number
    clause-in : (s : Sight) → s.functions ≡ all-headings → (g : List Token) (b : Bool) (l : List ClauseTree) (n : ℕ) (c : ClauseTree) → slice_get l n ≡ Some c →
        AllByRecursion P (in_clauses s g b l) → IsClause c
    clause-in s same g b [] n c is all = absurd (cc)
    clause-in s same g b (x ∷ l) zero c is all =
        subst IsClause (let it : x ≡ c = cc in it)
        (record { sight = s; names = g; blocked = b; functions = same; all = front P (in_clause s g b x) (in_clauses s g (b || is_always_true s x) l) all })
    clause-in s same g b (x ∷ l) (suc n) c is all =
        clause-in s same g (b || is_always_true s x) l n c is (back P (in_clause s g b x) (in_clauses s g (b || is_always_true s x) l) all)

    -- the blocks of the program, and its state sets
    abbrev before : List Site
    before = Rattle.snl_forgetting.proofs.Order.parts_of p

    abbrev entry : List Site
    entry = maybe (in_plain_block (program_sight p) []) p.entry

    abbrev sets : List Site
    sets = in_all_sets (program_sight p) p.state_sets

    abbrev exit : List Site
    exit = maybe (in_plain_block (program_sight p) []) p.exit

    -- a state
    state-found : (n : ℕ) (a : StateTree) → state_at p set n ≡ Some a → IsState a
    state-found n a is = by (slice_get p.state_sets set) refl is
      where
        by : (found : Option StateSetTree) → slice_get p.state_sets set ≡ found → option_and_then (λ g. slice_get g.states n) found ≡ Some a → IsState a
        by None e is = absurd (cc)
        by (Some g) e is =
            let inside = within (scope_of (program_sight p).scopes g.definitions) (program_sight p) in
            let names = map (λ (x : StateTree). x.name) g.states in
            let own = set-at (program_sight p) (map (λ (x : StateSetTree). x.name) p.state_sets) 0 p.state_sets set g e
            (back P (before ++ entry) sets (front P ((before ++ entry) ++ sets) exit sound)) in
            record {
              outer = inside;
              names = names;
              functions = refl;
              all = state-in inside names 0 g.states n a is (back P (in_definitions false (program_sight p) g.definitions) (in_all_states inside g.states) own);
            }

    -- what stands in a state
    module _ (a : StateTree) (f : IsState a) where
      abbrev inside : Sight
      inside = within (scope_of f.outer.scopes a.definitions) f.outer

      abbrev defs-of : List Site
      defs-of = in_definitions true f.outer a.definitions

      abbrev entry-of : List Site
      entry-of = maybe (in_plain_block inside f.names) a.entry

      abbrev clauses-of : List Site
      clauses-of = in_clauses inside f.names false a.clauses

      abbrev exit-of : List Site
      exit-of = maybe (in_plain_block inside f.names) a.exit

      -- its entry, its clauses and its exit
      entry-all : AllByRecursion P entry-of
      entry-all = back P defs-of entry-of (front P (defs-of ++ entry-of) clauses-of (front P ((defs-of ++ entry-of) ++ clauses-of) exit-of f.all))

      clauses-all : AllByRecursion P clauses-of
      clauses-all = back P (defs-of ++ entry-of) clauses-of (front P ((defs-of ++ entry-of) ++ clauses-of) exit-of f.all)

      exit-all : AllByRecursion P exit-of
      exit-all = back P ((defs-of ++ entry-of) ++ clauses-of) exit-of f.all

    -- a clause
    clause-found : (n k : ℕ) (c : ClauseTree) → clause_at p set n k ≡ Some c → IsClause c
    clause-found n k c is = by (state_at p set n) refl is
      where
        by : (found : Option StateTree) → state_at p set n ≡ found → option_and_then (λ s. slice_get s.clauses k) found ≡ Some c → IsClause c
        by None e is = absurd (cc)
        by (Some a) e is = let f = state-found n a e in clause-in (inside a f) f.functions f.names false a.clauses k c is (clauses-all a f)

    -- its condition and its block
    module _ (c : ClauseTree) (f : IsClause c) where
      abbrev condition-of : List Site
      condition-of = maybe (in_expression true f.sight Read) c.condition

      abbrev block-of : List Site
      block-of = in_block room.Clause f.names f.sight false c.block

      condition-all : AllByRecursion P condition-of
      condition-all = front P condition-of block-of (front P (condition-of ++ block-of) (in_target f.names c.target) f.all.1)

      block-all : AllByRecursion P block-of
      block-all = back P condition-of block-of (front P (condition-of ++ block-of) (in_target f.names c.target) f.all.1)

  -- ---- pieces

  -- a block of a state
  of-state : (set n : ℕ) (part : StateTree → Option BlockTree) (piece : PieceTree) → option_and_then (λ s. option_map (Action set) (part s)) (state_at p set n) ≡ Some piece →
      ((a : StateTree) → IsState set a → option_map (Action set) (part a) ≡ Some piece → PieceForgets p piece) → PieceForgets p piece
  of-state set n part piece is go = by (state_at p set n) refl is
    where
      by : (found : Option StateTree) → state_at p set n ≡ found → option_and_then (λ s. option_map (Action set) (part s)) found ≡ Some piece → PieceForgets p piece
      by None e is = absurd (cc)
      by (Some a) e is = go a (state-found set n a e) is

  -- each piece forgets
  forgets : (name : Piece) (piece : PieceTree) → piece_of p name ≡ Some piece → PieceForgets p piece
  forgets ProgramEntry piece is =
      maybe-forgets 0 (program_sight p) refl [] p.entry
      (back (P 0) (before 0) (entry 0) (front (P 0) (before 0 ++ entry 0) (sets 0) (front (P 0) ((before 0 ++ entry 0) ++ sets 0) (exit 0) (sound 0)))) piece is
  forgets ProgramExit piece is =
      maybe-forgets 0 (program_sight p) refl [] p.exit (back (P 0) ((before 0 ++ entry 0) ++ sets 0) (exit 0) (sound 0)) piece is
  forgets (Entry set n) piece is =
      of-state set n (λ a. a.entry) piece is (λ a f some. maybe-forgets set (inside set a f) f.functions f.names a.entry (entry-all set a f) piece some)
  forgets (Exit set n) piece is =
      of-state set n (λ a. a.exit) piece is (λ a f some. maybe-forgets set (inside set a f) f.functions f.names a.exit (exit-all set a f) piece some)
  forgets (Condition set n k) piece is = by (clause_at p set n k) refl is
    where
      by : (found : Option ClauseTree) → clause_at p set n k ≡ found → option_and_then (λ c. option_map (Test set) c.condition) found ≡ Some piece → PieceForgets p piece
      by None e is = absurd (cc)
      by (Some c) e is = let f = clause-found set n k c e in test-forgets set f.sight f.functions c.condition (condition-all set c f) piece is
  forgets (Block set n k) piece is = by (clause_at p set n k) refl is
    where
      by : (found : Option ClauseTree) → clause_at p set n k ≡ found → option_map (λ c. Action set c.block) found ≡ Some piece → PieceForgets p piece
      by None e is = absurd (cc)
      by (Some c) e is =
          let f = clause-found set n k c e in
          subst (PieceForgets p) (let it : Action set c.block ≡ piece = cc in it) (block-forgets set f.sight f.functions room.Clause f.names false c.block (block-all set c f))

-- so it is of each program
pub accepted_forget : AcceptedForget
accepted_forget = forgets
