-- The code of a program is no longer than its size.
use Rattle.std.proofs.Common.{◌≡◌, ◌≤◌, ◌<◌, ◌+◌, ℕ, suc, Bool, true, false, List, [], ◌∷◌, ◌++◌, Option, None, Some, refl, sym, subst, arith, ap, length, length-append, map, slice_get}
use Rattle.std.proofs.lemmas.List.Sums.{sum_by-cons}
use Rattle.std.proofs.lemmas.Option.{slice_get_within}
use Rattle.std.specs.Prelude.{sum_by}
use Rattle.std.specs.List.{flat_map}
use Rattle.snl_text.specs.declared.tokens.Token.{Token}
use Rattle.snl_syntax.specs.Definitions.{DefinitionTree, declaration, assign, monitor, sync, sync_queue, event_flags, setting, function}
use Rattle.snl_syntax.specs.Programs.{ClauseTree, StateTree, StateSetTree, ProgramTree}
use Rattle.snl_names.specs.Programs.{sites}
use Rattle.snl_names.specs.Variables.{function_by}
use Rattle.snl_meaning.specs.Functions.{here_below}
use Rattle.snl_meaning.specs.declared.instrs.Instr.{Instr}
use Rattle.snl_meaning.specs.Names.{Here}
use Rattle.snl_emit.specs.BlockCode.{condition_piece, block_piece}
use Rattle.snl_emit.specs.FunctionCode.{function_code, functions_code}
use Rattle.snl_emit.specs.Size.{maybe_size, expression_size, block_size}
use Rattle.snl_emit.proofs.BlockSizes.{condition-piece-short, block-piece-short, function-short}
use Rattle.snl_flat.specs.Heres.{here_in, routine_of}
use Rattle.snl_flat.specs.Layout.{row_code, maybe_code, clause_code, state_code, code_if, kept_code, set_code, routines_code, program_code}
use Rattle.snl_flat.specs.Reached.{Table}
use Rattle.snl_flat.specs.Size.{definition_size, clause_size, kept_size, row_size, state_size, set_size, program_size}

-- a row whose members have sizes that do not depend on their numbers
all-short : {A : Type 0} (code : ℕ → A → List Instr) (size : A → ℕ) → ((k : ℕ) (a : A) → length (code k a) ≤ size a) → (k : ℕ) (all : List A) →
    length (row_code code k all) ≤ sum_by size all
all-short code size f k [] = omega arith
all-short code size f k (a ∷ all) =
    omega (arith, length-append (code k a) (row_code code (suc k) all), f k a, all-short code size f (suc k) all, sum_by-cons size a all)

-- a row
row-short : {A : Type 0} (code : ℕ → A → List Instr) (size : ℕ → A → ℕ) → ((k : ℕ) (a : A) → length (code k a) ≤ size k a) → (k : ℕ) (all : List A) →
    length (row_code code k all) ≤ row_size size k all
row-short code size f k [] = omega arith
row-short code size f k (a ∷ all) =
    omega (arith, length-append (code k a) (row_code code (suc k) all), f k a, row-short code size f (suc k) all)

-- a row counts the same by sizes that are the same for each of its members
row-alike : {A : Type 0} (size other : ℕ → A → ℕ) (k : ℕ) (all : List A) → ((n i : ℕ) (a : A) → n ≡ k + i → slice_get all i ≡ Some a → size n a ≡ other n a) →
    row_size size k all ≡ row_size other k all
row-alike size other k [] same = refl
row-alike size other k (a ∷ all) same =
    let here : size k a ≡ other k a = same k 0 a (omega arith) refl in
    let rest : row_size size (suc k) all ≡ row_size other (suc k) all =
    row-alike size other (suc k) all (λ n i b is at. same n (suc i) b (omega (arith, is)) at) in
    λ j. here j + rest j

-- a piece that may be missing
maybe-short : {A : Type 0} (code : A → List Instr) (size : A → ℕ) → ((a : A) → length (code a) ≤ size a) → (o : Option A) → length (maybe_code code o) ≤ maybe_size size o
maybe-short code size f None = omega arith
maybe-short code size f (Some a) = f a

module _ (h : Here) where
  -- a clause
  clause-short : (k : ℕ) (c : ClauseTree) → length (clause_code h k c) ≤ clause_size h.sites c
  clause-short k c =
      omega (
        arith,
        length-append (maybe_code (condition_piece h) c.condition) (block_piece h c.block),
        maybe-short (condition_piece h) (expression_size h.sites) (condition-piece-short h) c.condition,
        block-piece-short h c.block,
      )

  -- a state
  state-short : (k : ℕ) (s : StateTree) → length (state_code h k s) ≤ state_size h.sites s
  state-short k s =
      let entry = maybe_code (block_piece h) s.entry in
      let clauses = row_code (clause_code h) 0 s.clauses in
      let exit = maybe_code (block_piece h) s.exit in
      omega (
        arith,
        length-append entry (clauses ++ exit),
        length-append clauses exit,
        maybe-short (block_piece h) (block_size h.sites) (block-piece-short h) s.entry,
        all-short (clause_code h) (clause_size h.sites) clause-short 0 s.clauses,
        maybe-short (block_piece h) (block_size h.sites) (block-piece-short h) s.exit,
      )

  -- a state that may have no code
  if-short : (b : Bool) (k : ℕ) (s : StateTree) → length (code_if b h k s) ≤ kept_size h.sites b s
  if-short true k s = state-short k s
  if-short false k s = omega arith

-- the functions among definitions
functions-short : (p : ProgramTree) (ds : List DefinitionTree) (above : List Token) →
    length (functions_code above (map (routine_of p) (flat_map function_by ds))) ≤ sum_by (definition_size (sites p)) ds
functions-short p [] above = omega arith
functions-short p (function f ∷ ds) above =
    let rest = functions_code (above ++ f.name ∷ []) (map (routine_of p) (flat_map function_by ds)) in
    let own = function-short (here_below above (routine_of p f)) f.body in
    let more = functions-short p ds (above ++ f.name ∷ []) in
    omega (arith, length-append (function_code above (routine_of p f)) rest, own, more, sum_by-cons (definition_size (sites p)) (function f) ds)
functions-short p (declaration d ∷ ds) above = let more = functions-short p ds above in omega (arith, more, sum_by-cons (definition_size (sites p)) (declaration d) ds)
functions-short p (assign a ∷ ds) above = let more = functions-short p ds above in omega (arith, more, sum_by-cons (definition_size (sites p)) (assign a) ds)
functions-short p (monitor q ∷ ds) above = let more = functions-short p ds above in omega (arith, more, sum_by-cons (definition_size (sites p)) (monitor q) ds)
functions-short p (sync y ∷ ds) above = let more = functions-short p ds above in omega (arith, more, sum_by-cons (definition_size (sites p)) (sync y) ds)
functions-short p (sync_queue q ∷ ds) above = let more = functions-short p ds above in omega (arith, more, sum_by-cons (definition_size (sites p)) (sync_queue q) ds)
functions-short p (event_flags names ∷ ds) above = let more = functions-short p ds above in omega (arith, more, sum_by-cons (definition_size (sites p)) (event_flags names) ds)
functions-short p (setting o ∷ ds) above = let more = functions-short p ds above in omega (arith, more, sum_by-cons (definition_size (sites p)) (setting o) ds)

module _ (p : ProgramTree) (reached : Table) where
  -- a state set
  set-short : (n : ℕ) (g : StateSetTree) → length (set_code reached p n g) ≤ set_size (sites p) (reached n) g
  set-short n g =
      omega (arith, row-short (kept_code (here_in p n) (reached n)) (λ k s. kept_size (sites p) (reached n k) s) (λ k s. if-short (here_in p n) (reached n k) k s) 0 g.states)

  -- the program
  pub code-short : (code : List Instr) → code ≡ program_code reached p → length code ≤ program_size reached p
  code-short code is =
      let h = here_in p 0 in
      let entry = maybe_code (block_piece h) p.entry in
      let sets = row_code (set_code reached p) 0 p.state_sets in
      let exit = maybe_code (block_piece h) p.exit in
      omega (
        arith,
        ap length is,
        length-append (routines_code p) (entry ++ (sets ++ exit)),
        length-append entry (sets ++ exit),
        length-append sets exit,
        functions-short p p.definitions [],
        maybe-short (block_piece h) (block_size (sites p)) (block-piece-short h) p.entry,
        row-short (set_code reached p) (λ k g. set_size (sites p) (reached k) g) set-short 0 p.state_sets,
        maybe-short (block_piece h) (block_size (sites p)) (block-piece-short h) p.exit,
      )

-- tables that tell the same of each state that is there make the same size
pub size-alike : (p : ProgramTree) (reached other : Table) →
    ((set state : ℕ) (g : StateSetTree) → slice_get p.state_sets set ≡ Some g → state < length g.states → reached set state ≡ other set state) →
    program_size reached p ≡ program_size other p
size-alike p reached other same =
    let sets : row_size (λ k g. set_size (sites p) (reached k) g) 0 p.state_sets ≡ row_size (λ k g. set_size (sites p) (other k) g) 0 p.state_sets =
    row-alike (λ k g. set_size (sites p) (reached k) g) (λ k g. set_size (sites p) (other k) g) 0 p.state_sets (λ n i g is at. by n i g (omega (arith, is)) at) in
    omega (arith, sets)
  where
    by : (n i : ℕ) (g : StateSetTree) → n ≡ i → slice_get p.state_sets i ≡ Some g → set_size (sites p) (reached n) g ≡ set_size (sites p) (other n) g
    by n i g is at =
        let states : row_size (λ k s. kept_size (sites p) (reached n k) s) 0 g.states ≡ row_size (λ k s. kept_size (sites p) (other n k) s) 0 g.states =
        row-alike (λ k s. kept_size (sites p) (reached n k) s) (λ k s. kept_size (sites p) (other n k) s) 0 g.states
        (λ m i' s is' at'. let within = slice_get_within g.states i' s at' in
        ap (λ (b : Bool). kept_size (sites p) b s) (same n m g (subst (λ (x : ℕ). slice_get p.state_sets x ≡ Some g) (sym is) at) (omega (arith, is', within)))) in
        omega (arith, states)
