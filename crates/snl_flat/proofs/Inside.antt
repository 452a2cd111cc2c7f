-- Each instruction of a program's code lies inside.
use Rattle.std.proofs.Common.{◌≡◌, ◌∙◌, ◌+◌, ◌<◌, ◌≤◌, inl, inr, refl, sym, ap, subst, arith, ℕ, zero, suc, pos, Bool, true, false, List, [], ◌∷◌, ◌++◌, Option, None, Some, length, length-append, map, slice_get}
use Rattle.std.specs.Prelude.{◌||◌, is_some}
use Rattle.std.specs.List.{flat_map}
use Rattle.std.proofs.lemmas.List.{length-map}
use Rattle.snl_text.specs.declared.tokens.Token.{Token}
use Rattle.snl_syntax.specs.Expressions.{ExprTree}
use Rattle.snl_syntax.specs.Definitions.{DefinitionTree, declaration, assign, monitor, sync, sync_queue, event_flags, setting, function}
use Rattle.snl_syntax.specs.Functions.{ParameterTree, FunctionTree}
use Rattle.snl_syntax.specs.Programs.{ClauseTree, StateTree, StateSetTree, ProgramTree}
use Rattle.snl_syntax.specs.Statements.{BlockTree}
use Rattle.snl_names.specs.declared.sites.Purpose.TheVariants.{Read}
use Rattle.snl_names.specs.Programs.{in_definitions, in_type, in_function, in_program_part, in_target, is_always_true, in_clause, in_clauses, in_plain_block, in_state, in_numbered, in_states, in_all_states, in_numbered_set, in_state_sets, in_all_sets, in_program_parts, program_sight}
use Rattle.snl_names.specs.declared.calls.Heading.{Heading}
use Rattle.snl_names.specs.declared.sites.Room.{Room}
use Rattle.snl_names.specs.declared.sites.Room.TheVariants as room
use Rattle.snl_names.specs.Scopes.{Scope, scope_of}
use Rattle.snl_names.specs.Sights.{Sight, within, headings_by, parameter_scope}
use Rattle.snl_names.specs.Variables.{function_by, functions_of}
use Rattle.snl_names.specs.Sites.{at_type, in_expression, in_block, declares, maybe}
use Rattle.snl_meaning.specs.declared.instrs.Instr.{Instr}
use Rattle.snl_meaning.specs.declared.instrs.Instr.TheVariants.{Push, Return, End}
use Rattle.snl_meaning.specs.declared.instrs.Variable.{Variable}
use Rattle.snl_meaning.specs.declared.names.Placed.{Placed}
use Rattle.snl_meaning.specs.Functions.{Routine, here_below}
use Rattle.snl_meaning.specs.Names.{variable_in}
use Rattle.snl_meaning.specs.Run.{Entry}
use Rattle.snl_emit.specs.BlockCode.{block_code, condition_piece, block_piece}
use Rattle.snl_emit.specs.ExpressionCode.{expression_code}
use Rattle.snl_emit.specs.FunctionCode.{function_code, functions_code, entries_from}
use Rattle.snl_flat.specs.Heres.{entries_in, function_places, here_in, if_there, parameter_variable, routine_of, routines_in}
use Rattle.snl_flat.specs.Inside.{IsEntryInside, LeadsInside, NamesInside, RunsOn}
use Rattle.snl_flat.specs.Layout.{row_code, maybe_code, clause_code, state_code, code_if, kept_code, set_code, routines_code, program_code}
use Rattle.snl_flat.specs.Reached.{Table}
use Rattle.snl_flat.proofs.InsideParts.{Fits, fits-append, fits-all, fits-map, fits-at, leads-inside, AllIn, in-front, in-back, in-all, Standing, at-piece, at-function, h, known-in-function}
use Rattle.snl_flat.proofs.InsideValues.{any-value}
use Rattle.snl_flat.proofs.InsideWords.{Named}
use Rattle.snl_flat.proofs.InsideBlocks.{fits-block}
use Rattle.snl_flat.proofs.InsideLists.{get-before}

-- code of pieces lies inside wherever it stands
abbrev pub Whole : (Instr → Type 0) → List Instr → Type 0
Whole N code = (before after : ℕ) → Fits N before after code

-- two of such, one after the other
whole-append : (N : Instr → Type 0) (x y : List Instr) → Whole N x → Whole N y → Whole N (x ++ y)
whole-append N x y f g b a = fits-append N b a x y (f b (length y + a)) (g (b + length x) a)

module _ (p : ProgramTree) (set : ℕ) where
  -- what is known where a piece stands
  abbrev stand : Standing p set
  stand = at-piece p set

  -- ---- pieces

  -- a condition that may be missing
  pub whole-condition : (o : Option ExprTree) (w : Bool) (s : Sight) → AllIn p (maybe (in_expression w s Read) o) → Whole (Named p set) (maybe_code (condition_piece (h p set stand)) o)
  whole-condition None w s all b a = tt
  whole-condition (Some e) w s all b a =
      fits-append (Named p set) b a (expression_code (h p set stand) e) (End ∷ []) (any-value p set stand e w s Read (λ good. tt) all b (1 + a) (omega arith)) (tt, tt, tt)

  -- a block
  pub whole-block : (k : BlockTree) (c : Room) (g : List Token) (s : Sight) (l : Bool) → AllIn p (in_block c g s l k) → Whole (Named p set) (block_piece (h p set stand) k)
  whole-block k c g s l all b a =
      fits-append (Named p set) b a (block_code (h p set stand) 0 0 k) (End ∷ []) (fits-block p set stand k c g s l all 0 0 b (1 + a) (omega arith) (omega arith)) (tt, tt, tt)

  -- one that may be missing
  whole-maybe : (o : Option BlockTree) (s : Sight) (g : List Token) → AllIn p (maybe (in_plain_block s g) o) → Whole (Named p set) (maybe_code (block_piece (h p set stand)) o)
  whole-maybe None s g all = λ b a. tt
  whole-maybe (Some k) s g all = whole-block k room.Elsewhere g s false all

  -- ---- states

  -- clauses
  whole-clauses : (k : ℕ) (cs : List ClauseTree) (s : Sight) (g : List Token) (blocked : Bool) → AllIn p (in_clauses s g blocked cs) →
      Whole (Named p set) (row_code (clause_code (h p set stand)) k cs)
  whole-clauses k [] s g blocked all = λ b a. tt
  whole-clauses k (c ∷ cs) s g blocked all =
      let more = in_clauses s g (blocked || is_always_true s c) cs in
      let own = in-front p (in_clause s g blocked c) more all in
      let condition = maybe (in_expression true s Read) c.condition in
      let block = in_block room.Clause g s false c.block in
      let two = in-front p (condition ++ block) (in_target g c.target) own.1 in
      whole-append (Named p set) (clause_code (h p set stand) k c) (row_code (clause_code (h p set stand)) (suc k) cs)
      (whole-append (Named p set) (maybe_code (condition_piece (h p set stand)) c.condition) (block_piece (h p set stand) c.block)
      (whole-condition c.condition true s (in-front p condition block two))
      (whole-block c.block room.Clause g s false (in-back p condition block two)))
      (whole-clauses (suc k) cs s g (blocked || is_always_true s c) (in-back p (in_clause s g blocked c) more all))

  -- a state
  whole-state : (k : ℕ) (st : StateTree) (outer : Sight) (g : List Token) → AllIn p (in_state outer g st) → Whole (Named p set) (state_code (h p set stand) k st)
  whole-state k st outer g all =
      let s = within (scope_of outer.scopes st.definitions) outer in
      let entry = maybe (in_plain_block s g) st.entry in
      let clauses = in_clauses s g false st.clauses in
      let exit = maybe (in_plain_block s g) st.exit in
      let defs = in_definitions true outer st.definitions in
      let three = in-front p (defs ++ entry ++ clauses) exit all in
      let two = in-front p (defs ++ entry) clauses three in
      whole-append (Named p set) (maybe_code (block_piece (h p set stand)) st.entry) (row_code (clause_code (h p set stand)) 0 st.clauses ++ maybe_code (block_piece (h p set stand)) st.exit)
      (whole-maybe st.entry s g (in-back p defs entry two))
      (whole-append (Named p set) (row_code (clause_code (h p set stand)) 0 st.clauses) (maybe_code (block_piece (h p set stand)) st.exit)
      (whole-clauses 0 st.clauses s g false (in-back p (defs ++ entry) clauses three)) (whole-maybe st.exit s g (in-back p (defs ++ entry ++ clauses) exit all)))

  -- a state that may have no code
  whole-if : (b : Bool) (k : ℕ) (st : StateTree) → Whole (Named p set) (state_code (h p set stand) k st) → Whole (Named p set) (code_if b (h p set stand) k st)
  whole-if true k st all = all
  whole-if false k st all = λ b a. tt

  -- states
  whole-states : (reached : ℕ → Bool) (k n : ℕ) (sts : List StateTree) (outer : Sight) (g : List Token) → AllIn p (in_states outer g n sts) →
      Whole (Named p set) (row_code (kept_code (h p set stand) reached) k sts)
  whole-states reached k n [] outer g all = λ b a. tt
  whole-states reached k n (st ∷ sts) outer g all =
      let own = in-front p (in_numbered outer g n st) (in_states outer g (suc n) sts) all in
      whole-append (Named p set) (kept_code (h p set stand) reached k st) (row_code (kept_code (h p set stand) reached) (suc k) sts)
      (whole-if (reached k) k st (whole-state k st outer g own.1)) (whole-states reached (suc k) (suc n) sts outer g (in-back p (in_numbered outer g n st) (in_states outer g (suc n) sts) all))

-- ---- functions

module _ (p : ProgramTree) where
  -- the sites of a body
  abbrev BodyIn : BlockTree → Type 0
  BodyIn b = (c : Room) × (s : Sight) × AllIn p (in_block c [] s false b)

  -- of the bodies of functions
  abbrev pub BodiesIn : List FunctionTree → Type 0
  BodiesIn [] = Unit {0}
  BodiesIn (f ∷ fs) = BodyIn f.body × BodiesIn fs

  -- of a function
  function-in : (s : Sight) (f : FunctionTree) → AllIn p (in_function s f) → BodyIn f.body
  function-in s f all =
      let front = maybe in_type f.type_name ++ declares [] (parameter_scope f) ++ map (λ (q : ParameterTree). at_type q.type_name) f.parameters.each in
      let room = room.Function (is_some f.type_name) in
      (room, within (parameter_scope f) s, in-back p front (in_block room [] (within (parameter_scope f) s) false f.body) all.1)

  -- of the functions among definitions
  definitions-in : (scopes : List Scope) (above : List Heading) (ds : List DefinitionTree) → AllIn p (in_program_parts scopes above ds) → BodiesIn (flat_map function_by ds)
  definitions-in scopes above [] all = tt
  definitions-in scopes above (d ∷ ds) all =
      by d (in-front p (in_program_part (record { scopes = scopes; functions = above }) d) (in_program_parts scopes (above ++ headings_by d) ds) all)
      (definitions-in scopes (above ++ headings_by d) ds
      (in-back p (in_program_part (record { scopes = scopes; functions = above }) d) (in_program_parts scopes (above ++ headings_by d) ds) all))
    where
      by : (d : DefinitionTree) → AllIn p (in_program_part (record { scopes = scopes; functions = above }) d) → BodiesIn (flat_map function_by ds) →
          BodiesIn (function_by d ++ flat_map function_by ds)
      by (function f) own rest = (function-in (record { scopes = scopes; functions = above }) f own, rest)
      by (declaration x) own rest = rest
      by (assign x) own rest = rest
      by (monitor x) own rest = rest
      by (sync x) own rest = rest
      by (sync_queue x) own rest = rest
      by (event_flags x) own rest = rest
      by (setting x) own rest = rest

  -- what an instruction names is there on every copy
  abbrev pub Everywhere : Instr → Type 0
  Everywhere i = (set : ℕ) → NamesInside p set i

  -- a function
  whole-function : (above : List Token) → length above ≤ length (functions_of p) → (f : FunctionTree) → BodyIn f.body → Whole Everywhere (function_code above (routine_of p f))
  whole-function above few f is b a =
      fits-all (Named p) b a (function_code above (routine_of p f)) (λ set.
      fits-append (Named p set) b a (block_code (h p set (at-function p set above few f)) 0 0 f.body) (Push (pos 0) ∷ Return ∷ [])
      (fits-block p set (at-function p set above few f) f.body is.0 [] is.1 false is.2 0 0 b (2 + a) (omega arith) (omega arith))
      (omega arith, tt, (tt, tt, tt)))

  -- functions
  pub whole-functions : (fs : List FunctionTree) (above : List Token) → length above + length fs ≤ length (functions_of p) → BodiesIn fs →
      Whole Everywhere (functions_code above (map (routine_of p) fs))
  whole-functions [] above few is = λ b a. tt
  whole-functions (f ∷ fs) above few is =
      let more : length (above ++ f.name ∷ []) ≡ length above + 1 = length-append above (f.name ∷ []) in
      whole-append Everywhere (function_code above (routine_of p f)) (functions_code (above ++ f.name ∷ []) (map (routine_of p) fs))
      (whole-function above (omega (arith, few)) f is.0) (whole-functions fs (above ++ f.name ∷ []) (omega (arith, few, more)) is.1)

  -- those of the program
  pub whole-routines : Whole Everywhere (routines_code p)
  whole-routines =
      let s = program_sight p in
      let parts = in_program_parts s.scopes [] p.definitions in
      let names = declares [] (scope_of [] p.definitions) in
      let entry = maybe (in_plain_block s []) p.entry in
      let sets = in_all_sets s p.state_sets in
      let exit = maybe (in_plain_block s []) p.exit in
      let three = in-front p ((names ++ parts) ++ entry ++ sets) exit (in-all p) in
      let two = in-front p ((names ++ parts) ++ entry) sets three in
      whole-functions (functions_of p) [] (omega arith)
      (definitions-in s.scopes [] p.definitions (in-back p names parts (in-front p (names ++ parts) entry two)))

-- ---- programs

module _ (p : ProgramTree) (reached : Table) where
  -- what an instruction names is there on some copy
  abbrev Somewhere : Instr → Type 0
  Somewhere i = (set : ℕ) × RunsOn p set × NamesInside p set i

  -- on this one
  whole-here : (set : ℕ) (code : List Instr) → RunsOn p set → Whole (Named p set) code → Whole Somewhere code
  whole-here set code runs f b a = fits-map (Named p set) Somewhere b a code (λ i names. (set, runs, names)) (f b a)

  -- state sets
  whole-sets : (k : ℕ) (gs : List StateSetTree) (outer : Sight) (names : List Token) → k + length gs ≤ length p.state_sets → AllIn p (in_state_sets outer names k gs) →
      Whole Somewhere (row_code (set_code reached p) k gs)
  whole-sets k [] outer names few all = λ b a. tt
  whole-sets k (g ∷ gs) outer names few all =
      let more = in_state_sets outer names (suc k) gs in
      let own = in-front p (in_numbered_set outer names k g) more all in
      let inside = within (scope_of outer.scopes g.definitions) outer in
      whole-append Somewhere (set_code reached p k g) (row_code (set_code reached p) (suc k) gs)
      (whole-here k (set_code reached p k g) (inl (omega (arith, few)))
      (whole-states p k (reached k) 0 0 g.states inside (map (λ s. s.name) g.states) (in-back p (in_definitions false outer g.definitions) (in_all_states inside g.states) own.1)))
      (whole-sets (suc k) gs outer names (omega (arith, few)) (in-back p (in_numbered_set outer names k g) more all))

  -- the program
  whole-program : Whole Somewhere (program_code reached p)
  whole-program =
      let s = program_sight p in
      let entry = maybe (in_plain_block s []) p.entry in
      let sets = in_all_sets s p.state_sets in
      let exit = maybe (in_plain_block s []) p.exit in
      let defs = declares [] (scope_of [] p.definitions) ++ in_program_parts s.scopes [] p.definitions in
      let all = in-all p in
      let three = in-front p (defs ++ entry ++ sets) exit all in
      let two = in-front p (defs ++ entry) sets three in
      let first = maybe_code (block_piece (here_in p 0)) p.entry in
      let middle = row_code (set_code reached p) 0 p.state_sets in
      let last = maybe_code (block_piece (here_in p 0)) p.exit in
      whole-append Somewhere (routines_code p) (first ++ (middle ++ last))
      (λ b a. fits-map (Everywhere p) Somewhere b a (routines_code p) (λ i all. (0, inr refl, all 0)) (whole-routines p b a))
      (whole-append Somewhere first (middle ++ last)
      (whole-here 0 first (inr refl) (whole-maybe p 0 p.entry s [] (in-back p defs entry two)))
      (whole-append Somewhere middle last
      (whole-sets 0 p.state_sets s (map (λ g. g.name) p.state_sets) (omega arith) (in-back p (defs ++ entry) sets three))
      (whole-here 0 last (inr refl) (whole-maybe p 0 p.exit s [] (in-back p (defs ++ entry ++ sets) exit all)))))

  -- one of its instructions
  pub instr-inside : (at : ℕ) (i : Instr) → slice_get (program_code reached p) at ≡ Some i → LeadsInside (length (program_code reached p)) at i × Somewhere i
  instr-inside at i is =
      let k = fits-at Somewhere 0 0 (program_code reached p) at i (whole-program 0 0) is in
      let front : 0 + at ≡ at = omega arith in
      let long : length (program_code reached p) ≡ at + 1 + (k.behind + 0) = omega (arith, k.long) in
      (leads-inside (length (program_code reached p)) at (0 + at) (k.behind + 0) i front long k.leads, k.names)

  -- one of those of functions
  pub instr-everywhere : (at : ℕ) (i : Instr) → at < length (routines_code p) → slice_get (program_code reached p) at ≡ Some i → (set : ℕ) → NamesInside p set i
  instr-everywhere at i less is =
      let k = fits-at (Everywhere p) 0 0 (routines_code p) at i (whole-routines p 0 0) (sym (get-before (routines_code p) _ at less) ∙ is) in k.names

-- ---- entries

-- What some name means among variables.
abbrev IsNamed : List Placed → Variable → Type 0
IsNamed places v = (offset : ℕ) × (variable_in places offset ≡ Some v)

-- a variable among those of parameters
parameter-named : (places : List Placed) (v : Variable) (offset : ℕ) (o : Option Variable) → variable_in places offset ≡ o → (rest : List Variable) →
    ((m : ℕ) → slice_get rest m ≡ Some v → IsNamed places v) → (n : ℕ) → slice_get (if_there o ++ rest) n ≡ Some v → IsNamed places v
parameter-named places v offset None is rest go n there = go n there
parameter-named places v offset (Some u) is rest go zero there = (offset, is ∙ there)
parameter-named places v offset (Some u) is rest go (suc n) there = go n there

-- each of those is what some name means
row-named : (places : List Placed) (v : Variable) (qs : List ParameterTree) (n : ℕ) → slice_get (flat_map (parameter_variable places) qs) n ≡ Some v → IsNamed places v
row-named places v [] n there = absurd (cc)
row-named places v (q ∷ qs) n there =
    parameter-named places v q.name.pos.offset (variable_in places q.name.pos.offset) refl (flat_map (parameter_variable places) qs) (row-named places v qs) n there

-- each parameter is what some name means in the body
pub parameters-named : (p : ProgramTree) (f : FunctionTree) (n : ℕ) (v : Variable) → slice_get (routine_of p f).parameters n ≡ Some v →
    (offset : ℕ) × (variable_in (function_places p) offset ≡ Some v)
parameters-named p f n v there = row-named (function_places p) v f.parameters.each n there

-- each function's entry lies inside, where the code that is left goes as far
entries-inside : (p : ProgramTree) (size at : ℕ) (fs : List FunctionTree) (above : List Token) → at + length (functions_code above (map (routine_of p) fs)) ≤ size → (k : ℕ) (e : Entry) →
    slice_get (entries_from at above (map (routine_of p) fs)) k ≡ Some e → IsEntryInside p size e
entries-inside p size at [] above fits k e is = absurd (cc)
entries-inside p size at (f ∷ fs) above fits zero e is =
    let one : record { start = at; parameters = (routine_of p f).parameters } ≡ e = cc in
    let rest = functions_code (above ++ f.name ∷ []) (map (routine_of p) fs) in
    let long = length-append (function_code above (routine_of p f)) rest in
    let own = length-append (block_code (here_below above (routine_of p f)) 0 0 f.body) (Push (pos 0) ∷ Return ∷ []) in
    subst (IsEntryInside p size) one (record {
      start = omega (arith, fits, long, own);
      parameters = λ set n v there. (let named = parameters-named p f n v there in known-in-function p set named.0 v named.1);
    })
entries-inside p size at (f ∷ fs) above fits (suc k) e is =
    let rest = functions_code (above ++ f.name ∷ []) (map (routine_of p) fs) in
    let long = length-append (function_code above (routine_of p f)) rest in
    entries-inside p size (at + length (function_code above (routine_of p f))) fs (above ++ f.name ∷ []) (omega (arith, fits, long)) k e is

-- there is one for each function
entries-long : (at : ℕ) (above : List Token) (rs : List Routine) → length (entries_from at above rs) ≡ length rs
entries-long at above [] = refl
entries-long at above (r ∷ rs) = ap suc (entries-long (at + length (function_code above r)) (above ++ r.name ∷ []) rs)

-- as many as the program has
pub entries-count : (p : ProgramTree) → length (entries_in p) ≡ length (functions_of p)
entries-count p = entries-long 0 [] (routines_in p) ∙ length-map (functions_of p) (routine_of p)

-- each lies inside
pub entry-inside : (p : ProgramTree) (reached : Table) (k : ℕ) (e : Entry) → slice_get (entries_in p) k ≡ Some e → IsEntryInside p (length (program_code reached p)) e
entry-inside p reached k e is =
    let first = maybe_code (block_piece (here_in p 0)) p.entry in
    let middle = row_code (set_code reached p) 0 p.state_sets in
    let last = maybe_code (block_piece (here_in p 0)) p.exit in
    let long = length-append (routines_code p) (first ++ (middle ++ last)) in
    entries-inside p (length (program_code reached p)) 0 (functions_of p) [] (omega (arith, long)) k e is
