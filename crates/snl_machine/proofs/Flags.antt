-- An accepted program calls known functions with the arguments that they take, and declares what it uses as event flags.
use Rattle.std.proofs.Common.{◌≡◌, ◌∙◌, ◌≤◌, inl, inr, refl, sym, ap, subst, arith, ℕ, zero, suc, Bool, true, false, not, ◌||◌, if◌then◌else◌, List, [], ◌∷◌, ◌++◌, map, Option, None, Some, slice_get, Contains}
use Rattle.std.specs.Prelude.{◌==◌, is_some, is_none}
use Rattle.std.specs.List.{AllByRecursion, flat_map}
use Rattle.std.proofs.lemmas.Bool.{eqb-true, eq-eqb}
use Rattle.std.proofs.lemmas.Grind.{flat_map-append}
use Rattle.snl_text.specs.declared.kinds.Kind.{Kind}
use Rattle.snl_text.specs.declared.kinds.Kind.TheVariants as kind
use Rattle.snl_text.specs.declared.tokens.Pos.{Pos}
use Rattle.snl_text.specs.declared.tokens.Token.{Token}
use Rattle.snl_syntax.specs.Slots.{The, Sign}
use Rattle.snl_syntax.specs.Sequences.{between_slots, maybe_slots, row_slots, sign_slots}
use Rattle.snl_syntax.specs.Expressions.{slots}
use Rattle.snl_syntax.specs.Declarations.{TypeTree, bracket_slots}
use Rattle.snl_syntax.specs.Definitions.{PlaceTree, FlagTree, DefinitionTree, declaration, assign, monitor, sync, sync_queue, event_flags, setting, function, token_slots, place_slots, channels_slots, flag_slots, definition_slots}
use Rattle.snl_syntax.specs.Functions.{ParameterTree, FunctionTree, answer_slots, parameters_slots, function_slots}
use Rattle.snl_syntax.specs.Statements.{BlockTree, block_slots}
use Rattle.snl_syntax.specs.Programs.{TargetTree, to_state, to_exit, ClauseTree, StateTree, StateSetTree, ProgramTree, target_slots, clause_slots, entry_slots, exit_slots, state_slots, state_set_slots, macros_slots, program_slots}
use Rattle.snl_names.specs.declared.calls.Heading.{Heading}
use Rattle.snl_names.specs.declared.options.Options.{Options}
use Rattle.snl_names.specs.declared.scopes.Declared.{Declared}
use Rattle.snl_names.specs.declared.sites.Meaning.{Meaning}
use Rattle.snl_names.specs.declared.sites.Meaning.TheVariants.{Variable, Flag, Number, Nothing}
use Rattle.snl_names.specs.declared.sites.Purpose.TheVariants.{Read, Flagged}
use Rattle.snl_names.specs.declared.sites.Room.TheVariants as room
use Rattle.snl_names.specs.declared.sites.Site.{Site}
use Rattle.snl_names.specs.declared.sites.Site.TheVariants.{Declaration, Use, Call}
use Rattle.snl_names.specs.declared.sites.Size.{Size}
use Rattle.snl_names.specs.declared.sites.Sort.{Sort}
use Rattle.snl_names.specs.declared.sites.Sort.TheVariants as sorts
use Rattle.snl_names.specs.Parts.{listed_names}
use Rattle.snl_names.specs.Programs.{at_defined, defined, in_flag, in_size, queue_size, in_definition, in_definitions, in_type, in_function, in_program_part, in_program_parts, program_sight, in_target, is_always_true, in_clause, in_clauses, in_plain_block, in_state, in_numbered, in_states, in_all_states, in_state_set, in_numbered_set, in_state_sets, in_all_sets, sites}
use Rattle.snl_names.specs.Scopes.{Scope, first_of, scope_of, meaning, declared_as}
use Rattle.snl_names.specs.Sights.{Sight, within, headings_by, parameters_of, parameter_scope}
use Rattle.snl_names.specs.Sites.{in_expression, in_value, at_type, maybe, declares, words_of, in_block}
use Rattle.snl_names.specs.Uses.{declared_pos, use_at, declared_by, declared_in}
use Rattle.snl_rules.specs.declared.rules.Rule.{Rule}
use Rattle.snl_rules.specs.declared.rules.Rule.TheVariants.{Undeclared, NoFlag, UnknownFunction, WrongArguments, DelayElsewhere, NoValue}
use Rattle.snl_rules.specs.Rules.{when, alone}
use Rattle.snl_messages.specs.declared.messages.Severity.TheVariants.{Error}
use Rattle.snl_messages.specs.Wordings.{wording_of}
use Rattle.snl_messages.proofs.MemberLaws.{at_first}
use Rattle.snl_meaning.specs.Names.{flag_at, flags_of}
use Rattle.snl_flat.specs.Inside.{FlagsAreDeclared}
use Rattle.snl_machine.specs.Accepted.{IsRead, IsAcceptedTree, AcceptedDeclaresItsFlags}
use Rattle.snl_machine.proofs.Declared.{In, in-left, in-right}
use Rattle.snl_machine.proofs.NoErrors.{breaks-none}
use Rattle.snl_machine.proofs.Ordered.{Ascends, sub-ascends, kept, kept-ascend}
use Rattle.snl_machine.proofs.Scoped.{good-none, good-more}
use Rattle.snl_machine.proofs.Spoken.{all-standing}
use Rattle.snl_machine.proofs.TiedLinks.{at-number}
use Rattle.snl_machine.proofs.Uses.{offset-of, uses, IsKnown, IsKnownUse, IsGood, Fits, any, both, lead, after, trail, skip, take, three, four, each, optional, between, expressions, brackets, declarations, no-uses, blocks}

-- ---- the event flags that sites declare

-- a name without a size is declared as an event flag
bare-flag : (t : Token) (o : Option Size) (later : Bool) (words : ℕ) → o ≡ None → In t.pos.offset (flag_at (Declaration t (is_none o) later words))
bare-flag t None later words is = inl refl
bare-flag t (Some z) later words is = absurd (cc)

-- an event flag of a scope is declared there
scope-flag : (before ds : Scope) (x : Declared) → In x ds → x.size ≡ None → In x.name.pos.offset (flags_of (declares before ds))
scope-flag before [] x is none = absurd is
scope-flag before (d ∷ ds) x (inl is) none =
    let later = is_some (first_of d.name.text.now before) in
    let own = flag_at (Declaration d.name (is_none d.size) later (words_of d)) in
    subst (λ (y : Declared). In y.name.pos.offset (flags_of (declares before (d ∷ ds)))) is
    (in-left d.name.pos.offset own (flags_of (declares (before ++ d ∷ []) ds)) (bare-flag d.name d.size later (words_of d) (ap (λ (y : Declared). y.size) is ∙ none)))
scope-flag before (d ∷ ds) x (inr is) none =
    in-right x.name.pos.offset (flag_at (Declaration d.name (is_none d.size) (is_some (first_of d.name.text.now before)) (words_of d))) (flags_of (declares (before ++ d ∷ []) ds))
    (scope-flag (before ++ d ∷ []) ds x is none)

module _ (F : ℕ → Type 0) where
  -- all that sites declare are such ones
  abbrev Up : List Site → Type 0
  Up ss = (k : ℕ) → In k (flags_of ss) → F k

  -- those of the first of two lists
  up-front : (ss ts : List Site) → Up (ss ++ ts) → Up ss
  up-front ss ts up k is = up k (subst (In k) (sym (flat_map-append flag_at ss ts)) (in-left k (flags_of ss) (flags_of ts) is))

  -- of the second
  up-back : (ss ts : List Site) → Up (ss ++ ts) → Up ts
  up-back ss ts up k is = up k (subst (In k) (sym (flat_map-append flag_at ss ts)) (in-right k (flags_of ss) (flags_of ts) is))

  -- a scope whose event flags are such ones
  more-good : (outer : List Scope) (ds : List DefinitionTree) → Up (declares [] (scope_of outer ds)) → IsGood F outer → IsGood F (scope_of outer ds ∷ outer)
  more-good outer ds up good = good-more (IsKnown F) tt tt (scope_of outer ds) outer (λ x is. by x is x.size refl) good
    where
      by : (x : Declared) → In x (scope_of outer ds) → (o : Option Size) → x.size ≡ o → IsKnown F (declared_as o x.name)
      by x is None none = up x.name.pos.offset (scope-flag [] (scope_of outer ds) x is none)
      by x is (Some z) some = tt

  -- ---- definitions

  module _ (s : Sight) (good : IsGood F s.scopes) where
    -- a place
    places : (sort : Sort) (word : Token) (a : PlaceTree) (list : Option ℕ) → Fits F (defined sort word s a list) (place_slots a)
    places sort word a list =
        take F (at_defined sort word s a list) a.name (meaning s.scopes a.name) (maybe (in_value s) a.subscript) (maybe_slots bracket_slots a.subscript) refl (good a.name)
        (optional F (in_value s) bracket_slots (brackets F s good) a.subscript)

    -- the name of an event flag
    flags : (f : FlagTree) → Fits F (in_flag s f) (flag_slots f)
    flags f =
        after F (sign_slots kind.To f.to) (in_flag s f) (The f.name ∷ [])
        (take F (Use Flagged f.name (meaning s.scopes f.name) false) f.name (meaning s.scopes f.name) [] [] refl (good f.name) (any F []))

    -- the size of a queue
    queue-sizes : (t : Token) → Fits F (in_size t) (token_slots t)
    queue-sizes t = skip F _ [] (The t ∷ []) refl (any F (The t ∷ []))

    -- a definition
    definition : (in_state : Bool) (d : DefinitionTree) → Fits F (in_definition in_state s d) (definition_slots d)
    definition in_state (declaration d) = declarations F s good false d
    definition in_state (assign a) =
        let own = defined sorts.Assign a.word s a.place (listed_names a.channels) in
        let rest = maybe_slots channels_slots a.channels ++ Sign kind.Semicolon ∷ [] in
        lead F (The a.word) own (place_slots a.place ++ rest) (trail F own (place_slots a.place) rest (places sorts.Assign a.word a.place (listed_names a.channels)))
    definition in_state (monitor a) = between F kind.Monitor kind.Semicolon (defined sorts.Monitor a.name s a None) (place_slots a) (places sorts.Monitor a.name a None)
    definition in_state (sync y) =
        let own = defined sorts.Sync y.place.name s y.place None in
        between F kind.Sync kind.Semicolon (own ++ in_flag s y.flag) (place_slots y.place ++ flag_slots y.flag)
        (both F own (in_flag s y.flag) (place_slots y.place) (flag_slots y.flag) (places sorts.Sync y.place.name y.place None) (flags y.flag))
    definition in_state (sync_queue q) =
        let own = defined (sorts.Queue (queue_size q.size)) q.word s q.place None in
        let flag = maybe (in_flag s) q.flag in
        let size = maybe in_size q.size in
        let end = maybe_slots token_slots q.size ++ Sign kind.Semicolon ∷ [] in
        lead F (The q.word) (own ++ flag ++ size) (place_slots q.place ++ (maybe_slots flag_slots q.flag ++ end))
        (three F own flag size (place_slots q.place) (maybe_slots flag_slots q.flag) end (places (sorts.Queue (queue_size q.size)) q.word q.place None)
        (optional F (in_flag s) flag_slots flags q.flag)
        (trail F size (maybe_slots token_slots q.size) (Sign kind.Semicolon ∷ []) (optional F in_size token_slots queue-sizes q.size)))
    definition in_state (event_flags names) = any F (definition_slots (event_flags names))
    definition in_state (setting o) = skip F _ [] (definition_slots (setting o)) refl (any F (definition_slots (setting o)))
    definition in_state (function f) = any F (definition_slots (function f))

    -- a block that may be missing, with a word before it
    plain : (g : List Token) (word : Kind) (o : Option BlockTree) → Fits F (maybe (in_plain_block s g) o) (maybe_slots (λ b. Sign word ∷ block_slots b) o)
    plain g word o =
        optional F (in_plain_block s g) (λ b. Sign word ∷ block_slots b) (λ b. lead F (Sign word) (in_plain_block s g b) (block_slots b) (blocks F s good room.Elsewhere g false b)) o

    -- where a clause leads
    targets : (g : List Token) (t : TargetTree) → Fits F (in_target g t) (target_slots t)
    targets g (to_state x) = skip F _ [] (target_slots (to_state x)) refl (any F (target_slots (to_state x)))
    targets g to_exit = any F (target_slots to_exit)

    -- a clause
    clause : (g : List Token) (blocked : Bool) (c : ClauseTree) → Fits F (in_clause s g blocked c) (clause_slots c)
    clause g blocked c =
        let condition = maybe (in_expression true s Read) c.condition in
        let own = in_block room.Clause g s false c.block in
        let end = in_target g c.target in
        let all = between_slots kind.OpenParenthesis (maybe_slots slots c.condition) kind.CloseParenthesis ++ (block_slots c.block ++ target_slots c.target) in
        skip F _ (condition ++ own ++ end) (The c.word ∷ all) refl (lead F (The c.word) (condition ++ own ++ end) all
        (three F condition own end (between_slots kind.OpenParenthesis (maybe_slots slots c.condition) kind.CloseParenthesis) (block_slots c.block) (target_slots c.target)
        (between F kind.OpenParenthesis kind.CloseParenthesis condition (maybe_slots slots c.condition) (optional F (in_expression true s Read) slots (expressions F s good true Read) c.condition))
        (blocks F s good room.Clause g false c.block) (targets g c.target)))

    -- clauses
    clauses : (g : List Token) (blocked : Bool) (cs : List ClauseTree) → Fits F (in_clauses s g blocked cs) (row_slots clause_slots cs)
    clauses g blocked [] = any F []
    clauses g blocked (c ∷ cs) =
        both F (in_clause s g blocked c) (in_clauses s g (blocked || is_always_true s c) cs) (clause_slots c) (row_slots clause_slots cs)
        (clause g blocked c) (clauses g (blocked || is_always_true s c) cs)

  -- definitions in their scope
  definitions : (in_state : Bool) (outer : Sight) (ds : List DefinitionTree) → IsGood F (scope_of outer.scopes ds ∷ outer.scopes) →
      Fits F (in_definitions in_state outer ds) (row_slots definition_slots ds)
  definitions in_state outer ds good =
      let inside = within (scope_of outer.scopes ds) outer in
      both F (declares [] (scope_of outer.scopes ds)) (flat_map (in_definition in_state inside) ds) [] (row_slots definition_slots ds) (no-uses F [] (scope_of outer.scopes ds))
      (each F (in_definition in_state inside) definition_slots (definition inside good in_state) ds)

  -- their scope
  defined-good : (in_state : Bool) (outer : Sight) (ds : List DefinitionTree) → Up (in_definitions in_state outer ds) → IsGood F outer.scopes → IsGood F (scope_of outer.scopes ds ∷ outer.scopes)
  defined-good in_state outer ds up good =
      more-good outer.scopes ds (up-front (declares [] (scope_of outer.scopes ds)) (flat_map (in_definition in_state (within (scope_of outer.scopes ds) outer)) ds) up) good

  -- ---- states and state sets

  -- a state
  state : (outer : Sight) → IsGood F outer.scopes → (g : List Token) (a : StateTree) → Up (in_state outer g a) → Fits F (in_state outer g a) (state_slots a)
  state outer good g a up =
      let inside = within (scope_of outer.scopes a.definitions) outer in
      let defs = in_definitions true outer a.definitions in
      let entry = maybe (in_plain_block inside g) a.entry in
      let middle = in_clauses inside g false a.clauses in
      let exit = maybe (in_plain_block inside g) a.exit in
      let good-inside = defined-good true outer a.definitions (up-front defs entry (up-front (defs ++ entry) middle (up-front (defs ++ entry ++ middle) exit up))) good in
      let all = row_slots definition_slots a.definitions ++ (maybe_slots entry_slots a.entry ++ (row_slots clause_slots a.clauses ++ maybe_slots exit_slots a.exit)) in
      let sites-in = defs ++ entry ++ middle ++ exit in
      lead F (The a.word) sites-in (The a.name ∷ between_slots kind.OpenBrace all kind.CloseBrace) (lead F (The a.name) sites-in (between_slots kind.OpenBrace all kind.CloseBrace)
      (between F kind.OpenBrace kind.CloseBrace sites-in all
      (four F defs entry middle exit (row_slots definition_slots a.definitions) (maybe_slots entry_slots a.entry) (row_slots clause_slots a.clauses) (maybe_slots exit_slots a.exit)
      (definitions true outer a.definitions good-inside) (plain inside good-inside g kind.Entry a.entry) (clauses inside good-inside g false a.clauses) (plain inside good-inside g kind.Exit a.exit))))

  -- states
  states : (outer : Sight) → IsGood F outer.scopes → (g : List Token) (k : ℕ) (l : List StateTree) → Up (in_states outer g k l) → Fits F (in_states outer g k l) (row_slots state_slots l)
  states outer good g k [] up = any F []
  states outer good g k (a ∷ l) up =
      both F (in_numbered outer g k a) (in_states outer g (suc k) l) (state_slots a) (row_slots state_slots l)
      (skip F _ (in_state outer g a) (state_slots a) refl (state outer good g a (up-front (in_numbered outer g k a) (in_states outer g (suc k) l) up)))
      (states outer good g (suc k) l (up-back (in_numbered outer g k a) (in_states outer g (suc k) l) up))

  -- a state set
  state-set : (outer : Sight) → IsGood F outer.scopes → (a : StateSetTree) → Up (in_state_set outer a) → Fits F (in_state_set outer a) (state_set_slots a)
  state-set outer good a up =
      let inside = within (scope_of outer.scopes a.definitions) outer in
      let defs = in_definitions false outer a.definitions in
      let rest = in_all_states inside a.states in
      let good-inside = defined-good false outer a.definitions (up-front defs rest up) good in
      let all = row_slots definition_slots a.definitions ++ row_slots state_slots a.states in
      lead F (The a.word) (defs ++ rest) (The a.name ∷ between_slots kind.OpenBrace all kind.CloseBrace) (lead F (The a.name) (defs ++ rest) (between_slots kind.OpenBrace all kind.CloseBrace)
      (between F kind.OpenBrace kind.CloseBrace (defs ++ rest) all
      (both F defs rest (row_slots definition_slots a.definitions) (row_slots state_slots a.states)
      (definitions false outer a.definitions good-inside) (states inside good-inside (map (λ (x : StateTree). x.name) a.states) 0 a.states (up-back defs rest up)))))

  -- state sets
  state-sets : (outer : Sight) → IsGood F outer.scopes → (g : List Token) (k : ℕ) (l : List StateSetTree) → Up (in_state_sets outer g k l) →
      Fits F (in_state_sets outer g k l) (row_slots state_set_slots l)
  state-sets outer good g k [] up = any F []
  state-sets outer good g k (a ∷ l) up =
      both F (in_numbered_set outer g k a) (in_state_sets outer g (suc k) l) (state_set_slots a) (row_slots state_set_slots l)
      (skip F _ (in_state_set outer a) (state_set_slots a) refl (state-set outer good a (up-front (in_numbered_set outer g k a) (in_state_sets outer g (suc k) l) up)))
      (state-sets outer good g (suc k) l (up-back (in_numbered_set outer g k a) (in_state_sets outer g (suc k) l) up))

  -- ---- functions

  -- types use no names
  types-alone : (o : Option TypeTree) → Fits F (maybe in_type o) []
  types-alone None = any F []
  types-alone (Some t) = skip F (at_type t) [] [] refl (any F [])

  -- nor do those of parameters
  parameters-alone : (ps : List ParameterTree) → Fits F (map (λ p. at_type p.type_name) ps) []
  parameters-alone [] = any F []
  parameters-alone (p ∷ ps) = skip F (at_type p.type_name) (map (λ q. at_type q.type_name) ps) [] refl (parameters-alone ps)

  -- parameters are no event flags
  parameters-known : (ps : List ParameterTree) (x : Declared) → In x (parameters_of ps) → IsKnown F (declared_as x.size x.name)
  parameters-known [] x is = absurd is
  parameters-known (p ∷ ps) x (inl is) = subst (λ (y : Declared). IsKnown F (declared_as y.size y.name)) is tt
  parameters-known (p ∷ ps) x (inr is) = parameters-known ps x is

  -- a function
  functions : (s : Sight) → IsGood F s.scopes → (f : FunctionTree) → Fits F (in_function s f) (function_slots f)
  functions s good f =
      let own = parameter_scope f in
      let inside = good-more (IsKnown F) tt tt own s.scopes (parameters-known f.parameters.each) good in
      let types = maybe in_type f.type_name in
      let names = declares [] own in
      let each-type = map (λ (p : ParameterTree). at_type p.type_name) f.parameters.each in
      let body = in_block (room.Function (is_some f.type_name)) [] (within own s) false f.body in
      let behind = between_slots kind.OpenParenthesis (parameters_slots f.parameters) kind.CloseParenthesis in
      let all = types ++ names ++ each-type ++ body in
      skip F _ all (function_slots f) refl
      (after F (answer_slots f.type_name) all (The f.name ∷ (behind ++ block_slots f.body)) (lead F (The f.name) all (behind ++ block_slots f.body)
      (after F behind all (block_slots f.body)
      (four F types names each-type body [] [] [] (block_slots f.body) (types-alone f.type_name) (no-uses F [] own) (parameters-alone f.parameters.each)
      (blocks F (within own s) inside (room.Function (is_some f.type_name)) [] false f.body)))))

  -- a definition of the program
  program-part : (s : Sight) → IsGood F s.scopes → (d : DefinitionTree) → Fits F (in_program_part s d) (definition_slots d)
  program-part s good (function f) = functions s good f
  program-part s good (declaration d) = definition s good false (declaration d)
  program-part s good (assign a) = definition s good false (assign a)
  program-part s good (monitor a) = definition s good false (monitor a)
  program-part s good (sync y) = definition s good false (sync y)
  program-part s good (sync_queue q) = definition s good false (sync_queue q)
  program-part s good (event_flags names) = definition s good false (event_flags names)
  program-part s good (setting o) = definition s good false (setting o)

  -- those of the program
  program-parts : (s : List Scope) → IsGood F s → (above : List Heading) (ds : List DefinitionTree) → Fits F (in_program_parts s above ds) (row_slots definition_slots ds)
  program-parts s good above [] = any F []
  program-parts s good above (d ∷ ds) =
      let here : Sight = record { scopes = s; functions = above } in
      both F (in_program_part here d) (in_program_parts s (above ++ headings_by d) ds) (definition_slots d) (row_slots definition_slots ds)
      (program-part here good d) (program-parts s good (above ++ headings_by d) ds)

  -- a program
  program : (p : ProgramTree) → Up (sites p) → Fits F (sites p) (program_slots p)
  program p up =
      let s = program_sight p in
      let names = declares [] (scope_of [] p.definitions) in
      let parts = in_program_parts s.scopes [] p.definitions in
      let defs = names ++ parts in
      let entry = maybe (in_plain_block s []) p.entry in
      let sets = in_all_sets s p.state_sets in
      let exit = maybe (in_plain_block s []) p.exit in
      let three-up = up-front (defs ++ entry ++ sets) exit up in
      let good = more-good [] p.definitions (up-front names parts (up-front defs entry (up-front (defs ++ entry) sets three-up))) (good-none (IsKnown F) tt tt) in
      let all = row_slots definition_slots p.definitions ++ (maybe_slots entry_slots p.entry ++ (row_slots state_set_slots p.state_sets ++ maybe_slots exit_slots p.exit)) in
      lead F (The p.word) (sites p) (The p.name ∷ (maybe_slots macros_slots p.macros ++ all)) (lead F (The p.name) (sites p) (maybe_slots macros_slots p.macros ++ all)
      (after F (maybe_slots macros_slots p.macros) (sites p) all
      (four F defs entry sets exit (row_slots definition_slots p.definitions) (maybe_slots entry_slots p.entry) (row_slots state_set_slots p.state_sets) (maybe_slots exit_slots p.exit)
      (both F names parts [] (row_slots definition_slots p.definitions) (no-uses F [] (scope_of [] p.definitions)) (program-parts s.scopes good [] p.definitions))
      (plain s good [] kind.Entry p.entry)
      (state-sets s good (map (λ (x : StateSetTree). x.name) p.state_sets) 0 p.state_sets (up-back (defs ++ entry) sets three-up)) (plain s good [] kind.Exit p.exit))))

-- ---- the first use at an offset

-- what is used at an offset of its own is what is found there
declared-at : (low : ℕ) (ss : List Site) (n : ℕ) (s : Site) (t : Token) (m : Meaning) → Ascends low (uses ss) → slice_get ss n ≡ Some s → use_at s ≡ Some (t, m) →
    (low ≤ t.pos.offset) × (declared_in t.pos.offset ss ≡ declared_pos m)
declared-at low [] n s t m ascends is used = absurd (cc)
declared-at low (x ∷ ss) n s t m ascends is used = by n (use_at x) refl ascends is (declared-at low ss) (λ o. declared-at (suc o) ss)
  where
    Rest : ℕ → Type 0
    Rest l = (k : ℕ) (y : Site) (u : Token) (w : Meaning) → Ascends l (uses ss) → slice_get ss k ≡ Some y → use_at y ≡ Some (u, w) →
        (l ≤ u.pos.offset) × (declared_in u.pos.offset ss ≡ declared_pos w)

    found : Option (Token × Meaning) → Option Pos
    found o = declared_by t.pos.offset o (declared_in t.pos.offset ss)

    by : (k : ℕ) (o : Option (Token × Meaning)) → use_at x ≡ o → Ascends low (offset-of o ++ uses ss) → slice_get (x ∷ ss) k ≡ Some s → Rest low → ((l : ℕ) → Rest (suc l)) →
        (low ≤ t.pos.offset) × (declared_in t.pos.offset (x ∷ ss) ≡ declared_pos m)
    by zero None e up there rest later = absurd (let same : x ≡ s = cc in let none : None ≡ Some (t, m) = sym e ∙ ap use_at same ∙ used in cc)
    by zero (Some u) e up there rest later =
        let same : x ≡ s = cc in
        let both : Some u ≡ Some (t, m) = sym e ∙ ap use_at same ∙ used in
        let own : u ≡ (t, m) = cc in
        let place : u.0.pos.offset ≡ t.pos.offset = ap (λ (y : Token × Meaning). y.0.pos.offset) own in (
          let first = up.0 in omega (arith, first, place),
          ap found e ∙ ap (λ (b : Bool). if b then declared_pos u.1 else declared_in t.pos.offset ss) (eq-eqb u.0.pos.offset t.pos.offset place) ∙ ap (λ (y : Token × Meaning). declared_pos y.1) own,
        )
    by (suc k) None e up there rest later = let w = rest k s t m up there used in (w.0, ap found e ∙ w.1)
    by (suc k) (Some u) e up there rest later =
        let w = later u.0.pos.offset k s t m up.1 there used in (
          let first = up.0 in let above = w.0 in omega (arith, first, above),
          ap found e ∙ other u (u.0.pos.offset == t.pos.offset) refl w.0 ∙ w.1,
        )
      where
        other : (u : Token × Meaning) (b : Bool) → (u.0.pos.offset == t.pos.offset) ≡ b → suc u.0.pos.offset ≤ t.pos.offset →
            (if b then declared_pos u.1 else declared_in t.pos.offset ss) ≡ declared_in t.pos.offset ss
        other u true is above = absurd (let same = eqb-true u.0.pos.offset t.pos.offset is in omega (arith, same, above))
        other u false is above = refl

-- ---- sites that keep the rules

-- calls are right, and what is used as an event flag means one
abbrev IsRight : Site → Type 0
IsRight (Call f is_known is_fit may value place) = (is_known ≡ true) × (is_fit ≡ true)
IsRight (Use Flagged x m has_subscript) = (d : Pos) × (m ≡ Flag d)
IsRight s = Unit {0}

-- one of a list has a number
numbered : (k : ℕ) (l : List ℕ) → In k l → (n : ℕ) × (slice_get l n ≡ Some k)
numbered k [] is = absurd is
numbered k (x ∷ l) (inl is) = (0, ap (λ (y : ℕ). Some y) is)
numbered k (x ∷ l) (inr is) = let w = numbered k l is in (suc w.0, w.1)

module _ (o : Options) (p : ProgramTree) (embedded : List Pos) (beyond : Option Pos) (read : IsRead p) (accepted : IsAcceptedTree o p embedded beyond) where
  -- a site breaks no rule by itself that is told as an error
  breaks-no : (before : List Site) (s : Site) (after : List Site) → sites p ≡ before ++ s ∷ after → (rule : Rule) → Contains (alone s) rule → (wording_of rule).severity ≡ Error → ⊥
  breaks-no before s after is rule breaks error =
      breaks-none o p embedded beyond accepted (record { rule = rule; site = s }) (record { before = before; after = after; stands = is; breaks = inl breaks }) error

  -- all sites are right
  all-right : AllByRecursion IsRight (sites p)
  all-right = all-standing IsRight (sites p) [] (sites p) right refl
    where
      right : (before : List Site) (s : Site) (after : List Site) → sites p ≡ before ++ s ∷ after → IsRight s
      right before (Call f true true may value place) after is = (refl, refl)
      right before (Call f true false may value place) after is =
          absurd (breaks-no before (Call f true false may value place) after is WrongArguments (at_first WrongArguments (when (not may) DelayElsewhere ++ when (not value) NoValue)) refl)
      right before (Call f false fit may value place) after is =
          absurd (breaks-no before (Call f false fit may value place) after is UnknownFunction
          (at_first UnknownFunction (when (not fit) WrongArguments ++ when (not may) DelayElsewhere ++ when (not value) NoValue)) refl)
      right before (Use Flagged x (Flag d) sub) after is = (d, refl)
      right before (Use Flagged x (Variable d size) sub) after is = absurd (breaks-no before (Use Flagged x (Variable d size) sub) after is NoFlag (at_first NoFlag []) refl)
      right before (Use Flagged x Number sub) after is = absurd (breaks-no before (Use Flagged x Number sub) after is NoFlag (at_first NoFlag []) refl)
      right before (Use Flagged x Nothing sub) after is = absurd (breaks-no before (Use Flagged x Nothing sub) after is Undeclared (at_first Undeclared []) refl)
      right before s after is = tt

  -- an event flag of the program
  abbrev IsFlag : ℕ → Type 0
  IsFlag k = In k (flags_of (sites p))

  -- what is used, and means such event flags
  fits : Fits IsFlag (sites p) (program_slots p)
  fits = program IsFlag p (λ k is. is)

  -- what is used stands one after another
  ascending : Ascends 0 (uses (sites p))
  ascending = sub-ascends 0 (uses (sites p)) (kept (program_slots p)) fits.order (kept-ascend p read)

  -- the law
  flags-declared : FlagsAreDeclared p
  flags-declared = record {
    calls = λ n f is_known is_fit may value place is. at-number IsRight (sites p) n (Call f is_known is_fit may value place) all-right is;
    flags = λ n x m sub is.
        let right = at-number IsRight (sites p) n (Use Flagged x m sub) all-right is in
        let d = right.0 in
        let flag : IsKnown IsFlag (Flag d) = subst (IsKnown IsFlag) right.1 (at-number (λ s. IsKnownUse IsFlag (use_at s)) (sites p) n (Use Flagged x m sub) fits.known is) in
        let number = numbered d.offset (flags_of (sites p)) flag in
        (d, number.0, (declared-at 0 (sites p) n (Use Flagged x m sub) x m ascending is refl).1 ∙ ap declared_pos right.1, number.1);
  }

-- so it is of each program
pub accepted_declares_its_flags : AcceptedDeclaresItsFlags
accepted_declares_its_flags = flags-declared
