-- What the names in the definitions and functions of a program mean: each is used at an offset of its own, so what is found there is what it means.
use Rattle.std.proofs.Common.{◌≡◌, ◌∙◌, ◌≤◌, refl, sym, ap, arith, ℕ, zero, suc, Bool, true, false, if◌then◌else◌, List, [], ◌∷◌, ◌++◌, map, Option, None, Some, slice_get}
use Rattle.std.specs.Prelude.{◌==◌, is_some}
use Rattle.std.proofs.lemmas.Bool.{eqb-true, eq-eqb}
use Rattle.snl_text.specs.declared.kinds.Kind.TheVariants as kind
use Rattle.snl_text.specs.declared.tokens.Pos.{Pos}
use Rattle.snl_text.specs.declared.tokens.Token.{Token}
use Rattle.snl_syntax.specs.Slots.{Sign, The}
use Rattle.snl_syntax.specs.Sequences.{between_slots, maybe_slots, row_slots, sign_slots}
use Rattle.snl_syntax.specs.Declarations.{TypeTree, bracket_slots}
use Rattle.snl_syntax.specs.Definitions.{PlaceTree, FlagTree, DefinitionTree, declaration, assign, monitor, sync, sync_queue, event_flags, setting, function, token_slots, place_slots, channels_slots, flag_slots, definition_slots}
use Rattle.snl_syntax.specs.Functions.{ParameterTree, FunctionTree, answer_slots, parameters_slots, function_slots}
use Rattle.snl_syntax.specs.Programs.{ProgramTree, entry_slots, exit_slots, macros_slots, program_slots, state_set_slots}
use Rattle.snl_syntax.specs.Statements.{block_slots}
use Rattle.snl_names.specs.declared.calls.Heading.{Heading}
use Rattle.snl_names.specs.declared.sites.Meaning.{Meaning}
use Rattle.snl_names.specs.declared.sites.Meaning.TheVariants as meanings
use Rattle.snl_names.specs.declared.sites.Purpose.TheVariants.{Flagged}
use Rattle.snl_names.specs.declared.sites.Room.TheVariants as room
use Rattle.snl_names.specs.declared.sites.Site.{Site}
use Rattle.snl_names.specs.declared.sites.Site.TheVariants.{Use}
use Rattle.snl_names.specs.declared.sites.Sort.{Sort}
use Rattle.snl_names.specs.declared.sites.Sort.TheVariants as sorts
use Rattle.snl_names.specs.Parts.{listed_names}
use Rattle.snl_names.specs.Programs.{at_defined, defined, in_definition, in_flag, in_function, in_program_part, in_program_parts, in_size, in_type, program_scopes, queue_size}
use Rattle.snl_names.specs.Scopes.{Scope, meaning, scope_of}
use Rattle.snl_names.specs.Sights.{Sight, headings_by, parameter_scope, within}
use Rattle.snl_names.specs.Sites.{at_type, declares, in_block, in_value, maybe}
use Rattle.snl_names.specs.Uses.{declared_by, declared_in, declared_pos, use_at}
use Rattle.snl_machine.proofs.Ordered.{Ascends, kept, kept-ascend, sub-ascends}
use Rattle.snl_machine.specs.Accepted.{IsRead}
use Rattle.snl_machine.proofs.Uses.{Fits, IsKnown, after, any, between, blocks, both, brackets, declarations, four, lead, no-uses, offset-of, optional, skip, take, three, trail, uses}

-- nothing is asked of event flags
abbrev Any : ℕ → Type 0
Any k = Unit {0}

-- whatever a name means
whatever : (m : Meaning) → IsKnown Any m
whatever (meanings.Variable d size) = tt
whatever (meanings.Flag d) = tt
whatever meanings.Number = tt
whatever meanings.Nothing = tt

-- so what scopes know is good
fine : (s : List Scope) (t : Token) → IsKnown Any (meaning s t)
fine s t = whatever (meaning s t)

module _ (s : Sight) where
  -- a place
  places : (sort : Sort) (word : Token) (a : PlaceTree) (list : Option ℕ) → Fits Any (defined sort word s a list) (place_slots a)
  places sort word a list =
      take Any (at_defined sort word s a list) a.name (meaning s.scopes a.name) (maybe (in_value s) a.subscript) (maybe_slots bracket_slots a.subscript) refl (fine s.scopes a.name)
      (optional Any (in_value s) bracket_slots (brackets Any s (fine s.scopes)) a.subscript)

  -- the name of an event flag
  flags : (f : FlagTree) → Fits Any (in_flag s f) (flag_slots f)
  flags f =
      after Any (sign_slots kind.To f.to) (in_flag s f) (The f.name ∷ [])
      (take Any (Use Flagged f.name (meaning s.scopes f.name) false) f.name (meaning s.scopes f.name) [] [] refl (fine s.scopes f.name) (any Any []))

  -- the size of a queue
  queue-sizes : (t : Token) → Fits Any (in_size t) (token_slots t)
  queue-sizes t = skip Any _ [] (The t ∷ []) refl (any Any (The t ∷ []))

  -- a definition
  definition : (d : DefinitionTree) → Fits Any (in_definition false s d) (definition_slots d)
  definition (declaration d) = declarations Any s (fine s.scopes) false d
  definition (assign a) =
      let own = defined sorts.Assign a.word s a.place (listed_names a.channels) in
      let rest = maybe_slots channels_slots a.channels ++ Sign kind.Semicolon ∷ [] in
      lead Any (The a.word) own (place_slots a.place ++ rest) (trail Any own (place_slots a.place) rest (places sorts.Assign a.word a.place (listed_names a.channels)))
  definition (monitor a) = between Any kind.Monitor kind.Semicolon (defined sorts.Monitor a.name s a None) (place_slots a) (places sorts.Monitor a.name a None)
  definition (sync y) =
      let own = defined sorts.Sync y.place.name s y.place None in
      between Any kind.Sync kind.Semicolon (own ++ in_flag s y.flag) (place_slots y.place ++ flag_slots y.flag)
      (both Any own (in_flag s y.flag) (place_slots y.place) (flag_slots y.flag) (places sorts.Sync y.place.name y.place None) (flags y.flag))
  definition (sync_queue q) =
      let own = defined (sorts.Queue (queue_size q.size)) q.word s q.place None in
      let flag = maybe (in_flag s) q.flag in
      let size = maybe in_size q.size in
      let end = maybe_slots token_slots q.size ++ Sign kind.Semicolon ∷ [] in
      lead Any (The q.word) (own ++ flag ++ size) (place_slots q.place ++ (maybe_slots flag_slots q.flag ++ end))
      (three Any own flag size (place_slots q.place) (maybe_slots flag_slots q.flag) end (places (sorts.Queue (queue_size q.size)) q.word q.place None)
      (optional Any (in_flag s) flag_slots flags q.flag)
      (trail Any size (maybe_slots token_slots q.size) (Sign kind.Semicolon ∷ []) (optional Any in_size token_slots queue-sizes q.size)))
  definition (event_flags names) = any Any (definition_slots (event_flags names))
  definition (setting o) = skip Any _ [] (definition_slots (setting o)) refl (any Any (definition_slots (setting o)))
  definition (function f) = any Any (definition_slots (function f))

  -- a type uses no names
  types-alone : (o : Option TypeTree) → Fits Any (maybe in_type o) []
  types-alone None = any Any []
  types-alone (Some t) = skip Any (at_type t) [] [] refl (any Any [])

  -- nor do those of parameters
  parameters-alone : (ps : List ParameterTree) → Fits Any (map (λ p. at_type p.type_name) ps) []
  parameters-alone [] = any Any []
  parameters-alone (p ∷ ps) = skip Any (at_type p.type_name) (map (λ q. at_type q.type_name) ps) [] refl (parameters-alone ps)

  -- a function
  functions : (f : FunctionTree) → Fits Any (in_function s f) (function_slots f)
  functions f =
      let types = maybe in_type f.type_name in
      let names = declares [] (parameter_scope f) in
      let each-type = map (λ (p : ParameterTree). at_type p.type_name) f.parameters.each in
      let body = in_block (room.Function (is_some f.type_name)) [] (within (parameter_scope f) s) false f.body in
      let behind = between_slots kind.OpenParenthesis (parameters_slots f.parameters) kind.CloseParenthesis in
      let all = types ++ names ++ each-type ++ body in
      skip Any _ all (function_slots f) refl
      (after Any (answer_slots f.type_name) all (The f.name ∷ (behind ++ block_slots f.body)) (lead Any (The f.name) all (behind ++ block_slots f.body)
      (after Any behind all (block_slots f.body)
      (four Any types names each-type body [] [] [] (block_slots f.body) (types-alone f.type_name) (no-uses Any [] (parameter_scope f)) (parameters-alone f.parameters.each)
      (blocks Any (within (parameter_scope f) s) (fine (parameter_scope f ∷ s.scopes)) (room.Function (is_some f.type_name)) [] false f.body)))))

  -- a definition of the program
  program-part : (d : DefinitionTree) → Fits Any (in_program_part s d) (definition_slots d)
  program-part (function f) = functions f
  program-part (declaration d) = definition (declaration d)
  program-part (assign a) = definition (assign a)
  program-part (monitor a) = definition (monitor a)
  program-part (sync y) = definition (sync y)
  program-part (sync_queue q) = definition (sync_queue q)
  program-part (event_flags names) = definition (event_flags names)
  program-part (setting o) = definition (setting o)

-- those of the program
program-parts : (s : List Scope) (above : List Heading) (ds : List DefinitionTree) → Fits Any (in_program_parts s above ds) (row_slots definition_slots ds)
program-parts s above [] = any Any []
program-parts s above (d ∷ ds) =
    let here : Sight = record { scopes = s; functions = above } in
    both Any (in_program_part here d) (in_program_parts s (above ++ headings_by d) ds) (definition_slots d) (row_slots definition_slots ds)
    (program-part here d) (program-parts s (above ++ headings_by d) ds)

-- the definitions of a program, with what they declare in front
abbrev pub parts_of : ProgramTree → List Site
parts_of p = declares [] (scope_of [] p.definitions) ++ in_program_parts (program_scopes p) [] p.definitions

-- what they use stands one after another
pub parts-ascend : (p : ProgramTree) → IsRead p → Ascends 0 (uses (parts_of p))
parts-ascend p read =
    let names = declares [] (scope_of [] p.definitions) in
    let parts = in_program_parts (program_scopes p) [] p.definitions in
    let defs = row_slots definition_slots p.definitions in
    let rest = maybe_slots entry_slots p.entry ++ (row_slots state_set_slots p.state_sets ++ maybe_slots exit_slots p.exit) in
    let all : Fits Any (parts_of p) (program_slots p) =
    lead Any (The p.word) (parts_of p) (The p.name ∷ (maybe_slots macros_slots p.macros ++ (defs ++ rest))) (lead Any (The p.name) (parts_of p) (maybe_slots macros_slots p.macros ++ (defs ++ rest))
    (after Any (maybe_slots macros_slots p.macros) (parts_of p) (defs ++ rest) (trail Any (parts_of p) defs rest
    (both Any names parts [] defs (no-uses Any [] (scope_of [] p.definitions)) (program-parts (program_scopes p) [] p.definitions))))) in
    sub-ascends 0 (uses (parts_of p)) (kept (program_slots p)) all.order (kept-ascend p read)

-- ---- the first use at an offset

-- what is used at an offset of its own is what is found there, whatever follows
pub declared-at : (low : ℕ) (ss more : List Site) (n : ℕ) (s : Site) (t : Token) (m : Meaning) → Ascends low (uses ss) → slice_get ss n ≡ Some s → use_at s ≡ Some (t, m) →
    (low ≤ t.pos.offset) × (declared_in t.pos.offset (ss ++ more) ≡ declared_pos m)
declared-at low [] more n s t m ascends is used = absurd (cc)
declared-at low (x ∷ ss) more n s t m ascends is used = by n (use_at x) refl ascends is (declared-at low ss more) (λ o. declared-at (suc o) ss more)
  where
    Rest : ℕ → Type 0
    Rest l = (k : ℕ) (y : Site) (u : Token) (w : Meaning) → Ascends l (uses ss) → slice_get ss k ≡ Some y → use_at y ≡ Some (u, w) →
        (l ≤ u.pos.offset) × (declared_in u.pos.offset (ss ++ more) ≡ declared_pos w)

    found : Option (Token × Meaning) → Option Pos
    found o = declared_by t.pos.offset o (declared_in t.pos.offset (ss ++ more))

    by : (k : ℕ) (o : Option (Token × Meaning)) → use_at x ≡ o → Ascends low (offset-of o ++ uses ss) → slice_get (x ∷ ss) k ≡ Some s → Rest low → ((l : ℕ) → Rest (suc l)) →
        (low ≤ t.pos.offset) × (declared_in t.pos.offset (x ∷ (ss ++ more)) ≡ declared_pos m)
    by zero None e up there rest later = absurd (let same : x ≡ s = cc in let none : None ≡ Some (t, m) = sym e ∙ ap use_at same ∙ used in cc)
    by zero (Some u) e up there rest later =
        let same : x ≡ s = cc in
        let both : Some u ≡ Some (t, m) = sym e ∙ ap use_at same ∙ used in
        let own : u ≡ (t, m) = cc in
        let place : u.0.pos.offset ≡ t.pos.offset = ap (λ (y : Token × Meaning). y.0.pos.offset) own in (
          let first = up.0 in omega (arith, first, place),
          ap found e ∙ ap (λ (b : Bool). if b then declared_pos u.1 else declared_in t.pos.offset (ss ++ more)) (eq-eqb u.0.pos.offset t.pos.offset place)
              ∙ ap (λ (y : Token × Meaning). declared_pos y.1) own,
        )
    by (suc k) None e up there rest later = let w = rest k s t m up there used in (w.0, ap found e ∙ w.1)
    by (suc k) (Some u) e up there rest later =
        let w = later u.0.pos.offset k s t m up.1 there used in (
          let first = up.0 in let above = w.0 in omega (arith, first, above),
          ap found e ∙ other u (u.0.pos.offset == t.pos.offset) refl w.0 ∙ w.1,
        )
      where
        other : (u : Token × Meaning) (b : Bool) → (u.0.pos.offset == t.pos.offset) ≡ b → suc u.0.pos.offset ≤ t.pos.offset →
            (if b then declared_pos u.1 else declared_in t.pos.offset (ss ++ more)) ≡ declared_in t.pos.offset (ss ++ more)
        other u true is above = absurd (let same = eqb-true u.0.pos.offset t.pos.offset is in omega (arith, same, above))
        other u false is above = refl
