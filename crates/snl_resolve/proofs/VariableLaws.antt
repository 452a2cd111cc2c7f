-- The variables of definitions, blocks, states, state sets and programs, from those of their parts.
use Rattle.std.proofs.Common.{◌≡◌, ℕ, ◌<◌, ◌≤◌, List, [], ◌∷◌, ◌++◌, length, get_or, map, slice_get, Option, Some, None, option_map, Box, Global, sym, ap, ◌∙◌, append_assoc, append-nil}
use Rattle.std.proofs.lemmas.Option.{slice_get-map, slice_get-get_or, slice_get_past}
use Rattle.std.specs.List.{flat_map}
use Rattle.snl_syntax.specs.declared.declarations.Declaration.{Declaration}
use Rattle.snl_syntax.specs.declared.definitions.Def.{Def}
use Rattle.snl_syntax.specs.declared.definitions.Def.TheVariants as def
use Rattle.snl_syntax.specs.declared.functions.Function.{Function}
use Rattle.snl_syntax.specs.declared.functions.Parameter.{Parameter}
use Rattle.snl_syntax.specs.declared.statements.Block.{Block as DeclaredBlock}
use Rattle.snl_syntax.specs.declared.statements.Stmt.{Stmt, Block}
use Rattle.snl_syntax.specs.declared.programs.Clause.{Clause}
use Rattle.snl_syntax.specs.declared.programs.State.{State}
use Rattle.snl_syntax.specs.declared.programs.StateSet.{StateSet}
use Rattle.snl_syntax.specs.declared.programs.Program.{Program}
use Rattle.snl_syntax.specs.Definitions.{DefinitionTree, declaration}
use Rattle.snl_syntax.specs.Statements.{BlockTree}
use Rattle.snl_syntax.specs.Programs.{ClauseTree, StateSetTree}
use Rattle.snl_syntax.specs.view.Lists.{statement_list}
use Rattle.snl_syntax.specs.view.Shown.{shown, held}
use Rattle.snl_syntax.specs.view.Declarations.{declaration_view}
use Rattle.snl_syntax.specs.view.Definitions.{definition_view}
use Rattle.snl_syntax.specs.view.Functions.{parameter_view, function_view}
use Rattle.snl_syntax.specs.view.Statements.{statement_view, block_view}
use Rattle.snl_syntax.specs.view.Programs.{clause_view, state_view, state_set_view, program_view}
use Rattle.snl_syntax.proofs.StatementRows.{view_block}
use Rattle.snl_names.specs.Scopes.{Scope, scope_of}
use Rattle.snl_names.specs.Sights.{parameters_of}
use Rattle.snl_names.specs.Variables.{CopyVariable, by_declaration, by_definition, by_definitions, by_statement, by_statements, by_block, by_maybe, held_parameter, by_function, function_by, by_clause, by_blocks, by_state, by_state_set, by_numbered, for_first, by_parts, variables_of}

-- three parts in a row
three_parts : (old a b c : List CopyVariable) → ((old ++ a) ++ b) ++ c ≡ old ++ ((a ++ b) ++ c)
three_parts old a b c = simp append_assoc

-- one part, then three
one_and_three : (old a b c d : List CopyVariable) → (old ++ a) ++ ((b ++ c) ++ d) ≡ old ++ (((a ++ b) ++ c) ++ d)
one_and_three old a b c d = simp append_assoc

-- definitions, within their own scope
pub definitions_held : (s : List Scope) (ds : List DefinitionTree) (names scope : Scope) (old new : List CopyVariable)
    → names ≡ scope_of s ds → scope ≡ names → new ≡ old ++ flat_map (by_definition (scope ∷ s)) ds → new ≡ old ++ by_definitions s ds
definitions_held s ds names scope old new en es e = e ∙ (λ j. old ++ flat_map (by_definition ((es ∙ en) j ∷ s)) ds)

-- what stands in a block: its declarations, then its statements
pub inside_held : (s : List Scope) (b : DeclaredBlock) (es : List Declaration) (ss : List Stmt) (old mid new : List CopyVariable)
    → es ≡ b.declarations.items → ss ≡ b.statements.items
    → mid ≡ old ++ flat_map (by_declaration s) (map declaration_view es)
    → new ≡ mid ++ by_statements s (statement_list (map statement_view ss))
    → new ≡ old ++ (flat_map (by_declaration s) (map declaration_view b.declarations.items) ++ by_statements s (statement_list (map statement_view b.statements.items)))
inside_held s b es ss old mid new ee et em e =
    e
    ∙ (λ j. em j ++ by_statements s (statement_list (map statement_view (et j))))
    ∙ (λ j. (old ++ flat_map (by_declaration s) (map declaration_view (ee j))) ++ by_statements s (statement_list (map statement_view b.statements.items)))
    ∙ append_assoc old _ _

-- a block: what stands in it, within its own scope
pub block_held : (s : List Scope) (b : DeclaredBlock) (scope : Scope) (old new : List CopyVariable)
    → scope ≡ scope_of s (map declaration (map declaration_view b.declarations.items))
    → new ≡ old ++ (flat_map (by_declaration (scope ∷ s)) (map declaration_view b.declarations.items)
    ++ by_statements (scope ∷ s) (statement_list (map statement_view b.statements.items)))
    → new ≡ old ++ by_block s (block_view b)
block_held s b scope old new same e =
    e
    ∙ (λ j. old ++ (flat_map (by_declaration (same j ∷ s)) (map declaration_view b.declarations.items)
    ++ by_statements (same j ∷ s) (statement_list (map statement_view b.statements.items))))

-- a block that stands among statements
pub nested_held : (s : List Scope) (a : Stmt) (b : DeclaredBlock) (old new : List CopyVariable) → a ≡ Block b
    → new ≡ old ++ by_block s (block_view b) → new ≡ old ++ by_statement s (statement_view a)
nested_held s a b old new ea e = e ∙ ap (λ x. old ++ by_statement s x) (sym (ap statement_view ea ∙ view_block b))

-- a function: its parameters, then its body, round which they stand
pub function_held : (s : List Scope) (f : Function) (ps : List Parameter) (b : DeclaredBlock) (scope : Scope) (old one new : List CopyVariable)
    → ps ≡ f.parameters.each.items → b ≡ f.body.value → scope ≡ parameters_of (map parameter_view ps)
    → one ≡ old ++ map held_parameter (map parameter_view ps)
    → new ≡ one ++ by_block (scope ∷ s) (block_view b)
    → new ≡ old ++ by_function s (function_view f)
function_held s f ps b scope old one new ep eb es e1 en =
    let inside = parameters_of (map parameter_view f.parameters.each.items) in
    let same : scope ≡ inside = es ∙ ap (λ x. parameters_of (map parameter_view x)) ep in
    en
    ∙ (λ j. e1 j ++ by_block (same j ∷ s) (block_view (eb j)))
    ∙ (λ j. (old ++ map held_parameter (map parameter_view (ep j))) ++ by_block (inside ∷ s) (block_view f.body.value))
    ∙ append_assoc old _ _

-- a definition that is a function
pub definition_held : (s : List Scope) (d : Def) (b : Box Function Global) (f : Function) (old new : List CopyVariable) → d ≡ def.Function b → f ≡ b.value
    → new ≡ old ++ by_function s (function_view f) → new ≡ old ++ flat_map (by_function s) (function_by (definition_view d))
definition_held s d b f old new ed ef en =
    en ∙ ap (λ x. old ++ by_function s (function_view x)) ef ∙ ap (λ l. old ++ l) (sym (append-nil _))
    ∙ ap (λ x. old ++ flat_map (by_function s) (function_by (definition_view x))) (sym ed)

-- the blocks of a state: `entry`, its clauses, `exit`
pub blocks_held : (s : List Scope) (entry exit : Option BlockTree) (cs : List ClauseTree) (old one two new : List CopyVariable)
    → one ≡ old ++ by_maybe s entry → two ≡ one ++ flat_map (by_clause s) cs → new ≡ two ++ by_maybe s exit
    → new ≡ old ++ by_blocks s entry cs exit
blocks_held s entry exit cs old one two new e1 e2 en =
    en ∙ (λ j. e2 j ++ by_maybe s exit) ∙ (λ j. (e1 j ++ flat_map (by_clause s) cs) ++ by_maybe s exit) ∙ three_parts old _ _ _

-- a state: its definitions, then its blocks
pub state_held : (s : List Scope) (a : State) (ds : List Def) (cs : List Clause) (scope : Scope) (old one new : List CopyVariable)
    → ds ≡ a.definitions.items → cs ≡ a.clauses.items → scope ≡ scope_of s (map definition_view ds)
    → one ≡ old ++ by_definitions s (map definition_view ds)
    → new ≡ one ++ by_blocks (scope ∷ s) (shown (held block_view) a.entry) (map clause_view cs) (shown (held block_view) a.exit)
    → new ≡ old ++ by_state s (state_view a)
state_held s a ds cs scope old one new ed ec es e1 en =
    let defs = map definition_view a.definitions.items in
    let same : scope ≡ scope_of s defs = es ∙ ap (λ x. scope_of s (map definition_view x)) ed in
    let inside = by_blocks (scope_of s defs ∷ s) (shown (held block_view) a.entry) (map clause_view a.clauses.items) (shown (held block_view) a.exit) in
    en
    ∙ (λ j. e1 j ++ by_blocks (same j ∷ s) (shown (held block_view) a.entry) (map clause_view (ec j)) (shown (held block_view) a.exit))
    ∙ (λ j. (old ++ by_definitions s (map definition_view (ed j))) ++ inside)
    ∙ one_and_three old _ _ _ _

-- a state set: its definitions, then its states
pub state_set_held : (s : List Scope) (a : StateSet) (ds : List Def) (ts : List State) (scope : Scope) (old one new : List CopyVariable)
    → ds ≡ a.definitions.items → ts ≡ a.states.items → scope ≡ scope_of s (map definition_view ds)
    → one ≡ old ++ by_definitions s (map definition_view ds)
    → new ≡ one ++ flat_map (by_state (scope ∷ s)) (map state_view ts)
    → new ≡ old ++ by_state_set s (state_set_view a)
state_set_held s a ds ts scope old one new ed et es e1 en =
    let defs = map definition_view a.definitions.items in
    let same : scope ≡ scope_of s defs = es ∙ ap (λ x. scope_of s (map definition_view x)) ed in
    en
    ∙ (λ j. e1 j ++ flat_map (by_state (same j ∷ s)) (map state_view (et j)))
    ∙ (λ j. (old ++ by_definitions s (map definition_view (ed j))) ++ flat_map (by_state (scope_of s defs ∷ s)) (map state_view a.states.items))
    ∙ append_assoc old _ _

-- the program's blocks and one state set
pub parts_held : (s : List Scope) (set : ℕ) (entry exit : Option BlockTree) (gs : List StateSetTree) (old one two new : List CopyVariable)
    → one ≡ old ++ for_first set s entry → two ≡ one ++ by_numbered s (slice_get gs set) → new ≡ two ++ for_first set s exit
    → new ≡ old ++ by_parts s set entry gs exit
parts_held s set entry exit gs old one two new e1 e2 en =
    en ∙ (λ j. e2 j ++ for_first set s exit) ∙ (λ j. (e1 j ++ by_numbered s (slice_get gs set)) ++ for_first set s exit) ∙ three_parts old _ _ _

-- a program: its definitions, then its blocks and one state set
pub program_held : (p : Program) (set : ℕ) (ds : List Def) (gs : List StateSet) (scope : Scope) (old one new : List CopyVariable)
    → ds ≡ p.definitions.items → gs ≡ p.state_sets.items → scope ≡ scope_of [] (map definition_view ds)
    → one ≡ old ++ by_definitions [] (map definition_view ds)
    → new ≡ one ++ by_parts (scope ∷ []) set (shown (held block_view) p.entry) (map state_set_view gs) (shown (held block_view) p.exit)
    → new ≡ old ++ variables_of (program_view p) set
program_held p set ds gs scope old one new ed eg es e1 en =
    let defs = map definition_view p.definitions.items in
    let same : scope ≡ scope_of [] defs = es ∙ ap (λ x. scope_of [] (map definition_view x)) ed in
    let inside = by_parts (scope_of [] defs ∷ []) set (shown (held block_view) p.entry) (map state_set_view p.state_sets.items) (shown (held block_view) p.exit) in
    en
    ∙ (λ j. e1 j ++ by_parts (same j ∷ []) set (shown (held block_view) p.entry) (map state_set_view (eg j)) (shown (held block_view) p.exit))
    ∙ (λ j. (old ++ by_definitions [] (map definition_view (ed j))) ++ inside)
    ∙ one_and_three old _ _ _ _

-- what a row of state sets has at a number
pub some_set : (sets : List StateSet) (k : ℕ) (g : StateSet) → k < length sets → g ≡ get_or sets k g → slice_get (map state_set_view sets) k ≡ Some (state_set_view g)
some_set sets k g h e = slice_get-map state_set_view sets k ∙ ap (option_map state_set_view) (slice_get-get_or sets k g h ∙ ap Some (sym e))

-- past the last state set there is none
pub no_set : (sets : List StateSet) (k : ℕ) → length sets ≤ k → slice_get (map state_set_view sets) k ≡ None
no_set sets k h = slice_get-map state_set_view sets k ∙ ap (option_map state_set_view) (slice_get_past sets k h)
