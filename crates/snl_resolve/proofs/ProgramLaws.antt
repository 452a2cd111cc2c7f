-- The sites of definitions, states, state sets and programs, from those of their parts.
use Rattle.std.proofs.Common.{◌≡◌, ℕ, suc, ◌+◌, ◌<◌, Bool, true, false, ◌||◌, List, [], ◌∷◌, ◌++◌, length, drop, get_or, map, Option, None, Some, is_some, refl, sym, ap, ◌∙◌, append_assoc, add-one}
use Rattle.std.proofs.lemmas.List.{drop_more}
use Rattle.std.specs.List.{flat_map}
use Rattle.snl_text.specs.declared.tokens.Token.{Token}
use Rattle.snl_syntax.specs.declared.declarations.TypeName.{TypeName}
use Rattle.snl_syntax.specs.declared.definitions.Def.{Def}
use Rattle.snl_syntax.specs.declared.functions.Function.{Function}
use Rattle.snl_syntax.specs.declared.functions.Parameter.{Parameter}
use Rattle.snl_syntax.specs.declared.statements.Block.{Block as DeclaredBlock}
use Rattle.snl_syntax.specs.declared.programs.Clause.{Clause}
use Rattle.snl_syntax.specs.declared.programs.State.{State as DeclaredState}
use Rattle.snl_syntax.specs.declared.programs.StateSet.{StateSet as DeclaredSet}
use Rattle.snl_syntax.specs.declared.programs.Program.{Program}
use Rattle.snl_syntax.specs.Definitions.{DefinitionTree}
use Rattle.snl_syntax.specs.Statements.{BlockTree}
use Rattle.snl_syntax.specs.Programs.{ClauseTree, StateSetTree}
use Rattle.snl_syntax.specs.view.Shown.{shown, held}
use Rattle.snl_syntax.specs.view.Statements.{block_view}
use Rattle.snl_syntax.specs.view.Declarations.{type_view}
use Rattle.snl_syntax.specs.view.Definitions.{definition_view}
use Rattle.snl_syntax.specs.view.Functions.{parameter_view, function_view}
use Rattle.snl_syntax.specs.view.Expressions.{boxed}
use Rattle.snl_syntax.specs.view.Programs.{target_view, clause_view, state_view, state_set_view, program_view}
use Rattle.snl_names.specs.declared.sites.Purpose.TheVariants.{Read}
use Rattle.snl_names.specs.declared.sites.Site.{Site}
use Rattle.snl_names.specs.declared.sites.Site.TheVariants.{Clause as ClauseSite, Function as FunctionSite}
use Rattle.snl_resolve.specs.Seen.{in_program}
use Rattle.snl_names.specs.Scopes.{Scope, scope_of}
use Rattle.snl_names.specs.Sights.{Sight, within, headings_by, parameters_of}
use Rattle.snl_names.specs.declared.calls.Heading.{Heading}
use Rattle.snl_names.specs.declared.sites.Room.TheVariants as room
use Rattle.snl_names.specs.Sites.{declares, at_type, maybe, in_expression, in_block}
use Rattle.snl_names.specs.Programs.{in_definition, in_definitions, is_taken, in_type, in_function, in_program_part, in_program_parts, program_sight, in_plain_block, in_target, is_always_true, in_clause, in_clauses, in_blocks, in_state, in_all_states, in_state_set, in_all_sets, in_parts, sites}

-- four parts in a row
four_parts : (old a b c d : List Site) → (((old ++ a) ++ b) ++ c) ++ d ≡ old ++ (((a ++ b) ++ c) ++ d)
four_parts old a b c d = simp append_assoc

-- three parts in a row
three_parts : (old a b c : List Site) → ((old ++ a) ++ b) ++ c ≡ old ++ ((a ++ b) ++ c)
three_parts old a b c = simp append_assoc

-- one part, then three
one_and_three : (old a b c d : List Site) → (old ++ a) ++ ((b ++ c) ++ d) ≡ old ++ (((a ++ b) ++ c) ++ d)
one_and_three old a b c d = simp append_assoc

-- two parts, then three
two_and_three : (old a b c d e : List Site) → ((old ++ a) ++ b) ++ ((c ++ d) ++ e) ≡ old ++ ((((a ++ b) ++ c) ++ d) ++ e)
two_and_three old a b c d e = simp append_assoc

-- definitions: the names of their scope, then each of them
pub definitions_noted : (in_state : Bool) (s : Sight) (ds : List DefinitionTree) (scope : Scope) (inside : Sight) (old mid new : List Site)
    → scope ≡ scope_of s.scopes ds → inside ≡ within scope s → mid ≡ old ++ declares [] (scope_of s.scopes ds) → new ≡ mid ++ flat_map (in_definition in_state inside) ds
    → new ≡ old ++ in_definitions in_state s ds
definitions_noted in_state s ds scope inside old mid new ec ei em en =
    let same : inside ≡ within (scope_of s.scopes ds) s = ei ∙ ap (λ x. within x s) ec in
    en ∙ (λ j. em j ++ flat_map (in_definition in_state (same j)) ds) ∙ append_assoc old _ _

-- the blocks and the clauses of a state: `entry`, its clauses, `exit`
pub blocks_noted : (s : Sight) (g : List Token) (entry exit : Option BlockTree) (cs : List ClauseTree) (old one two new : List Site)
    → one ≡ old ++ maybe (in_plain_block s g) entry → two ≡ one ++ in_clauses s g false cs → new ≡ two ++ maybe (in_plain_block s g) exit
    → new ≡ old ++ in_blocks s g entry cs exit
blocks_noted s g entry exit cs old one two new e1 e2 en =
    en ∙ (λ j. e2 j ++ maybe (in_plain_block s g) exit) ∙ (λ j. (e1 j ++ in_clauses s g false cs) ++ maybe (in_plain_block s g) exit) ∙ three_parts old _ _ _

-- a state: its definitions, then its blocks and its clauses
pub state_noted : (s : Sight) (g : List Token) (a : DeclaredState) (ds : List Def) (scope : Scope) (inside : Sight) (old one new : List Site)
    → ds ≡ a.definitions.items → scope ≡ scope_of s.scopes (map definition_view ds) → inside ≡ within scope s
    → one ≡ old ++ in_definitions true s (map definition_view ds)
    → new ≡ one ++ in_blocks inside g (shown (held block_view) a.entry) (map clause_view a.clauses.items) (shown (held block_view) a.exit)
    → new ≡ old ++ in_state s g (state_view a)
state_noted s g a ds scope inside old one new ed es ei e1 en =
    let defs = map definition_view a.definitions.items in
    let same : inside ≡ within (scope_of s.scopes defs) s = ei ∙ ap (λ x. within x s) (es ∙ ap (λ x. scope_of s.scopes (map definition_view x)) ed) in
    let blocks : Sight → List Site = λ x. in_blocks x g (shown (held block_view) a.entry) (map clause_view a.clauses.items) (shown (held block_view) a.exit) in
    en
    ∙ (λ j. e1 j ++ blocks (same j))
    ∙ (λ j. (old ++ in_definitions true s (map definition_view (ed j))) ++ blocks (within (scope_of s.scopes defs) s))
    ∙ one_and_three old _ _ _ _

-- a state set: its definitions, then its states
pub state_set_noted : (s : Sight) (a : DeclaredSet) (ds : List Def) (ts : List DeclaredState) (scope : Scope) (inside : Sight) (old one new : List Site)
    → ds ≡ a.definitions.items → ts ≡ a.states.items → scope ≡ scope_of s.scopes (map definition_view ds) → inside ≡ within scope s
    → one ≡ old ++ in_definitions false s (map definition_view ds)
    → new ≡ one ++ in_all_states inside (map state_view ts)
    → new ≡ old ++ in_state_set s (state_set_view a)
state_set_noted s a ds ts scope inside old one new ed et es ei e1 en =
    let defs = map definition_view a.definitions.items in
    let same : inside ≡ within (scope_of s.scopes defs) s = ei ∙ ap (λ x. within x s) (es ∙ ap (λ x. scope_of s.scopes (map definition_view x)) ed) in
    en
    ∙ (λ j. e1 j ++ in_all_states (same j) (map state_view (et j)))
    ∙ (λ j. (old ++ in_definitions false s (map definition_view (ed j))) ++ in_all_states (within (scope_of s.scopes defs) s) (map state_view a.states.items))
    ∙ append_assoc old _ _

-- the blocks and the state sets of a program
pub parts_noted : (s : Sight) (entry exit : Option BlockTree) (gs : List StateSetTree) (old one two new : List Site)
    → one ≡ old ++ maybe (in_plain_block s []) entry → two ≡ one ++ in_all_sets s gs → new ≡ two ++ maybe (in_plain_block s []) exit
    → new ≡ old ++ in_parts s entry gs exit
parts_noted s entry exit gs old one two new e1 e2 en =
    en ∙ (λ j. e2 j ++ maybe (in_plain_block s []) exit) ∙ (λ j. (e1 j ++ in_all_sets s gs) ++ maybe (in_plain_block s []) exit) ∙ three_parts old _ _ _

-- the parts of a function in a row
function_parts : (old types names parameters body : List Site) (site : Site)
    → ((old ++ (site ∷ types)) ++ (names ++ parameters)) ++ body ≡ old ++ (site ∷ (((types ++ names) ++ parameters) ++ body))
function_parts old types names parameters body site = simp append_assoc

-- a type that is shown is one
is_shown : (o : Option TypeName) → is_some o ≡ is_some (shown type_view o)
is_shown None = refl
is_shown (Some t) = refl

-- a function: its name with its type, its parameters with theirs, its body
pub function_noted : (s : Sight) (f : Function) (ps : List Parameter) (b : DeclaredBlock) (scope : Scope) (inside : Sight) (valued : Bool) (old one two new : List Site)
    → ps ≡ f.parameters.each.items → b ≡ f.body.value → scope ≡ parameters_of (map parameter_view ps) → inside ≡ within scope s → valued ≡ is_some f.type_name
    → one ≡ old ++ FunctionSite f.name (is_taken s.functions f.name) ∷ maybe in_type (shown type_view f.type_name)
    → two ≡ one ++ (declares [] (parameters_of (map parameter_view ps)) ++ map (λ p. at_type p.type_name) (map parameter_view ps))
    → new ≡ two ++ in_block (room.Function valued) [] inside false (block_view b)
    → new ≡ old ++ in_function s (function_view f)
function_noted s f ps b scope inside valued old one two new ep eb es ei ev e1 e2 en =
    let within_all : List Parameter → Sight = λ x. within (parameters_of (map parameter_view x)) s in
    let same : inside ≡ within_all f.parameters.each.items = ei ∙ ap (λ x. within x s) es ∙ ap within_all ep in
    let returns : valued ≡ is_some (shown type_view f.type_name) = ev ∙ is_shown f.type_name in
    let body = in_block (room.Function (is_some (shown type_view f.type_name))) [] (within_all f.parameters.each.items) false (block_view f.body.value) in
    en
    ∙ (λ j. e2 j ++ in_block (room.Function (returns j)) [] (same j) false (block_view (eb j)))
    ∙ (λ j. (e1 j ++ (declares [] (parameters_of (map parameter_view (ep j))) ++ map (λ p. at_type p.type_name) (map parameter_view (ep j)))) ++ body)
    ∙ function_parts old _ _ _ _ _

-- one more definition of the program is noted, with the functions above it
pub program_parts_step : (s : List Scope) (all : List Def) (i : ℕ) (d : Def) (above after : List Heading) (before now start : List Site) → i < length all → d ≡ get_or all i d
    → before ++ in_program_parts s above (map definition_view (drop i all)) ≡ start
    → now ≡ before ++ in_program_part (record { scopes = s; functions = above }) (definition_view d)
    → after ≡ above ++ headings_by (definition_view d)
    → now ++ in_program_parts s after (map definition_view (drop (i + 1) all)) ≡ start
program_parts_step s all i d above after before now start h ed inv en ea =
    let rest = map definition_view (drop (i + 1) all) in
    let one = in_program_part (record { scopes = s; functions = above }) (definition_view d) in
    (λ j. en j ++ in_program_parts s (ea j) rest) ∙ append_assoc before one (in_program_parts s (above ++ headings_by (definition_view d)) rest)
    ∙ ap (λ (l : List Def). before ++ in_program_parts s above (map definition_view l)) (ap (λ x. x ∷ drop (i + 1) all) ed ∙ sym (drop_more all i d h)) ∙ inv

-- what stands in a program: its definitions and functions, then its blocks and its state sets
pub inside_noted : (p : Program) (ds : List Def) (gs : List DeclaredSet) (s : List Scope) (all : List Heading) (old two new : List Site)
    → ds ≡ p.definitions.items → gs ≡ p.state_sets.items → all ≡ flat_map headings_by (map definition_view ds)
    → two ≡ old ++ in_program_parts s [] (map definition_view ds)
    → new ≡ two ++ in_parts (record { scopes = s; functions = all }) (shown (held block_view) p.entry) (map state_set_view gs) (shown (held block_view) p.exit)
    → new ≡ old ++ in_program s (program_view p)
inside_noted p ds gs s all old two new ed eg ef e2 en =
    let defs = map definition_view p.definitions.items in
    let above : all ≡ flat_map headings_by defs = ef ∙ ap (λ (x : List Def). flat_map headings_by (map definition_view x)) ed in
    en
    ∙ (λ j. e2 j ++ in_parts (record { scopes = s; functions = above j }) (shown (held block_view) p.entry) (map state_set_view (eg j)) (shown (held block_view) p.exit))
    ∙ (λ j. (old ++ in_program_parts s [] (map definition_view (ed j))) ++ in_parts (record { scopes = s; functions = flat_map headings_by defs }) (shown (held block_view) p.entry)
    (map state_set_view p.state_sets.items) (shown (held block_view) p.exit))
    ∙ append_assoc old _ _

-- a program: the names of its definitions, then what stands in it
pub program_noted : (p : Program) (ds : List Def) (scope : Scope) (old one new : List Site)
    → ds ≡ p.definitions.items → scope ≡ scope_of [] (map definition_view ds)
    → one ≡ old ++ declares [] (scope_of [] (map definition_view ds))
    → new ≡ one ++ in_program (scope ∷ []) (program_view p)
    → new ≡ old ++ sites (program_view p)
program_noted p ds scope old one new ed es e1 en =
    let defs = map definition_view p.definitions.items in
    let same : scope ≡ scope_of [] defs = es ∙ ap (λ x. scope_of [] (map definition_view x)) ed in
    en
    ∙ (λ j. (e1 j) ++ in_program (same j ∷ []) (program_view p))
    ∙ (λ j. (old ++ declares [] (scope_of [] (map definition_view (ed j)))) ++ in_program (scope_of [] defs ∷ []) (program_view p))
    ∙ sym (append_assoc (old ++ declares [] (scope_of [] defs)) (in_program_parts (scope_of [] defs ∷ []) [] defs)
    (in_parts (program_sight (program_view p)) (shown (held block_view) p.entry) (map state_set_view p.state_sets.items) (shown (held block_view) p.exit)))
    ∙ two_and_three old _ _ _ _ _

-- a clause: its condition, its block, its target
pub clause_noted : (s : Sight) (g : List Token) (blocked : Bool) (c : Clause) (b : DeclaredBlock) (old one two three new : List Site)
    → one ≡ old ++ ClauseSite c.word blocked ∷ []
    → two ≡ one ++ maybe (in_expression true s Read) (shown boxed c.condition)
    → b ≡ c.block.value
    → three ≡ two ++ in_block room.Clause g s false (block_view b)
    → new ≡ three ++ in_target g (target_view c.target)
    → new ≡ old ++ in_clause s g blocked (clause_view c)
clause_noted s g blocked c b old one two three new e1 e2 eb e3 en =
    en
    ∙ (λ j. e3 j ++ in_target g (target_view c.target))
    ∙ (λ j. (e2 j ++ in_block room.Clause g s false (block_view (eb j))) ++ in_target g (target_view c.target))
    ∙ (λ j. ((e1 j ++ maybe (in_expression true s Read) (shown boxed c.condition)) ++ in_block room.Clause g s false (block_view c.block.value)) ++ in_target g (target_view c.target))
    ∙ four_parts old _ _ _ _

-- one more clause is noted
pub clauses_step : (s : Sight) (g : List Token) (all : List Clause) (i : ℕ) (a : Clause) (blocked always : Bool) (before now start : List Site) → i < length all → a ≡ get_or all i a
    → before ++ in_clauses s g blocked (map clause_view (drop i all)) ≡ start
    → now ≡ before ++ in_clause s g blocked (clause_view a)
    → always ≡ is_always_true s (clause_view a)
    → now ++ in_clauses s g (blocked || always) (map clause_view (drop (i + 1) all)) ≡ start
clauses_step s g all i a blocked always before now start h ea inv en et =
    let rest = map clause_view (drop (i + 1) all) in
    (λ j. en j ++ in_clauses s g (blocked || et j) rest) ∙ append_assoc before (in_clause s g blocked (clause_view a)) (in_clauses s g (blocked || is_always_true s (clause_view a)) rest)
    ∙ ap (λ (l : List Clause). before ++ in_clauses s g blocked (map clause_view l)) (ap (λ x. x ∷ drop (i + 1) all) ea ∙ sym (drop_more all i a h)) ∙ inv

-- one more thing of a row is noted, with its number
pub numbered_step : {A : Type 0} (one : ℕ → A → List Site) (go : ℕ → List A → List Site) → ((k : ℕ) (x : A) (xs : List A) → go k (x ∷ xs) ≡ one k x ++ go (suc k) xs)
    → (all : List A) (i : ℕ) (a : A) (before now start : List Site) → i < length all → a ≡ get_or all i a
    → before ++ go i (drop i all) ≡ start → now ≡ before ++ one i a
    → now ++ go (i + 1) (drop (i + 1) all) ≡ start
numbered_step one go more all i a before now start h ea inv en =
    let rest = drop (i + 1) all in
    (λ j. en j ++ go (add-one i j) rest) ∙ append_assoc before (one i a) (go (suc i) rest) ∙ ap (λ x. before ++ x) (sym (more i a rest))
    ∙ ap (λ l. before ++ go i l) (ap (λ x. x ∷ rest) ea ∙ sym (drop_more all i a h)) ∙ inv
