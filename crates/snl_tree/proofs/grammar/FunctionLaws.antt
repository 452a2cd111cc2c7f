-- The readers of functions, and of the definitions of a program among which they stand, are right. A body is a
-- block, and that nests, so they are so from limit 1 on.
use Rattle.std.proofs.Common.{◌≡◌, ℕ, suc, ◌<◌, length, Ok, Bool, true, false, true≢false, List, [], ◌∷◌, Option, Some, None, ◌⊎◌, inl, inr, refl, sym, ap, subst}
use Rattle.snl_text.specs.declared.tokens.Token.{Token}
use Rattle.snl_text.specs.declared.kinds.Kind.{Kind}
use Rattle.snl_text.specs.declared.kinds.Kind.TheVariants.{Name, OptionWord, Void, OpenParenthesis, CloseParenthesis, Semicolon, Comma}
use Rattle.snl_syntax.specs.Kinds.{is}
use Rattle.snl_tree.specs.reading.Readers.{one, sign, both, either}
use Rattle.snl_syntax.specs.Sequences.{EachOfSome}
use Rattle.snl_tree.specs.reading.Sequences.{maybe, behind, between}
use Rattle.snl_syntax.specs.Expressions.{ExprTree}
use Rattle.snl_syntax.specs.Declarations.{starts_declaration, may_be_unsigned, TypeTree, InitialiserTree, DeclaratorTree, IsType, IsDeclarator}
use Rattle.snl_tree.specs.reading.Declarations.{type_at, ends_at, more_declarators_at}
use Rattle.snl_syntax.specs.Statements.{BlockTree}
use Rattle.snl_tree.specs.reading.Statements.{block_at}
use Rattle.snl_syntax.specs.Functions.{ParameterTree, ParametersTree, parameter_slots, parameters_slots, IsParameter, AreParametersBy, AreParameters}
use Rattle.snl_syntax.specs.Definitions.{SettingTree, DefinitionTree, declaration, assign, monitor, sync, sync_queue, event_flags, setting, function, starts_part, starts_program_part, definition_slots, IsProgramPart}
use Rattle.snl_tree.specs.reading.Definitions.{other_at, setting_at}
use Rattle.snl_tree.specs.reading.Functions.{parameter_at, parameter_row_at, parameters, parameters_at, FunctionRest, function_rest_at, VariableRest, variable_rest_at, Typed, typed_at, void_at, function_of, FormOfPart, program_part, program_part_at, program_parts_at}
use Rattle.snl_tree.proofs.spelling.Laws.{Links}
use Rattle.snl_tree.proofs.spelling.Choices.{Heads, Avoids, is_true, true_is}
use Rattle.snl_tree.proofs.grammar.Shapes.{avoids_heads}
use Rattle.snl_tree.proofs.grammar.Inside.{links_any}
use Rattle.snl_tree.proofs.spelling.Rights.{Form, Right, one_form, right_kind, sign_form, right_sign, both_form, right_both, right_made, either_form, right_either, maybe_form, right_maybe, behind_form, right_behind, before_form, right_before, between_form, right_between, many_form, right_many, parted_form, right_parted, right_less}
use Rattle.snl_tree.proofs.grammar.DeclarationLaws.{type_form, right_type, ends_form, ends_follow, right_ends, more_form, right_more_declarators}
use Rattle.snl_tree.proofs.grammar.DefinitionLaws.{IsOther, other_form, right_other, other_heads, declaration_starts, heads_more}
use Rattle.snl_tree.proofs.grammar.OptionLaws.{setting_form, right_setting, definition_starts, part_heads}
use Rattle.snl_tree.proofs.grammar.StatementLimits.{later_form, right_later, block_form, right_block}

-- parameters

-- a type and a name, which anything may follow
abbrev pub parameter_form : Form ParameterTree
parameter_form = record { slots = parameter_slots; good = λ _. IsParameter; follow = λ _ _. Unit {0} }

-- a name is no second word of a type
name_no_type : (k : Kind) → is Name k ≡ true → may_be_unsigned k ≡ false
name_no_type k e = ap may_be_unsigned (is_true Name k e)

-- the reader of a parameter is right
right_parameter : Right parameter_form (λ _. parameter_at)
unfolding parameter_at
right_parameter = right_made (both_form type_form (λ _. one_form (is Name))) parameter_form (λ x. record { type_name = x.0; name = x.1 }) (λ _. both type_at (λ _. one (is Name)))
    (right_both type_form (λ _. one_form (is Name)) (λ _. type_at) (λ _ _. one (is Name)) right_type (λ _. right_kind Name) (λ _ _ x _ g. name_no_type x.kind g))
    (λ n x g. ((g.0, is_true Name x.1.kind g.1), refl)) (λ n p g. ((p.type_name, p.name), (g.0, true_is Name p.name.kind g.1), refl)) (λ n x g k f. tt)

-- a closing parenthesis
abbrev IsClose : Kind → Type 0
IsClose k = k ≡ CloseParenthesis

-- at least one parameter, with a comma between each two, before a closing parenthesis
abbrev row_form : Form (List ParameterTree)
row_form = parted_form Comma parameter_form IsClose

-- the reader of a row of parameters is right
right_row : Right row_form (λ _. parameter_row_at)
unfolding parameter_row_at
right_row = right_parted Comma parameter_form IsClose (λ _. parameter_at) right_parameter (λ k e. subst (λ z. is Comma z ≡ false) (sym e) refl) (λ _ _ _. tt) (λ _ _ _ _ _. tt)

-- a row of parameters begins with a word of a type
row_heads : (n : ℕ) (all : List ParameterTree) → row_form.good n all → Heads (λ k. starts_declaration k ≡ true) (row_form.slots all)
row_heads n [] g = absurd g
row_heads n (p ∷ all) g = g.0.0.0

-- a row of parameters that may be missing before a closing parenthesis
abbrev maybe_row : Form (Option (List ParameterTree))
maybe_row = maybe_form row_form IsClose

-- what begins a declaration is not the word `void`
no_void : (k : Kind) → starts_declaration k ≡ true → is Void k ≡ false
no_void Void e = absurd (true≢false (sym e))
no_void _ e = refl

-- a row of parameters that may be missing does not begin with `void`
row_avoids : (n : ℕ) (o : Option (List ParameterTree)) → maybe_row.good n o → Avoids (is Void) (maybe_row.follow o) (maybe_row.slots o)
row_avoids n None g = λ k e. subst (λ z. is Void z ≡ false) (sym e) refl
row_avoids n (Some []) g = absurd g
row_avoids n (Some (p ∷ all)) g = no_void p.type_name.word.kind g.0.0.0

-- the word `void`, or parameters that may be missing
abbrev void_or_row : Form (Unit {0} ⊎ Option (List ParameterTree))
void_or_row = either_form (sign_form Void) maybe_row

-- the parameters of a function, before a closing parenthesis
abbrev parameters_form : Form ParametersTree
parameters_form = record { slots = parameters_slots; good = λ _. AreParameters; follow = λ _. IsClose }

-- the reader of parameters is right
right_parameters : Right parameters_form (λ _. parameters_at)
unfolding parameters_at
right_parameters = right_made void_or_row parameters_form parameters (λ _. either (is Void) (sign Void) (maybe starts_declaration parameter_row_at))
    (right_either (is Void) (sign_form Void) maybe_row (λ _. sign Void) (λ _. maybe starts_declaration parameter_row_at) (right_sign Void)
    (right_maybe starts_declaration row_form IsClose (λ _. parameter_row_at) right_row row_heads (λ k e. subst (λ z. starts_declaration z ≡ false) (sym e) refl))
    (λ _ _ _. refl) row_avoids)
    into (λ n p g. onto n p.void p.each g) follows
  where
    into : (n : ℕ) (x : Unit {0} ⊎ Option (List ParameterTree)) → void_or_row.good n x → AreParameters (parameters x) × (parameters_slots (parameters x) ≡ void_or_row.slots x)
    into n (inl u) g = (refl, refl)
    into n (inr None) g = (tt, refl)
    into n (inr (Some [])) g = absurd g
    into n (inr (Some (p ∷ all))) g = (g, refl)

    onto : (n : ℕ) (void : Bool) (each : List ParameterTree) → AreParametersBy void each
        → (x : Unit {0} ⊎ Option (List ParameterTree)) × void_or_row.good n x × (parameters x ≡ record { void = void; each = each })
    onto n true each g = (inl tt, tt, ap (λ (z : List ParameterTree). record { void = true; each = z }) (sym g))
    onto n false [] g = (inr None, tt, refl)
    onto n false (p ∷ all) g = (inr (Some (p ∷ all)), g, refl)

    follows : (n : ℕ) (x : Unit {0} ⊎ Option (List ParameterTree)) → void_or_row.good n x → (k : Kind) → IsClose k → void_or_row.follow x k
    follows n (inl u) g k f = tt
    follows n (inr None) g k f = f
    follows n (inr (Some all)) g k f = f

-- functions

-- the parameters in parentheses, and the body
abbrev rest_form : Form FunctionRest
rest_form = both_form (between_form OpenParenthesis parameters_form CloseParenthesis) (λ _. block_form)

-- the reader of parameters and a body is right
right_rest : Right rest_form (λ n. function_rest_at (suc n))
unfolding function_rest_at
right_rest = right_both (between_form OpenParenthesis parameters_form CloseParenthesis) (λ _. block_form) (λ _. between OpenParenthesis parameters_at CloseParenthesis)
    (λ n _. block_at (suc n) (suc n)) (right_between OpenParenthesis parameters_form (λ _. parameters_at) CloseParenthesis right_parameters (λ _ _ _. refl)) (λ _. right_block)
    (λ _ _ b _ _. links_any (λ _. Unit {0}) (block_form.follow b) (block_form.slots b) (λ _. tt))

-- a name, the parameters and the body
abbrev named_form : Form (Token × FunctionRest)
named_form = both_form (one_form (is Name)) (λ _. rest_form)

-- the reader of functions without a value is right
right_void : Right (behind_form Void named_form) (λ n. void_at (suc n))
unfolding void_at
right_void = right_behind Void named_form (λ n. both (one (is Name)) (λ _. function_rest_at (suc n)))
    (right_both (one_form (is Name)) (λ _. rest_form) (λ _. one (is Name)) (λ n _. function_rest_at (suc n)) (right_kind Name) (λ _. right_rest) (λ _ _ _ _ _. tt))

-- a type and a name, and what comes behind them

-- all of a declaration after its first name
abbrev names_form : Form ((List ExprTree × Option InitialiserTree) × List DeclaratorTree)
names_form = both_form ends_form (λ _. more_form)

-- further names or the semicolon may follow what belongs to the first
more_link : (x : List ExprTree × Option InitialiserTree) (all : List DeclaratorTree) → Links (ends_form.follow x) (more_form.follow all) (more_form.slots all)
more_link x [] = λ k e. ends_follow x k (inr e)
more_link x (d ∷ all) = ends_follow x Comma (inl refl)

-- all of a declaration after its first name, up to its semicolon
abbrev variables_form : Form VariableRest
variables_form = before_form names_form Semicolon

-- the reader of all of a declaration after its first name is right
right_variables : Right variables_form variable_rest_at
unfolding variable_rest_at
right_variables = right_before names_form (λ n. both (ends_at n) (λ _. more_declarators_at n)) Semicolon
    (right_both ends_form (λ _. more_form) ends_at (λ n _. more_declarators_at n) right_ends (λ _. right_more_declarators) (λ _ x all _ _. more_link x all)) (λ _ _ _. refl)

-- what comes after the first name of a declaration is no opening parenthesis
variables_avoid : (x : VariableRest) → Avoids (is OpenParenthesis) (variables_form.follow x) (variables_form.slots x)
variables_avoid ((e ∷ sizes, o), all) = refl
variables_avoid (([], Some i), all) = refl
variables_avoid (([], None), d ∷ all) = refl
variables_avoid (([], None), []) = refl

-- the rest of a function, or of a declaration
abbrev either_rest : Form (FunctionRest ⊎ VariableRest)
either_rest = either_form rest_form (later_form variables_form)

-- a type, a name and either rest
abbrev typed_form : Form Typed
typed_form = both_form type_form (λ _. both_form (one_form (is Name)) (λ _. either_rest))

-- the reader of what begins with a type is right
right_typed : Right typed_form (λ n. typed_at (suc n))
unfolding typed_at
right_typed = right_both type_form (λ _. both_form (one_form (is Name)) (λ _. either_rest)) (λ _. type_at)
    (λ n _. both (one (is Name)) (λ _. either (is OpenParenthesis) (function_rest_at (suc n)) (variable_rest_at (suc n)))) right_type
    (λ _. right_both (one_form (is Name)) (λ _. either_rest) (λ _. one (is Name)) (λ n _. either (is OpenParenthesis) (function_rest_at (suc n)) (variable_rest_at (suc n))) (right_kind Name)
    (λ _. right_either (is OpenParenthesis) rest_form (later_form variables_form) (λ n. function_rest_at (suc n)) (λ n. variable_rest_at (suc n)) right_rest
    (right_later variables_form variable_rest_at right_variables) (λ _ _ _. refl) (λ _ x _. variables_avoid x))
    (λ _ _ x _ _. links_any (λ _. Unit {0}) (either_rest.follow x) (either_rest.slots x) (λ _. tt)))
    (λ _ _ x _ g. name_no_type x.0.kind g.0)

-- the definitions of a program

-- an option, or a definition that is no declaration
abbrev word_form : Form (SettingTree ⊎ DefinitionTree)
word_form = either_form (later_form setting_form) (later_form other_form)

-- what begins with a type, an option, or a definition that is no declaration
abbrev typed_or_word : Form (Typed ⊎ (SettingTree ⊎ DefinitionTree))
typed_or_word = either_form typed_form word_form

-- all forms among the definitions of a program
abbrev any_form : Form FormOfPart
any_form = either_form (behind_form Void named_form) typed_or_word

-- a definition that is no declaration does not begin with the word `option`
other_avoids : (n : ℕ) (d : DefinitionTree) → IsOther n d → Avoids (is OptionWord) (λ _. Unit {0}) (definition_slots d)
other_avoids n d g = avoids_heads (is OptionWord) (λ _. Unit {0}) (definition_slots d) (other_heads n (λ k. is OptionWord k ≡ false) d refl (refl, refl, refl, refl) g)

-- an option, or a definition that is no declaration, does not begin with a type
word_avoids : (n : ℕ) (x : SettingTree ⊎ DefinitionTree) → word_form.good n x → Avoids starts_declaration (word_form.follow x) (word_form.slots x)
word_avoids n (inl o) g = refl
word_avoids n (inr d) g = avoids_heads starts_declaration (λ _. Unit {0}) (definition_slots d) (other_heads (suc n) (λ k. starts_declaration k ≡ false) d refl (refl, refl, refl, refl) g)

-- nothing that begins otherwise begins with `void`
typed_avoids : (n : ℕ) (x : Typed ⊎ (SettingTree ⊎ DefinitionTree)) → typed_or_word.good n x → Avoids (is Void) (typed_or_word.follow x) (typed_or_word.slots x)
typed_avoids n (inl x) g = no_void x.0.word.kind g.0.0
typed_avoids n (inr (inl o)) g = refl
typed_avoids n (inr (inr d)) g = avoids_heads (is Void) (λ _. Unit {0}) (definition_slots d) (other_heads (suc n) (λ k. is Void k ≡ false) d refl (refl, refl, refl, refl) g)

-- the choice between the readers of all of them is right
right_any : Right any_form (λ n. either (is Void) (void_at (suc n)) (either starts_declaration (typed_at (suc n)) (either (is OptionWord) setting_at (other_at (suc n)))))
right_any = right_either (is Void) (behind_form Void named_form) typed_or_word (λ n. void_at (suc n))
    (λ n. either starts_declaration (typed_at (suc n)) (either (is OptionWord) setting_at (other_at (suc n)))) right_void
    (right_either starts_declaration typed_form word_form (λ n. typed_at (suc n)) (λ n. either (is OptionWord) setting_at (other_at (suc n))) right_typed
    (right_either (is OptionWord) (later_form setting_form) (later_form other_form) (λ _. setting_at) (λ n. other_at (suc n)) (right_later setting_form (λ _. setting_at) right_setting)
    (right_later other_form other_at right_other) (λ _ _ _. refl) (λ n d g. other_avoids (suc n) d g))
    (λ n x g. g.0.0) word_avoids)
    (λ _ _ _. refl) typed_avoids

-- any kind may follow each of them
any_free : (x : FormOfPart) (k : Kind) → any_form.follow x k
any_free (inl x) k = tt
any_free (inr (inl (t, (x, inl f)))) k = tt
any_free (inr (inl (t, (x, inr v)))) k = tt
any_free (inr (inr (inl o))) k = tt
any_free (inr (inr (inr d))) k = tt

-- a definition, an option or a function, which anything may follow
abbrev pub program_part_form : Form DefinitionTree
program_part_form = record { slots = definition_slots; good = λ n. IsProgramPart (suc n); follow = λ _ _. Unit {0} }

-- a definition that is read is well formed, and spelled as its parts
part_into : (n : ℕ) (x : FormOfPart) → any_form.good n x → IsProgramPart (suc n) (program_part x) × (definition_slots (program_part x) ≡ any_form.slots x)
part_into n (inl x) g = ((tt, is_true Name x.0.kind g.0, g.1.0, g.1.1), refl)
part_into n (inr (inl (t, (x, inl f)))) g = ((g.0, is_true Name x.kind g.1.0, g.1.1.0, g.1.1.1), refl)
part_into n (inr (inl (t, (x, inr v)))) g = ((g.0, ((is_true Name x.kind g.1.0, g.1.1.0.0, g.1.1.0.1), g.1.1.1)), refl)
part_into n (inr (inr (inl o))) g = (g, refl)
part_into n (inr (inr (inr (declaration d)))) g = absurd g
part_into n (inr (inr (inr (assign a)))) g = (g, refl)
part_into n (inr (inr (inr (monitor p)))) g = (g, refl)
part_into n (inr (inr (inr (sync s)))) g = (g, refl)
part_into n (inr (inr (inr (sync_queue q)))) g = (g, refl)
part_into n (inr (inr (inr (event_flags names)))) g = (g, refl)
part_into n (inr (inr (inr (setting o)))) g = absurd g
part_into n (inr (inr (inr (function f)))) g = absurd g

-- what a well-formed definition is read from
abbrev Onto : ℕ → DefinitionTree → Type 0
Onto n d = (x : FormOfPart) × any_form.good n x × (program_part x ≡ d)

-- each well-formed function can be read
function_onto : (n : ℕ) (o : Option TypeTree) (x : Token) (p : ParametersTree) (b : BlockTree) → IsProgramPart (suc n) (function_of o x (p, b)) → Onto n (function_of o x (p, b))
function_onto n None x p b g = (inl (x, (p, b)), (true_is Name x.kind g.1, (g.2, g.3)), refl)
function_onto n (Some t) x p b g = (inr (inl (t, (x, inl (p, b)))), (g.0, (true_is Name x.kind g.1, (g.2, g.3))), refl)

-- each well-formed declaration can be read
variables_onto : (n : ℕ) (t : TypeTree) (names : List DeclaratorTree) → IsType t → EachOfSome (IsDeclarator (suc n)) names → Onto n (declaration record { type_name = t; names = names })
variables_onto n t [] g h = absurd h
variables_onto n t (d ∷ all) g h =
    (inr (inl (t, (d.name, inr ((d.sizes, d.initial), all)))), (g, (true_is Name d.name.kind h.0.0, ((h.0.1, h.0.2), h.1))), refl)

-- each well-formed definition of a program can be read
part_onto : (n : ℕ) (d : DefinitionTree) → IsProgramPart (suc n) d → Onto n d
part_onto n (declaration d) g = variables_onto n d.type_name d.names g.0 g.1
part_onto n (assign a) g = (inr (inr (inr (assign a))), g, refl)
part_onto n (monitor p) g = (inr (inr (inr (monitor p))), g, refl)
part_onto n (sync s) g = (inr (inr (inr (sync s))), g, refl)
part_onto n (sync_queue q) g = (inr (inr (inr (sync_queue q))), g, refl)
part_onto n (event_flags names) g = (inr (inr (inr (event_flags names))), g, refl)
part_onto n (setting o) g = (inr (inr (inl o)), g, refl)
part_onto n (function f) g = function_onto n f.type_name f.name f.parameters f.body g

-- the reader of the definitions of a program is right
pub right_program_part : Right program_part_form (λ n. program_part_at (suc n))
unfolding program_part_at
right_program_part = right_made any_form program_part_form program_part
    (λ n. either (is Void) (void_at (suc n)) (either starts_declaration (typed_at (suc n)) (either (is OptionWord) setting_at (other_at (suc n))))) right_any
    part_into part_onto (λ n x g k f. any_free x k)

-- what begins a definition or an option begins one of a program
part_starts : (k : Kind) → starts_part k ≡ true → starts_program_part k ≡ true
part_starts Void e = refl
part_starts _ e = e

-- what begins a declaration begins a definition of a program
type_starts : (k : Kind) → starts_declaration k ≡ true → starts_program_part k ≡ true
type_starts k e = part_starts k (definition_starts k (declaration_starts k e))

-- a function begins with `void` or a type
function_heads : (n : ℕ) (o : Option TypeTree) (x : Token) (f : FunctionRest) → IsProgramPart n (function_of o x f) → Heads (λ k. starts_program_part k ≡ true) (definition_slots (function_of o x f))
function_heads n None x f g = refl
function_heads n (Some t) x f g = type_starts t.word.kind g.0.0

-- where a definition begins as those of a state do, it begins as those of a program do
more_heads : (d : DefinitionTree) → Heads (λ k. starts_part k ≡ true) (definition_slots d) → Heads (λ k. starts_program_part k ≡ true) (definition_slots d)
more_heads d h = heads_more (λ k. starts_part k ≡ true) (λ k. starts_program_part k ≡ true) (definition_slots d) part_starts h

-- each definition of a program begins with a word that begins one
pub program_part_heads : (n : ℕ) (d : DefinitionTree) → IsProgramPart n d → Heads (λ k. starts_program_part k ≡ true) (definition_slots d)
program_part_heads n (function f) g = function_heads n f.type_name f.name (f.parameters, f.body) g
program_part_heads n (declaration d) g = more_heads (declaration d) (part_heads n (declaration d) g)
program_part_heads n (assign a) g = more_heads (assign a) (part_heads n (assign a) g)
program_part_heads n (monitor p) g = refl
program_part_heads n (sync s) g = refl
program_part_heads n (sync_queue q) g = more_heads (sync_queue q) (part_heads n (sync_queue q) g)
program_part_heads n (event_flags names) g = refl
program_part_heads n (setting o) g = refl

-- a row of them, which the kinds of P may follow
abbrev pub program_parts_form : (Kind → Type 0) → Form (List DefinitionTree)
program_parts_form P = many_form program_part_form P

-- the reader of rows of the definitions of a program is right where what follows begins none
pub right_program_parts : (P : Kind → Type 0) → ((k : Kind) → P k → starts_program_part k ≡ false) → Right (program_parts_form P) (λ n. program_parts_at (suc n))
unfolding program_parts_at
right_program_parts P stop = right_many starts_program_part program_part_form P (λ n. program_part_at (suc n)) right_program_part (λ n d g. program_part_heads (suc n) d g) stop
    (λ _ _ _ _ _. tt) (λ _ _ _ _ _. tt)

-- fewer tokens are left after a comma and a parameter
pub next_parameter_less : (ts rest : List Token) (p : ParameterTree) → behind Comma parameter_at ts ≡ Ok (p, rest) → length rest < length ts
next_parameter_less ts rest p h =
    right_less (behind_form Comma parameter_form) (λ _. behind Comma parameter_at) (right_behind Comma parameter_form (λ _. parameter_at) right_parameter) (λ _ _ _. tt) 0 ts rest p h
