-- The forms in which the code reads declarations and functions.
use Rattle.std.proofs.Common.{◌≡◌, ℕ, Bool, true, false, List, [], ◌∷◌, Ok, Option, Some, None, inr, refl, ◌∙◌}
use Rattle.snl_text.specs.declared.tokens.Token.{Token}
use Rattle.snl_text.specs.declared.kinds.Kind.TheVariants.{Name, OptionWord, Void, OpenParenthesis, CloseParenthesis, Semicolon}
use Rattle.snl_syntax.specs.Kinds.{is}
use Rattle.snl_tree.specs.reading.Readers.{Read, starts, one, sign, either, made, ◌>>=◌}
use Rattle.snl_tree.specs.reading.Sequences.{maybe}
use Rattle.snl_syntax.specs.Declarations.{starts_declaration, TypeTree}
use Rattle.snl_tree.specs.reading.Declarations.{type_at, ends_at, declarator, declarator_at, more_declarators_at, declarators_at}
use Rattle.snl_tree.specs.reading.Statements.{block_at}
use Rattle.snl_syntax.specs.Functions.{ParameterTree, ParametersTree}
use Rattle.snl_syntax.specs.Definitions.{declaration, setting}
use Rattle.snl_tree.specs.reading.Definitions.{other_at, setting_at}
use Rattle.snl_tree.specs.reading.Functions.{parameter_row_at, parameters, parameters_at, function_rest_at, variable_rest_at, typed_at, void_at, function_of, variables_of, typed, program_part, program_part_at}
use Rattle.snl_tree.proofs.code.Forms.{bind_assoc, bind_same, elim_same, either_form}
use Rattle.snl_tree.proofs.code.DefinitionForms.{as_read}

-- declarations

-- a declared name is read as a name and what belongs to it
pub declarator_form : (n : ℕ) (ts : List Token) → declarator_at n ts ≡ (one (is Name) ts >>= λ a. made (declarator a.0) (ends_at n) a.1)
unfolding declarator_at
declarator_form n ts = simp bind_assoc

-- declared names are read as a first one and those after commas
pub declarators_form : (n : ℕ) (ts : List Token) → declarators_at n ts ≡ (declarator_at n ts >>= λ a. made (λ all. a.0 ∷ all) (more_declarators_at n) a.1)
unfolding declarators_at more_declarators_at
declarators_form n ts = simp bind_assoc

-- a declaration is read, from behind its first name on, as what belongs to that, further names and a semicolon
pub variables_form : (t : TypeTree) (x : Token) (n : ℕ) (ts : List Token) → made (variables_of t x) (variable_rest_at n) ts ≡ (made (declarator x) (ends_at n) ts >>= λ a.
    made (λ all. a.0 ∷ all) (more_declarators_at n) a.1 >>= λ b. sign Semicolon b.1 >>= λ c. Ok (declaration record { type_name = t; names = b.0 }, c.1))
unfolding variable_rest_at
variables_form t x n ts = simp bind_assoc

-- functions

-- parameters are read as the word `void`, as a row, or as nothing
pub parameters_form : (ts : List Token) → parameters_at ts ≡ elim (starts (is Void) ts) [
  | true ↦ (sign Void ts >>= λ x. Ok (record { void = true; each = [] }, x.1))
  | false ↦ elim (starts starts_declaration ts) [
    | true ↦ (parameter_row_at ts >>= λ x. Ok (record { void = false; each = x.0 }, x.1))
    | false ↦ Ok (record { void = false; each = [] }, ts)
  ]
]
unfolding parameters_at
parameters_form ts =
    either_form (is Void) (sign Void) (maybe starts_declaration parameter_row_at) ts (λ x. Ok (parameters x.0, x.1))
    ∙ elim_same (starts (is Void) ts) _ _ _ _ refl (go (starts starts_declaration ts))
  where
    go : (b : Bool) → ◌≡◌ {A = Read ParametersTree} (
        let r : Read (Option (List ParameterTree)) = elim b [ true ↦ (parameter_row_at ts >>= λ x. Ok (Some x.0, x.1)) | false ↦ Ok (None, ts) ] in
        r >>= λ y. Ok (parameters (inr y.0), y.1))
        (elim b [ true ↦ (parameter_row_at ts >>= λ x. Ok (record { void = false; each = x.0 }, x.1)) | false ↦ Ok (record { void = false; each = [] }, ts) ])
    go true = bind_assoc (parameter_row_at ts) (λ x. Ok (Some x.0, x.1)) (λ y. Ok (parameters (inr y.0), y.1))
    go false = refl

-- a function is read, from behind its name on, as parameters in parentheses and a block
pub function_form : (t : Option TypeTree) (x : Token) (n : ℕ) (ts : List Token) → made (function_of t x) (function_rest_at n) ts ≡ (sign OpenParenthesis ts >>= λ a. parameters_at a.1 >>= λ b.
    sign CloseParenthesis b.1 >>= λ c. block_at n n c.1 >>= λ d. Ok (function_of t x (b.0, d.0), d.1))
unfolding function_rest_at
function_form t x n ts = simp bind_assoc

-- a function without a value is read as its word, a name, and what comes behind them
pub void_form : (n : ℕ) (ts : List Token) → made (λ x. function_of None x.0 x.1) (void_at n) ts ≡ (sign Void ts >>= λ a. one (is Name) a.1 >>= λ b.
    made (function_of None b.0) (function_rest_at n) b.1)
unfolding void_at
void_form n ts = simp bind_assoc

-- what begins with a type is read as that, a name, and the rest of a function or of a declaration
pub typed_form : (n : ℕ) (ts : List Token) → made typed (typed_at n) ts ≡ (type_at ts >>= λ a. one (is Name) a.1 >>= λ b. elim (starts (is OpenParenthesis) b.1)
    [ true ↦ made (function_of (Some a.0) b.0) (function_rest_at n) b.1 | false ↦ made (variables_of a.0 b.0) (variable_rest_at n) b.1 ])
unfolding typed_at
typed_form n ts =
    (simp bind_assoc) ∙ bind_same (type_at ts) _ _ (λ a. bind_same (one (is Name) a.1) _ _ (λ b.
    either_form (is OpenParenthesis) (function_rest_at n) (variable_rest_at n) b.1 (λ y. Ok (typed (a.0, (b.0, y.0)), y.1))))

-- a definition of a program is read by the word that it begins with
pub program_part_cases : (n : ℕ) (ts : List Token) → program_part_at n ts ≡ elim (starts (is Void) ts) [
  | true ↦ made (λ x. function_of None x.0 x.1) (void_at n) ts
  | false ↦ elim (starts starts_declaration ts) [
    | true ↦ made typed (typed_at n) ts
    | false ↦ elim (starts (is OptionWord) ts) [ true ↦ (setting_at ts >>= λ x. Ok (setting x.0, x.1)) | false ↦ other_at n ts ]
  ]
]
unfolding program_part_at
program_part_cases n ts =
    either_form (is Void) (void_at n) (either starts_declaration (typed_at n) (either (is OptionWord) setting_at (other_at n))) ts (λ x. Ok (program_part x.0, x.1))
    ∙ elim_same (starts (is Void) ts) _ _ _ _ refl
    (either_form starts_declaration (typed_at n) (either (is OptionWord) setting_at (other_at n)) ts (λ x. Ok (program_part (inr x.0), x.1)) ∙ elim_same (starts starts_declaration ts) _ _ _ _ refl
    (either_form (is OptionWord) setting_at (other_at n) ts (λ x. Ok (program_part (inr (inr x.0)), x.1)) ∙ elim_same (starts (is OptionWord) ts) _ _ _ _ refl (as_read (other_at n ts))))
