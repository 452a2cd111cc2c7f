-- The trees of programs: their spelling, and when they are well formed.
use Rattle.std.specs.Prelude.{◌≡◌, ℕ, List, [], ◌∷◌, ◌++◌, Option}
use Rattle.snl_text.specs.declared.tokens.Token.{Token}
use Rattle.snl_text.specs.declared.kinds.Kind.TheVariants.{Name, Text, Program, Entry, Exit, StateSet, State, When, OpenBrace, CloseBrace, OpenParenthesis, CloseParenthesis}
use Rattle.snl_syntax.specs.Slots.{Slot, The, Sign}
use Rattle.snl_syntax.specs.Sequences.{between_slots, maybe_slots, IfThere, row_slots, Each, EachOfSome}
use Rattle.snl_syntax.specs.Expressions.{ExprTree, slots, IsExpr}
use Rattle.snl_syntax.specs.Definitions.{DefinitionTree, token_slots, definition_slots, IsDefinition, IsPart, IsProgramPart}
use Rattle.snl_syntax.specs.Statements.{BlockTree, block_slots, IsBlock}
use Rattle.snl_syntax.specs.Begins.{Sort}

-- Where a clause leads: to a state, or out of the program.
pub data TargetTree : Type 0 where
  to_state : Token → TargetTree
  to_exit : TargetTree

pub record ClauseTree : Type 0 where
  pub word : Token
  pub condition : Option ExprTree
  pub block : BlockTree
  pub target : TargetTree

pub record StateTree : Type 0 where
  pub word : Token
  pub name : Token
  pub definitions : List DefinitionTree
  pub entry : Option BlockTree
  pub clauses : List ClauseTree
  pub exit : Option BlockTree

pub record StateSetTree : Type 0 where
  pub word : Token
  pub name : Token
  pub definitions : List DefinitionTree
  pub states : List StateTree

pub record ProgramTree : Type 0 where
  pub word : Token
  pub name : Token
  pub macros : Option Token
  pub definitions : List DefinitionTree
  pub entry : Option BlockTree
  pub state_sets : List StateSetTree
  pub exit : Option BlockTree

-- The spelling.
-- 'state' NAME | 'exit'
abbrev pub target_slots : TargetTree → List Slot
target_slots (to_state x) = Sign State ∷ The x ∷ []
target_slots to_exit = Sign Exit ∷ []

-- when : 'when' '(' [ expr ] ')' block target
abbrev pub clause_slots : ClauseTree → List Slot
clause_slots c = The c.word ∷ (between_slots OpenParenthesis (maybe_slots slots c.condition) CloseParenthesis ++ (block_slots c.block ++ target_slots c.target))

-- entry : 'entry' block
abbrev pub entry_slots : BlockTree → List Slot
entry_slots b = Sign Entry ∷ block_slots b

-- exit : 'exit' block
abbrev pub exit_slots : BlockTree → List Slot
exit_slots b = Sign Exit ∷ block_slots b

-- state : 'state' NAME '{' ( def | option )* [ entry ] when* [ exit ] '}'
abbrev pub state_slots : StateTree → List Slot
state_slots s = The s.word ∷ The s.name ∷ between_slots OpenBrace
    (row_slots definition_slots s.definitions ++ (maybe_slots entry_slots s.entry ++ (row_slots clause_slots s.clauses ++ maybe_slots exit_slots s.exit))) CloseBrace

-- ss : 'ss' NAME '{' def* state+ '}'
abbrev pub state_set_slots : StateSetTree → List Slot
state_set_slots s = The s.word ∷ The s.name ∷ between_slots OpenBrace (row_slots definition_slots s.definitions ++ row_slots state_slots s.states) CloseBrace

-- '(' STRING ')'
abbrev pub macros_slots : Token → List Slot
macros_slots t = between_slots OpenParenthesis (token_slots t) CloseParenthesis

-- program : 'program' NAME [ macros ] ( def | option | fdef )* [ entry ] ss+ [ exit ]
abbrev pub program_slots : ProgramTree → List Slot
program_slots p = The p.word ∷ The p.name ∷ (maybe_slots macros_slots p.macros ++ (row_slots definition_slots p.definitions ++
    (maybe_slots entry_slots p.entry ++ (row_slots state_set_slots p.state_sets ++ maybe_slots exit_slots p.exit))))

-- Well formed, with expressions, and statements, that are nested at most n deep.
abbrev pub IsTarget : TargetTree → Type 0
IsTarget (to_state x) = x.kind ≡ Name
IsTarget to_exit = Unit {0}

abbrev pub IsClause : ℕ → ClauseTree → Type 0
IsClause n c = (c.word.kind ≡ When) × IfThere (IsExpr n) c.condition × IsBlock n c.block × IsTarget c.target

abbrev pub IsState : ℕ → StateTree → Type 0
IsState n s = (s.word.kind ≡ State) × (s.name.kind ≡ Name) × Each (IsPart n) s.definitions × IfThere (IsBlock n) s.entry × Each (IsClause n) s.clauses × IfThere (IsBlock n) s.exit

-- Options stand in programs and states alone, and functions in programs alone.
abbrev pub IsStateSet : ℕ → StateSetTree → Type 0
IsStateSet n s = (s.word.kind ≡ StateSet) × (s.name.kind ≡ Name) × Each (IsDefinition n) s.definitions × EachOfSome (IsState n) s.states

abbrev pub IsProgram : ℕ → ProgramTree → Type 0
IsProgram n p = (p.word.kind ≡ Program) × (p.name.kind ≡ Name) × IfThere (λ t. t.kind ≡ Text) p.macros × Each (IsProgramPart n) p.definitions × IfThere (IsBlock n) p.entry × EachOfSome (IsStateSet n) p.state_sets × IfThere (IsBlock n) p.exit

abbrev pub programs : Sort ProgramTree
programs = record { slots = program_slots; within = IsProgram }
