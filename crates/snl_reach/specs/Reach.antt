-- Which states of a state set can be reached from its first one.
use Rattle.std.specs.Prelude.{◌≡◌, ℕ, List, [], ◌∷◌, ◌++◌, map, slice_get, Option, None, Some}
use Rattle.std.specs.List.{Contains, flat_map}
use Rattle.snl_text.specs.declared.tokens.Token.{Token}
use Rattle.snl_syntax.specs.Statements.{StatementTree, StatementList, BlockTree, nested, change_state, if_then, if_else, while_loop, for_loop, no_statements, statement, block}
use Rattle.snl_syntax.specs.Programs.{TargetTree, to_state, to_exit, ClauseTree, StateTree, StateSetTree, ProgramTree}
use Rattle.snl_names.specs.Numbered.{number_of}

-- ---- the names that stand as targets

-- The targets of the state statements in a statement: also where one may not stand, and where none is ever run.
abbrev mutual
  pub targets_in_statement : StatementTree → List Token
  targets_in_statement (nested b) = targets_in_block b
  targets_in_statement (change_state t x) = x ∷ []
  targets_in_statement (if_then e a) = targets_in_statement a
  targets_in_statement (if_else e a b) = targets_in_statement a ++ targets_in_statement b
  targets_in_statement (while_loop t e a) = targets_in_statement a
  targets_in_statement (for_loop t h a) = targets_in_statement a
  targets_in_statement _ = []

  -- one statement after the other
  pub targets_in_statements : StatementList → List Token
  targets_in_statements no_statements = []
  targets_in_statements (statement a rest) = targets_in_statement a ++ targets_in_statements rest

  -- its declarations name none
  pub targets_in_block : BlockTree → List Token
  targets_in_block (block declared all) = targets_in_statements all

-- The same of an `entry` or `exit` block, if it is there.
abbrev pub targets_if_there : Option BlockTree → List Token
targets_if_there None = []
targets_if_there (Some b) = targets_in_block b

-- The name after a clause's block; none where it leads out of the program.
abbrev pub targets_after : TargetTree → List Token
targets_after (to_state x) = x ∷ []
targets_after to_exit = []

-- The targets of a clause: those in its block, and its own.
abbrev pub targets_in_clause : ClauseTree → List Token
targets_in_clause c = targets_in_block c.block ++ targets_after c.target

-- The targets of a state: those in its blocks and its clauses.
abbrev pub targets_in_state : StateTree → List Token
targets_in_state s = targets_if_there s.entry ++ flat_map targets_in_clause s.clauses ++ targets_if_there s.exit

-- ---- ways from state to state, by the numbers of states in their state set

-- The names of states, in the order of their numbers.
abbrev pub state_names : List StateTree → List Token
state_names states = map (λ s. s.name) states

-- State i names state j as a target. Of states with one name the first is meant.
pub record LeadsTo (states : List StateTree) (i j : ℕ) : Type 0 where
  pub state : StateTree
  pub target : Token
  pub stands : slice_get states i ≡ Some state
  pub names : Contains (targets_in_state state) target
  pub means : number_of (state_names states) target.text.now ≡ Some j

-- A way from state i to state j: each state after i is one that the state before it names.
abbrev pub IsWay : List StateTree → ℕ → List ℕ → ℕ → Type 0
IsWay states i [] j = i ≡ j
IsWay states i (k ∷ way) j = LeadsTo states i k × IsWay states k way j

-- A state is reached when there is a way to it from the first state.
abbrev pub IsReached : List StateTree → ℕ → Type 0
IsReached states k = (way : List ℕ) × IsWay states 0 way k

-- The token is the name of a state, among these of a state set, that is not reached.
pub record IsUnreachedIn (states : List StateTree) (t : Token) : Type 0 where
  pub number : ℕ
  pub state : StateTree
  pub stands : slice_get states number ≡ Some state
  pub named : state.name ≡ t
  pub unreached : IsReached states number → ⊥

-- The token is the name of a state, in some state set of the program, that is not reached there.
pub record IsUnreached (p : ProgramTree) (t : Token) : Type 0 where
  pub state_set : StateSetTree
  pub among : Contains p.state_sets state_set
  pub inside : IsUnreachedIn state_set.states t
