-- Examples: targets, numbers, words of stores and links of small trees, computed.
use Rattle.std.specs.Prelude.{◌≡◌, ℕ, false, List, [], ◌∷◌, Option, Some, None, codes}
use Rattle.snl_text.specs.declared.tokens.Token.{Token}
use Rattle.snl_text.specs.declared.kinds.Kind.TheVariants as kind
use Rattle.snl_syntax.specs.Declarations.{DeclaratorTree, DeclarationTree}
use Rattle.snl_syntax.specs.Definitions.{DefinitionTree}
use Rattle.snl_syntax.specs.Statements.{StatementTree, BlockTree, nested, change_state, if_then, while_loop, no_statements, statement, block}
use Rattle.snl_syntax.specs.Programs.{TargetTree, to_state, to_exit, ClauseTree, StateTree, StateSetTree, ProgramTree}
use Rattle.snl_names.specs.declared.sites.Extent.{Extent}
use Rattle.snl_names.specs.declared.sites.Extent.TheVariants.{Whole, Front, Element}
use Rattle.snl_names.specs.declared.sites.Meaning.TheVariants.{Nothing}
use Rattle.snl_names.specs.declared.sites.Sort.{Sort}
use Rattle.snl_names.specs.declared.sites.Sort.TheVariants.{Assign, Queue}
use Rattle.snl_names.specs.declared.sites.Site.{Site}
use Rattle.snl_names.specs.declared.sites.Site.TheVariants.{Defined}
use Rattle.snl_resolve.specs.Examples.{name, whole, sign, ints, sized}
use Rattle.snl_names.specs.Numbered.{number_of}
use Rattle.snl_reach.specs.Reach.{targets_in_state, state_names, IsReached, IsUnreachedIn}
use Rattle.snl_rules.specs.Words.{set_words, sets_words, links_words}

-- ---- targets

-- `state NAME;`
abbrev pub go_to : Token → StatementTree
go_to x = change_state (sign kind.State) x

-- a block of one statement
abbrev pub only : StatementTree → BlockTree
only a = block [] (statement a no_statements)

-- `when () { .. }` and a target
abbrev pub always : BlockTree → TargetTree → ClauseTree
always b target = record { word = sign kind.When; condition = None; block = b; target = target }

-- a state without definitions and `exit`
abbrev pub state_of : Token → Option BlockTree → List ClauseTree → StateTree
state_of t entry clauses = record { word = sign kind.State; name = t; definitions = []; entry = entry; clauses = clauses; exit = None }

-- `when () { if (0) state b; } state c`
abbrev pub two_targets : ClauseTree
two_targets = always (only (if_then (whole (codes "0")) (go_to (name 20 (codes "b"))))) (to_state (name 30 (codes "c")))

-- `when () { while (1) { state a; } } exit`
abbrev pub in_loop : ClauseTree
in_loop = always (only (while_loop (sign kind.While) (whole (codes "1")) (nested (only (go_to (name 40 (codes "a"))))))) to_exit

-- A state names what its clauses lead to, and what state statements name: in code that is never run, and in an `entry`
-- block. Of two states with one name the first is meant.
abbrev pub TargetExamples : Type 0
TargetExamples =
    (targets_in_state (state_of (name 1 (codes "a")) None (two_targets ∷ in_loop ∷ [])) ≡ name 20 (codes "b") ∷ name 30 (codes "c") ∷ name 40 (codes "a") ∷ [])
    × (targets_in_state (state_of (name 1 (codes "a")) (Some (only (go_to (name 20 (codes "b"))))) []) ≡ name 20 (codes "b") ∷ [])
    × (targets_in_state (state_of (name 1 (codes "a")) None (always (block [] no_statements) to_exit ∷ [])) ≡ [])
    × (number_of (state_names (state_of (name 1 (codes "a")) None [] ∷ state_of (name 2 (codes "b")) None [] ∷ state_of (name 3 (codes "b")) None [] ∷ [])) (codes "b") ≡ Some 1)

-- ---- ways

-- It leads to `b`.
abbrev pub first_state : StateTree
first_state = state_of (name 1 (codes "a")) None (always (block [] no_statements) (to_state (name 10 (codes "b"))) ∷ [])

-- It leads to `a`.
abbrev pub second_state : StateTree
second_state = state_of (name 2 (codes "b")) None (always (only (go_to (name 11 (codes "a")))) to_exit ∷ [])

-- It leads nowhere, and has the name of the second.
abbrev pub third_state : StateTree
third_state = state_of (name 3 (codes "b")) None []

-- `state a { when () { } state b } state b { when () { state a; } exit } state b { }`
abbrev pub three_states : List StateTree
three_states = first_state ∷ second_state ∷ third_state ∷ []

-- `state a { when () { } exit } state b { when () { } state c } state c { }`
abbrev pub named_by_one_that_is_not_reached : List StateTree
named_by_one_that_is_not_reached =
    state_of (name 1 (codes "a")) None (always (block [] no_statements) to_exit ∷ [])
    ∷ state_of (name 2 (codes "b")) None (always (block [] no_statements) (to_state (name 10 (codes "c"))) ∷ [])
    ∷ state_of (name 3 (codes "c")) None [] ∷ []

-- No way leads to a state that is named by a state alone to which none leads.
abbrev pub NameExamples : Type 0
NameExamples = IsReached named_by_one_that_is_not_reached 0 × IsUnreachedIn named_by_one_that_is_not_reached (name 2 (codes "b")) × IsUnreachedIn named_by_one_that_is_not_reached (name 3 (codes "c"))

-- The second state is reached. The third has its name, so no way leads to it.
abbrev pub WayExamples : Type 0
WayExamples = IsReached three_states 0 × IsReached three_states 1 × IsUnreachedIn three_states (name 3 (codes "b"))

-- ---- words

-- declared names in a block
abbrev pub ints_in_block : List DeclaratorTree → DeclarationTree
ints_in_block names = record { type_name = record { word = sign kind.Int; second = None }; names = names }

-- a state set of one state, with definitions
abbrev pub set_of : List DefinitionTree → StateTree → StateSetTree
set_of defs s = record { word = sign kind.StateSet; name = name 0 (codes "g"); definitions = defs; states = s ∷ [] }

-- `int a[3]; entry { int b[2]; } ss g { int c; state s { when () { int d[5]; } exit } } ss g { state s { } }`
abbrev pub two_sets : ProgramTree
two_sets = record {
  word = sign kind.Program;
  name = name 0 (codes "p");
  macros = None;
  definitions = ints (sized (name 1 (codes "a")) (whole (codes "3") ∷ []) ∷ []) ∷ [];
  entry = Some (block (ints_in_block (sized (name 2 (codes "b")) (whole (codes "2") ∷ []) ∷ []) ∷ []) no_statements);
  state_sets =
      set_of (ints (sized (name 3 (codes "c")) [] ∷ []) ∷ [])
      (state_of (name 4 (codes "s")) None (always (block (ints_in_block (sized (name 5 (codes "d")) (whole (codes "5") ∷ []) ∷ []) ∷ []) no_statements) to_exit ∷ []))
      ∷ set_of [] (state_of (name 6 (codes "s")) None []) ∷ [];
  exit = None;
}

-- A definition of elements of the variable that is declared at an offset.
abbrev pub definition_of : Sort → ℕ → Extent → Site
definition_of sort variable extent =
    Defined sort (sign kind.Assign).pos (name 0 (codes "x")) Nothing false false
    (Some (record { variable = record { offset = variable; file = 0; line = 1 }; extent = extent }))

-- The program's variables count in each state set, its blocks in the first alone. A link takes the words of its buffer
-- and of its queue, which is that of the first `syncQ`.
abbrev pub WordExamples : Type 0
WordExamples =
    (set_words two_sets 0 ≡ 11)
    × (set_words two_sets 1 ≡ 3)
    × (sets_words two_sets 0 two_sets.state_sets ≡ 14)
    × (links_words (definition_of Assign 4 (Whole 3) ∷ definition_of Assign 9 (Element 2) ∷ definition_of Assign 12 (Front 5) ∷ []) ≡ 9)
    × (links_words (definition_of Assign 4 (Whole 3) ∷ definition_of (Queue 100) 4 (Whole 3) ∷ definition_of (Queue 7) 4 (Whole 3) ∷ []) ≡ 303)
    × (links_words (definition_of (Queue 100) 4 (Whole 3) ∷ []) ≡ 0)
