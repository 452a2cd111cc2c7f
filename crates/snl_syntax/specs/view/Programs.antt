-- The plain tree of a declared program.
use Rattle.std.specs.Prelude.{◌≡◌, List, [], ◌∷◌, length, map, drop, Vec, Option, Some, None}
use Rattle.std.proofs.Common.{Global}
use Rattle.snl_text.specs.declared.tokens.Lexed.{Lexed}
use Rattle.snl_text.specs.declared.tokens.Token.{Token}
use Rattle.snl_text.specs.declared.tokens.Pos.{Pos}
use Rattle.snl_syntax.specs.declared.programs.Program.{Program}
use Rattle.snl_syntax.specs.declared.programs.StateSet.{StateSet}
use Rattle.snl_syntax.specs.declared.programs.State.{State}
use Rattle.snl_syntax.specs.declared.programs.Clause.{Clause}
use Rattle.snl_syntax.specs.declared.programs.Target.{Target}
use Rattle.snl_syntax.specs.declared.programs.Target.TheVariants as Declared
use Rattle.snl_syntax.specs.view.Shown.{shown, held}
use Rattle.snl_syntax.specs.view.Expressions.{boxed}
use Rattle.snl_syntax.specs.view.Statements.{block_view}
use Rattle.snl_syntax.specs.view.Definitions.{definition_views}
use Rattle.snl_syntax.specs.Programs.{TargetTree, to_state, to_exit, ClauseTree, StateTree, StateSetTree, ProgramTree}

abbrev pub target_view : Target → TargetTree
target_view (Declared.State x) = to_state x
target_view Declared.Exit = to_exit

abbrev pub clause_view : Clause → ClauseTree
clause_view c = record { word = c.word; condition = shown boxed c.condition; block = block_view c.block.value; target = target_view c.target }

abbrev pub clause_views : Vec Clause Global → List ClauseTree
clause_views v = map clause_view v.items

abbrev pub state_view : State → StateTree
state_view s = record { word = s.word; name = s.name; definitions = definition_views s.definitions; entry = shown (held block_view) s.entry; clauses = clause_views s.clauses; exit = shown (held block_view) s.exit }

abbrev pub state_views : Vec State Global → List StateTree
state_views v = map state_view v.items

abbrev pub state_set_view : StateSet → StateSetTree
state_set_view s = record { word = s.word; name = s.name; definitions = definition_views s.definitions; states = state_views s.states }

abbrev pub state_set_views : Vec StateSet Global → List StateSetTree
state_set_views v = map state_set_view v.items

abbrev pub program_view : Program → ProgramTree
program_view p = record { word = p.word; name = p.name; macros = p.macros; definitions = definition_views p.definitions; entry = shown (held block_view) p.entry; state_sets = state_set_views p.state_sets; exit = shown (held block_view) p.exit }

-- the place of the first token, if there is one
abbrev pub first_place : List Token → Option Pos
first_place [] = None
first_place (t ∷ ts) = Some t.pos

-- What a program takes along of its source: the pieces of embedded C, the files, the count of tokens, and the
-- place of the first token after the first 65,536.
pub record Carries (p : Program) (lexed : Lexed) : Type 0 where
  pub embedded : p.embedded.items ≡ lexed.embedded.items
  pub files : p.files.items ≡ lexed.files.items
  pub token_count : p.token_count ≡ length lexed.tokens.items
  pub beyond : p.beyond ≡ first_place (drop 65536 lexed.tokens.items)
