-- What a program means: its clauses by the meaning of their conditions and blocks on the tree.
use Rattle.std.specs.Prelude.{ℕ, ◌+◌, Bool, not, List, [], ◌∷◌, map, Option, None, Some}
use Rattle.snl_text.specs.declared.tokens.Token.{Token}
use Rattle.snl_syntax.specs.Definitions.{DefinitionTree}
use Rattle.snl_syntax.specs.Programs.{TargetTree, to_state, to_exit, ClauseTree, StateTree, StateSetTree, ProgramTree}
use Rattle.snl_syntax.specs.Statements.{BlockTree}
use Rattle.snl_flat.specs.Heres.{scene_in}
use Rattle.snl_channels.specs.Links.{Link}
use Rattle.snl_meaning.specs.Effect.{Way, Left, held_by, block_effect}
use Rattle.snl_meaning.specs.Names.{or_first}
use Rattle.snl_names.specs.Numbered.{number_of}
use Rattle.snl_names.specs.Options.{sign_in_force}
use Rattle.snl_meaning.specs.Ran.{Ran, Gives, then_do}
use Rattle.snl_meaning.specs.Scenes.{Scene}
use Rattle.snl_meaning.specs.World.{World}
use Rattle.snl_schedule.specs.declared.plans.Again.{Again}
use Rattle.snl_schedule.specs.declared.plans.Destination.{Destination}
use Rattle.snl_schedule.specs.declared.plans.Destination.TheVariants.{State, Exit}
use Rattle.snl_schedule.specs.Instant.{Program}
use Rattle.snl_schedule.specs.Turn as turn
use Rattle.snl_load.specs.Places.{ties_in}

-- The state that a block leaves for, if it does.
abbrev pub state_left_for : Way → World → Ran (Option ℕ)
state_left_for (Left state) w = Gives (Some state) w []
state_left_for _ w = Gives None w []

-- An entry or an exit block is over: where it leads does not count.
abbrev pub finished : Way → World → Ran (Unit {0})
finished way w = Gives tt w []

-- An entry or an exit block. A missing one does nothing.
abbrev pub block_meaning : Scene → Option BlockTree → World → Ran (Unit {0})
block_meaning m None w = turn.nothing w
block_meaning m (Some b) w = then_do (block_effect m b w) finished

-- What a state does also where a transition leads from it to itself, by the letters `t`, `e` and `x` of its options: with
-- `+t` it sets the time of its entry, with `-e` it does its entry block, with `-x` its exit block.
abbrev pub again_of : List DefinitionTree → Again
again_of defs = record { time = sign_in_force 116 defs; entry = not (sign_in_force 101 defs); exit = not (sign_in_force 120 defs) }

-- Where a clause leads, by the names of the states.
abbrev pub target_of : List Token → TargetTree → Destination
target_of states (to_state x) = State (or_first (number_of states x.text.now))
target_of states to_exit = Exit

-- A clause: its condition, its block, where it leads, the line of its word.
abbrev pub clause_meaning : Scene → ClauseTree → turn.Clause
clause_meaning m c = record {
  holds = held_by m c.condition;
  acts = λ w. then_do (block_effect m c.block w) state_left_for;
  target = target_of m.here.states c.target;
  line = c.word.pos.line;
}

-- A state.
abbrev pub state_meaning : Scene → StateTree → turn.State
state_meaning m s = record {
  name = s.name.text.now;
  entry = block_meaning m s.entry;
  clauses = map (clause_meaning m) s.clauses;
  exit = block_meaning m s.exit;
  again = again_of s.definitions;
}

-- A state set of this number.
abbrev pub set_meaning : ProgramTree → ℕ → StateSetTree → turn.StateSet
set_meaning p k g = record { set = k; name = g.name.text.now; states = map (state_meaning (scene_in p k)) g.states }

-- State sets with numbers from k on.
abbrev pub set_meanings : ProgramTree → ℕ → List StateSetTree → List turn.StateSet
set_meanings p k [] = []
set_meanings p k (g ∷ gs) = set_meaning p k g ∷ set_meanings p (k + 1) gs

-- A program with these links, which waits for its channels or does not. Its own blocks run on the copy of the first state set.
abbrev pub program_meaning : ProgramTree → List Link → Bool → Program
program_meaning p ls waits = record {
  name = p.name.text.now;
  links = ties_in p ls;
  waits = waits;
  entry = block_meaning (scene_in p 0) p.entry;
  sets = set_meanings p 0 p.state_sets;
  exit = block_meaning (scene_in p 0) p.exit;
}
