-- A program that lacks a parenthesis, and one with it.
use Rattle.std.proofs.Common.{[], ◌∷◌, None, refl, inl, arith}
use Rattle.snl_text.specs.declared.kinds.Kind.TheVariants as kind
use Rattle.snl_syntax.specs.Statements.{BlockTree, block, no_statements}
use Rattle.snl_syntax.specs.Programs.{ProgramTree, StateSetTree, StateTree, ClauseTree, to_exit}
use Rattle.snl_cures.specs.Examples.{token, CureExamples}
use Rattle.snl_cures.proofs.NoCureLaws.{no_cure}

-- { }
abbrev nothing : BlockTree
nothing = block [] no_statements

-- when () { } exit
abbrev clause : ClauseTree
clause = record { word = token kind.When 27; condition = None; block = nothing; target = to_exit }

-- state a { .. }
abbrev state : StateTree
state = record { word = token kind.State 17; name = token kind.Name 23; definitions = []; entry = None; clauses = clause ∷ []; exit = None }

-- ss s { .. }
abbrev state_set : StateSetTree
state_set = record { word = token kind.StateSet 10; name = token kind.Name 13; definitions = []; states = state ∷ [] }

-- program p ..
abbrev program : ProgramTree
program = record { word = token kind.Program 0; name = token kind.Name 8; macros = None; definitions = []; entry = None; state_sets = state_set ∷ []; exit = None }

-- the program with its parenthesis is one, and no program begins with a semicolon
pub cure_examples : CureExamples
cure_examples = record {
  one = record {
    fits = omega arith;
    beyond = inl (
      program,
      (refl, refl, tt, tt, tt, ((refl, refl, tt, ((refl, refl, tt, tt, ((refl, tt, (tt, tt), tt), tt), tt), tt)), tt), tt),
      (refl, (refl, (refl, (refl, (refl, (refl, (refl, (refl, (refl, (refl, (refl, (refl, (refl, (refl, (refl, (refl, refl)))))))))))))))),
    );
  };
  none = no_cure;
}
