-- A small program, and what it does with values of a channel, computed from the definitions alone.
use Rattle.std.specs.Prelude.{◌≡◌, true, false, nat_lt, ℕ, ℤ, pos, List, [], ◌∷◌, ◌++◌, codes, None, Some}
use Rattle.snl_text.specs.declared.kinds.Kind.{Kind}
use Rattle.snl_text.specs.declared.kinds.Kind.TheVariants as kind
use Rattle.snl_text.specs.declared.tokens.Token.{Token}
use Rattle.snl_syntax.specs.Definitions.{DefinitionTree, one_name, declaration, assign, monitor}
use Rattle.snl_syntax.specs.Expressions.{ExprTree, constant, named, call, chain, assignment, no_terms, term, no_arguments, value}
use Rattle.snl_syntax.specs.Programs.{to_state, ClauseTree, StateTree, ProgramTree}
use Rattle.snl_syntax.specs.Statements.{expression, no_statements, statement, block}
use Rattle.snl_flat.specs.Size.{program_size}
use Rattle.snl_channels.specs.Links.{links}
use Rattle.snl_meaning.specs.Ran.{Ran, Gives, Faults}
use Rattle.snl_meaning.specs.World.{World}
use Rattle.snl_schedule.specs.Arrivals.{connected, received}
use Rattle.snl_schedule.specs.Instant.{Program, instant_of}
use Rattle.snl_load.specs.First.{first_world_of}
use Rattle.snl_load.specs.Meaning.{program_meaning}

-- A token at an offset, in line 1.
abbrev pub token : Kind → ℕ → List ℕ → Token
token kind offset bytes = record { kind = kind; text = record { ref_ptr = (0, 0); now = bytes }; pos = record { offset = offset; file = 0; line = 1 } }

-- A name at an offset.
abbrev pub name : ℕ → List ℕ → Token
name = token kind.Name

-- A sign or a word.
abbrev pub sign : Kind → Token
sign k = token k 0 []

-- `int NAME;`
abbrev pub int : Token → DefinitionTree
int x = declaration (record { type_name = record { word = sign kind.Int; second = None }; names = record { name = x; sizes = []; initial = None } ∷ [] })

-- `assign NAME to "CHANNEL";`
abbrev pub assigned : Token → List ℕ → DefinitionTree
assigned x channel =
    assign (record {
      word = sign kind.Assign;
      place = record { name = x; subscript = None };
      channels = Some (record { to = true; names = one_name (token kind.Text 0 (codes "\"" ++ channel ++ codes "\"")) });
    })

-- `A OPERATOR N`
abbrev pub with_number : Kind → ExprTree → List ℕ → ExprTree
with_number op e digits = chain e (term (sign op) (constant (token kind.Whole 0 digits)) no_terms)

-- `when (x > 3) { y = VALUE; pvPut(y); } state hi`
abbrev pub clause_with : ExprTree → ClauseTree
clause_with e = record {
  word = sign kind.When;
  condition = Some (with_number kind.Greater (named (name 20 (codes "x"))) (codes "3"));
  block = block []
      (statement (expression (assignment (named (name 21 (codes "y"))) (sign kind.Equal) e))
      (statement (expression (call (name 23 (codes "pvPut")) (value (named (name 24 (codes "y"))) no_arguments))) no_statements));
  target = to_state (name 25 (codes "hi"));
}

-- A state with these clauses.
abbrev pub state : Token → List ClauseTree → StateTree
state x clauses = record { word = sign kind.State; name = x; definitions = []; entry = None; clauses = clauses; exit = None }

-- `program p int x; assign x to "a"; monitor x; int y; assign y to "b"; MORE ss s { state lo { CLAUSE } state hi { } }`
abbrev pub program_with : List DefinitionTree → ClauseTree → ProgramTree
program_with more c = record {
  word = sign kind.Program;
  name = name 1 (codes "p");
  macros = None;
  definitions =
      int (name 2 (codes "x")) ∷ assigned (name 3 (codes "x")) (codes "a") ∷ monitor (record { name = name 4 (codes "x"); subscript = None })
      ∷ int (name 5 (codes "y")) ∷ assigned (name 6 (codes "y")) (codes "b") ∷ more;
  entry = None;
  state_sets = record {
    word = sign kind.StateSet;
    name = name 7 (codes "s");
    definitions = [];
    states = state (name 8 (codes "lo")) (c ∷ []) ∷ state (name 9 (codes "hi")) [] ∷ [];
  } ∷ [];
  exit = None;
}

-- The value is `x * 2`.
abbrev pub doubling : ProgramTree
doubling = program_with [] (clause_with (with_number kind.Star (named (name 22 (codes "x"))) (codes "2")))

-- What such a program means.
abbrev pub meant : ProgramTree → Program
meant p = program_meaning p (links p []) true

-- Its world once both channels are connected.
abbrev pub ready : ProgramTree → World
ready p = connected 1 true (connected 0 true (first_world_of p (links p [])))

-- The world that is left.
abbrev pub world_left : {A : Type 0} → Ran A → World
world_left (Gives v w text) = w
world_left (Faults f line w text) = w

-- The lines that were written.
abbrev pub lines_of : {A : Type 0} → Ran A → List ℕ
lines_of (Gives v w text) = text
lines_of (Faults f line w text) = text

-- Channel `a` has a value at a time, in a world.
abbrev pub valued : ProgramTree → ℕ → ℤ → World → Ran (Unit {0})
valued p ms z w = instant_of (meant p) 100 (received (meant p) 0 (z ∷ []) (record w { time = ms }))

-- It has 1 at 0 ms, and then a value at 5 ms.
abbrev pub valued_then : ProgramTree → ℤ → Ran (Unit {0})
valued_then p z = valued p 5 z (world_left (valued p 0 (pos 1) (ready p)))

-- With 1 it starts, and waits for more than 3; with 7 the clause fires. Where it does not wait for its channels it starts at
-- once.
abbrev pub RunExample : Type 0
RunExample =
    (lines_of (instant_of (program_meaning doubling (links doubling []) false) 100 (first_world_of doubling (links doubling []))) ≡ codes "0 start p\n")
    × (lines_of (valued doubling 0 (pos 1) (ready doubling)) ≡ codes "0 start p\n")
    × (lines_of (valued_then doubling (pos 7)) ≡ codes "5 put b 14\n5 go s lo hi\n")

-- Its size, where both states count, and where the second one is not reached.
abbrev pub SizeExample : Type 0
SizeExample = (program_size (λ set state. true) doubling ≡ 276) × (program_size (λ set state. nat_lt state 1) doubling ≡ 260)
