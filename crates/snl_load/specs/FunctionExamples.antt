-- A small program that calls a function, and what it does with values of a channel, computed from the definitions alone.
use Rattle.std.specs.Prelude.{◌≡◌, ◌+◌, false, true, ℤ, pos, List, [], ◌∷◌, codes, None, Some}
use Rattle.snl_text.specs.declared.kinds.Kind.TheVariants as kind
use Rattle.snl_syntax.specs.Declarations.{TypeTree}
use Rattle.snl_syntax.specs.Definitions.{DefinitionTree, function}
use Rattle.snl_syntax.specs.Expressions.{named, call, no_arguments, value}
use Rattle.snl_syntax.specs.Programs.{ProgramTree}
use Rattle.snl_syntax.specs.Statements.{return_with, no_statements, statement, block}
use Rattle.snl_flat.specs.Size.{program_size}
use Rattle.snl_channels.specs.Links.{links}
use Rattle.snl_load.specs.Examples.{sign, name, with_number, clause_with, program_with, world_left, lines_of, valued_then}
use Rattle.snl_load.specs.First.{first_world_of}

-- `int`
abbrev pub int_type : TypeTree
int_type = record { word = sign kind.Int; second = None }

-- `int twice(int n) { return n * 2; }`
abbrev pub twice : DefinitionTree
twice = function (record {
  type_name = Some int_type;
  name = name 10 (codes "twice");
  parameters = record { void = false; each = record { type_name = int_type; name = name 11 (codes "n") } ∷ [] };
  body = block [] (statement (return_with (sign kind.Return) (Some (with_number kind.Star (named (name 12 (codes "n"))) (codes "2")))) no_statements);
})

-- `when (x > 3) { y = twice(x); pvPut(y); } state hi`, with the function above it.
abbrev pub calling : ProgramTree
calling = program_with (twice ∷ []) (clause_with (call (name 13 (codes "twice")) (value (named (name 22 (codes "x"))) no_arguments)))

-- The words of functions before the first event.
abbrev pub shared_first : List ℤ
shared_first = (first_world_of calling (links calling [])).shared

-- After channel `a` had 1 and then another value.
abbrev pub shared_then : ℤ → List ℤ
shared_then z = (world_left (valued_then calling z)).shared

-- The parameter has one word, which is 0 at first. With 3 the clause does not fire; with 7 it does, and 7 is left in the parameter. With 2,000,000,000 what the
-- function returns does not fit its type.
abbrev pub FunctionRunExample : Type 0
FunctionRunExample =
    (shared_first ≡ pos 0 ∷ []) × (lines_of (valued_then calling (pos 3)) ≡ []) × (shared_then (pos 3) ≡ pos 0 ∷ [])
    × (lines_of (valued_then calling (pos 7)) ≡ codes "5 put b 14\n5 go s lo hi\n") × (shared_then (pos 7) ≡ pos 7 ∷ [])
    × (lines_of (valued_then calling (pos 2000000000)) ≡ codes "5 fault s 1 value does not fit\n") × (shared_then (pos 2000000000) ≡ pos 2000000000 ∷ [])

-- Its size is that of the program with the product and 72 for the function: 8, 8 for its name, 16 for its parameter and 40 for its body. The call takes as much as
-- the product.
abbrev pub FunctionSizeExample : Type 0
FunctionSizeExample = program_size (λ set state. true) calling ≡ 276 + (8 + 8 + 16 + 40)
