-- The variables of the copies of all state sets.
use Rattle.std.specs.Prelude.{ℕ, List, Vec, map}
use Rattle.std.proofs.Common.{Global}
use Rattle.snl_syntax.specs.Programs.{StateSetTree, ProgramTree}
use Rattle.snl_names.specs.declared.copy_variables.CopyVariable as declared
use Rattle.snl_names.specs.CopyVariables.{variable_view}
use Rattle.snl_names.specs.Variables.{CopyVariable, variables_of}
use Rattle.snl_flat.specs.Heres.{for_each_set}

-- The variables of the copies of state sets with numbers from k on.
abbrev pub held_sets : ProgramTree → ℕ → List StateSetTree → List (List CopyVariable)
held_sets p = for_each_set (variables_of p)

-- ---- what the code's rows stand for

-- The variables of a copy,
abbrev pub variables_in : Vec declared.CopyVariable Global → List CopyVariable
variables_in held = map variable_view held.items

-- and of copies.
abbrev pub sets_of : List (Vec declared.CopyVariable Global) → List (List CopyVariable)
sets_of sets = map variables_in sets
