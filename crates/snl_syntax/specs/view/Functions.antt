-- The plain tree of a declared function.
use Rattle.std.specs.Prelude.{List, map, Vec}
use Rattle.std.proofs.Common.{Global}
use Rattle.snl_syntax.specs.declared.functions.Function.{Function}
use Rattle.snl_syntax.specs.declared.functions.Parameters.{Parameters}
use Rattle.snl_syntax.specs.declared.functions.Parameter.{Parameter}
use Rattle.snl_syntax.specs.view.Shown.{shown, held}
use Rattle.snl_syntax.specs.view.Declarations.{type_view}
use Rattle.snl_syntax.specs.view.Statements.{block_view}
use Rattle.snl_syntax.specs.Functions.{ParameterTree, ParametersTree, FunctionTree}

-- A parameter.
abbrev pub parameter_view : Parameter → ParameterTree
parameter_view p = record { type_name = type_view p.type_name; name = p.name }

-- Parameters, one by one.
abbrev pub parameter_views : Vec Parameter Global → List ParameterTree
parameter_views v = map parameter_view v.items

-- What stands in the parentheses of a function.
abbrev pub parameters_view : Parameters → ParametersTree
parameters_view p = record { void = p.void; each = parameter_views p.each }

-- A function.
abbrev pub function_view : Function → FunctionTree
function_view f = record { type_name = shown type_view f.type_name; name = f.name; parameters = parameters_view f.parameters; body = held block_view f.body }
