use Rattle.std.proofs.Common.{ap}
use Rattle.std.proofs.lemmas.Result.{err_from_is_err_and}
use Rattle.snl_syntax.specs.declared.definitions.Def.TheVariants as Declared
use Rattle.snl_syntax.specs.Definitions.{function}
use Rattle.snl_syntax.specs.view.Functions.{function_view}
use Rattle.snl_syntax.specs.view.Definitions.{definition_view}
use Rattle.snl_tree.proofs.code.Building.{in_a_row, no_room}
use Rattle.snl_tree.proofs.readers.boxes.functions.push_function.Goals as goal

-- where the box is not made, nothing is put into the row
pub returns-in_err-found : goal.returns-in_err-found
returns-in_err-found c = λ left.
    let p = err_from_is_err_and c.from_residual.result c.from_residual.ensures.1 in
    rw (p.1, p.2) (no_room c.in_err-found.field-0.0 c.in_err-found.ensures.memory left _)

-- the function in its box is put at the end of the row
pub returns : goal.returns
returns c =
    in_a_row definition_view (Declared.Function c.in_ok-found.found) _ _ _ c.pushed.result c.pushed.ensures.items c.pushed.ensures.memory
    (ap (λ f. function (function_view f)) c.in_ok-found.ensures.ok)
