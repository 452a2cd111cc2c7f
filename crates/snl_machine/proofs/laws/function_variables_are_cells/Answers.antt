use Rattle.snl_machine.proofs.SharedCells.{function_variables_are_cells}
use Rattle.snl_machine.proofs.laws.function_variables_are_cells.Goals as goal

pub returns : goal.returns
returns c = function_variables_are_cells
