use Rattle.snl_machine.proofs.Cells.{variables_are_cells}
use Rattle.snl_machine.proofs.laws.variables_are_cells.Goals as goal

pub returns : goal.returns
returns c = variables_are_cells
