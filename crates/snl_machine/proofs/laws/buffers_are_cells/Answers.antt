use Rattle.snl_machine.proofs.Buffers.{buffers_are_cells}
use Rattle.snl_machine.proofs.laws.buffers_are_cells.Goals as goal

pub returns : goal.returns
returns c = buffers_are_cells
