-- What a machine has loaded.
use Rattle.snl_flat.specs.declared.code.Code.{Code}
use Rattle.snl_flat.specs.Pieces.{texts_of}
use Rattle.snl_flat.specs.Starts.{entries_of}
use Rattle.snl_schedule.specs.declared.plans.Plan.{Plan}
use Rattle.snl_schedule.specs.Loaded.{Loaded}

-- A plan with its code.
abbrev pub loaded_by : Plan → Code → Loaded
loaded_by plan code = record {
  plan = plan;
  code = code.instrs.items;
  formats = texts_of code;
  functions = entries_of code;
  room = code.depth;
}
