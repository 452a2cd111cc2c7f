-- The law of plans: what a plan runs is what its program means, without the states that are not reached.
use Rattle.std.specs.Prelude.{◌≡◌, ◌<◌, ◌≤◌, ◌-◌, ◌^◌, Bool, List, length}
use Rattle.snl_syntax.specs.Programs.{ProgramTree}
use Rattle.snl_flat.specs.declared.code.Code.{Code}
use Rattle.snl_flat.specs.Inside.{IsInside}
use Rattle.snl_flat.specs.Pieces.{IsCodeOf, texts_of}
use Rattle.snl_flat.specs.Size.{program_size}
use Rattle.snl_flat.specs.Starts.{entries_of, table_of, holds_in}
use Rattle.snl_channels.specs.Links.{Link}
use Rattle.snl_schedule.specs.Loaded.{Loaded, program_of, CanRunLoaded}
use Rattle.snl_load.specs.Meaning.{program_meaning}
use Rattle.snl_load.specs.Plans.{plan_view, program_plan}
use Rattle.snl_load.specs.Reached.{only_reached}

-- The code of a program is loaded with the program's plan, with where its functions begin, and with room for as many operands as
-- the code says. All of the code lies inside, and it is no longer than the size of the program.
pub record IsLoadedOf (p : ProgramTree) (ls : List Link) (waits : Bool) (c : Code) (t : Loaded) : Type 0 where
  pub code_is : IsCodeOf p c
  pub inside : IsInside p c
  pub short : length c.instrs.items ≤ program_size (holds_in (table_of c)) p
  pub code : t.code ≡ c.instrs.items
  pub formats : t.formats ≡ texts_of c
  pub functions : t.functions ≡ entries_of c
  pub room : t.room ≡ c.depth
  pub counted : c.depth < 2 ^ 64 - 1
  pub plan : plan_view t.plan ≡ program_plan p ls waits c.instrs.items (table_of c)

-- What it runs is what the program means on its tree, without the pieces of the states that the code does not have; and no piece
-- of it is ever stuck.
abbrev pub PlansAreRight : Type 0
PlansAreRight = (p : ProgramTree) (ls : List Link) (waits : Bool) (c : Code) (t : Loaded) → IsLoadedOf p ls waits c t →
    (program_of t ≡ only_reached (holds_in (table_of c)) (program_meaning p ls waits)) × CanRunLoaded t
