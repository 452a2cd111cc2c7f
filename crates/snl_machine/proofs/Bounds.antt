-- The bound of an instant of a machine.
use Rattle.std.proofs.Common.{◌≤◌, ◌*◌, ℕ, subst, arith, length}
use Rattle.std.proofs.Math.Nat.{mul-le-mul_left}
use Rattle.snl_flat.proofs.SizesAlike.{sizes-alike}
use Rattle.snl_flat.specs.Size.{program_size}
use Rattle.snl_flat.specs.Starts.{table_of, holds_in}
use Rattle.snl_meaning.proofs.Counts.{steps_are_bounded, stretches_are_bounded}
use Rattle.snl_schedule.specs.Loaded.{Loaded}
use Rattle.snl_schedule.specs.Steps.{instant_steps}
use Rattle.snl_load.proofs.Meant.{plans_are_right}
use Rattle.snl_machine.specs.Bounds.{segments, InstantsAreBounded}
use Rattle.snl_machine.specs.Holding.{loaded_by}
use Rattle.snl_machine.proofs.Instants.{instant-bounded}
use Rattle.snl_machine.proofs.Stretches.{all-tested, as-many}

-- an instant is within the bound of what was loaded, which has as many plans as there are state sets, and is no longer than the
-- program
pub instants_are_bounded : InstantsAreBounded
instants_are_bounded p ls waits budget m is reached tells w =
    let t : Loaded = loaded_by m.plan m.code in
    let right = plans_are_right p ls waits m.code t is.loaded in
    let tested = all-tested stretches_are_bounded p ls waits m.code t is.loaded is.loaded.code_is.apart in
    let sets = length p.state_sets in
    let bound : instant_steps t budget w ≤ segments budget sets * length m.code.instrs.items =
    subst (λ (n : ℕ). instant_steps t budget w ≤ segments budget n * length m.code.instrs.items) (as-many p ls waits m.code t is.loaded)
    (instant-bounded steps_are_bounded t right.1 tested budget w) in
    let same = sizes-alike p (holds_in (table_of m.code)) reached is.loaded.code_is.reached tells in
    let short : length m.code.instrs.items ≤ program_size reached p = omega (arith, is.loaded.short, same) in
    let more = mul-le-mul_left (segments budget sets) short in
    omega (arith, bound, more)
