-- What an instruction needs that puts 0 or 1 in the place of the topmost number.
use Rattle.std.proofs.Common.{◌≢◌, ℕ, ℤ, List, [], ◌∷◌}
use Rattle.snl_meaning.specs.declared.instrs.Instr.{Instr}
use Rattle.snl_meaning.specs.declared.instrs.Instr.TheVariants as instr
use Rattle.snl_meaning.specs.Run.{PieceContext, done_by}
use Rattle.snl_meaning.specs.World.{World}
use Rattle.snl_vm.specs.Steps.{CanStep, PutsTruth}

-- it needs a number there
pub some-top : (i : Instr) → PutsTruth i → (g : PieceContext) (pc : ℕ) (s : List ℤ) (w : World) → CanStep (done_by g i pc s w) → s ≢ []
some-top instr.Settle truth g pc [] w can = absurd can
some-top instr.Settle truth g pc (z ∷ s) w can = λ is. absurd (cc)
some-top (instr.Wait in_seconds) truth g pc [] w can = absurd can
some-top (instr.Wait in_seconds) truth g pc (z ∷ s) w can = λ is. absurd (cc)
some-top (instr.Push z) truth g pc s w can = absurd truth
some-top (instr.Load v) truth g pc s w can = absurd truth
some-top (instr.Check v line) truth g pc s w can = absurd truth
some-top (instr.Get v) truth g pc s w can = absurd truth
some-top (instr.Peek v) truth g pc s w can = absurd truth
some-top (instr.Store v line) truth g pc s w can = absurd truth
some-top (instr.StoreAt v line) truth g pc s w can = absurd truth
some-top (instr.Adjust v op op_line line is_before) truth g pc s w can = absurd truth
some-top (instr.AdjustAt v op op_line line is_before) truth g pc s w can = absurd truth
some-top (instr.Increment v op op_line line) truth g pc s w can = absurd truth
some-top (instr.Apply op line) truth g pc s w can = absurd truth
some-top (instr.ApplyPrefix op line) truth g pc s w can = absurd truth
some-top (instr.ApplyNumber op z line) truth g pc s w can = absurd truth
some-top instr.Drop truth g pc s w can = absurd truth
some-top (instr.Jump n) truth g pc s w can = absurd truth
some-top (instr.JumpIfZero n) truth g pc s w can = absurd truth
some-top (instr.Tick line back) truth g pc s w can = absurd truth
some-top (instr.Ask query number) truth g pc s w can = absurd truth
some-top (instr.AskLink query v) truth g pc s w can = absurd truth
some-top (instr.AskElement query v) truth g pc s w can = absurd truth
some-top (instr.Clear v) truth g pc s w can = absurd truth
some-top (instr.Assign v k line) truth g pc s w can = absurd truth
some-top (instr.Leave state) truth g pc s w can = absurd truth
some-top (instr.Fit least greatest line) truth g pc s w can = absurd truth
some-top instr.End truth g pc s w can = absurd truth
some-top (instr.Print format count) truth g pc s w can = absurd truth
some-top (instr.Put v async) truth g pc s w can = absurd truth
some-top (instr.PutAt v async) truth g pc s w can = absurd truth
some-top (instr.Call f n line) truth g pc s w can = absurd truth
some-top instr.Return truth g pc s w can = absurd truth
