use Rattle.std.proofs.Common.{◌*◌, ◌≤◌, arith}
use Rattle.std.proofs.Math.Nat.{mul-le-mul_right}
use Rattle.snl_vm.proofs.queues.Queue.refill.Goals as goal

pub overflow_mul-held : goal.overflow_mul-held
overflow_mul-held c =
    let q = c.args.self.now in
    let below : c.args.held * q.width ≤ q.size * q.width = mul-le-mul_right q.width c.if-self-held.false in
    omega (arith, below, q.room, c.capacity-room.ensures.within)
