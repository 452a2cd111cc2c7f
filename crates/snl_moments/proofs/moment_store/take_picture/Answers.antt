use Rattle.std.proofs.Common.{None, refl}
use Rattle.snl_moments.proofs.TellLaws.{takes}
use Rattle.snl_moments.proofs.moment_store.take_picture.Goals as goal

pub returns : goal.returns
returns c = λ w pictures room.
    let from = c.args.from.now in
    let mid = c.take_picture.new.self in
    takes c.args.store.now mid (record mid { time = from.time; phase = from.phase; wake = from.wake; ticks = 0; due = None }) from w
    (rw c.as_slice.ensures.value at c.take_picture.ensures.world) refl pictures room
