-- How many words a store holds: the members of its arrays, the room of its rings, and five single words. How many the operands hold.
use Rattle.std.specs.Prelude.{ℕ, ◌+◌, ◌*◌, ◌≡◌, length}
use Rattle.std.specs.List.{sum_by}
use Rattle.snl_meaning.specs.Frames.{Frame, frame_of}
use Rattle.snl_vm.specs.declared.marks.Marks.{Marks}
use Rattle.snl_vm.specs.declared.operands.Operands.{Operands}
use Rattle.snl_vm.specs.declared.queues.Queue.{Queue}
use Rattle.snl_vm.specs.declared.stores.SetMemory.{SetMemory}
use Rattle.snl_vm.specs.declared.stores.Store.{Store}
use Rattle.snl_vm.specs.Stack.{room_of}
use Rattle.snl_vm.specs.Views.{world_of}

-- Those of a state set: its copy, its state, and when it entered that.
abbrev pub copy_words : SetMemory → ℕ
copy_words c = length c.words.items + 2

-- Those of a queue: the room of its ring.
abbrev pub queue_words : Queue → ℕ
queue_words q = q.ring.capacity

-- Those of a row of marks: one for each mark, though 64 of them share a number of the machine.
abbrev pub mark_words : Marks → ℕ
mark_words m = m.count

-- Those of a store: the state sets, the variables of functions, the buffers, the queues, the marks, the event flags, of each link whether it waits, of each channel whether it is connected
-- and whether it was valued, and the time, the phase, the ticks, the wake and the least due time.
abbrev pub store_words : Store → ℕ
store_words s =
    sum_by copy_words s.copies.items + length s.shared.items + length s.buffers.items + sum_by queue_words s.queues.items + sum_by mark_words s.marks.items
    + length s.flags.items + length s.waiting.items + (length s.ups.items + length s.valued.items) + 5

-- Those of the operands: the room for them, and the return places.
abbrev pub operand_words : Operands → ℕ
operand_words o = let r = room_of o in r.operands + r.places

-- The words of the worlds of a frame.
abbrev pub frame_words : Frame → ℕ
frame_words f =
    sum_by (λ (words : ℕ). words + 2) f.words + f.shared + f.buffers + sum_by (λ (room : ℕ × ℕ). room.0 * room.1) f.queues + sum_by (λ (marks : ℕ). marks) f.marks
    + f.flags + f.waiting + (f.ups + f.valued) + 5

-- A store holds the words of its world's frame, so it holds the same number as long as that stays.
abbrev pub WordsAreOfTheFrame : Type 0
WordsAreOfTheFrame = (s : Store) → store_words s ≡ frame_words (frame_of (world_of s))
