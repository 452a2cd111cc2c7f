-- The words of a store are those of its world's frame.
use Rattle.std.proofs.Common.{◌≡◌, ◌∙◌, ◌+◌, ◌*◌, refl, sym, ap, ℕ, List, [], ◌∷◌, map, length, Bool}
use Rattle.std.specs.List.{sum_by}
use Rattle.std.proofs.lemmas.List.FromFn.{length-map-range_with_len}
use Rattle.std.proofs.lemmas.List.Sums.{sum_by-cons}
use Rattle.snl_meaning.specs.Frames.{at_time, frame_of, room_in}
use Rattle.snl_meaning.specs.World as world
use Rattle.snl_vm.specs.declared.marks.Marks.{Marks}
use Rattle.snl_vm.specs.declared.queues.Queue.{Queue}
use Rattle.snl_vm.specs.declared.stores.SetMemory.{SetMemory}
use Rattle.snl_vm.specs.declared.stores.Store.{Store}
use Rattle.snl_vm.specs.Footprint.{copy_words, queue_words, mark_words, store_words, frame_words, WordsAreOfTheFrame}
use Rattle.snl_vm.specs.Marks.{bit_of, marks_of}
use Rattle.snl_vm.specs.Queues.{queue_view}
use Rattle.snl_vm.specs.Views.{copy_view, world_of}

-- sums of what is alike
sums-alike : {A B : Type 0} (f : A → ℕ) (g : B → ℕ) (h : A → B) → ((a : A) → f a ≡ g (h a)) → (l : List A) → sum_by f l ≡ sum_by g (map h l)
sums-alike f g h alike [] = refl
sums-alike f g h alike (a ∷ l) =
    sum_by-cons f a l ∙ ap (λ (n : ℕ). n + sum_by f l) (alike a) ∙ ap (λ (n : ℕ). g (h a) + n) (sums-alike f g h alike l) ∙ sym (sum_by-cons g (h a) (map h l))

-- the copies
copies-words : (cs : List SetMemory) → sum_by copy_words cs ≡ sum_by (λ (words : ℕ). words + 2) (map (λ (c : world.SetMemory). length c.words) (map copy_view cs))
copies-words cs =
    sums-alike copy_words (λ (c : world.SetMemory). length c.words + 2) copy_view (λ c. refl) cs
    ∙ sums-alike (λ (c : world.SetMemory). length c.words + 2) (λ (words : ℕ). words + 2) (λ (c : world.SetMemory). length c.words) (λ c. refl) (map copy_view cs)

-- the queues: a ring has room for all its items
queues-words : (qs : List Queue) → sum_by queue_words qs ≡ sum_by (λ (room : ℕ × ℕ). room.0 * room.1) (map room_in (map queue_view qs))
queues-words qs =
    sums-alike queue_words (λ (q : world.Queue). q.size * q.width) queue_view (λ q. q.room) qs
    ∙ sums-alike (λ (q : world.Queue). q.size * q.width) (λ (room : ℕ × ℕ). room.0 * room.1) room_in (λ q. refl) (map queue_view qs)

-- the marks
marks-words : (ms : List Marks) → sum_by mark_words ms ≡ sum_by (λ (marks : ℕ). marks) (map (length {A = Bool}) (map marks_of ms))
marks-words ms =
    sums-alike mark_words (λ (bits : List Bool). length bits) marks_of (λ m. sym (length-map-range_with_len (bit_of m.words.items) 0 m.count)) ms
    ∙ sums-alike (λ (bits : List Bool). length bits) (λ (marks : ℕ). marks) (length {A = Bool}) (λ bits. refl) (map marks_of ms)

-- the store
pub words_are_of_the_frame : WordsAreOfTheFrame
words_are_of_the_frame s =
    let frame = frame_of (world_of s) in
    let rest = λ (a b c : ℕ). a + length s.shared.items + length s.buffers.items + b + c + length s.flags.items + length s.waiting.items + (length s.ups.items + length s.valued.items) + 5 in
    ap (λ (a : ℕ). rest a (sum_by queue_words s.queues.items) (sum_by mark_words s.marks.items)) (copies-words s.copies.items)
    ∙ ap (λ (b : ℕ). rest (sum_by (λ (words : ℕ). words + 2) frame.words) b (sum_by mark_words s.marks.items)) (queues-words s.queues.items)
    ∙ ap (λ (c : ℕ). rest (sum_by (λ (words : ℕ). words + 2) frame.words) (sum_by (λ (room : ℕ × ℕ). room.0 * room.1) frame.queues) c) (marks-words s.marks.items)

-- a store whose world has the frame of another holds as many words, whatever the time is
pub words-stay : (a b : Store) (ms : ℕ) → frame_of (world_of b) ≡ at_time ms (frame_of (world_of a)) → store_words b ≡ store_words a
words-stay a b ms same = words_are_of_the_frame b ∙ ap frame_words same ∙ sym (words_are_of_the_frame a)
