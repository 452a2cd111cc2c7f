-- How large the parts of a store are, by the frame of its world.
use Rattle.std.proofs.Common.{◌≡◌, ◌∙◌, refl, sym, ap, ℕ, Bool, List, [], ◌∷◌, map, length}
use Rattle.std.proofs.lemmas.List.FromFn.{length-map-range_with_len}
use Rattle.snl_meaning.specs.Frames.{Frame, room_in}
use Rattle.snl_meaning.specs.World as world
use Rattle.snl_vm.specs.declared.marks.Marks.{Marks}
use Rattle.snl_vm.specs.declared.queues.Queue.{Queue}
use Rattle.snl_vm.specs.declared.stores.SetMemory.{SetMemory}
use Rattle.snl_vm.specs.declared.stores.Store.{Store}
use Rattle.snl_vm.specs.Footprint.{mark_words}
use Rattle.snl_vm.specs.Marks.{bit_of, marks_of}
use Rattle.snl_vm.specs.Pictures.{copy_size, lasting_frame}
use Rattle.snl_vm.specs.Queues.{queue_view, room_of_queue}
use Rattle.snl_vm.specs.Views.{copy_view, world_of}

-- one map after another
fused : {A B C : Type 0} (f : A → B) (g : B → C) (xs : List A) → map g (map f xs) ≡ map (λ (x : A). g (f x)) xs
fused f g [] = refl
fused {C} f g (x ∷ xs) = ap (λ (ys : List C). g (f x) ∷ ys) (fused f g xs)

-- the words of copies
pub copies-framed : (cs : List SetMemory) → map (λ (c : world.SetMemory). length c.words) (map copy_view cs) ≡ map copy_size cs
copies-framed cs = fused copy_view (λ (c : world.SetMemory). length c.words) cs

-- the places of marks
pub marks-framed : (ms : List Marks) → map (length {A = Bool}) (map marks_of ms) ≡ map mark_words ms
marks-framed [] = refl
marks-framed (m ∷ ms) =
    ap (λ (n : ℕ). n ∷ map (length {A = Bool}) (map marks_of ms)) (length-map-range_with_len (bit_of m.words.items) 0 m.count)
    ∙ ap (λ (ns : List ℕ). m.count ∷ ns) (marks-framed ms)

-- the room of queues
pub queues-framed : (qs : List Queue) → map room_in (map queue_view qs) ≡ map room_of_queue qs
queues-framed qs = fused queue_view room_in qs

-- Two stores have parts of the same sizes, and the same channels, ties and homes.
pub record AreSized (a b : Store) : Type 0 where
  pub copies : map copy_size a.copies.items ≡ map copy_size b.copies.items
  pub shared : length a.shared.items ≡ length b.shared.items
  pub flags : length a.flags.items ≡ length b.flags.items
  pub ups : length a.ups.items ≡ length b.ups.items
  pub valued : length a.valued.items ≡ length b.valued.items
  pub buffers : length a.buffers.items ≡ length b.buffers.items
  pub marks : map mark_words a.marks.items ≡ map mark_words b.marks.items
  pub queues : map room_of_queue a.queues.items ≡ map room_of_queue b.queues.items
  pub waiting : length a.waiting.items ≡ length b.waiting.items

-- those whose worlds have one frame, but for the time, are so
pub framed-alike : (a b : Store) → lasting_frame (world_of a) ≡ lasting_frame (world_of b) → AreSized a b
framed-alike a b same = record {
  copies = sym (copies-framed a.copies.items) ∙ ap (λ (f : Frame). f.words) same ∙ copies-framed b.copies.items;
  shared = ap (λ (f : Frame). f.shared) same;
  flags = ap (λ (f : Frame). f.flags) same;
  ups = ap (λ (f : Frame). f.ups) same;
  valued = ap (λ (f : Frame). f.valued) same;
  buffers = ap (λ (f : Frame). f.buffers) same;
  marks = sym (marks-framed a.marks.items) ∙ ap (λ (f : Frame). f.marks) same ∙ marks-framed b.marks.items;
  queues = sym (queues-framed a.queues.items) ∙ ap (λ (f : Frame). f.queues) same ∙ queues-framed b.queues.items;
  waiting = ap (λ (f : Frame). f.waiting) same;
}
