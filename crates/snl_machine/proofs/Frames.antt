-- No line of a trace changes how large a world is, or what stands for what in it.
use Rattle.std.proofs.Common.{◌≡◌, ◌∙◌, ◌+◌, refl, ap, ℕ, pos, Bool, false, List, [], ◌∷◌, Option, None, Some, map, length, length-append}
use Rattle.std.specs.Prelude.{replicate}
use Rattle.std.specs.List.{flat_map}
use Rattle.std.proofs.lemmas.List.{length-replicate}
use Rattle.snl_syntax.specs.Programs.{ProgramTree}
use Rattle.snl_channels.specs.Links.{Link}
use Rattle.snl_flat.specs.Copies.{held_sets}
use Rattle.snl_flat.specs.Heres.{routines_in, scene_in}
use Rattle.snl_load.specs.First.{first_copy, first_queue, first_world_of}
use Rattle.snl_load.specs.Initials.{all_elements, held_among, buffer_by, first_buffer}
use Rattle.snl_load.specs.Meaning.{program_meaning}
use Rattle.snl_load.specs.Places.{channels, flags_in}
use Rattle.snl_machine.specs.Frames.{frame_in, FrameStays, FirstFrame}
use Rattle.snl_machine.specs.Ranges.{counts}
use Rattle.snl_machine.proofs.Beginning.{length-elements}
use Rattle.snl_machine.proofs.Steady.{IsSteady}
use Rattle.snl_machine.proofs.Whole.{line-keeps}
use Rattle.snl_meaning.specs.Effect.{held_by, block_effect}
use Rattle.snl_meaning.specs.Frames.{room_in, frame_of}
use Rattle.snl_meaning.specs.Keeping.{world_after}
use Rattle.snl_meaning.specs.Names.{words_of}
use Rattle.snl_meaning.specs.World.{SetMemory}
use Rattle.snl_meaning.proofs.Frames.{pieces_keep_the_frame}
use Rattle.snl_names.specs.Scopes.{elements}
use Rattle.snl_names.specs.Variables.{CopyVariable, shared_variables}
use Rattle.snl_schedule.specs.Event.{applied}
use Rattle.snl_schedule.specs.Refresh.{refreshed}
use Rattle.snl_schedule.specs.Turn.{entered_in}
use Rattle.snl_schedule.proofs.Frames.{SameButTime, but-same, but-both, refreshed-same, entered-same, event-same}

-- each change of a run
frame-steady : (p : ProgramTree) → IsSteady p SameButTime SameButTime
frame-steady p = record {
  nothing = λ w. refl;
  both = but-both;
  pieces = λ set. let m = scene_in p set in let k = pieces_keep_the_frame (routines_in p) m refl in record {
    condition = λ e w. but-same w (world_after (held_by m e w)) (k.condition e w);
    block = λ b w. but-same w (world_after (block_effect m b w)) (k.block b w);
  };
  refreshes = λ set w. but-same w (refreshed set w) (refreshed-same set w);
  enters = λ set state within is_timed w. but-same w (entered_in set state is_timed w) (entered-same set state is_timed w);
  opens = λ w. refl;
  wakes = λ w. refl;
  phase = λ x lives w. refl;
  spends = λ left w is. refl;
  weaker = λ w u a. a;
  before = but-both;
  after = but-both;
}

-- ---- lines

-- a line
pub frame_stays : FrameStays
frame_stays p ls waits budget ms event w =
    let q = program_meaning p ls waits in
    line-keeps p ls waits SameButTime SameButTime (frame-steady p) (λ n u. refl) (λ t u. refl) event (λ u. but-same u (applied q event u) (event-same q event u)) budget ms w

-- ---- the first world

-- the words of a copy
words-many : (vs : List CopyVariable) → length (flat_map all_elements vs) ≡ words_of vs
words-many [] = refl
words-many (v ∷ vs) =
    length-append (all_elements v) (flat_map all_elements vs) ∙ ap (λ (n : ℕ). n + length (flat_map all_elements vs)) (length-elements v 0 (elements v.size))
    ∙ ap (λ (n : ℕ). elements v.size + n) (words-many vs)

-- those of all copies
copies-many : (sets : List (List CopyVariable)) → map (λ (c : SetMemory). length c.words) (map first_copy sets) ≡ map words_of sets
copies-many [] = refl
copies-many (vs ∷ sets) = ap (λ (n : ℕ). n ∷ map (λ (c : SetMemory). length c.words) (map first_copy sets)) (words-many vs) ∙ ap (λ (ns : List ℕ). words_of vs ∷ ns) (copies-many sets)

-- queues
queues-room : (ls : List Link) → map room_in (map first_queue ls) ≡ map (λ (l : Link). (l.queue, l.count)) ls
queues-room [] = refl
queues-room (l ∷ ls) = ap (λ (qs : List (ℕ × ℕ)). (l.queue, l.count) ∷ qs) (queues-room ls)

-- marks
marks-many : (n : ℕ) (sets : List (List CopyVariable)) → map (length {A = Bool}) (map (λ (vs : List CopyVariable). replicate n false) sets) ≡ map (λ (vs : List CopyVariable). n) sets
marks-many n [] = refl
marks-many n (vs ∷ sets) = ap (λ (m : ℕ). m ∷ map (length {A = Bool}) (map (λ (us : List CopyVariable). replicate n false) sets)) (length-replicate n false)
    ∙ ap (λ (ms : List ℕ). n ∷ ms) (marks-many n sets)

-- the buffer of a link
buffer-many : (o : Option CopyVariable) (l : Link) → length (buffer_by o l) ≡ l.count
buffer-many None l = length-replicate l.count (pos 0)
buffer-many (Some v) l = length-elements v l.first l.count

-- all buffers
buffers-many : (sets : List (List CopyVariable)) (ls : List Link) → length (flat_map (first_buffer sets) ls) ≡ counts ls
buffers-many sets [] = refl
buffers-many sets (l ∷ ls) =
    length-append (first_buffer sets l) (flat_map (first_buffer sets) ls)
    ∙ ap (λ (n : ℕ). n + length (flat_map (first_buffer sets) ls)) (buffer-many (held_among sets l.variable.offset) l)
    ∙ ap (λ (n : ℕ). l.count + n) (buffers-many sets ls)

-- it is that of its program
pub first_frame : FirstFrame
first_frame p ls =
    let sets = held_sets p 0 p.state_sets in
    let names = length (channels ls) in
    let f = frame_in p ls 0 in
    let first = frame_of (first_world_of p ls) in
    ap (λ (x : List ℕ). record first { words = x }) (copies-many sets)
    ∙ ap (λ (x : ℕ). let g = first in record g { words = f.words; shared = x }) (length-replicate (words_of (shared_variables p)) (pos 0))
    ∙ ap (λ (x : ℕ). let g = first in record g { words = f.words; shared = f.shared; flags = x }) (length-replicate (length (flags_in p)) false)
    ∙ ap (λ (x : ℕ). let g = first in record g { words = f.words; shared = f.shared; flags = f.flags; ups = x; valued = x }) (length-replicate names false)
    ∙ ap (λ (x : List (ℕ × ℕ)). let g = first in record g { words = f.words; shared = f.shared; flags = f.flags; ups = names; valued = names; queues = x }) (queues-room ls)
    ∙ ap (λ (x : ℕ). record f { waiting = x; buffers = first.buffers; marks = first.marks }) (length-replicate (length ls) false)
    ∙ ap (λ (x : ℕ). record f { buffers = x; marks = first.marks }) (buffers-many sets ls)
    ∙ ap (λ (x : List ℕ). record f { marks = x }) (marks-many (length ls) sets)
