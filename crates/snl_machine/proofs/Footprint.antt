-- A machine of a program holds the words that the program needs.
use Rattle.snl_flat.specs.Copies.{held_sets}
use Rattle.std.proofs.Common.{◌≡◌, ◌∙◌, ◌+◌, ◌*◌, ◌-◌, ◌^◌, ◌<◌, refl, sym, ap, arith, ℕ, List, [], ◌∷◌, map, length}
use Rattle.std.specs.List.{sum_by}
use Rattle.std.proofs.Math.Nat.{zero-mul, suc-mul}
use Rattle.std.proofs.lemmas.List.{length-map}
use Rattle.std.proofs.lemmas.List.Sums.{sum_by-cons}
use Rattle.snl_flat.specs.Depths.{capped, program_depth}
use Rattle.snl_meaning.specs.Known.{entry_view}
use Rattle.snl_channels.specs.Links.{Link}
use Rattle.snl_machine.specs.Footprint.{MachinesHoldTheFootprint}
use Rattle.snl_machine.proofs.LaidOut.{sets-many}
use Rattle.snl_meaning.specs.Names.{words_of}
use Rattle.snl_names.specs.Variables.{CopyVariable, variables_of, shared_variables}
use Rattle.snl_machine.proofs.Sized.{same-words}
use Rattle.snl_vm.specs.Footprint.{frame_words}
use Rattle.snl_vm.proofs.Footprint.{words_are_of_the_frame}
use Rattle.snl_vm.specs.Stack.{Room}

-- two words beside those of each copy
with-two : (sets : List (List CopyVariable)) → sum_by (λ (words : ℕ). words + 2) (map words_of sets) ≡ sum_by words_of sets + 2 * length sets
with-two [] = refl
with-two (vs ∷ sets) =
    omega (arith, sum_by-cons (λ (words : ℕ). words + 2) (words_of vs) (map words_of sets), sum_by-cons words_of vs sets, with-two sets)

-- so many for each
so-many : (n : ℕ) (sets : List (List CopyVariable)) → sum_by (λ (marks : ℕ). marks) (map (λ (vs : List CopyVariable). n) sets) ≡ length sets * n
so-many n [] = sym (zero-mul n)
so-many n (vs ∷ sets) =
    let rest = so-many n sets in
    omega (arith, sum_by-cons (λ (marks : ℕ). marks) n (map (λ (us : List CopyVariable). n) sets), rest, suc-mul (length sets) n)

-- the room of queues
queues-room : (ls : List Link) →
    sum_by (λ (room : ℕ × ℕ). room.0 * room.1) (map (λ (l : Link). (l.queue, l.count)) ls) ≡ sum_by (λ (l : Link). l.queue * l.count) ls
queues-room [] = refl
queues-room (l ∷ ls) =
    sum_by-cons (λ (room : ℕ × ℕ). room.0 * room.1) (l.queue, l.count) (map (λ (k : Link). (k.queue, k.count)) ls)
    ∙ ap (λ (n : ℕ). l.queue * l.count + n) (queues-room ls) ∙ sym (sum_by-cons (λ (k : Link). k.queue * k.count) l ls)

-- a depth that fits is as deep as the program
not-capped : (depth n : ℕ) → depth ≡ capped n → depth < 2 ^ 64 - 1 → depth ≡ n
not-capped depth n is fits = omega (arith, is, fits)

-- the law
pub machines_hold_the_footprint : MachinesHoldTheFootprint
machines_hold_the_footprint p ls waits budget m is =
    let sets = held_sets p 0 p.state_sets in
    let many : length sets ≡ length p.state_sets = sets-many (variables_of p) 0 p.state_sets in
    let store = words_are_of_the_frame m.memory.store ∙ ap frame_words is.world_is.frame_is in
    let operands = ap (λ (r : Room). r.operands) m.room ∙ not-capped m.code.depth (program_depth p) is.loaded.code_is.depth is.loaded.counted in
    let calls = ap (λ (r : Room). r.places) m.room ∙ sym (length-map m.code.functions.items entry_view) ∙ is.loaded.inside.count in
    let shared = same-words (shared_variables p) in
    let copies = with-two sets in
    let queues = queues-room ls in
    let marks = so-many (length ls) sets ∙ ap (λ (n : ℕ). n * length ls) many in
    omega (arith, store, operands, calls, shared, copies, queues, marks, many)
