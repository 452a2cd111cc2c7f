-- How many words a machine holds, and how many a program needs.
use Rattle.std.specs.Prelude.{◌≡◌, ◌+◌, ◌*◌, ℕ, Bool, List, length}
use Rattle.std.specs.List.{sum_by}
use Rattle.snl_syntax.specs.Programs.{ProgramTree}
use Rattle.snl_flat.specs.Depths.{program_depth}
use Rattle.snl_channels.specs.Links.{Link}
use Rattle.snl_flat.specs.Copies.{held_sets}
use Rattle.snl_load.specs.Places.{channels, flags_in}
use Rattle.snl_machine.specs.declared.machine.Machine.{Machine}
use Rattle.snl_machine.specs.MachineOf.{IsMachineOf, words_held}
use Rattle.snl_machine.specs.Ranges.{counts}
use Rattle.snl_meaning.specs.Names.{words_of}
use Rattle.snl_rules.specs.Words.{function_words}

-- The words that a program with some links needs: the elements of the variables in the copy of each state set; those of the
-- variables of functions, and for each function a place where a call of it goes on; the elements of the buffer of each link, and those of all items that its queue can hold; a mark for each state set and link; of each link whether
-- it waits for the answer to a put; the state of each state set, and when it entered that; each event flag; of each channel whether
-- it is connected and whether it was valued; the
-- time, the phase, the ticks, the wake and the least due time; and as many operands as its deepest expression holds at once.
abbrev pub footprint : ProgramTree → List Link → ℕ
footprint p ls =
    sum_by words_of (held_sets p 0 p.state_sets)
    + function_words p
    + counts ls
    + sum_by (λ (l : Link). l.queue * l.count) ls
    + length p.state_sets * length ls
    + length ls
    + 2 * length p.state_sets
    + length (flags_in p)
    + 2 * length (channels ls)
    + 5
    + program_depth p

-- Each machine of a program holds so many, before its first event and after any other.
abbrev pub MachinesHoldTheFootprint : Type 0
MachinesHoldTheFootprint = (p : ProgramTree) (ls : List Link) (waits : Bool) (budget : ℕ) (m : Machine) → IsMachineOf p ls waits budget m → words_held m ≡ footprint p ls
