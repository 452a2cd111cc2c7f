-- The world before the first event.
use Rattle.std.specs.Prelude.{ℕ, ℤ, pos, false, List, [], Option, None, map, length, replicate}
use Rattle.std.specs.List.{flat_map}
use Rattle.snl_syntax.specs.Programs.{ProgramTree}
use Rattle.snl_channels.specs.Links.{Link}
use Rattle.snl_meaning.specs.declared.live.Live.TheVariants.{Waiting}
use Rattle.snl_meaning.specs.Names.{words_of}
use Rattle.snl_meaning.specs.World.{Queue, SetMemory, World}
use Rattle.snl_names.specs.Variables.{CopyVariable, shared_variables}
use Rattle.snl_flat.specs.Copies.{held_sets}
use Rattle.snl_load.specs.Initials.{all_elements, first_buffer}
use Rattle.snl_meaning.specs.declared.ties.Tied.{Tied}
use Rattle.snl_load.specs.Places.{channels, flags_in, placed_sets, ties_in, homes_in}

-- A copy whose variables are what they begin with, in the first state.
abbrev pub first_copy : List CopyVariable → SetMemory
first_copy vs = record { words = flat_map all_elements vs; state = 0; entered = 0 }

-- The queue of a link, which holds nothing.
abbrev pub first_queue : Link → Queue
first_queue l = record { size = l.queue; width = l.count; items = [] }

-- The words of the variables of functions: all 0. What a call leaves in them no later call sees.
abbrev pub first_shared : List CopyVariable → List ℤ
first_shared vs = replicate (words_of vs) (pos 0)

-- What waits for its start, with these variables in its copies and in its functions, so many event flags, these channels, ties,
-- homes and links: no time has passed, variables and buffers are what they begin with, no event flag is set, no channel is
-- connected or valued, nothing is marked, nothing is queued, and no link waits for the answer to a put.
abbrev pub first_world : List (List CopyVariable) → List CopyVariable → ℕ → List (List ℕ) → List Tied → List (List (Option ℕ)) → List Link → World
first_world sets shared flags names ties homes ls = record {
  time = 0;
  phase = Waiting;
  ticks = 0;
  wake = None;
  due = None;
  copies = map first_copy sets;
  shared = first_shared shared;
  flags = replicate flags false;
  channels = names;
  ups = replicate (length names) false;
  valued = replicate (length names) false;
  ties = ties;
  homes = homes;
  buffers = flat_map (first_buffer sets) ls;
  marks = map (λ vs. replicate (length ls) false) sets;
  queues = map first_queue ls;
  waiting = replicate (length ls) false;
}

-- A program that waits for its start.
abbrev pub first_world_of : ProgramTree → List Link → World
first_world_of p ls =
    first_world (held_sets p 0 p.state_sets) (shared_variables p) (length (flags_in p)) (channels ls) (ties_in p ls) (homes_in (placed_sets p 0 p.state_sets) ls) ls
