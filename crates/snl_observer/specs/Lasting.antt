-- What no line changes of a program that watches or is watched, and what a requirement does at one line.
use Rattle.std.specs.Prelude.{◌≡◌, ℕ, Bool, false, List, [], Option, None, Some}
use Rattle.snl_outline.specs.declared.shapes.SetOutline.{SetOutline}
use Rattle.snl_heard.specs.Printed.{IsPrinted}
use Rattle.snl_machine.specs.MachineOf.{Fixed, fixed_of, world_held}
use Rattle.snl_machine.specs.Snapshots.{lasting_frame}
use Rattle.snl_machine.specs.declared.machine.Machine.{Machine}
use Rattle.snl_meaning.specs.Frames.{Frame}
use Rattle.snl_observer.specs.Watching.{Led}
use Rattle.snl_observer.specs.declared.closes.Ending.{Ending}
use Rattle.snl_observer.specs.declared.programs.Program.{Program}

-- What is fixed of its machine, the frame of its world but for the time, and the names of its states.
pub record Lasting : Type 0 where
  pub fixed : Fixed
  pub frame : Frame
  pub sets : List SetOutline

-- That of a program.
abbrev pub lasting_of : Program → Lasting
lasting_of p = record { fixed = fixed_of p.machine; frame = lasting_frame (world_held p.machine); sets = p.sets.items }

-- A requirement that goes on is led by lines from one machine to another, and ends so; and what a sink tells has what it wrote there, unless a
-- line could not be written.
pub record HearsSo (lines : List (List ℕ)) (old new : Machine) (how : Option Ending) (stuck : Bool) (told : Option (List ℕ)) : Type 0 where
  pub wrote : List ℕ
  pub said : List ℕ
  pub led : Led lines old new [] said None how
  pub printed : stuck ≡ false → (text : List ℕ) → told ≡ Some text → IsPrinted wrote said text
