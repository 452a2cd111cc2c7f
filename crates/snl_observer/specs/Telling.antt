-- Lines of a program that are written, and that its requirement hears of.
use Rattle.std.specs.Prelude.{◌≡◌, ℕ, Bool, true, false, List, [], ◌∷◌, ◌++◌, Option, None, Some, IsSome}
use Rattle.snl_heard.specs.Heard.{heard_all}
use Rattle.snl_outline.specs.Names.{Names}
use Rattle.snl_heard.specs.Words.{has_time}
use Rattle.snl_machine.specs.declared.machine.Machine.{Machine}
use Rattle.snl_observer.specs.Watching.{Led}
use Rattle.snl_observer.specs.declared.closes.Ending.{Ending}
use Rattle.snl_output.specs.TraceLines.{whole_lines}

-- To what was written the front of a text was added.
pub record Adds (old new text : List ℕ) : Type 0 where
  pub front : List ℕ
  pub rest : List ℕ
  pub are : text ≡ front ++ rest
  pub is : new ≡ old ++ front

-- Whether a line has a time that is looked for.
abbrev pub comes_at : Option ℕ → List ℕ → Bool
comes_at None line = false
comes_at (Some ms) line = has_time ms line

-- Of some lines none has it,
abbrev pub AreBefore : Option ℕ → List (List ℕ) → Type 0
AreBefore until [] = Unit {0}
AreBefore until (line ∷ lines) = (comes_at until line ≡ false) × AreBefore until lines

-- and here is none, or the first of some lines has it.
abbrev pub Halts : Option ℕ → List (List ℕ) → Type 0
Halts until [] = Unit {0}
Halts until (line ∷ lines) = comes_at until line ≡ true

-- The lines of a text in front of the rest, none of which has that time, were heard of.
pub record Passes (sets : List Names) (until : Option ℕ) (text left : List ℕ) (m k : Machine) (said said' : List ℕ) (how how' : Option Ending) : Type 0 where
  pub lines : List (List ℕ)
  pub whole : whole_lines text ≡ lines ++ whole_lines left
  pub before : AreBefore until lines
  pub led : Led (heard_all sets lines) m k said said' how how'

-- They were written, too; and the rest has no line, or begins with one of that time.
pub record Tells (sets : List Names) (until : Option ℕ) (text left : List ℕ) (m k : Machine) (said said' : List ℕ) (how how' : Option Ending) (wrote wrote' : List ℕ) : Type 0 where
  pub passes : Passes sets until text left m k said said' how how'
  pub halts : Halts until (whole_lines left)
  pub front : List ℕ
  pub are : text ≡ front ++ left
  pub is : wrote' ≡ wrote ++ front

-- The requirement ended in the midst of a text.
pub record EndsIn (sets : List Names) (until : Option ℕ) (text : List ℕ) (m k : Machine) (said said' : List ℕ) (how how' : Option Ending) (wrote wrote' : List ℕ) : Type 0 where
  pub left : List ℕ
  pub passes : Passes sets until text left m k said said' how how'
  pub ends : IsSome how'
  pub adds : Adds wrote wrote' text
