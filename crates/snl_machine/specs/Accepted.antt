-- What the rules make sure of: a program that was read from a source, and of which no error is said, has what the laws of values,
-- of layout and of code ask for.
use Rattle.std.specs.Prelude.{◌≡◌, ◌↔◌, ℕ, Bool, List, map, Option}
use Rattle.std.specs.List.Sorted.{IsStrictlyIncreasing}
use Rattle.snl_text.specs.Lexing.{IsLexed}
use Rattle.snl_text.specs.declared.tokens.Lexed.{Lexed}
use Rattle.snl_text.specs.declared.tokens.Pos.{Pos}
use Rattle.snl_text.specs.declared.tokens.Token.{Token}
use Rattle.snl_syntax.specs.Begins.{Spells}
use Rattle.snl_syntax.specs.Programs.{ProgramTree, IsProgram, programs}
use Rattle.snl_syntax.specs.declared.programs.Program.{Program}
use Rattle.snl_syntax.specs.view.Programs.{program_view}
use Rattle.snl_names.specs.declared.options.Options.{Options}
use Rattle.snl_check.specs.Accepted.{IsAccepted}
use Rattle.snl_flat.specs.Inside.{FlagsAreDeclared}
use Rattle.snl_channels.specs.Links.{links}
use Rattle.snl_machine.specs.Ranges.{IsSized, IsTied, AreHeld, Holds, Reached}
use Rattle.snl_meaning.specs.World.{World}
use Rattle.snl_messages.specs.declared.messages.Severity.TheVariants.{Error}
use Rattle.snl_messages.specs.Messages.{Said}
use Rattle.snl_messages.specs.Says.{IsSaidUnder}

-- A program is read from a source: it is well formed, and each of its tokens begins after the one before it.
pub record IsRead (p : ProgramTree) : Type 0 where
  pub limit : ℕ
  pub tokens : List Token
  pub is : IsProgram limit p
  pub spells : Spells programs p tokens
  pub ascend : IsStrictlyIncreasing (map (λ (t : Token). t.pos.offset) tokens)

-- So is whatever the tokens of a source spell.
abbrev pub ParsedAreRead : Type 0
ParsedAreRead = (source : List ℕ) (lexed : Lexed) (limit : ℕ) (p : ProgramTree) → IsLexed source lexed → IsProgram limit p → Spells programs p lexed.tokens.items → IsRead p

-- No error is said of it, with the pieces of embedded C and the place of the first token past the limit, under these options.
abbrev pub IsAcceptedTree : Options → ProgramTree → List Pos → Option Pos → Type 0
IsAcceptedTree o p embedded beyond = (m : Said) → IsSaidUnder o p embedded beyond m → m.severity ≡ Error → ⊥

-- So it is of the tree of each program that is accepted.
abbrev pub AcceptedTrees : Type 0
AcceptedTrees = (o : Options) (p : Program) → IsAccepted o p ↔ IsAcceptedTree o (program_view p) p.embedded.items p.beyond

-- Something holds of each program that is read and accepted.
abbrev pub EachAccepted : (ProgramTree → Type 0) → Type 0
EachAccepted IsSo = (o : Options) (p : ProgramTree) (embedded : List Pos) (beyond : Option Pos) → IsRead p → IsAcceptedTree o p embedded beyond → IsSo p

-- Variables, also of functions, have elements, their types have 0, and copies and functions have few words.
abbrev pub AcceptedIsSized : Type 0
AcceptedIsSized = EachAccepted IsSized

-- Links tie elements that their variables have, and buffers have few words, whatever macros a run has.
abbrev pub AcceptedIsTied : Type 0
AcceptedIsTied = EachAccepted (λ p. (macros : List ℕ) → IsTied p (links p macros))

-- The variable of each link stands in a copy.
abbrev pub AcceptedIsHeld : Type 0
AcceptedIsHeld = EachAccepted (λ p. (macros : List ℕ) → AreHeld p (links p macros))

-- Calls are of known functions with the arguments that they take, and names that are used as event flags are declared.
abbrev pub AcceptedDeclaresItsFlags : Type 0
AcceptedDeclaresItsFlags = EachAccepted FlagsAreDeclared

-- In every world that a run of the program comes to, each variable, also of functions, each buffer and each queue holds what its
-- type has.
abbrev pub AcceptedHold : Type 0
AcceptedHold = EachAccepted (λ p. (macros : List ℕ) (waits : Bool) (budget : ℕ) (w : World) → Reached p (links p macros) waits budget w → Holds p (links p macros) w)
