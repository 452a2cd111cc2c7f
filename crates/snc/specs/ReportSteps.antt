-- What the steps of `report` and `session` answer: texts, with the messages whose text they are. No reader of the theorem needs them.
use Rattle.std.specs.Prelude.{◌≡◌, ◌≤◌, ◌↔◌, ℕ, Bool, true, false, List, [], length, take, Option, Some, IsSome, IfSome}
use Rattle.snl_text.specs.Cut.{Reading}
use Rattle.snl_text.specs.Lexing.{IsCut}
use Rattle.snl_text.specs.declared.faults.LexFault.{LexFault}
use Rattle.snl_text.specs.declared.tokens.Lexed.{Lexed}
use Rattle.snl_text.specs.declared.tokens.Pos.{Pos}
use Rattle.snl_syntax.specs.Programs.{ProgramTree}
use Rattle.snl_names.specs.declared.options.Options.{Options}
use Rattle.snl_messages.specs.Messages.{Said}
use Rattle.snl_channels.specs.Tables.{tables}
use Rattle.snc.specs.Judging.{IsFaultSaid, IsSaidOf, IsTreeSaid, NoErrors, names_of}
use Rattle.snc.specs.Texts.{messages_text}

-- the names that the markers of a text give to files: those of its cut, if it has one
pub record AreNamesOf (text : List ℕ) (names : List (List ℕ)) : Type 0 where
  pub cut : (end : Reading) → length text ≤ 1048576 → IsCut text end → names ≡ end.files
  pub none : ((end : Reading) → IsCut text end → ⊥) → names ≡ []

-- the text of the message about a fault, with the names that the bytes before it give
pub record IsFaultTold (word source : List ℕ) (fault : LexFault) (text : List ℕ) : Type 0 where
  pub names : List (List ℕ)
  pub messages : List Said
  pub said : IsFaultSaid fault messages
  pub given : AreNamesOf (take said.pos.offset source) names
  pub text_is : text ≡ messages_text word names messages

-- the text of the messages about tokens, and their tree, if none is an error
pub record AreTokensTold (given : Options) (word : List ℕ) (lexed : Lexed) (text : List ℕ) (checked : Option ProgramTree) : Type 0 where
  pub messages : List Said
  pub tree : Option ProgramTree
  pub said : IsSaidOf given lexed messages tree
  pub text_is : text ≡ messages_text word (names_of lexed) messages
  pub accepted : IsSome checked ↔ NoErrors messages
  pub same : IfSome checked (λ p. tree ≡ Some p)

-- the text of the messages about a program, and its tree, if none is an error
pub record IsTreeTold (given : Options) (word : List ℕ) (names : List (List ℕ)) (whole : ProgramTree) (embedded : List Pos) (beyond : Option Pos)
    (text : List ℕ) (checked : Option ProgramTree) : Type 0 where
  pub messages : List Said
  pub said : IsTreeSaid given whole embedded beyond messages
  pub text_is : text ≡ messages_text word names messages
  pub accepted : IsSome checked ↔ NoErrors messages
  pub same : IfSome checked (λ p. p ≡ whole)

-- the tables of a tree, where they are asked for
abbrev pub asked_tables : Bool → ProgramTree → List ℕ
asked_tables true whole = tables whole
asked_tables false whole = []

-- a text is that of these tables
abbrev pub AreTablesOf : Bool → ProgramTree → (text : List ℕ) → Type 0
AreTablesOf asked whole text = text ≡ asked_tables asked whole
