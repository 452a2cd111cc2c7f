-- What the rules say of a source: its messages, and its tree, if its tokens spell one.
use Rattle.std.specs.Prelude.{◌≡◌, ◌⊎◌, ◌↔◌, ℕ, ◌<◌, ◌≤◌, List, [], ◌∷◌, ◌++◌, length, map, drop, Option, None, Some, IsSome, IfSome, slice_get, Contains, codes}
use Rattle.snl_text.specs.Cut.{start}
use Rattle.snl_text.specs.Faults.{fault_text, fault_pos}
use Rattle.snl_text.specs.Lexing.{FaultHolds, IsFault, IsLexed}
use Rattle.snl_text.specs.declared.faults.LexFault.{LexFault}
use Rattle.snl_text.specs.declared.faults.LexFault.TheVariants as fault
use Rattle.snl_text.specs.declared.faults.LexFault.TheVariants.{SourceTooLong}
use Rattle.snl_text.specs.declared.faults.Flaw.{Flaw}
use Rattle.snl_text.specs.declared.faults.Flaw.TheVariants as flaw
use Rattle.snl_text.specs.declared.tokens.Lexed.{Lexed}
use Rattle.snl_text.specs.declared.tokens.Pos.{Pos}
use Rattle.snl_text.specs.declared.tokens.Token.{Token}
use Rattle.snl_syntax.specs.Begins.{Spells, IsUnexpected, IsTooDeep}
use Rattle.snl_syntax.specs.Programs.{ProgramTree, IsProgram, programs}
use Rattle.snl_syntax.specs.view.Programs.{first_place}
use Rattle.snl_names.specs.declared.options.Options.{Options}
use Rattle.snl_messages.specs.declared.messages.Severity.TheVariants.{Error}
use Rattle.snl_messages.specs.declared.refusals.Refusal.{Refusal}
use Rattle.snl_messages.specs.declared.refusals.Refusal.TheVariants.{Unexpected, EndOfFile, TooDeep, NoTokens}
use Rattle.snl_messages.specs.Messages.{Said, IsInOrder}
use Rattle.snl_messages.specs.Refusals.{refusal_number, words_of}
use Rattle.snl_messages.specs.Says.{IsSaid}
use Rattle.snc.specs.Texts.{messages_text}

-- an error at a place
abbrev pub error_at : Pos → ℕ → List ℕ → Said
error_at pos number text = record { pos = pos; severity = Error; number = number; text = text }

-- none of them is an error
abbrev pub NoErrors : List Said → Type 0
NoErrors messages = (m : Said) → Contains messages m → m.severity ≡ Error → ⊥

-- the names that markers give to files before a fault: those that the longest cut reads, at whose end the fault is
abbrev pub ReadsNames : List ℕ → Flaw → Pos → List (List ℕ) → Type 0
ReadsNames source kind pos names = (w : IsFault source kind pos) → names ≡ w.end.files

-- the same by the kind of fault; a source that is too long is not read
abbrev pub AreNamesBefore : List ℕ → LexFault → List (List ℕ) → Type 0
AreNamesBefore source (fault.BadByte pos) names = ReadsNames source flaw.BadByte pos names
AreNamesBefore source (fault.OpenComment pos) names = ReadsNames source flaw.OpenComment pos names
AreNamesBefore source (fault.OpenString pos) names = ReadsNames source flaw.OpenString pos names
AreNamesBefore source (fault.BadNumber pos) names = ReadsNames source flaw.BadNumber pos names
AreNamesBefore source (fault.OpenEmbeddedC pos) names = ReadsNames source flaw.OpenEmbeddedC pos names
AreNamesBefore source (fault.SourceTooLong pos) names = names ≡ []
AreNamesBefore source fault.Memory names = Unit {0}

-- E03, alone: what is said of a fault
pub record IsFaultSaid (fault : LexFault) (messages : List Said) : Type 0 where
  pub pos : Pos
  pub words : List ℕ
  pub at : fault_pos fault ≡ Some pos
  pub says : fault_text fault ≡ Some words
  pub messages_are : messages ≡ error_at pos (refusal_number NoTokens) words ∷ []

-- the source is no row of tokens, by a fault
pub record HasFault (source : List ℕ) (fault : LexFault) : Type 0 where
  pub holds : FaultHolds source fault
  pub long : 1048576 < length source → fault ≡ SourceTooLong start

-- the source is the row of these tokens
pub record HasTokens (source : List ℕ) (lexed : Lexed) : Type 0 where
  pub within : length source ≤ 1048576
  pub is : IsLexed source lexed

-- an error that quotes its token
abbrev pub token_error : Refusal → Token → Said
token_error why t = error_at t.pos (refusal_number why) (words_of why ++ (t.text.now ++ codes "'"))

-- E01, at a token or at the end of the file
abbrev pub syntax_error : Lexed → Option Token → Said
syntax_error lexed None = error_at lexed.eof (refusal_number EndOfFile) (words_of EndOfFile)
syntax_error lexed (Some t) = token_error Unexpected t

-- E02, at a token
abbrev pub nesting_error : Token → Said
nesting_error t = token_error TooDeep t

-- E01, alone: no program goes on with one of the tokens, or they end too early
pub record IsStuck (lexed : Lexed) (messages : List Said) (tree : Option ProgramTree) : Type 0 where
  pub k : ℕ
  pub read : IsUnexpected programs 64 lexed.tokens.items k
  pub messages_are : messages ≡ syntax_error lexed (slice_get lexed.tokens.items k) ∷ []
  pub tree_is : tree ≡ None

-- E02, alone: with one of the tokens go on only programs that are nested deeper than 64
pub record IsNestedDeeper (lexed : Lexed) (messages : List Said) (tree : Option ProgramTree) : Type 0 where
  pub k : ℕ
  pub read : IsTooDeep programs 64 lexed.tokens.items k
  pub token : Token
  pub at : slice_get lexed.tokens.items k ≡ Some token
  pub messages_are : messages ≡ nesting_error token ∷ []
  pub tree_is : tree ≡ None

-- All that is said of a program, and in order: the options given with it count before its own.
pub record IsTreeSaid (given : Options) (whole : ProgramTree) (embedded : List Pos) (beyond : Option Pos) (messages : List Said) : Type 0 where
  pub exactly : (m : Said) → Contains messages m ↔ IsSaid given whole embedded beyond m
  pub in_order : IsInOrder messages

-- the tokens spell a program, and all is said of it
pub record IsProgramSaid (given : Options) (lexed : Lexed) (messages : List Said) (tree : Option ProgramTree) : Type 0 where
  pub whole : ProgramTree
  pub is : IsProgram 64 whole
  pub spelled : Spells programs whole lexed.tokens.items
  pub tree_is : tree ≡ Some whole
  pub said : IsTreeSaid given whole lexed.embedded.items (first_place (drop 65536 lexed.tokens.items)) messages

-- what is said of tokens, and their tree, if they spell a program
abbrev pub IsSaidOf : Options → Lexed → List Said → Option ProgramTree → Type 0
IsSaidOf given lexed messages tree = IsProgramSaid given lexed messages tree ⊎ (IsStuck lexed messages tree ⊎ IsNestedDeeper lexed messages tree)

-- the names that markers give to files
abbrev pub names_of : Lexed → List (List ℕ)
names_of lexed = map (λ name. name.now) lexed.files.items

-- a source without tokens
pub record OfFault (source : List ℕ) (names : List (List ℕ)) (messages : List Said) (tree : Option ProgramTree) : Type 0 where
  pub fault : LexFault
  pub has : HasFault source fault
  pub named : AreNamesBefore source fault names
  pub said : IsFaultSaid fault messages
  pub tree_is : tree ≡ None

-- a source with tokens
pub record OfTokens (given : Options) (source : List ℕ) (names : List (List ℕ)) (messages : List Said) (tree : Option ProgramTree) : Type 0 where
  pub lexed : Lexed
  pub has : HasTokens source lexed
  pub names_are : names ≡ names_of lexed
  pub said : IsSaidOf given lexed messages tree

-- The messages about a source, the names of its files, and its tree, if it has one.
abbrev pub Finds : Options → List ℕ → List (List ℕ) → List Said → Option ProgramTree → Type 0
Finds given source names messages tree = OfFault source names messages tree ⊎ OfTokens given source names messages tree

-- What is answered of a source whose file is called by a word: the text of its messages, and its tree, if none is an
-- error.
pub record IsJudged (given : Options) (word source text : List ℕ) (checked : Option ProgramTree) : Type 0 where
  pub names : List (List ℕ)
  pub messages : List Said
  pub tree : Option ProgramTree
  pub finds : Finds given source names messages tree
  pub text_is : text ≡ messages_text word names messages
  pub accepted : IsSome checked ↔ NoErrors messages
  pub same : IfSome checked (λ p. tree ≡ Some p)
