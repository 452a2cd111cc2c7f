-- What `lex` answers: the cut that reaches the end of the source, or the fault at the end of the longest one.
use Rattle.std.specs.Prelude.{ℕ, ◌≡◌, ◌<◌, ◌≤◌, List, [], length, map, Result, Ok, Err}
use Rattle.snl_text.specs.Cut.{Reading, Cuts, nothing_read}
use Rattle.snl_text.specs.Faults.{fault_of}
use Rattle.snl_text.specs.Lexemes.{flaw_at}
use Rattle.snl_text.specs.Scanning.{reading, spelled}
use Rattle.snl_text.specs.declared.faults.Flaw.{Flaw}
use Rattle.snl_text.specs.declared.faults.Flaw.TheVariants as flaw
use Rattle.snl_text.specs.declared.faults.LexFault.{LexFault}
use Rattle.snl_text.specs.declared.faults.LexFault.TheVariants as fault
use Rattle.snl_text.specs.declared.lexemes.Lexeme.{Lexeme}
use Rattle.snl_text.specs.declared.scanner.Scanner.{Scanner}
use Rattle.snl_text.specs.declared.tokens.Lexed.{Lexed}
use Rattle.snl_text.specs.declared.tokens.Pos.{Pos}

-- The fault stands at the end of the longest cut, if that does not reach the end of the source. Its kind is
-- read from the bytes there.
pub record IsFault (source : List ℕ) (kind : Flaw) (pos : Pos) : Type 0 where
  pub lexemes : List Lexeme
  pub end : Reading
  pub rest : List ℕ
  pub cut : Cuts nothing_read source lexemes end rest
  pub short : 0 < length rest
  pub longest : (others : List Lexeme) (there : Reading) (left : List ℕ) → Cuts nothing_read source others there left → length rest ≤ length left
  pub kind_is : kind ≡ flaw_at rest
  pub pos_is : pos ≡ end.pos

-- what a fault says of a source within the limit
abbrev pub FaultHolds : List ℕ → LexFault → Type 0
FaultHolds source (fault.BadByte pos) = IsFault source flaw.BadByte pos
FaultHolds source (fault.OpenComment pos) = IsFault source flaw.OpenComment pos
FaultHolds source (fault.OpenString pos) = IsFault source flaw.OpenString pos
FaultHolds source (fault.BadNumber pos) = IsFault source flaw.BadNumber pos
FaultHolds source (fault.SourceTooLong pos) = 1048576 < length source
FaultHolds source (fault.OpenEmbeddedC pos) = IsFault source flaw.OpenEmbeddedC pos
FaultHolds source fault.Memory = Unit {0}

-- some cut of the source reaches its end, and this is what it reads
pub record IsCut (source : List ℕ) (end : Reading) : Type 0 where
  pub lexemes : List Lexeme
  pub cut : Cuts nothing_read source lexemes end []

-- the lists and the end of what was read
pub record IsReading (r : Reading) (lexed : Lexed) : Type 0 where
  pub tokens : map spelled lexed.tokens.items ≡ r.tokens
  pub embedded : lexed.embedded.items ≡ r.embedded
  pub files : map (λ name. name.now) lexed.files.items ≡ r.files
  pub eof : lexed.eof ≡ r.pos

-- what the cut of the source reads
pub record IsLexed (source : List ℕ) (lexed : Lexed) : Type 0 where
  pub end : Reading
  pub cut : IsCut source end
  pub reads : IsReading end lexed

-- where memory does not run out, this is answered, and no fault
abbrev pub GivesOnly : Reading → Result Lexed LexFault → Type 0
GivesOnly end (Ok lexed) = IsReading end lexed
GivesOnly end (Err other) = other ≡ fault.Memory

-- where memory does not run out, this fault is answered
abbrev pub FaultsOnly : Flaw → Pos → Result Lexed LexFault → Type 0
FaultsOnly kind pos (Ok lexed) = ⊥
FaultsOnly kind pos (Err fault.Memory) = Unit {0}
FaultsOnly kind pos (Err other) = other ≡ fault_of kind pos

-- what the scanner answers
abbrev pub Scans : List ℕ → Result Scanner LexFault → Type 0
Scans source (Ok scanner) = IsCut source (reading scanner)
Scans source (Err fault) = FaultHolds source fault
