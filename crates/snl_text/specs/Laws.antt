-- Laws of cuts, of faults and of what is read.
use Rattle.std.specs.Prelude.{ℕ, ◌≡◌, ◌≤◌, ◌⊎◌, List, [], length, map, take}
use Rattle.std.specs.List.Sorted.{IsStrictlyIncreasing}
use Rattle.snl_text.specs.Cut.{Reading, Spelled, Cuts, IsStuck, nothing_read}
use Rattle.snl_text.specs.Faults.{fault_of}
use Rattle.snl_text.specs.Lexing.{IsCut, IsFault}
use Rattle.snl_text.specs.declared.faults.Flaw.{Flaw}
use Rattle.snl_text.specs.declared.lexemes.Lexeme.{Lexeme}
use Rattle.snl_text.specs.declared.tokens.Pos.{Pos}

-- Each source has a cut that reaches its end, or a fault.
abbrev pub CutOrFault : Type 0
CutOrFault = (source : List ℕ) → ((end : Reading) × IsCut source end) ⊎ ((kind : Flaw) × (pos : Pos) × IsFault source kind pos)

-- No source has both.
abbrev pub NotBoth : Type 0
NotBoth = (source : List ℕ) (end : Reading) (kind : Flaw) (pos : Pos) → IsCut source end → IsFault source kind pos → ⊥

-- There is at most one cut that reaches the end of a source.
abbrev pub AtMostOneCut : Type 0
AtMostOneCut = (source : List ℕ) (lexemes others : List Lexeme) (end there : Reading) →
    Cuts nothing_read source lexemes end [] → Cuts nothing_read source others there [] → (lexemes ≡ others) × (end ≡ there)

-- Where no lexeme can stand, every cut of the source ends there or before.
abbrev pub NoCutPasses : Type 0
NoCutPasses = (source : List ℕ) (lexemes others : List Lexeme) (end there : Reading) (rest left : List ℕ) →
    Cuts nothing_read source lexemes end rest → IsStuck end rest → Cuts nothing_read source others there left → length rest ≤ length left

-- At the end of the longest cut no lexeme can stand, and a source has at most one fault.
abbrev pub AtMostOneFault : Type 0
AtMostOneFault = (source : List ℕ) (kind other : Flaw) (pos there : Pos) →
    IsFault source kind pos → IsFault source other there → fault_of kind pos ≡ fault_of other there

-- Of the tokens of a cut each begins after the one before it.
abbrev pub TokensAscend : Type 0
TokensAscend = (source : List ℕ) (lexemes : List Lexeme) (end : Reading) (rest : List ℕ) →
    Cuts nothing_read source lexemes end rest → IsStrictlyIncreasing (map (λ (token : Spelled). token.pos.offset) end.tokens)

-- The bytes that a cut takes have that cut on their own, whatever follows them in the source.
abbrev pub FrontHasTheCut : Type 0
FrontHasTheCut = (source : List ℕ) (lexemes : List Lexeme) (end : Reading) (rest : List ℕ) →
    Cuts nothing_read source lexemes end rest → Cuts nothing_read (take end.pos.offset source) lexemes end []

-- What is read up to a fault, by the longest cut, is what the cut of the bytes before the fault reads: the same
-- files of markers, tokens and places.
abbrev pub ReadBeforeFault : Type 0
ReadBeforeFault = (source : List ℕ) (kind : Flaw) (pos : Pos) (fault : IsFault source kind pos) →
    IsCut (take pos.offset source) fault.end × ((end : Reading) → IsCut (take pos.offset source) end → end ≡ fault.end)
