-- How the output of a run stands beside the wanted one.
use Rattle.std.specs.Prelude.{◌≡◌, ◌≢◌, ◌↔◌, ℕ, Bool, true, List, [], ◌++◌}
use Rattle.snl_suite.specs.declared.agreement.Agreement.{Agreement}
use Rattle.snl_suite.specs.declared.agreement.Agreement.TheVariants.{Apart, Broken, Same}

-- What may follow the bytes that a file gave: nothing, where it has ended.
abbrev pub MayFollow : (ended : Bool) (rest : List ℕ) → Type 0
MayFollow ended rest = ended ≡ true → rest ≡ []

-- However the output goes on, it is not what the file of the wanted output has, whatever follows in that.
abbrev pub IsApart : (output gave : List ℕ) (ended : Bool) → Type 0
IsApart output gave ended = (more rest : List ℕ) → MayFollow ended rest → output ++ more ≡ gave ++ rest → ⊥

-- What is told of a whole output is right, by what the file of the wanted one gave: that it ended and gave the same bytes; that the output
-- is not what the file has, whatever follows in that; or that the file could not be read on.
abbrev pub IsSettled : Agreement → (output gave : List ℕ) (ended broke : Bool) → Type 0
IsSettled Same output gave ended broke = (ended ≡ true) × (output ≡ gave)
IsSettled Apart output gave ended broke = (rest : List ℕ) → MayFollow ended rest → output ≡ gave ++ rest → ⊥
IsSettled Broken output gave ended broke = broke ≡ true

-- Where the file could be read, `Same` is told exactly of an output that is what the file has, all of it.
abbrev pub SettledIsExact : Type 0
SettledIsExact = (a : Agreement) (output gave rest : List ℕ) (ended broke : Bool) → IsSettled a output gave ended broke → MayFollow ended rest → a ≢ Broken →
    (a ≡ Same) ↔ (output ≡ gave ++ rest)
