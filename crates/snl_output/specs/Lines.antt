-- The lines of a run, byte by byte. Each ends in its newline.
use Rattle.std.specs.Prelude.{ℕ, List, [], ◌∷◌, ◌++◌, ◌==◌, if◌then◌else◌, codes, decimal}
use Rattle.snl_meaning.specs.declared.faults.Fault.{Fault}
use Rattle.snl_meaning.specs.declared.faults.Fault.TheVariants.{Overflow, DivisionByZero, OutOfRange, DoesNotFit, BadShift, BudgetSpent}

-- Lists, one behind the other.
abbrev pub joined : List (List ℕ) → List ℕ
joined [] = []
joined (piece ∷ pieces) = piece ++ joined pieces

-- The end of a line.
abbrev pub newline : List ℕ
newline = 10 ∷ []

-- What parts the fields of a line.
abbrev pub space : List ℕ
space = 32 ∷ []

-- What stands behind a noun of which there are so many: `1 line`, `2 lines`.
abbrev pub plural : ℕ → List ℕ
plural count = if count == 1 then [] else codes "s"

-- `MS start PROGRAM`
abbrev pub start_line : ℕ → List ℕ → List ℕ
start_line ms program = joined (decimal ms ∷ codes " start " ∷ program ∷ newline ∷ [])

-- `MS go STATE-SET FROM TO`
abbrev pub go_line : ℕ → List ℕ → List ℕ → List ℕ → List ℕ
go_line ms set from to = joined (decimal ms ∷ codes " go " ∷ set ∷ space ∷ from ∷ space ∷ to ∷ newline ∷ [])

-- ` go STATE-SET FROM TO`, what follows the time there
abbrev pub go_rest : List ℕ → List ℕ → List ℕ → List ℕ
go_rest set from to = joined (codes " go " ∷ set ∷ space ∷ from ∷ space ∷ to ∷ newline ∷ [])

-- `MS exit PROGRAM`
abbrev pub exit_line : ℕ → List ℕ → List ℕ
exit_line ms program = joined (decimal ms ∷ codes " exit " ∷ program ∷ newline ∷ [])

-- `MS print STATE-SET `, which the text follows
abbrev pub print_front : ℕ → List ℕ → List ℕ
print_front ms set = joined (decimal ms ∷ codes " print " ∷ set ∷ codes " " ∷ [])

-- `MS put CHANNEL`, which the values follow
abbrev pub put_front : ℕ → List ℕ → List ℕ
put_front ms channel = joined (decimal ms ∷ codes " put " ∷ channel ∷ [])

-- What a fault's line says of it.
abbrev pub fault_text : Fault → List ℕ
fault_text Overflow = codes "overflow"
fault_text DivisionByZero = codes "division by zero"
fault_text OutOfRange = codes "subscript out of range"
fault_text DoesNotFit = codes "value does not fit"
fault_text BadShift = codes "bad shift count"
fault_text BudgetSpent = codes "step budget spent"

-- `MS fault STATE-SET LINE TEXT`
abbrev pub fault_line : ℕ → List ℕ → ℕ → List ℕ → List ℕ
fault_line ms set line text = joined (decimal ms ∷ codes " fault " ∷ set ∷ space ∷ decimal line ∷ space ∷ text ∷ newline ∷ [])
