-- The lines that `printf` and `pvPut` write.
use Rattle.std.specs.Prelude.{ℕ, ℤ, ◌==◌, ◌||◌, List, [], ◌∷◌, ◌++◌, drop, codes, decimal, Option, None, Some, if◌then◌else◌}
use Rattle.std.specs.Fmt.{signed_decimal}
use Rattle.snl_names.specs.declared.formats.FormatState.{FormatState}
use Rattle.snl_names.specs.declared.formats.FormatState.TheVariants.{Plain, Escaped, Percent, Long}
use Rattle.snl_names.specs.Formats.{next, converts, unquoted}

-- The first of some numbers, in decimals.
abbrev pub first_shown : List ℤ → List ℕ
first_shown [] = []
first_shown (z ∷ zs) = signed_decimal z

-- What a byte of a format writes. A conversion writes the first of the numbers. `\\n`, `\\t` and `\\\\` are written as
-- they are spelled, and a tab as `\\t`; of `\\"` the quote alone.
abbrev pub shown_byte : FormatState → ℕ → List ℤ → List ℕ
shown_byte Plain b zs = if b == 92 || b == 37 then [] else (if b == 9 then codes "\\t" else b ∷ [])
shown_byte Escaped b zs = if b == 34 then b ∷ [] else 92 ∷ b ∷ []
shown_byte Percent b zs = if b == 37 then b ∷ [] else (if b == 100 then first_shown zs else [])
shown_byte Long b zs = first_shown zs

-- Where no byte may stand, the format goes on plainly; the rules refuse it.
abbrev pub or_plain : Option FormatState → FormatState
or_plain None = Plain
or_plain (Some state) = state

-- The bytes of a format, with the numbers in the order in which they are written.
abbrev pub shown : FormatState → List ℤ → List ℕ → List ℕ
shown state zs [] = []
shown state zs (b ∷ more) = shown_byte state b zs ++ shown (or_plain (next state b)) (if converts state b then drop 1 zs else zs) more

-- `MS print SS TEXT`
abbrev pub print_line : ℕ → List ℕ → List ℕ → List ℕ
print_line ms set text = decimal ms ++ codes " print " ++ set ++ codes " " ++ text ++ 10 ∷ []

-- The line of a string and its numbers.
abbrev pub printed_line : ℕ → List ℕ → List ℕ → List ℤ → List ℕ
printed_line ms set format zs = print_line ms set (shown Plain zs (unquoted format))

-- Numbers, each behind a blank.
abbrev pub spaced : List ℤ → List ℕ
spaced [] = []
spaced (z ∷ zs) = 32 ∷ (signed_decimal z ++ spaced zs)

-- `MS put CHANNEL V1 V2 ..`
abbrev pub put_line : ℕ → List ℕ → List ℤ → List ℕ
put_line ms channel zs = decimal ms ++ codes " put " ++ channel ++ spaced zs ++ 10 ∷ []
