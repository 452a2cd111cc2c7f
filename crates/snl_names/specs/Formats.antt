-- The formats of `printf`. A byte other than a backslash and `%` stands for itself. Beside those there are `\\n`, `\\t`,
-- `\\\\`, `\\"`, `%%` and the conversions `%d` and `%ld`.
use Rattle.std.specs.Prelude.{ℕ, suc, ◌-◌, Bool, false, ◌||◌, ◌==◌, List, [], ◌∷◌, length, take, drop, Option, Some, None, if◌then◌else◌}
use Rattle.snl_names.specs.declared.formats.FormatState.{FormatState}
use Rattle.snl_names.specs.declared.formats.FormatState.TheVariants.{Plain, Escaped, Percent, Long}

-- What a byte leads to, if it may stand there.
abbrev pub next : FormatState → ℕ → Option FormatState
next Plain b = if b == 92 then Some Escaped else (if b == 37 then Some Percent else Some Plain)
next Escaped b = if b == 110 || b == 116 || b == 92 || b == 34 then Some Plain else None
next Percent b = if b == 37 || b == 100 then Some Plain else (if b == 108 then Some Long else None)
next Long b = if b == 100 then Some Plain else None

-- A `d` ends a conversion there.
abbrev pub converts : FormatState → ℕ → Bool
converts Percent b = b == 100
converts Long b = b == 100
converts _ b = false

-- How many conversions there are, beside those before; none where a byte may not stand.
abbrev pub conversions : FormatState → ℕ → List ℕ → Option ℕ
conversions Plain n [] = Some n
conversions _ n [] = None
conversions state n (b ∷ more) = elim (next state b) [ None ↦ None | Some q ↦ conversions q (if converts state b then suc n else n) more ]

-- A string without its quotes.
abbrev pub unquoted : List ℕ → List ℕ
unquoted bytes = take (length bytes - 2) (drop 1 bytes)

-- The same of a string with its quotes.
abbrev pub conversions_of : List ℕ → Option ℕ
conversions_of bytes = conversions Plain 0 (unquoted bytes)
