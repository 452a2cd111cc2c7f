-- A format of `printf` that is cut at its numbers, and what it writes.
use Rattle.std.specs.Prelude.{ℕ, ℤ, List, [], ◌∷◌, ◌++◌, drop, if◌then◌else◌}
use Rattle.snl_names.specs.declared.formats.FormatState.TheVariants.{Plain}
use Rattle.snl_names.specs.Formats.{unquoted}
use Rattle.snl_meaning.specs.Printing.{first_shown, shown}
use Rattle.snl_output.specs.declared.formats.Part.{Part}
use Rattle.snl_output.specs.Lines.{newline}
use Rattle.snl_output.specs.Texts.{text_in}

-- The numbers that are left behind that of a part.
abbrev pub left_by : Part → List ℤ → List ℤ
left_by part zs = if part.takes then drop 1 zs else zs

-- Those behind all parts.
abbrev pub left_behind : List Part → List ℤ → List ℤ
left_behind [] zs = zs
left_behind (part ∷ parts) zs = left_behind parts (left_by part zs)

-- What parts write, and a text behind them: each part its own text, and behind that the first of the numbers that are left.
abbrev pub filled : List Part → List ℤ → List ℕ → List ℕ
filled [] zs rest = rest
filled (part ∷ parts) zs rest = text_in part.text ++ (first_shown zs ++ filled parts (left_by part zs) rest)

-- What a format writes with some numbers behind the state set's name, to the end of the line.
abbrev pub shown_in : List ℕ → List ℤ → List ℕ
shown_in format zs = shown Plain zs (unquoted format) ++ newline
