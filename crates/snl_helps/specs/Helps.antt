-- What helps where a token cannot stand: a line of advice for the words that are most often written there.
use Rattle.std.specs.Prelude.{ℕ, zero, suc, ◌==◌, List, Option, Some, None, slice_get, codes, bytes_eq, if◌then◌else◌}
use Rattle.std.specs.Option.{option_or}
use Rattle.snl_text.specs.declared.tokens.Token.{Token}

-- At a statement or an operator of C that is not supported.
abbrev pub statement_help : List ℕ → Option (List ℕ)
statement_help name =
    if bytes_eq name (codes "switch") then Some (codes "no 'switch': if and else if")
    else (if bytes_eq name (codes "case") then Some (codes "no 'case': if and else if")
    else (if bytes_eq name (codes "default") then Some (codes "no 'default': else")
    else (if bytes_eq name (codes "do") then Some (codes "no 'do': while, with a first pass before it")
    else (if bytes_eq name (codes "goto") then Some (codes "no 'goto': a state for each place to go to")
    else (if bytes_eq name (codes "sizeof") then Some (codes "no 'sizeof': write the number of elements")
    else (if bytes_eq name (codes "bool") then Some (codes "no 'bool': int, with 0 and 1") else None))))))

-- At a definition of C or of the sequencer that is not supported, else as above.
abbrev pub definition_help : List ℕ → Option (List ℕ)
definition_help name =
    if bytes_eq name (codes "const") then Some (codes "no 'const': leave the word out, or write the number where it is used")
    else (if bytes_eq name (codes "enum") then Some (codes "no 'enum': write the numbers, with a comment for each")
    else (if bytes_eq name (codes "struct") then Some (codes "no 'struct': a variable for each member")
    else (if bytes_eq name (codes "typedef") then Some (codes "no 'typedef': write the type itself")
    else (if bytes_eq name (codes "static") then Some (codes "no 'static': a variable of the program or of a state set stays")
    else (if bytes_eq name (codes "extern") then Some (codes "no 'extern': nothing outside of the program can be named")
    else (if bytes_eq name (codes "foreign") then Some (codes "no 'foreign': nothing outside of the program can be named") else statement_help name))))))

-- At a keyword with capital letters, else as above.
abbrev pub capital_help : List ℕ → Option (List ℕ)
capital_help name =
    if bytes_eq name (codes "When") then Some (codes "keywords have small letters: when")
    else (if bytes_eq name (codes "WHEN") then Some (codes "keywords have small letters: when")
    else (if bytes_eq name (codes "State") then Some (codes "keywords have small letters: state")
    else (if bytes_eq name (codes "STATE") then Some (codes "keywords have small letters: state")
    else (if bytes_eq name (codes "If") then Some (codes "keywords have small letters: if")
    else (if bytes_eq name (codes "Else") then Some (codes "keywords have small letters: else")
    else (if bytes_eq name (codes "Entry") then Some (codes "keywords have small letters: entry")
    else (if bytes_eq name (codes "Exit") then Some (codes "keywords have small letters: exit") else definition_help name)))))))

-- What helps at a token with this text, where something is known: first at a word in the place of an operator or of a keyword, else as above.
abbrev pub help_at : List ℕ → Option (List ℕ)
help_at name =
    if bytes_eq name (codes "and") then Some (codes "an operator is a sign: && for 'and'")
    else (if bytes_eq name (codes "or") then Some (codes "an operator is a sign: || for 'or'")
    else (if bytes_eq name (codes "not") then Some (codes "an operator is a sign: ! for 'not'")
    else (if bytes_eq name (codes "then") then Some (codes "no 'then' stands behind a condition: a statement or a block does")
    else (if bytes_eq name (codes "elseif") then Some (codes "two words: else if")
    else (if bytes_eq name (codes "elif") then Some (codes "two words: else if")
    else (if bytes_eq name (codes "endif") then Some (codes "a block ends with }") else capital_help name))))))

-- The text of a token, if there is one and it stands on this line.
abbrev pub text_on : ℕ → Option Token → Option (List ℕ)
text_on line None = None
text_on line (Some t) = if t.pos.line == line then Some t.text.now else None

-- What helps at a text, or else this; nothing where there is no text.
abbrev pub help_or : Option (List ℕ) → Option (List ℕ) → Option (List ℕ)
help_or None other = None
help_or (Some text) other = option_or (help_at text) other

-- What helps at the last of so many first tokens at which something is known, up to the first that stands on another line.
abbrev pub help_before : List Token → ℕ → ℕ → Option (List ℕ)
help_before tokens line zero = None
help_before tokens line (suc k) = help_or (text_on line (slice_get tokens k)) (help_before tokens line k)

-- The same for a token and those in front of it on its line.
abbrev pub help_for_token : List Token → ℕ → Option Token → Option (List ℕ)
help_for_token tokens k None = None
help_for_token tokens k (Some t) = help_before tokens t.pos.line (suc k)

-- What helps where the token of this number is the first that cannot stand.
abbrev pub help_for : List Token → ℕ → Option (List ℕ)
help_for tokens k = help_for_token tokens k (slice_get tokens k)
