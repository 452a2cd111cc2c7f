-- What is said of a source that has no tree.
use Rattle.std.specs.Prelude.{ℕ, List, [], codes}
use Rattle.snl_messages.specs.declared.refusals.Refusal.{Refusal}
use Rattle.snl_messages.specs.declared.refusals.Refusal.TheVariants.{Unexpected, EndOfFile, TooDeep, NoTokens}

-- The number after E.
abbrev pub refusal_number : Refusal → ℕ
refusal_number Unexpected = 1
refusal_number EndOfFile = 1
refusal_number TooDeep = 2
refusal_number NoTokens = 3

-- The text, or what stands of it before a token that it quotes. A lexical fault tells its own.
abbrev pub words_of : Refusal → List ℕ
words_of Unexpected = codes "syntax error at '"
words_of EndOfFile = codes "syntax error at end of file"
words_of TooDeep = codes "nesting deeper than 64 at '"
words_of NoTokens = []
