-- What the scanner holds, seen as what has been read.
use Rattle.std.specs.Prelude.{map}
use Rattle.snl_text.specs.Cut.{Reading, Spelled}
use Rattle.snl_text.specs.declared.scanner.Scanner.{Scanner}
use Rattle.snl_text.specs.declared.tokens.Token.{Token}

-- a token without the memory of its text
abbrev pub spelled : Token → Spelled
spelled token = record { kind = token.kind; text = token.text.now; pos = token.pos }

-- what the state of a scanner has read
abbrev pub reading : Scanner → Reading
reading s = record {
  pos = s.pos;
  opens_line = s.opens_line;
  tokens = map spelled s.tokens.items;
  embedded = s.embedded.items;
  files = map (λ name. name.now) s.files.keys;
}
