-- What a cut of the source gives: the tokens, the embedded lexemes, the names of files and the places.
use Rattle.std.specs.Prelude.{ℕ, ◌+◌, ◌<◌, ◌≤◌, Bool, true, false, List, [], ◌∷◌, ◌++◌, length, count_by, bytes_eq, if◌then◌else◌, codes, Option, Some, None, slice_range, ◌≡◌, drop, take}
use Rattle.std.specs.List.{list_any, position_or_len}
use Rattle.snl_text.specs.Bytes.{is_byte}
use Rattle.snl_text.specs.Lexemes.{lexeme_at}
use Rattle.snl_text.specs.declared.kinds.Kind.{Kind}
use Rattle.snl_text.specs.declared.markers.Marker.{Marker}
use Rattle.snl_text.specs.declared.markers.Span.{Span}
use Rattle.snl_text.specs.declared.lexemes.Lexeme.{Lexeme}
use Rattle.snl_text.specs.declared.lexemes.LexemeSort.{LexemeSort}
use Rattle.snl_text.specs.declared.lexemes.LexemeSort.TheVariants as sort
use Rattle.snl_text.specs.declared.tokens.Pos.{Pos}

-- a token without where it lies in memory
pub record Spelled : Type 0 where
  pub kind : Kind
  pub text : List ℕ
  pub pos : Pos

-- what has been read of a source, up to a place
pub record Reading : Type 0 where
  pub pos : Pos
  -- no more than spaces and tabs stand before the place in its line
  pub opens_line : Bool
  pub tokens : List Spelled
  pub embedded : List Pos
  -- the names of files that markers gave, each once, in order of first use
  pub files : List (List ℕ)

-- at the begin: line 1 of the file that was read, which is number 0
abbrev pub start : Pos
start = record { offset = 0; file = 0; line = 1 }

-- before the first byte
abbrev pub nothing_read : Reading
nothing_read = record { pos = start; opens_line = true; tokens = []; embedded = []; files = [] }

-- how many lines end in a text
abbrev pub newlines : List ℕ → ℕ
newlines text = count_by (is_byte (codes "\n")) text

-- after bytes of the same line
abbrev pub along : Pos → List ℕ → Pos
along pos text = record { offset = pos.offset + length text; file = pos.file; line = pos.line }

-- after bytes that may end lines
abbrev pub beyond : Pos → List ℕ → Pos
beyond pos text = record { offset = pos.offset + length text; file = pos.file; line = pos.line + newlines text }

-- the names with one more, unless it is there
abbrev pub with_name : List (List ℕ) → List ℕ → List (List ℕ)
with_name names name = if list_any (bytes_eq name) names then names else names ++ name ∷ []

-- the number of a name, from 1
abbrev pub file_number : List (List ℕ) → List ℕ → ℕ
file_number names name = 1 + position_or_len (bytes_eq name) names

-- a marker: the next line has its number, in its file or in the same one
abbrev pub renamed : Reading → List ℕ → Marker → Option Span → Reading
renamed r text marker None = record r {
  pos = record { offset = r.pos.offset + length text; file = r.pos.file; line = marker.line };
  opens_line = true;
}
renamed r text marker (Some span) =
    let name = slice_range text span.start span.end in
    record r {
      pos = record { offset = r.pos.offset + length text; file = file_number r.files name; line = marker.line };
      opens_line = true;
      files = with_name r.files name;
    }

-- what is read once a lexeme of a sort, with this text, is taken
abbrev pub after : Reading → List ℕ → LexemeSort → Reading
after r text sort.Blank = record r { pos = along r.pos text }
after r text sort.LineEnd = record r { pos = beyond r.pos text; opens_line = true }
after r text sort.Skipped = record r { pos = beyond r.pos text; opens_line = false }
after r text sort.EmbeddedC = record r { pos = beyond r.pos text; opens_line = false; embedded = r.embedded ++ r.pos ∷ [] }
after r text (sort.Marker marker) = renamed r text marker marker.name
after r text (sort.Token kind) = record r {
  pos = along r.pos text;
  opens_line = false;
  tokens = r.tokens ++ record { kind = kind; text = text; pos = r.pos } ∷ [];
}

-- the lexeme can stand at the front of the bytes, of which it takes one or more
pub record Stands (r : Reading) (bytes : List ℕ) (lexeme : Lexeme) : Type 0 where
  pub some : 0 < lexeme.length
  pub within : lexeme.length ≤ length bytes
  pub there : lexeme_at r.opens_line bytes ≡ Some lexeme

-- no lexeme can stand there
abbrev pub IsStuck : Reading → List ℕ → Type 0
IsStuck r bytes = (lexeme : Lexeme) → Stands r bytes lexeme → ⊥

-- A cut: lexemes that adjoin, each of which can stand at its place. They lead from what was read before to what
-- is read then, and from the bytes to the rest of them.
abbrev pub Cuts : Reading → List ℕ → List Lexeme → Reading → List ℕ → Type 0
Cuts r bytes [] end rest = (r ≡ end) × (bytes ≡ rest)
Cuts r bytes (lexeme ∷ lexemes) end rest =
    Stands r bytes lexeme × Cuts (after r (take lexeme.length bytes) lexeme.sort) (drop lexeme.length bytes) lexemes end rest
