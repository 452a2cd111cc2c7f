-- When a text can stand at a place, told by what texts are and by what goes on there; and the law that the
-- lexemes which stand are those texts.
use Rattle.std.specs.Prelude.{ℕ, ◌≡◌, ◌<◌, ◌≤◌, true, List, length, take, ◌++◌, codes, is_some, slice_index}
use Rattle.std.specs.List.{prefix_len}
use Rattle.snl_text.specs.Bytes.{is_byte, is_in_line, is_number_byte, open_with}
use Rattle.snl_text.specs.Cut.{Reading, Stands}
use Rattle.snl_text.specs.Markers.{says_of}
use Rattle.snl_text.specs.Lexemes.{begins_number}
use Rattle.snl_text.specs.Texts.{IsText}
use Rattle.snl_text.specs.declared.lexemes.Lexeme.{Lexeme}

-- a line that begins with `#` and says something: a `#pragma` line, or a marker
abbrev pub IsDirective : List ℕ → Type 0
IsDirective line = is_some (says_of line) ≡ true

-- The text can stand in front of the rest.
pub record CanStand (r : Reading) (text rest : List ℕ) : Type 0 where
  pub some : 0 < length text
  pub is : IsText text
  -- a `#` stands only where nothing but spaces and tabs is before it in its line, and its line says something
  pub opens : is_byte (codes "#") (slice_index text 0) ≡ true → r.opens_line ≡ true
  pub says : is_byte (codes "#") (slice_index text 0) ≡ true → IsDirective (take (prefix_len is_in_line text) text)
  -- no longer text is one lexeme there
  pub longest : (longer left : List ℕ) → longer ++ left ≡ text ++ rest → IsText longer → length longer ≤ length text
  -- where a number word begins, it stands whole
  pub number : begins_number (text ++ rest) ≡ true → length text ≡ prefix_len is_number_byte (text ++ rest)
  -- where a comment or embedded C is opened, it stands
  pub comment : open_with (codes "/*") (text ++ rest) ≡ true → open_with (codes "/*") text ≡ true
  pub embedded : open_with (codes "%{") (text ++ rest) ≡ true → open_with (codes "%{") text ≡ true

-- Where a lexeme stands, its text can stand.
abbrev pub StandingCanStand : Type 0
StandingCanStand = (r : Reading) (text rest : List ℕ) (lexeme : Lexeme) →
    Stands r (text ++ rest) lexeme → lexeme.length ≡ length text → CanStand r text rest

-- Where a text can stand, a lexeme of its length stands.
abbrev pub TextsStand : Type 0
TextsStand = (r : Reading) (text rest : List ℕ) →
    CanStand r text rest → (lexeme : Lexeme) × (Stands r (text ++ rest) lexeme × (lexeme.length ≡ length text))
