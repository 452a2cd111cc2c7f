-- What a whole text is when it is one lexeme, by what it begins with; and the law that no such text is longer
-- than the lexeme that stands at a place.
use Rattle.std.specs.Prelude.{ℕ, ◌+◌, ◌-◌, ◌<◌, ◌≤◌, ◌≡◌, ◌||◌, true, false, List, length, take, drop, ◌++◌, Some, codes, MatchBool, is_some, option_map, slice_index}
use Rattle.std.specs.List.{list_all, prefix_len}
use Rattle.snl_text.specs.Bytes.{is_blank, is_byte, is_letter, is_in_line, is_name_byte, is_number_byte, open_with}
use Rattle.snl_text.specs.Cut.{Reading, Stands}
use Rattle.snl_text.specs.Numbers.{whole_value, decimal_value}
use Rattle.snl_text.specs.Lexemes.{begins_number}
use Rattle.snl_text.specs.Quotes.{quoted, through_mark, character_at}
use Rattle.snl_text.specs.Signs.{sign_at}
use Rattle.snl_text.specs.declared.lexemes.Lexeme.{Lexeme}

-- what begins with `/` or `%` and a mark after it; and signs
abbrev pub IsMarkedText : List ℕ → Type 0
IsMarkedText text =
    -- a comment ends at its first `*/`, or goes on to the end of its line
    MatchBool (open_with (codes "/*") text) (through_mark (codes "*/") (drop 2 text) ≡ Some (length text - 2))
    (MatchBool (open_with (codes "//") text) (list_all is_in_line text ≡ true)
    -- embedded C ends at its first `}%`, or goes on to the end of its line
    (MatchBool (open_with (codes "%{") text) (through_mark (codes "}%") (drop 2 text) ≡ Some (length text - 2))
    (MatchBool (open_with (codes "%%") text) (list_all is_in_line text ≡ true)
    -- a sign
    (option_map (λ found. found.1) (sign_at text) ≡ Some (length text)))))

-- the whole text is one lexeme
abbrev pub IsText : List ℕ → Type 0
IsText text =
    let a = slice_index text 0 in
    -- a name or a reserved word has nothing but letters, digits and underscores
    MatchBool (is_letter a) (list_all is_name_byte text ≡ true)
    -- a number is one, and has nothing but bytes of a number word
    (MatchBool (begins_number text) ((list_all is_number_byte text ≡ true) × ((is_some (whole_value text) || is_some (decimal_value text)) ≡ true))
    -- a blank stands alone
    (MatchBool (is_blank a) (length text ≡ 1)
    -- a string ends at its first closing quote
    (MatchBool (is_byte (codes "\"") a) (quoted false (drop 1 text) ≡ Some (length text - 1))
    -- a character constant
    (MatchBool (is_byte (codes "'") a) (option_map (λ found. found.1) (character_at text) ≡ Some (length text))
    -- a line that begins with `#` has no newline but the last byte
    (MatchBool (is_byte (codes "#") a) (length text ≤ prefix_len is_in_line text + 1)
    (IsMarkedText text))))))

-- Where a lexeme stands, no longer text is one lexeme.
abbrev pub NoLongerPiece : Type 0
NoLongerPiece = (r : Reading) (text rest : List ℕ) (lexeme : Lexeme) →
    Stands r (text ++ rest) lexeme → lexeme.length < length text → IsText text → ⊥

-- Examples: texts that are one lexeme, and some that are not.
abbrev pub TextExamples : Type 0
TextExamples =
    IsText (codes "while") × IsText (codes "0x1FL") × IsText (codes ".5") × IsText (codes "/**/")
    × IsText (codes "// to the end") × IsText (codes "%{ a } }%") × IsText (codes "<<=") × IsText (codes "# 7")
    × (IsText (codes "09") → ⊥) × (IsText (codes "/*/") → ⊥) × (IsText (codes "<=>") → ⊥)

-- What stands at a place is one lexeme.
abbrev pub StandingIsText : Type 0
StandingIsText = (r : Reading) (bytes : List ℕ) (lexeme : Lexeme) → Stands r bytes lexeme → IsText (take lexeme.length bytes)
