-- Examples: tokens with a cure of each sort, and a program that lacks a parenthesis.
use Rattle.std.specs.Prelude.{◌≡◌, ℕ, List, [], ◌∷◌}
use Rattle.snl_text.specs.declared.kinds.Kind.{Kind}
use Rattle.snl_text.specs.declared.kinds.Kind.TheVariants as kind
use Rattle.snl_text.specs.declared.tokens.Pos.{Pos}
use Rattle.snl_text.specs.declared.tokens.Token.{Token}
use Rattle.snl_cures.specs.declared.cures.Cure.TheVariants.{Before, Instead, Away}
use Rattle.snl_cures.specs.declared.cures.CureToken.{CureToken}
use Rattle.snl_cures.specs.Cures.{mended_at, IsCure}

-- A place.
abbrev pub at_byte : ℕ → Pos
at_byte n = record { offset = n; file = 0; line = 1 }

-- A token at a place.
abbrev pub token : Kind → ℕ → Token
token kind n = record { kind = kind; text = record { ref_ptr = (0, 0); now = [] }; pos = at_byte n }

-- A piece.
abbrev pub piece : Kind → CureToken
piece kind = record { kind = kind; text = record { ref_ptr = (0, 0); now = [] } }

-- `x`, `=` and `1`, each with a blank behind it
abbrev pub three : List Token
three = token kind.Name 0 ∷ token kind.Equal 2 ∷ token kind.Whole 4 ∷ []

-- One more in front of the second, another one in its place, one fewer, and one more at the end.
pub record MendedExamples : Type 0 where
  pub before : mended_at three (at_byte 2) 1 (Before (piece kind.Minus)) ≡ token kind.Name 0 ∷ token kind.Minus 2 ∷ token kind.Equal 2 ∷ token kind.Whole 4 ∷ []
  pub instead : mended_at three (at_byte 2) 1 (Instead (piece kind.Minus)) ≡ token kind.Name 0 ∷ token kind.Minus 2 ∷ token kind.Whole 4 ∷ []
  pub away : mended_at three (at_byte 2) 1 Away ≡ token kind.Name 0 ∷ token kind.Whole 4 ∷ []
  pub at_the_end : mended_at three (at_byte 5) 3 (Before (piece kind.Semicolon)) ≡ token kind.Name 0 ∷ token kind.Equal 2 ∷ token kind.Whole 4 ∷ token kind.Semicolon 5 ∷ []

-- program p ss s { state a { when ( { } exit } }
abbrev pub lacking : List Token
lacking = token kind.Program 0 ∷ token kind.Name 8 ∷ token kind.StateSet 10 ∷ token kind.Name 13 ∷ token kind.OpenBrace 15
    ∷ token kind.State 17 ∷ token kind.Name 23 ∷ token kind.OpenBrace 25 ∷ token kind.When 27 ∷ token kind.OpenParenthesis 32
    ∷ token kind.OpenBrace 34 ∷ token kind.CloseBrace 36 ∷ token kind.Exit 38 ∷ token kind.CloseBrace 43 ∷ token kind.CloseBrace 45 ∷ []

-- The parenthesis that it lacks is a cure, in front of its brace. A semicolon in front of a brace that closes nothing is none.
pub record CureExamples : Type 0 where
  pub one : IsCure lacking (at_byte 47) 10 (Before (piece kind.CloseParenthesis))
  pub none : IsCure (token kind.CloseBrace 0 ∷ []) (at_byte 1) 0 (Before (piece kind.Semicolon)) → ⊥
