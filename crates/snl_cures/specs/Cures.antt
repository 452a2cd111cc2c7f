-- Cures of a fault: the tokens with one more, with another one, or with one fewer.
use Rattle.std.specs.Prelude.{◌≡◌, ◌<◌, ◌≤◌, ◌+◌, ℕ, List, length, ◌⊎◌, Option, Some, None, slice_get, slice_set, insert, remove}
use Rattle.snl_text.specs.declared.tokens.Lexed.{Lexed}
use Rattle.snl_text.specs.declared.tokens.Pos.{Pos}
use Rattle.snl_text.specs.declared.tokens.Token.{Token}
use Rattle.snl_cures.specs.declared.cures.Cure.{Cure}
use Rattle.snl_cures.specs.declared.cures.Cure.TheVariants.{Before, Instead, Away}
use Rattle.snl_cures.specs.declared.cures.CureToken.{CureToken}
use Rattle.snl_cures.specs.declared.cure_search.Cured.{Cured}
use Rattle.snl_cures.specs.declared.reach.Reach.{Reach}
use Rattle.snl_cures.specs.declared.reach.Reach.TheVariants.{Whole, Unexpected, TooDeep}
use Rattle.snl_cures.specs.Reaching.{AreProgram, HasFault, IsReach}

-- A piece as a token at a place.
abbrev pub token_of : CureToken → Pos → Token
token_of piece pos = record { kind = piece.kind; text = piece.text; pos = pos }

-- The place of a token, or the end of the source where there is none.
abbrev pub place_of : Option Token → Pos → Pos
place_of (Some token) eof = token.pos
place_of None eof = eof

-- A cure can be done at a number, of so many tokens: at their end a piece is put.
abbrev pub Fits : ℕ → ℕ → Cure → Type 0
Fits count at (Before piece) = at ≤ count
Fits count at (Instead piece) = at < count
Fits count at Away = at < count

-- Tokens with a cure at a number, where a token that is put has this place.
abbrev pub mended_at : List Token → Pos → ℕ → Cure → List Token
mended_at ts pos at (Before piece) = insert ts at (token_of piece pos)
mended_at ts pos at (Instead piece) = slice_set ts at (token_of piece pos)
mended_at ts pos at Away = remove ts at

-- Tokens of a source that ends at a place, with a cure at a number.
abbrev pub mended : List Token → Pos → ℕ → Cure → List Token
mended ts eof at cure = mended_at ts (place_of (slice_get ts at) eof) at cure

-- How many tokens it puts.
abbrev pub put_count : Cure → ℕ
put_count (Before piece) = 1
put_count (Instead piece) = 1
put_count Away = 0

-- The token of a number, or the end of the source, stands behind a place of the source.
abbrev pub IsBehind : Pos → List Token → Pos → ℕ → Type 0
IsBehind from ts eof k = from.offset < (place_of (slice_get ts k) eof).offset

-- The tokens are a program; or their first fault stands behind the token that follows the first n of them, and behind a place of the source.
abbrev pub GoesBeyond : ℕ → Pos → List Token → Pos → Type 0
GoesBeyond n from ts eof = AreProgram ts ⊎ ((k : ℕ) × (n < k) × IsBehind from ts eof k × HasFault ts k)

-- What an answer says of the place.
abbrev pub IsFarther : Pos → List Token → Pos → Reach → Type 0
IsFarther from ts eof Whole = Unit {0}
IsFarther from ts eof (Unexpected k) = IsBehind from ts eof k
IsFarther from ts eof (TooDeep k) = IsBehind from ts eof k

-- With a cure at a number, the first fault is gone, or stands farther on: its place is behind that of the number, and the token that
-- follows the cure can stand.
pub record IsCure (ts : List Token) (eof : Pos) (at : ℕ) (cure : Cure) : Type 0 where
  pub fits : Fits (length ts) at cure
  pub beyond : GoesBeyond (at + put_count cure) (place_of (slice_get ts at) eof) (mended ts eof at cure) eof

-- A cure, the tokens with it, and how far they go.
pub record IsCured (lexed : Lexed) (at : ℕ) (c : Cured) : Type 0 where
  pub is_cure : IsCure lexed.tokens.items lexed.eof at c.cure
  pub tokens : c.lexed.tokens.items ≡ mended lexed.tokens.items lexed.eof at c.cure
  pub reach : IsReach c.lexed.tokens.items c.reach
