-- The signs.
use Rattle.std.specs.Prelude.{ℕ, Bool, Option, Some, None, if◌then◌else◌, List, [], ◌∷◌, length, take, codes, bytes_eq}
use Rattle.snl_text.specs.declared.kinds.Kind.{Kind}
use Rattle.snl_text.specs.declared.kinds.Kind.TheVariants as k

-- each sign, and what sort of token it is, the longer ones first
abbrev pub signs : List (List ℕ × Kind)
signs =
    (codes "<<=", k.LessLessEqual)
    ∷ (codes ">>=", k.GreaterGreaterEqual)
    ∷ (codes "+=", k.PlusEqual)
    ∷ (codes "-=", k.MinusEqual)
    ∷ (codes "*=", k.StarEqual)
    ∷ (codes "/=", k.SlashEqual)
    ∷ (codes "%=", k.PercentEqual)
    ∷ (codes "&=", k.AmpersandEqual)
    ∷ (codes "|=", k.BarEqual)
    ∷ (codes "^=", k.CaretEqual)
    ∷ (codes "||", k.BarBar)
    ∷ (codes "&&", k.AmpersandAmpersand)
    ∷ (codes "==", k.EqualEqual)
    ∷ (codes "!=", k.BangEqual)
    ∷ (codes "<=", k.LessEqual)
    ∷ (codes ">=", k.GreaterEqual)
    ∷ (codes "<<", k.LessLess)
    ∷ (codes ">>", k.GreaterGreater)
    ∷ (codes "++", k.PlusPlus)
    ∷ (codes "--", k.MinusMinus)
    ∷ (codes "{", k.OpenBrace)
    ∷ (codes "}", k.CloseBrace)
    ∷ (codes "(", k.OpenParenthesis)
    ∷ (codes ")", k.CloseParenthesis)
    ∷ (codes "[", k.OpenBracket)
    ∷ (codes "]", k.CloseBracket)
    ∷ (codes ";", k.Semicolon)
    ∷ (codes ",", k.Comma)
    ∷ (codes ":", k.Colon)
    ∷ (codes "?", k.Question)
    ∷ (codes "=", k.Equal)
    ∷ (codes "|", k.Bar)
    ∷ (codes "^", k.Caret)
    ∷ (codes "&", k.Ampersand)
    ∷ (codes "<", k.Less)
    ∷ (codes ">", k.Greater)
    ∷ (codes "+", k.Plus)
    ∷ (codes "-", k.Minus)
    ∷ (codes "*", k.Star)
    ∷ (codes "/", k.Slash)
    ∷ (codes "%", k.Percent)
    ∷ (codes "!", k.Bang)
    ∷ (codes "~", k.Tilde)
    ∷ []

-- the bytes begin with a text
abbrev pub begins_with : List ℕ → List ℕ → Bool
begins_with bytes text = bytes_eq (take (length text) bytes) text

-- the first in a list of signs that the bytes begin with, and its length
abbrev pub sign_among : List (List ℕ × Kind) → List ℕ → Option (Kind × ℕ)
sign_among [] bytes = None
sign_among (entry ∷ entries) bytes =
    if begins_with bytes entry.0 then Some (entry.1, length entry.0) else sign_among entries bytes

-- the longest sign that the bytes begin with, and its length
unfoldable pub sign_at : List ℕ → Option (Kind × ℕ)
sign_at bytes = sign_among signs bytes
