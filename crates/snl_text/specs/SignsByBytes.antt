-- The signs by their bytes, as the code finds them. That they are those of the one list is proved.
use Rattle.std.specs.Prelude.{ℕ, ◌==◌, ◌&&◌, Option, Some, None, if◌then◌else◌, List, slice_index}
use Rattle.snl_text.specs.declared.kinds.Kind.{Kind}
use Rattle.snl_text.specs.declared.kinds.Kind.TheVariants as k

-- the sign that the byte is
unfoldable pub sign_of_one : ℕ → Option Kind
sign_of_one a =
    if a == 123 then Some k.OpenBrace
    else (if a == 125 then Some k.CloseBrace
    else (if a == 40 then Some k.OpenParenthesis
    else (if a == 41 then Some k.CloseParenthesis
    else (if a == 91 then Some k.OpenBracket
    else (if a == 93 then Some k.CloseBracket
    else (if a == 59 then Some k.Semicolon
    else (if a == 44 then Some k.Comma
    else (if a == 58 then Some k.Colon
    else (if a == 63 then Some k.Question
    else (if a == 61 then Some k.Equal
    else (if a == 124 then Some k.Bar
    else (if a == 94 then Some k.Caret
    else (if a == 38 then Some k.Ampersand
    else (if a == 60 then Some k.Less
    else (if a == 62 then Some k.Greater
    else (if a == 43 then Some k.Plus
    else (if a == 45 then Some k.Minus
    else (if a == 42 then Some k.Star
    else (if a == 47 then Some k.Slash
    else (if a == 37 then Some k.Percent
    else (if a == 33 then Some k.Bang
    else (if a == 126 then Some k.Tilde
    else None))))))))))))))))))))))

-- the sign that the two bytes are
unfoldable pub sign_of_two : ℕ → ℕ → Option Kind
sign_of_two a b =
    if a == 43 && b == 61 then Some k.PlusEqual
    else (if a == 45 && b == 61 then Some k.MinusEqual
    else (if a == 42 && b == 61 then Some k.StarEqual
    else (if a == 47 && b == 61 then Some k.SlashEqual
    else (if a == 37 && b == 61 then Some k.PercentEqual
    else (if a == 38 && b == 61 then Some k.AmpersandEqual
    else (if a == 124 && b == 61 then Some k.BarEqual
    else (if a == 94 && b == 61 then Some k.CaretEqual
    else (if a == 124 && b == 124 then Some k.BarBar
    else (if a == 38 && b == 38 then Some k.AmpersandAmpersand
    else (if a == 61 && b == 61 then Some k.EqualEqual
    else (if a == 33 && b == 61 then Some k.BangEqual
    else (if a == 60 && b == 61 then Some k.LessEqual
    else (if a == 62 && b == 61 then Some k.GreaterEqual
    else (if a == 60 && b == 60 then Some k.LessLess
    else (if a == 62 && b == 62 then Some k.GreaterGreater
    else (if a == 43 && b == 43 then Some k.PlusPlus
    else (if a == 45 && b == 45 then Some k.MinusMinus
    else None)))))))))))))))))

-- the sign that the three bytes are
unfoldable pub sign_of_three : ℕ → ℕ → ℕ → Option Kind
sign_of_three a b c =
    if a == 60 && b == 60 && c == 61 then Some k.LessLessEqual
    else (if a == 62 && b == 62 && c == 61 then Some k.GreaterGreaterEqual else None)

-- the first of three answers that there is
abbrev pub first_sign : Option Kind → Option Kind → Option Kind → Option (Kind × ℕ)
first_sign (Some sign) two one = Some (sign, 3)
first_sign None (Some sign) one = Some (sign, 2)
first_sign None None (Some sign) = Some (sign, 1)
first_sign None None None = None

-- the longest sign that the bytes begin with, and its length
unfoldable pub sign_by_bytes : List ℕ → Option (Kind × ℕ)
sign_by_bytes bytes =
    let a = slice_index bytes 0 in
    let b = slice_index bytes 1 in
    first_sign (sign_of_three a b (slice_index bytes 2)) (sign_of_two a b) (sign_of_one a)
