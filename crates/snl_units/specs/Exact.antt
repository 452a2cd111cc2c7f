-- A decimal number, as a person writes it, in the unit of a trace: exactly, or not at all.
use Rattle.std.specs.Prelude.{◌≡◌, ◌⊎◌, ◌&&◌, ◌+◌, ◌-◌, ◌*◌, ◌^◌, ◌++◌, ◌∷◌, [], ℕ, ℤ, List, Bool, Option, None, Some, true, pos, neg_ℤ, option_map, nat_le, length, if◌then◌else◌}
use Rattle.std.specs.List.{list_all}

-- A digit.
abbrev pub is_digit : ℕ → Bool
is_digit byte = nat_le 48 byte && nat_le byte 57

-- Digits alone.
abbrev pub are_digits : List ℕ → Bool
are_digits text = list_all is_digit text

-- The number that digits make behind those of a number.
abbrev pub number_behind : ℕ → List ℕ → ℕ
number_behind number [] = number
number_behind number (digit ∷ digits) = number_behind (number * 10 + (digit - 48)) digits

-- A text that begins with a fraction: a point (46) and digits; or with none.
abbrev pub IsPoint : (text fraction behind : List ℕ) → Type 0
IsPoint text fraction behind = ((text ≡ behind) × (fraction ≡ [])) ⊎ (text ≡ 46 ∷ (fraction ++ behind))

-- `e` (101) or `E` (69).
abbrev pub IsMark : ℕ → Type 0
IsMark byte = (byte ≡ 101) ⊎ (byte ≡ 69)

-- Digits that spell a number.
abbrev pub IsNumber : (digits : List ℕ) → ℕ → Type 0
IsNumber digits number = (are_digits digits ≡ true) × (number ≡ number_behind 0 digits)

-- What stands behind the mark of an exponent: the exponent of ten to multiply by, as `6` and `+6` (43), or to divide by, as `-6` (45).
abbrev pub IsPower : (text : List ℕ) → (up down : ℕ) → Type 0
IsPower text up down = (digits : List ℕ) × (
    ((text ≡ digits) × (IsNumber digits up × (down ≡ 0)))
    ⊎ (((text ≡ 43 ∷ digits) × (IsNumber digits up × (down ≡ 0)))
    ⊎ ((text ≡ 45 ∷ digits) × (IsNumber digits down × (up ≡ 0)))))

-- What an exponent multiplies and divides by, as exponents of ten; nothing stands for neither.
abbrev pub IsExponent : (text : List ℕ) → (up down : ℕ) → Type 0
IsExponent text up down = ((text ≡ []) × ((up ≡ 0) × (down ≡ 0)))
    ⊎ ((mark : ℕ) × ((behind : List ℕ) × ((text ≡ mark ∷ behind) × (IsMark mark × IsPower behind up down))))

-- A decimal number without a sign: the number of its digits, times ten to the power `up`, by ten to the power `down`.
pub record IsDecimal (text : List ℕ) (number up down : ℕ) : Type 0 where
  pub whole : List ℕ
  pub fraction : List ℕ
  pub behind : List ℕ
  pub exponent : List ℕ
  pub shift : ℕ
  pub text_is : text ≡ whole ++ behind
  pub point : IsPoint behind fraction exponent
  pub digits : are_digits whole ≡ true
  pub decimals : are_digits fraction ≡ true
  pub number_is : number ≡ number_behind (number_behind 0 whole) fraction
  pub exponent_is : IsExponent exponent up shift
  pub down_is : down ≡ shift + length fraction

-- A size is a number with powers of ten, times `top` by `bottom`: nothing was rounded.
abbrev pub is_exactly : (number up down top bottom size : ℕ) → Type 0
is_exactly number up down top bottom size = size * (bottom * 10 ^ down) ≡ number * top * 10 ^ up

-- A text behind its sign, a `-` (45) or none.
abbrev pub signed_text : Bool → List ℕ → List ℕ
signed_text is_negative bare = if is_negative then 45 ∷ bare else bare

-- A number that is not above a limit.
abbrev pub up_to : ℕ → ℕ → Option ℕ
up_to limit number = if nat_le number limit then Some number else None

-- A size with its sign, as a number of 64 bits.
abbrev pub signed : Bool → ℕ → Option ℤ
signed is_negative size =
    if is_negative then option_map (λ n. neg_ℤ (pos n)) (up_to (2 ^ 63) size)
    else option_map (λ n. pos n) (up_to (2 ^ 63 - 1) size)

-- The whole number of a trace that a decimal text is: exactly the text times `top` by `bottom`, with its sign.
pub record IsScaled (text : List ℕ) (top bottom : ℕ) (value : ℤ) : Type 0 where
  pub is_negative : Bool
  pub bare : List ℕ
  pub number : ℕ
  pub up : ℕ
  pub down : ℕ
  pub size : ℕ
  pub text_is : text ≡ signed_text is_negative bare
  pub decimal : IsDecimal bare number up down
  pub exact : is_exactly number up down top bottom size
  pub value_is : signed is_negative size ≡ Some value
