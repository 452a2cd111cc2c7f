-- What a text begins with: fields of plain bytes, each with the byte that ends it.
use Rattle.std.specs.Prelude.{◌≡◌, ◌&&◌, ℕ, ℤ, nat_le, Bool, true, List, ◌∷◌, ◌++◌, Ok}
use Rattle.std.specs.List.{list_all}
use Rattle.snl_trace.specs.Fields.{is_text, fields}
use Rattle.snl_trace.specs.Grammar.{Told, kept_values, told_by}

-- a printable ASCII character other than a space
abbrev pub is_plain : ℕ → Bool
is_plain byte = nat_le 33 byte && nat_le byte 126

-- a text begins with a field of such bytes that is as it should be; a byte ends it, and a rest follows
pub record Begins (IsRight : List ℕ → Type 0) (stop : ℕ) (text rest : List ℕ) : Type 0 where
  pub field : List ℕ
  pub is : text ≡ field ++ stop ∷ rest
  pub plain : list_all is_plain field ≡ true
  pub right : IsRight field

-- a text begins with fields that spell values, of which these are kept; a newline ends them, and a rest follows
pub record BeginsWithValues (values : List ℤ) (text rest : List ℕ) : Type 0 where
  pub row : List ℕ
  pub is : text ≡ row ++ 10 ∷ rest
  pub plain : list_all is_text row ≡ true
  pub kept : kept_values (fields row) ≡ Ok values

-- a text begins with what tells this; a newline ends it, and a rest follows
pub record BeginsWithTelling (told : Told) (text rest : List ℕ) : Type 0 where
  pub row : List ℕ
  pub is : text ≡ row ++ 10 ∷ rest
  pub plain : list_all is_text row ≡ true
  pub tells : told_by (fields row) ≡ Ok told
