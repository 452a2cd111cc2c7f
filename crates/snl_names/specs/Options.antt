-- The letters of options.
use Rattle.std.specs.Prelude.{ℕ, Bool, true, not, ◌&&◌, ◌==◌, List, [], ◌∷◌, Option, None, Some, unwrap_or, codes, if◌then◌else◌}
use Rattle.std.specs.List.{list_any}
use Rattle.std.specs.Option.{option_or}
use Rattle.snl_text.specs.declared.kinds.Kind.TheVariants.{Plus}
use Rattle.snl_syntax.specs.Kinds.{is}
use Rattle.snl_syntax.specs.Definitions.{DefinitionTree, SettingTree, setting}
use Rattle.snl_names.specs.declared.options.Options.{Options}

-- An option with `+`, and not with `-`.
abbrev pub is_on : SettingTree → Bool
is_on o = is Plus o.sign.kind

-- The letter stands among others.
abbrev pub is_among : List ℕ → ℕ → Bool
is_among letters b = list_any (λ c. b == c) letters

-- A letter of the program's options: `a` (97) is refused with `+` and `e` (101) with `-`.
abbrev pub is_program_letter : Bool → ℕ → Bool
is_program_letter on b = is_among (codes "acdeilmrsuwW") b && not (b == 97 && on) && not (b == 101 && not on)

-- The letters of a state's options.
abbrev pub is_state_letter : ℕ → Bool
is_state_letter b = is_among (codes "tex") b

-- The first of the letters that a test does not know.
abbrev pub first_refused : (ℕ → Bool) → List ℕ → Option ℕ
first_refused is_known [] = None
first_refused is_known (b ∷ more) = if is_known b then first_refused is_known more else Some b

-- The first refused letter of an option, of a state or of the program.
abbrev pub refused : Bool → SettingTree → Option ℕ
refused in_state o = first_refused (if in_state then is_state_letter else is_program_letter (is_on o)) o.name.text.now

-- ---- the signs in force

-- The sign that an option with this sign and these letters gives to a letter, `true` for `+`, whatever other letters it has.
abbrev pub sign_said : ℕ → Bool → List ℕ → Option Bool
sign_said letter on letters = if is_among letters letter then Some on else None

-- The last sign that some options give; how each gives one is known.
abbrev pub last_sign : {A : Type 0} → (A → Option Bool) → List A → Option Bool
last_sign sign [] = None
last_sign sign (o ∷ more) = option_or (last_sign sign more) (sign o)

-- The sign that a definition gives to a letter: only options give any.
abbrev pub sign_by : ℕ → DefinitionTree → Option Bool
sign_by letter (setting o) = sign_said letter (is_on o) o.name.text.now
sign_by letter d = None

-- The sign of a letter that is in force in a state with these definitions; `+` where no option has the letter.
abbrev pub sign_in_force : ℕ → List DefinitionTree → Bool
sign_in_force letter defs = unwrap_or (last_sign (sign_by letter) defs) true

-- The signs where there is no option.
abbrev pub no_options : Options
no_options = record { s = None; c = None; u = None; w = None }

-- The signs of these letters, `s` (115), `c` (99), `u` (117) and `w` (119), and those before where a letter has none.
abbrev pub options_by : (ℕ → Option Bool) → Options → Options
options_by sign before = record {
  s = option_or (sign 115) before.s;
  c = option_or (sign 99) before.c;
  u = option_or (sign 117) before.u;
  w = option_or (sign 119) before.w;
}

-- The signs after one more option with this sign and these letters.
abbrev pub after_option : Bool → List ℕ → Options → Options
after_option on letters before = options_by (λ letter. sign_said letter on letters) before
