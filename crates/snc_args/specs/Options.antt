-- The words of a call that are options of the language.
use Rattle.std.specs.Prelude.{ℕ, Bool, true, false, not, ◌==◌, ◌&&◌, List, [], ◌∷◌, filter, find, option_map, is_some, Option, None, Some, if◌then◌else◌}
use Rattle.std.specs.List.{filter_map}
use Rattle.std.specs.Option.{option_or}
use Rattle.std.specs.Str.{chars}
use Rattle.clap.specs.Words.{Text}
use Rattle.snl_names.specs.Options.{is_program_letter, last_sign, no_options, options_by, sign_said}
use Rattle.snl_names.specs.declared.options.Options.{Options}
use Rattle.snc_args.specs.declared.options.OptionWord.{OptionWord}

-- An option: its sign, true for a plus, and the letters that follow it.
pub record Setting : Type 0 where
  pub on : Bool
  pub letters : Text

-- The option that a word is: a plus (43), or a minus (45) that no second one follows, with something after it.
abbrev pub option_of : Text → Option Setting
option_of [] = None
option_of (sign ∷ []) = None
option_of (sign ∷ first ∷ more) =
    if sign == 43 then Some (record { on = true; letters = first ∷ more })
    else (if (sign == 45) && not (first == 45) then Some (record { on = false; letters = first ∷ more }) else None)

-- The options among the words, in order, and the words that are none.
abbrev pub options_among : List Text → List Setting
options_among = filter_map option_of

abbrev pub rest_words : List Text → List Text
rest_words = filter (λ w. not (is_some (option_of w)))

-- ---- what is refused

-- The character of a sign.
abbrev pub sign_of : Setting → ℕ
sign_of o = if o.on then 43 else 45

-- The first character of an option that is no letter of the language's, with its sign.
abbrev pub refused_letter : Setting → Option ℕ
refused_letter o = find (λ c. not (is_program_letter o.on c)) (chars o.letters)

-- The sign and the first refused character of the first option that has one.
abbrev pub first_refused : List Setting → Option (ℕ × ℕ)
first_refused [] = None
first_refused (o ∷ more) = option_or (option_map (λ c. (sign_of o, c)) (refused_letter o)) (first_refused more)

-- ---- what is in force

-- The sign that an option gives to a letter.
abbrev pub sign_given : ℕ → Setting → Option Bool
sign_given letter o = sign_said letter o.on o.letters

-- Of each letter the last sign is in force.
abbrev pub options_in_force : List Setting → Options
options_in_force os = options_by (λ letter. last_sign (sign_given letter) os) no_options

-- An option word of the program as an option.
abbrev pub setting_of : OptionWord → Setting
setting_of o = record { on = o.on; letters = o.letters.now }
