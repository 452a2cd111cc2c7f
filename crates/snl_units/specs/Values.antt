-- What a value that a person gives is in a trace, by what a file of units says.
use Rattle.std.specs.Prelude.{◌≡◌, ◌⊎◌, ℕ, ℤ, List, [], ◌∷◌, Option, None, Some, pos, bytes_eq, codes, if◌then◌else◌}
use Rattle.snl_units.specs.declared.units.ChannelUnits.{ChannelUnits}
use Rattle.snl_units.specs.declared.units.TextNumber.{TextNumber}
use Rattle.snl_units.specs.declared.units.Unit.{Unit}
use Rattle.snl_units.specs.declared.units.Unit.TheVariants.{Scale, Enum, Severity, Text, Time}
use Rattle.std.specs.Option.{unwrap_or}
use Rattle.snl_units.specs.Exact.{IsScaled}

-- The number of a text among texts: the first one counts.
abbrev pub number_in : List TextNumber → List ℕ → Option ℤ
number_in [] text = None
number_in (one ∷ more) text = if bytes_eq one.text.items text then Some one.number else number_in more text

-- The number of the word of an alarm.
abbrev pub alarm_in : List ℕ → Option ℤ
alarm_in text =
    if bytes_eq text (codes "NO_ALARM") then Some (pos 0)
    else (if bytes_eq text (codes "MINOR") then Some (pos 1)
    else (if bytes_eq text (codes "MAJOR") then Some (pos 2)
    else (if bytes_eq text (codes "INVALID") then Some (pos 3) else None)))

-- The number that a unit gives a text.
abbrev pub number_by : Unit → List ℕ → Option ℤ
number_by (Scale top bottom) text = None
number_by (Enum numbers) text = number_in numbers.items text
number_by Severity text = alarm_in text
number_by (Text pieces) text = None
number_by Time text = None

-- The first that there is of two.
abbrev pub first_of : {A : Type 0} → Option A → Option A → Option A
first_of None other = other
first_of (Some one) other = Some one

-- The number that what is said of one channel gives a text of another one: none, unless they are the same.
abbrev pub number_of : ChannelUnits → List ℕ → List ℕ → Option ℤ
number_of one name text = if bytes_eq one.name.items name then number_by one.unit text else None

-- The number that units give a text of a channel: that of the first of them that does.
abbrev pub text_number : List ChannelUnits → List ℕ → List ℕ → Option ℤ
text_number [] name text = None
text_number (one ∷ more) name text = first_of (number_of one name text) (text_number more name text)

-- By what a unit multiplies and divides, if it does.
abbrev pub scale_by : Unit → Option (ℕ × ℕ)
scale_by (Scale top bottom) = Some (top, bottom)
scale_by (Enum numbers) = None
scale_by Severity = None
scale_by (Text pieces) = None
scale_by Time = None

-- The same of what is said of one channel for another one.
abbrev pub scale_of : ChannelUnits → List ℕ → Option (ℕ × ℕ)
scale_of one name = if bytes_eq one.name.items name then scale_by one.unit else None

-- By what the first of units that does so multiplies and divides the numbers of a channel.
abbrev pub scale_told : List ChannelUnits → List ℕ → Option (ℕ × ℕ)
scale_told [] name = None
scale_told (one ∷ more) name = first_of (scale_of one name) (scale_told more name)

-- By what its numbers are multiplied and divided: by 1, where none says so.
abbrev pub scale_in : List ChannelUnits → List ℕ → (ℕ × ℕ)
scale_in units name = unwrap_or (scale_told units name) (1, 1)

-- A value of a channel is a number of a trace: that of its text, or else that of its digits in the unit of the channel.
abbrev pub IsValue : (units : List ChannelUnits) → (name text : List ℕ) → ℤ → Type 0
IsValue units name text value =
    (text_number units name text ≡ Some value) ⊎
    ((text_number units name text ≡ None) × IsScaled text (scale_in units name).0 (scale_in units name).1 value)

-- A value is a number of a trace by one unit: that of its text, or else that of its digits.
abbrev pub IsValueBy : (unit : Unit) → (text : List ℕ) → ℤ → Type 0
IsValueBy unit text value =
    (number_by unit text ≡ Some value) ⊎
    ((number_by unit text ≡ None) × IsScaled text (unwrap_or (scale_by unit) (1, 1)).0 (unwrap_or (scale_by unit) (1, 1)).1 value)
