-- Plain forms of what the code hands on while it reads macros.
use Rattle.std.specs.Prelude.{ℕ, suc, length, List, [], ◌∷◌, Option, None, Some}
use Rattle.std.specs.Borrow.{Bor}
use Rattle.snl_channels.specs.declared.macros.Macro.{Macro}
use Rattle.snl_channels.specs.Macros as plain

abbrev pub macro_view : Macro → plain.Macro
macro_view m = record { name = m.name.now; value = m.value.now }

-- One macro, or none.
abbrev pub macros_view : Option Macro → List plain.Macro
macros_view None = []
macros_view (Some m) = macro_view m ∷ []

-- What a function gives for the rest of a text, if there is a rest.
abbrev pub left_of : {A : Type 0} → (List ℕ → List A) → Option (Bor (List ℕ)) → List A
left_of f None = []
left_of f (Some t) = f t.now

-- How much of a text is left to be read, and whether there is a rest at all.
abbrev pub left_size : Option (Bor (List ℕ)) → ℕ
left_size None = 0
left_size (Some t) = suc (length t.now)
