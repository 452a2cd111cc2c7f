-- What the lint `shared` stands on, as a relation between two state sets.
use Rattle.std.specs.Prelude.{◌≡◌, ◌↔◌, ℕ, ◌==◌, Bool, true, List, [], ◌++◌, slice_get, Option, if◌then◌else◌}
use Rattle.std.specs.List.{list_any}
use Rattle.snl_text.specs.declared.tokens.Pos.{Pos}
use Rattle.snl_syntax.specs.Programs.{ProgramTree}
use Rattle.snl_lints.specs.declared.facts.Fact.{Fact}
use Rattle.snl_lints.specs.declared.touches.Touch.{Touch}
use Rattle.snl_lints.specs.Facts.{does}
use Rattle.snl_lints.specs.Touches.{if_there, in_block, in_state_set}
use Rattle.snl_lints.specs.Doers.{doers_of, are_apart}

-- A block of the program is done on the copy of the first state set.
abbrev pub for_first : ℕ → List Touch → List Touch
for_first set all = if set == 0 then all else []

-- What is done on the copy of a state set, but in functions.
abbrev pub touches_of_set : (ℕ → Option Pos) → ProgramTree → ℕ → List Touch
touches_of_set declared p set =
    for_first set (if_there (in_block declared) p.entry) ++ (if_there (in_state_set declared) (slice_get p.state_sets set) ++ for_first set (if_there (in_block declared) p.exit))

-- The state set of this number does this with the variable.
abbrev pub set_does : (ℕ → Option Pos) → ProgramTree → Fact → ℕ → ℕ → Bool
set_does declared p f variable set = list_any (does declared f variable) (touches_of_set declared p set)

-- Some state set does the one, and another one does the other.
pub record DoneApart (declared : ℕ → Option Pos) (p : ProgramTree) (f g : Fact) (variable : ℕ) : Type 0 where
  pub one : ℕ
  pub other : ℕ
  pub differ : one ≡ other → ⊥
  pub does_one : set_does declared p f variable one ≡ true
  pub does_other : set_does declared p g variable other ≡ true

-- The doers of a program are apart exactly where that is so.
abbrev pub DoersAreApart : Type 0
DoersAreApart =
    (declared : ℕ → Option Pos) (p : ProgramTree) (f g : Fact) (variable : ℕ) →
    (are_apart (doers_of declared p f variable) (doers_of declared p g variable) ≡ true) ↔ DoneApart declared p f g variable
