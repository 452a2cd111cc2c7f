-- Which state sets do something with a variable: none, one of them, or several. Each has a copy of the variable of its own.
use Rattle.std.specs.Prelude.{ℕ, suc, Bool, true, false, not, ◌==◌, List, [], ◌∷◌, Option, None, Some, nat_eq, if◌then◌else◌}
use Rattle.std.specs.HashMap.{HashMap, get}
use Rattle.snl_text.specs.declared.tokens.Pos.{Pos}
use Rattle.snl_syntax.specs.Programs.{StateSetTree, ProgramTree}
use Rattle.snl_lints.specs.declared.doers.Doers.{Doers}
use Rattle.snl_lints.specs.declared.doers.Doers.TheVariants.{Nobody, One, Several}
use Rattle.snl_lints.specs.declared.facts.Fact.{Fact}
use Rattle.snl_lints.specs.declared.touches.Touch.{Touch}
use Rattle.snl_lints.specs.Facts.{does}
use Rattle.snl_lints.specs.Touches.{if_there, in_block, in_state_set}

-- The state set of this number does it too.
abbrev pub and_also : Doers → ℕ → Doers
and_also Nobody k = One k
and_also (One j) k = if j == k then One j else Several
and_also Several k = Several

-- The same where a test says so.
abbrev pub and_if : Bool → Doers → ℕ → Doers
and_if true before k = and_also before k
and_if false before k = before

-- Behind touches that the state set of this number makes.
abbrev pub doers_after : (ℕ → Option Pos) → Fact → ℕ → ℕ → Doers → List Touch → Doers
doers_after declared f variable k before [] = before
doers_after declared f variable k before (t ∷ rest) = doers_after declared f variable k (and_if (does declared f variable t) before k) rest

-- Behind state sets that are counted from this number on.
abbrev pub doers_from : (ℕ → Option Pos) → Fact → ℕ → ℕ → Doers → List StateSetTree → Doers
doers_from declared f variable k before [] = before
doers_from declared f variable k before (g ∷ rest) = doers_from declared f variable (suc k) (doers_after declared f variable k before (in_state_set declared g)) rest

-- Those of the program's own blocks, which are done on the copy of the first state set.
abbrev pub doers_in_blocks : (ℕ → Option Pos) → Fact → ℕ → ProgramTree → Doers
doers_in_blocks declared f variable p =
    doers_after declared f variable 0 (doers_after declared f variable 0 Nobody (if_there (in_block declared) p.entry)) (if_there (in_block declared) p.exit)

-- Those of a program. What stands in a function is not counted, since the state sets that call it do it.
abbrev pub doers_of : (ℕ → Option Pos) → ProgramTree → Fact → ℕ → Doers
doers_of declared p f variable = doers_from declared f variable 0 (doers_in_blocks declared f variable p) p.state_sets

-- A state set is among the first, and another one among the second.
abbrev pub are_apart : Doers → Doers → Bool
are_apart Nobody b = false
are_apart a Nobody = false
are_apart (One j) (One k) = not (j == k)
are_apart a b = true

-- What a table has of a variable.
abbrev pub or_nobody : Option Doers → Doers
or_nobody None = Nobody
or_nobody (Some d) = d

-- The doers that a table knows of a variable.
abbrev pub doers_in : {S : Type 0} → HashMap ℕ Doers S → ℕ → Doers
doers_in table variable = or_nobody (get nat_eq table variable)
