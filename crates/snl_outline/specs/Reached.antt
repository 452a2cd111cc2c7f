-- Which states of a program can be reached, as an outline marks them.
use Rattle.std.specs.Prelude.{Bool, List, [], ◌∷◌, map}
use Rattle.snl_outline.specs.declared.shapes.SetOutline.{SetOutline}
use Rattle.snl_outline.specs.declared.shapes.StateOutline.{StateOutline}
use Rattle.snl_reach.specs.Marks.{AreReached}
use Rattle.snl_syntax.specs.Programs.{StateSetTree}

-- The marks of states.
abbrev pub marks_of : List StateOutline → List Bool
marks_of states = map (λ s. s.is_reached) states

-- In each state set those states have a mark that are reached.
abbrev pub AreMarked : List StateSetTree → List SetOutline → Type 0
AreMarked [] [] = Unit {0}
AreMarked [] (o ∷ os) = ⊥
AreMarked (g ∷ gs) [] = ⊥
AreMarked (g ∷ gs) (o ∷ os) = AreReached g.states (marks_of o.states.items) × AreMarked gs os
