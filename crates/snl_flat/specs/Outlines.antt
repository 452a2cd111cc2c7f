-- What code knows of functions, up to the greatest number of 64 bits.
use Rattle.std.specs.Prelude.{◌≡◌, List, [], ◌∷◌}
use Rattle.snl_meaning.specs.Names.{Outline}
use Rattle.snl_flat.specs.Depths.{capped}

-- The same functions with the same depths, but for what is above that number.
abbrev pub AreAlike : List Outline → List Outline → Type 0
AreAlike [] [] = Unit {0}
AreAlike (f ∷ fs) (g ∷ gs) = (f.name ≡ g.name) × (capped f.depth ≡ capped g.depth) × AreAlike fs gs
AreAlike _ _ = ⊥
