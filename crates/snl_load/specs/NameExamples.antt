-- Names in small lists.
use Rattle.std.specs.Prelude.{◌≡◌, [], ◌∷◌, None, Some, codes}
use Rattle.snl_load.specs.Names.{once, position_of}

-- A name is found where it stands first, and only where all of it stands there. A list in which each name stands once keeps their order.
abbrev pub NameExamples : Type 0
NameExamples =
    (position_of (codes "up" ∷ codes "down" ∷ codes "down" ∷ []) (codes "down") ≡ Some 1)
    × (position_of (codes "up" ∷ codes "down" ∷ []) (codes "do") ≡ None)
    × (position_of (codes "up" ∷ codes "down" ∷ []) (codes "downs") ≡ None)
    × (position_of [] (codes "up") ≡ None)
    × (once (codes "up" ∷ codes "down" ∷ codes "up" ∷ []) ≡ codes "up" ∷ codes "down" ∷ [])
