-- Where the variables of the first copy are declared: by that the code finds one, and not by a walk.
use Rattle.std.specs.Prelude.{ℕ, List, [], ◌∷◌, map}
use Rattle.snl_names.specs.Variables.{CopyVariable}

-- The variables of the first copy.
abbrev pub first_of : List (List CopyVariable) → List CopyVariable
first_of [] = []
first_of (vs ∷ more) = vs

-- Where variables are declared, in bytes.
abbrev pub offsets_of : List CopyVariable → List ℕ
offsets_of vs = map (λ v. v.name.pos.offset) vs
