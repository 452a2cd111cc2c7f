-- Lists of names, of which each stands for the number of its place.
use Rattle.std.specs.Prelude.{ℕ, Bool, List, [], ◌∷◌, ◌++◌, Option, not, filter, position, if◌then◌else◌}
use Rattle.std.specs.List.{fold, list_any}
use Rattle.std.specs.Str.{bytes_eq}

-- The first place of a name in a list of names, if it stands there.
abbrev pub position_of : List (List ℕ) → List ℕ → Option ℕ
position_of names name = position (bytes_eq name) names

-- Whether a name stands in a list of names.
abbrev pub is_in : List (List ℕ) → List ℕ → Bool
is_in names name = list_any (bytes_eq name) names

-- The names of a list that are not the given one.
abbrev pub without : List ℕ → List (List ℕ) → List (List ℕ)
without name names = filter (λ other. not (bytes_eq name other)) names

-- Each name of a list once, in the order in which they first come.
abbrev pub once : List (List ℕ) → List (List ℕ)
once [] = []
once (name ∷ names) = name ∷ without name (once names)

-- The names of such a list once it took another one.
abbrev pub noted : List (List ℕ) → List ℕ → List (List ℕ)
noted names name = if is_in names name then names else names ++ name ∷ []

-- The same of several, one after another.
abbrev pub noted_all : List (List ℕ) → List (List ℕ) → List (List ℕ)
noted_all names others = fold noted names others
