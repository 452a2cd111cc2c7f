-- Which state sets have the variable of a link.
use Rattle.std.specs.Prelude.{◌≡◌, ◌+◌, ℕ, List, [], ◌∷◌, map, is_some, slice_index_or, Option, None, if◌then◌else◌}
use Rattle.snl_vm.specs.declared.homes.Homes.{Homes}
use Rattle.snl_vm.specs.declared.rows.Rows.{Rows}
use Rattle.snl_vm.specs.Rows.{row_in, rows_of}

-- What stands for the homes of some state sets.
abbrev pub homes_views : List Homes → List (List (Option ℕ))
homes_views sets = map (λ homes. homes.places.items) sets

-- The number of a state set, if it has the variable of a link.
abbrev pub taken_by : ℕ → List (Option ℕ) → ℕ → List ℕ
taken_by set homes link = if is_some (slice_index_or homes link None) then set ∷ [] else []

-- The numbers of the state sets that have the variable of a link, from a number on.
abbrev pub takers_of : ℕ → ℕ → List (List (Option ℕ)) → List ℕ
takers_of link set [] = []
takers_of link set (homes ∷ more) = if is_some (slice_index_or homes link None) then set ∷ takers_of link (set + 1) more else takers_of link (set + 1) more

-- The row of each link has the numbers of the state sets that have its variable.
abbrev pub HasTakers : Rows → List Homes → Type 0
HasTakers rows sets = (link : ℕ) → row_in (rows_of rows) link ≡ takers_of link 0 (homes_views sets)
