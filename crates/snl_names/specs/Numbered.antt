-- The numbers of states in their state set, and of state sets in the program.
use Rattle.std.specs.Prelude.{ℕ, suc, Bool, false, not, ◌==◌, List, [], ◌∷◌, Option, None, Some, if◌then◌else◌}
use Rattle.snl_text.specs.declared.tokens.Token.{Token}
use Rattle.snl_names.specs.Scopes.{is_spelled}

-- The number of the first of some names that is spelled so, counted from a number on.
abbrev pub number_from : ℕ → List Token → List ℕ → Option ℕ
number_from k [] name = None
number_from k (t ∷ rest) name = if is_spelled name t then Some k else number_from (suc k) rest name

-- The same, counted from 0 on.
abbrev pub number_of : List Token → List ℕ → Option ℕ
number_of names name = number_from 0 names name

-- There is a number, and it is this one.
abbrev pub is_number : ℕ → Option ℕ → Bool
is_number n None = false
is_number n (Some k) = k == n

-- The name of this number stands before it too.
abbrev pub is_later : List Token → ℕ → Token → Bool
is_later names k t = not (is_number k (number_of names t.text.now))
