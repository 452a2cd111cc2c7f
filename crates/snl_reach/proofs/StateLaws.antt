-- The names of states, in a list of declared states.
use Rattle.std.proofs.Common.{◌≡◌, ℕ, ◌+◌, ◌<◌, suc, zero, List, [], ◌∷◌, length, get_or, take, map, Option, refl, sym, ap, ◌∙◌, arith}
use Rattle.snl_syntax.specs.declared.programs.State.{State}
use Rattle.snl_syntax.specs.view.Programs.{state_view}
use Rattle.snl_names.specs.Numbered.{number_of}
use Rattle.snl_names.specs.NumberTables.{only_number}
use Rattle.snl_names.specs.Scopes.{or_in}
use Rattle.snl_names.proofs.NumberLaws.{number_step}
use Rattle.snl_reach.specs.Reach.{state_names}

-- the name of the state at a number
name_at : (states : List State) (i : ℕ) (s : State) → i < length states → s ≡ get_or states i s → get_or (state_names (map state_view states)) i s.name ≡ s.name
name_at [] i s h e = absurd (omega arith)
name_at (x ∷ states) zero s h e = ap (λ y. y.name) (sym e)
name_at (x ∷ states) (suc i) s h e = name_at states i s (omega arith) e

-- there are as many names as states
pub count_names : (states : List State) → length (state_names (map state_view states)) ≡ length states
count_names [] = refl
count_names (s ∷ states) = ap suc (count_names states)

-- one more state's name is in the table
pub state_step : (states : List State) (i : ℕ) (s : State) → i < length states → s ≡ get_or states i s → (before after : List ℕ → Option ℕ)
    → ((q : List ℕ) → before q ≡ number_of (take i (state_names (map state_view states))) q)
    → ((q : List ℕ) → after q ≡ or_in (before q) (only_number q s.name i))
    → (q : List ℕ) → after q ≡ number_of (take (i + 1) (state_names (map state_view states))) q
state_step states i s h e before after inv step =
    let names = state_names (map state_view states) in
    let count = count_names states in
    number_step names i s.name (omega arith) before after inv
    (λ q. step q ∙ ap (λ t. or_in (before q) (only_number q t i)) (sym (name_at states i s h e)))
