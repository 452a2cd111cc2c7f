-- A small program: one state set with a variable at word 3, whose channel is free. Its first state does not read the variable, its second one does.
use Rattle.std.specs.Prelude.{ℕ, List, [], ◌∷◌}
use Rattle.snl_flows.specs.Chosen.{Share, Strays, no_share, with_more}
use Rattle.snl_flows.specs.Flows.{Covers}
use Rattle.snl_flows.specs.Outside.{Places, places_for}

-- What is hidden in its states.
abbrev pub reads_later : List Places
reads_later = record { always = []; states = (3 ∷ []) ∷ [] ∷ [] } ∷ []

-- The words of its channel.
abbrev pub heard : Share
heard = record { words = (3 ∷ []) ∷ []; buffers = 0 ∷ [] }

-- A run strays in the second state where the channel is not chosen, and not in the first one; it strays in none where it is, and where no
-- channel is free. A table has to say nothing of the variable where a transition leads from the first state to the second one, and would have
-- to if its channel were not free.
pub record ChosenExamples : Type 0 where
  pub strays : Strays reads_later heard no_share 0 1
  pub stays : Strays reads_later heard no_share 0 0 → ⊥
  pub chosen : (set state : ℕ) → Strays reads_later heard heard set state → ⊥
  pub bound : (set state : ℕ) → Strays reads_later no_share no_share set state → ⊥
  pub unasked : Covers (places_for (with_more reads_later heard.words) 0) 0 1 []
  pub asked : Covers (places_for reads_later 0) 0 1 [] → ⊥
