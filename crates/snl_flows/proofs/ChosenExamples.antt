-- A small program whose second state reads a variable of a free channel: where its runs stray, and what tables have to say.
use Rattle.std.proofs.Common.{◌≡◌, ◌∙◌, refl, sym, Bool, true, false, []}
use Rattle.std.specs.Prelude.{◌==◌, ◌||◌}
use Rattle.std.proofs.lemmas.Bool.{false≢true}
use Rattle.snl_flows.specs.Chosen.{with_more}
use Rattle.snl_flows.specs.ChosenExamples.{ChosenExamples, heard, reads_later}
use Rattle.snl_flows.specs.Flows.{Covers}
use Rattle.snl_flows.specs.Outside.{has, places_for}

-- nothing is asked of its word where it is free
nothing-asked : Covers (places_for (with_more reads_later heard.words) 0) 0 1 []
nothing-asked k here shows = by (3 == k) here shows
  where
    by : (b : Bool) → (b || (b || false)) ≡ true → (b || false) ≡ false → has [] k ≡ true
    by true h read = absurd (false≢true (sym read))
    by false h read = h

-- all of them
pub examples_of_choice : ChosenExamples
examples_of_choice = record {
  strays = record { word = 3; is_free = refl; other = refl; read = refl };
  stays = λ s. false≢true (sym s.read ∙ s.is_free);
  chosen = λ set state s. false≢true (sym s.other ∙ s.is_free);
  bound = λ set state s. false≢true s.is_free;
  unasked = nothing-asked;
  asked = λ covers. false≢true (covers 3 refl refl);
}
