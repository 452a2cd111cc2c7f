-- What an answer to the puts of a channel changes.
use Rattle.std.proofs.Common.{◌≡◌, ◌∙◌, ◌+◌, ◌<◌, refl, sym, ap, arith, ℕ, zero, suc, Bool, true, false, not, ◌&&◌, List, [], ◌∷◌, Some, slice_get, if◌then◌else◌}
use Rattle.std.specs.Prelude.{slice_set, slice_index_or}
use Rattle.snl_meaning.specs.declared.ties.Tied.{Tied}
use Rattle.snl_meaning.specs.World.{World, is_waiting, with_waiting}
use Rattle.snl_schedule.specs.Arrivals.{is_of, at_links, answered_link}
use Rattle.snl_schedule.specs.Answers.{AnswersChangeNoMore, AnswersReachTheChannel}

-- what is cleared is not set, also where it is not there
cleared : (l : List Bool) (i : ℕ) → slice_index_or (slice_set l i false) i false ≡ false
cleared [] zero = refl
cleared [] (suc i) = refl
cleared (b ∷ l) zero = refl
cleared (b ∷ l) (suc i) = cleared l i

-- and all else is as it was
others : (l : List Bool) (i k : ℕ) (b : Bool) → (k ≡ i → ⊥) → slice_index_or (slice_set l i b) k false ≡ slice_index_or l k false
others [] i k b apart = refl
others (x ∷ l) zero zero b apart = absurd (apart refl)
others (x ∷ l) zero (suc k) b apart = refl
others (x ∷ l) (suc i) zero b apart = refl
others (x ∷ l) (suc i) (suc k) b apart = others l i k b (λ e. apart (ap suc e))

module _ (channel : ℕ) where
  -- one link changes no more
  no-more-one : (k : ℕ) (l : Tied) (w : World) → answered_link channel k l w ≡ record w { waiting = (answered_link channel k l w).waiting }
  no-more-one k l w = by (is_of channel l)
    where
      by : (b : Bool) → (if b then with_waiting k false w else w) ≡ record w { waiting = (if b then with_waiting k false w else w).waiting }
      by true = refl
      by false = refl

  -- nor do all of them
  no-more : (k : ℕ) (ls : List Tied) (w : World) → at_links (answered_link channel) k ls w ≡ record w { waiting = (at_links (answered_link channel) k ls w).waiting }
  no-more k [] w = refl
  no-more k (l ∷ ls) w =
      let u = answered_link channel k l w in
      let end = at_links (answered_link channel) (k + 1) ls u in
      no-more (k + 1) ls u ∙ ap (λ (v : World). record v { waiting = end.waiting }) (no-more-one k l w)

  -- at another link
  elsewhere : (k i : ℕ) (l : Tied) (w : World) → (i ≡ k → ⊥) → is_waiting i (answered_link channel k l w) ≡ is_waiting i w
  elsewhere k i l w apart = by (is_of channel l)
    where
      by : (b : Bool) → is_waiting i (if b then with_waiting k false w else w) ≡ is_waiting i w
      by true = others w.waiting k i false apart
      by false = refl

  -- a link before all of them
  before : (k : ℕ) (ls : List Tied) (i : ℕ) (w : World) → i < k → is_waiting i (at_links (answered_link channel) k ls w) ≡ is_waiting i w
  before k [] i w less = refl
  before k (l ∷ ls) i w less =
      before (k + 1) ls i (answered_link channel k l w) (omega (arith, less)) ∙ elsewhere k i l w (λ (e : i ≡ k). omega (arith, less, e))

  -- the link itself
  itself : (k : ℕ) (t : Tied) (w : World) → is_waiting k (answered_link channel k t w) ≡ (not (is_of channel t) && is_waiting k w)
  itself k t w = by (is_of channel t)
    where
      by : (b : Bool) → is_waiting k (if b then with_waiting k false w else w) ≡ (not b && is_waiting k w)
      by true = cleared w.waiting k
      by false = refl

  -- one of them
  reach : (k : ℕ) (ls : List Tied) (n i : ℕ) (t : Tied) (w : World) → k + n ≡ i → slice_get ls n ≡ Some t →
      is_waiting i (at_links (answered_link channel) k ls w) ≡ (not (is_of channel t) && is_waiting i w)
  reach k [] n i t w is at = absurd (cc)
  reach k (l ∷ ls) zero i t w is at =
      let same : i ≡ k = omega (arith, is) in
      let one : l ≡ t = cc in
      before (k + 1) ls i (answered_link channel k l w) (omega (arith, is))
      ∙ ap (λ (j : ℕ). is_waiting j (answered_link channel k l w)) same
      ∙ itself k l w
      ∙ ap (λ (x : Tied). not (is_of channel x) && is_waiting k w) one
      ∙ ap (λ (j : ℕ). not (is_of channel t) && is_waiting j w) (sym same)
  reach k (l ∷ ls) (suc n) i t w is at =
      reach (k + 1) ls n i t (answered_link channel k l w) (omega (arith, is)) at
      ∙ ap (λ (b : Bool). not (is_of channel t) && b) (elsewhere k i l w (λ (e : i ≡ k). omega (arith, is, e)))

-- no more
pub answers_change_no_more : AnswersChangeNoMore
answers_change_no_more p channel w = no-more channel 0 p.links w

-- the links of the channel
pub answers_reach_the_channel : AnswersReachTheChannel
answers_reach_the_channel p channel i t w at = reach channel 0 p.links i i t w (omega arith) at
