-- Laws of answers to puts.
use Rattle.std.specs.Prelude.{◌≡◌, ℕ, not, ◌&&◌, Some, slice_get}
use Rattle.snl_meaning.specs.declared.ties.Tied.{Tied}
use Rattle.snl_meaning.specs.World.{World, is_waiting}
use Rattle.snl_schedule.specs.Arrivals.{is_of, answered}
use Rattle.snl_schedule.specs.Instant.{Program}

-- An answer changes which links wait, and no more: no flag, no buffer, no queue, no connection.
abbrev pub AnswersChangeNoMore : Type 0
AnswersChangeNoMore = (p : Program) (channel : ℕ) (w : World) → answered p channel w ≡ record w { waiting = (answered p channel w).waiting }

-- After it no link of the channel waits, and each other one as before.
abbrev pub AnswersReachTheChannel : Type 0
AnswersReachTheChannel = (p : Program) (channel i : ℕ) (t : Tied) (w : World) → slice_get p.links i ≡ Some t →
    is_waiting i (answered p channel w) ≡ (not (is_of channel t) && is_waiting i w)
