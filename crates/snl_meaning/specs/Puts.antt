-- Laws of puts with `ASYNC` and without.
use Rattle.std.specs.Prelude.{◌≡◌, ℕ, ℤ, negsuc, Bool, true, false, List, [], Some, slice_index_or, if◌then◌else◌}
use Rattle.snl_meaning.specs.declared.instrs.Variable.{Variable}
use Rattle.snl_meaning.specs.declared.ties.Tied.{Tied}
use Rattle.snl_meaning.specs.Ran.{Ran, Gives, Faults}
use Rattle.snl_meaning.specs.Words.{put_by, put_element}
use Rattle.snl_meaning.specs.World.{World, is_waiting}

-- What came out, with other links that wait.
abbrev pub remarked : List Bool → Ran ℤ → Ran ℤ
remarked marks (Gives z w text) = Gives z (record w { waiting = marks }) text
remarked marks (Faults fault line w text) = Faults fault line (record w { waiting = marks }) text

-- A plain put neither asks which links wait nor changes that.
abbrev pub PlainPutsKnowNoMarks : Type 0
PlainPutsKnowNoMarks = (set : ℕ) (v : Variable) (k : ℤ) (marks : List Bool) (w : World) →
    put_element false set v k (record w { waiting = marks }) ≡ remarked marks (put_element false set v k w)

-- While its link waits, a put with `ASYNC` to a channel writes nothing and changes nothing. It answers -1 where the channel is up,
-- and -2 where it is down.
abbrev pub WaitingPutsNothing : Type 0
WaitingPutsNothing = (set place link channel : ℕ) (t : Tied) (w : World) → is_waiting link w ≡ true →
    put_by true set place link t (Some channel) w ≡ Gives (if slice_index_or w.ups channel false then negsuc 0 else negsuc 1) w []
