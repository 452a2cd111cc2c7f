-- Where a trace of logs begins.
use Rattle.std.specs.Prelude.{◌-◌, ℕ, Option, None, Some, max, min}

-- Nothing before the first sample, and at most the lead before the first one that is not the first of its channel. Where there is no
-- such one, the latest first sample: each channel has its only value at the begin.
abbrev pub begin_of : ℕ → Option ℕ → ℕ → ℕ → ℕ
begin_of first None latest lead = latest
begin_of first (Some second) latest lead = max first (second - lead)

-- The earlier one of two times, of which there may be none.
abbrev pub earlier : Option ℕ → Option ℕ → Option ℕ
earlier None right = right
earlier (Some left) None = Some left
earlier (Some left) (Some right) = Some (min left right)
