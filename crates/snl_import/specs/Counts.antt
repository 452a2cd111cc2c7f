-- How many values were left out.
use Rattle.std.specs.Prelude.{◌+◌, ℕ}
use Rattle.snl_import.specs.declared.counts.LeftOut.{LeftOut}

-- All that were left out, by any cause.
abbrev pub left_total : LeftOut → ℕ
left_total left = left.not_finite + (left.too_large + (left.no_number + (left.empty + (left.unfit + (left.early + (left.foreign + left.misfit))))))
