-- Small decimal numbers in units of a trace.
use Rattle.std.specs.Prelude.{◌≡◌, ◌≢◌, ℕ, pos, negsuc, true, false, None, Some, codes}
use Rattle.snl_units.specs.Exact.{is_exactly, number_behind, signed}

-- 2.5 in tenths is 25, and 90 in sixtieths 1.5, which is no whole number; 1e-6 in parts of 10^9 is 1000. A sign comes last.
abbrev pub ExactExamples : Type 0
ExactExamples =
    (number_behind (number_behind 0 (codes "2")) (codes "5") ≡ 25)
    × is_exactly 25 0 1 10 1 25
    × is_exactly 1 0 6 1000000000 1 1000
    × is_exactly 120 0 0 1 60 2
    × is_exactly 25 2 1 1 1 250
    × (signed true 25 ≡ Some (negsuc 24))
    × (signed false 9223372036854775807 ≡ Some (pos 9223372036854775807))
    × (signed false 9223372036854775808 ≡ None)
    × (signed true 9223372036854775808 ≡ Some (negsuc 9223372036854775807))
