-- Small numbers whose point is moved.
use Rattle.std.specs.Prelude.{◌≡◌, ℕ, pos, negsuc, true, false, None, Some, codes}
use Rattle.snl_logs.specs.Places.{rounded, signed}

-- Digits cut at a point: from a half on the number goes up, and zeros stand where there are no digits. A sign comes last, so halves go
-- away from 0.
abbrev pub PlaceExamples : Type 0
PlaceExamples =
    (rounded (codes "12345") 3 ≡ 123)
    × (rounded (codes "12350") 3 ≡ 124)
    × (rounded (codes "12349") 3 ≡ 123)
    × (rounded (codes "05") 1 ≡ 1)
    × (rounded (codes "049") 1 ≡ 0)
    × (rounded (codes "9999") 3 ≡ 1000)
    × (rounded (codes "25") 4 ≡ 2500)
    × (rounded (codes "") 3 ≡ 0)
    × (signed true (rounded (codes "05") 1) ≡ Some (negsuc 0))
    × (signed false (rounded (codes "9223372036854775807") 19) ≡ Some (pos 9223372036854775807))
    × (signed false (rounded (codes "92233720368547758075") 19) ≡ None)
    × (signed true (rounded (codes "92233720368547758075") 19) ≡ Some (negsuc 9223372036854775807))
    × (signed true (rounded (codes "9223372036854775809") 19) ≡ None)
