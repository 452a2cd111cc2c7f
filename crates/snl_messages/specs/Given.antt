-- Which messages are given of those that are found: for each place and number one.
use Rattle.std.specs.Prelude.{◌≡◌}
use Rattle.std.specs.Cmp.Lexicographic.{slice_cmp}
use Rattle.std.specs.Ordering.{nat_cmp, ordering_then}
use Rattle.std.specs.declared.cmp.Ordering.{Ordering}
use Rattle.std.specs.declared.cmp.Ordering.TheVariants.{Less}
use Rattle.snl_messages.specs.Messages.{Said}
use Rattle.snl_messages.specs.Findings.{Finding}

-- Two messages have one place, letter and number.
abbrev pub IsAlike : Said → Said → Type 0
IsAlike m n = (m.pos.offset ≡ n.pos.offset) × (m.severity ≡ n.severity) × (m.number ≡ n.number)

-- Which of two such findings comes first: of two limits the one of the lower rank. What is compared after the rank only
-- tells apart what no source has at one place.
abbrev pub choice_cmp : Finding → Finding → Ordering
choice_cmp f g = ordering_then (nat_cmp f.rank g.rank) (ordering_then (nat_cmp f.said.pos.file g.said.pos.file)
    (ordering_then (nat_cmp f.said.pos.line g.said.pos.line) (slice_cmp nat_cmp f.said.text g.said.text)))

-- No other finding with the place and number of this one comes before it.
abbrev pub IsFirst : (Finding → Type 0) → Finding → Type 0
IsFirst Is f = (g : Finding) → Is g → IsAlike g.said f.said → choice_cmp g f ≡ Less → ⊥

-- A message is given: it is the first that is found for its place and number.
abbrev pub IsGiven : (Finding → Type 0) → Said → Type 0
IsGiven Is m = (f : Finding) × Is f × IsFirst Is f × (f.said ≡ m)
