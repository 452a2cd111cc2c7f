-- The links of channels, in rows; and what is done at the link of a number.
use Rattle.std.specs.Prelude.{◌≡◌, ℕ, ℤ, Bool, true, List, [], ◌∷◌, None, Some, map, slice_get}
use Rattle.snl_vm.specs.declared.rows.Rows.{Rows}
use Rattle.snl_vm.specs.Rows.{row_in, rows_of, numbers_of}
use Rattle.snl_meaning.specs.World.{World}
use Rattle.snl_meaning.specs.declared.ties.Tied.{Tied}
use Rattle.snl_schedule.specs.Arrivals.{AtLink, is_link_fit}
use Rattle.snl_schedule.specs.Instant.{Program}

-- The row of each channel has the numbers of its links.
abbrev pub HasRows : Rows → List Tied → Type 0
HasRows rows ls = (channel : ℕ) → row_in (rows_of rows) channel ≡ numbers_of channel 0 (map (λ l. l.channel) ls)

-- What is done at the link of a number, if there is one.
abbrev pub done_at : Program → AtLink → ℕ → World → World
done_at p act number w = elim (slice_get p.links number) [ None ↦ w | Some l ↦ act number l w ]

-- The same at the links of some numbers, one after another.
abbrev pub done_over : Program → AtLink → List ℕ → World → World
done_over p act [] w = w
done_over p act (n ∷ ns) w = done_over p act ns (done_at p act n w)

-- Whether the link of a number can take some values, if there is one.
abbrev pub is_fit_at : List Tied → List ℤ → ℕ → Bool
is_fit_at ls values number = elim (slice_get ls number) [ None ↦ true | Some l ↦ is_link_fit values l ]
