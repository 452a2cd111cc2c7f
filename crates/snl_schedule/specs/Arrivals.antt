-- Values and connections that come from channels.
use Rattle.std.specs.Prelude.{ℕ, ◌+◌, ℤ, int_le, Bool, true, false, not, ◌&&◌, ◌||◌, ◌==◌, List, [], ◌∷◌, None, Some, take, slice_set, if◌then◌else◌}
use Rattle.std.specs.List.{list_all}
use Rattle.snl_meaning.specs.declared.ties.Tied.{Tied}
use Rattle.snl_meaning.specs.Links.{with_buffer, noticed}
use Rattle.snl_meaning.specs.World.{World, with_waiting}
use Rattle.snl_schedule.specs.Instant.{Program}

-- Whether a link is tied to a channel.
abbrev pub is_of : ℕ → Tied → Bool
is_of channel l = elim l.channel [ None ↦ false | Some c ↦ c == channel ]

-- Values of a channel come, at a link of this number, to its buffer: missing ones leave what was there, surplus ones are dropped.
abbrev pub received_link : ℕ → List ℤ → ℕ → Tied → World → World
received_link channel values number l w = if is_of channel l then noticed number l (with_buffer l (take l.count values) w) else w

-- What is done at a link, by its number.
abbrev pub AtLink : Type 0
AtLink = ℕ → Tied → World → World

-- That is done at each of some links, with numbers from one on.
abbrev pub at_links : AtLink → ℕ → List Tied → World → World
at_links act number [] w = w
at_links act number (l ∷ ls) w = at_links act (number + 1) ls (act number l w)

-- Values come at the links from a number on.
abbrev pub received_from : ℕ → List ℤ → ℕ → List Tied → World → World
received_from channel values = at_links (received_link channel values)

-- The puts of a channel were answered: a link of it does not wait any more.
abbrev pub answered_link : ℕ → AtLink
answered_link channel number l w = if is_of channel l then with_waiting number false w else w

-- The same at all links of a program.
abbrev pub answered : Program → ℕ → World → World
answered p channel w = at_links (answered_link channel) 0 p.links w

-- A channel of a program has values.
abbrev pub received : Program → ℕ → List ℤ → World → World
received p channel values w = received_from channel values 0 p.links (record w { valued = slice_set w.valued channel true })

-- A channel is connected, or is not any more. Nothing else changes: values that came stay, and a program that has started
-- goes on.
abbrev pub connected : ℕ → Bool → World → World
connected channel now w = record w { ups = slice_set w.ups channel now }

-- ---- values that fit

-- Whether the type of a link's variable has a number.
abbrev pub is_in : Tied → ℤ → Bool
is_in l z = int_le l.least z && int_le z l.greatest

-- Whether it has each value that the link keeps.
abbrev pub is_link_fit : List ℤ → Tied → Bool
is_link_fit values l = list_all (is_in l) (take l.count values)

-- The same of all links of a channel.
abbrev pub are_fit : ℕ → List ℤ → List Tied → Bool
are_fit channel values ls = list_all (λ l. not (is_of channel l) || is_link_fit values l) ls
