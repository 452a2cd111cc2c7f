-- Where the values of links stand: their channels, their buffers, and the words of their variables.
use Rattle.std.specs.Prelude.{ℕ, ◌+◌, ℤ, pos, List, [], ◌∷◌, map, Option, None, Some, option_map}
use Rattle.std.specs.List.{flat_map}
use Rattle.snl_syntax.specs.Programs.{ProgramTree}
use Rattle.snl_names.specs.Programs.{sites}
use Rattle.snl_channels.specs.Links.{Link}
use Rattle.snl_meaning.specs.declared.instrs.Variable.{Variable}
use Rattle.snl_meaning.specs.declared.names.Placed.{Placed}
pub use Rattle.snl_flat.specs.Heres.{for_each_set, placed_in, placed_sets}
use Rattle.snl_meaning.specs.Names.{place_after, variable_in, number_at, flags_of}
use Rattle.snl_meaning.specs.declared.ties.Tied.{Tied}
use Rattle.snl_load.specs.Names.{position_of, once}

-- ---- channels

-- The name of a channel; an empty name is that of no channel.
abbrev pub named : List ℕ → List (List ℕ)
named [] = []
named (b ∷ bs) = (b ∷ bs) ∷ []

-- The channels of some links, each once, in the order in which they are first named.
abbrev pub channels : List Link → List (List ℕ)
channels ls = once (flat_map (λ l. named l.name) ls)

-- ---- homes

-- Where the elements of a link begin in a copy that holds these variables, if it has the link's. A variable that is declared in
-- a state set, or in a state of it, stands in the copy of that alone.
abbrev pub home_in : List Placed → Link → Option ℕ
home_in places l = option_map (λ v. place_after v.place l.first) (variable_in places l.variable.offset)

-- The same of all links in all copies.
abbrev pub homes_in : List (List Placed) → List Link → List (List (Option ℕ))
homes_in copies ls = map (λ places. map (home_in places) ls) copies

-- ---- links

-- The variable that is declared at an offset, by the first copy that has it.
abbrev pub variable_among : List (List Placed) → ℕ → Option Variable
variable_among [] offset = None
variable_among (places ∷ more) offset = elim (variable_in places offset) [ Some v ↦ Some v | None ↦ variable_among more offset ]

-- The range of a variable's type; that of 0 alone where there is no variable.
abbrev pub range_of : Option Variable → ℤ × ℤ
range_of None = (pos 0, pos 0)
range_of (Some v) = (v.least, v.greatest)

-- A link whose buffer begins at a place, among these channels, event flags and copies.
abbrev pub tie_of : List (List ℕ) → List ℕ → List (List Placed) → ℕ → Link → Tied
tie_of names flags copies at l = let range = range_of (variable_among copies l.variable.offset) in record {
  channel = position_of names l.name;
  is_monitored = l.monitored;
  flag = option_map (λ f. number_at flags f.offset) l.flag;
  from = at;
  count = l.count;
  least = range.0;
  greatest = range.1;
}

-- Links whose buffers begin from a place on.
abbrev pub ties_from : List (List ℕ) → List ℕ → List (List Placed) → ℕ → List Link → List Tied
ties_from names flags copies at [] = []
ties_from names flags copies at (l ∷ ls) = tie_of names flags copies at l ∷ ties_from names flags copies (place_after at l.count) ls

-- The event flags of a program, by their declarations.
abbrev pub flags_in : ProgramTree → List ℕ
flags_in p = flags_of (sites p)

-- Those of a program.
abbrev pub ties_in : ProgramTree → List Link → List Tied
ties_in p ls = ties_from (channels ls) (flags_in p) (placed_sets p 0 p.state_sets) 0 ls
