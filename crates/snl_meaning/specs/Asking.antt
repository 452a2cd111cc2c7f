-- What calls ask and tell of event flags, of links, and of how many links there are.
use Rattle.std.specs.Prelude.{ℕ, ℤ, pos, negsuc, ◌&&◌, Bool, true, false, not, List, [], ◌∷◌, Option, None, Some, is_some, count_by, slice_index_or, if◌then◌else◌}
use Rattle.snl_arithmetic.specs.Arithmetic.{truth}
use Rattle.snl_names.specs.declared.builtins.Query.{Query}
use Rattle.snl_names.specs.declared.builtins.Query.TheVariants.{EfClear, EfSet, EfTest, EfTestAndClear, PvChannelCount, PvConnectCount, PvConnected, PvFlushQ, PvGet, PvGetQ, PvPutComplete}
use Rattle.snl_meaning.specs.declared.instrs.Variable.{Variable}
use Rattle.snl_meaning.specs.declared.ties.Tied.{Tied}
use Rattle.snl_meaning.specs.Links.{with_elements, buffer_of, queue_of, with_items, unflagged}
use Rattle.snl_meaning.specs.Ran.{Ran, Gives}
use Rattle.snl_meaning.specs.Words.{at_link, natural, element_place}
use Rattle.snl_meaning.specs.World.{World, is_set, is_waiting, with_flag}

-- ---- channels

-- Whether a channel is connected.
abbrev pub is_up : ℕ → World → Bool
is_up channel w = slice_index_or w.ups channel false

-- Whether a link is tied to a channel.
abbrev pub is_named : Tied → Bool
is_named t = is_some t.channel

-- Whether it is tied to a channel that is connected.
abbrev pub is_named_up : World → Tied → Bool
is_named_up w t = elim t.channel [ None ↦ false | Some channel ↦ is_up channel w ]

-- Whether the channel of a link is connected; a link without one always is.
abbrev pub is_connected : Option ℕ → World → Bool
is_connected None w = true
is_connected (Some channel) w = is_up channel w

-- Whether it is, and was ever valued.
abbrev pub is_readable : Option ℕ → World → Bool
is_readable None w = true
is_readable (Some channel) w = is_up channel w && slice_index_or w.valued channel false

-- ---- event flags and counts

-- What a call asks or tells of an event flag, by its number. `efSet` sets it, and is worth 0. The others are worth 1 where it
-- is set and 0 where it is not; `efClear` and `efTestAndClear` clear it then. The counts have no flag: one is that of the
-- links that are tied to a channel, the other that of those whose channel is connected.
abbrev pub asked : Query → ℕ → World → Ran ℤ
asked EfSet flag w = Gives (pos 0) (with_flag flag true w) []
asked EfTest flag w = Gives (truth (is_set flag w)) w []
asked EfClear flag w = Gives (truth (is_set flag w)) (with_flag flag false w) []
asked EfTestAndClear flag w = Gives (truth (is_set flag w)) (with_flag flag false w) []
asked PvChannelCount flag w = Gives (pos (count_by is_named w.ties)) w []
asked PvConnectCount flag w = Gives (pos (count_by (is_named_up w) w.ties)) w []
asked _ flag w = Gives (pos 0) w []

-- ---- links

-- `pvGet`: the buffer is copied into the elements, and it answers 0. Where the link cannot be read it answers -2. A mark stays.
abbrev pub fetched : ℕ → ℕ → Tied → World → Ran ℤ
fetched set place t w =
    if is_readable t.channel w then Gives (pos 0) (with_elements set place (buffer_of t w) w) [] else Gives (negsuc 1) w []

-- The event flag of a link is cleared where its queue holds nothing any more.
abbrev pub drained : Option ℕ → List (List ℤ) → World → World
drained flag [] w = unflagged flag w
drained flag (item ∷ more) w = w

-- `pvGetQ` takes the oldest item out of the queue into the elements, and answers 1; where there is none it answers 0. Where
-- nothing is left then, the event flag is cleared.
abbrev pub taken_of : ℕ → ℕ → ℕ → Tied → List (List ℤ) → World → Ran ℤ
taken_of set place link t [] w = Gives (pos 0) (unflagged t.flag w) []
taken_of set place link t (item ∷ more) w = Gives (pos 1) (drained t.flag more (with_items link more (with_elements set place item w))) []

-- What a call asks or tells of a link whose elements begin at a word. `pvConnected` answers 1 where it is connected, and else
-- 0; `pvPutComplete` answers 0 where it waits for the answer to a put, and else 1; `pvFlushQ` empties its queue and answers 0.
abbrev pub asked_of : Query → (set place link : ℕ) → Tied → World → Ran ℤ
asked_of PvGet set place link t w = fetched set place t w
asked_of PvGetQ set place link t w = taken_of set place link t (queue_of link w).items w
asked_of PvFlushQ set place link t w = Gives (pos 0) (unflagged t.flag (with_items link [] w)) []
asked_of PvConnected set place link t w = Gives (truth (is_connected t.channel w)) w []
asked_of PvPutComplete set place link t w = Gives (truth (not (is_waiting link w))) w []
asked_of _ set place link t w = Gives (pos 0) w []

-- The answer where no link begins.
abbrev pub unlinked : Query → ℤ
unlinked PvGet = negsuc 0
unlinked _ = pos 0

-- What a call asks or tells by the link that begins at a word of a copy.
abbrev pub ask_word : Query → (set place : ℕ) → World → Ran ℤ
ask_word query set place w = at_link (unlinked query) (asked_of query set place) set place w

-- The same by the link that begins at an element, by a subscript that was checked.
abbrev pub ask_element : Query → ℕ → Variable → ℤ → World → Ran ℤ
ask_element query set v k w = ask_word query set (element_place v (natural k)) w
