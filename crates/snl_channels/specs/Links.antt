-- The links of a program: what its definitions say of the elements of variables, and the links that follow from that.
use Rattle.std.specs.Prelude.{ℕ, suc, Bool, false, ◌&&◌, ◌==◌, List, [], ◌∷◌, ◌++◌, map, true, Option, None, Some, option_map, if◌then◌else◌}
use Rattle.std.specs.List.{flat_map, list_any}
use Rattle.std.specs.Option.{option_or}
use Rattle.snl_text.specs.declared.tokens.Pos.{Pos}
use Rattle.snl_text.specs.declared.tokens.Token.{Token}
use Rattle.snl_syntax.specs.Definitions.{PlaceTree, one_name, name_list, ChannelsTree, FlagTree, DefinitionTree, assign, monitor, sync, sync_queue}
use Rattle.snl_syntax.specs.Programs.{StateTree, StateSetTree, ProgramTree}
use Rattle.snl_names.specs.Formats.{unquoted}
use Rattle.snl_names.specs.declared.sites.Extent.{Extent}
use Rattle.snl_names.specs.declared.sites.Extent.TheVariants.{Whole, Front, Element}
use Rattle.snl_names.specs.declared.sites.Meaning.{Meaning}
use Rattle.snl_names.specs.declared.sites.Meaning.TheVariants.{Flag}
use Rattle.snl_names.specs.declared.sites.Part.{Part}
use Rattle.snl_names.specs.Parts.{part_of}
use Rattle.snl_names.specs.Programs.{queue_size, program_scopes}
use Rattle.snl_names.specs.Scopes.{Scope, scope_of, meaning, is_hidden}
use Rattle.snl_channels.specs.declared.ties.Named.{Named}
use Rattle.snl_channels.specs.declared.ties.Tie.{Tie}
use Rattle.snl_channels.specs.Macros.{macros_of, macro_value, replaced}

-- ---- what definitions say

-- What a definition says of the elements of a variable: that they have channels; that they are monitored; that they are
-- synced, with an event flag or none, and with a queue of so many items or none (0).
pub data Said : Type 0 where
  assigned : Token → Part → Option ChannelsTree → Said
  monitored : Part → Said
  synced : Part → Option Named → ℕ → Said

-- The variable of a place, or the element that its subscript names; nothing where there is none.
abbrev pub place_part : List Scope → PlaceTree → Option Part
place_part s p = part_of (is_hidden s) (meaning s p.name) p.subscript None

-- An event flag, where the name means one.
abbrev pub flag_by : Token → Meaning → Option Named
flag_by t (Flag d) = Some (record { name = t.text; place = d })
flag_by t m = None

abbrev pub flag_at : List Scope → FlagTree → Option Named
flag_at s f = flag_by f.name (meaning s f.name)

abbrev pub flag_if_there : List Scope → Option FlagTree → Option Named
flag_if_there s None = None
flag_if_there s (Some f) = flag_at s f

abbrev pub of_part : (Part → Said) → Option Part → List Said
of_part say None = []
of_part say (Some p) = say p ∷ []

-- A definition, with the scopes round it, innermost first. A `syncQ` without a size has 100 items.
abbrev pub said_by : List Scope → DefinitionTree → List Said
said_by s (assign a) = of_part (λ p. assigned a.place.name p a.channels) (place_part s a.place)
said_by s (monitor p) = of_part monitored (place_part s p)
said_by s (sync y) = of_part (λ p. synced p (flag_at s y.flag) 0) (place_part s y.place)
said_by s (sync_queue q) = of_part (λ p. synced p (flag_if_there s q.flag) (queue_size q.size)) (place_part s q.place)
said_by s d = []

-- Definitions, whose own scope stands round them too.
abbrev pub said_in : List Scope → List DefinitionTree → List Said
said_in outer defs = flat_map (said_by (scope_of outer defs ∷ outer)) defs

abbrev pub said_in_state : List Scope → StateTree → List Said
said_in_state outer s = said_in outer s.definitions

abbrev pub said_in_set : List Scope → StateSetTree → List Said
said_in_set outer g = said_in outer g.definitions ++ flat_map (said_in_state (scope_of outer g.definitions ∷ outer)) g.states

-- All of a program, in the order of the source.
abbrev pub said_in_program : ProgramTree → List Said
said_in_program p = said_in [] p.definitions ++ flat_map (said_in_set (program_scopes p)) p.state_sets

-- ---- what is said of an element

-- A part of one element has that one, a whole variable all of its elements.
abbrev pub has : Extent → ℕ → Bool
has (Element j) k = j == k
has e k = true

-- The part has element k of the variable that is declared at an offset.
abbrev pub speaks_of : Part → ℕ → ℕ → Bool
speaks_of p variable k = p.variable.offset == variable && has p.extent k

abbrev pub monitors : ℕ → ℕ → Said → Bool
monitors variable k (monitored p) = speaks_of p variable k
monitors variable k said = false

abbrev pub is_monitored : ℕ → ℕ → List Said → Bool
is_monitored variable k all = list_any (monitors variable k) all

-- An event flag or none, and the items of a queue or 0.
pub record Synced : Type 0 where
  pub flag : Option Named
  pub queue : ℕ

abbrev pub not_synced : Synced
not_synced = record { flag = None; queue = 0 }

abbrev pub sync_by : ℕ → ℕ → Said → Option Synced
sync_by variable k (synced p flag queue) = if speaks_of p variable k then Some (record { flag = flag; queue = queue }) else None
sync_by variable k said = None

-- The first of all that sync the element.
abbrev pub first_sync : ℕ → ℕ → List Said → Option Synced
first_sync variable k [] = None
first_sync variable k (s ∷ more) = option_or (sync_by variable k s) (first_sync variable k more)

-- ---- links, with the names of channels as spelled

-- A text without its quotes; nothing where there is no text.
abbrev pub spelled : Option Token → List ℕ
spelled None = []
spelled (Some t) = unquoted t.text.now

abbrev pub first_in : Extent → ℕ
first_in (Element k) = k
first_in e = 0

abbrev pub count_in : Extent → ℕ
count_in (Whole n) = n
count_in (Front n) = n
count_in (Element k) = 1

abbrev pub synced_as : Option Synced → Synced
synced_as None = not_synced
synced_as (Some y) = y

-- A link of so many elements from k on, with what is said of element k.
abbrev pub tie : List Said → Token → Part → ℕ → ℕ → Option Token → Tie
tie all t p k count channel = record {
  variable = record { name = t.text; place = p.variable };
  first = k;
  count = count;
  channel = channel;
  monitored = is_monitored p.variable.offset k all;
  flag = (synced_as (first_sync p.variable.offset k all)).flag;
  queue = (synced_as (first_sync p.variable.offset k all)).queue;
}

-- A link of one element for each of some names, from element k on.
abbrev pub ties_from : List Said → Token → Part → ℕ → List Token → List Tie
ties_from all t p k [] = []
ties_from all t p k (c ∷ more) = tie all t p k 1 (Some c) ∷ ties_from all t p (suc k) more

-- One channel, or none, is of all that the place names.
abbrev pub tie_of_part : List Said → Token → Part → Option Token → List Tie
tie_of_part all t p channel = tie all t p (first_in p.extent) (count_in p.extent) channel ∷ []

abbrev pub ties_by_channels : List Said → Token → Part → Option ChannelsTree → List Tie
ties_by_channels all t p None = tie_of_part all t p None
ties_by_channels all t p (Some c) = elim c.names [ one_name x ↦ tie_of_part all t p (Some x) | name_list xs ↦ ties_from all t p 0 xs ]

abbrev pub ties_by : List Said → Said → List Tie
ties_by all (assigned t p channels) = ties_by_channels all t p channels
ties_by all said = []

-- In the order of the `assign` definitions.
abbrev pub ties_among : List Said → List Tie
ties_among all = flat_map (ties_by all) all

abbrev pub ties : ProgramTree → List Tie
ties p = ties_among (said_in_program p)

-- ---- links

-- Which elements of which variable, by the place of its declaration, from which on and how many; the channel's name after
-- macros; and what is said of them. A link without a name has no channel.
pub record Link : Type 0 where
  pub variable : Pos
  pub first : ℕ
  pub count : ℕ
  pub name : List ℕ
  pub monitored : Bool
  pub flag : Option Pos
  pub queue : ℕ

abbrev pub link_by : (List ℕ → List ℕ) → Tie → Link
link_by value t = record {
  variable = t.variable.place;
  first = t.first;
  count = t.count;
  name = replaced value None (spelled t.channel);
  monitored = t.monitored;
  flag = option_map (λ f. f.place) t.flag;
  queue = t.queue;
}

-- The links of a program, with the macros of its text and of a run's.
abbrev pub links : ProgramTree → List ℕ → List Link
links p of_run = map (link_by (macro_value (macros_of (spelled p.macros) of_run))) (ties p)
