-- Examples: the rules that are told at small rows of sites, computed.
use Rattle.std.specs.Prelude.{◌≡◌, ℕ, zero, suc, Bool, true, false, List, [], ◌∷◌, map, Some, None, codes}
use Rattle.snl_text.specs.declared.tokens.Pos.{Pos}
use Rattle.snl_text.specs.declared.tokens.Token.{Token}
use Rattle.snl_text.specs.declared.kinds.Kind.TheVariants as kind
use Rattle.snl_names.specs.declared.sites.Extent.{Extent}
use Rattle.snl_names.specs.declared.sites.Extent.TheVariants.{Whole, Front, Element}
use Rattle.snl_names.specs.declared.sites.Meaning.{Meaning}
use Rattle.snl_names.specs.declared.sites.Meaning.TheVariants.{Variable, Flag, Number, Nothing}
use Rattle.snl_names.specs.declared.sites.Purpose.{Purpose}
use Rattle.snl_names.specs.declared.sites.Purpose.TheVariants.{Read, Changed, Channel, Queued, Flagged, Ignored}
use Rattle.snl_names.specs.declared.sites.Size.TheVariants.{Array}
use Rattle.snl_names.specs.declared.sites.Sort.{Sort}
use Rattle.snl_names.specs.declared.sites.Sort.TheVariants.{Assign, Monitor, Sync, Queue}
use Rattle.snl_names.specs.declared.sites.Site.{Site}
use Rattle.snl_names.specs.declared.sites.Site.TheVariants.{Declaration, Defined, Use, State, StateSet}
use Rattle.snl_rules.specs.declared.rules.Rule.{Rule}
use Rattle.snl_rules.specs.declared.rules.Rule.TheVariants as r
use Rattle.snl_rules.specs.Tests.{all_broken, all_facts, seen_facts, together}

-- a place by its offset
abbrev pub at : ℕ → Pos
at offset = record { offset = offset; file = 0; line = 1 }

-- a name at an offset
abbrev pub name : ℕ → Token
name offset = record { kind = kind.Name; text = record { ref_ptr = (0, 0); now = codes "x" }; pos = at offset }

-- an array of three elements that is declared at 4
abbrev pub array : Meaning
array = Variable (at 4) (Array 3)

-- a definition of all of it or of its first elements, and of one element
abbrev pub all_of : Sort → Extent → Site
all_of sort extent = Defined sort (name 20).pos (name 20) array false false (Some (record { variable = at 4; extent = extent }))

-- a definition of one element
abbrev pub one_of : Sort → ℕ → Site
one_of sort k = Defined sort (name 20).pos (name 20) array true false (Some (record { variable = at 4; extent = Element k }))

-- the same with a subscript that is no constant
abbrev pub wrong_one : Sort → Site
wrong_one sort = Defined sort (name 20).pos (name 20) array true true None

-- a name in an expression
abbrev pub named_for : Purpose → Meaning → Bool → Site
named_for p m sub = Use p (name 30) m sub

-- the rules that are broken, in the order of the sites
abbrev pub rules_in : List Site → List Rule
rules_in all = map (λ b. b.rule) (all_broken all)

-- ---- E19: of the same element, and not of the same variable; also of one element of a list
abbrev pub AssignExamples : Type 0
AssignExamples =
    (rules_in (one_of Assign 0 ∷ one_of Assign 1 ∷ []) ≡ [])
    × (rules_in (one_of Assign 1 ∷ one_of Assign 1 ∷ []) ≡ r.AssignedTwice ∷ [])
    × (rules_in (all_of Assign (Front 2) ∷ one_of Assign 1 ∷ one_of Assign 2 ∷ []) ≡ r.AssignedTwice ∷ [])
    × (rules_in (one_of Assign 2 ∷ all_of Assign (Front 2) ∷ []) ≡ [])
    × (rules_in (one_of Assign 2 ∷ all_of Assign (Whole 3) ∷ []) ≡ r.AssignedTwice ∷ [])
    × (rules_in (wrong_one Assign ∷ all_of Assign (Whole 3) ∷ []) ≡ r.WrongArray ∷ [])

-- ---- E20 whatever stands first; of the element, where one is named; E29 lets neither it nor W4 through
abbrev pub OrderExamples : Type 0
OrderExamples =
    (rules_in (all_of Monitor (Whole 3) ∷ all_of Assign (Whole 3) ∷ []) ≡ [])
    × (rules_in (all_of Monitor (Whole 3) ∷ []) ≡ r.Unassigned ∷ [])
    × (rules_in (one_of Monitor 2 ∷ all_of Assign (Front 2) ∷ []) ≡ r.Unassigned ∷ [])
    × (rules_in (one_of Monitor 1 ∷ all_of Assign (Front 2) ∷ []) ≡ [])
    × (rules_in (one_of Monitor 1 ∷ all_of Assign (Whole 3) ∷ []) ≡ r.WrongArray ∷ [])
    × (rules_in (all_of Sync (Whole 3) ∷ []) ≡ r.Unassigned ∷ r.NotMonitored ∷ [])
    × (rules_in (wrong_one Sync ∷ []) ≡ r.WrongArray ∷ [])

-- ---- E22 of a `sync` after a `syncQ`; W4 by element; `syncQ` of an array by elements is E29
abbrev pub SyncExamples : Type 0
SyncExamples =
    (rules_in (all_of Assign (Whole 3) ∷ all_of Monitor (Whole 3) ∷ all_of (Queue 100) (Whole 3) ∷ all_of Sync (Whole 3) ∷ []) ≡ r.SyncedTwice ∷ [])
    × (rules_in (all_of Assign (Front 3) ∷ one_of Monitor 0 ∷ one_of Sync 0 ∷ one_of Sync 1 ∷ []) ≡ r.NotMonitored ∷ [])
    × (rules_in (all_of Assign (Front 3) ∷ one_of Monitor 0 ∷ one_of Monitor 2 ∷ all_of Sync (Whole 3) ∷ []) ≡ r.NotMonitored ∷ [])
    × (rules_in (all_of Assign (Front 3) ∷ all_of (Queue 100) (Whole 3) ∷ []) ≡ r.WrongArray ∷ [])

-- ---- names in expressions: E13, E15, E21, E23, E29, and nothing in a wrong call; W5
abbrev pub UseExamples : Type 0
UseExamples =
    (rules_in (named_for Read Nothing false ∷ named_for Ignored Nothing false ∷ []) ≡ r.Undeclared ∷ [])
    × (rules_in (named_for Channel (Flag (at 9)) false ∷ named_for Changed Number true ∷ []) ≡ r.NoVariable ∷ r.NoVariable ∷ [])
    × (rules_in (named_for Flagged array false ∷ []) ≡ r.NoFlag ∷ [])
    × (rules_in (named_for Read array false ∷ named_for Read array true ∷ named_for Read Number true ∷ []) ≡ r.WrongArray ∷ r.WrongArray ∷ [])
    × (rules_in (all_of Assign (Whole 3) ∷ named_for Channel array true ∷ named_for Channel array false ∷ []) ≡ r.WrongArray ∷ [])
    × (rules_in (one_of Assign 0 ∷ named_for Channel array true ∷ named_for Channel array false ∷ []) ≡ r.WrongArray ∷ [])
    × (rules_in (all_of Assign (Whole 3) ∷ named_for Queued array false ∷ []) ≡ r.NoQueue ∷ [])
    × (rules_in (named_for Queued array false ∷ []) ≡ r.Unassigned ∷ r.NoQueue ∷ [])
    × (rules_in (Declaration (name 4) false false 3 ∷ Declaration (name 9) true false 0 ∷ named_for Ignored array false ∷ []) ≡ r.UnusedFlag ∷ [])

-- n times the same site
abbrev pub copies : ℕ → Site → List Site
copies zero s = []
copies (suc n) s = s ∷ copies n s

-- a state set
abbrev pub a_set : Site
a_set = StateSet (name 40) (name 43) false

-- a state with clauses
abbrev pub a_state : Site
a_state = State (name 50) (name 56) false true

-- what one more site breaks beside those before it
abbrev pub after : List Site → Site → List Rule
after before s = together (seen_facts before) (all_facts []) s

-- ---- limits: 64 state sets, 1,024 states, 1,024 channels, and one more; said once
abbrev pub LimitExamples : Type 0
LimitExamples =
    (after (copies 63 a_set) a_set ≡ [])
    × (after (copies 64 a_set) a_set ≡ r.TooManySets ∷ [])
    × (after (copies 65 a_set) a_set ≡ [])
    × (after (copies 1023 a_state) a_state ≡ [])
    × (after (copies 1024 a_state) a_state ≡ r.TooManyStates ∷ [])
    × (after (all_of Assign (Front 1021) ∷ []) (all_of Assign (Front 3)) ≡ r.AssignedTwice ∷ [])
    × (after (all_of Assign (Front 1022) ∷ []) (all_of Assign (Front 3)) ≡ r.AssignedTwice ∷ r.TooManyChannels ∷ [])
    × (after (all_of Assign (Front 1024) ∷ []) (wrong_one Assign) ≡ r.WrongArray ∷ [])
