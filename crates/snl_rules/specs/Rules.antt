-- The rules: what it is for a site of a program to break one. Each stands beside its number.
use Rattle.std.specs.Prelude.{◌≡◌, ℕ, ◌+◌, ◌<◌, ◌≤◌, Bool, true, false, not, ◌&&◌, List, [], ◌∷◌, ◌++◌, Option, None, Some, is_some, is_none, IsTrue, ◌⊎◌}
use Rattle.std.specs.List.{Any, Contains, sum_by}
use Rattle.snl_text.specs.declared.tokens.Pos.{Pos}
use Rattle.snl_text.specs.declared.tokens.Token.{Token}
use Rattle.snl_names.specs.declared.sites.Extent.{Extent}
use Rattle.snl_names.specs.declared.sites.Extent.TheVariants.{Whole, Front, Element}
use Rattle.snl_names.specs.declared.sites.Meaning.{Meaning}
use Rattle.snl_names.specs.declared.sites.Meaning.TheVariants.{Variable, Flag, Number, Nothing}
use Rattle.snl_names.specs.declared.sites.Part.{Part}
use Rattle.snl_names.specs.declared.sites.Purpose.{Purpose}
use Rattle.snl_names.specs.declared.sites.Purpose.TheVariants.{Read, Changed, Channel, Queued, Flagged, Delayed, Dropped, Ignored}
use Rattle.snl_names.specs.declared.sites.Size.{Size}
use Rattle.snl_names.specs.declared.sites.Size.TheVariants.{Scalar, TooLong, Wrong}
use Rattle.snl_names.specs.declared.sites.Sort.{Sort}
use Rattle.snl_names.specs.declared.sites.Sort.TheVariants.{Assign, Monitor, Queue}
use Rattle.snl_names.specs.declared.sites.Site.{Site}
use Rattle.snl_names.specs.declared.sites.Site.TheVariants.{Declaration, Typed, Declarator, Defined, QueueSize, Setting, Use, Decimal, Call, Format, Change, LoopExit, StateChange, Target, Clause, State, StateSet, Function, Return}
use Rattle.snl_names.specs.Scopes.{is_array}
use Rattle.snl_rules.specs.declared.rules.Broken.{Broken}
use Rattle.snl_rules.specs.declared.rules.Rule.{Rule}
use Rattle.snl_rules.specs.declared.rules.Rule.TheVariants as r
use Rattle.snl_rules.specs.Elements.{is_assign, is_monitor, is_queue, is_sync, part_at, NamesElement, NamesVariable, SomeElement, AssignedWhole, AssignedByElements}

-- A rule, where a test holds.
abbrev pub when : Bool → Rule → List Rule
when true rule = rule ∷ []
when false rule = []

-- ---- the rules that a site breaks by itself

-- E13: the name is not declared.
abbrev pub is_undeclared : Purpose → Meaning → Bool
is_undeclared Ignored m = false
is_undeclared p Nothing = true
is_undeclared p m = false

-- E15: an event flag stands where a value is used, or an event flag or a predefined name where a variable has to stand.
abbrev pub is_no_variable : Purpose → Meaning → Bool
is_no_variable Ignored m = false
is_no_variable Flagged m = false
is_no_variable p (Flag d) = true
is_no_variable Changed Number = true
is_no_variable Channel Number = true
is_no_variable Queued Number = true
is_no_variable p m = false

-- E21: a variable or a predefined name stands where an event flag has to stand.
abbrev pub is_no_flag : Purpose → Meaning → Bool
is_no_flag Flagged (Variable d size) = true
is_no_flag Flagged Number = true
is_no_flag p m = false

-- An array of more than 1,024 elements.
abbrev pub is_too_long : Size → Bool
is_too_long TooLong = true
is_too_long size = false

-- Two or more dimensions, or a size that is no constant, faults or is below 1.
abbrev pub is_wrong_size : Size → Bool
is_wrong_size Wrong = true
is_wrong_size size = false

-- The rules that the fields of a site tell. The place of a definition has to be a variable, as that of an assignment.
abbrev pub alone : Site → List Rule
-- E14
alone (Declaration t is_flag later words) = when later r.DeclaredTwice
-- E11
alone (Typed word second supported) = when (not supported) r.WrongType
-- E04 (1,024 elements), E29 (of a size), E28
alone (Declarator t size good) = when (is_too_long size) r.TooManyElements ++ when (is_wrong_size size) r.WrongArray ++ when (not good) r.BadInitialiser
-- E13, E15
alone (Defined sort word t m sub wrong part) = when (is_undeclared Changed m) r.Undeclared ++ when (is_no_variable Changed m) r.NoVariable
-- E33
alone (QueueSize t good) = when (not good) r.QueueSize
-- E31
alone (Setting sign t refused) = when (is_some refused) r.UnknownOption
-- E13, E15, E21
alone (Use p t m sub) = when (is_undeclared p m) r.Undeclared ++ when (is_no_variable p m) r.NoVariable ++ when (is_no_flag p m) r.NoFlag
-- E12
alone (Decimal t good) = when (not good) r.WrongDecimal
-- E16, E17, E18, E34
alone (Call t known fitting may valued function) =
    when (not known) r.UnknownFunction ++ when (not fitting) r.WrongArguments ++ when (not may) r.DelayElsewhere ++ when (not valued) r.NoValue
-- E14 (of a function)
alone (Function t taken) = when taken r.DeclaredTwice
-- E35
alone (Return t may) = when (not may) r.ReturnElsewhere
-- E32
alone (Format t good) = when (not good) r.BadFormat
-- E30
alone (Change t good) = when (not good) r.NotAssignable
-- E27
alone (LoopExit t in_loop) = when (not in_loop) r.OutsideLoop
-- E26
alone (StateChange t in_clause) = when (not in_clause) r.StateElsewhere
-- E25; where the state statement itself may not stand, that is said alone
alone (Target t state may) = when (may && is_none state) r.NoState
-- W3
alone (Clause t blocked) = when blocked r.NeverReached
-- E24 (of a state), W7
alone (State word t later clauses) = when later r.StateTwice ++ when (not clauses) r.NoClauses
-- E24 (of a state set)
alone (StateSet word t later) = when later r.StateSetTwice

-- ---- limits: E04 of state sets, states, functions and channels

-- With the site the limit is passed, and with those before it alone it was not.
abbrev pub Passes : ℕ → (Site → ℕ) → List Site → Site → Type 0
Passes limit count before s = (sum_by count before ≤ limit) × (limit < sum_by count before + count s)

-- One where a state set begins.
abbrev pub sets_at : Site → ℕ
sets_at (StateSet word t later) = 1
sets_at s = 0

-- One where a state begins.
abbrev pub states_at : Site → ℕ
states_at (State word t later clauses) = 1
states_at s = 0

-- One where a function is defined.
abbrev pub functions_at : Site → ℕ
functions_at (Function t taken) = 1
functions_at s = 0

-- One channel for the whole of a variable, else one for each element that there is.
abbrev pub channels_in : Extent → ℕ
channels_in (Whole n) = 1
channels_in (Front n) = n
channels_in (Element k) = 1

-- The channels of what is assigned.
abbrev pub channels_by : Option Part → ℕ
channels_by None = 0
channels_by (Some p) = channels_in p.extent

-- The channels that a site makes.
abbrev pub channels_at : Site → ℕ
channels_at s = channels_by (part_at is_assign s)

-- ---- definitions

-- E29: what is wrong by itself: a subscript or a list that does not fit the variable. In a `monitor` or a `sync` also a
-- subscript where the first `assign` of the array is of the whole. In a `syncQ` also any subscript, and an array that is
-- assigned by elements.
abbrev pub WrongDefinition : List Site → Sort → Meaning → Bool → Bool → Type 0
WrongDefinition all Assign (Variable d size) sub wrong = IsTrue wrong
WrongDefinition all (Queue n) (Variable d size) sub wrong = IsTrue wrong ⊎ IsTrue sub ⊎ (IsTrue (is_array size) × AssignedByElements all d.offset)
WrongDefinition all sort (Variable d size) sub wrong = IsTrue wrong ⊎ (IsTrue sub × AssignedWhole all d.offset)
WrongDefinition all sort m sub wrong = ⊥

-- E19: an element that this `assign` and an `assign` before it name. E22: the same of `sync` and `syncQ`.
abbrev pub NamedTwice : (Sort → Bool) → List Site → Option Part → Type 0
NamedTwice sorts before part = SomeElement part (λ variable k. Any (NamesElement sorts variable k) before)

-- E20: no `assign`, before or after, names the element; or none names the variable or an element of it, where the
-- definition names the whole.
abbrev pub UnassignedExtent : List Site → ℕ → Extent → Type 0
UnassignedExtent all variable (Element k) = Any (NamesElement is_assign variable k) all → ⊥
UnassignedExtent all variable extent = Any (NamesVariable is_assign variable) all → ⊥

-- The same of what a definition names.
abbrev pub Unassigned : List Site → Option Part → Type 0
Unassigned all None = ⊥
Unassigned all (Some p) = UnassignedExtent all p.variable.offset p.extent

-- W4: an element that no `monitor` names.
abbrev pub NotMonitored : List Site → Option Part → Type 0
NotMonitored all part = SomeElement part (λ variable k. Any (NamesElement is_monitor variable k) all → ⊥)

-- The rule, if it is this one and is broken.
abbrev pub Told : Type 0 → Rule → Rule → Type 0
Told IsSo this rule = (rule ≡ this) × IsSo

-- What a definition breaks where its name has no E29.
abbrev pub ByElements : Sort → List Site → List Site → Option Part → Rule → Type 0
-- E19
ByElements Assign before all part rule = Told (NamedTwice is_assign before part) r.AssignedTwice rule
-- E20
ByElements Monitor before all part rule = Told (Unassigned all part) r.Unassigned rule
-- E20, E22, W4
ByElements sort before all part rule =
    Told (Unassigned all part) r.Unassigned rule ⊎ Told (NamedTwice is_sync before part) r.SyncedTwice rule
    ⊎ Told (NotMonitored all part) r.NotMonitored rule

-- ---- names in expressions

-- E29 where the channel or the queue of a variable is used: a subscript of a scalar; one of an array whose first
-- `assign` is of the whole; none where the first `assign` is of elements.
abbrev pub WrongChannel : List Site → ℕ → Size → Bool → Type 0
WrongChannel all variable Scalar sub = IsTrue sub
WrongChannel all variable size true = AssignedWhole all variable
WrongChannel all variable size false = AssignedByElements all variable

-- E29 in an expression: there or, elsewhere, an array without a subscript, a scalar with one, and a predefined name with
-- one where a value is used.
abbrev pub WrongUse : List Site → Purpose → Meaning → Bool → Type 0
WrongUse all Ignored m sub = ⊥
WrongUse all Flagged m sub = ⊥
WrongUse all Channel (Variable d size) sub = WrongChannel all d.offset size sub
WrongUse all Queued (Variable d size) sub = WrongChannel all d.offset size sub
WrongUse all p (Variable d size) sub = sub ≡ not (is_array size)
WrongUse all Read Number sub = IsTrue sub
WrongUse all Delayed Number sub = IsTrue sub
WrongUse all Dropped Number sub = IsTrue sub
WrongUse all p m sub = ⊥

-- E20 in an expression: the channel or the queue is used of a variable that no `assign` names.
abbrev pub UnassignedUse : List Site → Purpose → Meaning → Type 0
UnassignedUse all Channel (Variable d size) = Any (NamesVariable is_assign d.offset) all → ⊥
UnassignedUse all Queued (Variable d size) = Any (NamesVariable is_assign d.offset) all → ⊥
UnassignedUse all p m = ⊥

-- E23: the queue is used of a variable that no `syncQ` names.
abbrev pub WithoutQueue : List Site → Purpose → Meaning → Type 0
WithoutQueue all Queued (Variable d size) = Any (NamesVariable is_queue d.offset) all → ⊥
WithoutQueue all p m = ⊥

-- ---- declarations

-- The meaning is the declaration at this offset.
abbrev pub IsMeant : ℕ → Meaning → Type 0
IsMeant offset (Variable d size) = d.offset ≡ offset
IsMeant offset (Flag d) = d.offset ≡ offset
IsMeant offset m = ⊥

-- There is a place, and it is at this offset.
abbrev pub IsPlace : ℕ → Option Pos → Type 0
IsPlace offset None = ⊥
IsPlace offset (Some p) = p.offset ≡ offset

-- The site has a name that means the declaration or the function at this offset, whatever else is wrong there.
abbrev pub UsesDeclared : ℕ → Site → Type 0
UsesDeclared offset (Use p t m sub) = IsMeant offset m
UsesDeclared offset (Defined sort word t m sub wrong part) = IsMeant offset m
UsesDeclared offset (Call t known fitting may valued function) = IsPlace offset function
UsesDeclared offset s = ⊥

-- W5, W6, W8: no name means the declaration or the function.
abbrev pub Unused : List Site → Token → Type 0
Unused all t = Any (UsesDeclared t.pos.offset) all → ⊥

-- W6 of an event flag, W5 of a variable.
abbrev pub unused : Bool → Rule
unused true = r.UnusedFlag
unused false = r.UnusedVariable

-- ---- all rules

-- The rules that a site breaks beside the sites before it and all sites.
abbrev pub Together : List Site → List Site → Site → Rule → Type 0
-- W5, W6
Together before all (Declaration t is_flag later words) rule = Told (Unused all t) (unused is_flag) rule
-- E29, and without it E19, E20, E22, W4; E04 (1,024 channels)
Together before all (Defined sort word t m sub wrong part) rule =
    Told (WrongDefinition all sort m sub wrong) r.WrongArray rule
    ⊎ ((WrongDefinition all sort m sub wrong → ⊥) × ByElements sort before all part rule)
    ⊎ Told (Passes 1024 channels_at before (Defined sort word t m sub wrong part)) r.TooManyChannels rule
-- E29, E20, E23
Together before all (Use p t m sub) rule =
    Told (WrongUse all p m sub) r.WrongArray rule ⊎ Told (UnassignedUse all p m) r.Unassigned rule
    ⊎ Told (WithoutQueue all p m) r.NoQueue rule
-- E04 (1,024 states)
Together before all (State word t later clauses) rule = Told (Passes 1024 states_at before (State word t later clauses)) r.TooManyStates rule
-- E04 (64 state sets)
Together before all (StateSet word t later) rule = Told (Passes 64 sets_at before (StateSet word t later)) r.TooManySets rule
-- W8, E04 (256 functions)
Together before all (Function t taken) rule = Told (Unused all t) r.UnusedFunction rule ⊎ Told (Passes 256 functions_at before (Function t taken)) r.TooManyFunctions rule
Together before all s rule = ⊥

-- A site breaks a rule, beside the sites before it and all sites.
abbrev pub Breaks : List Site → List Site → Site → Rule → Type 0
Breaks before all s rule = Contains (alone s) rule ⊎ Together before all s rule

-- A rule is broken at a site of a program.
pub record IsBroken (all : List Site) (b : Broken) : Type 0 where
  pub before : List Site
  pub after : List Site
  pub stands : all ≡ before ++ b.site ∷ after
  pub breaks : Breaks before all b.site b.rule
