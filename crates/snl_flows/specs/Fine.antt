-- What a table says of code is right: what decides anything is the same in both runs.
use Rattle.std.specs.Prelude.{◌≡◌, ◌⊎◌, ◌+◌, ◌-◌, ◌≤◌, ◌<◌, ℕ, ℤ, zero, suc, Bool, true, false, List, [], ◌∷◌, Option, None, Some, slice_get, slice_index_or}
use Rattle.snl_arithmetic.specs.Arithmetic.{is_zero}
use Rattle.snl_text.specs.declared.kinds.Kind.{Kind}
use Rattle.snl_text.specs.declared.kinds.Kind.TheVariants as kind
use Rattle.snl_meaning.specs.declared.instrs.Instr.{Instr}
use Rattle.snl_meaning.specs.declared.instrs.Instr.TheVariants.{Push, Load, Check, Get, Peek, Store, StoreAt, Adjust, Increment, AdjustAt, Apply, ApplyNumber, ApplyPrefix, Settle, Drop, Jump, JumpIfZero, Tick, Print, Wait, Put, PutAt, Ask, AskLink, AskElement, Clear, Assign, Call, Fit, Return, Leave, End}
use Rattle.snl_meaning.specs.declared.instrs.Variable.{Variable}
use Rattle.snl_meaning.specs.declared.ties.Tied.{Tied}
use Rattle.snl_meaning.specs.Links.{link_from}
use Rattle.snl_meaning.specs.Names.{format_text}
use Rattle.snl_meaning.specs.Run.{Entry}
use Rattle.snl_meaning.specs.Words.{element_place}
use Rattle.snl_names.specs.declared.builtins.Query.{Query}
use Rattle.snl_names.specs.declared.builtins.Query.TheVariants.{PvGet}
use Rattle.snl_flows.specs.Outside.{has, places_of}
use Rattle.snl_flows.specs.Tables.{Operand, Another, Same, Within, IsSameIn, CanBe, top_of, below, under, AreFirstSame, AreAllSame, IsNoMore, AreNoMore, Flow, Ground, MayDiffer, IsReached, IsSameAt, facts_at, is_loose, said_at}
use Rattle.snl_flows.specs.Texts.{IsNamed}

-- ---- words that are written

-- A word is that of an element of a variable.
abbrev pub IsElement : Variable → (element : ℕ) → Bool → ℕ → Type 0
IsElement v element is_shared k = (is_shared ≡ v.is_shared) × (k ≡ v.place + element)

-- It is that of any of its elements.
abbrev pub IsAnyElement : Variable → Bool → ℕ → Type 0
IsAnyElement v is_shared k = (is_shared ≡ v.is_shared) × (v.place ≤ k) × (k < v.place + v.size)

-- It is that of one of the first parameters, of which so many get values.
abbrev pub IsBound : List Variable → (values : ℕ) → Bool → ℕ → Type 0
IsBound [] values is_shared k = ⊥
IsBound (p ∷ ps) zero is_shared k = ⊥
IsBound (p ∷ ps) (suc values) is_shared k = IsElement p 0 is_shared k ⊎ IsBound ps values is_shared k

-- ---- operators

-- All that a binary operator can do wrong is an overflow of one of some lines.
abbrev pub MayOverflow : List ℕ → Kind → ℕ → Type 0
MayOverflow lines kind.Plus line = has lines line ≡ true
MayOverflow lines kind.Minus line = has lines line ≡ true
MayOverflow lines kind.Star line = has lines line ≡ true
MayOverflow lines kind.Comma line = Unit {0}
MayOverflow lines kind.Bar line = Unit {0}
MayOverflow lines kind.Caret line = Unit {0}
MayOverflow lines kind.Ampersand line = Unit {0}
MayOverflow lines kind.EqualEqual line = Unit {0}
MayOverflow lines kind.BangEqual line = Unit {0}
MayOverflow lines kind.Less line = Unit {0}
MayOverflow lines kind.LessEqual line = Unit {0}
MayOverflow lines kind.Greater line = Unit {0}
MayOverflow lines kind.GreaterEqual line = Unit {0}
MayOverflow lines _ line = ⊥

-- The same of one whose right operand is known so: it divides by what is the same in both runs, so that both come to a division by 0, or none.
abbrev pub MayOverflowOver : List ℕ → Kind → Operand → ℕ → Type 0
MayOverflowOver lines kind.Slash o line = IsSameIn o × (has lines line ≡ true)
MayOverflowOver lines kind.Percent o line = IsSameIn o × (has lines line ≡ true)
MayOverflowOver lines op o line = MayOverflow lines op line

-- The same of one with a number on its right side: it divides by no 0.
abbrev pub MayOverflowBy : List ℕ → Kind → ℤ → ℕ → Type 0
MayOverflowBy lines kind.Slash z line = (is_zero z ≡ false) × (has lines line ≡ true)
MayOverflowBy lines kind.Percent z line = (is_zero z ≡ false) × (has lines line ≡ true)
MayOverflowBy lines op z line = MayOverflow lines op line

-- The same of a prefix operator.
abbrev pub PrefixMayOverflow : List ℕ → Kind → ℕ → Type 0
PrefixMayOverflow lines kind.Minus line = has lines line ≡ true
PrefixMayOverflow lines kind.Bang line = Unit {0}
PrefixMayOverflow lines kind.Tilde line = Unit {0}
PrefixMayOverflow lines kind.Plus line = Unit {0}
PrefixMayOverflow lines _ line = ⊥

-- What 1 is made of for a number other than 0.
abbrev pub settled_of : Operand → Operand
settled_of Another = Another
settled_of _ = Same

module _ (g : Ground) (set : ℕ) (f : Flow) where
  -- ---- where a step leads

  -- The operands at an address.
  abbrev pub operands_at : ℕ → List Operand
  operands_at at = (facts_at f at).operands

  -- No more is said of where a step leads than holds behind it, with these operands.
  abbrev pub LeadsTo : (at to : ℕ) → List Operand → Type 0
  LeadsTo at to holds = AreNoMore (operands_at to) holds × IsReached f to × ((b : Bool) (k : ℕ) → has (said_at f to b) k ≡ true → has (said_at f at b) k ≡ true)

  -- The same where the step writes the same to some words.
  abbrev pub LeadsAfter : (at to : ℕ) → List Operand → (Bool → ℕ → Type 0) → Type 0
  LeadsAfter at to holds Writes =
      AreNoMore (operands_at to) holds × IsReached f to × ((b : Bool) (k : ℕ) → has (said_at f to b) k ≡ true → (has (said_at f at b) k ≡ true) ⊎ Writes b k)

  -- ---- variables

  -- The first element of a variable is the same in both runs.
  abbrev pub IsFirstSame : (at : ℕ) → Variable → Type 0
  IsFirstSame at v = IsSameAt g set f at v.is_shared (v.place + 0)

  -- So is each element that a subscript can name, which is the same, too.
  abbrev pub AreRead : (at : ℕ) → Variable → Operand → Type 0
  AreRead at v o = IsSameIn o × ((k : ℕ) → CanBe o k → IsSameAt g set f at v.is_shared (v.place + k))

  -- An element may get what is not the same, by a step that is charged to a line.
  abbrev pub MayGetOther : Variable → (element line : ℕ) → Type 0
  MayGetOther v element line = MayDiffer (places_of g.hidden set) f v.is_shared (v.place + element) × (has g.lines line ≡ true)

  -- So may each element that a subscript can name, which is the same.
  abbrev pub MayGetOthers : Variable → Operand → (line : ℕ) → Type 0
  MayGetOthers v o line = IsSameIn o × ((k : ℕ) → CanBe o k → MayDiffer (places_of g.hidden set) f v.is_shared (v.place + k)) × (has g.lines line ≡ true)

  -- An element may get what is not the same by an operator that is charged to a line of its own.
  abbrev pub MayBecomeOther : Variable → Kind → (op_line line : ℕ) → Type 0
  MayBecomeOther v op op_line line = MayGetOther v 0 line × MayOverflow g.lines op op_line

  -- So may each element that a subscript can name.
  abbrev pub MayBecomeOthers : Variable → Operand → Kind → (op_line line : ℕ) → Type 0
  MayBecomeOthers v o op op_line line = MayGetOthers v o line × MayOverflow g.lines op op_line

  -- ---- puts

  -- The elements of a link from a place on are the same, or its channel is one whose puts may have other values. Where it has no channel, so
  -- is all of the copy from there on, since they stay.
  abbrev pub IsPutBy : (at place count : ℕ) → Option ℕ → Type 0
  IsPutBy at place count None = (k : ℕ) → IsSameAt g set f at false (place + k)
  IsPutBy at place count (Some channel) = ((k : ℕ) → k < count → IsSameAt g set f at false (place + k)) ⊎ IsNamed g.names (slice_index_or g.channels channel [])

  -- So it is of the link that begins at a place, if there is one.
  abbrev pub IsPut : (at place : ℕ) → Type 0
  IsPut at place = (link : ℕ) (t : Tied) → link_from 0 (slice_index_or g.homes set []) place ≡ Some link → slice_get g.ties link ≡ Some t → IsPutBy at place t.count t.channel

  -- ---- what is got

  -- The elements of a link from a place on may get what is not the same where its buffer may differ, if that is what is asked for.
  abbrev pub IsGot : Query → (place : ℕ) → Type 0
  IsGot PvGet place = (link e : ℕ) (t : Tied) → link_from 0 (slice_index_or g.homes set []) place ≡ Some link → slice_get g.ties link ≡ Some t → e < t.count →
      has g.stale (t.from + e) ≡ true → MayDiffer (places_of g.hidden set) f false (place + e)
  IsGot _ place = Unit {0}

  -- ---- prints

  -- So many topmost operands are the same, or a string is one of a `printf` that may have other values.
  abbrev pub IsPrinted : (at format n : ℕ) → Type 0
  IsPrinted at format n = AreFirstSame n (operands_at at) ⊎ IsNamed g.names (format_text g.formats format)

  -- ---- calls

  -- A function begins with its parameters alone, and with operands that are the same.
  abbrev pub Begins : Option Entry → (values : ℕ) → Type 0
  Begins None values = Unit {0}
  Begins (Some e) values = AreNoMore (operands_at e.start) [] × IsReached f e.start × ((b : Bool) (k : ℕ) → has (said_at f e.start b) k ≡ true → IsBound e.parameters values b k)

  -- Of so many values on top, the last one topmost, each parameter gets what is the same, or may get another one, by a call that is charged to a
  -- line.
  abbrev pub AreTaken : List Variable → (values : ℕ) → List Operand → (line : ℕ) → Type 0
  AreTaken [] values os line = Unit {0}
  AreTaken (p ∷ ps) zero os line = Unit {0}
  AreTaken (p ∷ ps) (suc values) os line = (IsSameIn (top_of (under values os)) ⊎ MayGetOther p 0 line) × AreTaken ps values os line

  -- So it is of a function, if there is one.
  abbrev pub Takes : Option Entry → (values : ℕ) → List Operand → (line : ℕ) → Type 0
  Takes None values os line = Unit {0}
  Takes (Some e) values os line = AreTaken e.parameters values os line

  -- ---- ends

  -- Some words of the own copy are the same since they were written, whatever else is hidden.
  abbrev pub AreKept : (at : ℕ) → List ℕ → Type 0
  AreKept at places = (k : ℕ) → has places k ≡ true → (has (said_at f at false) k ≡ true) × (is_loose f false k ≡ false)

  -- ---- instructions

  -- What a table says of an instruction at an address is right, if it is of the address.
  abbrev pub IsFineAt : (at : ℕ) → Instr → Type 0
  IsFineAt at (Push z) = LeadsTo at (at + 1) (Same ∷ operands_at at)
  IsFineAt at (Load v) = (IsFirstSame at v × LeadsTo at (at + 1) (Same ∷ operands_at at)) ⊎ LeadsTo at (at + 1) (Another ∷ operands_at at)
  IsFineAt at (Check v line) = IsSameIn (top_of (operands_at at)) × LeadsTo at (at + 1) (Within v.size ∷ below (operands_at at))
  IsFineAt at (Get v) =
      (AreRead at v (top_of (operands_at at)) × LeadsTo at (at + 1) (Same ∷ below (operands_at at))) ⊎ LeadsTo at (at + 1) (Another ∷ below (operands_at at))
  IsFineAt at (Peek v) = (AreRead at v (top_of (operands_at at)) × LeadsTo at (at + 1) (Same ∷ operands_at at)) ⊎ LeadsTo at (at + 1) (Another ∷ operands_at at)
  IsFineAt at (Store v line) =
      (IsSameIn (top_of (operands_at at)) × LeadsAfter at (at + 1) (operands_at at) (IsElement v 0)) ⊎ (MayGetOther v 0 line × LeadsTo at (at + 1) (operands_at at))
  IsFineAt at (StoreAt v line) =
      ((IsSameIn (top_of (operands_at at)) × IsSameIn (top_of (below (operands_at at)))) ⊎ MayGetOthers v (top_of (below (operands_at at))) line)
      × LeadsTo at (at + 1) (top_of (operands_at at) ∷ below (below (operands_at at)))
  IsFineAt at (Adjust v op op_line line is_before) =
      (IsFirstSame at v × LeadsTo at (at + 1) (Same ∷ operands_at at)) ⊎ (MayBecomeOther v op op_line line × LeadsTo at (at + 1) (Another ∷ operands_at at))
  IsFineAt at (Increment v op op_line line) = (IsFirstSame at v ⊎ MayBecomeOther v op op_line line) × LeadsTo at (at + 1) (operands_at at)
  IsFineAt at (AdjustAt v op op_line line is_before) =
      (AreRead at v (top_of (operands_at at)) × LeadsTo at (at + 1) (Same ∷ below (operands_at at)))
      ⊎ (MayBecomeOthers v (top_of (operands_at at)) op op_line line × LeadsTo at (at + 1) (Another ∷ below (operands_at at)))
  IsFineAt at (Apply op line) =
      (IsSameIn (top_of (operands_at at)) × IsSameIn (top_of (below (operands_at at))) × LeadsTo at (at + 1) (Same ∷ below (below (operands_at at))))
      ⊎ (MayOverflowOver g.lines op (top_of (operands_at at)) line × LeadsTo at (at + 1) (Another ∷ below (below (operands_at at))))
  IsFineAt at (ApplyNumber op z line) =
      (IsSameIn (top_of (operands_at at)) × LeadsTo at (at + 1) (Same ∷ below (operands_at at)))
      ⊎ (MayOverflowBy g.lines op z line × LeadsTo at (at + 1) (Another ∷ below (operands_at at)))
  IsFineAt at (ApplyPrefix op line) =
      (IsSameIn (top_of (operands_at at)) × LeadsTo at (at + 1) (Same ∷ below (operands_at at)))
      ⊎ (PrefixMayOverflow g.lines op line × LeadsTo at (at + 1) (Another ∷ below (operands_at at)))
  IsFineAt at Settle = LeadsTo at (at + 1) (settled_of (top_of (operands_at at)) ∷ below (operands_at at))
  IsFineAt at Drop = LeadsTo at (at + 1) (below (operands_at at))
  IsFineAt at (Jump n) = LeadsTo at (at + 1 + n) (operands_at at)
  IsFineAt at (JumpIfZero n) =
      IsSameIn (top_of (operands_at at)) × LeadsTo at (at + 1) (below (operands_at at)) × LeadsTo at (at + 1 + n) (below (operands_at at))
  IsFineAt at (Tick line back) = LeadsTo at (at - back) (operands_at at)
  IsFineAt at (Print format n) = IsPrinted at format n × LeadsTo at (at + 1) (Same ∷ under n (operands_at at))
  IsFineAt at (Wait in_seconds) = IsSameIn (top_of (operands_at at)) × LeadsTo at (at + 1) (Same ∷ below (operands_at at))
  IsFineAt at (Put v is_async) = IsPut at v.place × LeadsTo at (at + 1) (Same ∷ operands_at at)
  IsFineAt at (PutAt v is_async) =
      IsSameIn (top_of (operands_at at)) × ((k : ℕ) → CanBe (top_of (operands_at at)) k → IsPut at (element_place v k))
      × LeadsTo at (at + 1) (Same ∷ below (operands_at at))
  IsFineAt at (Ask query number) = LeadsTo at (at + 1) (Same ∷ operands_at at)
  IsFineAt at (AskLink query v) = IsGot query v.place × LeadsTo at (at + 1) (Same ∷ operands_at at)
  IsFineAt at (AskElement query v) =
      IsSameIn (top_of (operands_at at)) × ((k : ℕ) → CanBe (top_of (operands_at at)) k → IsGot query (element_place v k))
      × LeadsTo at (at + 1) (Same ∷ below (operands_at at))
  IsFineAt at (Clear v) = LeadsAfter at (at + 1) (operands_at at) (IsAnyElement v)
  IsFineAt at (Assign v element line) =
      (IsSameIn (top_of (operands_at at)) × LeadsAfter at (at + 1) (below (operands_at at)) (IsElement v element))
      ⊎ (MayGetOther v element line × LeadsTo at (at + 1) (below (operands_at at)))
  IsFineAt at (Call function n line) =
      Takes (slice_get g.functions function) n (operands_at at) line × AreAllSame (under n (operands_at at)) × Begins (slice_get g.functions function) n
      × LeadsTo at (at + 1) (f.given ∷ [])
  IsFineAt at (Fit least greatest line) = (IsSameIn (top_of (operands_at at)) ⊎ (has g.lines line ≡ true)) × LeadsTo at (at + 1) (operands_at at)
  IsFineAt at Return = IsNoMore f.given (top_of (operands_at at)) × AreAllSame (below (operands_at at))
  IsFineAt at (Leave state) = AreKept at f.leaves
  IsFineAt at End = AreAllSame (operands_at at) × AreKept at f.ends
