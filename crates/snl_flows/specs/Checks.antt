-- The check of tables, instruction by instruction: what it answers.
use Rattle.std.specs.Prelude.{◌+◌, ◌-◌, ◌==◌, ◌&&◌, ◌||◌, ℕ, ℤ, zero, suc, Bool, true, false, not, List, [], ◌∷◌, Option, None, Some, nat_le, nat_lt, slice_get, slice_index_or, if◌then◌else◌}
use Rattle.snl_arithmetic.specs.Arithmetic.{is_zero}
use Rattle.snl_text.specs.declared.kinds.Kind.{Kind}
use Rattle.snl_text.specs.declared.kinds.Kind.TheVariants as kind
use Rattle.snl_meaning.specs.declared.instrs.Instr.{Instr}
use Rattle.snl_meaning.specs.declared.instrs.Instr.TheVariants.{Push, Load, Check, Get, Peek, Store, StoreAt, Adjust, Increment, AdjustAt, Apply, ApplyNumber, ApplyPrefix, Settle, Drop, Jump, JumpIfZero, Tick, Print, Wait, Put, PutAt, Ask, AskLink, AskElement, Clear, Assign, Call, Fit, Return, Leave, End}
use Rattle.snl_meaning.specs.declared.instrs.Variable.{Variable}
use Rattle.snl_meaning.specs.declared.ties.Tied.{Tied}
use Rattle.snl_meaning.specs.Links.{link_from}
use Rattle.snl_meaning.specs.Names.{format_text}
use Rattle.snl_meaning.specs.Run.{Entry}
use Rattle.snl_meaning.specs.Words.{element_place}
use Rattle.snl_names.specs.declared.builtins.Query.{Query}
use Rattle.snl_names.specs.declared.builtins.Query.TheVariants.{PvGet}
use Rattle.snl_flows.specs.Fine.{settled_of}
use Rattle.snl_flows.specs.Outside.{has, places_of}
use Rattle.snl_flows.specs.Tables.{Operand, Another, Same, Within, top_of, below, under, Flow, Ground, facts_at, is_loose, said_at}

-- ---- words

-- Whether all of some words are among others,
abbrev pub has_all : (here : List ℕ) → List ℕ → Bool
has_all here [] = true
has_all here (k ∷ ks) = has here k && has_all here ks

-- or among so many from a place on.
abbrev pub has_more : (here : List ℕ) → (place many : ℕ) → List ℕ → Bool
has_more here place many [] = true
has_more here place many (k ∷ ks) = (has here k || (nat_le place k && nat_lt (k - place) many)) && has_more here place many ks

-- Whether all of some words are below a place.
abbrev pub are_below : (place : ℕ) → List ℕ → Bool
are_below place [] = true
are_below place (k ∷ ks) = nat_lt k place && are_below place ks

-- Whether one name is the other one, byte by byte,
abbrev pub is_name : List ℕ → List ℕ → Bool
is_name [] [] = true
is_name [] (y ∷ ys) = false
is_name (x ∷ xs) [] = false
is_name (x ∷ xs) (y ∷ ys) = x == y && is_name xs ys

-- and whether it is one of some.
abbrev pub is_named : List (List ℕ) → List ℕ → Bool
is_named [] name = false
is_named (x ∷ xs) name = is_name name x || is_named xs name

-- ---- operands

-- Whether an operand is the same in both,
abbrev pub is_same_in : Operand → Bool
is_same_in Another = false
is_same_in _ = true

-- so many topmost ones,
abbrev pub are_first_same : ℕ → List Operand → Bool
are_first_same zero os = true
are_first_same (suc n) os = is_same_in (top_of os) && are_first_same n (below os)

-- and all.
abbrev pub are_all_same : List Operand → Bool
are_all_same [] = true
are_all_same (o ∷ os) = is_same_in o && are_all_same os

-- Whether less or as much is said of an operand as holds,
abbrev pub is_no_more : (said holds : Operand) → Bool
is_no_more Another holds = true
is_no_more Same holds = is_same_in holds
is_no_more (Within n) (Within m) = nat_le m n
is_no_more (Within n) _ = false

-- and of all.
abbrev pub are_no_more : (said holds : List Operand) → Bool
are_no_more [] [] = true
are_no_more [] (h ∷ holds) = is_no_more Same h && are_no_more [] holds
are_no_more (s ∷ said) [] = is_no_more s Same && are_no_more said []
are_no_more (s ∷ said) (h ∷ holds) = is_no_more s h && are_no_more said holds

-- ---- operators

-- Whether all that a binary operator can do wrong is an overflow of one of some lines.
abbrev pub may_overflow : List ℕ → Kind → ℕ → Bool
may_overflow lines kind.Plus line = has lines line
may_overflow lines kind.Minus line = has lines line
may_overflow lines kind.Star line = has lines line
may_overflow lines kind.Comma line = true
may_overflow lines kind.Bar line = true
may_overflow lines kind.Caret line = true
may_overflow lines kind.Ampersand line = true
may_overflow lines kind.EqualEqual line = true
may_overflow lines kind.BangEqual line = true
may_overflow lines kind.Less line = true
may_overflow lines kind.LessEqual line = true
may_overflow lines kind.Greater line = true
may_overflow lines kind.GreaterEqual line = true
may_overflow lines _ line = false

-- The same of one whose right operand is known so, which is the same in both runs if it is a divisor.
abbrev pub may_overflow_over : List ℕ → Kind → Operand → ℕ → Bool
may_overflow_over lines kind.Slash o line = is_same_in o && has lines line
may_overflow_over lines kind.Percent o line = is_same_in o && has lines line
may_overflow_over lines op o line = may_overflow lines op line

-- The same of one with a number on its right side, which is no 0 if it is a divisor.
abbrev pub may_overflow_by : List ℕ → Kind → ℤ → ℕ → Bool
may_overflow_by lines kind.Slash z line = not (is_zero z) && has lines line
may_overflow_by lines kind.Percent z line = not (is_zero z) && has lines line
may_overflow_by lines op z line = may_overflow lines op line

-- The same of a prefix operator.
abbrev pub prefix_may_overflow : List ℕ → Kind → ℕ → Bool
prefix_may_overflow lines kind.Minus line = has lines line
prefix_may_overflow lines kind.Bang line = true
prefix_may_overflow lines kind.Tilde line = true
prefix_may_overflow lines kind.Plus line = true
prefix_may_overflow lines _ line = false

module _ (g : Ground) (set : ℕ) (f : Flow) where
  -- The hidden places of the own copy.
  abbrev pub hidden_here : List ℕ
  hidden_here = places_of g.hidden set

  -- What is known of the operands at an address.
  abbrev pub known_at : ℕ → List Operand
  known_at at = (facts_at f at).operands

  -- Whether no more is said of where a step leads than holds behind it,
  abbrev pub leads : (at to : ℕ) → List Operand → Bool
  leads at to holds = are_no_more (known_at to) holds && (facts_at f to).is_reached && has_all (said_at f at true) (said_at f to true) && has_all (said_at f at false) (said_at f to false)

  -- also where the step writes the same to so many words of a variable.
  abbrev pub leads_after : (at to : ℕ) → List Operand → Variable → (place many : ℕ) → Bool
  leads_after at to holds v place many =
      are_no_more (known_at to) holds && (facts_at f to).is_reached
      && (if v.is_shared then has_more (said_at f at true) place many (said_at f to true) else has_all (said_at f at true) (said_at f to true))
      && (if v.is_shared then has_all (said_at f at false) (said_at f to false) else has_more (said_at f at false) place many (said_at f to false))

  -- ---- variables

  -- Whether a word is the same at an address,
  abbrev pub is_same_at : (at : ℕ) → Bool → ℕ → Bool
  is_same_at at is_shared k = (not is_shared && not (has hidden_here k)) || (has (said_at f at is_shared) k && not (is_loose f is_shared k))

  -- and so many from a place on.
  abbrev pub are_same_at : (at : ℕ) → Bool → (place many : ℕ) → Bool
  are_same_at at is_shared place zero = true
  are_same_at at is_shared place (suc many) = is_same_at at is_shared place && are_same_at at is_shared (suc place) many

  -- Whether each element is the same that a subscript can name: where that was not checked, no word from the variable on is hidden.
  abbrev pub is_read : (at : ℕ) → Variable → Operand → Bool
  is_read at v Another = false
  is_read at v Same = not v.is_shared && are_below v.place hidden_here
  is_read at v (Within size) = are_same_at at v.is_shared v.place size

  -- Whether a word may get what is not the same, by a step that is charged to a line,
  abbrev pub may_get_other : (is_shared : Bool) → (place line : ℕ) → Bool
  may_get_other is_shared place line = is_loose f is_shared place && (is_shared || has hidden_here place) && has g.lines line

  -- and so many from a place on.
  abbrev pub may_get_from : (is_shared : Bool) → (place many line : ℕ) → Bool
  may_get_from is_shared place zero line = true
  may_get_from is_shared place (suc many) line = may_get_other is_shared place line && may_get_from is_shared (suc place) many line

  -- Whether each element may that a subscript can name, which was checked.
  abbrev pub may_get_others : Variable → Operand → (line : ℕ) → Bool
  may_get_others v (Within size) line = has g.lines line && may_get_from v.is_shared v.place size line
  may_get_others v _ line = false

  -- ---- puts

  -- Whether the elements of a link from a place on are the same, or may be put as others.
  abbrev pub is_put_by : (at place count : ℕ) → Option ℕ → Bool
  is_put_by at place count None = are_below place hidden_here
  is_put_by at place count (Some channel) = are_same_at at false place count || is_named g.names (slice_index_or g.channels channel [])

  -- The same of a link, if there is one,
  abbrev pub is_put_at : (at place : ℕ) → Option Tied → Bool
  is_put_at at place None = true
  is_put_at at place (Some t) = is_put_by at place t.count t.channel

  -- by its number,
  abbrev pub is_put_of : (at place : ℕ) → Option ℕ → Bool
  is_put_of at place None = true
  is_put_of at place (Some link) = is_put_at at place (slice_get g.ties link)

  -- and of that which begins at a place.
  abbrev pub is_put : (at place : ℕ) → Bool
  is_put at place = is_put_of at place (link_from 0 (slice_index_or g.homes set []) place)

  -- So it is of so many elements of a variable.
  abbrev pub are_put : (at : ℕ) → Variable → (element many : ℕ) → Bool
  are_put at v element zero = true
  are_put at v element (suc many) = is_put at (element_place v element) && are_put at v (suc element) many

  -- Whether each element is that a subscript can name, which was checked.
  abbrev pub are_put_by : (at : ℕ) → Variable → Operand → Bool
  are_put_by at v (Within size) = are_put at v 0 size
  are_put_by at v _ = false

  -- ---- what is got

  -- Whether so many words from a place on may get what is not the same where those of a buffer may differ,
  abbrev pub is_got_from : (place from count : ℕ) → Bool
  is_got_from place from zero = true
  is_got_from place from (suc count) = (not (has g.stale from) || (has f.loose place && has hidden_here place)) && is_got_from (suc place) (suc from) count

  -- and those of a link, if there is one,
  abbrev pub is_got_at : (place : ℕ) → Option Tied → Bool
  is_got_at place None = true
  is_got_at place (Some t) = is_got_from place t.from t.count

  -- by its number,
  abbrev pub is_got_of : (place : ℕ) → Option ℕ → Bool
  is_got_of place None = true
  is_got_of place (Some link) = is_got_at place (slice_get g.ties link)

  -- and of that which begins at a place.
  abbrev pub is_got : (place : ℕ) → Bool
  is_got place = is_got_of place (link_from 0 (slice_index_or g.homes set []) place)

  -- So it is of so many elements of a variable.
  abbrev pub are_got : Variable → (element many : ℕ) → Bool
  are_got v element zero = true
  are_got v element (suc many) = is_got (element_place v element) && are_got v (suc element) many

  -- Whether it is so of the first element, if that is what is asked for,
  abbrev pub is_got_by : Query → Variable → Bool
  is_got_by PvGet v = is_got v.place
  is_got_by _ v = true

  -- and of each element that a subscript can name, which was checked. Where no buffer may differ nothing is asked.
  abbrev pub are_got_within : Variable → Operand → List ℕ → Bool
  are_got_within v o [] = true
  are_got_within v (Within size) (s ∷ stale) = are_got v 0 size
  are_got_within v o (s ∷ stale) = false

  -- The same, if that is what is asked for.
  abbrev pub are_got_by : Query → Variable → Operand → Bool
  are_got_by PvGet v o = are_got_within v o g.stale
  are_got_by _ v o = true

  -- ---- prints

  -- Whether so many topmost operands are the same, or a string is one of a `printf` that may have other values.
  abbrev pub is_printed : (at format n : ℕ) → Bool
  is_printed at format n = are_first_same n (known_at at) || is_named g.names (format_text g.formats format)

  -- ---- calls

  -- Whether a word is that of one of the first parameters,
  abbrev pub is_bound : List Variable → (values : ℕ) → Bool → ℕ → Bool
  is_bound [] values is_shared k = false
  is_bound (p ∷ ps) zero is_shared k = false
  is_bound (p ∷ ps) (suc values) is_shared k = ((not is_shared || p.is_shared) && (is_shared || not p.is_shared) && k == p.place) || is_bound ps values is_shared k

  -- and whether all of some words are.
  abbrev pub are_bound : List Variable → (values : ℕ) → Bool → List ℕ → Bool
  are_bound ps values is_shared [] = true
  are_bound ps values is_shared (k ∷ ks) = is_bound ps values is_shared k && are_bound ps values is_shared ks

  -- Whether a function begins with its parameters alone, and with operands that are the same.
  abbrev pub begins : Option Entry → (values : ℕ) → Bool
  begins None values = true
  begins (Some e) values =
      are_no_more (known_at e.start) [] && (facts_at f e.start).is_reached && are_bound e.parameters values true (said_at f e.start true) && are_bound e.parameters values false
      (said_at f e.start false)

  -- Whether each parameter gets what is the same, of so many values on top, or may get another one,
  abbrev pub are_taken : List Variable → (values : ℕ) → List Operand → (line : ℕ) → Bool
  are_taken [] values os line = true
  are_taken (p ∷ ps) zero os line = true
  are_taken (p ∷ ps) (suc values) os line = (is_same_in (top_of (under values os)) || may_get_other p.is_shared p.place line) && are_taken ps values os line

  -- and whether it is so of a function.
  abbrev pub takes : Option Entry → (values : ℕ) → List Operand → (line : ℕ) → Bool
  takes None values os line = true
  takes (Some e) values os line = are_taken e.parameters values os line

  -- ---- ends

  -- Whether some words of the own copy are the same since they were written.
  abbrev pub are_kept : (at : ℕ) → List ℕ → Bool
  are_kept at [] = true
  are_kept at (k ∷ ks) = has (said_at f at false) k && not (is_loose f false k) && are_kept at ks

  -- ---- instructions

  -- Whether what a table says of an instruction at an address is right.
  abbrev pub is_fine_at : (at : ℕ) → Instr → Bool
  is_fine_at at (Push z) = leads at (at + 1) (Same ∷ known_at at)
  is_fine_at at (Load v) = (is_same_at at v.is_shared v.place && leads at (at + 1) (Same ∷ known_at at)) || leads at (at + 1) (Another ∷ known_at at)
  is_fine_at at (Check v line) = is_same_in (top_of (known_at at)) && leads at (at + 1) (Within v.size ∷ below (known_at at))
  is_fine_at at (Get v) = (is_read at v (top_of (known_at at)) && leads at (at + 1) (Same ∷ below (known_at at))) || leads at (at + 1) (Another ∷ below (known_at at))
  is_fine_at at (Peek v) = (is_read at v (top_of (known_at at)) && leads at (at + 1) (Same ∷ known_at at)) || leads at (at + 1) (Another ∷ known_at at)
  is_fine_at at (Store v line) =
      (is_same_in (top_of (known_at at)) && leads_after at (at + 1) (known_at at) v v.place 1) || (may_get_other v.is_shared v.place line && leads at (at + 1) (known_at at))
  is_fine_at at (StoreAt v line) =
      ((is_same_in (top_of (known_at at)) && is_same_in (top_of (below (known_at at)))) || may_get_others v (top_of (below (known_at at))) line)
      && leads at (at + 1) (top_of (known_at at) ∷ below (below (known_at at)))
  is_fine_at at (Adjust v op op_line line is_before) =
      (is_same_at at v.is_shared v.place && leads at (at + 1) (Same ∷ known_at at))
      || (may_get_other v.is_shared v.place line && may_overflow g.lines op op_line && leads at (at + 1) (Another ∷ known_at at))
  is_fine_at at (Increment v op op_line line) =
      (is_same_at at v.is_shared v.place || (may_get_other v.is_shared v.place line && may_overflow g.lines op op_line)) && leads at (at + 1) (known_at at)
  is_fine_at at (AdjustAt v op op_line line is_before) =
      (is_read at v (top_of (known_at at)) && leads at (at + 1) (Same ∷ below (known_at at)))
      || (may_get_others v (top_of (known_at at)) line && may_overflow g.lines op op_line && leads at (at + 1) (Another ∷ below (known_at at)))
  is_fine_at at (Apply op line) =
      (is_same_in (top_of (known_at at)) && is_same_in (top_of (below (known_at at))) && leads at (at + 1) (Same ∷ below (below (known_at at))))
      || (may_overflow_over g.lines op (top_of (known_at at)) line && leads at (at + 1) (Another ∷ below (below (known_at at))))
  is_fine_at at (ApplyNumber op z line) =
      (is_same_in (top_of (known_at at)) && leads at (at + 1) (Same ∷ below (known_at at)))
      || (may_overflow_by g.lines op z line && leads at (at + 1) (Another ∷ below (known_at at)))
  is_fine_at at (ApplyPrefix op line) =
      (is_same_in (top_of (known_at at)) && leads at (at + 1) (Same ∷ below (known_at at)))
      || (prefix_may_overflow g.lines op line && leads at (at + 1) (Another ∷ below (known_at at)))
  is_fine_at at Settle = leads at (at + 1) (settled_of (top_of (known_at at)) ∷ below (known_at at))
  is_fine_at at Drop = leads at (at + 1) (below (known_at at))
  is_fine_at at (Jump n) = leads at (at + 1 + n) (known_at at)
  is_fine_at at (JumpIfZero n) = is_same_in (top_of (known_at at)) && leads at (at + 1) (below (known_at at)) && leads at (at + 1 + n) (below (known_at at))
  is_fine_at at (Tick line back) = leads at (at - back) (known_at at)
  is_fine_at at (Print format n) = is_printed at format n && leads at (at + 1) (Same ∷ under n (known_at at))
  is_fine_at at (Wait in_seconds) = is_same_in (top_of (known_at at)) && leads at (at + 1) (Same ∷ below (known_at at))
  is_fine_at at (Put v is_async) = is_put at v.place && leads at (at + 1) (Same ∷ known_at at)
  is_fine_at at (PutAt v is_async) = are_put_by at v (top_of (known_at at)) && leads at (at + 1) (Same ∷ below (known_at at))
  is_fine_at at (Ask query number) = leads at (at + 1) (Same ∷ known_at at)
  is_fine_at at (AskLink query v) = is_got_by query v && leads at (at + 1) (Same ∷ known_at at)
  is_fine_at at (AskElement query v) = is_same_in (top_of (known_at at)) && are_got_by query v (top_of (known_at at)) && leads at (at + 1) (Same ∷ below (known_at at))
  is_fine_at at (Clear v) = leads_after at (at + 1) (known_at at) v v.place v.size
  is_fine_at at (Assign v element line) =
      (is_same_in (top_of (known_at at)) && leads_after at (at + 1) (below (known_at at)) v (v.place + element) 1)
      || (may_get_other v.is_shared (v.place + element) line && leads at (at + 1) (below (known_at at)))
  is_fine_at at (Call function n line) =
      takes (slice_get g.functions function) n (known_at at) line && are_all_same (under n (known_at at)) && begins (slice_get g.functions function) n
      && leads at (at + 1) (f.given ∷ [])
  is_fine_at at (Fit least greatest line) = (is_same_in (top_of (known_at at)) || has g.lines line) && leads at (at + 1) (known_at at)
  is_fine_at at Return = is_no_more f.given (top_of (known_at at)) && are_all_same (below (known_at at))
  is_fine_at at (Leave state) = are_kept at f.leaves
  is_fine_at at End = are_all_same (known_at at) && are_kept at f.ends
