-- The check of tables with quiet parts: what it answers.
use Rattle.std.specs.Prelude.{◌≡◌, ◌+◌, ◌-◌, ◌==◌, ◌&&◌, ◌||◌, ℕ, Bool, true, false, not, List, [], ◌∷◌, length, drop, take, nat_le}
use Rattle.snl_meaning.specs.declared.instrs.Instr.{Instr}
use Rattle.snl_meaning.specs.declared.instrs.Instr.TheVariants.{Push, Load, Store, Adjust, Increment, Apply, ApplyNumber, ApplyPrefix, Settle, Drop, Jump, JumpIfZero, Print, Assign}
use Rattle.snl_meaning.specs.declared.instrs.Variable.{Variable}
use Rattle.snl_meaning.specs.Names.{format_text}
use Rattle.snl_text.specs.declared.kinds.Kind.{Kind}
use Rattle.snl_flows.specs.Checks.{is_fine_at, is_named, known_at, leads, may_get_other, may_overflow, may_overflow_by, prefix_may_overflow}
use Rattle.snl_flows.specs.Quiet.{AreFine, height_at, join_at, others_on}
use Rattle.snl_flows.specs.Tables.{below, Flow, Ground, facts_at}

module _ (g : Ground) (set : ℕ) (f : Flow) where
  -- Whether a step stays in a part, with as many operands as the table says,
  abbrev pub stays_in : (base join at to taken given : ℕ) → Bool
  stays_in base join at to taken given = nat_le to join && nat_le (base + taken) (height_at f at) && height_at f to + taken == height_at f at + given

  -- and whether a variable may become another one in it.
  abbrev pub may_become : Variable → Kind → (op_line line : ℕ) → Bool
  may_become v op op_line line = may_get_other g set f v.is_shared v.place line && may_overflow g.lines op op_line

  -- Whether an instruction is quiet.
  abbrev pub is_quiet_at : (base join at : ℕ) → Instr → Bool
  is_quiet_at base join at (Push z) = stays_in base join at (at + 1) 0 1
  is_quiet_at base join at (Load v) = stays_in base join at (at + 1) 0 1
  is_quiet_at base join at (Store v line) = may_get_other g set f v.is_shared v.place line && stays_in base join at (at + 1) 1 1
  is_quiet_at base join at (Assign v element line) = may_get_other g set f v.is_shared (v.place + element) line && stays_in base join at (at + 1) 1 0
  is_quiet_at base join at (Adjust v op op_line line is_before) = may_become v op op_line line && stays_in base join at (at + 1) 0 1
  is_quiet_at base join at (Increment v op op_line line) = may_become v op op_line line && stays_in base join at (at + 1) 0 0
  is_quiet_at base join at (Apply op line) = may_overflow g.lines op line && stays_in base join at (at + 1) 2 1
  is_quiet_at base join at (ApplyNumber op z line) = may_overflow_by g.lines op z line && stays_in base join at (at + 1) 1 1
  is_quiet_at base join at (ApplyPrefix op line) = prefix_may_overflow g.lines op line && stays_in base join at (at + 1) 1 1
  is_quiet_at base join at Settle = stays_in base join at (at + 1) 1 1
  is_quiet_at base join at Drop = stays_in base join at (at + 1) 1 0
  is_quiet_at base join at (Jump n) = stays_in base join at (at + 1 + n) 0 0
  is_quiet_at base join at (JumpIfZero n) = stays_in base join at (at + 1) 1 0 && stays_in base join at (at + 1 + n) 1 0
  is_quiet_at base join at (Print format n) = is_named g.names (format_text g.formats format) && stays_in base join at (at + 1) n 1
  is_quiet_at base join at _ = false

  -- The same of instructions, one after another.
  abbrev pub are_quiet : (base join at : ℕ) → List Instr → Bool
  are_quiet base join at [] = true
  are_quiet base join at (i ∷ is) = is_quiet_at base join at i && are_quiet base join (at + 1) is

  -- Whether the two ways of a jump of some code are quiet up to an address where they come together,
  abbrev pub are_passed_to : (code : List Instr) (at passed join : ℕ) → Bool
  are_passed_to code at passed join =
      nat_le join (length code) && nat_le (at + 1) join && nat_le (at + 1 + passed) join && height_at f (at + 1 + passed) == height_at f (at + 1)
      && are_quiet (height_at f (at + 1)) join (at + 1) (take (join - (at + 1)) (drop (at + 1) code))
      && leads g set f at join (others_on (height_at f join - height_at f (at + 1)) (below (known_at g set f at)))

  -- and whether an instruction is such a jump.
  abbrev pub is_passed : (code : List Instr) → (at : ℕ) → Instr → Bool
  is_passed code at (JumpIfZero n) = are_passed_to code at n (join_at f at)
  is_passed code at _ = false

  -- Whether what a table says of instructions of some code, one after another, is right, where a piece can come to them.
  abbrev pub are_fine : (code : List Instr) → (at : ℕ) → List Instr → Bool
  are_fine code at [] = true
  are_fine code at (i ∷ is) = (not (facts_at f at).is_reached || is_fine_at g set f at i || is_passed code at i) && are_fine code (at + 1) is

-- Where the check of code says so, the table is right.
abbrev pub ChecksAreRight : Type 0
ChecksAreRight = (g : Ground) (set : ℕ) (f : Flow) (code : List Instr) → are_fine g set f code 0 code ≡ true → AreFine g set f code
