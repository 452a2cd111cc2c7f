-- Quiet parts of code: it does not matter which of two runs goes through them. What a table says of code is right with such parts.
use Rattle.std.specs.Prelude.{◌≡◌, ◌⊎◌, ◌+◌, ◌-◌, ◌≤◌, ◌<◌, ℕ, zero, suc, List, ◌∷◌, Some, length, slice_get, slice_index_or}
use Rattle.snl_meaning.specs.declared.instrs.Instr.{Instr}
use Rattle.snl_meaning.specs.declared.instrs.Instr.TheVariants.{Push, Load, Store, Adjust, Increment, Apply, ApplyNumber, ApplyPrefix, Settle, Drop, Jump, JumpIfZero, Print, Assign}
use Rattle.snl_meaning.specs.Names.{format_text}
use Rattle.snl_flows.specs.Fine.{IsFineAt, LeadsTo, MayBecomeOther, MayGetOther, MayOverflow, MayOverflowBy, PrefixMayOverflow, operands_at}
use Rattle.snl_flows.specs.Tables.{Operand, Another, below, Flow, Ground, IsReached}
use Rattle.snl_flows.specs.Texts.{IsNamed}

-- How many operands the code has at an address.
abbrev pub height_at : Flow → ℕ → ℕ
height_at f at = slice_index_or f.heights at 0

-- Where the two ways of a jump at an address come together.
abbrev pub join_at : Flow → ℕ → ℕ
join_at f at = slice_index_or f.joins at 0

-- So many others stand on operands.
abbrev pub others_on : ℕ → List Operand → List Operand
others_on zero os = os
others_on (suc n) os = Another ∷ others_on n os

module _ (g : Ground) (set : ℕ) (f : Flow) where
  -- A step stays in a part that began with so many operands and ends at an address: it leads on within the part, or to that address. It takes
  -- so many operands of the part, and gives so many.
  pub record StaysIn (base join at to taken given : ℕ) : Type 0 where
    pub within : to ≤ join
    pub own : base + taken ≤ height_at f at
    pub many : height_at f to + taken ≡ height_at f at + given

  -- An instruction is quiet: it stays in the part, and changes at most words that may differ. What it may do wrong is left out, and what it
  -- prints may have other numbers.
  abbrev pub IsQuietAt : (base join at : ℕ) → Instr → Type 0
  IsQuietAt base join at (Push z) = StaysIn base join at (at + 1) 0 1
  IsQuietAt base join at (Load v) = StaysIn base join at (at + 1) 0 1
  IsQuietAt base join at (Store v line) = MayGetOther g set f v 0 line × StaysIn base join at (at + 1) 1 1
  IsQuietAt base join at (Assign v element line) = MayGetOther g set f v element line × StaysIn base join at (at + 1) 1 0
  IsQuietAt base join at (Adjust v op op_line line is_before) = MayBecomeOther g set f v op op_line line × StaysIn base join at (at + 1) 0 1
  IsQuietAt base join at (Increment v op op_line line) = MayBecomeOther g set f v op op_line line × StaysIn base join at (at + 1) 0 0
  IsQuietAt base join at (Apply op line) = MayOverflow g.lines op line × StaysIn base join at (at + 1) 2 1
  IsQuietAt base join at (ApplyNumber op z line) = MayOverflowBy g.lines op z line × StaysIn base join at (at + 1) 1 1
  IsQuietAt base join at (ApplyPrefix op line) = PrefixMayOverflow g.lines op line × StaysIn base join at (at + 1) 1 1
  IsQuietAt base join at Settle = StaysIn base join at (at + 1) 1 1
  IsQuietAt base join at Drop = StaysIn base join at (at + 1) 1 0
  IsQuietAt base join at (Jump n) = StaysIn base join at (at + 1 + n) 0 0
  IsQuietAt base join at (JumpIfZero n) = StaysIn base join at (at + 1) 1 0 × StaysIn base join at (at + 1 + n) 1 0
  IsQuietAt base join at (Print format n) = IsNamed g.names (format_text g.formats format) × StaysIn base join at (at + 1) n 1
  IsQuietAt base join at _ = ⊥

  -- The two ways of a jump over so many instructions at an address are quiet, up to where they come together. There as many operands are
  -- others as the ways gave.
  pub record ArePassed (code : List Instr) (at passed : ℕ) : Type 0 where
    pub inside : join_at f at ≤ length code
    pub near : at + 1 ≤ join_at f at
    pub far : at + 1 + passed ≤ join_at f at
    pub level : height_at f (at + 1 + passed) ≡ height_at f (at + 1)
    pub each : (k : ℕ) (i : Instr) → at < k → k < join_at f at → slice_get code k ≡ Some i → IsQuietAt (height_at f (at + 1)) (join_at f at) k i
    pub leads : LeadsTo g set f at (join_at f at) (others_on (height_at f (join_at f at) - height_at f (at + 1)) (below (operands_at g set f at)))

  -- An instruction is such a jump.
  abbrev pub IsPassed : (code : List Instr) → (at : ℕ) → Instr → Type 0
  IsPassed code at (JumpIfZero n) = ArePassed code at n
  IsPassed code at _ = ⊥

  -- What a table says of each instruction of some code that a piece can come to is right.
  abbrev pub AreFine : List Instr → Type 0
  AreFine code = (at : ℕ) (i : Instr) → slice_get code at ≡ Some i → IsReached f at → IsFineAt g set f at i ⊎ IsPassed code at i
