-- Small code: a counter, a counter that decides something, and a variable that is written before it is read.
use Rattle.std.specs.Prelude.{ℕ, pos, negsuc, true, false, List, [], ◌∷◌}
use Rattle.snl_text.specs.declared.kinds.Kind.TheVariants.{Plus}
use Rattle.snl_meaning.specs.declared.instrs.Instr.{Instr}
use Rattle.snl_meaning.specs.declared.instrs.Instr.TheVariants.{Push, Load, Store, Increment, Drop, JumpIfZero, Leave, End}
use Rattle.snl_meaning.specs.declared.instrs.Variable.{Variable}
use Rattle.snl_flows.specs.Quiet.{AreFine}
use Rattle.snl_flows.specs.Tables.{Facts, Flow, Ground, Same, first_facts}

-- A variable of the copy, at word 3, the only one that is hidden.
abbrev pub own : Variable
own = record { place = 3; size = 1; least = negsuc 9; greatest = pos 9; is_shared = false }

-- Its word is hidden, in a program without links and functions, and of some lines overflows are left out.
abbrev pub hides : List ℕ → Ground
hides lines = record { hidden = (3 ∷ []) ∷ []; stale = []; lines = lines; names = []; channels = []; ties = []; homes = []; rooms = []; functions = []; formats = [] }

-- Code that counts, and leaves for a state;
abbrev pub counts : List Instr
counts = Increment own Plus 12 12 ∷ Leave 1 ∷ []

-- code that leaves if it is not 0;
abbrev pub decides : List Instr
decides = Load own ∷ JumpIfZero 1 ∷ Leave 1 ∷ End ∷ []

-- and code that makes it 7, and leaves if it is not 0.
abbrev pub writes_first : List Instr
writes_first = Push (pos 7) ∷ Store own 12 ∷ Drop ∷ Load own ∷ JumpIfZero 1 ∷ Leave 1 ∷ End ∷ []

-- Tables that say nothing where a piece begins.
abbrev pub begins_empty : List Facts → List ℕ → Flow
begins_empty rows loose = record { rows = first_facts ∷ rows; loose = loose; loose_words = []; heights = []; joins = []; given = Same; ends = []; leaves = [] }

-- What is said where the variable is the same since it was written.
abbrev pub now_same : Facts
now_same = record { is_reached = true; own = 3 ∷ []; functions = []; operands = [] }

-- A counter is fine where overflows of its line are left out, and not where none are. One that decides something is fine by no table,
-- whatever is left out. A variable that is written before it is read is fine with nothing left out.
pub record FlowsExamples : Type 0 where
  pub counted : AreFine (hides (12 ∷ [])) 0 (begins_empty (first_facts ∷ []) (3 ∷ [])) counts
  pub uncounted : (rows : List Facts) (loose : List ℕ) → AreFine (hides []) 0 (begins_empty rows loose) counts → ⊥
  pub undecided : (lines : List ℕ) (rows : List Facts) (loose : List ℕ) → AreFine (hides lines) 0 (begins_empty rows loose) decides → ⊥
  pub written : AreFine (hides []) 0
      (begins_empty (first_facts ∷ now_same ∷ now_same ∷ first_facts ∷ first_facts ∷ first_facts ∷ []) []) writes_first
