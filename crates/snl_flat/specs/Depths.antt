-- The depth of a program: the greatest number of operands that one of its expressions holds at once. The sizes and the
-- initialisers of variables count, and the subscripts of definitions.
use Rattle.std.specs.Prelude.{ℕ, ◌-◌, ◌^◌, min, max, List, [], ◌∷◌, Option, None, Some}
use Rattle.snl_syntax.specs.Definitions.{DefinitionTree, declaration, assign, monitor, sync, sync_queue, function}
use Rattle.snl_syntax.specs.Programs.{ClauseTree, StateTree, StateSetTree, ProgramTree}
use Rattle.snl_emit.specs.Depths.{maybe_depth, block_depth, entered_depth}
use Rattle.snl_meaning.specs.Names.{Outline}
use Rattle.snl_flat.specs.Heres.{outlines_in}

-- A count that stops at the greatest number of 64 bits.
abbrev pub capped : ℕ → ℕ
capped n = min n (2 ^ 64 - 1)

-- The greatest depth of some parts; 0 where there is none.
abbrev pub greatest : {A : Type 0} → (A → ℕ) → List A → ℕ
greatest depth [] = 0
greatest depth (a ∷ all) = max (depth a) (greatest depth all)

-- The depth of a part that may be missing.
abbrev pub depth_if_there : {A : Type 0} → (A → ℕ) → Option A → ℕ
depth_if_there depth None = 0
depth_if_there depth (Some a) = depth a

-- Of a definition, where these functions may be called: of its variables, of the subscript of its place, or of a function's body.
abbrev pub definition_depth : List Outline → DefinitionTree → ℕ
definition_depth fs (declaration d) = entered_depth fs d.names
definition_depth fs (assign a) = maybe_depth fs a.place.subscript
definition_depth fs (monitor p) = maybe_depth fs p.subscript
definition_depth fs (sync y) = maybe_depth fs y.place.subscript
definition_depth fs (sync_queue q) = maybe_depth fs q.place.subscript
definition_depth fs (function f) = block_depth fs f.body
definition_depth fs _ = 0

-- Of a clause.
abbrev pub clause_depth : List Outline → ClauseTree → ℕ
clause_depth fs c = max (maybe_depth fs c.condition) (block_depth fs c.block)

-- Of a state's blocks.
abbrev pub own_blocks_depth : List Outline → StateTree → ℕ
own_blocks_depth fs s = max (depth_if_there (block_depth fs) s.entry) (depth_if_there (block_depth fs) s.exit)

-- Of a state.
abbrev pub state_depth : List Outline → StateTree → ℕ
state_depth fs s = max (max (greatest (definition_depth fs) s.definitions) (greatest (clause_depth fs) s.clauses)) (own_blocks_depth fs s)

-- Of a state set.
abbrev pub set_depth : List Outline → StateSetTree → ℕ
set_depth fs g = max (greatest (definition_depth fs) g.definitions) (greatest (state_depth fs) g.states)

-- Of a program, where these functions may be called.
abbrev pub depth_with : List Outline → ProgramTree → ℕ
depth_with fs p =
    max (max (greatest (definition_depth fs) p.definitions) (greatest (set_depth fs) p.state_sets))
    (max (depth_if_there (block_depth fs) p.entry) (depth_if_there (block_depth fs) p.exit))

-- Of a program: its own functions.
abbrev pub program_depth : ProgramTree → ℕ
program_depth p = depth_with (outlines_in p) p
