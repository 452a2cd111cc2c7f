-- The outline of a program: a line for each state, in the order of the source.
use Rattle.std.specs.Prelude.{ℕ, ◌+◌, List, [], ◌∷◌, ◌++◌, codes, decimal}
use Rattle.std.specs.List.{concat}
use Rattle.snl_text.specs.declared.tokens.Token.{Token}
use Rattle.snl_syntax.specs.Programs.{StateTree, StateSetTree, ProgramTree}
use Rattle.snl_outline.specs.declared.outline.OutlineForm.{OutlineForm}
use Rattle.snl_outline.specs.declared.outline.OutlineForm.TheVariants.{Numbers, Declarations}

-- `SET NUMBER STATE line LINE`
abbrev pub numbers_line : List ℕ → ℕ → List ℕ → ℕ → List ℕ
numbers_line set number state line =
    concat (set ∷ codes " " ∷ decimal number ∷ codes " " ∷ state ∷ codes " line " ∷ decimal line ∷ codes "\n" ∷ [])

-- `int SET_STATE = NUMBER;`
abbrev pub declaration_line : List ℕ → ℕ → List ℕ → List ℕ
declaration_line set number state = concat (codes "int " ∷ set ∷ codes "_" ∷ state ∷ codes " = " ∷ decimal number ∷ codes ";\n" ∷ [])

-- The line of a state of this name, in a state set of this name, with its number there.
abbrev pub state_line : OutlineForm → List ℕ → ℕ → Token → List ℕ
state_line Numbers set number state = numbers_line set number state.text.now state.pos.line
state_line Declarations set number state = declaration_line set number state.text.now

-- Those of states with numbers from one on.
abbrev pub states_text : OutlineForm → List ℕ → ℕ → List StateTree → List ℕ
states_text form set number [] = []
states_text form set number (s ∷ ss) = state_line form set number s.name ++ states_text form set (number + 1) ss

-- Those of a state set: the first state has number 0.
abbrev pub set_text : OutlineForm → StateSetTree → List ℕ
set_text form g = states_text form g.name.text.now 0 g.states

-- Those of state sets,
abbrev pub sets_text : OutlineForm → List StateSetTree → List ℕ
sets_text form [] = []
sets_text form (g ∷ gs) = set_text form g ++ sets_text form gs

-- and of a program.
abbrev pub outline : OutlineForm → ProgramTree → List ℕ
outline form p = sets_text form p.state_sets
