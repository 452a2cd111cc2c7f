-- What the pieces of a state set keep of the world, with all functions that they call.
use Rattle.std.proofs.Common.{◌≡◌, refl, ℕ, ℤ, List, [], ◌∷◌, ◌++◌, map, Option, None, Some}
use Rattle.std.specs.List.{flat_map}
use Rattle.snl_syntax.specs.Functions.{ParameterTree, FunctionTree}
use Rattle.snl_syntax.specs.Programs.{ProgramTree}
use Rattle.snl_flat.specs.Heres.{function_places, here_in, if_there, parameter_variable, routine_of, routines_in, scene_in}
use Rattle.snl_meaning.specs.declared.instrs.Variable.{Variable}
use Rattle.snl_meaning.specs.Keeping.{IsKept, MayStore, AllMay, AllStore, PiecesKeep}
use Rattle.snl_meaning.specs.Names.{Here, variable_in}
use Rattle.snl_meaning.specs.World.{World}
use Rattle.snl_meaning.proofs.Keeping.{pieces-keep, pieces-keep-any}
use Rattle.snl_meaning.proofs.Ticks.{Any}
use Rattle.snl_names.specs.Variables.{functions_of}

-- where any element may be stored to
pub keeps-any : (p : ProgramTree) (set : ℕ) (R : World → World → Type 0) → IsKept set Any R → PiecesKeep (scene_in p set) R
keeps-any p set R kept = pieces-keep-any (routines_in p) (scene_in p set) R refl kept

module _ (p : ProgramTree) (May : Variable → ℤ → Type 0) (within : (h : Here) → h.variables ≡ function_places p → MayStore h May) where
  -- the parameters of a function, whose names mean variables in its body
  parameters : (h : Here) → MayStore h May → (qs : List ParameterTree) → AllMay May (flat_map (parameter_variable h.variables) qs)
  parameters h may [] = tt
  parameters h may (q ∷ qs) = by (variable_in h.variables q.name.pos.offset) refl (parameters h may qs)
    where
      by : (o : Option Variable) → variable_in h.variables q.name.pos.offset ≡ o → AllMay May (flat_map (parameter_variable h.variables) qs) →
          AllMay May (if_there o ++ flat_map (parameter_variable h.variables) qs)
      by None there rest = rest
      by (Some v) there rest = (may.first q.name.pos.offset v there, rest)

  -- functions
  functions : (fs : List FunctionTree) → AllStore (map (routine_of p) fs) May
  functions [] = tt
  functions (f ∷ fs) =
      let h = (routine_of p f).here in
      let may = within h refl in ((may, parameters h may f.parameters.each), functions fs)

  -- where those may that names mean in the state set's pieces, and those that they mean in functions
  pub keeps-in : (set : ℕ) (R : World → World → Type 0) → MayStore (here_in p set) May → IsKept set May R → PiecesKeep (scene_in p set) R
  keeps-in set R may kept = pieces-keep (routines_in p) (scene_in p set) May R refl may (functions (functions_of p)) kept
