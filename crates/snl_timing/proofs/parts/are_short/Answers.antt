use Rattle.std.proofs.Common.{ℕ, List, Option, map, subst}
use Rattle.std.specs.List.{flat_map}
use Rattle.snl_alike.specs.Delays.{DelaysInBlockMaybe, DelaysInBodies, DelaysInSets, IsShort, longest_in, longests_of}
use Rattle.snl_alike.specs.Timing.{longests_in}
use Rattle.snl_flat.specs.Heres.{routine_of}
use Rattle.snl_names.specs.Variables.{function_by}
use Rattle.snl_syntax.specs.declared.definitions.Def.{Def}
use Rattle.snl_syntax.specs.declared.programs.StateSet.{StateSet}
use Rattle.snl_syntax.specs.view.Definitions.{definition_view}
use Rattle.snl_syntax.specs.view.Programs.{program_view, state_set_view}
use Rattle.snl_timing.proofs.parts.are_short.Goals as goal

pub returns : goal.returns
returns c = λ yes.
    let p = program_view c.args.program.now in
    let longests = longests_in c.args.table.now in
    record {
      functions = λ set state. subst (λ (l : List Def). DelaysInBodies (IsShort (longest_in (longests_of longests set) state)) (map (routine_of p) (flat_map function_by (map definition_view l))))
          c.as_slice.ensures.value (c.are_short_bodies_for.ensures c.if-not-are_short_bodies_for.false p set state);
      entry = λ state. subst (λ (ls : List (Option ℕ)). DelaysInBlockMaybe (IsShort (longest_in ls state)) p.entry) c.longests_of-first.ensures
          (c.is_short_block_in.ensures c.if-not-is_short_block_in.false state);
      sets = subst (λ (l : List StateSet). DelaysInSets (λ set state. IsShort (longest_in (longests_of longests set) state)) 0 (map state_set_view l))
          c.as_slice-2.ensures.value (c.are_short_sets.ensures c.if-not-are_short_sets.false);
      exit = λ state. subst (λ (ls : List (Option ℕ)). DelaysInBlockMaybe (IsShort (longest_in ls state)) p.exit) c.longests_of-first.ensures
          (c.is_short_block_in-2.ensures yes state);
    }
