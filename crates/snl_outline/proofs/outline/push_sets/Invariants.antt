use Rattle.std.proofs.Common.{◌≡◌, ◌++◌, map, drop}
use Rattle.snl_syntax.specs.view.Programs.{state_set_view}
use Rattle.snl_outline.specs.Outline.{sets_text}
use Rattle.snl_outline.proofs.outline.push_sets.Given as goal

abbrev pub invariant-loop-set : goal.invariant-loop-set
invariant-loop-set l =
    l.out.items ++ sets_text l.form (map state_set_view (drop l.set-index l.sets)) ≡ l.initial.out.items ++ sets_text l.form (map state_set_view l.sets)
