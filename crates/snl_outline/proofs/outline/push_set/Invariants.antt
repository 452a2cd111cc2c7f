use Rattle.std.proofs.Common.{◌≡◌, ◌++◌, map, drop}
use Rattle.snl_syntax.specs.view.Programs.{state_view, state_set_view}
use Rattle.snl_outline.specs.Outline.{set_text, states_text}
use Rattle.snl_outline.proofs.outline.push_set.Given as goal

abbrev pub invariant-loop-number : goal.invariant-loop-number
invariant-loop-number l =
    l.out.items ++ states_text l.form l.set.name.text.now l.number (map state_view (drop l.number l.set.states.items))
    ≡ l.initial.out.items ++ set_text l.form (state_set_view l.set)
