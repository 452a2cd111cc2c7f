use Rattle.std.proofs.Common.{◌≡◌, ◌++◌, ◌+◌, ◌-◌}
use Rattle.snl_names.specs.CopyVariables.{variable_view}
use Rattle.snl_load.specs.Initials.{first_elements}
use Rattle.snl_load.proofs.initials.push_elements.Given as goal

-- elements so far, and those that are left
abbrev pub invariant-loop-more : goal.invariant-loop-more
invariant-loop-more l =
    l.words.items ++ first_elements (variable_view l.held) (l.from + l.more) (l.count - l.more) ≡ l.fn.words.items ++ first_elements (variable_view l.held) l.from l.count
