use Rattle.std.proofs.Common.{◌≡◌, ◌++◌, drop, map}
use Rattle.std.specs.List.{flat_map}
use Rattle.snl_names.specs.CopyVariables.{variable_view}
use Rattle.snl_load.specs.Initials.{all_elements}
use Rattle.snl_load.proofs.initials.first_words.Given as goal

-- the words of variables so far, and of those that are left
abbrev pub invariant-loop-number : goal.invariant-loop-number
invariant-loop-number l =
    l.words.items ++ flat_map all_elements (map variable_view (drop l.number l.variables)) ≡ flat_map all_elements (map variable_view l.variables)
