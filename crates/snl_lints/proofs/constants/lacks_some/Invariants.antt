use Rattle.std.proofs.Common.{◌≡◌, map, drop}
use Rattle.std.specs.List.{list_any}
use Rattle.snl_syntax.specs.view.Expressions.{boxed}
use Rattle.snl_names.specs.UseTables.{declared_at}
use Rattle.snl_lints.specs.Constants.{lacks, worth_of}
use Rattle.snl_lints.proofs.constants.lacks_some.Given as goal

-- some value of what is left is lacked, where some of all is
abbrev pub invariant-loop-value : goal.invariant-loop-value
invariant-loop-value l =
    list_any (λ e. lacks l.range (worth_of (declared_at l.uses) e)) (map boxed (drop l.value-index l.values))
    ≡ list_any (λ e. lacks l.range (worth_of (declared_at l.uses) e)) (map boxed l.values)
