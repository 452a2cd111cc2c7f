use Rattle.std.proofs.Common.{◌≡◌, map, drop}
use Rattle.std.specs.List.{list_all}
use Rattle.snl_syntax.specs.view.Expressions.{boxed}
use Rattle.snl_names.specs.Chains.{scopes_of}
use Rattle.snl_names.specs.Constants.{constant_of}
use Rattle.snl_names.specs.Types.{is_constant_in}
use Rattle.snl_names.specs.Scopes.{is_hidden}
use Rattle.snl_resolve.proofs.initialisers.are_constants.Given as goal

abbrev pub invariant-loop-value : goal.invariant-loop-value
invariant-loop-value l =
    list_all (λ e. is_constant_in l.range (constant_of (is_hidden (scopes_of l.scopes)) e)) (map boxed (drop l.value-index l.values))
    ≡ list_all (λ e. is_constant_in l.range (constant_of (is_hidden (scopes_of l.scopes)) e)) (map boxed l.values)
