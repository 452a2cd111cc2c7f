use Rattle.std.proofs.Common.{◌≡◌, ◌++◌, map, drop}
use Rattle.snl_syntax.specs.view.Expressions.{pair_of, list_before}
use Rattle.snl_syntax.specs.view.Lists.{term_list}
use Rattle.snl_syntax.specs.Expressions.{no_arguments}
use Rattle.snl_names.specs.UseTables.{declared_at}
use Rattle.snl_lints.specs.Touches.{in_terms, in_arguments}
use Rattle.snl_lints.proofs.expressions.+expression.Given as goal

abbrev pub invariant-push_arguments-loop-argument : goal.invariant-push_arguments-loop-argument
invariant-push_arguments-loop-argument l =
    l.found.items ++ in_arguments (declared_at l.uses) l.role (list_before (drop l.argument-index l.arguments) no_arguments)
    ≡ l.initial.found.items ++ in_arguments (declared_at l.uses) l.role (list_before l.arguments no_arguments)

abbrev pub invariant-push_terms-loop-term : goal.invariant-push_terms-loop-term
invariant-push_terms-loop-term l =
    l.found.items ++ in_terms (declared_at l.uses) l.left (term_list (map pair_of (drop l.term-index l.terms)))
    ≡ l.initial.found.items ++ in_terms (declared_at l.uses) l.fn.first (term_list (map pair_of l.terms))
