use Rattle.std.proofs.Common.{◌≡◌, ◌+◌, ◌++◌, length, map, drop}
use Rattle.snl_syntax.specs.view.Expressions.{pair_of, list_before}
use Rattle.snl_syntax.specs.view.Lists.{term_list}
use Rattle.snl_syntax.specs.Expressions.{no_arguments}
use Rattle.snl_resolve.specs.Seen.{sight_of}
use Rattle.snl_names.specs.Sites.{in_terms, in_arguments}
use Rattle.snl_resolve.proofs.expressions.+expression.Given as goal

abbrev pub invariant-note_terms-loop-term : goal.invariant-note_terms-loop-term
invariant-note_terms-loop-term l =
    l.sites.items ++ in_terms l.in_condition (sight_of l.sight) l.purpose (term_list (map pair_of (drop l.term-index l.terms)))
    ≡ l.initial.sites.items ++ in_terms l.in_condition (sight_of l.sight) l.purpose (term_list (map pair_of l.terms))

abbrev pub invariant-note_arguments-loop-argument : goal.invariant-note_arguments-loop-argument
invariant-note_arguments-loop-argument l =
    (l.sites.items ++ in_arguments l.in_condition (sight_of l.sight) l.purpose l.until (list_before (drop l.argument-index l.arguments) no_arguments)
    ≡ l.initial.sites.items ++ in_arguments l.in_condition (sight_of l.sight) l.purpose l.word (list_before l.arguments no_arguments))
    × (l.left + l.argument-index ≡ length l.arguments)
