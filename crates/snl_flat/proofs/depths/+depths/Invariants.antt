use Rattle.std.proofs.Common.{◌≡◌, ◌≤◌, map, drop}
use Rattle.std.specs.Prelude.{max}
use Rattle.snl_syntax.specs.Expressions.{no_arguments}
use Rattle.snl_syntax.specs.view.Expressions.{pair_of, list_before}
use Rattle.snl_syntax.specs.view.Lists.{term_list}
use Rattle.snl_emit.specs.Depths.{terms_depth, arguments_depth}
use Rattle.snl_meaning.specs.Known.{outlines}
use Rattle.snl_flat.specs.Depths.{capped}
use Rattle.snl_flat.proofs.depths.+depths.Given as goal

abbrev pub invariant-terms_depth-loop-term : goal.invariant-terms_depth-loop-term
invariant-terms_depth-loop-term l =
    max l.depth (capped (terms_depth (outlines l.functions) (term_list (map pair_of (drop l.term-index l.terms)))))
    ≡ capped (terms_depth (outlines l.functions) (term_list (map pair_of l.terms)))

abbrev pub invariant-values_depth-loop-argument : goal.invariant-values_depth-loop-argument
invariant-values_depth-loop-argument l =
    (max l.depth (capped (arguments_depth (outlines l.functions) l.held (list_before (drop l.argument-index l.arguments) no_arguments)))
    ≡ capped (arguments_depth (outlines l.functions) 0 (list_before l.arguments no_arguments)))
    × (l.held ≤ l.argument-index)
