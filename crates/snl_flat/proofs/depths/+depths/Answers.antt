use Rattle.std.proofs.Common.{◌≡◌, ◌≤◌, ◌∙◌, ◌+◌, ℕ, ap, sym, arith, map}
use Rattle.std.specs.Prelude.{◌-◌, ◌^◌, max}
use Rattle.snl_syntax.specs.Expressions.{no_arguments}
use Rattle.snl_syntax.specs.view.Expressions.{view, pair_of, list_before}
use Rattle.snl_syntax.specs.view.Lists.{term_list}
use Rattle.snl_syntax.proofs.Rows.{view_chain, view_call}
use Rattle.snl_emit.specs.Depths.{expression_depth, target_depth, terms_depth, arguments_depth, held_depth}
use Rattle.snl_meaning.specs.Value.{compound_of}
use Rattle.snl_meaning.specs.Known.{outlines}
use Rattle.snl_meaning.specs.Names.{outline_named}
use Rattle.snl_flat.specs.Depths.{capped}
use Rattle.snl_flat.specs.DepthParts.{call_depth}
use Rattle.snl_flat.proofs.DepthLaws.{capped_max, target_capped, routine_capped}
use Rattle.snl_flat.proofs.depths.+depths.Goals as goal

pub expression_depth-returns-in-Call : goal.expression_depth-returns-in-Call
expression_depth-returns-in-Call t c =
    let fs = outlines c.args.functions.now in
    c.call_depth.ensures ∙ ap (λ l. capped (call_depth fs c.in-Call.name.text.now (list_before l no_arguments))) c.as_slice.ensures.value
    ∙ ap (λ x. capped (expression_depth fs x)) (sym (ap view c.in-Call.is ∙ view_call c.in-Call.name c.in-Call.arguments))

pub expression_depth-returns-in-Chain : goal.expression_depth-returns-in-Chain
expression_depth-returns-in-Chain t c =
    let fs = outlines c.args.functions.now in
    let first = c.in-Chain.first in
    c.larger.ensures ∙ (λ j. max (c.expression_depth-in-Chain.ensures j) (c.terms_depth.ensures j))
    ∙ capped_max (expression_depth fs (view c.deref-in-Chain.result.now)) (terms_depth fs (term_list (map pair_of c.as_slice-in-Chain.result.now)))
    ∙ (λ j. capped (max (expression_depth fs (view (c.deref-in-Chain.ensures j))) (terms_depth fs (term_list (map pair_of (c.as_slice-in-Chain.ensures.value j))))))
    ∙ ap (λ x. capped (expression_depth fs x)) (sym (ap view c.in-Chain.is ∙ view_chain first c.in-Chain.terms))

pub expression_depth-returns-in-Assignment : goal.expression_depth-returns-in-Assignment
expression_depth-returns-in-Assignment t c =
    let fs = outlines c.args.functions.now in
    let d = expression_depth fs (view c.deref-in-Assignment.result.now) in
    let o = held_depth (compound_of c.in-Assignment.operator.kind) in
    let alone : capped c.saturating_add-alone.result ≡ capped (d + o) =
    omega (arith, c.saturating_add-alone.ensures, c.expression_depth-in-Assignment.ensures, c.held_by.ensures)
    in
    let indexed : capped c.saturating_add.result ≡ capped (d + o + 1) = omega (arith, c.saturating_add.ensures, alone) in
    c.target_depth.ensures
    ∙ target_capped fs (view c.deref-in-Assignment-2.result.now) c.saturating_add-alone.result (d + o) c.saturating_add.result (d + o + 1) alone indexed
    ∙ (λ j. capped (target_depth fs (view (c.deref-in-Assignment-2.ensures j)) (expression_depth fs (view (c.deref-in-Assignment.ensures j)) + o)
    (expression_depth fs (view (c.deref-in-Assignment.ensures j)) + o + 1)))
    ∙ ap (λ x. capped (expression_depth fs (view x))) (sym c.in-Assignment.is)

pub routine_depth-returns-in-Some : goal.routine_depth-returns-in-Some
routine_depth-returns-in-Some t c =
    let fs = outlines c.args.functions.now in
    let values = arguments_depth fs 0 (list_before c.args.arguments.now no_arguments) in
    let depth = c.in-Some.depth in
    let fits : depth ≤ 2 ^ 64 - 1 = omega arith in
    c.larger-in-Some.ensures
    ∙ ap (max 1) (c.larger.ensures ∙ ap (λ (n : ℕ). max n depth) c.values_depth.ensures)
    ∙ routine_capped (outline_named fs c.args.name.now) values depth (sym c.in-Some.is ∙ c.body_depth.ensures) fits
