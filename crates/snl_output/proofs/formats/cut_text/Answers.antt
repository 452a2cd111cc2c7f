use Rattle.std.proofs.Common.{◌≡◌, ◌∙◌, ◌++◌, [], ap, append-nil, arith, drop}
use Rattle.std.proofs.lemmas.List.{drop_all}
use Rattle.std.specs.Option.{unwrap_or}
use Rattle.snl_names.specs.declared.formats.FormatState.TheVariants.{Plain}
use Rattle.snl_meaning.specs.Printing.{shown}
use Rattle.snl_output.specs.Formats.{filled, left_behind}
use Rattle.snl_output.proofs.Cutting.{cut-more}
use Rattle.snl_output.proofs.formats.cut_text.Goals as goal

pub loop-byte-preserved : goal.loop-byte-preserved
loop-byte-preserved c zs =
    cut-more _ _ _ _ _ c.loop-byte.state _ c.args.text.now c.loop-byte.byte-index zs c.loop-byte-test.true
    (c.unwrap_or-state.ensures ∙ ap (λ o. unwrap_or o Plain) c.next.ensures) (c.in_ok-add.ensures.left zs) (c.in_ok-add.ensures.written zs) (c.loop-byte.invariant zs)

pub returns : goal.returns
returns c zs =
    let done = c.loop-byte.done in
    let over : drop c.loop-byte.byte-index c.args.text.now ≡ [] = drop_all c.loop-byte.byte-index c.args.text.now (omega (arith, c.loop-byte-test.false)) in
    c.loop-byte.invariant zs ∙ ap (λ t. filled done.parts.items zs (done.text.items ++ shown c.loop-byte.state (left_behind done.parts.items zs) t)) over
    ∙ ap (filled done.parts.items zs) (append-nil done.text.items)
