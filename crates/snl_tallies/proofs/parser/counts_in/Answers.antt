use Rattle.std.proofs.Common.{◌≡◌, ◌<◌, ◌≤◌, ◌+◌, ◌∙◌, [], ◌∷◌, ◌++◌, All, ap, arith, inr, length, length-append, subst, sym, take}
use Rattle.std.proofs.lemmas.List.Elements.{All-append, All-cons, All-nil}
use Rattle.snl_tallies.specs.Counts.{line_of, names_of, text_of}
use Rattle.snl_tallies.proofs.ReadLaws.{read-no-more, read-on, read-too-much}
use Rattle.snl_tallies.proofs.TextLaws.{IsSmall}
use Rattle.snl_tallies.proofs.parser.counts_in.Goals as goal

pub returns-in-None-clause-err : goal.returns-in-None-clause-err
returns-in-None-clause-err c =
    let l = c.loop-tally in
    inr (read-no-more c.args.tallies.now l.tally-index c.tally-item.result l.counts.items c.args.text.now l.rest.now c.loop-tally-test.true c.tally-item.is
    l.invariant.1.0 l.invariant.1.1 l.invariant.0
    (λ n behind small e. c.in-None.ensures.none n behind small (e ∙ ap (λ name. line_of name n ++ behind) (sym c.as_slice.ensures.value))))

pub loop-tally-preserved : goal.loop-tally-preserved
loop-tally-preserved c =
    let l = c.loop-tally in
    let n = c.in-Some.field-0.count in
    let behind = c.in-Some.field-0.rest.now in
    let names = names_of (take (l.tally-index + 1) c.args.tallies.now) in
    let added = c.in-Ok.ensures.items in
    let line = c.in-Some.ensures.some ∙ ap (λ name. line_of name n ++ behind) c.as_slice.ensures.value in
    let read = read-on c.args.tallies.now l.tally-index c.tally-item.result l.counts.items n c.args.text.now l.rest.now behind c.loop-tally-test.true c.tally-item.is
    l.invariant.1.0 l.invariant.0 line in (
      read ∙ ap (λ ns. text_of names ns ++ behind) (sym added),
      (
        omega (arith, ap length added, length-append l.counts.items (n ∷ []), l.invariant.1.0),
        subst (All IsSmall) (sym added) (All-append IsSmall l.counts.items (n ∷ []) l.invariant.1.1 (All-cons IsSmall n [] c.in-Some.ensures.small (All-nil IsSmall))),
      ),
    )

pub returns-else-is_empty-clause-err : goal.returns-else-is_empty-clause-err
returns-else-is_empty-clause-err c =
    let l = c.loop-tally in
    let some : 0 < length l.rest.now = grind (arith, c.is_empty.ensures, c.if-is_empty.false) in
    inr (read-too-much c.args.tallies.now l.tally-index l.counts.items c.args.text.now l.rest.now (omega (arith, l.auto.tally-index-end)) c.loop-tally-test.false
    l.invariant.1.0 l.invariant.1.1 l.invariant.0 (λ e. absurd (omega (arith, some, ap length e))))
