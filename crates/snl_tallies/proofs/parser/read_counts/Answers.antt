use Rattle.std.proofs.Common.{◌≡◌, ◌∙◌, ◌++◌, None, Some, ap, inr, sym}
use Rattle.std.proofs.lemmas.Bool.Decides.{Decides-eqb}
use Rattle.std.proofs.lemmas.Result.{IfOk-weaker}
use Rattle.std.proofs.lemmas.Slice.Eq.{strip_prefix_is}
use Rattle.snl_tallies.specs.Counts.{names_of, text_of}
use Rattle.snl_tallies.proofs.parser.read_counts.Goals as goal

pub returns-in-Some-clause-ok : goal.returns-in-Some-clause-ok
returns-in-Some-clause-ok c =
    let is = strip_prefix_is Decides-eqb c.args.text.now c.line.result.now (Some c.in-Some.behind) c.in-Some.ensures.cases in
    IfOk-weaker c.counts_in.result _ _
    (λ counts file. record {
      text_is = is ∙ ap (λ l. l ++ c.in-Some.behind.now) c.line.ensures ∙ ap (λ l. c.args.head.now.line.items ++ l) file.text_is;
      each = file.each;
      small = file.small;
    })
    c.counts_in.ensures.ok

pub returns-in-None-clause-err : goal.returns-in-None-clause-err
returns-in-None-clause-err c =
    let apart = strip_prefix_is Decides-eqb c.args.text.now c.line.result.now None c.in-None.ensures.cases in
    inr (λ counts file. apart (text_of (names_of c.args.tallies.now) counts)
    (file.text_is ∙ ap (λ l. l ++ text_of (names_of c.args.tallies.now) counts) (sym c.line.ensures)))
