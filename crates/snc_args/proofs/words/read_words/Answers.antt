use Rattle.std.proofs.Common.{rules, arith, IfErr, IfOk, map, sym, subst, ◌≡◌, None}
use Rattle.std.proofs.lemmas.Result.{IfOk-weaker}
use Rattle.std.specs.String.{string_bytes}
use Rattle.snc_args.specs.Options.{first_refused, options_among, rest_words}
use Rattle.snc_args.specs.Reads.{FailsOn, ReadsTo}
use Rattle.snc_args.specs.declared.words.Tool.{Tool}
use Rattle.snc_args.specs.declared.words.Tool.TheVariants.{Snc, Snlrun}
use Rattle.snc_args.proofs.Jobs.{failed, made}
use Rattle.snc_args.proofs.words.read_words.Goals as goal

pub returns-in-Snc-clause-ok : goal.returns-in-Snc-clause-ok
returns-in-Snc-clause-ok c =
    let ws = map string_bytes c.args.words.now in
    let rest = map (λ w. w.now) c.as_slice.result.now in
    let none : first_refused (options_among ws) ≡ None = search rules in
    let rest_is : rest ≡ rest_words ws = search rules in
    let read = c.read_snc.ensures in
    let options = c.options_in_force-options in
    let job = made Snc ws rest options.result c.read_snc.result none options.ensures rest_is read.faultless read.options read.rows in
    subst (λ (t : Tool). IfOk c.read_snc.result (ReadsTo t ws)) (sym c.in-Snc.is) job

pub returns-clause-ok : goal.returns-clause-ok
returns-clause-ok c =
    let ws = map string_bytes c.args.words.now in
    let rest = map (λ w. w.now) c.as_slice-in-Snlrun.result.now in
    let none : first_refused (options_among ws) ≡ None = search rules in
    let rest_is : rest ≡ rest_words ws = search rules in
    let read = c.read_snlrun.ensures in
    let options = c.options_in_force-options in
    let job = made Snlrun ws rest options.result c.read_snlrun.result none options.ensures rest_is read.faultless read.options read.rows in
    subst (λ (t : Tool). IfOk c.read_snlrun.result (ReadsTo t ws)) (sym c.in-Snlrun.is) job

pub returns-in-Snc-clause-budget : goal.returns-in-Snc-clause-budget
returns-in-Snc-clause-budget c =
    IfOk-weaker c.read_snc.result _ _ (λ job r. (omega (arith, r.budget), omega (arith, r.budget))) c.read_snc.ensures.rows

pub returns-clause-budget : goal.returns-clause-budget
returns-clause-budget c = IfOk-weaker c.read_snlrun.result _ _ (λ job r. r.in_range) c.read_snlrun.ensures.rows

pub returns-in-Snc-clause-err : goal.returns-in-Snc-clause-err
returns-in-Snc-clause-err c =
    let ws = map string_bytes c.args.words.now in
    let rest = map (λ w. w.now) c.as_slice.result.now in
    let none : first_refused (options_among ws) ≡ None = search rules in
    let rest_is : rest ≡ rest_words ws = search rules in
    subst (λ (t : Tool). IfErr c.read_snc.result (FailsOn t ws)) (sym c.in-Snc.is) (failed Snc ws rest c.read_snc.result none rest_is c.read_snc.ensures.err)

pub returns-clause-err : goal.returns-clause-err
returns-clause-err c =
    let ws = map string_bytes c.args.words.now in
    let rest = map (λ w. w.now) c.as_slice-in-Snlrun.result.now in
    let none : first_refused (options_among ws) ≡ None = search rules in
    let rest_is : rest ≡ rest_words ws = search rules in
    subst (λ (t : Tool). IfErr c.read_snlrun.result (FailsOn t ws)) (sym c.in-Snlrun.is)
    (failed Snlrun ws rest c.read_snlrun.result none rest_is c.read_snlrun.ensures.err)
