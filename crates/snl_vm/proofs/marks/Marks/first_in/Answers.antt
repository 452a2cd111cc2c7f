use Rattle.std.proofs.Common.{rules, ◌*◌, ◌/◌, ◌<◌, ◌^◌, ◌∙◌, ℕ, Option, subst, sym, inl, inr, arith}
use Rattle.std.proofs.lemmas.Bool.{cases_lt}
use Rattle.snl_vm.specs.Marks.{marks_of, IsFirst}
use Rattle.snl_vm.proofs.Bits.{first-word, none-word, first-later, zero-word, word-read}
use Rattle.snl_vm.proofs.marks.Marks.first_in.Goals as goal

pub returns-then-left-ne0 : goal.returns-then-left-ne0
returns-then-left-ne0 c =
    let words = c.args.self.now.words.items in
    let marks = marks_of c.args.self.now in
    let number = c.loop-number.number in
    let left = c.index-left.result.now in
    let fits : left < 2 ^ 64 = search rules in
    first-later marks (64 * c.args.word) (64 * number) c.within.result (search rules) c.loop-number.invariant
    (subst (λ (o : Option ℕ). IsFirst marks (64 * number) o) (sym c.within.ensures)
    (first-word words c.args.self.now.count number left (word-read words _ left (search rules) c.index-left.ensures) (search rules) fits))

pub loop-number-preserved : goal.loop-number-preserved
loop-number-preserved c k from below =
    let words = c.args.self.now.words.items in
    elim (cases_lt k (64 * c.loop-number.number)) [
      | inl before ↦ c.loop-number.invariant k from before
      | inr here ↦ none-word words c.args.self.now.count c.loop-number.number (word-read words _ c.index-left.result.now (search rules) c.index-left.ensures ∙ c.if-left-ne0.false) k here below
    ]

pub returns : goal.returns
returns c k from =
    elim (cases_lt k (64 * c.loop-number.number)) [
      | inl before ↦ c.loop-number.invariant k from before
      | inr beyond ↦ zero-word c.args.self.now.words.items c.args.self.now.count k (c.args.self.now.outside.after (k / 64) (omega (arith, c.loop-number-test.false, beyond)))
    ]
