use Rattle.std.proofs.Common.{◌≡◌, ◌∙◌, ◌<◌, slice_set, ◌^◌, ap, arith, rules, sym, length, pos, get_or, FitsSigned, w64}
use Rattle.std.proofs.lemmas.Int.{to_z-of_z, of_z-to_z}
use Rattle.std.proofs.lemmas.List.{get_or_default, get_or_past, length-set}
use Rattle.std.specs.Int.{cast_unsigned}
use Rattle.snl_vm.specs.Marks.{marks_in}
use Rattle.snl_vm.specs.Pictures.{number_word}
use Rattle.snl_vm.proofs.Pictured.{words-all, words-more}
use Rattle.snl_vm.proofs.marks.Marks.read.Goals as goal

pub loop-number-preserved : goal.loop-number-preserved
loop-number-preserved c =
    let l = c.loop-number in
    let own = c.in-Some.own.now in
    let many = length c.args.self.now.words.items in
    let z = get_or own l.number (pos 0) in
    let fits : FitsSigned w64 z = search rules in
    let all : length own ≡ many = search rules in
    let within : l.number < many = omega (arith, all, c.loop-number-test.true) in
    let did : c.cast_unsigned.result ≡ cast_unsigned w64 z = search (rules, to_z-of_z, c.cast_unsigned.ensures) in
    record {
      words = words-more number_word (λ n. n < 2 ^ 64) many own l.number l.self.words.items z c.cast_unsigned.result l.invariant.words all within
          (get_or_default own l.number (pos 0) z c.loop-number-test.true) (λ x small is. did ∙ ap (cast_unsigned w64) is ∙ of_z-to_z w64 x small);
      count = l.invariant.count;
      start = l.invariant.start;
      end = l.invariant.end ∙ sym (length-set l.self.words.items l.number c.cast_unsigned.result);
    }

pub invariant_of-self-in-loop-number-clause-few : goal.invariant_of-self-in-loop-number-clause-few
invariant_of-self-in-loop-number-clause-few c =
    let l = c.loop-number in omega (arith, length-set l.self.words.items l.number c.cast_unsigned.result, l.self.few)

pub invariant_of-self-in-loop-number-clause-tight : goal.invariant_of-self-in-loop-number-clause-tight
invariant_of-self-in-loop-number-clause-tight c =
    let l = c.loop-number in omega (arith, length-set l.self.words.items l.number c.cast_unsigned.result, l.self.tight)

pub invariant_of-self-in-loop-number-clause-inside : goal.invariant_of-self-in-loop-number-clause-inside
invariant_of-self-in-loop-number-clause-inside c =
    let l = c.loop-number in omega (arith, length-set l.self.words.items l.number c.cast_unsigned.result, l.self.inside)

pub invariant_of-self-in-loop-number-clause-outside : goal.invariant_of-self-in-loop-number-clause-outside
invariant_of-self-in-loop-number-clause-outside c =
    let l = c.loop-number in
    record {
      before = λ k less. absurd (omega (arith, l.invariant.start, less));
      after = λ k beyond. get_or_past (slice_set l.self.words.items l.number c.cast_unsigned.result) k 0
          (omega (arith, length-set l.self.words.items l.number c.cast_unsigned.result, l.invariant.end, beyond));
    }

pub returns-after-loop-number-clause-read : goal.returns-after-loop-number-clause-read
returns-after-loop-number-clause-read c of rest fits words =
    let l = c.loop-number in
    let own = c.in-Some.own.now in
    let m = c.args.self.now in
    let many = length m.words.items in
    let all : length own ≡ many = search rules in
    let same : length of.words.items ≡ many = omega (arith, of.held, of.tight, m.held, m.tight, fits.0) in
    let did = words-all number_word (λ n. n < 2 ^ 64) many own l.number l.self.words.items c.args.from.now c.in-Some.left.now l.invariant.words
    (omega (arith, all, c.loop-number-test.false)) (search rules) (search rules) of.words.items rest (same, fits.1) words in
    (ap (λ ws. marks_in ws l.self.count) did.0 ∙ ap (marks_in of.words.items) (l.invariant.count ∙ sym fits.0), did.1)

pub returns-after-loop-number-clause-count : goal.returns-after-loop-number-clause-count
returns-after-loop-number-clause-count c = c.loop-number.invariant.count
