use Rattle.std.proofs.Common.{rules, ◌≡◌, ◌+◌, ◌*◌, ◌/◌, ◌%◌, ◌<◌, ◌^◌, ℕ, Option, ap, subst, sym, arith, w64}
use Rattle.std.proofs.lemmas.Nat.{shr_le}
use Rattle.std.specs.Int.{trailing_zeros}
use Rattle.snl_vm.specs.Marks.{marks_of, IsFirst, if_within}
use Rattle.snl_vm.proofs.Bits.{first-left, none-left, left-inside, first-later, zero-word, word-read}
use Rattle.snl_vm.proofs.marks.Marks.first_from.Goals as goal

pub returns-then-word-self : goal.returns-then-word-self
returns-then-word-self c =
    let m = c.args.self.now in
    first-later (marks_of m) c.args.from (64 * m.start) c.first_in.result (omega (arith, c.if-word-self.true))
    (λ k after before. zero-word m.words.items m.count k (m.outside.before (k / 64) (omega (arith, before)))) c.first_in.ensures

pub returns-then-self-word : goal.returns-then-self-word
returns-then-self-word c k after =
    let m = c.args.self.now in zero-word m.words.items m.count k (m.outside.after (k / 64) (omega (arith, c.if-self-word.true, after)))

pub overflow_add-from : goal.overflow_add-from
overflow_add-from c =
    let words = c.args.self.now.words.items in
    let from = c.args.from in
    let word = c.index.result.now in
    let at = word-read words _ word (search rules) c.index.ensures in
    let fits : word < 2 ^ 64 = search rules in
    let within : from < 2 ^ 64 = search rules in
    let inside = left-inside words c.args.self.now.count (from / 64) (from % 64) (word / 2 ^ (from % 64)) (omega arith) (omega (arith, at, fits))
    (ap (λ w. w / 2 ^ (from % 64)) at) (search rules) (omega (arith, shr_le word (from % 64), fits)) in
    omega (arith, inside, within)

pub returns-then-left-ne0 : goal.returns-then-left-ne0
returns-then-left-ne0 c =
    let words = c.args.self.now.words.items in
    let count = c.args.self.now.count in
    let from = c.args.from in
    let word = c.index.result.now in
    let left = word / 2 ^ (from % 64) in
    let at = word-read words _ word (search rules) c.index.ensures in
    let fits : word < 2 ^ 64 = search rules in
    let whole : 64 * (from / 64) + from % 64 ≡ from = omega arith in
    subst (λ (o : Option ℕ). IsFirst (marks_of c.args.self.now) from o) (sym c.within.ensures)
    (subst (λ a. IsFirst (marks_of c.args.self.now) a (if_within count (a + trailing_zeros w64 left))) whole
    (first-left words count (from / 64) (from % 64) left (omega arith) (omega (arith, at, fits)) (ap (λ w. w / 2 ^ (from % 64)) at) (search rules)
    (omega (arith, shr_le word (from % 64), fits))))

pub returns : goal.returns
returns c =
    let words = c.args.self.now.words.items in
    let from = c.args.from in
    let word = c.index.result.now in
    let at = word-read words _ word (search rules) c.index.ensures in
    let fits : word < 2 ^ 64 = search rules in
    first-later (marks_of c.args.self.now) from (64 * (from / 64 + 1)) c.first_in-2.result (omega arith)
    (λ k after before. none-left words c.args.self.now.count (from / 64) (from % 64) (word / 2 ^ (from % 64)) (omega arith) (omega (arith, at, fits))
    (ap (λ w. w / 2 ^ (from % 64)) at) c.if-left-ne0.false k (omega (arith, after)) before) c.first_in-2.ensures
