-- What a sink tells of small texts.
use Rattle.std.proofs.Common.{◌≡◌, ◌∙◌, ℕ, List, [], ◌++◌, codes, arith, refl, ap}
use Rattle.snl_output.specs.Examples.{Held, HoldExamples, Told, WriteExamples, failed, well}

-- what was taken of `cd`, where more than `ab` is told
taken-is : (more : List ℕ) (cut : Told failed (codes "ab" ++ more)) → cut.taken ≡ more
taken-is more cut = cc

-- all of it was taken, so no rest is lost
not-all : Told failed (codes "abcd") → ⊥
not-all cut =
    let is : codes "cd" ≡ codes "cd" ++ cut.rest = cut.is ∙ ap (λ t. t ++ cut.rest) (taken-is (codes "cd") cut) in
    let none : cut.rest ≡ [] = cc in
    cut.lost none

-- `c` is not `d`
apart : ◌≡◌ {A = ℕ} 99 100 → ⊥
apart e = omega (arith, e)

-- its end alone
not-end : Told failed (codes "abd") → ⊥
not-end cut =
    let is : codes "cd" ≡ codes "d" ++ cut.rest = cut.is ∙ ap (λ t. t ++ cut.rest) (taken-is (codes "d") cut) in
    absurd (apart (cc))

-- what was handed over and what is held back make up the text
not-lost : (held more : List ℕ) → (codes "cd" ≡ more ++ held → ⊥) → Held well held (codes "ab" ++ more) → ⊥
not-lost held more other kept =
    let sent : kept.sent ≡ more = cc in
    other (kept.is ∙ ap (λ t. t ++ held) sent)

-- of writes
pub examples_of_writes : WriteExamples
examples_of_writes = record {
  all = refl;
  lost = λ told. absurd (cc);
  none = record { taken = []; rest = codes "cd"; is = refl; lost = λ e. absurd (cc); told = refl };
  part = record { taken = codes "c"; rest = codes "d"; is = refl; lost = λ e. absurd (cc); told = refl };
  whole = not-all;
  end = not-end;
  before = λ cut. absurd (cc);
}

-- of lines
pub examples_of_lines : HoldExamples
examples_of_lines = record {
  kept = record { sent = []; is = refl; told = refl };
  sent = record { sent = codes "c"; is = refl; told = refl };
  lost = not-lost [] (codes "c") (λ e. absurd (cc));
  twice = not-lost (codes "cd") (codes "c") (λ e. absurd (cc));
  part = record { taken = codes "c"; rest = codes "d"; is = refl; lost = λ e. absurd (cc); told = refl };
  whole = not-all;
}
