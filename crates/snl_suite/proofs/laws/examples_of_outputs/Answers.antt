use Rattle.std.proofs.Common.{refl, codes, true, false, [], ◌≡◌, ◌≢◌, List, ℕ, ap, arith, get_or, take}
use Rattle.snl_suite.proofs.AgreementLaws.{apart-here, apart-longer, settled-apart, settled-shorter}
use Rattle.snl_suite.proofs.laws.examples_of_outputs.Goals as goal

pub returns : goal.returns
returns c =
    let differ : take 3 (codes "0 no\n") ≢ take 3 (codes "0 go\n") = λ same. let byte : 110 ≡ 103 = ap (λ (l : List ℕ). get_or l 2 0) same in absurd (omega (arith, byte)) in
    let here = apart-here [] (codes "0 go\n") (codes "0 no\n") (codes "0 no\n") 3 false refl (omega arith) (omega arith) differ in
    let longer = apart-longer (codes "0 go\n") (codes "1 go\n") [] (codes "0 go\n") true refl refl refl (omega arith) in
    record {
      same = (refl, refl);
      other = settled-apart (codes "0 go\n") (codes "0 no\n") false false here;
      shorter = settled-shorter (codes "0 go\n") (codes "1 go\n") (codes "0 go\n1 go\n") false false refl (omega arith);
      longer = settled-apart (codes "0 go\n1 go\n") (codes "0 go\n") true false longer;
      unfinished = λ it. absurd cc;
      alike = λ apart. absurd (apart [] (λ over. refl) refl);
    }
