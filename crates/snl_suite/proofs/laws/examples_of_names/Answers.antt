use Rattle.std.proofs.Common.{refl, codes, [], ◌∷◌, ◌++◌, ◌≡◌, List, ℕ, Some, None, arith, subst, sym}
use Rattle.snl_suite.specs.Fitting.{IsDay, IsProgramOf}
use Rattle.snl_suite.proofs.FittingLaws.{program-first, program-longer}
use Rattle.std.proofs.lemmas.List.{append_cancel_left}
use Rattle.std.proofs.lemmas.List.Elements.{All-nil}
use Rattle.snl_suite.proofs.laws.examples_of_names.Goals as goal

pub returns : goal.returns
returns c =
    let none : (stem : List ℕ) → IsProgramOf [] stem None = λ stem. All-nil _ in
    record {
      own = program-first [] (codes "light") (codes "light") ([], refl, tt) (none (codes "light"));
      day = program-first [] (codes "light-monday") (codes "light") (codes "-monday", refl, refl) (none (codes "light-monday"));
      none = λ (rest, is, day). let byte : 115 ≡ 45 = subst IsDay (append_cancel_left (codes "light") rest (codes "s") (sym is)) day in absurd (omega (arith, byte));
      longest = program-longer (codes "lock" ∷ []) (codes "lock-watched-down") (codes "lock-watched") (codes "lock") (codes "-down", refl, refl) (omega arith)
          (program-first [] (codes "lock-watched-down") (codes "lock") (codes "-watched-down", refl, refl) (none (codes "lock-watched-down")));
    }
