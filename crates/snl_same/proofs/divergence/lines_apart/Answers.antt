use Rattle.std.proofs.Common.{◌≡◌, ◌∙◌, ℕ, List, map, refl, sym}
use denote.Ref.{Bor}
use Rattle.snl_same.specs.Firsts.{first_difference}
use Rattle.snl_same.specs.Kept.{kept}
use Rattle.snl_same.proofs.FirstLaws.{same-by-none}
use Rattle.snl_same.proofs.divergence.lines_apart.Goals as goal

pub returns-in-None : goal.returns-in-None
returns-in-None c =
    let now = λ (x : Bor (List ℕ)). x.now in
    let lines : map now c.as_slice.result.now ≡ kept c.args.filter c.args.old.now = rw c.as_slice.ensures.value c.in_ok-lines.ensures in
    let others : map now c.as_slice-2.result.now ≡ kept c.args.filter c.args.new.now = rw c.as_slice-2.ensures.value c.in_ok-others.ensures in (
      same-by-none (kept c.args.filter c.args.old.now) (kept c.args.filter c.args.new.now)
          (sym (λ j. first_difference (lines j) (others j)) ∙ sym c.in-None.ensures),
      refl,
    )
