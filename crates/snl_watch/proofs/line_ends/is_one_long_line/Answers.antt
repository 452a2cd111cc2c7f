use Rattle.std.proofs.Common.{arith, inl, inr}
use Rattle.std.proofs.lemmas.Bool.{cases_lt}
use Rattle.snl_watch.proofs.LineLaws.{in-line-before}
use Rattle.snl_watch.proofs.line_ends.is_one_long_line.Goals as goal

pub returns : goal.returns
returns c = λ one. in-line-before c.args.text.now (λ j below. elim (cases_lt j c.loop-place.place) [
  | inl before ↦ c.loop-place.invariant j (omega arith) before
  | inr behind ↦ c.has_none_at-2.ensures one j (omega (arith, behind, c.loop-place-test.false)) (omega (arith, below, c.requires))
])
