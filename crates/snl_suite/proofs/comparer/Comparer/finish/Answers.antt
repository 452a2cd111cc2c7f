use Rattle.std.proofs.Common.{ap, arith, length, sym, ◌≡◌, ◌<◌, ◌++◌, ◌∙◌, ℕ, List}
use Rattle.snl_suite.proofs.AgreementLaws.{settled-apart, settled-shorter}
use Rattle.snl_suite.proofs.comparer.Comparer.finish.Goals as goal

pub returns-then-self-clause-settled : goal.returns-then-self-clause-settled
returns-then-self-clause-settled g c =
    let s = c.look_ahead.new.self in
    settled-apart s.told.bytes (g.W.Source.gave s.ahead.inner) (g.W.Source.ended s.ahead.inner) (g.W.Source.broke s.ahead.inner) (s.apart c.if-self.true)

pub returns-clause-settled : goal.returns-clause-settled
returns-clause-settled g c =
    let s = c.look_ahead.new.self in
    let w : List ℕ = c.text-rest.result.now in
    let read = sym c.has_failed.ensures ∙ c.if-has_failed.false in
    let are = s.ahead.gave ∙ (λ j. sym (s.same c.if-self.false read) j ++ sym c.text-rest.ensures j) in
    let some : 0 < length w = grind (arith, c.is_empty.ensures, c.if-is_empty.false) in
    settled-shorter s.told.bytes w (g.W.Source.gave s.ahead.inner) (g.W.Source.ended s.ahead.inner) (g.W.Source.broke s.ahead.inner) are some
