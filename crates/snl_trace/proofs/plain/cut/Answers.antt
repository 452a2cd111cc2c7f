use Rattle.std.proofs.Common.{◌≡◌, ◌∷◌, drop, arith}
use Rattle.std.proofs.lemmas.List.{take_rest}
use Rattle.snl_trace.proofs.PlainLaws.{begins-number}
use Rattle.snl_trace.proofs.plain.cut.Goals as goal

pub returns : goal.returns
returns c =
    let behind : drop c.args.count c.args.text.now ≡ c.in_ok-stop.stop.now ∷ c.in_ok-stop.rest.now =
    rw take_rest at c.in_ok-stop.ensures.cases.0 in
    begins-number c.args.number c.args.count c.args.most c.in_ok-stop.stop.now c.args.text.now c.in_ok-stop.rest.now c.requires (omega (arith, c.if-count-eq0.false)) behind
