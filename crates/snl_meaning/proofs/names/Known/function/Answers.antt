use Rattle.std.proofs.Common.{◌∙◌, sym, arith}
use Rattle.snl_meaning.proofs.Named.{found, past, nowhere}
use Rattle.snl_meaning.proofs.names.Known.function.Goals as goal

-- one of those above
pub returns-then-number-self : goal.returns-then-number-self
returns-then-number-self c =
    let all = c.args.self.now.functions.now in
    let number = c.in_ok-number.number in
    sym (found c.args.self.now.above 0 all c.args.name.text.now number (sym c.find.ensures ∙ c.in_ok-number.was) (omega (arith, c.if-number-self.true)))

-- one further down
pub returns-else-number-self : goal.returns-else-number-self
returns-else-number-self c =
    let all = c.args.self.now.functions.now in
    let number = c.in_ok-number.number in
    sym (past c.args.self.now.above 0 all c.args.name.text.now number (sym c.find.ensures ∙ c.in_ok-number.was) (omega (arith, c.if-number-self.false)))

-- no function
pub returns-in_err-number : goal.returns-in_err-number
returns-in_err-number c =
    c.from_residual.ensures ∙ sym (nowhere c.args.self.now.above 0 c.args.self.now.functions.now c.args.name.text.now (sym c.find.ensures ∙ c.in_err-number.was))
