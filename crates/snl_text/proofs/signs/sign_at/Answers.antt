use Rattle.std.proofs.Common.{rules}
use Rattle.snl_text.specs.SignsByBytes.{sign_by_bytes}
use Rattle.snl_text.proofs.Listed.{by_bytes}
use Rattle.snl_text.proofs.signs.sign_at.Goals as goal

pub returns-in-Some-clause-value : goal.returns-in-Some-clause-value
unfolding sign_by_bytes
returns-in-Some-clause-value c = rw (← by_bytes c.args.bytes.now) (search rules)

pub returns-in-Some-sign_of_two-clause-value : goal.returns-in-Some-sign_of_two-clause-value
unfolding sign_by_bytes
returns-in-Some-sign_of_two-clause-value c = rw (← by_bytes c.args.bytes.now) (search rules)

pub returns-in_err-kind-clause-value : goal.returns-in_err-kind-clause-value
unfolding sign_by_bytes
returns-in_err-kind-clause-value c = rw (← by_bytes c.args.bytes.now) (search rules)

pub returns-clause-value : goal.returns-clause-value
unfolding sign_by_bytes
returns-clause-value c = rw (← by_bytes c.args.bytes.now) (search rules)
