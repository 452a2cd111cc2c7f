use Rattle.std.proofs.Common.{sym}
use Rattle.snl_names.proofs.FormLaws.{no_put_of_three}
use Rattle.snl_names.proofs.calls.fits_put.Goals as goal

pub returns-in_default : goal.returns-in_default
returns-in_default c = sym (no_put_of_three c.args.first.now c.args.behind.now c.in_default.len_at_least)
