use Rattle.std.proofs.Common.{sym}
use Rattle.snl_names.proofs.FormLaws.{no_async_of_two}
use Rattle.snl_names.proofs.calls.has_async.Goals as goal

pub returns-in_default-2 : goal.returns-in_default-2
returns-in_default-2 c = sym (no_async_of_two c.args.behind.now c.in_default.len_at_least)
