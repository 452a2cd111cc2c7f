use Rattle.std.proofs.Common.{◌≡◌, None, Some, subst}
use Rattle.memchr.specs.Find.{IsFirstByte, is_byte}
use Rattle.snl_watch.proofs.LineLaws.{in-line-first, in-line-none}
use Rattle.snl_watch.proofs.line_ends.line_end.Goals as goal

pub returns-in-Some-clause-line : goal.returns-in-Some-clause-line
returns-in-Some-clause-line c =
    let some : c.memchr.result ≡ Some c.in-Some.at = cc in
    in-line-first c.args.text.now c.in-Some.at (subst (IsFirstByte (is_byte 10) c.args.text.now) some c.memchr.ensures)

pub returns-in-None-clause-line : goal.returns-in-None-clause-line
returns-in-None-clause-line c =
    let none : c.memchr.result ≡ None = cc in
    in-line-none c.args.text.now (subst (IsFirstByte (is_byte 10) c.args.text.now) none c.memchr.ensures)
