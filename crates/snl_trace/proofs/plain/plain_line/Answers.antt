use Rattle.std.proofs.Common.{◌≢◌, ◌≤◌, ◌++◌, ◌∷◌, ◌∙◌, All, length, sym, ap, subst, arith}
use Rattle.snl_trace.specs.Grammar.{Told, told_of}
use Rattle.snl_trace.specs.Seen as seen
use Rattle.snl_trace.proofs.PlainLaws.{IsRead, line-cut, line-told, line-whole, read-line}
use Rattle.snl_trace.proofs.plain.plain_line.Goals as goal

-- what it tells
abbrev told : goal.Else-line-gt-LINE_LIMIT → Told
told c = seen.told c.telling.new.values.items c.in_ok-telling.telling

-- what was read
read : (c : goal.Else-line-gt-LINE_LIMIT) → IsRead c.in_ok-ms.ms (told c) c.args.text.now c.in_ok-telling.rest.now
read c = read-line c.in_ok-ms.ms (told c) c.args.text.now c.in_ok-ms.left.now c.in_ok-telling.rest.now c.in_ok-ms.ensures c.in_ok-telling.ensures

pub returns-clause-cut : goal.returns-clause-cut
returns-clause-cut c =
    let r = read c in
    let rest = c.in_ok-telling.rest.now in
    r.is ∙ ap (λ z. z ++ 10 ∷ rest) (sym (line-cut r.line c.args.text.now rest r.is))

pub returns-clause-first : goal.returns-clause-first
returns-clause-first c =
    let r = read c in
    subst (All (λ byte. byte ≢ 10)) (sym (line-cut r.line c.args.text.now c.in_ok-telling.rest.now r.is)) (line-whole c.in_ok-ms.ms (told c) r.line r.plain)

pub returns-clause-told : goal.returns-clause-told
returns-clause-told c =
    let r = read c in
    let cut = line-cut r.line c.args.text.now c.in_ok-telling.rest.now r.is in
    let short : length r.line ≤ 32768 = omega (arith, ap length cut, c.if-line-gt-LINE_LIMIT.false) in
    ap (told_of c.args.last_ms) cut ∙ line-told c.args.last_ms c.in_ok-ms.ms (told c) r.line c.if-ms-last_ms.false short r.plain
