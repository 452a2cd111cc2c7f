use Rattle.snl_syntax.specs.view.Programs.{program_view}
use Rattle.snl_tree.proofs.code.OnlyFaults.{only_unexpected, only_too_deep, unboxed_only, unboxed_says}
use Rattle.snl_tree.proofs.parsing.parse.Goals as goal

-- the program given is well formed and spelled by the tokens
pub returns-clause-found : goal.returns-clause-found
returns-clause-found c =
    let within = c.parse_within.ensures in
    let says = unboxed_says program_view 64 c.args.lexed.now.tokens.items c.parse_within.result record { found = within.found; unexpected = within.unexpected; too_deep = within.too_deep } in
    rw c.unboxed.ensures says.found

-- the program given is the one that the tokens spell
pub returns-clause-only : goal.returns-clause-only
returns-clause-only c = λ p g k. rw c.unboxed.ensures (unboxed_only program_view p c.parse_within.result (c.parse_within.ensures.only p g k))

-- a token that is named as unexpected is so
pub returns-clause-unexpected : goal.returns-clause-unexpected
returns-clause-unexpected c = λ k e.
    let within = c.parse_within.ensures in
    let says = unboxed_says program_view 64 c.args.lexed.now.tokens.items c.parse_within.result record { found = within.found; unexpected = within.unexpected; too_deep = within.too_deep } in
    says.unexpected k (rw c.unboxed.ensures at e)

-- a token that is named as nested too deep is so
pub returns-clause-too_deep : goal.returns-clause-too_deep
returns-clause-too_deep c = λ k e.
    let within = c.parse_within.ensures in
    let says = unboxed_says program_view 64 c.args.lexed.now.tokens.items c.parse_within.result record { found = within.found; unexpected = within.unexpected; too_deep = within.too_deep } in
    says.too_deep k (rw c.unboxed.ensures at e)

-- a token that is unexpected is the fault given
pub returns-clause-only_unexpected : goal.returns-clause-only_unexpected
returns-clause-only_unexpected c = λ k u.
    let within = c.parse_within.ensures in
    let says = unboxed_says program_view 64 c.args.lexed.now.tokens.items c.parse_within.result record { found = within.found; unexpected = within.unexpected; too_deep = within.too_deep } in
    rw c.unboxed.ensures (only_unexpected program_view 64 c.args.lexed.now.tokens.items _ says k u)

-- a token that is nested too deep is the fault given
pub returns-clause-only_too_deep : goal.returns-clause-only_too_deep
returns-clause-only_too_deep c = λ k d.
    let within = c.parse_within.ensures in
    let says = unboxed_says program_view 64 c.args.lexed.now.tokens.items c.parse_within.result record { found = within.found; unexpected = within.unexpected; too_deep = within.too_deep } in
    rw c.unboxed.ensures (only_too_deep program_view 64 c.args.lexed.now.tokens.items _ says k d)
