use Rattle.std.proofs.Common.{◌≡◌, ◌∙◌, ◌++◌, ◌∷◌, [], ap, decimal, sym}
use Rattle.std.proofs.lemmas.List.{append_cancel_left}
use Rattle.std.proofs.lemmas.Option.{IfSome_then}
use Rattle.snl_tallies.proofs.LineLaws.{line-ahead, none-then}
use Rattle.snl_tallies.proofs.lines.first_count.Goals as goal

pub returns-in-Some-clause-some : goal.returns-in-Some-clause-some
returns-in-Some-clause-some c =
    let name = c.args.name.now in
    IfSome_then c.count_in.result c.count_in.ensures.some
    (λ found is. c.in-Some.ensures.some ∙ ap (λ l. name ++ 32 ∷ l) is ∙ sym (line-ahead name found.rest.now found.count))

pub returns-in-Some-clause-none : goal.returns-in-Some-clause-none
returns-in-Some-clause-none c =
    let name = c.args.name.now in
    let behind = c.in-Some.behind.now in
    none-then c.count_in.result c.count_in.ensures.none
    (λ other n rest small e. other n rest small
    (append_cancel_left (32 ∷ []) behind (decimal n ++ 10 ∷ rest)
    (append_cancel_left name (32 ∷ behind) (32 ∷ (decimal n ++ 10 ∷ rest)) (sym c.in-Some.ensures.some ∙ e ∙ line-ahead name rest n))))

pub returns-in-None-clause-none : goal.returns-in-None-clause-none
returns-in-None-clause-none c n rest small e =
    c.in-None.ensures.none (decimal n ++ 10 ∷ rest) (e ∙ line-ahead c.args.name.now rest n)
