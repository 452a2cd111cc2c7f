use Rattle.std.proofs.Common.{◌∙◌, ◌++◌, ◌∷◌, All, decimal, subst, sym}
use Rattle.snl_tallies.proofs.LineLaws.{IsInLine, cut-once, in-line, not-in-line}
use Rattle.snl_tallies.proofs.lines.count_in.Goals as goal

pub returns-in-None-number_in-clause-none : goal.returns-in-None-number_in-clause-none
returns-in-None-number_in-clause-none c n rest small e =
    let cut = c.in-Some.ensures in
    c.in-None-number_in.ensures.none n small (cut-once _ (decimal n) _ rest cut.first (in-line n small) (sym cut.cut ∙ e)).0

pub returns-in-None-clause-none : goal.returns-in-None-clause-none
returns-in-None-clause-none c n rest small e =
    not-in-line (decimal n) rest (subst (All IsInLine) e c.in-None.ensures.none)
