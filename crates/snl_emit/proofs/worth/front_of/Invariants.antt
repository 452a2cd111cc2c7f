use Rattle.std.proofs.Common.{◌≡◌, List, map, drop}
use Rattle.snl_syntax.specs.view.Lists.{term_list}
use Rattle.snl_syntax.specs.view.Expressions.{pair_of}
use Rattle.snl_meaning.specs.Known.{here_of}
use Rattle.snl_meaning.specs.declared.instrs.Instr.{Instr}
use Rattle.snl_emit.specs.Emission.{front_code}
use Rattle.snl_emit.specs.ExpressionCode.{lead_code}
use Rattle.snl_emit.proofs.worth.front_of.Given as goal

-- the code of the chain is that of what is left of it, behind the front so far
abbrev pub invariant-loop-count : goal.invariant-loop-count
invariant-loop-count l =
    (code : List Instr) → lead_code (here_of l.known) (term_list (map pair_of l.terms)) l.fn.first code
    ≡ lead_code (here_of l.known) (term_list (map pair_of (drop l.count l.terms))) l.left (front_code l.number code)
