-- The code of a program is no longer than the size of the program by the states that the code holds.
use Rattle.std.proofs.Common.{◌≡◌, ◌≤◌, ◌∙◌, ap, subst, sym, length}
use Rattle.snl_syntax.specs.Programs.{ProgramTree}
use Rattle.snl_flat.specs.declared.code.Code.{Code}
use Rattle.snl_flat.specs.Layout.{program_code, program_starts}
use Rattle.snl_flat.specs.Reached.{Table}
use Rattle.snl_flat.specs.Size.{program_size}
use Rattle.snl_flat.specs.Starts.{ProgramTable, table_of, holds_in}
use Rattle.snl_flat.proofs.CodeShort.{code-short, size-alike}
use Rattle.snl_flat.proofs.Placed.{held-is}

-- what the code holds is what is reached, so the two sizes are one
pub short : (p : ProgramTree) (reached : Table) (c : Code) → c.instrs.items ≡ program_code reached p → table_of c ≡ program_starts reached p →
    length c.instrs.items ≤ program_size (holds_in (table_of c)) p
short p reached c is starts =
    let same : program_size (holds_in (table_of c)) p ≡ program_size reached p =
    ap (λ (t : ProgramTable). program_size (holds_in t) p) starts ∙ size-alike p (holds_in (program_starts reached p)) reached (held-is p reached) in
    subst (λ n. length c.instrs.items ≤ n) (sym same) (code-short p reached c.instrs.items is)
