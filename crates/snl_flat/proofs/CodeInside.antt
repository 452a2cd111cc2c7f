-- All code of a program lies inside.
use Rattle.std.proofs.Common.{◌≡◌, ◌∙◌, sym, ap, subst, List, length, slice_get}
use Rattle.snl_syntax.specs.Programs.{ProgramTree}
use Rattle.snl_meaning.specs.declared.instrs.Instr.{Instr}
use Rattle.snl_meaning.specs.Run.{Entry}
use Rattle.snl_flat.specs.declared.code.Code.{Code}
use Rattle.snl_flat.specs.Heres.{entries_in}
use Rattle.snl_flat.specs.Inside.{IsEntryInside, LeadsInside, IsInPiece, IsInside}
use Rattle.snl_flat.specs.Layout.{program_code, program_starts}
use Rattle.snl_flat.specs.Reached.{Table}
use Rattle.snl_flat.specs.Starts.{ProgramTable, entries_of, table_of, start_in}
use Rattle.snl_flat.proofs.Inside.{instr-inside, instr-everywhere, entries-count, entry-inside}
use Rattle.snl_flat.proofs.InsidePieces.{own-names}

-- what has the code and the table of a program lies inside
pub code-inside : (p : ProgramTree) (reached : Table) (c : Code) → c.instrs.items ≡ program_code reached p → table_of c ≡ program_starts reached p →
    entries_of c ≡ entries_in p → IsInside p c
code-inside p reached c is table entries = record {
  leads = λ at i there. subst (λ (l : List Instr). LeadsInside (length l) at i) (sym is) (instr-inside p reached at i (ap (λ (l : List Instr). slice_get l at) (sym is) ∙ there)).0;
  names = λ at i there. (instr-inside p reached at i (ap (λ (l : List Instr). slice_get l at) (sym is) ∙ there)).1;
  own = λ name piece start at i is_piece begins inside there.
      own-names p reached name piece start at i is_piece (ap (λ (t : ProgramTable). start_in t name) (sym table) ∙ begins)
      (subst (λ (l : List Instr). IsInPiece l start at) is inside) (ap (λ (l : List Instr). slice_get l at) (sym is) ∙ there);
  everywhere = λ at i less there. instr-everywhere p reached at i less (ap (λ (l : List Instr). slice_get l at) (sym is) ∙ there);
  count = ap length entries ∙ entries-count p;
  entry = λ k e there.
      subst (λ (l : List Instr). IsEntryInside p (length l) e) (sym is) (entry-inside p reached k e (ap (λ (es : List Entry). slice_get es k) (sym entries) ∙ there));
}
