use Rattle.std.proofs.Common.{◌∙◌, ◌≤◌, List, ap, length, subst, sym}
use Rattle.std.specs.Prelude.{IfOk}
use Rattle.snl_syntax.specs.view.Programs.{program_view}
use Rattle.snl_names.specs.declared.sites.Site.{Site}
use Rattle.snl_names.specs.Programs.{sites}
use Rattle.snl_names.specs.UseTables.{IsUseTable}
use Rattle.snl_flat.specs.Size.{program_size}
use Rattle.snl_flat.specs.Starts.{holds_in, table_of}
use Rattle.snl_code.proofs.checked.compile.Goals as goal

-- the size of the tree that was checked
pub returns-clause-short : goal.returns-clause-short
returns-clause-short c =
    subst (λ p. IfOk c.compile_by.result (λ code. length code.instrs.items ≤ program_size (holds_in (table_of code)) (program_view p))) c.program-program.ensures.tree c.compile_by.ensures.short

-- the table is that of the sites of the checked program
pub of-requires : goal.of-requires
of-requires c = record { uses = subst (λ (all : List Site). IsUseTable c.uses.result.now all) (sym c.sites.ensures) c.uses.ensures }

-- the sites are those of the tree that was checked
pub compile_by-requires-clause-sites : goal.compile_by-requires-clause-sites
compile_by-requires-clause-sites c = c.in_ok-sites.ensures ∙ c.sites.ensures ∙ ap (λ p. sites (program_view p)) (sym c.program-program.ensures.tree)
