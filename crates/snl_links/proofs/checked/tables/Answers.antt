use Rattle.std.proofs.Common.{◌≡◌, ◌++◌, subst}
use Rattle.std.specs.Prelude.{OnErr, OnOk}
use Rattle.snl_syntax.specs.view.Programs.{program_view}
use Rattle.snl_channels.specs.Appended.{Begun}
use Rattle.snl_channels.specs.Tables.{tables}
use Rattle.snl_links.proofs.checked.tables.Goals as goal

-- the tables of the tree that was checked
pub returns-clause-whole : goal.returns-clause-whole
returns-clause-whole c =
    subst (λ p. OnOk c.tables_of.result (c.tables_of.new.out.items ≡ c.args.out.now.items ++ tables (program_view p))) c.program.ensures.tree c.tables_of.ensures.whole

pub returns-clause-begun : goal.returns-clause-begun
returns-clause-begun c =
    subst (λ p. OnErr c.tables_of.result (Begun c.args.out.now.items c.tables_of.new.out.items (tables (program_view p)))) c.program.ensures.tree c.tables_of.ensures.begun
