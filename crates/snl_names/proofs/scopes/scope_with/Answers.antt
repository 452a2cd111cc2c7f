use Rattle.std.proofs.Common.{[], ◌++◌}
use Rattle.snl_names.specs.Sites.{declares}
use Rattle.snl_names.specs.Tables.{found_in}
use Rattle.snl_names.proofs.TableLaws.{table_step, declared_step}
use Rattle.snl_names.proofs.scopes.scope_with.Goals as goal

pub loop-name-preserved : goal.loop-name-preserved
loop-name-preserved c =
    let names = c.deref-name-items.result.now in (
      table_step names c.loop-name.name-index _ c.loop-name-test.true (found_in c.loop-name.firsts) (found_in c.note_declared.new.firsts)
          c.loop-name.invariant.0 c.in_ok-note_declared.ensures.firsts,
      declared_step names c.loop-name.name-index _ c.loop-name-test.true (found_in c.loop-name.firsts)
          c.loop-name.sites.items c.note_declared.new.sites.items (c.args.sites.now.items ++ declares [] names)
          c.loop-name.invariant.0 c.loop-name.invariant.1 c.in_ok-note_declared.ensures.sites,
    )
