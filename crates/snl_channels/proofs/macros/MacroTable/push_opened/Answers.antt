use Rattle.snl_channels.specs.MacroTables.{value_in}
use Rattle.snl_channels.proofs.MacroLaws.{closed_step, open_step}
use Rattle.snl_channels.proofs.macros.MacroTable.push_opened.Goals as goal

pub returns-in_ok-extend_from_slice-in-Some-clause-replaced :
    goal.returns-in_ok-extend_from_slice-in-Some-clause-replaced
returns-in_ok-extend_from_slice-in-Some-clause-replaced c =
    closed_step (value_in c.args.self.now) c.args.opened.now c.cut_at-inner.result.before.now c.value.result.now c.args.text.now.items _ c.cut_at-inner.result.after c.in-Some.left
    c.cut_at-inner.ensures.before c.cut_at-inner.ensures.after c.in-Some.is c.value.ensures c.in_ok-extend_from_slice-in-Some.ensures.items

pub returns-in_ok-extend_from_slice-in-None-clause-replaced :
    goal.returns-in_ok-extend_from_slice-in-None-clause-replaced
returns-in_ok-extend_from_slice-in-None-clause-replaced c =
    open_step (value_in c.args.self.now) c.args.opened.now c.args.text.now.items c.push.new.self.items _ c.cut_at-inner.result.after
    c.cut_at-inner.ensures.after c.in-None.is c.in_ok-push-in-None.ensures.items c.in_ok-extend_from_slice-in-None.ensures.items
