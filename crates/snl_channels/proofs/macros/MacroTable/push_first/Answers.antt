use Rattle.std.proofs.Common.{◌∙◌}
use Rattle.snl_channels.specs.MacroTables.{value_in}
use Rattle.snl_channels.proofs.MacroLaws.{first_step, plain_step, follows}
use Rattle.snl_channels.proofs.macros.MacroTable.push_first.Goals as goal

pub returns-in-Some-clause-replaced : goal.returns-in-Some-clause-replaced
returns-in-Some-clause-replaced c =
    follows c.push_opened.result (λ x e. e ∙ first_step (value_in c.args.self.now) c.args.name.now c.cut_at-outer.result.before.now c.args.text.now.items c.extend_from_slice.new.self.items
    c.cut_at-outer.result.after c.in-Some.opened c.cut_at-outer.ensures.before c.cut_at-outer.ensures.after c.in-Some.is c.in_ok-extend_from_slice.ensures.items) c.push_opened.ensures.replaced

pub returns-in-None-clause-replaced : goal.returns-in-None-clause-replaced
returns-in-None-clause-replaced c =
    plain_step (value_in c.args.self.now) c.args.name.now c.cut_at-outer.result.before.now c.args.text.now.items c.extend_from_slice.new.self.items c.cut_at-outer.result.after
    c.cut_at-outer.ensures.before c.cut_at-outer.ensures.after c.in-None.is c.in_ok-extend_from_slice.ensures.items
