use Rattle.std.proofs.Common.{sym, ap, ◌∙◌}
use Rattle.std.specs.Option.{option_or}
use Rattle.snl_channels.specs.Macros.{last_value, definitions}
use Rattle.snl_channels.specs.MacroTables.{found_in}
use Rattle.snl_channels.specs.MacroViews.{left_of}
use Rattle.snl_channels.proofs.MacroLaws.{left_falls, piece_step}
use Rattle.snl_channels.proofs.macros.MacroTable.note_all.Goals as goal

pub loop-left-smaller : goal.loop-left-smaller
loop-left-smaller c = left_falls c.loop-left.left c.cut_at-part.result.after c.in-Some.text c.in-Some.is c.cut_at-part.ensures.shorter

pub loop-left-preserved : goal.loop-left-preserved
loop-left-preserved c =
    λ q. piece_step q c.in-Some.text.now c.cut_at-part.result.before.now c.cut_at-part.result.after (found_in c.loop-left.self q) (found_in c.note.new.self q) _
    c.cut_at-part.ensures.before c.cut_at-part.ensures.after (c.in_ok-note.ensures q)
    (ap (λ o. option_or (last_value q (left_of definitions o)) (found_in c.loop-left.self q)) (sym c.in-Some.is) ∙ c.loop-left.invariant q)
