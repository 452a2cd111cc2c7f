use Rattle.std.proofs.Common.{◌≡◌, ◌++◌, None}
use Rattle.snl_channels.specs.Macros.{replaced}
use Rattle.snl_channels.specs.MacroTables.{value_in}
use Rattle.snl_channels.specs.MacroViews.{left_of, left_size}
use Rattle.snl_channels.proofs.macros.MacroTable.push_replaced.Given as goal

abbrev pub invariant-loop-left : goal.invariant-loop-left
invariant-loop-left l =
    l.text.items ++ left_of (replaced (value_in l.self) None) l.left
    ≡ l.initial.text.items ++ replaced (value_in l.self) None l.fn.name

abbrev pub decreases-loop-left : goal.decreases-loop-left
decreases-loop-left l = left_size l.left
