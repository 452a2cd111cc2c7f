use Rattle.std.proofs.Common.{◌≡◌, ℕ, List}
use Rattle.std.specs.Option.{option_or}
use Rattle.snl_channels.specs.Macros.{last_value, definitions}
use Rattle.snl_channels.specs.MacroTables.{found_in}
use Rattle.snl_channels.specs.MacroViews.{left_of, left_size}
use Rattle.snl_channels.proofs.macros.MacroTable.note_all.Given as goal

-- what is left to be noted, after what is noted, is all that the text defines
abbrev pub invariant-loop-left : goal.invariant-loop-left
invariant-loop-left l =
    (q : List ℕ) → option_or (last_value q (left_of definitions l.left)) (found_in l.self q)
    ≡ option_or (last_value q (definitions l.fn.text)) (found_in l.initial.self q)

abbrev pub decreases-loop-left : goal.decreases-loop-left
decreases-loop-left l = left_size l.left
