use Rattle.std.proofs.Common.{◌≡◌, ◌≤◌, None, is_some, IfSome, drop}
use Rattle.snl_channels.specs.MacroTables.{found_in}
use Rattle.snl_lints.specs.Channels.{has_undefined, kept_at}
use Rattle.snl_lints.proofs.channels.has_undefined.Given as goal

-- what is left has such a macro, with what is open, where the name has one
abbrev pub invariant-loop-at : goal.invariant-loop-at
invariant-loop-at l = record {
  left : has_undefined (λ q. is_some (found_in l.macros q)) (kept_at l.name l.at l.opened) (drop l.at l.name)
      ≡ has_undefined (λ q. is_some (found_in l.macros q)) None l.name;
  behind : IfSome l.opened (λ from. from ≤ l.at);
}
