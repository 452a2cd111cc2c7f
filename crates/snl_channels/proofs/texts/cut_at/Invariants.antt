use Rattle.std.proofs.Common.{◌≡◌, ◌++◌, take, drop}
use Rattle.snl_channels.specs.Texts.{before, after}
use Rattle.snl_channels.proofs.texts.cut_at.Given as goal

abbrev pub invariant-loop-index : goal.invariant-loop-index
invariant-loop-index l = record {
  before : take l.index l.text ++ before l.mark (drop l.index l.text) ≡ before l.mark l.text;
  after : after l.mark (drop l.index l.text) ≡ after l.mark l.text;
}
