use Rattle.std.proofs.Common.{◌≡◌, ℕ, drop, map}
use Rattle.snl_channels.specs.Facts.{synced_in}
use Rattle.snl_channels.specs.LinkViews.{said_view}
use Rattle.snl_channels.specs.Links.{first_sync}
use Rattle.snl_channels.proofs.facts.Syncs.of.Given as goal

-- what is noted, or what the rest says first
abbrev pub invariant-loop-said : goal.invariant-loop-said
invariant-loop-said l =
    (v k : ℕ) → synced_in l.syncs v k (first_sync v k (map said_view (drop l.said-index l.all))) ≡ first_sync v k (map said_view l.all)
