use Rattle.std.proofs.Common.{◌≡◌, ℕ, ◌||◌, drop, map}
use Rattle.snl_channels.specs.Facts.{monitored_in}
use Rattle.snl_channels.specs.LinkViews.{said_view}
use Rattle.snl_channels.specs.Links.{is_monitored}
use Rattle.snl_channels.proofs.facts.Monitored.of.Given as goal

-- what is noted, or what the rest says
abbrev pub invariant-loop-said : goal.invariant-loop-said
invariant-loop-said l =
    (v k : ℕ) → (monitored_in l.monitored v k || is_monitored v k (map said_view (drop l.said-index l.all))) ≡ is_monitored v k (map said_view l.all)
