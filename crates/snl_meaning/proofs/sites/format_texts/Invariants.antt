use Rattle.std.proofs.Common.{◌≡◌, ◌++◌, drop, map}
use Rattle.std.specs.List.{flat_map}
use Rattle.snl_meaning.specs.Names.{format_at}
use Rattle.snl_meaning.proofs.sites.format_texts.Given as goal

-- strings so far, and those that are left
abbrev pub invariant-loop-site : goal.invariant-loop-site
invariant-loop-site l = map (λ t. t.now) l.texts.items ++ flat_map format_at (drop l.site-index l.sites) ≡ flat_map format_at l.sites
