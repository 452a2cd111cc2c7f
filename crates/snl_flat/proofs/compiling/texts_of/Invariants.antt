use Rattle.std.proofs.Common.{◌≡◌, ◌++◌, drop, map}
use Rattle.std.specs.List.{flat_map}
use Rattle.snl_meaning.specs.Names.{format_at}
use Rattle.snl_flat.proofs.compiling.texts_of.Given as goal

abbrev pub invariant-loop-site : goal.invariant-loop-site
invariant-loop-site l = map (λ t. t.items) l.texts.items ++ flat_map format_at (drop l.site-index l.sites) ≡ flat_map format_at l.sites
