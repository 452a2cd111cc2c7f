use Rattle.std.proofs.Common.{◌≡◌, ◌++◌, drop}
use Rattle.snl_meaning.specs.Names as spec
use Rattle.snl_meaning.proofs.sites.flag_offsets.Given as goal

-- flags so far, and those that are left
abbrev pub invariant-loop-site : goal.invariant-loop-site
invariant-loop-site l = l.flags.items ++ spec.flags_of (drop l.site-index l.sites) ≡ spec.flags_of l.sites
