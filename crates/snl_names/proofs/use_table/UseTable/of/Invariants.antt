use Rattle.std.proofs.Common.{◌≡◌, ℕ, drop}
use Rattle.snl_names.specs.Uses.{declared_in}
use Rattle.snl_names.specs.UseTables.{place_in}
use Rattle.snl_names.proofs.use_table.UseTable.of.Given as goal

abbrev pub invariant-loop-site : goal.invariant-loop-site
invariant-loop-site l = (q : ℕ) → place_in l.places q (declared_in q (drop l.site-index l.sites)) ≡ declared_in q l.sites
