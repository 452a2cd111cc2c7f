use Rattle.std.proofs.Common.{ap, sym, ◌∙◌}
use Rattle.std.proofs.lemmas.Slice.Eq.{bytes_eq-Decides}
use Rattle.snl_same.specs.Kept.{kept}
use Rattle.snl_same.proofs.divergence.apart_at.Goals as goal

pub returns-then-eq : goal.returns-then-eq
returns-then-eq c =
    c.ends_apart.ensures c.args.filter c.args.old.now c.args.new.now
    (ap (kept c.args.filter) ((bytes_eq-Decides c.args.old.now c.args.new.now).0 (sym c.eq.ensures ∙ c.if-eq.true)))
