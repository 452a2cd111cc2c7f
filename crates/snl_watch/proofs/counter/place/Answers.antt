use Rattle.std.proofs.Common.{◌∙◌, sym, nat_eq}
use Rattle.std.specs.Cmp.Lexicographic.{pointwise}
use Rattle.snl_watch.proofs.KeyPlaces.{position-map}
use Rattle.snl_watch.proofs.counter.place.Goals as goal

pub returns : goal.returns
returns c = c.get_index_of.ensures.index ∙ sym (position-map (λ name. name.items) (pointwise nat_eq c.args.name.now) c.args.keys.now.keys)
