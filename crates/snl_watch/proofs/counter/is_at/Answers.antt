use Rattle.std.proofs.Common.{rules, ◌≡◌, ◌<◌, ◌∙◌, sym, ap, Some, slice_get, length}
use Rattle.std.proofs.lemmas.Bool.Decides.{Decides-eqb}
use Rattle.std.proofs.lemmas.Slice.Eq.{slice_eq-Decides}
use Rattle.std.proofs.lemmas.Option.{get_or_from_slice_get, slice_get_within}
use Rattle.snl_watch.proofs.KeyPlaces.{place-at}
use Rattle.snl_watch.proofs.counter.is_at.Goals as goal

pub returns-in-Some : goal.returns-in-Some
returns-in-Some c equal =
    let keys = c.args.keys.now.keys in
    let key = c.in-Some.key.now in
    let at : slice_get keys c.args.number ≡ Some key = search rules in
    let is = get_or_from_slice_get keys c.args.number key key at in
    place-at (λ name. name.items) keys c.args.number key c.args.name.now c.iter-unique.ensures.unique (slice_get_within keys c.args.number key at)
    (ap (λ name. name.items) is ∙ sym c.as_slice.ensures.value ∙ (slice_eq-Decides Decides-eqb c.as_slice.result.now c.args.name.now c.eq.result c.eq.ensures).0 equal)
