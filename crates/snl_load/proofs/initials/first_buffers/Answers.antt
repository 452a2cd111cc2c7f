use Rattle.std.proofs.Common.{◌+◌, ◌∷◌, ◌++◌, ◌∙◌, ap, sym, drop, map, append_assoc}
use Rattle.std.proofs.lemmas.List.{drop_more}
use Rattle.std.specs.List.{flat_map}
use Rattle.snl_channels.specs.LinkViews.{link_view}
use Rattle.snl_flat.specs.Copies.{sets_of}
use Rattle.snl_load.specs.Initials.{first_buffer}
use Rattle.snl_load.proofs.initials.first_buffers.Goals as goal

-- one more buffer
pub loop-link-preserved : goal.loop-link-preserved
loop-link-preserved c =
    let f = first_buffer (sets_of c.args.sets.now) in
    let all = c.args.links.now in
    let i = c.loop-link.link-index in
    let rest = flat_map f (map link_view (drop (i + 1) all)) in
    ap (λ l. l ++ rest) c.in_ok-push_buffer.ensures
    ∙ append_assoc c.loop-link.words.items (f (link_view c.link-item.result)) rest
    ∙ ap (λ l. c.loop-link.words.items ++ flat_map f (map link_view l))
    (ap (λ x. x ∷ drop (i + 1) all) c.link-item.is ∙ sym (drop_more all i c.link-item.result c.loop-link-test.true))
    ∙ c.loop-link.invariant
