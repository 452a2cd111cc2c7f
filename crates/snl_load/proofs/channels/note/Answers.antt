use Rattle.std.proofs.Common.{◌≡◌, ◌∙◌, ap, map, [], rules}
use Rattle.snl_load.specs.Names.{noted}
use Rattle.snl_load.specs.Sets.{names_in}
use Rattle.snl_load.proofs.Names.{noted-map, noted-named}
use Rattle.snl_load.proofs.channels.note.Goals as goal

pub returns : goal.returns
returns c =
    let old = names_in c.args.names.now in
    let name = c.args.name.now in
    let other : name ≡ [] → ⊥ = search rules in
    ap (map (λ key. key.items)) c.in_ok-insert.ensures.keys
    ∙ noted-map (λ key. key.items) c.args.names.now.keys c.in_ok-kept.kept
    ∙ ap (noted old) c.in_ok-kept.ensures.items
    ∙ noted-named old name other
