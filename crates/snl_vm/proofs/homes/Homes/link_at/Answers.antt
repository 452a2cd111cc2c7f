use Rattle.std.proofs.Common.{rules, ◌≡◌, ◌∙◌, ap, sym, ℕ, List, slice_get}
use Rattle.snl_vm.specs.Rows.{numbers_of}
use Rattle.snl_vm.proofs.Beginnings.{first_of}
use Rattle.snl_vm.proofs.homes.Homes.link_at.Goals as goal

pub returns : goal.returns
returns c =
    let homes = c.args.self.now in
    let row : numbers_of c.args.place 0 homes.places.items ≡ c.row.result.now = sym (homes.known c.args.place) ∙ sym c.row.ensures in
    first_of homes.places.items c.args.place 0 ∙ ap (λ (r : List ℕ). slice_get r 0) row ∙ search rules
