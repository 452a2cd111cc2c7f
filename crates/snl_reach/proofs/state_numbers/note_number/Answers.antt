use Rattle.std.proofs.Common.{◌≡◌, false, nat_eq, is_some}
use Rattle.std.specs.Cmp.Lexicographic.{pointwise}
use Rattle.std.specs.HashMap.{get_by}
use Rattle.snl_names.proofs.TableLaws.{none_of}
use Rattle.snl_names.proofs.NumberLaws.{number_after}
use Rattle.snl_reach.proofs.state_numbers.note_number.Goals as goal

pub returns : goal.returns
returns c =
    let absent : is_some (get_by (λ key. pointwise nat_eq c.args.name.text.now key.now) c.args.numbers.now) ≡ false = cc in
    number_after c.args.numbers.now c.insert.new.self c.args.name c.args.number (none_of _ absent) c.in_ok-insert.ensures.entries
