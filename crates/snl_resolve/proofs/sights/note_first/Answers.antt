use Rattle.std.proofs.Common.{◌≡◌, false, nat_eq, is_some}
use Rattle.std.specs.Cmp.Lexicographic.{pointwise}
use Rattle.std.specs.HashMap.{get_by}
use Rattle.snl_names.proofs.TableLaws.{none_of}
use Rattle.snl_resolve.proofs.FunctionLaws.{function_after}
use Rattle.snl_resolve.proofs.sights.note_first.Goals as goal

pub returns : goal.returns
returns c =
    let absent : is_some (get_by (λ key. pointwise nat_eq c.args.heading.name.text.now key.now) c.args.firsts.now) ≡ false = cc in
    function_after c.args.firsts.now c.insert.new.self c.args.heading (none_of _ absent) c.in_ok-insert.ensures.entries
