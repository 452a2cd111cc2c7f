use Rattle.std.proofs.Common.{◌≡◌, ◌≤◌, ◌∙◌, ◌+◌, ◌-◌, ap, arith, drop, length, length-drop, sym, take}
use lib.Seq.{paste}
use Rattle.std.proofs.lemmas.List.{drop-take, length-take-le}
use Rattle.std.proofs.lemmas.List.Edits.{take-paste}
use Rattle.snl_output.proofs.rooms.Room.let_go.Goals as goal

pub returns : goal.returns
returns c =
    let all = c.args.self.now.bytes.items in
    let held = c.args.self.now.count in
    let n = c.args.count in
    let long : length (take held all) ≡ held = length-take-le held all c.args.self.now.within in
    let same_length : length c.held-end.result.now ≡ length (take held all) = ap length c.held-end.ensures in
    let end = length c.held-end.result.now in
    let left = end - n in
    let same : left ≡ 0 + left = omega arith in
    let gone : n ≤ held = omega (arith, long, c.requires) in
    let others : left ≤ length (drop n all) = omega (arith, long, same_length, gone, c.args.self.now.within, length-drop n all) in
    let whole : n + left ≡ held = omega (arith, long, same_length, gone) in
    ap (take left) c.copy_within.ensures.items ∙ ap (λ k. take k (paste all 0 (drop n all) left)) same
    ∙ take-paste all 0 (drop n all) left (omega arith) others ∙ sym (drop-take n left all) ∙ ap (λ k. drop n (take k all)) whole
