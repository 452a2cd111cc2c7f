use Rattle.std.proofs.Common.{rules, ◌≡◌, ◌∙◌, ◌<◌, ℤ, ap, refl, length, get_or}
use Rattle.std.specs.Global.{Vec}
use Rattle.snl_vm.specs.Views.{world_of}
use Rattle.snl_vm.proofs.Copies.{copy_changed, copy_words, unshared, words-unshared}
use Rattle.snl_vm.proofs.stores.Store.words_mut.Goals as goal

pub returns-in-Some : goal.returns-in-Some
returns-in-Some c =
    let w = world_of c.args.self.now in
    let cs = c.args.self.now.copies.items in
    let copy = c.in-Some.copy.now in
    let within : c.args.set < length cs = search rules in
    let is : copy ≡ get_or cs c.args.set copy = search rules in
    let changed = λ (words : Vec ℤ). ap (λ copies. record w { copies = copies }) (copy_changed cs c.args.set copy (record copy { words = words }) (λ _. words.items) within is refl) in (
      (refl, λ words. changed words ∙ unshared c.args.set c.args.is_shared (λ _. words.items) w c.if-is_shared.false, refl),
      record { writes_back = search rules; value = copy_words cs c.args.set copy within is ∙ words-unshared c.args.set c.args.is_shared w c.if-is_shared.false },
    )
