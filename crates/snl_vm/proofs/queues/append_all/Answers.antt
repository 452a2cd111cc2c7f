use Rattle.std.proofs.Common.{◌∙◌, ◌+◌, ◌-◌, ◌++◌, ap, arith, length, length-append, rules, FitsSigned, w64}
use Rattle.std.proofs.lemmas.Int.{to_z-of_z}
use Rattle.snl_meaning.specs.World.{words_at}
use Rattle.snl_vm.proofs.Items.{appended-more}
use Rattle.snl_vm.proofs.queues.append_all.Goals as goal

pub loop-number-preserved : goal.loop-number-preserved
loop-number-preserved c =
    let n = c.loop-number.number in
    let fits : FitsSigned w64 c.word_after.result = search rules in
    let did = (simp to_z-of_z at c.append.ensures.items) in
    let one = (simp length-append at (ap length did)) in
    record {
      items = ap (λ is. is ++ words_at c.args.words.now (c.args.place + (n + 1)) (c.args.count - (n + 1))) did
          ∙ appended-more c.loop-number.ring.items c.args.words.now c.args.place c.args.count n _ c.loop-number-test.true c.word_after.ensures
          ∙ c.loop-number.invariant.items;
      fits = omega (arith, one, c.loop-number.invariant.fits, c.append.ensures.capacity);
      same = c.append.ensures.capacity ∙ c.loop-number.invariant.same;
    }
