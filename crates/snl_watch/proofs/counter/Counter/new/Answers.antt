use Rattle.std.proofs.Common.{rules, ◌≡◌, ◌∙◌, sym, refl, ap, length, take, ℕ, List, [], replicate, true}
use Rattle.std.proofs.lemmas.List.{length-map}
use Rattle.std.proofs.Math.Seq.{take-nil}
use Rattle.snl_watch.specs.Sets.{names_in}
use Rattle.snl_watch.specs.Counts.{zeros}
use Rattle.snl_watch.proofs.counter.Counter.new.Goals as goal

pub returns-clause-zero : goal.returns-clause-zero
returns-clause-zero c =
    let counts : c.in_ok-counts.counts.items ≡ replicate c.len.result 0 = c.in_ok-counts.ensures.items_if_clones_equal (λ y e. e) in
    let size : c.len.result ≡ length (names_in c.args.keys) = c.len.ensures.len ∙ sym (length-map _ _) in
    let all : c.in_ok-counts.counts.items ≡ zeros (names_in c.args.keys) = counts ∙ ap (λ n. replicate n 0) size in
    let none : c.in_ok-with_capacity.field-0.items ≡ take c.args.room [] = c.in_ok-with_capacity.ensures.items ∙ sym (take-nil c.args.room) in
    λ j. (true, none j, all j)
