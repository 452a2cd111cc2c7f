use Rattle.std.proofs.Common.{◌≡◌, ◌∙◌, ◌++◌, ◌+◌, ◌∷◌, [], sym, ap, ℕ, List, take, get_or, true, arith}
use Rattle.std.proofs.lemmas.List.{take_more}
use Rattle.snl_watch.specs.Extra.{At, are_kept, is_kept, moved, place_after}
use Rattle.snl_watch.specs.Places.{place_of}
use Rattle.snl_watch.proofs.ExtraLaws.{kept_snoc, place_snoc}
use Rattle.snl_watch.proofs.places.LinePlace.kept_each.Goals as goal

pub loop-byte-preserved : goal.loop-byte-preserved
loop-byte-preserved c =
    let front : List ℕ = take c.loop-byte.byte-index c.args.bytes.now in
    let byte : ℕ = get_or c.args.bytes.now c.loop-byte.byte-index 0 in
    let more : take (c.loop-byte.byte-index + 1) c.args.bytes.now ≡ front ++ byte ∷ [] = take_more c.args.bytes.now c.loop-byte.byte-index 0 c.loop-byte-test.true in
    let at : At = place_of c.args.self in
    let keeps : is_kept (place_of c.loop-byte.place) byte ≡ true = cc (c.keeps.ensures, c.if-not-keeps.false) in
    record {
      counted = omega (arith, c.loop-byte.invariant.counted);
      place = c.moved-place.ensures ∙ ap (λ p. moved p byte) c.loop-byte.invariant.place ∙ sym (place_snoc at front byte) ∙ ap (place_after at) (sym more);
      kept = ap (are_kept at) more ∙ kept_snoc at front byte c.loop-byte.invariant.kept (ap (λ p. is_kept p byte) (sym c.loop-byte.invariant.place) ∙ keeps);
    }
