use Rattle.std.proofs.Common.{ℕ, cond, ltb, refl, arith}
use Rattle.std.proofs.lemmas.Simd.{zip2_of_maps, zip2_splat, zip2_splat_left, length-chunk}
use lib.Lanes.{chunk}
use Rattle.snl_trace.specs.Plain.{is_plain}
use Rattle.snl_trace.proofs.LaneLaws.{lanes_few, lanes_front}
use Rattle.snl_trace.proofs.lanes.plain_lanes.Goals as goal

pub returns-clause-few : goal.returns-clause-few
returns-clause-few c =
    let bytes = chunk 0 16 c.args.text.now in
    let long = length-chunk 0 16 c.args.text.now c.requires in
    lanes_few is_plain c.args.text.now 16 _ _ c.requires (omega arith) c.type_inv.text c.lowest.ensures _
    (zip2_of_maps _ _ _ bytes (zip2_splat {Y = ℕ} _ bytes 16 33 long) (zip2_splat_left {X = ℕ} {Y = ℕ} (λ a b. cond (ltb a b) 255 0) 126 16 bytes long))

pub returns-clause-front : goal.returns-clause-front
returns-clause-front c =
    let bytes = chunk 0 16 c.args.text.now in
    let long = length-chunk 0 16 c.args.text.now c.requires in
    lanes_front is_plain c.args.text.now 16 _ _ c.requires (omega arith) c.type_inv.text c.lowest.ensures _
    (zip2_of_maps _ _ _ bytes (zip2_splat {Y = ℕ} _ bytes 16 33 long) (zip2_splat_left {X = ℕ} {Y = ℕ} (λ a b. cond (ltb a b) 255 0) 126 16 bytes long)) refl
