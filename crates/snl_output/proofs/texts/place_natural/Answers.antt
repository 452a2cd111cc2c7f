use Rattle.std.proofs.Common.{◌≡◌, ◌≤◌, arith, drop, length, length-drop, refl, rules}
use Rattle.std.proofs.lemmas.Fmt.{length-decimal-le}
use Rattle.snl_output.proofs.Rows.{digits-laid}
use Rattle.snl_output.proofs.texts.place_natural.Goals as goal

pub write_digits-start-requires : goal.write_digits-start-requires
write_digits-start-requires c = (omega (arith, length-decimal-le 20 c.args.number (omega arith) (omega arith) c.ranges.number.fits), search rules)

pub returns-clause-front : goal.returns-clause-front
returns-clause-front c =
    let w = c.write_digits-start in
    let start = w.ensures.start in
    let long = length-decimal-le 20 c.args.number (omega arith) (omega arith) c.ranges.number.fits in
    let within = c.requires in
    let wide : length w.new.buf ≡ 64 = search rules in
    let room : 24 ≤ length (drop w.result w.new.buf) = omega (arith, length-drop w.result w.new.buf, wide, start) in
    digits-laid c.args.bytes.now _ _ _ _ (drop w.result w.new.buf) c.args.at w.result (omega (arith, within)) room (omega (arith, start, long)) refl w.ensures.written start
    c.place.ensures.front

pub returns-clause-short : goal.returns-clause-short
returns-clause-short c =
    let start = c.write_digits-start.ensures.start in
    let long = length-decimal-le 20 c.args.number (omega arith) (omega arith) c.ranges.number.fits in
    omega (arith, start, long)
