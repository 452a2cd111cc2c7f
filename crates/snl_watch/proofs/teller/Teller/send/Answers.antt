use Rattle.std.proofs.Common.{◌≡◌, ◌∙◌, ◌++◌, ◌+◌, ◌≤◌, sym, ap, ℕ, List, take, drop, length, true, arith, length-drop, ◌-◌, ◌&&◌, nat_lt}
use Rattle.std.proofs.lemmas.List.{take-append-drop, take_all, drop-drop}
use Rattle.std.proofs.lemmas.Bool.{ne_eqb}
use Rattle.snl_output.specs.Devices.{counted, told_more}
use Rattle.snl_output.proofs.Writing.{told_more-nil}
use Rattle.snl_watch.specs.Extra.{At, are_dropped, kept_from, place_after, shown}
use Rattle.snl_watch.specs.Places.{place_of}
use Rattle.snl_watch.proofs.ExtraLaws.{dropped-all, dropped-back, dropped-front}
use Rattle.snl_watch.proofs.teller.Teller.send.Goals as goal

pub loop-sent-preserved : goal.loop-sent-preserved
loop-sent-preserved g c =
    let rest : List ℕ = drop c.loop-sent.sent c.args.lines.now in
    let whole : take (length c.args.lines.now - c.loop-sent.sent) rest ≡ rest =
    take_all (length c.args.lines.now - c.loop-sent.sent) rest (omega (arith, length-drop c.loop-sent.sent c.args.lines.now)) in
    let n : ℕ = c.in_ok-taken.taken in
    let at : At = place_of c.loop-sent.self.place in
    let both : are_dropped at (take n rest ++ drop n rest) ≡ true = ap (are_dropped at) (take-append-drop n rest) ∙ c.loop-sent.invariant.dropped in
    let none = ap (λ t. kept_from at (take n t)) whole ∙ dropped-all at (take n rest) (dropped-front at (take n rest) (drop n rest) both) in
    let moved : place_of c.hand_on.new.self.place ≡ place_after at (take n rest) = c.in_ok-taken.ensures.place ∙ ap (λ t. place_after at (take n t)) whole in
    let further : drop (c.loop-sent.sent + n) c.args.lines.now ≡ drop n rest = sym (drop-drop n c.loop-sent.sent c.args.lines.now) in
    record {
      within = omega (arith, c.in_ok-taken.ensures.count, ap length whole, length-drop c.loop-sent.sent c.args.lines.now);
      dropped = ap (λ p. are_dropped p (drop (c.loop-sent.sent + n) c.args.lines.now)) moved ∙ ap (are_dropped (place_after at (take n rest))) further
          ∙ dropped-back at (take n rest) (drop n rest) both;
      told = c.in_ok-taken.ensures.taken ∙ ap (told_more (shown (g.K.Sink.told c.loop-sent.self.inner))) none
          ∙ told_more-nil (shown (g.K.Sink.told c.loop-sent.self.inner)) ∙ c.loop-sent.invariant.told;
      failures = c.in_ok-taken.ensures.failures
          ∙ ap (λ b. counted b (g.K.Sink.failures c.loop-sent.self.inner))
          (ap (λ b. b && nat_lt 0 (length (take (length c.args.lines.now - c.loop-sent.sent) rest))) (ne_eqb n 0 c.if-taken-eq0.false))
          ∙ c.loop-sent.invariant.failures;
      refused = c.hand_on.ensures.refused ∙ c.loop-sent.invariant.refused;
    }
