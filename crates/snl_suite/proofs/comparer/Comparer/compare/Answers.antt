use Rattle.std.proofs.Common.{ap, arith, bytes_eq, false, length, sym, take, slice_range, true, ◌≡◌, ◌≢◌, ◌<◌, ◌≤◌, ◌-◌, ◌++◌, ◌∙◌, ℕ, List, Bool, inl, inr}
use Rattle.std.proofs.lemmas.Bool.{not-true}
use Rattle.std.proofs.lemmas.List.Edits.{length-between}
use Rattle.std.proofs.lemmas.Slice.Eq.{bytes_eq-Decides}
use Rattle.snl_suite.proofs.AgreementLaws.{apart-here, apart-longer}
use Rattle.snl_suite.proofs.comparer.Comparer.compare.Goals as goal

pub part-requires : goal.part-requires
part-requires g c =
    let s = c.args.self.now in
    let w : List ℕ = slice_range s.ahead.room.items s.ahead.from s.ahead.to in
    let size : length w ≡ s.ahead.to - s.ahead.from = length-between s.ahead.room.items s.ahead.from s.ahead.to s.ahead.ends in
    let seen : length c.text-wanted.result.now ≡ length w = ap length c.text-wanted.ensures in
    let empty : length w ≡ 0 = omega (arith, seen, c.min-count.ensures, c.if-count-eq0.true, c.requires.some) in
    let over : s.ahead.ended ≡ true = elim c.requires.ready [ inl more ↦ absurd (omega (arith, more, size, empty)) | inr is ↦ is ] in
    let are = s.ahead.gave ∙ ap (λ (l : List ℕ). l ++ w) (sym (s.same c.requires.same c.requires.sound)) in
    record { apart = apart-longer s.told.bytes c.args.piece.now w (g.W.Source.gave s.ahead.inner) (g.W.Source.ended s.ahead.inner) are empty (s.ahead.over over) c.requires.some }

pub part-requires-then-ne : goal.part-requires-then-ne
part-requires-then-ne g c =
    let s = c.args.self.now in
    let n : ℕ = c.min-count.result in
    let w : List ℕ = c.text-wanted.result.now in
    let p : List ℕ = c.args.piece.now in
    let are = s.ahead.gave ∙ (λ j. sym (s.same c.requires.same c.requires.sound) j ++ sym c.text-wanted.ensures j) in
    let test : bytes_eq (take n w) (take n p) ≡ false = not-true _ (sym c.ne.ensures ∙ c.if-ne.true) in
    let differ : take n w ≢ take n p = λ same. let both : true ≡ false = sym ((bytes_eq-Decides (take n w) (take n p)).1 same) ∙ test in absurd cc in
    record {
      apart = apart-here s.told.bytes p w (g.W.Source.gave s.ahead.inner) n (g.W.Source.ended s.ahead.inner) are (omega (arith, c.min-count.ensures)) (omega (arith, c.min-count.ensures))
          differ;
    }
