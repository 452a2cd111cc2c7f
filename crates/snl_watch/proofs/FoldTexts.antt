-- What pieces write, and the texts that they stand for.
use Rattle.std.proofs.Common.{◌≡◌, ◌==◌, ◌+◌, ◌-◌, ℕ, List, [], ◌∷◌, ◌++◌, map, refl, sym, ap, ◌∙◌, append_assoc, append-nil, inl, inr, if◌then◌else◌}
use Rattle.std.specs.Prelude.{All}
use Rattle.std.proofs.lemmas.Bool.{cases_Bool, eqb-true}
use Rattle.std.proofs.lemmas.List.{map-append}
use Rattle.std.proofs.lemmas.List.Elements.{All-cons, All-nil}
use Rattle.snl_output.specs.Lines.{joined}
use Rattle.snl_watch.specs.Blocks.{told_again}
use Rattle.snl_watch.specs.Folding.{again_line, IsNoted, Piece, Again, Line, Note, last_of, repeated, without_time, written}
use Rattle.snl_watch.specs.Folds.{pieces_of, texts_of, unfolded, unfolded_behind}
use Rattle.snl_watch.specs.Turning.{Turning}
use Rattle.snl_watch.specs.declared.block.Block.{Block}

-- pieces, and more of them
pub joined-append : (xs ys : List (List ℕ)) → joined (xs ++ ys) ≡ joined xs ++ joined ys
joined-append [] ys = refl
joined-append (x ∷ xs) ys = ap (λ t. x ++ t) (joined-append xs ys) ∙ sym (append_assoc x (joined xs) (joined ys))

-- what more pieces write
pub written-append : (xs ys : List Piece) → joined (map written (xs ++ ys)) ≡ joined (map written xs) ++ joined (map written ys)
written-append xs ys = ap joined (map-append written xs ys) ∙ joined-append (map written xs) (map written ys)

-- the lines that more pieces stand for
pub unfolded-append : (done : List (List ℕ)) (xs ys : List Piece) → unfolded_behind done (xs ++ ys) ≡ unfolded_behind (unfolded_behind done xs) ys
unfolded-append done [] ys = refl
unfolded-append done (Line note line ∷ xs) ys = unfolded-append (done ++ without_time line ∷ []) xs ys
unfolded-append done (Note text ∷ xs) ys = unfolded-append done xs ys
unfolded-append done (Again size times until ∷ xs) ys = unfolded-append (done ++ repeated times (last_of size done)) xs ys

-- lines that were held stand for themselves
pub unfolded-held : (done : List (List ℕ)) (held : List (List ℕ × List ℕ)) → unfolded_behind done (pieces_of held) ≡ done ++ texts_of held
unfolded-held done [] = sym (append-nil done)
unfolded-held done (h ∷ held) = unfolded-held (done ++ without_time h.1 ∷ []) held ∙ append_assoc done (without_time h.1 ∷ []) (texts_of held)

-- what is told of a block that came again
abbrev pub again_of : Block → List Piece
again_of b = if b.times == 0 then [] else Again b.size b.times b.until.items ∷ []

-- its text
pub again-written : (b : Block) → joined (map written (again_of b)) ≡ told_again b
again-written b = elim (cases_Bool (b.times == 0)) [
  | inl none ↦ rw none refl
  | inr some ↦ rw some (append-nil (again_line b.size b.times b.until.items))
]

-- the lines that it stands for
pub again-unfolded : (done : List (List ℕ)) (b : Block) → unfolded_behind done (again_of b) ≡ done ++ repeated b.times (last_of b.size done)
again-unfolded done b = elim (cases_Bool (b.times == 0)) [
  | inl none ↦ rw none (sym (append-nil done) ∙ ap (λ k. done ++ repeated k (last_of b.size done)) (sym (eqb-true b.times 0 none)))
  | inr some ↦ rw some refl
]

-- it has no notes
pub again-noted : (b : Block) → All IsNoted (again_of b)
again-noted b = elim (cases_Bool (b.times == 0)) [
  | inl none ↦ rw none (All-nil IsNoted)
  | inr some ↦ rw some (All-cons IsNoted (Again b.size b.times b.until.items) [] tt (All-nil IsNoted))
]

-- what is written of a block, with more behind it
pub released : (b : Block) (held more : List Piece) → b.held.items ≡ joined (map written held) →
    joined (map written (again_of b ++ (held ++ more))) ≡ (told_again b ++ b.held.items) ++ joined (map written more)
released b held more is =
    written-append (again_of b) (held ++ more)
    ∙ ap (λ t. t ++ joined (map written (held ++ more))) (again-written b)
    ∙ ap (λ t. told_again b ++ t) (written-append held more ∙ ap (λ t. t ++ joined (map written more)) (sym is))
    ∙ sym (append_assoc (told_again b) b.held.items (joined (map written more)))

-- the lines that all stand for, once a block is released
pub released-lines : (all : List (List ℕ)) (pieces : List Piece) (held : List (List ℕ × List ℕ)) (b : Block) (more : List Piece) →
    Turning all (unfolded pieces) b.size b.times (texts_of held) → unfolded (pieces ++ (again_of b ++ (pieces_of held ++ more))) ≡ unfolded_behind all more
released-lines all pieces held b more t =
    let done : List (List ℕ) = unfolded pieces in
    let again : List (List ℕ) = repeated b.times (last_of b.size done) in
    let whole : (done ++ again) ++ texts_of held ≡ all = append_assoc done again (texts_of held) ∙ sym t.all_is in
    unfolded-append [] pieces (again_of b ++ (pieces_of held ++ more))
    ∙ unfolded-append done (again_of b) (pieces_of held ++ more)
    ∙ ap (λ d. unfolded_behind d (pieces_of held ++ more)) (again-unfolded done b)
    ∙ unfolded-append (done ++ again) (pieces_of held) more
    ∙ ap (λ d. unfolded_behind d more) (unfolded-held (done ++ again) held ∙ whole)
