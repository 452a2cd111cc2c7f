-- Laws of pieces and the lines that they stand for.
use Rattle.std.proofs.Common.{◌≡◌, ◌==◌, ◌∙◌, ℕ, List, [], ◌∷◌, ◌++◌, map, refl, sym, ap, subst, append_assoc, append-nil, inl, inr}
use Rattle.std.proofs.lemmas.Bool.{cases_Bool, eqb-true}
use Rattle.std.proofs.lemmas.List.{append_cancel_left, append_cancel_right, map-append}
use Rattle.snl_watch.specs.Folding.{Again, Line, Note, Piece, StandFor, StandsFor, last_of, repeated, without_time}
use Rattle.snl_watch.specs.Folds.{lines_held, pieces_of, texts_of, unfolded, unfolded_behind}
use Rattle.snl_watch.specs.Turning.{Turning}
use Rattle.snl_watch.specs.declared.block.Block.{Block}
use Rattle.snl_watch.proofs.FoldTexts.{again_of}

-- pieces stand for the same lines behind the same texts
stand-as : (before before' : List (List ℕ)) (pieces : List Piece) (lines : List (List ℕ)) → before ≡ before' → StandFor before pieces lines → StandFor before' pieces lines
stand-as before before' pieces lines same stand = subst (λ (b : List (List ℕ)). StandFor b pieces lines) same stand

-- more pieces stand for more lines
pub stand-append : (before : List (List ℕ)) (xs ys : List Piece) (ls ms : List (List ℕ)) → StandFor before xs ls → StandFor (before ++ map without_time ls) ys ms →
    StandFor before (xs ++ ys) (ls ++ ms)
stand-append before [] ys ls ms first second =
    let none : before ++ map without_time ls ≡ before = ap (λ (l : List (List ℕ)). before ++ map without_time l) first ∙ append-nil before in
    subst (λ (l : List (List ℕ)). StandFor before ys (l ++ ms)) (sym first) (stand-as (before ++ map without_time ls) before ys ms none second)
stand-append before (x ∷ xs) ys ls ms (one, (rest, (is, (stands, more)))) second =
    let texts : before ++ map without_time ls ≡ (before ++ map without_time one) ++ map without_time rest =
    ap (λ (l : List (List ℕ)). before ++ map without_time l) is ∙ ap (λ t. before ++ t) (map-append without_time one rest)
    ∙ sym (append_assoc before (map without_time one) (map without_time rest)) in
    let all : ls ++ ms ≡ one ++ (rest ++ ms) = ap (λ (l : List (List ℕ)). l ++ ms) is ∙ append_assoc one rest ms in
    let behind = stand-as (before ++ map without_time ls) ((before ++ map without_time one) ++ map without_time rest) ys ms texts second in
    (one, (rest ++ ms, (all, (stands, stand-append (before ++ map without_time one) xs ys rest ms more behind))))

-- lines that were held stand for themselves
pub stand-held : (before : List (List ℕ)) (held : List (List ℕ × List ℕ)) → StandFor before (pieces_of held) (lines_held held)
stand-held before [] = refl
stand-held before (h ∷ held) = (h.1 ∷ [], (lines_held held, (refl, (refl, stand-held (before ++ without_time h.1 ∷ []) held))))

-- no text is one of no line
no-texts : (lines : List (List ℕ)) → map without_time lines ≡ [] → lines ≡ []
no-texts [] none = refl
no-texts (line ∷ lines) none = absurd (cc)

-- a block that came again stands for its lines, so many times
pub stand-again : (before : List (List ℕ)) (b : Block) (folded : List (List ℕ)) → map without_time folded ≡ repeated b.times (last_of b.size before) →
    StandFor before (again_of b) folded
stand-again before b folded is = elim (cases_Bool (b.times == 0)) [
  | inl none ↦ rw none (no-texts folded (is ∙ ap (λ (k : ℕ). repeated k (last_of b.size before)) (eqb-true b.times 0 none)))
  | inr some ↦ rw some (folded, ([], (sym (append-nil folded), (is, refl))))
]

-- written out, pieces give the texts of the lines that they stand for
pub stand-texts : (before : List (List ℕ)) (pieces : List Piece) (lines : List (List ℕ)) → StandFor before pieces lines →
    unfolded_behind before pieces ≡ before ++ map without_time lines
stand-texts before [] lines none = sym (append-nil before) ∙ ap (λ (l : List (List ℕ)). before ++ map without_time l) (sym none)
stand-texts before (x ∷ pieces) lines (one, (rest, (is, (stands, more)))) =
    piece-texts before x pieces one stands
    ∙ stand-texts (before ++ map without_time one) pieces rest more
    ∙ append_assoc before (map without_time one) (map without_time rest)
    ∙ ap (λ t. before ++ t) (sym (map-append without_time one rest) ∙ ap (map without_time) (sym is))
  where
    -- one of them
    piece-texts : (before : List (List ℕ)) (x : Piece) (pieces : List Piece) (one : List (List ℕ)) → StandsFor before x one →
        unfolded_behind before (x ∷ pieces) ≡ unfolded_behind (before ++ map without_time one) pieces
    piece-texts before (Line note line) pieces one is = ap (λ (l : List (List ℕ)). unfolded_behind (before ++ map without_time l) pieces) (sym is)
    piece-texts before (Note text) pieces one is =
        ap (λ (b : List (List ℕ)). unfolded_behind b pieces) (sym (append-nil before) ∙ ap (λ (l : List (List ℕ)). before ++ map without_time l) (sym is))
    piece-texts before (Again size times until) pieces one is = ap (λ (t : List (List ℕ)). unfolded_behind (before ++ t) pieces) (sym is)

-- the texts of lines that are held
held-texts : (held : List (List ℕ × List ℕ)) → map without_time (lines_held held) ≡ texts_of held
held-texts [] = refl
held-texts (h ∷ held) = ap (λ t. without_time h.1 ∷ t) (held-texts held)

-- what was folded of a block are its lines, so many times
pub folded-is : (lines told folded : List (List ℕ)) (pieces : List Piece) (held : List (List ℕ × List ℕ)) (size times : ℕ) → StandFor [] pieces told →
    lines ≡ told ++ (folded ++ lines_held held) → Turning (map without_time lines) (unfolded pieces) size times (texts_of held) →
    map without_time folded ≡ repeated times (last_of size (unfolded pieces))
folded-is lines told folded pieces held size times stand is turning =
    let again : List (List ℕ) = repeated times (last_of size (unfolded pieces)) in
    let texts : List (List ℕ) = map without_time told in
    let done : unfolded pieces ≡ texts = stand-texts [] pieces told stand in
    let split : map without_time lines ≡ texts ++ (map without_time folded ++ texts_of held) =
    ap (map without_time) is ∙ map-append without_time told (folded ++ lines_held held)
    ∙ ap (λ t. texts ++ t) (map-append without_time folded (lines_held held) ∙ ap (λ t. map without_time folded ++ t) (held-texts held)) in
    let both : texts ++ (map without_time folded ++ texts_of held) ≡ texts ++ (again ++ texts_of held) =
    sym split ∙ turning.all_is ∙ ap (λ t. t ++ (again ++ texts_of held)) done in
    append_cancel_right (map without_time folded) again (texts_of held) (append_cancel_left texts (map without_time folded ++ texts_of held) (again ++ texts_of held) both)

-- pieces, the block behind them, the lines that are held, and more stand for all lines, and for those of what is more
pub stand-released : (lines told folded : List (List ℕ)) (pieces more : List Piece) (held : List (List ℕ × List ℕ)) (b : Block) (others : List (List ℕ)) →
    StandFor [] pieces told → lines ≡ told ++ (folded ++ lines_held held) → Turning (map without_time lines) (unfolded pieces) b.size b.times (texts_of held) →
    ((before : List (List ℕ)) → StandFor before more others) → StandFor [] (pieces ++ (again_of b ++ (pieces_of held ++ more))) (lines ++ others)
stand-released lines told folded pieces more held b others stand is turning last =
    let texts : List (List ℕ) = map without_time told in
    let done : unfolded pieces ≡ texts = stand-texts [] pieces told stand in
    let own = folded-is lines told folded pieces held b.size b.times stand is turning in
    let again : StandFor texts (again_of b) folded = stand-again texts b folded (own ∙ ap (λ (t : List (List ℕ)). repeated b.times (last_of b.size t)) done) in
    let behind : List (List ℕ) = texts ++ map without_time folded in
    let rest : StandFor behind (pieces_of held ++ more) (lines_held held ++ others) =
    stand-append behind (pieces_of held) more (lines_held held) others (stand-held behind held) (last (behind ++ map without_time (lines_held held))) in
    let all : told ++ (folded ++ (lines_held held ++ others)) ≡ lines ++ others =
    ap (λ t. told ++ t) (sym (append_assoc folded (lines_held held) others)) ∙ sym (append_assoc told (folded ++ lines_held held) others) ∙ ap (λ t. t ++ others) (sym is) in
    subst (λ (l : List (List ℕ)). StandFor [] (pieces ++ (again_of b ++ (pieces_of held ++ more))) l) all
    (stand-append [] pieces (again_of b ++ (pieces_of held ++ more)) told (folded ++ (lines_held held ++ others)) stand
    (stand-append texts (again_of b) (pieces_of held ++ more) folded (lines_held held ++ others) again rest))

-- one line more is held
pub held-more : (lines told folded : List (List ℕ)) (held : List (List ℕ × List ℕ)) (note line : List ℕ) → lines ≡ told ++ (folded ++ lines_held held) →
    lines ++ line ∷ [] ≡ told ++ (folded ++ lines_held (held ++ (note, line) ∷ []))
held-more lines told folded held note line is =
    let one : List (List ℕ × List ℕ) = (note, line) ∷ [] in
    ap (λ t. t ++ line ∷ []) is ∙ append_assoc told (folded ++ lines_held held) (line ∷ [])
    ∙ ap (λ t. told ++ t) (append_assoc folded (lines_held held) (line ∷ []) ∙ ap (λ t. folded ++ t) (sym (map-append (λ h. h.1) held one)))

-- with one line more those that are held are folded
pub folded-more : (lines told folded : List (List ℕ)) (held : List (List ℕ × List ℕ)) (line : List ℕ) → lines ≡ told ++ (folded ++ lines_held held) →
    lines ++ line ∷ [] ≡ told ++ ((folded ++ (lines_held held ++ line ∷ [])) ++ lines_held [])
folded-more lines told folded held line is =
    ap (λ t. t ++ line ∷ []) is ∙ append_assoc told (folded ++ lines_held held) (line ∷ [])
    ∙ ap (λ t. told ++ t) (append_assoc folded (lines_held held) (line ∷ []) ∙ sym (append-nil (folded ++ (lines_held held ++ line ∷ []))))
