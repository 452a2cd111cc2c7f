-- Laws of what a sink tells, and of texts in pieces.
use Rattle.std.proofs.Common.{◌≡◌, ℕ, List, [], ◌∷◌, ◌++◌, Option, None, Some, refl, ap, sym, ◌∙◌, append_assoc, append-nil, ◌+◌, ◌<◌, arith, length-drop, take, drop, map, length, get_or, Result, Ok, Err, IsErr}
use Rattle.std.proofs.Math.Seq.{take-add}
use Rattle.std.proofs.lemmas.List.{take-append-drop, drop_more}
use Rattle.snl_output.specs.Devices.{told_more, IsCutShort, Wrote}
use Rattle.snl_output.specs.Lines.{joined}

-- one text and then another
pub told_more-told_more : (told : Option (List ℕ)) (a b : List ℕ) → told_more (told_more told a) b ≡ told_more told (a ++ b)
told_more-told_more None a b = refl
told_more-told_more (Some before) a b = ap Some (append_assoc before a b)

-- no text
pub told_more-nil : (told : Option (List ℕ)) → told_more told [] ≡ told
told_more-nil None = refl
told_more-nil (Some before) = ap Some (append-nil before)

-- a text of which i bytes were taken, and then n more
pub takes-more : (told mid new : Option (List ℕ)) (text : List ℕ) (i n : ℕ) →
    mid ≡ told_more told (take i text) → new ≡ told_more mid (take n (drop i text)) → new ≡ told_more told (take (i + n) text)
takes-more told mid new text i n so_far more =
    more ∙ ap (λ o. told_more o (take n (drop i text))) so_far ∙ told_more-told_more told (take i text) (take n (drop i text))
    ∙ ap (told_more told) (sym (take-add i n text))

-- a text of which i bytes were taken, fewer than it has, and then no more
pub takes-no_more : (told mid new : Option (List ℕ)) (text : List ℕ) (i : ℕ) → i < length text →
    mid ≡ told_more told (take i text) → new ≡ mid → IsCutShort text told new
takes-no_more told mid new text i within so_far same = record {
  taken = take i text;
  rest = drop i text;
  is = sym (take-append-drop i text);
  lost = λ none. absurd (omega (arith, length-drop i text, ap length none));
  told = same ∙ so_far;
}

-- what is added to something leaves something
pub append-lost : (lost more : List ℕ) → (lost ≡ [] → ⊥) → lost ++ more ≡ [] → ⊥
append-lost [] more some none = some refl
append-lost (byte ∷ lost) more some none = cc

-- a call that failed may have handed over a prefix
pub failed-wrote : {A E : Type 0} (r : Result A E) (text : List ℕ) (old new : Option (List ℕ)) → IsErr r → IsCutShort text old new → Wrote r text old new
failed-wrote (Ok done) text old new is cut = search is
failed-wrote (Err fault) text old new is cut = cut

-- a write that takes nothing
pub takes-nothing : (mid new : Option (List ℕ)) (text : List ℕ) (n : ℕ) → new ≡ told_more mid (take n text) → n ≡ 0 → new ≡ mid
takes-nothing mid new text n takes is = takes ∙ ap (λ k. told_more mid (take k text)) is ∙ told_more-nil mid

-- some pieces: the first of them, and the others
pub pieces-here : {A : Type 0} (f : A → List ℕ) (pieces : List A) (i : ℕ) (d : A) → i < length pieces →
    joined (map f (drop i pieces)) ≡ f (get_or pieces i d) ++ joined (map f (drop (i + 1) pieces))
pieces-here f pieces i d within = ap (λ ps. joined (map f ps)) (drop_more pieces i d within)
