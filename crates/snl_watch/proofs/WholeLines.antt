-- A text that is cut at its newlines, and its whole lines.
use Rattle.std.proofs.Common.{◌≡◌, ◌∙◌, ◌==◌, ◌++◌, ℕ, true, false, List, [], ◌∷◌, inl, inr, append-nil, append_assoc, refl, sym}
use Rattle.std.proofs.lemmas.Bool.{cases_Bool}
use Rattle.snl_output.specs.TraceLines.{lines_to, whole_lines}
use Rattle.snl_watch.specs.Counts.{Cut, cut_on, no_cut, with_byte}
use Rattle.snl_watch.specs.Laws.{CutIsWholeLines}

-- the lines that end in bytes that follow a cut
ended-lines : (c : Cut) (bytes : List ℕ) → (cut_on c bytes).done ≡ c.done ++ lines_to (λ _. []) c.begun bytes
unfolding lines_to
ended-lines c [] = sym (append-nil c.done)
ended-lines c (b ∷ bs) = elim (cases_Bool (b == 10)) [
  | inl newline ↦ ended-lines (with_byte c b) bs ∙ rw newline (append_assoc c.done (c.begun ∷ []) (lines_to (λ _. []) [] bs))
  | inr other ↦ ended-lines (with_byte c b) bs ∙ rw other refl
]

-- the lines of a cut are the whole lines of the text
pub cut-is-whole-lines : CutIsWholeLines
cut-is-whole-lines text = ended-lines no_cut text
