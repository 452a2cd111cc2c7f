-- Laws of texts in XML.
use Rattle.std.proofs.Common.{◌≡◌, ◌<◌, ◌+◌, ◌∙◌, ◌++◌, ◌∷◌, ℕ, List, add-one, ap, append_assoc, drop, drop-cons, get_or, length, sym}
use Rattle.snl_suite.specs.Escaped.{escaped, escaped_byte}

-- the rest of a text is its next byte, and behind it what follows
pub escaped-on : (out text : List ℕ) (i : ℕ) → i < length text → out ++ escaped (drop i text) ≡ (out ++ escaped_byte (get_or text i 0)) ++ escaped (drop (i + 1) text)
unfolding escaped
escaped-on out text i within =
    ap (λ l. out ++ escaped l) (drop-cons text i 0 within ∙ ap (λ k. get_or text i 0 ∷ drop k text) (sym (add-one i)))
    ∙ sym (append_assoc out (escaped_byte (get_or text i 0)) (escaped (drop (i + 1) text)))
