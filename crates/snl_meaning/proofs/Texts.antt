-- A text among some is found by its number.
use Rattle.std.proofs.Common.{◌≡◌, suc, Bool, true, false, [], ◌∷◌, ◌++◌, refl, sym, if◌then◌else◌, true≢false}
use Rattle.std.specs.Prelude.{bytes_eq}
use Rattle.std.proofs.lemmas.Slice.Eq.{bytes_eq-Decides}
use Rattle.snl_meaning.specs.Laws.{TextsAreFound}
use Rattle.snl_meaning.specs.Names.{text_number, format_text}

-- the first text that is equal is the one
pub texts-found : TextsAreFound
texts-found [] after text = by (bytes_eq text text) ((bytes_eq-Decides text text).1 refl)
  where
    by : (b : Bool) → b ≡ true → format_text (text ∷ after) (if b then 0 else suc (text_number after text)) ≡ text
    by true e = refl
    by false e = absurd (true≢false (sym e))
texts-found (t ∷ before) after text = by (bytes_eq t text) (bytes_eq-Decides t text).0 (texts-found before after text)
  where
    by : (b : Bool) → (b ≡ true → t ≡ text) → format_text (before ++ text ∷ after) (text_number (before ++ text ∷ after) text) ≡ text →
        format_text (t ∷ before ++ text ∷ after) (if b then 0 else suc (text_number (before ++ text ∷ after) text)) ≡ text
    by true h rest = h refl
    by false h rest = rest
