-- What the lists hold that are empty or have one finding, and whether an error is in a list.
use Rattle.std.proofs.Common.{◌≡◌, ◌↔◌, inl, inr, Bool, true, false, not, ◌||◌, List, [], ◌∷◌, Option, None, Some, refl, sym, ap, ◌∙◌, Contains}
use Rattle.std.proofs.lemmas.Bool.{false≢true}
use Rattle.snl_text.specs.declared.tokens.Pos.{Pos}
use Rattle.snl_text.specs.declared.tokens.Token.{Token}
use Rattle.snl_messages.specs.declared.matters.Matter.TheVariants.{TooManyTokens, TooManyWords, NotSafe}
use Rattle.snl_messages.specs.declared.messages.Severity.{Severity}
use Rattle.snl_messages.specs.declared.messages.Severity.TheVariants.{Error, Warning}
use Rattle.snl_messages.specs.Findings.{Finding, finding}
use Rattle.snl_messages.specs.Lists.{of_beyond, of_mode, of_words, has_error}
use Rattle.snl_messages.specs.Wordings.{is_warning}
use Rattle.snl_messages.proofs.MemberLaws.{only, nothing_in, first_or_further, at_first, further}

-- A place comes back from being there.
some_pos : (a b : Pos) → Some a ≡ Some b → a ≡ b
some_pos a b e = ap (λ o. elim o [ None ↦ a | Some x ↦ x ]) e

-- What is not there is no place.
none≢some : (a : Pos) → None ≡ Some a → ⊥
none≢some a e = false≢true (ap (λ o. elim o [ None ↦ false | Some x ↦ true ]) e)

-- The list for a token past the limit holds its message, where there is one.
pub beyond_is : (beyond : Option Pos) (f : Finding) → Contains (of_beyond beyond) f ↔ ((pos : Pos) × (beyond ≡ Some pos) × (f ≡ finding TooManyTokens pos []))
beyond_is None f = ((λ h. absurd (nothing_in f h)), (λ w. absurd (none≢some w.0 w.1)))
beyond_is (Some pos) f = (
  (λ h. (pos, refl, (only (finding TooManyTokens pos []) f).0 h)),
  (λ w. (only (finding TooManyTokens pos []) f).1 (w.2 ∙ ap (λ q. finding TooManyTokens q []) (some_pos w.0 pos (sym w.1)))),
)

-- The list for the mode holds its message, where safe mode is not asked for.
pub mode_is : (safe : Bool) (word : Token) (f : Finding) → Contains (of_mode safe word) f ↔ ((safe ≡ false) × (f ≡ finding NotSafe word.pos []))
mode_is true word f = ((λ h. absurd (nothing_in f h)), (λ w. absurd (false≢true (sym w.0))))
mode_is false word f = ((λ h. (refl, (only (finding NotSafe word.pos []) f).0 h)), (λ w. (only (finding NotSafe word.pos []) f).1 w.1))

-- The list for all words holds its message, where they pass the limit.
pub words_are : (full : Bool) (word : Token) (f : Finding) → Contains (of_words full word) f ↔ ((full ≡ true) × (f ≡ finding TooManyWords word.pos []))
words_are false word f = ((λ h. absurd (nothing_in f h)), (λ w. absurd (false≢true w.0)))
words_are true word f = ((λ h. (refl, (only (finding TooManyWords word.pos []) f).0 h)), (λ w. (only (finding TooManyWords word.pos []) f).1 w.1))

-- What is no warning is an error.
error_is : (s : Severity) → not (is_warning s) ≡ true → s ≡ Error
error_is Error e = refl
error_is Warning e = absurd (false≢true e)

-- An error is no warning.
is_error : (s : Severity) → s ≡ Error → not (is_warning s) ≡ true
is_error s e = ap (λ r. not (is_warning r)) e

-- An error in the rest is one in the list.
found_further : (g : Finding) (gs : List Finding) → ((f : Finding) × Contains gs f × (f.said.severity ≡ Error)) → (f : Finding) × Contains (g ∷ gs) f × (f.said.severity ≡ Error)
found_further g gs w = (w.0, further g gs w.0 w.1, w.2)

-- One step of the next.
error_step : (g : Finding) (gs : List Finding) (b : Bool) → not (is_warning g.said.severity) ≡ b → (b || has_error gs) ≡ true →
    (has_error gs ≡ true → (f : Finding) × Contains gs f × (f.said.severity ≡ Error)) →
    (f : Finding) × Contains (g ∷ gs) f × (f.said.severity ≡ Error)
error_step g gs true is h rest = (g, at_first g gs, error_is g.said.severity is)
error_step g gs false is h rest = found_further g gs (rest h)

-- Where the test says so, an error is in the list.
pub some_error : (fs : List Finding) → has_error fs ≡ true → (f : Finding) × Contains fs f × (f.said.severity ≡ Error)
some_error [] h = absurd (false≢true h)
some_error (g ∷ gs) h = error_step g gs (not (is_warning g.said.severity)) refl h (some_error gs)

-- One step of the next.
no_step : (g : Finding) (gs : List Finding) (b : Bool) → not (is_warning g.said.severity) ≡ b → (b || has_error gs) ≡ false →
    (not (is_warning g.said.severity) ≡ false) × (has_error gs ≡ false)
no_step g gs true is h = absurd (false≢true (sym h))
no_step g gs false is h = (is, h)

-- Where it does not, none is.
pub no_error : (fs : List Finding) → has_error fs ≡ false → (f : Finding) → Contains fs f → f.said.severity ≡ Error → ⊥
no_error [] h f there error = nothing_in f there
no_error (g ∷ gs) h f there error = let n = no_step g gs (not (is_warning g.said.severity)) refl h in elim (first_or_further g gs f there) [
  | inl e ↦ false≢true (sym n.0 ∙ is_error g.said.severity (ap (λ x. x.said.severity) e ∙ error))
  | inr k ↦ no_error gs n.1 f k error
]
