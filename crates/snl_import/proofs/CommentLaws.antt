-- Laws of texts that begin with comments.
use Rattle.std.proofs.Common.{◌≡◌, ℕ, true, false, List, [], ◌∷◌, ◌++◌, Option, None, Some, Result, Ok, Err, OnOk, OnErr, nat_lt, nat_le, length, refl, sym, ap, ◌∙◌, subst, arith, inl, inr}
use Rattle.std.specs.List.{list_all}
use Rattle.std.proofs.lemmas.Bool.{and_parts, cases_Bool, eqb-true}
use Rattle.snl_output.specs.TraceLines.{lines_to, whole_lines, without_return}
use Rattle.snl_trace.specs.Fields.{is_silent, begins_with}
use Rattle.snl_trace.specs.Grammar.{told_of}
use Rattle.snl_import.specs.Comments.{is_comment, is_within, behind_comments, IsTraceText, AreComments, CommentsAreSkipped}
use Rattle.snl_import.specs.Trace.{Heard, hears, heard_then, rest_from, AreEvents}
use Rattle.snl_import.proofs.TraceLaws.{lines-append, rest-append, line-whole, line-rest, hears-append}

-- a line without its carriage return begins as it does
begins-alike : (line : List ℕ) → begins_with 35 line ≡ true → begins_with 35 (without_return line) ≡ true
unfolding without_return
begins-alike [] begins = begins
begins-alike (b ∷ []) begins = let is : b ≡ 35 = eqb-true b 35 begins in rw is refl
begins-alike (b ∷ c ∷ bs) begins = begins

-- such a line is silent
silent-so : (line : List ℕ) → begins_with 35 line ≡ true → is_silent line ≡ true
unfolding is_silent
silent-so line begins = rw begins refl

-- what is short is not too long
short-so : (n : ℕ) → nat_le n 32768 ≡ true → nat_lt 32768 n ≡ false
short-so n short = elim (cases_Bool (nat_lt 32768 n)) [
  | inl long ↦ grind arith
  | inr fits ↦ fits
]

-- a run skips a comment
pub skipped : CommentsAreSkipped
unfolding told_of
skipped last line comment =
    let parts = and_parts (begins_with 35 line) (nat_le (length line) 32768) comment in
    rw (short-so (length line) parts.1) (rw (silent-so (without_return line) (begins-alike line parts.0)) refl)

-- what is heard of a line that a run skips
none-heard : (from to : Heard) (line : List ℕ) (others : Heard → Option Heard) → told_of from.0 line ≡ Ok None → heard_then (told_of from.0 line) from others ≡ Some to → ⊥
none-heard from to line others skips is = let none : None ≡ Some to = ap (λ r. heard_then r from others) (sym skips) ∙ is in absurd (cc)

-- lines that are heard begin with no comment
no-comment : (from to : Heard) (ls : List (List ℕ)) → hears from ls ≡ Some to → behind_comments ls ≡ ls
no-comment from to [] is = refl
no-comment from to (l ∷ ls) is = elim (cases_Bool (is_comment l)) [
  | inl comment ↦ absurd (none-heard from to l (λ behind. hears behind ls) (skipped from.0 l comment) is)
  | inr other ↦ rw other refl
]

-- behind comments and events others are heard as from there on
behind-append : (mid to : Heard) (ls ms : List (List ℕ)) → hears (0, 0) (behind_comments ls) ≡ Some mid → hears mid ms ≡ Some to → hears (0, 0) (behind_comments (ls ++ ms)) ≡ Some to
behind-append mid to [] ms one two =
    let same : (0, 0) ≡ mid = cc in
    ap (hears (0, 0)) (no-comment mid to ms two) ∙ (ap (λ h. hears h ms) same ∙ two)
behind-append mid to (l ∷ ls) ms one two = elim (cases_Bool (is_comment l)) [
  | inl comment ↦ rw comment (behind-append mid to ls ms (rw comment at one) two)
  | inr other ↦ rw other (hears-append (0, 0) (l ∷ ls) ms mid (rw other at one) ∙ two)
]

-- events behind a trace are a trace
pub trace-goes-on : (mid to : Heard) (xs ys : List ℕ) → IsTraceText xs mid → AreEvents mid ys to → IsTraceText (xs ++ ys) to
trace-goes-on mid to xs ys one two = record {
  whole = rest-append [] xs ys ∙ (ap (λ b. rest_from b ys) one.whole ∙ two.whole);
  told =
      ap (λ ls. hears (0, 0) (behind_comments ls)) (lines-append [] xs ys ∙ ap (λ b. lines_to (λ _. []) [] xs ++ lines_to (λ _. []) b ys) one.whole)
      ∙ behind-append mid to (whole_lines xs) (whole_lines ys) one.told two.told;
}

-- comments alone are a trace in which nothing was heard
pub comments-are : (text : List ℕ) → AreComments text → IsTraceText text (0, 0)
comments-are text comments = record { whole = comments.whole; told = ap (hears (0, 0)) comments.all }

-- nothing is comments
pub nothing-comments : (text : List ℕ) → text ≡ [] → AreComments text
unfolding lines_to
nothing-comments text none = subst AreComments (sym none) (record { whole = refl; all = refl })

-- one comment more
one-more : (ls : List (List ℕ)) (line : List ℕ) → behind_comments ls ≡ [] → is_comment line ≡ true → behind_comments (ls ++ line ∷ []) ≡ []
one-more [] line none comment = rw comment refl
one-more (l ∷ ls) line none comment = elim (cases_Bool (is_comment l)) [
  | inl first ↦ rw first (one-more ls line (rw first at none) comment)
  | inr other ↦ absurd (let bad : (l ∷ ls) ≡ [] = rw other at none in cc)
]

-- a text with a comment more
pub comment-added : (old new line : List ℕ) → AreComments old → is_comment line ≡ true → list_all is_within line ≡ true → new ≡ old ++ (line ++ 10 ∷ []) → AreComments new
comment-added old new line comments comment within is = subst AreComments (sym is) (record {
  whole = rest-append [] old (line ++ 10 ∷ []) ∙ (ap (λ b. rest_from b (line ++ 10 ∷ [])) comments.whole ∙ line-rest [] line within);
  all =
      ap behind_comments (lines-append [] old (line ++ 10 ∷ [])
      ∙ (ap (λ b. lines_to (λ _. []) [] old ++ lines_to (λ _. []) b (line ++ 10 ∷ [])) comments.whole
      ∙ ap (λ ls. lines_to (λ _. []) [] old ++ ls) (line-whole [] line within)))
      ∙ one-more (whole_lines old) line comments.all comment;
})

-- the same where a call that adds it may fail, and adds nothing then
pub comment-or-none : {A E : Type 0} (r : Result A E) (old new line added : List ℕ) → AreComments old → is_comment line ≡ true → list_all is_within line ≡ true →
    added ≡ line ++ 10 ∷ [] → OnOk r (new ≡ old ++ added) → OnErr r (new ≡ old) → AreComments new
comment-or-none (Ok done) old new line added comments comment within is ok err = comment-added old new line comments comment within (ok ∙ ap (λ t. old ++ t) is)
comment-or-none (Err fault) old new line added comments comment within is ok err = subst AreComments (sym err) comments
