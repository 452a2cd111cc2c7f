-- Laws of formats that are cut at their numbers.
use Rattle.std.proofs.Common.{◌≡◌, ℕ, ℤ, Bool, List, [], ◌∷◌, ◌++◌, refl, ap, sym, ◌∙◌, append_assoc, ◌+◌, ◌<◌, drop, length, get_or, if◌then◌else◌}
use Rattle.std.proofs.lemmas.List.{drop_more}
use Rattle.std.specs.Option.{unwrap_or}
use Rattle.snl_names.specs.declared.formats.FormatState.{FormatState}
use Rattle.snl_names.specs.declared.formats.FormatState.TheVariants.{Plain}
use Rattle.snl_names.specs.Formats.{next, converts, unquoted}
use Rattle.snl_meaning.specs.Printing.{first_shown, shown_byte, or_plain, shown}
use Rattle.snl_output.specs.declared.formats.Part.{Part}
use Rattle.snl_output.specs.Formats.{filled, left_behind, left_by, shown_in}
use Rattle.snl_output.specs.Lines.{newline}
use Rattle.snl_output.specs.Texts.{text_in}
use Rattle.snl_output.proofs.Parts.{or_plain-is, shown-here}

-- one part more behind all others: what they write
pub filled-more : (ps : List Part) (p : Part) (zs : List ℤ) (rest : List ℕ) →
    filled (ps ++ p ∷ []) zs rest ≡ filled ps zs (text_in p.text ++ (first_shown (left_behind ps zs) ++ rest))
filled-more [] p zs rest = refl
filled-more (q ∷ ps) p zs rest = ap (λ r. text_in q.text ++ (first_shown zs ++ r)) (filled-more ps p (left_by q zs) rest)

-- and the numbers that are left behind them
pub left-more : (ps : List Part) (p : Part) (zs : List ℤ) → left_behind (ps ++ p ∷ []) zs ≡ left_by p (left_behind ps zs)
left-more [] p zs = refl
left-more (q ∷ ps) p zs = left-more ps p (left_by q zs)

-- what stands behind all that parts write
pub filled-rest : (ps : List Part) (zs : List ℤ) (a b : List ℕ) → filled ps zs (a ++ b) ≡ filled ps zs a ++ b
filled-rest [] zs a b = refl
filled-rest (q ∷ ps) zs a b =
    ap (λ r. text_in q.text ++ (first_shown zs ++ r)) (filled-rest ps (left_by q zs) a b)
    ∙ ap (λ r. text_in q.text ++ r) (sym (append_assoc (first_shown zs) (filled ps (left_by q zs) a) b))
    ∙ sym (append_assoc (text_in q.text) (first_shown zs ++ filled ps (left_by q zs) a) b)

-- parts: the first of them, and the others
pub filled-here : (ps : List Part) (i : ℕ) (p : Part) (zs : List ℤ) (rest : List ℕ) → i < length ps → p ≡ get_or ps i p →
    filled (drop i ps) zs rest ≡ text_in p.text ++ (first_shown zs ++ filled (drop (i + 1) ps) (left_by p zs) rest)
filled-here ps i p zs rest within here =
    ap (λ (qs : List Part). filled qs zs rest) (drop_more ps i p within)
    ∙ ap (λ (q : Part). text_in q.text ++ (first_shown zs ++ filled (drop (i + 1) ps) (left_by q zs) rest)) (sym here)

-- a number was cut off, with the text in front of it: the numbers that are left
pub cut-left : (ps ps' : List Part) (p : Part) (takes : Bool) (zs : List ℤ) → ps' ≡ ps ++ p ∷ [] → p.takes ≡ takes →
    left_behind ps' zs ≡ (if takes then drop 1 (left_behind ps zs) else left_behind ps zs)
cut-left ps ps' p takes zs is same =
    ap (λ (qs : List Part). left_behind qs zs) is ∙ left-more ps p zs ∙ ap (λ b. if b then drop 1 (left_behind ps zs) else left_behind ps zs) same

-- and what is written
pub cut-number : (ps ps' : List Part) (p : Part) (text text' : List ℕ) (place : FormatState) (b : ℕ) (zs : List ℤ) (rest : List ℕ) → ps' ≡ ps ++ p ∷ [] →
    text_in p.text ≡ text → text' ≡ [] → shown_byte place b (left_behind ps zs) ≡ first_shown (left_behind ps zs) →
    filled ps' zs (text' ++ rest) ≡ filled ps zs (text ++ (shown_byte place b (left_behind ps zs) ++ rest))
cut-number ps ps' p text text' place b zs rest is text-is none number =
    ap (λ t. filled ps' zs (t ++ rest)) none ∙ ap (λ (qs : List Part). filled qs zs rest) is ∙ filled-more ps p zs rest
    ∙ ap (λ t. filled ps zs (t ++ (first_shown (left_behind ps zs) ++ rest))) text-is
    ∙ ap (λ n. filled ps zs (text ++ (n ++ rest))) (sym number)

-- what a byte writes was added to a text
pub cut-text : (ps : List Part) (text text' : List ℕ) (place : FormatState) (b : ℕ) (zs : List ℤ) (rest : List ℕ) → text' ≡ text ++ shown_byte place b [] →
    shown_byte place b (left_behind ps zs) ≡ shown_byte place b [] →
    filled ps zs (text' ++ rest) ≡ filled ps zs (text ++ (shown_byte place b (left_behind ps zs) ++ rest))
cut-text ps text text' place b zs rest is plain =
    ap (λ t. filled ps zs (t ++ rest)) is ∙ ap (filled ps zs) (append_assoc text (shown_byte place b []) rest)
    ∙ ap (λ t. filled ps zs (text ++ (t ++ rest))) (sym plain)

-- one byte more of a format was cut
pub cut-more : (whole : List ℕ) (ps ps' : List Part) (t t' : List ℕ) (place place' : FormatState) (text : List ℕ) (i : ℕ) (zs : List ℤ) → i < length text
    → place' ≡ unwrap_or (next place (get_or text i 0)) Plain
    → left_behind ps' zs ≡ (if converts place (get_or text i 0) then drop 1 (left_behind ps zs) else left_behind ps zs)
    → ((rest : List ℕ) → filled ps' zs (t' ++ rest) ≡ filled ps zs (t ++ (shown_byte place (get_or text i 0) (left_behind ps zs) ++ rest)))
    → whole ≡ filled ps zs (t ++ shown place (left_behind ps zs) (drop i text)) → whole ≡ filled ps' zs (t' ++ shown place' (left_behind ps' zs) (drop (i + 1) text))
cut-more whole ps ps' t t' place place' text i zs within place-is left-is written so_far =
    let b = get_or text i 0 in
    let left = left_behind ps zs in
    let left' = if converts place b then drop 1 left else left in
    let behind = drop (i + 1) text in
    so_far ∙ ap (λ r. filled ps zs (t ++ r)) (shown-here place left text i within) ∙ sym (written (shown (or_plain (next place b)) left' behind))
    ∙ ap (λ p. filled ps' zs (t' ++ shown p left' behind)) (sym (place-is ∙ or_plain-is (next place b)))
    ∙ ap (λ (l : List ℤ). filled ps' zs (t' ++ shown place' l behind)) (sym left-is)

-- a format whose text was cut, with the end of the line behind it
pub format-is : (spelled whole : List ℕ) (ps : List Part) (text rest : List ℕ) (zs : List ℤ) → unquoted spelled ≡ whole → shown Plain zs whole ≡ filled ps zs text →
    rest ≡ text ++ newline → shown_in spelled zs ≡ filled ps zs rest
format-is spelled whole ps text rest zs bare cut is =
    ap (λ w. shown Plain zs w ++ newline) bare ∙ ap (λ t. t ++ newline) cut ∙ sym (filled-rest ps zs text newline) ∙ ap (filled ps zs) (sym is)
