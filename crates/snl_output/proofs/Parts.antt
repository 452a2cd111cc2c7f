-- The parts of the lines of `printf` and `pvPut`.
use Rattle.std.proofs.Common.{◌≡◌, ℕ, ℤ, List, [], ◌∷◌, ◌++◌, Option, None, Some, refl, ap, sym, ◌∙◌, append_assoc, append-nil, ◌+◌, ◌<◌, drop, length, get_or, codes, decimal, if◌then◌else◌}
use Rattle.std.proofs.lemmas.List.{drop_more}
use Rattle.std.specs.Option.{unwrap_or}
use Rattle.snl_names.specs.declared.formats.FormatState.{FormatState}
use Rattle.snl_names.specs.declared.formats.FormatState.TheVariants.{Plain}
use Rattle.snl_names.specs.Formats.{next, converts}
use Rattle.snl_meaning.specs.Printing.{shown_byte, or_plain, shown, spaced, print_line, put_line}
use Rattle.snl_output.specs.Lines.{joined, newline, print_front, put_front}

-- what a format writes from a byte on: what that byte writes, and then the others
pub shown-here : (place : FormatState) (zs : List ℤ) (text : List ℕ) (i : ℕ) → i < length text →
    shown place zs (drop i text) ≡ shown_byte place (get_or text i 0) zs
    ++ shown (or_plain (next place (get_or text i 0))) (if converts place (get_or text i 0) then drop 1 zs else zs) (drop (i + 1) text)
shown-here place zs text i within = ap (shown place zs) (drop_more text i 0 within)

-- a place, or that of a byte that stands for itself
pub or_plain-is : (o : Option FormatState) → unwrap_or o Plain ≡ or_plain o
or_plain-is None = refl
or_plain-is (Some place) = refl

-- three pieces
joined-three : (a b c : List ℕ) → joined (a ∷ b ∷ c ∷ []) ≡ a ++ b ++ c
joined-three a b c = ap (λ x. a ++ (b ++ x)) (append-nil c) ∙ sym (append_assoc a b c)

-- four pieces
joined-four : (a b c d : List ℕ) → joined (a ∷ b ∷ c ∷ d ∷ []) ≡ a ++ b ++ c ++ d
joined-four a b c d = ap (λ x. a ++ (b ++ (c ++ x))) (append-nil d) ∙ sym (append_assoc a b (c ++ d)) ∙ sym (append_assoc (a ++ b) c d)

-- the line of a `printf`, in its three parts
pub print_line-parts : (ms : ℕ) (set text : List ℕ) → print_line ms set text ≡ print_front ms set ++ (text ++ newline)
print_line-parts ms set text =
    append_assoc (decimal ms ++ codes " print " ++ set ++ codes " ") text newline
    ∙ ap (λ x. x ++ (text ++ newline)) (sym (joined-four (decimal ms) (codes " print ") set (codes " ")))

-- the line of a `pvPut`, in its three parts
pub put_line-parts : (ms : ℕ) (channel : List ℕ) (zs : List ℤ) → put_line ms channel zs ≡ put_front ms channel ++ (spaced zs ++ newline)
put_line-parts ms channel zs =
    append_assoc (decimal ms ++ codes " put " ++ channel) (spaced zs) newline
    ∙ ap (λ x. x ++ (spaced zs ++ newline)) (sym (joined-three (decimal ms) (codes " put ") channel))
