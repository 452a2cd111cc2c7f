-- Texts that are laid over bytes part by part, and the line of a `printf` that is made so.
use Rattle.std.proofs.Common.{◌≡◌, ◌∙◌, ◌+◌, ◌≤◌, ◌++◌, ℕ, ℤ, List, [], ap, append_assoc, decimal, drop, drop_at, length, sym, take}
use Rattle.std.proofs.Math.Seq.{take-add}
use Rattle.std.proofs.lemmas.List.{length-take-le, take-append-le}
use borrow.Rule.Slice.PartMut.{post_of, put_mid, take_put}
use Rattle.snl_meaning.specs.Printing.{first_shown, shown, print_line}
use Rattle.snl_names.specs.Formats.{unquoted}
use Rattle.snl_names.specs.declared.formats.FormatState.TheVariants.{Plain}
use Rattle.snl_output.specs.declared.formats.Format.{Format}
use Rattle.snl_output.specs.declared.formats.Part.{Part}
use Rattle.snl_output.specs.Formats.{filled, left_by, shown_in}
use Rattle.snl_output.specs.Lines.{print_front}
use Rattle.snl_output.specs.Spelled.{spelled_in}
use Rattle.snl_output.specs.Texts.{print_rest, text_in}
use Rattle.snl_output.proofs.Cutting.{filled-rest}
use Rattle.snl_output.proofs.Parts.{print_line-parts}

-- one part more of a format was laid, its text and then the number behind it
pub laid-part : (ps : List Part) (p : Part) (zs zs' : List ℤ) (laid mid next whole : List ℕ) →
    laid ++ (text_in p.text ++ (first_shown zs ++ filled ps (left_by p zs) [])) ≡ whole → mid ≡ laid ++ text_in p.text → next ≡ mid ++ first_shown zs →
    zs' ≡ left_by p zs → next ++ filled ps zs' [] ≡ whole
laid-part ps p zs zs' laid mid next whole so_far text number left =
    let rest = filled ps (left_by p zs) [] in
    ap (λ (l : List ℤ). next ++ filled ps l []) left ∙ ap (λ t. t ++ rest) (number ∙ ap (λ t. t ++ first_shown zs) text)
    ∙ append_assoc (laid ++ text_in p.text) (first_shown zs) rest ∙ append_assoc laid (text_in p.text) (first_shown zs ++ rest) ∙ so_far

-- the line of a `printf` in its three parts
pub printed-parts : (ms : ℕ) (set : List ℕ) (f : Format) (zs : List ℤ) →
    print_line ms set (shown Plain zs (unquoted (spelled_in f))) ≡ print_front ms set ++ (filled f.parts.items zs [] ++ text_in f.rest)
printed-parts ms set f zs =
    print_line-parts ms set (shown Plain zs (unquoted (spelled_in f))) ∙ ap (λ t. print_front ms set ++ t) (f.cut zs ∙ filled-rest f.parts.items zs [] (text_in f.rest))

-- the same: its time, what stands between that and its text, and what its format writes
pub printed-held : (ms : ℕ) (set : List ℕ) (f : Format) (zs : List ℤ) →
    print_line ms set (shown Plain zs (unquoted (spelled_in f))) ≡ decimal ms ++ (print_rest set ++ shown_in (spelled_in f) zs)
printed-held ms set f zs = print_line-parts ms set (shown Plain zs (unquoted (spelled_in f))) ∙ append_assoc (decimal ms) (print_rest set) (shown_in (spelled_in f) zs)

-- the digits of a time, a text behind them, the parts of a format and what is behind these were laid one behind the other
pub line-laid : (f : Format) (zs : List ℤ) (ps : List Part) (digits front one two three : List ℕ) → ps ≡ f.parts.items → one ≡ digits ++ front → two ≡ one ++ filled ps zs [] →
    three ≡ two ++ text_in f.rest → three ≡ digits ++ (front ++ shown_in (spelled_in f) zs)
line-laid f zs ps digits front one two three same first second third =
    let whole : shown_in (spelled_in f) zs ≡ filled f.parts.items zs [] ++ text_in f.rest = f.cut zs ∙ filled-rest f.parts.items zs [] (text_in f.rest) in
    let parts = ap (λ (qs : List Part). filled qs zs []) same in
    third ∙ ap (λ t. t ++ text_in f.rest) (second ∙ ap (λ t. t ++ filled ps zs []) first ∙ ap (λ r. (digits ++ front) ++ r) parts)
    ∙ append_assoc (digits ++ front) (filled f.parts.items zs []) (text_in f.rest) ∙ append_assoc digits front (filled f.parts.items zs [] ++ text_in f.rest)
    ∙ ap (λ t. digits ++ (front ++ t)) (sym whole)

-- what was laid at the front of what stands from a place on was laid from there on
pub part-laid : (old part : List ℕ) (at n k : ℕ) → at ≤ length old → n ≤ length part → take (at + n) (put_mid at k old part) ≡ take at old ++ take n part
part-laid old part at n k within fits =
    let after = post_of at k old in
    take-add at n (put_mid at k old part) ∙ ap (λ t. t ++ take n (drop at (put_mid at k old part))) (take_put at k old part within)
    ∙ ap (λ t. take at old ++ take n t) (drop_at (take at old) (part ++ after) at (length-take-le at old within)) ∙ ap (λ t. take at old ++ t) (take-append-le n part after fits)
