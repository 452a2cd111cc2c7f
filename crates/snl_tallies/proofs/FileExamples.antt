-- Texts that are no files of counts.
use Rattle.std.proofs.Common.{◌≡◌, ◌∙◌, ◌++◌, ◌∷◌, [], All, ℕ, List, ap, arith, codes, decimal, get_or, length, subst}
use Rattle.std.proofs.lemmas.List.{append_cancel_left}
use Rattle.std.proofs.lemmas.List.Elements.{All-cons, All-head, All-nil}
use Rattle.std.specs.Fmt.{digits}
use Rattle.snl_tallies.specs.Counts.{IsNoFileOf, line_of}
use Rattle.snl_tallies.proofs.LineLaws.{IsInLine, line-ahead, line-once, not-in-line}
use Rattle.snl_tallies.proofs.TextLaws.{IsSmall}

-- the digits of 20
no-newline : All IsInLine (codes "20")
no-newline = All-cons IsInLine 50 (48 ∷ []) (λ e. absurd (omega (arith, e))) (All-cons IsInLine 48 [] (λ e. absurd (omega (arith, e))) (All-nil IsInLine))

-- one that is cut off in a number
pub cut-is-none : IsNoFileOf (codes "head\n") (codes "a" ∷ codes "b" ∷ []) (codes "head\na 1\nb 20")
unfolding digits
cut-is-none [] file = absurd (omega (arith, file.each))
cut-is-none (n ∷ []) file = absurd (omega (arith, file.each))
cut-is-none (n ∷ m ∷ k ∷ ns) file = absurd (omega (arith, file.each))
cut-is-none (n ∷ m ∷ []) file =
    let lines = append_cancel_left (codes "head\n") (codes "a 1\nb 20") (line_of (codes "a") n ++ (line_of (codes "b") m ++ [])) file.text_is in
    let small = All-head IsSmall n (m ∷ []) file.small in
    let second = (line-once (codes "a") 1 n (codes "b 20") (line_of (codes "b") m ++ []) (omega arith) small lines).1 in
    let digits = append_cancel_left (codes "b ") (codes "20") (decimal m ++ 10 ∷ []) (second ∙ line-ahead (codes "b") [] m) in
    not-in-line (decimal m) [] (subst (All IsInLine) digits no-newline)

-- one with a line too many
pub more-is-none : IsNoFileOf (codes "head\n") (codes "a" ∷ []) (codes "head\na 1\nb 20\n")
unfolding digits
more-is-none [] file = absurd (omega (arith, file.each))
more-is-none (n ∷ m ∷ ns) file = absurd (omega (arith, file.each))
more-is-none (n ∷ []) file =
    let lines = append_cancel_left (codes "head\n") (codes "a 1\nb 20\n") (line_of (codes "a") n ++ []) file.text_is in
    let rest = (line-once (codes "a") 1 n (codes "b 20\n") [] (omega arith) (All-head IsSmall n [] file.small) lines).1 in
    let long = ap length rest in
    absurd (omega (arith, long))

-- one of another program
pub other-is-none : IsNoFileOf (codes "head\n") (codes "b" ∷ []) (codes "head\na 1\n")
unfolding digits
other-is-none [] file = absurd (omega (arith, file.each))
other-is-none (n ∷ m ∷ ns) file = absurd (omega (arith, file.each))
other-is-none (n ∷ []) file =
    let lines = append_cancel_left (codes "head\n") (codes "a 1\n") (line_of (codes "b") n ++ []) file.text_is in
    let byte : 97 ≡ 98 = ap (λ (l : List ℕ). get_or l 0 0) lines in
    absurd (omega (arith, byte))
