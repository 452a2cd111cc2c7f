-- A cut of the front of a source is a cut of that front alone.
use Rattle.std.proofs.Common.{◌≡◌, ℕ, ◌+◌, ◌-◌, ◌≤◌, List, [], ◌∷◌, ◌++◌, length, take, drop, ap, sym, subst, ◌∙◌, arith, length-drop, Some}
use Rattle.std.proofs.lemmas.List.{drop-take, length-take-le, take-append-drop}
use Rattle.std.proofs.Math.Seq.{take-add, take-append_seam}
use Rattle.snl_text.specs.Cut.{Reading, Cuts, Stands, after, nothing_read}
use Rattle.snl_text.specs.Lexing.{IsCut, IsFault}
use Rattle.snl_text.specs.Lexemes.{lexeme_at}
use Rattle.snl_text.specs.declared.faults.Flaw.{Flaw}
use Rattle.snl_text.specs.declared.lexemes.Lexeme.{Lexeme}
use Rattle.snl_text.specs.declared.tokens.Pos.{Pos}
use Rattle.snl_text.proofs.Cuts.{at_end, offset_after, one_cut, shrinks}
use Rattle.snl_text.proofs.Fronts.{lexeme_alone}

-- a lexeme that stands stands in each front that holds it
pub stands_alone : (r : Reading) (bytes : List ℕ) (p : Lexeme) (n : ℕ) → Stands r bytes p → p.length ≤ n → n ≤ length bytes → Stands r (take n bytes) p
stands_alone r bytes p n stands short within =
    let long : length (take n bytes) ≡ n = length-take-le n bytes within in
    let apart : lexeme_at r.opens_line (take n bytes ++ drop n bytes) ≡ Some p = rw (take-append-drop n bytes) stands.there in
    record {
      some = stands.some;
      within = omega (arith, long, short);
      there = lexeme_alone r.opens_line (take n bytes) (drop n bytes) p (omega (arith, long, short, stands.some)) (omega (arith, long, short)) apart;
    }

-- the offset tells how many bytes were taken
pub offset_of : (r : Reading) (bytes : List ℕ) (lexemes : List Lexeme) (end : Reading) (rest : List ℕ) → Cuts r bytes lexemes end rest → end.pos.offset + length rest ≡ r.pos.offset + length bytes
offset_of r bytes [] end rest cut = omega (arith, ap (λ (s : Reading). s.pos.offset) cut.0, ap length cut.1)
offset_of r bytes (p ∷ ps) end rest cut =
    let text = take p.length bytes in
    let more = offset_of (after r text p.sort) (drop p.length bytes) ps end rest cut.1 in
    omega (arith, more, offset_after r text p.sort, length-take-le p.length bytes cut.0.within, length-drop p.length bytes, cut.0.within)

-- the front of a longer front
take-take : (k m : ℕ) (bytes : List ℕ) → k ≤ length bytes → take k (take (k + m) bytes) ≡ take k bytes
take-take k m bytes within =
    let front = take k bytes in
    let more = take m (drop k bytes) in
    ap (take k) (take-add k m bytes) ∙ ap (λ i. take i (front ++ more)) (sym (length-take-le k bytes within)) ∙ take-append_seam front more

-- a cut of a front, without the rest
pub cut_alone : (r : Reading) (bytes : List ℕ) (lexemes : List Lexeme) (end : Reading) (rest : List ℕ) (n : ℕ) → Cuts r bytes lexemes end rest → n + length rest ≡ length bytes
    → Cuts r (take n bytes) lexemes end []
cut_alone r bytes [] end rest n cut h =
    let none : n ≡ 0 = omega (arith, ap length cut.1, h) in
    (cut.0, ap (λ i. take i bytes) none)
cut_alone r bytes (p ∷ ps) end rest n cut h =
    let text = take p.length bytes in
    let left = drop p.length bytes in
    let fewer : length rest ≤ length left = shrinks (after r text p.sort) left ps end rest cut.1 in
    let short : p.length ≤ n = omega (arith, fewer, h, length-drop p.length bytes, cut.0.within) in
    let sum : p.length + (n - p.length) ≡ n = omega (arith, short) in
    let same : take p.length (take n bytes) ≡ text =
    ap (λ i. take p.length (take i bytes)) (sym sum) ∙ take-take p.length (n - p.length) bytes cut.0.within in
    let further : take (n - p.length) left ≡ drop p.length (take n bytes) =
    sym (drop-take p.length (n - p.length) bytes) ∙ ap (λ i. drop p.length (take i bytes)) sum in
    let inner = cut_alone (after r text p.sort) left ps end rest (n - p.length) cut.1 (omega (arith, h, short, length-drop p.length bytes, cut.0.within)) in (
      stands_alone r bytes p n cut.0 short (omega (arith, h)),
      subst (λ (b : List ℕ). Cuts (after r (take p.length (take n bytes)) p.sort) b ps end []) further
          (subst (λ (t : List ℕ). Cuts (after r t p.sort) (take (n - p.length) left) ps end []) (sym same) inner),
    )

-- the bytes that a cut takes have that cut
pub front_cut : (source : List ℕ) (lexemes : List Lexeme) (end : Reading) (rest : List ℕ) → Cuts nothing_read source lexemes end rest → Cuts nothing_read (take end.pos.offset source) lexemes end []
front_cut source lexemes end rest cut =
    cut_alone nothing_read source lexemes end rest end.pos.offset cut (omega (arith, offset_of nothing_read source lexemes end rest cut))

-- the bytes before a fault are read as the longest cut reads them
pub before_fault : (source : List ℕ) (kind : Flaw) (pos : Pos) (fault : IsFault source kind pos)
    → IsCut (take pos.offset source) fault.end × ((end : Reading) → IsCut (take pos.offset source) end → end ≡ fault.end)
before_fault source kind pos fault =
    let front = front_cut source fault.lexemes fault.end fault.rest fault.cut in
    let here : Cuts nothing_read (take pos.offset source) fault.lexemes fault.end [] =
    subst (λ (q : Pos). Cuts nothing_read (take q.offset source) fault.lexemes fault.end []) (sym fault.pos_is) front in (
      record { lexemes = fault.lexemes; cut = here },
      λ end other. (one_cut (take pos.offset source) other.lexemes fault.lexemes end fault.end [] [] other.cut (at_end end) here (at_end fault.end)).1,
    )
