-- Each source has a cut that can't go on.
use Rattle.std.proofs.Common.{◌≡◌, ◌⊎◌, inl, inr, ℕ, zero, suc, ◌≤◌, List, [], ◌∷◌, length, take, drop, refl, ap, sym, ◌∙◌, arith, length-drop, Option, Some, None}
use Rattle.std.proofs.lemmas.Bool.Decides.{leb_tells}
use Rattle.snl_text.specs.Cut.{Reading, Cuts, IsStuck, Stands, after, nothing_read}
use Rattle.snl_text.specs.Lexing.{IsCut, IsFault}
use Rattle.snl_text.specs.Lexemes.{flaw_at, lexeme_at}
use Rattle.snl_text.specs.declared.faults.Flaw.{Flaw}
use Rattle.snl_text.specs.declared.lexemes.Lexeme.{Lexeme}
use Rattle.snl_text.specs.declared.tokens.Pos.{Pos}
use Rattle.snl_text.proofs.Cuts.{none_is_some, some_are_one, none_passes}

-- the lexeme that the bytes show stands, or none does
shown : (r : Reading) (bytes : List ℕ) (o : Option Lexeme) → lexeme_at r.opens_line bytes ≡ o → ((lexeme : Lexeme) × Stands r bytes lexeme) ⊎ IsStuck r bytes
shown r bytes None is = inr (λ p stands. none_is_some (sym is ∙ stands.there))
shown r bytes (Some p) is =
    elim (leb_tells 1 p.length) [
      | inl some ↦ elim (leb_tells p.length (length bytes)) [
        | inl within ↦ inl (p, record { some = some.1; within = within.1; there = is })
        | inr beyond ↦ inr (λ q stands. let same : p ≡ q = some_are_one (sym is ∙ stands.there) in absurd (omega (arith, stands.within, ap (λ (x : Lexeme). x.length) same)))
      ]
      | inr none ↦ inr (λ q stands. let same : p ≡ q = some_are_one (sym is ∙ stands.there) in absurd (omega (arith, stands.some, ap (λ (x : Lexeme). x.length) same)))
    ]

-- a cut that can't go on
pub record Furthest (r : Reading) (bytes : List ℕ) : Type 0 where
  pub lexemes : List Lexeme
  pub end : Reading
  pub rest : List ℕ
  pub cut : Cuts r bytes lexemes end rest
  pub stuck : IsStuck end rest

-- no more bytes than a number: some cut of them can't go on
furthest_within : (n : ℕ) (r : Reading) (bytes : List ℕ) → length bytes ≤ n → Furthest r bytes
furthest_within zero r bytes h =
    record { lexemes = []; end = r; rest = bytes; cut = (refl, refl); stuck = λ p stands. absurd (omega (arith, stands.some, stands.within)) }
furthest_within (suc n) r bytes h =
    elim (shown r bytes (lexeme_at r.opens_line bytes) refl) [
      | inl x ↦
          let p = x.0 in
          let more = furthest_within n (after r (take p.length bytes) p.sort) (drop p.length bytes) (omega (arith, length-drop p.length bytes, x.1.some, x.1.within)) in
          record { lexemes = p ∷ more.lexemes; end = more.end; rest = more.rest; cut = (x.1, more.cut); stuck = more.stuck }
      | inr stuck ↦ record { lexemes = []; end = r; rest = bytes; cut = (refl, refl); stuck = stuck }
    ]

-- where a cut can't go on, it reaches the end, or the source has a fault there
ended : (source : List ℕ) (lexemes : List Lexeme) (end : Reading) (rest : List ℕ) → Cuts nothing_read source lexemes end rest → IsStuck end rest
    → ((there : Reading) × IsCut source there) ⊎ ((kind : Flaw) × (pos : Pos) × IsFault source kind pos)
ended source lexemes end [] cut stuck = inl (end, record { lexemes = lexemes; cut = cut })
ended source lexemes end (byte ∷ bytes) cut stuck = inr (
  flaw_at (byte ∷ bytes),
  end.pos,
  record {
    lexemes = lexemes;
    end = end;
    rest = byte ∷ bytes;
    cut = cut;
    short = omega arith;
    longest = λ others there left other. none_passes source lexemes others end there (byte ∷ bytes) left cut stuck other;
    kind_is = refl;
    pos_is = refl;
  },
)

-- each source has a cut that reaches its end, or a fault
pub cut_or_fault : (source : List ℕ) → ((end : Reading) × IsCut source end) ⊎ ((kind : Flaw) × (pos : Pos) × IsFault source kind pos)
cut_or_fault source =
    let far = furthest_within (length source) nothing_read source (omega arith) in
    ended source far.lexemes far.end far.rest far.cut far.stuck
