-- What helps before one more token.
use Rattle.std.proofs.Common.{◌≡◌, ℕ, ◌-◌, ◌<◌, suc, List, Option, slice_get, sym, ap, ◌∙◌, arith}
use Rattle.snl_text.specs.declared.tokens.Token.{Token}
use Rattle.snl_helps.specs.Helps.{text_on, help_or, help_before}

-- the last of so many tokens, by its text
pub help_step : (tokens : List Token) (line k : ℕ) (text : Option (List ℕ)) → 0 < k → text ≡ text_on line (slice_get tokens (k - 1))
    → help_before tokens line k ≡ help_or text (help_before tokens line (k - 1))
help_step tokens line k text some e =
    let last : k ≡ suc (k - 1) = omega arith in
    ap (help_before tokens line) last ∙ ap (λ o. help_or o (help_before tokens line (k - 1))) (sym e)
