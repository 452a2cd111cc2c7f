-- Laws of the signs in force: one option after the other gives each letter its last sign.
use Rattle.std.proofs.Common.{◌≡◌, ◌∙◌, ℕ, Bool, List, [], ◌∷◌, Option, Some, None, refl}
use Rattle.std.specs.Option.{option_or}
use Rattle.snl_names.specs.Options.{last_sign, options_by}
use Rattle.snl_names.specs.declared.options.Options.{Options}

-- The signs after some options, one after the other, where those of `o` were in force.
abbrev pub after_all : {A : Type 0} → (ℕ → A → Option Bool) → Options → List A → Options
after_all sign o [] = o
after_all sign o (x ∷ more) = after_all sign (options_by (λ letter. sign letter x) o) more

-- A later sign, else this option's, else the one before.
or_after : (later mine before : Option Bool) → option_or later (option_or mine before) ≡ option_or (option_or later mine) before
or_after (Some x) mine before = refl
or_after None mine before = refl

-- An option before the others counts where they have no sign.
by-cons : {A : Type 0} (sign : ℕ → A → Option Bool) (x : A) (more : List A) (o : Options)
    → options_by (λ letter. last_sign (sign letter) more) (options_by (λ letter. sign letter x) o) ≡ options_by (λ letter. last_sign (sign letter) (x ∷ more)) o
by-cons sign x more o =
    let s = or_after (last_sign (sign 115) more) (sign 115 x) o.s in
    let c = or_after (last_sign (sign 99) more) (sign 99 x) o.c in
    let u = or_after (last_sign (sign 117) more) (sign 117 x) o.u in
    let w = or_after (last_sign (sign 119) more) (sign 119 x) o.w in
    cc

-- One option after the other gives the last signs of all, and those of `o` where they have none.
pub after_all-last : {A : Type 0} (sign : ℕ → A → Option Bool) (o : Options) (xs : List A) → after_all sign o xs ≡ options_by (λ letter. last_sign (sign letter) xs) o
after_all-last sign o [] = refl
after_all-last sign o (x ∷ more) = after_all-last sign (options_by (λ letter. sign letter x) o) more ∙ by-cons sign x more o
