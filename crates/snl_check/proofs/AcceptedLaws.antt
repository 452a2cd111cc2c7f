-- Messages of which none is an error are all warnings.
use Rattle.std.proofs.Common.{◌≡◌, Bool, true, false, ◌&&◌, List, [], ◌∷◌, Contains, map, inl, inr, refl, sym, ap, subst, ◌∙◌, arith}
use Rattle.std.proofs.lemmas.Bool.{false≢true}
use Rattle.std.proofs.lemmas.List.Elements.{Contains-append_left, Contains-append_right, Contains-append_cases, Contains-push, Contains-push_cases}
use Rattle.snl_syntax.specs.declared.programs.Program.{Program}
use Rattle.snl_syntax.specs.view.Programs.{program_view}
use Rattle.snl_names.specs.declared.options.Options.{Options}
use Rattle.snl_names.specs.Programs.{sites}
use Rattle.snl_names.specs.UseTables.{IsTableOf}
use Rattle.snl_messages.specs.declared.messages.Severity.{Severity}
use Rattle.snl_messages.specs.declared.messages.Severity.TheVariants.{Error, Warning}
use Rattle.snl_messages.specs.Messages.{Said, said}
use Rattle.snl_messages.specs.Wordings.{is_warning}
use Rattle.snl_messages.specs.Silence.{options_in_force}
use Rattle.snl_check.specs.declared.findings.Findings.{Findings}
use Rattle.snl_check.specs.Accepted.{IsAccepted, has_no_error}
use Rattle.snl_check.specs.Findings.{AreFindings}

-- A warning is no error.
not_both : (s : Severity) → is_warning s ≡ true → s ≡ Error → ⊥
not_both Error e h = false≢true e
not_both Warning e h = let k : ◌≡◌ {A = Severity} Warning Error = h in cc

-- What passes two tests passes each.
then_both : (a b : Bool) → (a && b) ≡ true → (a ≡ true) × (b ≡ true)
then_both true b e = (refl, e)
then_both false b e = absurd (false≢true e)

-- What passes each of two tests passes both.
both_then : (a b : Bool) → a ≡ true → b ≡ true → (a && b) ≡ true
both_then true b e h = h
both_then false b e h = absurd (false≢true e)

-- What is no error is a warning.
warns : (s : Severity) → (s ≡ Error → ⊥) → is_warning s ≡ true
warns Error h = absurd (h refl)
warns Warning h = refl

-- Where all are warnings, none is an error.
pub no_error : (ms : List Said) → has_no_error ms ≡ true → (m : Said) → Contains ms m → m.severity ≡ Error → ⊥
no_error [] e m h s = omega (arith, h.1)
no_error (x ∷ xs) e m h s =
    let both = then_both (is_warning x.severity) (has_no_error xs) e in
    elim (Contains-append_cases (x ∷ []) xs m h) [
      | inl k ↦ elim (Contains-push_cases [] x m k) [ inl n ↦ omega (arith, n.1) | inr i ↦ not_both x.severity both.0 (ap (λ z. z.severity) i ∙ s) ]
      | inr k ↦ no_error xs both.1 m k s
    ]

-- Where none is an error, all are warnings.
pub all_warn : (ms : List Said) → ((m : Said) → Contains ms m → m.severity ≡ Error → ⊥) → has_no_error ms ≡ true
all_warn [] h = refl
all_warn (x ∷ xs) h =
    both_then (is_warning x.severity) (has_no_error xs)
    (warns x.severity (h x (Contains-append_left (x ∷ []) xs x (Contains-push [] x))))
    (all_warn xs (λ m k. h m (Contains-append_right (x ∷ []) xs m k)))

module _ (p : Program) (given : Options) (f : Findings) (found : AreFindings p given f) where
  -- Where all messages are warnings, no error is said of the program.
  pub accepted_by_warnings : has_no_error (map said f.messages.items) ≡ true → IsAccepted (options_in_force (program_view p) given) p
  accepted_by_warnings e m says = no_error (map said f.messages.items) e m ((found.exactly m).1 says)

  -- Where no error is said of the program, all messages are warnings.
  pub warnings_by_accepted : IsAccepted (options_in_force (program_view p) given) p → has_no_error (map said f.messages.items) ≡ true
  warnings_by_accepted h = all_warn (map said f.messages.items) (λ m k. h m ((found.exactly m).0 k))

  -- The same of an equal program under the options that are found.
  pub accepted_found : (q : Program) → q ≡ p → has_no_error (map said f.messages.items) ≡ true → IsAccepted f.options q
  accepted_found q same e = subst (λ x. IsAccepted f.options x) (sym same) (subst (λ o. IsAccepted o p) (sym found.options) (accepted_by_warnings e))

  -- The sites that are found are those of an equal program.
  pub sites_found : (q : Program) → q ≡ p → f.sites.items ≡ sites (program_view q)
  sites_found q same = subst (λ x. f.sites.items ≡ sites (program_view x)) (sym same) found.sited

  -- The table that is found is that of an equal program.
  pub uses_found : (q : Program) → q ≡ p → IsTableOf f.uses (program_view q)
  uses_found q same = subst (λ x. IsTableOf f.uses (program_view x)) (sym same) found.uses
