use Rattle.std.proofs.Common.{◌≡◌, ◌∙◌, sym, map, true, false, refl}
use Rattle.std.proofs.lemmas.Bool.{false≢true}
use Rattle.snl_messages.specs.Messages.{said}
use Rattle.snl_check.specs.Accepted.{has_no_error}
use Rattle.snl_check.proofs.AcceptedLaws.{accepted_by_warnings, warnings_by_accepted, accepted_found, sites_found, uses_found}
use Rattle.snl_check.proofs.checked.check.Goals as goal
use Rattle.snl_check.proofs.checked.check.Goals.{then-is_accepted, else-is_accepted}

pub invariant_of-checked : goal.invariant_of-checked
invariant_of-checked c =
    let e = c.in_ok-program.field-0 in
    let found = c.in_ok-program.ensures.found in
    let same = c.in_ok-program.ensures.same in
    let all : has_no_error (map said e.findings.messages.items) ≡ true = sym c.are_accepted-is_accepted.ensures ∙ c.if-is_accepted.true in
    record {
      accepted = accepted_found c.args.program c.args.given e.findings found e.program same all;
      sited = sites_found c.args.program c.args.given e.findings found e.program same;
      bound = uses_found c.args.program c.args.given e.findings found e.program same;
    }

pub returns-clause-accepted : goal.returns-clause-accepted
returns-clause-accepted c =
    let f = c.in_ok-program.field-0.findings in
    let found = c.in_ok-program.ensures.found in
    elim c.if-is_accepted.branch [
      | then-is_accepted w ↦
          let all : has_no_error (map said f.messages.items) ≡ true = sym c.are_accepted-is_accepted.ensures ∙ w.if-is_accepted.true in
          (λ _. accepted_by_warnings c.args.program c.args.given f found all, λ _. rw w.checked-is refl)
      | else-is_accepted w ↦
          let some_error : has_no_error (map said f.messages.items) ≡ false = sym c.are_accepted-is_accepted.ensures ∙ w.if-is_accepted.false in (
            λ some. absurd (false≢true (rw w.checked-is at some)),
            λ none. absurd (false≢true (sym some_error ∙ warnings_by_accepted c.args.program c.args.given f found none)),
          )
    ]
