-- Which of three states are reached.
use Rattle.std.proofs.Common.{◌≡◌, ℕ, ◌<◌, suc, zero, [], ◌∷◌, Option, codes, refl, inl, inr, arith}
use Rattle.std.proofs.lemmas.List.Elements.{Contains-push}
use Rattle.std.proofs.lemmas.Option.{same_Some}
use Rattle.snl_text.specs.declared.tokens.Token.{Token}
use Rattle.snl_resolve.specs.Examples.{name}
use Rattle.snl_names.specs.Numbered.{number_of}
use Rattle.snl_reach.specs.Reach.{state_names, LeadsTo, IsReached}
use Rattle.snl_rules.specs.ReachExamples.{first_state, second_state, third_state, three_states, WayExamples}
use Rattle.snl_reach.proofs.WayLaws.{leads_named, along}

-- which state a name means
abbrev number : Token → Option ℕ
number t = number_of (state_names three_states) t.text.now

-- the first two states lead to each other alone
among_two : (i j : ℕ) → i < 2 → LeadsTo three_states i j → j < 2
among_two zero j h l =
    elim (leads_named three_states first_state 0 number (λ t. refl) refl j l)
    [ inl e ↦ (let same : 1 ≡ j = same_Some 1 j e in omega arith) | inr none ↦ absurd none ]
among_two (suc zero) j h l =
    elim (leads_named three_states second_state 1 number (λ t. refl) refl j l)
    [ inl e ↦ (let same : 0 ≡ j = same_Some 0 j e in omega arith) | inr none ↦ absurd none ]
among_two (suc (suc i)) j h l = absurd (omega arith)

-- the first state leads to the second
first_leads : LeadsTo three_states 0 1
first_leads = record { state = first_state; target = name 10 (codes "b"); stands = refl; names = Contains-push [] (name 10 (codes "b")); means = refl }

-- no way leads to the third
third_unreached : IsReached three_states 2 → ⊥
third_unreached r =
    let start : 0 < 2 = omega arith in
    let two : 2 < 2 = along three_states (λ k. k < 2) among_two r.0 0 2 start r.1 in
    omega arith

-- the three of them
pub way_examples : WayExamples
way_examples = (
  ([], refl),
  (1 ∷ [], (first_leads, refl)),
  record { number = 2; state = third_state; stands = refl; named = refl; unreached = third_unreached },
)
