-- What a state names that is not reached.
use Rattle.std.proofs.Common.{◌≡◌, ℕ, ◌<◌, ◌≤◌, suc, zero, [], ◌∷◌, None, Option, codes, refl, inl, inr, arith}
use Rattle.snl_text.specs.declared.tokens.Token.{Token}
use Rattle.snl_syntax.specs.Programs.{to_exit, to_state, StateTree}
use Rattle.snl_syntax.specs.Statements.{no_statements, block}
use Rattle.snl_resolve.specs.Examples.{name}
use Rattle.snl_names.specs.Numbered.{number_of}
use Rattle.snl_reach.specs.Reach.{state_names, LeadsTo, IsReached}
use Rattle.snl_rules.specs.ReachExamples.{always, state_of, named_by_one_that_is_not_reached, NameExamples}
use Rattle.snl_reach.proofs.WayLaws.{leads_named, along}

-- which state a name means
abbrev number : Token → Option ℕ
number t = number_of (state_names named_by_one_that_is_not_reached) t.text.now

-- the second state
abbrev second_of_them : StateTree
second_of_them = state_of (name 2 (codes "b")) None (always (block [] no_statements) (to_state (name 10 (codes "c"))) ∷ [])

-- the third state
abbrev third_of_them : StateTree
third_of_them = state_of (name 3 (codes "c")) None []

-- the first state leads nowhere
among_one : (i j : ℕ) → i < 1 → LeadsTo named_by_one_that_is_not_reached i j → j < 1
among_one zero j h l =
    absurd (leads_named named_by_one_that_is_not_reached (state_of (name 1 (codes "a")) None (always (block [] no_statements) to_exit ∷ [])) 0 number (λ t. refl) refl j l)
among_one (suc i) j h l = absurd (omega arith)

-- so no other is reached
unreached : (k : ℕ) → 1 ≤ k → IsReached named_by_one_that_is_not_reached k → ⊥
unreached k far r =
    let start : 0 < 1 = omega arith in
    let one : k < 1 = along named_by_one_that_is_not_reached (λ k. k < 1) among_one r.0 0 k start r.1 in
    omega arith

-- the three of them
pub name_examples : NameExamples
name_examples = (
  ([], refl),
  record { number = 1; state = second_of_them; stands = refl; named = refl; unreached = unreached 1 (omega arith) },
  record { number = 2; state = third_of_them; stands = refl; named = refl; unreached = unreached 2 (omega arith) },
)
