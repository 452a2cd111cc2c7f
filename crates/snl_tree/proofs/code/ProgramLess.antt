-- Less is left after a definition of a program, a clause, a state and a state set, where the limit leaves room for a block.
use Rattle.std.proofs.Common.{◌≡◌, ℕ, zero, suc, ◌<◌, true, List, Ok, length, arith}
use Rattle.snl_text.specs.declared.tokens.Token.{Token}
use Rattle.snl_syntax.specs.Definitions.{DefinitionTree, starts_program_part, definition_slots}
use Rattle.snl_syntax.specs.Programs.{ClauseTree, StateTree, StateSetTree}
use Rattle.snl_tree.specs.reading.Functions.{program_part_at}
use Rattle.snl_tree.specs.reading.Programs.{clause_at, state_at, state_set_at}
use Rattle.snl_tree.proofs.spelling.Rights.{right_less}
use Rattle.snl_tree.proofs.grammar.DefinitionLaws.{heads_more}
use Rattle.snl_tree.proofs.grammar.FunctionLaws.{program_part_form, right_program_part, program_part_heads}
use Rattle.snl_tree.proofs.grammar.ProgramLaws.{clause_form, right_clause, state_form, right_state, state_set_form, right_state_set}

-- fewer tokens are left after a definition of a program
pub program_part_less : (n : ℕ) → 0 < n → (ts rest : List Token) (d : DefinitionTree) → program_part_at n ts ≡ Ok (d, rest) → length rest < length ts
program_part_less zero room ts rest d h = absurd (omega arith)
program_part_less (suc n) room ts rest d h = right_less program_part_form (λ n. program_part_at (suc n)) right_program_part
    (λ n d g. heads_more (λ k. starts_program_part k ≡ true) (λ _. Unit {0}) (definition_slots d) (λ _ _. tt) (program_part_heads (suc n) d g)) n ts rest d h

-- fewer tokens are left after a clause
pub clause_less : (n : ℕ) → 0 < n → (ts rest : List Token) (c : ClauseTree) → clause_at n ts ≡ Ok (c, rest) → length rest < length ts
clause_less zero room ts rest c h = absurd (omega arith)
clause_less (suc n) room ts rest c h = right_less clause_form (λ n. clause_at (suc n)) right_clause (λ _ _ _. tt) n ts rest c h

-- fewer tokens are left after a state
pub state_less : (n : ℕ) → 0 < n → (ts rest : List Token) (s : StateTree) → state_at n ts ≡ Ok (s, rest) → length rest < length ts
state_less zero room ts rest s h = absurd (omega arith)
state_less (suc n) room ts rest s h = right_less state_form (λ n. state_at (suc n)) right_state (λ _ _ _. tt) n ts rest s h

-- fewer tokens are left after a state set
pub state_set_less : (n : ℕ) → 0 < n → (ts rest : List Token) (s : StateSetTree) → state_set_at n ts ≡ Ok (s, rest) → length rest < length ts
state_set_less zero room ts rest s h = absurd (omega arith)
state_set_less (suc n) room ts rest s h = right_less state_set_form (λ n. state_set_at (suc n)) right_state_set (λ _ _ _. tt) n ts rest s h
