-- The forms in which the code reads clauses, states, state sets and programs.
use Rattle.std.proofs.Common.{◌≡◌, ℕ, List, Ok}
use Rattle.snl_text.specs.declared.tokens.Token.{Token}
use Rattle.snl_text.specs.declared.kinds.Kind.TheVariants.{Name, Program, StateSet, State, When, OpenBrace, CloseBrace}
use Rattle.snl_syntax.specs.Kinds.{is}
use Rattle.snl_tree.specs.reading.Readers.{one, sign, ◌>>=◌}
use Rattle.snl_tree.specs.reading.Definitions.{definitions_at, parts_at}
use Rattle.snl_tree.specs.reading.Functions.{program_parts_at}
use Rattle.snl_tree.specs.reading.Statements.{block_at}
use Rattle.snl_tree.specs.reading.Programs.{target_at, condition_at, clause_at, entry_at, exit_at, clauses_at, state_at, states_at, state_set_at, state_sets_at, macros_at, program_at}
use Rattle.snl_tree.proofs.code.Forms.{bind_assoc}

-- a clause is read as its word, a condition, a block and a target
pub clause_form : (n : ℕ) (ts : List Token) → clause_at n ts ≡ (one (is When) ts >>= λ a. condition_at n a.1 >>= λ b. block_at n n b.1 >>= λ c. target_at c.1 >>= λ d.
    Ok (record { word = a.0; condition = b.0; block = c.0; target = d.0 }, d.1))
unfolding clause_at
clause_form n ts = simp bind_assoc

-- a state is read as its word, a name, and its parts in braces
pub state_form : (n : ℕ) (ts : List Token) → state_at n ts ≡ (one (is State) ts >>= λ a. one (is Name) a.1 >>= λ b. sign OpenBrace b.1 >>= λ c. parts_at n c.1 >>= λ d. entry_at n d.1 >>= λ e.
    clauses_at n e.1 >>= λ f. exit_at n f.1 >>= λ g. sign CloseBrace g.1 >>= λ h. Ok (record { word = a.0; name = b.0; definitions = d.0; entry = e.0; clauses = f.0; exit = g.0 }, h.1))
unfolding state_at
state_form n ts = simp bind_assoc

-- a state set is read as its word, a name, and its definitions and states in braces
pub state_set_form : (n : ℕ) (ts : List Token) → state_set_at n ts ≡ (one (is StateSet) ts >>= λ a. one (is Name) a.1 >>= λ b. sign OpenBrace b.1 >>= λ c. definitions_at n c.1 >>= λ d.
    states_at n d.1 >>= λ e. sign CloseBrace e.1 >>= λ f. Ok (record { word = a.0; name = b.0; definitions = d.0; states = e.0 }, f.1))
unfolding state_set_at
state_set_form n ts = simp bind_assoc

-- a program is read as its word, a name and its parts
pub program_form : (n : ℕ) (ts : List Token) → program_at n ts ≡ (one (is Program) ts >>= λ a. one (is Name) a.1 >>= λ b. macros_at b.1 >>= λ c. program_parts_at n c.1 >>= λ d. entry_at n d.1 >>= λ e.
    state_sets_at n e.1 >>= λ f. exit_at n f.1 >>= λ g. Ok (record { word = a.0; name = b.0; macros = c.0; definitions = d.0; entry = e.0; state_sets = f.0; exit = g.0 }, g.1))
unfolding program_at
program_form n ts = simp bind_assoc
