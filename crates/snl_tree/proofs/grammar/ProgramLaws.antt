-- The readers of clauses, states, state sets and programs are right. A block nests, so they are so from
-- limit 1 on.
use Rattle.std.proofs.Common.{◌≡◌, ℕ, suc, lit<, true, false, List, [], ◌∷◌, ◌++◌, Option, Some, None, ◌⊎◌, inl, inr, refl, sym, subst}
use Rattle.snl_text.specs.declared.tokens.Token.{Token}
use Rattle.snl_text.specs.declared.kinds.Kind.{Kind}
use Rattle.snl_text.specs.declared.kinds.Kind.TheVariants.{Name, Text, Program, Entry, Exit, StateSet, State, When, OpenBrace, CloseBrace, OpenParenthesis, CloseParenthesis}
use Rattle.snl_syntax.specs.Kinds.{is}
use Rattle.snl_syntax.specs.Slots.{Slot}
use Rattle.snl_tree.specs.reading.Readers.{one, sign, both, either}
use Rattle.snl_syntax.specs.Sequences.{IfThere, EachOfSome, row_slots}
use Rattle.snl_tree.specs.reading.Sequences.{maybe, behind, between}
use Rattle.snl_syntax.specs.Expressions.{ExprTree}
use Rattle.snl_tree.specs.reading.Expressions.{inside, level_at, is_no_close}
use Rattle.snl_syntax.specs.Definitions.{DefinitionTree, starts_definition, starts_part, starts_program_part, definition_slots}
use Rattle.snl_tree.specs.reading.Definitions.{definitions_at, parts_at}
use Rattle.snl_tree.specs.reading.Functions.{program_parts_at}
use Rattle.snl_syntax.specs.Statements.{BlockTree}
use Rattle.snl_tree.specs.reading.Statements.{block_at}
use Rattle.snl_syntax.specs.Programs.{TargetTree, to_state, to_exit, ClauseTree, StateTree, StateSetTree, ProgramTree, target_slots, clause_slots, state_slots, state_set_slots, program_slots, IsTarget, IsClause, IsState, IsStateSet, IsProgram}
use Rattle.snl_tree.specs.reading.Programs.{target, target_at, condition_at, clause_at, entry_at, exit_at, clauses_at, state_at, states_at, state_set_at, state_sets_at, macros_at, program_at}
use Rattle.snl_tree.proofs.spelling.Laws.{Links}
use Rattle.snl_tree.proofs.spelling.Choices.{is_true, true_is}
use Rattle.snl_tree.proofs.spelling.Lists.{heads_append}
use Rattle.snl_tree.proofs.grammar.Shapes.{heads_opens, open_no_close}
use Rattle.snl_tree.proofs.grammar.Inside.{links_any}
use Rattle.snl_tree.proofs.spelling.Rights.{Form, Right, one_form, right_kind, sign_form, right_sign, both_form, right_both, right_made, either_form, right_either, maybe_form, right_maybe, behind_form, right_behind, between_form, right_between, many_form, right_many, some_form, right_some_of}
use Rattle.snl_tree.proofs.grammar.Values.{expression_form, right_expression}
use Rattle.snl_tree.proofs.grammar.DefinitionLaws.{heads_links, definitions_form, right_definitions}
use Rattle.snl_tree.proofs.grammar.OptionLaws.{parts_form, right_parts}
use Rattle.snl_tree.proofs.grammar.StatementLimits.{later_form, right_later, block_form, right_block}
use Rattle.snl_tree.proofs.grammar.FunctionLaws.{program_part_heads, program_parts_form, right_program_parts}

-- one of some kinds

-- a kind that is one of a list
abbrev Among : List Kind → Kind → Type 0
Among [] k = ⊥
Among (K ∷ all) k = (k ≡ K) ⊎ Among all k

-- something holds of each kind of a list
abbrev AtEach : (Kind → Type 0) → List Kind → Type 0
AtEach P [] = Unit {0}
AtEach P (K ∷ all) = P K × AtEach P all

-- what holds of each kind of a list holds of one among them
among : (P : Kind → Type 0) (all : List Kind) (k : Kind) → AtEach P all → Among all k → P k
among P [] k h e = absurd e
among P (K ∷ all) k h (inl e) = subst P (sym e) h.0
among P (K ∷ all) k h (inr e) = among P all k h.1 e

-- slots may follow a part that anything may follow
free : (F : Kind → Type 0) (ss : List Slot) → Links (λ _. Unit {0}) F ss
free F ss = links_any (λ _. Unit {0}) F ss (λ _. tt)

-- where a clause leads

-- where a clause leads, which anything may follow
abbrev target_form : Form TargetTree
target_form = record { slots = target_slots; good = λ _. IsTarget; follow = λ _ _. Unit {0} }

-- the word `state` and a name, or the word `exit`
abbrev ways_form : Form (Token ⊎ Unit {0})
ways_form = either_form (behind_form State (one_form (is Name))) (sign_form Exit)

-- the reader of where a clause leads is right
right_target : Right target_form (λ _. target_at)
unfolding target_at
right_target = right_made ways_form target_form target (λ _. either (is State) (behind State (one (is Name))) (sign Exit))
    (right_either (is State) (behind_form State (one_form (is Name))) (sign_form Exit) (λ _. behind State (one (is Name))) (λ _. sign Exit)
    (right_behind State (one_form (is Name)) (λ _. one (is Name)) (right_kind Name)) (right_sign Exit)
    (λ _ _ _. refl) (λ _ _ _. refl))
    into onto follows
  where
    into : (n : ℕ) (x : Token ⊎ Unit {0}) → ways_form.good n x → IsTarget (target x) × (target_slots (target x) ≡ ways_form.slots x)
    into n (inl t) g = (is_true Name t.kind g, refl)
    into n (inr u) g = (tt, refl)

    onto : (n : ℕ) (t : TargetTree) → IsTarget t → (x : Token ⊎ Unit {0}) × ways_form.good n x × (target x ≡ t)
    onto n (to_state t) g = (inl t, true_is Name t.kind g, refl)
    onto n to_exit g = (inr tt, tt, refl)

    follows : (n : ℕ) (x : Token ⊎ Unit {0}) → ways_form.good n x → (k : Kind) → Unit {0} → ways_form.follow x k
    follows n (inl t) g k f = tt
    follows n (inr u) g k f = tt

-- clauses

-- a condition that may be missing before a closing parenthesis
abbrev maybe_condition : Form (Option ExprTree)
maybe_condition = maybe_form (later_form expression_form) (λ k. k ≡ CloseParenthesis)

-- a condition that may be missing, in parentheses
abbrev condition_form : Form (Option ExprTree)
condition_form = between_form OpenParenthesis maybe_condition CloseParenthesis

-- the reader of conditions of clauses is right
right_condition : Right condition_form (λ n. condition_at (suc n))
unfolding condition_at
right_condition = right_between OpenParenthesis maybe_condition (λ n. maybe is_no_close (level_at (inside (suc n)) 15)) CloseParenthesis
    (right_maybe is_no_close (later_form expression_form) (λ k. k ≡ CloseParenthesis) (λ n. level_at (inside (suc n)) 15) (right_later expression_form (λ n. level_at (inside n) 15) right_expression)
    (λ n e g. heads_opens (λ k. is_no_close k ≡ true) e (suc n) open_no_close g.1) (λ k e. subst (λ z. is_no_close z ≡ false) (sym e) refl))
    (λ n o g. ends o)
  where
    ends : (o : Option ExprTree) → maybe_condition.follow o CloseParenthesis
    ends None = refl
    ends (Some e) = lit< tt

-- a clause, which anything may follow
abbrev pub clause_form : Form ClauseTree
clause_form = record { slots = clause_slots; good = λ n. IsClause (suc n); follow = λ _ _. Unit {0} }

-- the block of a clause, and where it leads
abbrev deed_form : Form (BlockTree × TargetTree)
deed_form = both_form block_form (λ _. target_form)

-- all of a clause after its word
abbrev clause_rest : Form (Option ExprTree × (BlockTree × TargetTree))
clause_rest = both_form condition_form (λ _. deed_form)

-- the reader of clauses is right
pub right_clause : Right clause_form (λ n. clause_at (suc n))
unfolding clause_at
right_clause = right_made (both_form (one_form (is When)) (λ _. clause_rest)) clause_form (λ x. record { word = x.0; condition = x.1.0; block = x.1.1.0; target = x.1.1.1 })
    (λ n. both (one (is When)) (λ _. both (condition_at (suc n)) (λ _. both (block_at (suc n) (suc n)) (λ _. target_at))))
    (right_both (one_form (is When)) (λ _. clause_rest) (λ _. one (is When)) (λ n _. both (condition_at (suc n)) (λ _. both (block_at (suc n) (suc n)) (λ _. target_at))) (right_kind When)
    (λ _. right_both condition_form (λ _. deed_form) (λ n. condition_at (suc n)) (λ n _. both (block_at (suc n) (suc n)) (λ _. target_at)) right_condition
    (λ _. right_both block_form (λ _. target_form) (λ n. block_at (suc n) (suc n)) (λ _ _. target_at) right_block (λ _. right_target) (λ _ _ t _ _. free (target_form.follow t) (target_slots t)))
    (λ _ _ b _ _. free (deed_form.follow b) (deed_form.slots b)))
    (λ _ _ b _ _. free (clause_rest.follow b) (clause_rest.slots b)))
    (λ n x g. ((is_true When x.0.kind g.0, g.1.0, g.1.1.0, g.1.1.1), refl))
    (λ n c g. ((c.word, (c.condition, (c.block, c.target))), (true_is When c.word.kind g.0, (g.1, (g.2, g.3))), refl)) (λ n x g k f. tt)

-- entry and exit

-- an entry block, or nothing where the kinds of P may follow
abbrev pub entry_form : (Kind → Type 0) → Form (Option BlockTree)
entry_form P = maybe_form (behind_form Entry block_form) P

-- the reader of an entry block that may be missing is right where what follows is no entry
right_entry : (P : Kind → Type 0) → ((k : Kind) → P k → is Entry k ≡ false) → Right (entry_form P) (λ n. entry_at (suc n))
unfolding entry_at
right_entry P stop =
    right_maybe (is Entry) (behind_form Entry block_form) P (λ n. behind Entry (block_at (suc n) (suc n)))
    (right_behind Entry block_form (λ n. block_at (suc n) (suc n)) right_block) (λ _ _ _. refl) stop

-- an exit block, or nothing where the kinds of P may follow
abbrev pub exit_form : (Kind → Type 0) → Form (Option BlockTree)
exit_form P = maybe_form (behind_form Exit block_form) P

-- the reader of an exit block that may be missing is right where what follows is no exit
right_exit : (P : Kind → Type 0) → ((k : Kind) → P k → is Exit k ≡ false) → Right (exit_form P) (λ n. exit_at (suc n))
unfolding exit_at
right_exit P stop =
    right_maybe (is Exit) (behind_form Exit block_form) P (λ n. behind Exit (block_at (suc n) (suc n))) (right_behind Exit block_form (λ n. block_at (suc n) (suc n)) right_block) (λ _ _ _. refl) stop

-- states

-- what may come after the exit of a state: the closing brace
abbrev BehindExit : Kind → Type 0
BehindExit k = Among (CloseBrace ∷ []) k

-- what may come after the clauses of a state: its exit or the closing brace
abbrev BehindClauses : Kind → Type 0
BehindClauses k = Among (Exit ∷ CloseBrace ∷ []) k

-- what may come after the entry of a state: a clause, its exit or the closing brace
abbrev BehindEntry : Kind → Type 0
BehindEntry k = Among (When ∷ Exit ∷ CloseBrace ∷ []) k

-- what may come after the definitions of a state: its entry, a clause, its exit or the brace
abbrev BehindParts : Kind → Type 0
BehindParts k = Among (Entry ∷ When ∷ Exit ∷ CloseBrace ∷ []) k

-- a row of clauses
abbrev clauses_form : Form (List ClauseTree)
clauses_form = many_form clause_form BehindClauses

-- the reader of rows of clauses is right
right_clauses : Right clauses_form (λ n. clauses_at (suc n))
unfolding clauses_at
right_clauses = right_many (is When) clause_form BehindClauses (λ n. clause_at (suc n)) right_clause (λ n c g. true_is When c.word.kind g.0)
    (λ k e. among (λ z. is When z ≡ false) (Exit ∷ CloseBrace ∷ []) k (refl, (refl, tt)) e) (λ _ _ _ _ _. tt) (λ _ _ _ _ _. tt)

-- the exit of a state or its closing brace may follow a part that both may follow
exit_link : (P : Kind → Type 0) → P Exit → P CloseBrace → (o : Option BlockTree) → Links P ((exit_form BehindExit).follow o) ((exit_form BehindExit).slots o)
exit_link P a b None = λ k e. among P (CloseBrace ∷ []) k (b, tt) e
exit_link P a b (Some body) = a

-- the clauses and the exit of a state
abbrev last_form : Form (List ClauseTree × Option BlockTree)
last_form = both_form clauses_form (λ _. exit_form BehindExit)

-- the clauses, the exit or the closing brace may follow a part that all three may follow
clauses_link : (n : ℕ) (P : Kind → Type 0) → P When → P Exit → P CloseBrace → (x : List ClauseTree × Option BlockTree) → last_form.good n x → Links P (last_form.follow x) (last_form.slots x)
clauses_link n P w a b ([], o) g = exit_link P a b o
clauses_link n P w a b (c ∷ all, o) g = subst P (sym g.0.0.0) w

-- the entry, the clauses and the exit of a state
abbrev behind_parts : Form (Option BlockTree × (List ClauseTree × Option BlockTree))
behind_parts = both_form (entry_form BehindEntry) (λ _. last_form)

-- the entry, a clause, the exit or the closing brace may follow a part that all four may follow
entry_link : (n : ℕ) (P : Kind → Type 0) → P Entry → P When → P Exit → P CloseBrace → (x : Option BlockTree × (List ClauseTree × Option BlockTree)) → behind_parts.good n x
    → Links P (behind_parts.follow x) (behind_parts.slots x)
entry_link n P e w a b (None, x) g = clauses_link n P w a b x g.1
entry_link n P e w a b (Some body, x) g = e

-- the clauses, the exit or the closing brace may follow the entry of a state
rest_link : (n : ℕ) (o : Option BlockTree) (x : List ClauseTree × Option BlockTree) → last_form.good n x → Links ((entry_form BehindEntry).follow o) (last_form.follow x) (last_form.slots x)
rest_link n None x g = clauses_link n BehindEntry (inl refl) (inr (inl refl)) (inr (inr (inl refl))) x g
rest_link n (Some body) x g = free (last_form.follow x) (last_form.slots x)

-- all that stands in the braces of a state
abbrev insides_form : Form (List DefinitionTree × (Option BlockTree × (List ClauseTree × Option BlockTree)))
insides_form = both_form (later_form (parts_form BehindParts)) (λ _. behind_parts)

-- the reader of all in the braces of a state is right
right_insides : Right insides_form (λ n. both (parts_at (suc n)) (λ _. both (entry_at (suc n)) (λ _. both (clauses_at (suc n)) (λ _. exit_at (suc n)))))
right_insides = right_both (later_form (parts_form BehindParts)) (λ _. behind_parts) (λ n. parts_at (suc n)) (λ n _. both (entry_at (suc n)) (λ _. both (clauses_at (suc n)) (λ _. exit_at (suc n))))
    (right_later (parts_form BehindParts) parts_at (right_parts BehindParts (λ k e. among (λ z. starts_part z ≡ false) (Entry ∷ When ∷ Exit ∷ CloseBrace ∷ []) k (refl, (refl, (refl, (refl, tt)))) e)))
    (λ _. right_both (entry_form BehindEntry) (λ _. last_form) (λ n. entry_at (suc n)) (λ n _. both (clauses_at (suc n)) (λ _. exit_at (suc n)))
    (right_entry BehindEntry (λ k e. among (λ z. is Entry z ≡ false) (When ∷ Exit ∷ CloseBrace ∷ []) k (refl, (refl, (refl, tt))) e))
    (λ _. right_both clauses_form (λ _. exit_form BehindExit) (λ n. clauses_at (suc n)) (λ n _. exit_at (suc n)) right_clauses
    (λ _. right_exit BehindExit (λ k e. among (λ z. is Exit z ≡ false) (CloseBrace ∷ []) k (refl, tt) e))
    (λ _ _ o _ _. exit_link BehindClauses (inl refl) (inr (inl refl)) o))
    (λ n o x _ g. rest_link n o x g))
    (λ n _ x _ g. entry_link n BehindParts (inl refl) (inr (inl refl)) (inr (inr (inl refl))) (inr (inr (inr (inl refl)))) x g)

-- a state, which anything may follow
abbrev pub state_form : Form StateTree
state_form = record { slots = state_slots; good = λ n. IsState (suc n); follow = λ _ _. Unit {0} }

-- all of a state in its braces
abbrev braced_insides : Form (List DefinitionTree × (Option BlockTree × (List ClauseTree × Option BlockTree)))
braced_insides = between_form OpenBrace insides_form CloseBrace

-- the reader of states is right
pub right_state : Right state_form (λ n. state_at (suc n))
unfolding state_at
right_state = right_made (both_form (one_form (is State)) (λ _. both_form (one_form (is Name)) (λ _. braced_insides))) state_form
    (λ x. record { word = x.0; name = x.1.0; definitions = x.1.1.0; entry = x.1.1.1.0; clauses = x.1.1.1.1.0; exit = x.1.1.1.1.1 })
    (λ n. both (one (is State)) (λ _. both (one (is Name))
    (λ _. between OpenBrace (both (parts_at (suc n)) (λ _. both (entry_at (suc n)) (λ _. both (clauses_at (suc n)) (λ _. exit_at (suc n))))) CloseBrace)))
    (right_both (one_form (is State)) (λ _. both_form (one_form (is Name)) (λ _. braced_insides)) (λ _. one (is State))
    (λ n _. both (one (is Name)) (λ _. between OpenBrace (both (parts_at (suc n)) (λ _. both (entry_at (suc n)) (λ _. both (clauses_at (suc n)) (λ _. exit_at (suc n))))) CloseBrace))
    (right_kind State)
    (λ _. right_both (one_form (is Name)) (λ _. braced_insides) (λ _. one (is Name))
    (λ n _. between OpenBrace (both (parts_at (suc n)) (λ _. both (entry_at (suc n)) (λ _. both (clauses_at (suc n)) (λ _. exit_at (suc n))))) CloseBrace) (right_kind Name)
    (λ _. right_between OpenBrace insides_form (λ n. both (parts_at (suc n)) (λ _. both (entry_at (suc n)) (λ _. both (clauses_at (suc n)) (λ _. exit_at (suc n)))))
    CloseBrace right_insides (λ _ x _. ends x.1.1.1))
    (λ _ _ _ _ _. tt)) (λ _ _ _ _ _. tt))
    (λ n x g. ((is_true State x.0.kind g.0, is_true Name x.1.0.kind g.1.0, g.1.1.0, g.1.1.1.0, g.1.1.1.1.0, g.1.1.1.1.1), refl))
    (λ n s g. ((s.word, (s.name, (s.definitions, (s.entry, (s.clauses, s.exit))))), (true_is State s.word.kind g.0, (true_is Name s.name.kind g.1, (g.2, (g.3, (g.4, g.5))))), refl)) (λ n x g k f. tt)
  where
    ends : (o : Option BlockTree) → (exit_form BehindExit).follow o CloseBrace
    ends None = inl refl
    ends (Some body) = tt

-- state sets

-- a row of at least one state before a closing brace
abbrev states_form : Form (List StateTree)
states_form = some_form state_form (λ k. k ≡ CloseBrace)

-- the reader of rows of states is right
right_states : Right states_form (λ n. states_at (suc n))
unfolding states_at
right_states =
    right_some_of (is State) state_form (λ k. k ≡ CloseBrace) (λ n. state_at (suc n)) right_state (λ n s g. true_is State s.word.kind g.0)
    (λ k e. subst (λ z. is State z ≡ false) (sym e) refl) (λ _ _. tt)

-- all that stands in the braces of a state set
abbrev set_insides : Form (List DefinitionTree × List StateTree)
set_insides = both_form (later_form (definitions_form (λ k. k ≡ State))) (λ _. states_form)

-- a state may follow the definitions of a state set
states_link : (n : ℕ) (all : List StateTree) → EachOfSome (IsState (suc n)) all → Links (λ k. k ≡ State) (λ k. k ≡ CloseBrace) (row_slots state_slots all)
states_link n [] g = absurd g
states_link n (s ∷ all) g = g.0.0

-- the reader of all in the braces of a state set is right
right_set_insides : Right set_insides (λ n. both (definitions_at (suc n)) (λ _. states_at (suc n)))
right_set_insides = right_both (later_form (definitions_form (λ k. k ≡ State))) (λ _. states_form) (λ n. definitions_at (suc n)) (λ n _. states_at (suc n))
    (right_later (definitions_form (λ k. k ≡ State)) definitions_at (right_definitions (λ k. k ≡ State) (λ k e. subst (λ z. starts_definition z ≡ false) (sym e) refl))) (λ _. right_states)
    (λ n _ all _ g. states_link n all g)

-- a state set, which anything may follow
abbrev pub state_set_form : Form StateSetTree
state_set_form = record { slots = state_set_slots; good = λ n. IsStateSet (suc n); follow = λ _ _. Unit {0} }

-- all of a state set in its braces
abbrev braced_set : Form (List DefinitionTree × List StateTree)
braced_set = between_form OpenBrace set_insides CloseBrace

-- the reader of state sets is right
pub right_state_set : Right state_set_form (λ n. state_set_at (suc n))
unfolding state_set_at
right_state_set =
    right_made (both_form (one_form (is StateSet)) (λ _. both_form (one_form (is Name)) (λ _. braced_set))) state_set_form
    (λ x. record { word = x.0; name = x.1.0; definitions = x.1.1.0; states = x.1.1.1 })
    (λ n. both (one (is StateSet)) (λ _. both (one (is Name)) (λ _. between OpenBrace (both (definitions_at (suc n)) (λ _. states_at (suc n))) CloseBrace)))
    (right_both (one_form (is StateSet)) (λ _. both_form (one_form (is Name)) (λ _. braced_set)) (λ _. one (is StateSet))
    (λ n _. both (one (is Name)) (λ _. between OpenBrace (both (definitions_at (suc n)) (λ _. states_at (suc n))) CloseBrace)) (right_kind StateSet)
    (λ _. right_both (one_form (is Name)) (λ _. braced_set) (λ _. one (is Name)) (λ n _. between OpenBrace (both (definitions_at (suc n)) (λ _. states_at (suc n))) CloseBrace) (right_kind Name)
    (λ _. right_between OpenBrace set_insides (λ n. both (definitions_at (suc n)) (λ _. states_at (suc n))) CloseBrace right_set_insides (λ _ _ _. refl))
    (λ _ _ _ _ _. tt)) (λ _ _ _ _ _. tt))
    (λ n x g. ((is_true StateSet x.0.kind g.0, is_true Name x.1.0.kind g.1.0, g.1.1.0, g.1.1.1), refl))
    (λ n s g. ((s.word, (s.name, (s.definitions, s.states))), (true_is StateSet s.word.kind g.0, (true_is Name s.name.kind g.1, (g.2, g.3))), refl)) (λ n x g k f. tt)

-- a row of at least one state set before an exit
abbrev state_sets_form : Form (List StateSetTree)
state_sets_form = some_form state_set_form (λ k. k ≡ Exit)

-- the reader of rows of state sets is right
right_state_sets : Right state_sets_form (λ n. state_sets_at (suc n))
unfolding state_sets_at
right_state_sets =
    right_some_of (is StateSet) state_set_form (λ k. k ≡ Exit) (λ n. state_set_at (suc n)) right_state_set (λ n s g. true_is StateSet s.word.kind g.0)
    (λ k e. subst (λ z. is StateSet z ≡ false) (sym e) refl) (λ _ _. tt)

-- programs

-- what may come after the definitions of a program: its entry or a state set
abbrev BehindAll : Kind → Type 0
BehindAll k = Among (Entry ∷ StateSet ∷ []) k

-- what may come after the name and the macros of a program: a definition, its entry or a state set
abbrev BehindMacros : Kind → Type 0
BehindMacros k = (starts_program_part k ≡ true) ⊎ BehindAll k

-- what may come after the macros is no opening parenthesis
no_parenthesis : (k : Kind) → BehindMacros k → is OpenParenthesis k ≡ false
no_parenthesis k (inr e) = among (λ z. is OpenParenthesis z ≡ false) (Entry ∷ StateSet ∷ []) k (refl, (refl, tt)) e
no_parenthesis k (inl e) = go k e
  where
    go : (k : Kind) → starts_program_part k ≡ true → is OpenParenthesis k ≡ false
    go OpenParenthesis e = sym e
    go _ e = refl

-- the macros in parentheses, which may be missing
abbrev macros_form : Form (Option Token)
macros_form = maybe_form (between_form OpenParenthesis (one_form (is Text)) CloseParenthesis) BehindMacros

-- the reader of macros is right
right_macros : Right macros_form (λ _. macros_at)
unfolding macros_at
right_macros = right_maybe (is OpenParenthesis) (between_form OpenParenthesis (one_form (is Text)) CloseParenthesis) BehindMacros (λ _. between OpenParenthesis (one (is Text)) CloseParenthesis)
    (right_between OpenParenthesis (one_form (is Text)) (λ _. one (is Text)) CloseParenthesis (right_kind Text) (λ _ _ _. tt)) (λ _ _ _. refl) no_parenthesis

-- a token, if there, that passes the test for a string is one
text_is : (o : Option Token) → IfThere (λ t. is Text t.kind ≡ true) o → IfThere (λ t. t.kind ≡ Text) o
text_is None g = g
text_is (Some t) g = is_true Text t.kind g

-- a string, if there, passes the test for one
is_text : (o : Option Token) → IfThere (λ t. t.kind ≡ Text) o → IfThere (λ t. is Text t.kind ≡ true) o
is_text None g = g
is_text (Some t) g = true_is Text t.kind g

-- no kind may follow
abbrev Never : Kind → Type 0
Never k = ⊥

-- the state sets and the exit of a program
abbrev sets_form : Form (List StateSetTree × Option BlockTree)
sets_form = both_form state_sets_form (λ _. exit_form Never)

-- the exit of a program or nothing may follow the state sets
last_exit : (o : Option BlockTree) → Links (λ k. k ≡ Exit) ((exit_form Never).follow o) ((exit_form Never).slots o)
last_exit None = λ k e. absurd e
last_exit (Some body) = refl

-- the state sets may follow a part that the word of one may follow
sets_link : (n : ℕ) (P : Kind → Type 0) → P StateSet → (x : List StateSetTree × Option BlockTree) → sets_form.good n x → Links P (sets_form.follow x) (sets_form.slots x)
sets_link n P a ([], o) g = absurd g.0
sets_link n P a (s ∷ all, o) g = subst P (sym g.0.0.0) a

-- the entry of a program, or nothing before a state set
abbrev set_entry : Form (Option BlockTree)
set_entry = entry_form (λ k. k ≡ StateSet)

-- the entry, the state sets and the exit of a program
abbrev entered_form : Form (Option BlockTree × (List StateSetTree × Option BlockTree))
entered_form = both_form set_entry (λ _. sets_form)

-- the state sets may follow the entry of a program
set_entry_link : (n : ℕ) (o : Option BlockTree) (x : List StateSetTree × Option BlockTree) → sets_form.good n x → Links (set_entry.follow o) (sets_form.follow x) (sets_form.slots x)
set_entry_link n None x g = sets_link n (λ k. k ≡ StateSet) refl x g
set_entry_link n (Some body) x g = free (sets_form.follow x) (sets_form.slots x)

-- the entry or a state set may follow a part that both may follow
entered_link : (n : ℕ) (P : Kind → Type 0) → P Entry → P StateSet → (x : Option BlockTree × (List StateSetTree × Option BlockTree)) → entered_form.good n x
    → Links P (entered_form.follow x) (entered_form.slots x)
entered_link n P a b (None, x) g = sets_link n P b x g.1
entered_link n P a b (Some body, x) g = a

-- the definitions of a program, and all after them
abbrev defined_form : Form (List DefinitionTree × (Option BlockTree × (List StateSetTree × Option BlockTree)))
defined_form = both_form (program_parts_form BehindAll) (λ _. entered_form)

-- a definition, the entry or a state set may follow the macros
macros_link : (n : ℕ) (o : Option Token) (x : List DefinitionTree × (Option BlockTree × (List StateSetTree × Option BlockTree))) → defined_form.good n x
    → Links (macros_form.follow o) (defined_form.follow x) (defined_form.slots x)
macros_link n (Some t) x g = free (defined_form.follow x) (defined_form.slots x)
macros_link n None ([], x) g = entered_link n BehindMacros (inr (inl refl)) (inr (inr (inl refl))) x g.1
macros_link n None (d ∷ all, x) g = heads_links (λ k. starts_program_part k ≡ true) BehindMacros (entered_form.follow x) (definition_slots d ++ row_slots definition_slots all) (entered_form.slots x)
    (heads_append (λ k. starts_program_part k ≡ true) (definition_slots d) (row_slots definition_slots all) (program_part_heads (suc n) d g.0.0)) (λ k e. inl e)

-- all of a program after its name
abbrev behind_name : Form (Option Token × (List DefinitionTree × (Option BlockTree × (List StateSetTree × Option BlockTree))))
behind_name = both_form macros_form (λ _. defined_form)

-- the reader of all of a program after its name is right
right_behind_name : Right behind_name (λ n. both macros_at (λ _. both (program_parts_at (suc n)) (λ _. both (entry_at (suc n)) (λ _. both (state_sets_at (suc n)) (λ _. exit_at (suc n))))))
right_behind_name =
    right_both macros_form (λ _. defined_form) (λ _. macros_at)
    (λ n _. both (program_parts_at (suc n)) (λ _. both (entry_at (suc n)) (λ _. both (state_sets_at (suc n)) (λ _. exit_at (suc n))))) right_macros
    (λ _. right_both (program_parts_form BehindAll) (λ _. entered_form) (λ n. program_parts_at (suc n)) (λ n _. both (entry_at (suc n)) (λ _. both (state_sets_at (suc n)) (λ _. exit_at (suc n))))
    (right_program_parts BehindAll (λ k e. among (λ z. starts_program_part z ≡ false) (Entry ∷ StateSet ∷ []) k (refl, (refl, tt)) e))
    (λ _. right_both set_entry (λ _. sets_form) (λ n. entry_at (suc n)) (λ n _. both (state_sets_at (suc n)) (λ _. exit_at (suc n)))
    (right_entry (λ k. k ≡ StateSet) (λ k e. subst (λ z. is Entry z ≡ false) (sym e) refl))
    (λ _. right_both state_sets_form (λ _. exit_form Never) (λ n. state_sets_at (suc n)) (λ n _. exit_at (suc n)) right_state_sets (λ _. right_exit Never (λ k e. absurd e)) (λ _ _ o _ _. last_exit o))
    (λ n o x _ g. set_entry_link n o x g))
    (λ n _ x _ g. entered_link n BehindAll (inl refl) (inr (inl refl)) x g))
    (λ n o x _ g. macros_link n o x g)

-- a program, which nothing may follow
abbrev pub program_form : Form ProgramTree
program_form = record { slots = program_slots; good = λ n. IsProgram (suc n); follow = λ _. Never }

-- the reader of programs is right
pub right_program : Right program_form (λ n. program_at (suc n))
unfolding program_at
right_program = right_made (both_form (one_form (is Program)) (λ _. both_form (one_form (is Name)) (λ _. behind_name))) program_form
    (λ x. record { word = x.0; name = x.1.0; macros = x.1.1.0; definitions = x.1.1.1.0; entry = x.1.1.1.1.0; state_sets = x.1.1.1.1.1.0; exit = x.1.1.1.1.1.1 })
    (λ n. both (one (is Program)) (λ _. both (one (is Name))
    (λ _. both macros_at (λ _. both (program_parts_at (suc n)) (λ _. both (entry_at (suc n)) (λ _. both (state_sets_at (suc n)) (λ _. exit_at (suc n))))))))
    (right_both (one_form (is Program)) (λ _. both_form (one_form (is Name)) (λ _. behind_name)) (λ _. one (is Program))
    (λ n _. both (one (is Name)) (λ _. both macros_at (λ _. both (program_parts_at (suc n)) (λ _. both (entry_at (suc n)) (λ _. both (state_sets_at (suc n)) (λ _. exit_at (suc n)))))))
    (right_kind Program)
    (λ _. right_both (one_form (is Name)) (λ _. behind_name) (λ _. one (is Name))
    (λ n _. both macros_at (λ _. both (program_parts_at (suc n)) (λ _. both (entry_at (suc n)) (λ _. both (state_sets_at (suc n)) (λ _. exit_at (suc n)))))) (right_kind Name)
    (λ _. right_behind_name) (λ _ _ b _ _. free (behind_name.follow b) (behind_name.slots b))) (λ _ _ _ _ _. tt))
    (λ n x g. ((is_true Program x.0.kind g.0, is_true Name x.1.0.kind g.1.0, text_is x.1.1.0 g.1.1.0, g.1.1.1.0, g.1.1.1.1.0, g.1.1.1.1.1.0, g.1.1.1.1.1.1), refl))
    (λ n p g. (
      (p.word, (p.name, (p.macros, (p.definitions, (p.entry, (p.state_sets, p.exit)))))),
      (true_is Program p.word.kind g.0, (true_is Name p.name.kind g.1, (is_text p.macros g.2, (g.3, (g.4, (g.5, g.6)))))),
      refl,
    ))
    (λ n x g k f. absurd f)
