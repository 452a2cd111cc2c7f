-- What is read of statements and blocks where more depth is left.
use Rattle.std.proofs.Common.{◌≡◌, ℕ, zero, suc, ◌≤◌, ◌+◌, Bool, true, false, List, [], Some, None, inr, length, subst, arith}
use Rattle.snl_text.specs.declared.tokens.Token.{Token}
use Rattle.snl_text.specs.declared.kinds.Kind.{Kind}
use Rattle.snl_text.specs.declared.kinds.Kind.TheVariants.{Name, OpenBrace, CloseBrace, Semicolon, If, Else, While, For, Break, Continue, State, Return}
use Rattle.snl_syntax.specs.Kinds.{is}
use Rattle.snl_tree.specs.reading.Readers.{Reader, left, one, sign, both, nothing, many, under, made}
use Rattle.snl_tree.specs.reading.Sequences.{before}
use Rattle.snl_tree.specs.reading.Expressions.{inside, level_at}
use Rattle.snl_syntax.specs.Statements.{StatementTree, BlockTree, nested, empty, expression, break_loop, continue_loop, change_state, return_with, while_loop, for_loop, no_statements, block, block_slots, is_closed, IsBlock}
use Rattle.snl_syntax.specs.view.Lists.{statement_list}
use Rattle.snl_tree.specs.reading.Statements.{opens_statement, condition_at, ended_at, header_at, Inner, declarations_at, statements_at, block_of, empty_at, expression_statement_at, break_at, continue_at, change_state_at, return_at, else_at, if_tree, if_at, while_at, for_at, word_statement_at, statement_of, statements_inside, block_at}
use Rattle.snl_tree.proofs.spelling.Laws.{ends}
use Rattle.snl_tree.proofs.spelling.Growth.{Grows, Opens, grows_one, grows_sign, grows_nothing, grows_made, grows_both, grows_either, grows_choice, grows_many, opens_one, opens_sign, grows_under_none}
use Rattle.snl_tree.proofs.spelling.Rights.{Form, Right}
use Rattle.snl_tree.proofs.grammar.Values.{right_expression}
use Rattle.snl_tree.proofs.grammar.Blocks.{right_condition, right_header, right_declarations}
use Rattle.snl_tree.proofs.grammar.StatementShapes.{block_more}
use Rattle.snl_tree.proofs.grammar.StatementReads.{StatementLaws, right_return, content_shape, reads_content, looped_shape, reads_looped, counted_shape, reads_counted, chosen_shape, reads_chosen, reads_inside, reads_block_at}

-- More depth is left on the right, where expressions may be nested so deep.
abbrev Higher : ℕ → Inner → Inner → Type 0
Higher l None None = ⊥
Higher l None (Some d) = (m : ℕ) × StatementLaws l m d
Higher l (Some a) None = ⊥
Higher l (Some a) (Some b) = Grows a b

-- a part nested in a statement grows with the depth where its reader does
grows_nested : {A B : Type 0} (l : ℕ) (i j : Inner) → Higher l i j → (test : Kind → Bool) (opener : Reader A) → Opens test opener → Grows opener opener → (low high : Reader StatementTree → Reader B)
    → ((m : ℕ) (d : Reader StatementTree) → StatementLaws l m d → (ts : List Token) → length (left (high d ts)) ≤ length ts)
    → ((a b : Reader StatementTree) → Grows a b → Grows (low a) (high b))
    → Grows (under test i opener low) (under test j opener high)
grows_nested l None None h test opener o g low high e f = absurd h
grows_nested l None (Some d) h test opener o g low high e f = grows_under_none test opener high d o g (e h.0 d h.1)
grows_nested l (Some a) None h test opener o g low high e f = absurd h
grows_nested l (Some a) (Some b) h test opener o g low high e f = grows_both opener opener (λ _. low a) (λ _. high b) g (λ _. f a b h)

-- the reader of statements in a row grows where the one of a statement does
grows_statements : (a b : Reader StatementTree) → Grows a b → Grows (statements_at a) (statements_at b)
unfolding statements_at
grows_statements a b g = grows_made statement_list (many opens_statement a) (many opens_statement b) (grows_many opens_statement a b g)

-- a token of a kind and a semicolon are read the same at any depth
grows_word : (K : Kind) → Grows (before (one (is K)) Semicolon) (before (one (is K)) Semicolon)
grows_word K = grows_made (λ x. x.0) (both (one (is K)) (λ _. sign Semicolon)) (both (one (is K)) (λ _. sign Semicolon))
    (grows_both (one (is K)) (one (is K)) (λ _. sign Semicolon) (λ _. sign Semicolon) (grows_one (is K)) (λ _. grows_sign Semicolon))

-- the reader of `break` is the same at any depth
grows_break : Grows break_at break_at
unfolding break_at
grows_break = grows_made break_loop (before (one (is Break)) Semicolon) (before (one (is Break)) Semicolon) (grows_word Break)

-- the reader of `continue` is the same at any depth
grows_continue : Grows continue_at continue_at
unfolding continue_at
grows_continue = grows_made continue_loop (before (one (is Continue)) Semicolon) (before (one (is Continue)) Semicolon) (grows_word Continue)

-- the reader of a change of state is the same at any depth
grows_change : Grows change_state_at change_state_at
unfolding change_state_at
grows_change = grows_made (λ x. change_state x.0 x.1) (both (one (is State)) (λ _. before (one (is Name)) Semicolon)) (both (one (is State)) (λ _. before (one (is Name)) Semicolon))
    (grows_both (one (is State)) (one (is State)) (λ _. before (one (is Name)) Semicolon) (λ _. before (one (is Name)) Semicolon) (grows_one (is State)) (λ _. grows_word Name))

module _ (l k : ℕ) (i j : Inner) (h : Higher (suc l + k) i j) where
  -- the reader of blocks grows with the limit and the depth
  grows_block : Grows (block_of l i) (block_of (suc l + k) j)
  unfolding block_of
  grows_block =
      grows_made (λ x. block x.1.0 x.1.1) (under (is OpenBrace) i (sign OpenBrace) (λ d. both (declarations_at l) (λ _. before (statements_at d) CloseBrace)))
      (under (is OpenBrace) j (sign OpenBrace) (λ d. both (declarations_at (suc l + k)) (λ _. before (statements_at d) CloseBrace)))
      (grows_nested (suc l + k) i j h (is OpenBrace) (sign OpenBrace) (opens_sign OpenBrace) (grows_sign OpenBrace)
      (λ d. both (declarations_at l) (λ _. before (statements_at d) CloseBrace)) (λ d. both (declarations_at (suc l + k)) (λ _. before (statements_at d) CloseBrace))
      (λ m d laws. ends (content_shape (suc l + k) m) (both (declarations_at (suc l + k)) (λ _. before (statements_at d) CloseBrace)) (reads_content (suc l + k) m d laws))
      (λ a b g. grows_both (declarations_at l) (declarations_at (suc l + k)) (λ _. before (statements_at a) CloseBrace) (λ _. before (statements_at b) CloseBrace) (right_declarations.grows l k)
      (λ _. grows_made (λ x. x.0) (both (statements_at a) (λ _. sign CloseBrace)) (both (statements_at b) (λ _. sign CloseBrace))
      (grows_both (statements_at a) (statements_at b) (λ _. sign CloseBrace) (λ _. sign CloseBrace) (grows_statements a b g) (λ _. grows_sign CloseBrace)))))

  -- the reader of an `else` part grows where the one of a statement does
  grows_else : (closed : Bool) (a b : Reader StatementTree) → Grows a b → Grows (else_at closed a) (else_at closed b)
  grows_else true a b g = grows_either (is Else) (both (sign Else) (λ _. a)) (both (sign Else) (λ _. b)) nothing nothing
      (grows_both (sign Else) (sign Else) (λ _. a) (λ _. b) (grows_sign Else) (λ _. g)) grows_nothing
  grows_else false a b g = grows_made inr nothing nothing grows_nothing

  -- the reader of `if` statements grows with the limit and the depth
  grows_if : Grows (if_at l i) (if_at (suc l + k) j)
  unfolding if_at
  grows_if =
      grows_made (λ x. if_tree x.1.0 x.1.1.0 x.1.1.1) (under (is If) i (sign If) (λ d. both (condition_at l) (λ _. both d (λ s. else_at (is_closed s) d))))
      (under (is If) j (sign If) (λ d. both (condition_at (suc l + k)) (λ _. both d (λ s. else_at (is_closed s) d))))
      (grows_nested (suc l + k) i j h (is If) (sign If) (opens_sign If) (grows_sign If) (λ d. both (condition_at l) (λ _. both d (λ s. else_at (is_closed s) d)))
      (λ d. both (condition_at (suc l + k)) (λ _. both d (λ s. else_at (is_closed s) d)))
      (λ m d laws. ends (chosen_shape (suc l + k) m) (both (condition_at (suc l + k)) (λ _. both d (λ s. else_at (is_closed s) d))) (reads_chosen (suc l + k) m d laws))
      (λ a b g. grows_both (condition_at l) (condition_at (suc l + k)) (λ _. both a (λ s. else_at (is_closed s) a)) (λ _. both b (λ s. else_at (is_closed s) b)) (right_condition.grows l k)
      (λ _. grows_both a b (λ s. else_at (is_closed s) a) (λ s. else_at (is_closed s) b) g (λ s. grows_else (is_closed s) a b g))))

  -- the reader of `while` loops grows with the limit and the depth
  grows_while : Grows (while_at l i) (while_at (suc l + k) j)
  unfolding while_at
  grows_while =
      grows_made (λ x. while_loop x.0 x.1.0 x.1.1) (under (is While) i (one (is While)) (λ d. both (condition_at l) (λ _. d)))
      (under (is While) j (one (is While)) (λ d. both (condition_at (suc l + k)) (λ _. d)))
      (grows_nested (suc l + k) i j h (is While) (one (is While)) (opens_one (is While)) (grows_one (is While)) (λ d. both (condition_at l) (λ _. d)) (λ d. both (condition_at (suc l + k)) (λ _. d))
      (λ m d laws. ends (looped_shape (suc l + k) m) (both (condition_at (suc l + k)) (λ _. d)) (reads_looped (suc l + k) m d laws))
      (λ a b g. grows_both (condition_at l) (condition_at (suc l + k)) (λ _. a) (λ _. b) (right_condition.grows l k) (λ _. g)))

  -- the reader of `for` loops grows with the limit and the depth
  grows_for : Grows (for_at l i) (for_at (suc l + k) j)
  unfolding for_at
  grows_for =
      grows_made (λ x. for_loop x.0 x.1.0 x.1.1) (under (is For) i (one (is For)) (λ d. both (header_at l) (λ _. d))) (under (is For) j (one (is For)) (λ d. both (header_at (suc l + k)) (λ _. d)))
      (grows_nested (suc l + k) i j h (is For) (one (is For)) (opens_one (is For)) (grows_one (is For)) (λ d. both (header_at l) (λ _. d)) (λ d. both (header_at (suc l + k)) (λ _. d))
      (λ m d laws. ends (counted_shape (suc l + k) m) (both (header_at (suc l + k)) (λ _. d)) (reads_counted (suc l + k) m d laws))
      (λ a b g. grows_both (header_at l) (header_at (suc l + k)) (λ _. a) (λ _. b) (right_header.grows l k) (λ _. g)))

  -- the reader of `return` statements grows with the limit
  grows_return : Grows (return_at l) (return_at (suc l + k))
  unfolding return_at
  grows_return = grows_made (λ x. return_with x.0 x.1) (both (one (is Return)) (λ _. ended_at l Semicolon)) (both (one (is Return)) (λ _. ended_at (suc l + k) Semicolon)) (right_return.grows l k)

  -- the reader of statements that nest none grows with the limit
  grows_word_statement : Grows (word_statement_at l) (word_statement_at (suc l + k))
  unfolding word_statement_at expression_statement_at
  grows_word_statement =
      grows_choice (is Break) break_at break_at _ _ grows_break
      (grows_choice (is Continue) continue_at continue_at _ _ grows_continue
      (grows_choice (is State) change_state_at change_state_at _ _ grows_change
      (grows_choice (is Return) (return_at l) (return_at (suc l + k)) _ _ grows_return
      (grows_made expression (before (level_at (inside l) 15) Semicolon) (before (level_at (inside (suc l + k)) 15) Semicolon)
      (grows_made (λ x. x.0) (both (level_at (inside l) 15) (λ _. sign Semicolon)) (both (level_at (inside (suc l + k)) 15) (λ _. sign Semicolon))
      (grows_both (level_at (inside l) 15) (level_at (inside (suc l + k)) 15) (λ _. sign Semicolon) (λ _. sign Semicolon) (right_expression.grows l k) (λ _. grows_sign Semicolon)))))))

  -- the reader of empty statements is the same at any depth
  grows_empty : Grows empty_at empty_at
  unfolding empty_at
  grows_empty = grows_made (λ _. empty) (sign Semicolon) (sign Semicolon) (grows_sign Semicolon)

  -- the reader of statements grows with the limit and the depth
  grows_statement : Grows (statement_of l i) (statement_of (suc l + k) j)
  unfolding statement_of
  grows_statement =
      grows_choice (is OpenBrace) (made nested (block_of l i)) (made nested (block_of (suc l + k) j)) _ _ (grows_made nested (block_of l i) (block_of (suc l + k) j) grows_block)
      (grows_choice (is Semicolon) empty_at empty_at _ _ grows_empty
      (grows_choice (is If) (if_at l i) (if_at (suc l + k) j) _ _ grows_if
      (grows_choice (is While) (while_at l i) (while_at (suc l + k) j) _ _ grows_while
      (grows_choice (is For) (for_at l i) (for_at (suc l + k) j) _ _ grows_for grows_word_statement))))

-- more depth is left inside where the limit and the depth are greater
higher : (l k n : ℕ) → Higher (suc l + k) (statements_inside l n) (statements_inside (suc l + k) (suc n + k))
higher l k zero = subst (λ z. Higher (suc l + k) None (statements_inside (suc l + k) z)) (let e : suc k ≡ 1 + k = omega arith in e) (k, reads_inside (suc l + k) (suc k))
higher l k (suc n) = subst (λ z. Higher (suc l + k) (statements_inside l (suc n)) (statements_inside (suc l + k) z)) (let e : suc (suc n + k) ≡ suc (suc n) + k = omega arith in e)
    (grows_statement l k (statements_inside l n) (statements_inside (suc l + k) (suc n + k)) (higher l k n))

-- Blocks that stand in no other. None is there where no nesting is allowed at all, so the least limit is 1.

-- the same form, with depths counted from 1
abbrev pub later_form : {A : Type 0} → Form A → Form A
later_form F = record { slots = F.slots; good = λ n. F.good (suc n); follow = F.follow }

-- what is right at every depth is so from 1 on
pub right_later : {A : Type 0} (F : Form A) (read : ℕ → Reader A) → Right F read → Right (later_form F) (λ n. read (suc n))
right_later F read laws = record {
  reads = λ n. laws.reads (suc n);
  grows = λ n k. subst (λ z. Grows (read (suc n)) (read z)) (let e : suc (suc n) + k ≡ suc (suc n + k) = omega arith in e) (laws.grows (suc n) k);
  some = λ n. laws.some (suc n);
  raise = λ n. laws.raise (suc n);
}

-- a block that stands in no other, with limits counted from 1
abbrev pub block_form : Form BlockTree
block_form = record { slots = block_slots; good = λ n b. IsBlock (suc n) b; follow = λ _ _. Unit {0} }

-- the reader of blocks that stand in no other is right from limit 1 on
pub right_block : Right block_form (λ n. block_at (suc n) (suc n))
right_block = record {
  reads = λ n. reads_block_at (suc n) (suc n);
  grows = λ n k. subst (λ z. Grows (block_at (suc n) (suc n)) (block_at z z)) (let e : suc (suc n) + k ≡ suc (suc n + k) = omega arith in e)
      (grows_block (suc n) k (statements_inside (suc n) (suc n)) (statements_inside (suc (suc n) + k) (suc (suc n) + k)) (higher (suc n) k (suc n)));
  some = λ n. (block [] no_statements, (tt, tt));
  raise = λ n b g. block_more (suc n) (suc n) b g;
}
