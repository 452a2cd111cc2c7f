-- What the tokens are, as a program, by what was read of them.
use Rattle.std.proofs.Common.{◌≡◌, ℕ, zero, suc, ◌+◌, ◌-◌, ◌<◌, List, [], ◌∷◌, Option, Some, None, Ok, Err, inl, inr, length, refl, ap, subst, arith}
use Rattle.snl_text.specs.declared.tokens.Token.{Token}
use Rattle.snl_text.specs.declared.kinds.Kind.{Kind}
use Rattle.snl_tree.specs.reading.Readers.{Stuck, Deep, Read}
use Rattle.snl_syntax.specs.Sequences.{IfThere, Each, EachOfSome}
use Rattle.snl_syntax.specs.Begins.{Sort, Spells, Begins, IsUnexpected, IsTooDeep}
use Rattle.snl_syntax.specs.Definitions.{DefinitionTree, declaration, assign, monitor, sync, sync_queue, event_flags, setting, function, IsDefinition, IsPart, IsProgramPart}
use Rattle.snl_syntax.specs.Statements.{BlockTree, block, IsBlock}
use Rattle.snl_syntax.specs.Programs.{StateTree, StateSetTree, ProgramTree, program_slots, IsClause, IsState, IsStateSet, IsProgram, programs}
use Rattle.snl_tree.specs.reading.Programs.{program_at}
use Rattle.snl_tree.specs.Answers.{HasProgram}
use Rattle.snl_tree.proofs.spelling.Laws.{Sound}
use Rattle.snl_tree.proofs.grammar.DefinitionLaws.{right_definition}
use Rattle.snl_tree.proofs.grammar.OptionLaws.{right_part}
use Rattle.snl_tree.proofs.grammar.ProgramLaws.{right_program}
use Rattle.snl_tree.proofs.grammar.Theorem.{shape_of, unexpected, too_deep, one_tree, unambiguous}

-- what is well formed stays so where more depth is left; without any, no block is

-- no block is well formed where no nesting is allowed
no_block : (b : BlockTree) → IsBlock 0 b → ⊥
no_block (block declarations all) g = g

-- where one condition brings another, it does so for each thing of a list
each_more : {A : Type 0} (P Q : A → Type 0) → ((a : A) → P a → Q a) → (xs : List A) → Each P xs → Each Q xs
each_more P Q f [] g = tt
each_more P Q f (x ∷ xs) g = (f x g.0, each_more P Q f xs g.1)

-- where one condition brings another, it does so for each thing of a list of at least one
some_more : {A : Type 0} (P Q : A → Type 0) → ((a : A) → P a → Q a) → (xs : List A) → EachOfSome P xs → EachOfSome Q xs
some_more P Q f [] g = g
some_more P Q f (x ∷ xs) g = (f x g.0, each_more P Q f xs g.1)

-- a block that may be missing is within limit 1 if it is within 0
block_first : (o : Option BlockTree) → IfThere (IsBlock 0) o → IfThere (IsBlock 1) o
block_first None g = g
block_first (Some b) g = absurd (no_block b g)

-- a definition of a program within limit 0 is within limit 1; it is no function, since that has a block
part_first : (d : DefinitionTree) → IsProgramPart 0 d → IsProgramPart 1 d
part_first (declaration d) g = right_part.raise 0 (declaration d) g
part_first (assign a) g = right_part.raise 0 (assign a) g
part_first (monitor p) g = right_part.raise 0 (monitor p) g
part_first (sync s) g = right_part.raise 0 (sync s) g
part_first (sync_queue q) g = right_part.raise 0 (sync_queue q) g
part_first (event_flags names) g = right_part.raise 0 (event_flags names) g
part_first (setting o) g = right_part.raise 0 (setting o) g
part_first (function f) g = absurd (no_block f.body g.3)

-- a state within limit 0 is within limit 1
state_first : (s : StateTree) → IsState 0 s → IsState 1 s
state_first s g = (
  g.0,
  g.1,
  each_more (IsPart 0) (IsPart 1) (right_part.raise 0) s.definitions g.2,
  block_first s.entry g.3,
  each_more (IsClause 0) (IsClause 1)
      (λ c h. absurd (no_block c.block h.2)) s.clauses g.4,
  block_first s.exit g.5,
)

-- a state set within limit 0 is within limit 1
set_first : (s : StateSetTree) → IsStateSet 0 s → IsStateSet 1 s
set_first s g = (g.0, g.1, each_more (IsDefinition 0) (IsDefinition 1) (right_definition.raise 0) s.definitions g.2, some_more (IsState 0) (IsState 1) state_first s.states g.3)

-- a program within a limit is within the next one
program_more : (n : ℕ) (p : ProgramTree) → IsProgram n p → IsProgram (suc n) p
program_more zero p g = (
  g.0,
  g.1,
  g.2,
  each_more (IsProgramPart 0) (IsProgramPart 1) part_first p.definitions g.3,
  block_first p.entry g.4,
  some_more (IsStateSet 0) (IsStateSet 1) set_first
      p.state_sets g.5,
  block_first p.exit g.6,
)
program_more (suc n) p g = right_program.raise n p g

-- programs, by the number of nested parts beyond the first

-- programs, with limits counted from 1
abbrev later : Sort ProgramTree
later = record { slots = program_slots; within = λ n. IsProgram (suc n) }

-- nothing follows a program
abbrev none : ProgramTree → Kind → Type 0
none p k = ⊥

-- a program within a limit is within any above it
raise : (n k : ℕ) (p : ProgramTree) → IsProgram (suc n) p → IsProgram (suc (k + n)) p
raise n zero p g = subst (λ z. IsProgram (suc z) p) (let h : n ≡ 0 + n = omega arith in h) g
raise n (suc k) p g = subst (λ z. IsProgram (suc z) p) (let h : suc (k + n) ≡ suc k + n = omega arith in h) (right_program.raise (k + n) p (raise n k p g))

-- tokens that begin a program within a limit begin one within the next
begins_later : (n : ℕ) (ts : List Token) → Begins programs n ts → Begins later n ts
begins_later n ts b = record { whole = b.whole; is = program_more n b.whole b.is; front = b.front; back = b.back; halves = b.halves; fits = b.fits }

-- tokens that begin a program, with limits counted from 1, begin one
later_begins : (n : ℕ) (ts : List Token) → Begins later n ts → Begins programs (suc n) ts
later_begins n ts b = record { whole = b.whole; is = b.is; front = b.front; back = b.back; halves = b.halves; fits = b.fits }

-- tokens that begin a program within limit 1 or more do so with limits counted from 1
begins_now : (n : ℕ) (ts : List Token) → Begins programs (suc n) ts → Begins later n ts
begins_now n ts b = record { whole = b.whole; is = b.is; front = b.front; back = b.back; halves = b.halves; fits = b.fits }

-- a token unexpected with limits counted from 1 is unexpected
unexpected_later : (n : ℕ) (ts : List Token) (k : ℕ) → IsUnexpected later n ts k → IsUnexpected programs (suc n) ts k
unexpected_later n ts k u = record {
  within = u.within;
  before = later_begins n _ u.before;
  at = λ m h b. u.at m h (begins_later m _ b);
  whole = λ m h p g s. u.whole m h p (program_more m p g) s;
}

-- a token too deep with limits counted from 1 is too deep
too_deep_later : (n : ℕ) (ts : List Token) (k : ℕ) → IsTooDeep later n ts k → IsTooDeep programs (suc n) ts k
too_deep_later n ts k d = record {
  within = d.within;
  before = later_begins n _ d.before;
  at = λ b. d.at (begins_now n _ b);
  beyond = (suc d.beyond.0, later_begins d.beyond.0 _ d.beyond.1);
}

-- what was read of them

-- a program that is read of all the tokens is well formed and spelled by them
pub found_program : (n : ℕ) (ts : List Token) (p : ProgramTree) → program_at (suc n) ts ≡ Ok (p, []) → IsProgram (suc n) p × Spells programs p ts
found_program n ts p h = subst (λ (r : Read ProgramTree). Sound (shape_of later none n) ts r) h ((right_program.reads n).sound ts)

-- a program that the tokens spell is the one that is read
pub only_program : (n : ℕ) (ts : List Token) (p : ProgramTree) → IsProgram (suc n) p → Spells programs p ts → program_at (suc n) ts ≡ Ok (p, [])
only_program n ts p g h = one_tree later none (λ n. program_at (suc n)) right_program.reads right_program.grows right_program.some raise n ts p g h

-- where the reader of programs is stuck, the token is unexpected
pub program_stuck : (n : ℕ) (ts rest : List Token) → program_at (suc n) ts ≡ Err (Stuck rest) → IsUnexpected programs (suc n) ts (length ts - length rest)
program_stuck n ts rest h =
    unexpected_later n ts (length ts - length rest) (unexpected later none (λ n. program_at (suc n)) right_program.reads right_program.grows right_program.some raise n ts (Err (Stuck rest)) h
    (λ r e. cc) (λ a e. cc))

-- where tokens are left after a program, the first of them is unexpected
pub program_left : (n : ℕ) (ts rest : List Token) (p : ProgramTree) → program_at (suc n) ts ≡ Ok (p, rest) → (rest ≡ [] → ⊥) → IsUnexpected programs (suc n) ts (length ts - length rest)
program_left n ts rest p h more =
    unexpected_later n ts (length ts - length rest) (unexpected later none (λ n. program_at (suc n)) right_program.reads right_program.grows right_program.some raise n ts (Ok (p, rest)) h (λ r k. cc)
    (λ a k. let both : ◌≡◌ {A = ProgramTree × List Token} (p, rest) (a, []) = cc in more (ap (λ x. x.1) both)))

-- where the reader of programs finds a sign too deep, the token is nested too deep
pub program_deep : (n : ℕ) (ts rest : List Token) → program_at (suc n) ts ≡ Err (Deep rest) → IsTooDeep programs (suc n) ts (length ts - length rest)
program_deep n ts rest h = too_deep_later n ts (length ts - length rest) (too_deep later none (λ n. program_at (suc n)) right_program.reads right_program.grows right_program.some raise n ts rest h)

-- tokens are a program, or one is unexpected, or one is nested too deep, from limit 1 on
pub read_program : (n : ℕ) (ts : List Token) → HasProgram (suc n) ts
read_program n ts = go (program_at (suc n) ts) refl
  where
    left_over : (p : ProgramTree) (rest : List Token) → program_at (suc n) ts ≡ Ok (p, rest) → HasProgram (suc n) ts
    left_over p [] h = inl (p, (found_program n ts p h).0, (found_program n ts p h).1)
    left_over p (t ∷ rest) h = inr (inl (length ts - length (t ∷ rest), program_left n ts (t ∷ rest) p h (λ k. cc)))

    go : (r : Read ProgramTree) → program_at (suc n) ts ≡ r → HasProgram (suc n) ts
    go (Ok x) h = left_over x.0 x.1 h
    go (Err (Stuck rest)) h = inr (inl (length ts - length rest, program_stuck n ts rest h))
    go (Err (Deep rest)) h = inr (inr (length ts - length rest, program_deep n ts rest h))

-- no two programs have one spelling
pub one_program : (n : ℕ) (ts : List Token) (a b : ProgramTree) → IsProgram n a → IsProgram n b → Spells programs a ts → Spells programs b ts → a ≡ b
one_program n ts a b g h k l = unambiguous later none (λ n. program_at (suc n)) right_program.reads right_program.grows right_program.some raise n ts a b (program_more n a g) (program_more n b h) k l

-- tokens are a program, or one is unexpected, or one is nested too deep, where the limit is not 0
pub read_within : (limit : ℕ) (ts : List Token) → 0 < limit → HasProgram limit ts
read_within zero ts h = absurd (omega arith)
read_within (suc n) ts h = read_program n ts
