-- What the code answers of a program, by what was read, with any limit that leaves room for a block.
use Rattle.std.proofs.Common.{◌≡◌, ℕ, zero, suc, ◌-◌, ◌<◌, Bool, true, false, List, [], ◌∷◌, Result, Ok, Err, IfOk, nat_eq, length, refl, sym, ap, ◌∙◌, subst, arith, eqb-true, false-eqb}
use Rattle.snl_text.specs.declared.tokens.Token.{Token}
use Rattle.snl_tree.specs.reading.Readers.{Stuck, Deep, Read}
use Rattle.snl_tree.specs.declared.faults.ParseFault.{ParseFault}
use Rattle.snl_tree.specs.declared.faults.ParseFault.TheVariants.{Unexpected, TooDeep}
use Rattle.snl_tree.specs.declared.readers.cursor.Halt.{Halt}
use Rattle.snl_tree.specs.declared.readers.cursor.Halt.TheVariants as halts
use Rattle.snl_tree.specs.reading.Moves.{Moves}
use Rattle.snl_tree.specs.Answers.{IsOnly, answer_of}
use Rattle.snl_syntax.specs.Begins.{Spells, IsUnexpected, IsTooDeep}
use Rattle.snl_syntax.specs.Programs.{ProgramTree, IsProgram, programs}
use Rattle.snl_tree.specs.reading.Programs.{program_at}
use Rattle.snl_tree.proofs.grammar.ProgramParsing.{found_program, only_program, program_stuck, program_left, program_deep}

-- where the count of the tokens that are left is 0, none is left
no_more : (rest : List Token) → nat_eq (length rest) 0 ≡ true → rest ≡ []
no_more [] z = refl
no_more (t ∷ rest) z = let e = eqb-true (length (t ∷ rest)) 0 z in absurd (omega arith)

-- a program read of all the tokens is well formed and spelled by them
ok_found : (n : ℕ) (ts rest : List Token) (p : ProgramTree) → 0 < n → program_at n ts ≡ Ok (p, rest) → nat_eq (length rest) 0 ≡ true → IsProgram n p × Spells programs p ts
ok_found zero ts rest p y h z = absurd (omega arith)
ok_found (suc n) ts rest p y h z = found_program n ts p (h ∙ ap (λ (r : List Token). Ok (p, r)) (no_more rest z))

-- the one program that is spelled is read to the end
only : (n : ℕ) (ts : List Token) (p : ProgramTree) → 0 < n → IsProgram n p → Spells programs p ts → program_at n ts ≡ Ok (p, [])
only zero ts p z g k = absurd (omega arith)
only (suc n) ts p z g k = only_program n ts p g k

-- a program read of all the tokens is the one that they spell
ok_only : (n : ℕ) (ts rest : List Token) (a p : ProgramTree) → 0 < n → program_at n ts ≡ Ok (a, rest) → nat_eq (length rest) 0 ≡ true → IsProgram n p → Spells programs p ts → a ≡ p
ok_only n ts rest a p y h z g k =
    let e : ◌≡◌ {A = Read ProgramTree} (Ok (a, rest)) (Ok (p, [])) = sym h ∙ only n ts p y g k in
    let both : ◌≡◌ {A = ProgramTree × List Token} (a, rest) (p, []) = cc in
    ap (λ (x : ProgramTree × List Token). x.0) both

-- tokens that spell a program leave none after the one that is read
more_only : (n : ℕ) (ts rest : List Token) (a p : ProgramTree) → 0 < n → program_at n ts ≡ Ok (a, rest) → nat_eq (length rest) 0 ≡ false → IsProgram n p → Spells programs p ts → ⊥
more_only n ts rest a p y h z g k =
    let e : ◌≡◌ {A = Read ProgramTree} (Ok (a, rest)) (Ok (p, [])) = sym h ∙ only n ts p y g k in
    let both : ◌≡◌ {A = ProgramTree × List Token} (a, rest) (p, []) = cc in
    false-eqb (length rest) 0 (sym z) (ap (λ (x : ProgramTree × List Token). length x.1) both)

-- tokens that spell a program are not stuck at
stuck_only : (n : ℕ) (ts rest : List Token) (p : ProgramTree) → 0 < n → program_at n ts ≡ Err (Stuck rest) → IsProgram n p → Spells programs p ts → ⊥
stuck_only n ts rest p y h g k = let e : ◌≡◌ {A = Read ProgramTree} (Err (Stuck rest)) (Ok (p, [])) = sym h ∙ only n ts p y g k in absurd cc

-- tokens that spell a program are nowhere too deep
deep_only : (n : ℕ) (ts rest : List Token) (p : ProgramTree) → 0 < n → program_at n ts ≡ Err (Deep rest) → IsProgram n p → Spells programs p ts → ⊥
deep_only n ts rest p y h g k = let e : ◌≡◌ {A = Read ProgramTree} (Err (Deep rest)) (Ok (p, [])) = sym h ∙ only n ts p y g k in absurd cc

-- where tokens are left after a program, the first of them is unexpected
more_unexpected : (n : ℕ) (ts rest : List Token) (p : ProgramTree) → 0 < n → program_at n ts ≡ Ok (p, rest) → nat_eq (length rest) 0 ≡ false → IsUnexpected programs n ts (length ts - length rest)
more_unexpected zero ts rest p y h z = absurd (omega arith)
more_unexpected (suc n) ts rest p y h z = program_left n ts rest p h (λ w. false-eqb (length rest) 0 (sym z) (ap length w))

-- the token at which the reader of programs is stuck is unexpected
stuck_unexpected : (n : ℕ) (ts rest : List Token) → 0 < n → program_at n ts ≡ Err (Stuck rest) → IsUnexpected programs n ts (length ts - length rest)
stuck_unexpected zero ts rest y h = absurd (omega arith)
stuck_unexpected (suc n) ts rest y h = program_stuck n ts rest h

-- the token that the reader of programs finds too deep is nested too deep
deep_too_deep : (n : ℕ) (ts rest : List Token) → 0 < n → program_at n ts ≡ Err (Deep rest) → IsTooDeep programs n ts (length ts - length rest)
deep_too_deep zero ts rest y h = absurd (omega arith)
deep_too_deep (suc n) ts rest y h = program_deep n ts rest h

-- what is answered is well formed and spelled by the tokens
pub answer_found : {A : Type 0} (view : A → ProgramTree) (n : ℕ) (ts rest : List Token) (r : Result A Halt) → 0 < n → Moves view r rest (program_at n ts)
    → IfOk (answer_of r (length ts) (length rest)) (λ a. IsProgram n (view a) × Spells programs (view a) ts)
answer_found {A} view n ts rest (Ok a) y h = at (nat_eq (length rest) 0) refl
  where
    at : (b : Bool) → nat_eq (length rest) 0 ≡ b → IfOk (let r : Result A ParseFault = elim b [ true ↦ Ok a | false ↦ Err (Unexpected (length ts - length rest)) ] in r)
        (λ a. IsProgram n (view a) × Spells programs (view a) ts)
    at true z = ok_found n ts rest (view a) y h z
    at false z = tt
answer_found view n ts rest (Err halt) y h = tt

-- the program answered is the one that the tokens spell
pub answer_only : {A : Type 0} (view : A → ProgramTree) (n : ℕ) (ts rest : List Token) (r : Result A Halt) → 0 < n → Moves view r rest (program_at n ts)
    → (p : ProgramTree) → IsProgram n p → Spells programs p ts → IsOnly view (answer_of r (length ts) (length rest)) p
answer_only {A} view n ts rest (Ok a) y h p g k = at (nat_eq (length rest) 0) refl
  where
    at : (b : Bool) → nat_eq (length rest) 0 ≡ b → IsOnly view (let r : Result A ParseFault = elim b [ true ↦ Ok a | false ↦ Err (Unexpected (length ts - length rest)) ] in r) p
    at true z = ok_only n ts rest (view a) p y h z g k
    at false z = more_only n ts rest (view a) p y h z g k
answer_only view n ts rest (Err halts.Stuck) y h p g k = stuck_only n ts rest p y h g k
answer_only view n ts rest (Err halts.Deep) y h p g k = deep_only n ts rest p y h g k
answer_only view n ts rest (Err halts.Memory) y h p g k = tt

-- a token that is answered as unexpected is so
pub answer_unexpected : {A : Type 0} (view : A → ProgramTree) (n : ℕ) (ts rest : List Token) (r : Result A Halt) → 0 < n → Moves view r rest (program_at n ts)
    → (k : ℕ) → answer_of r (length ts) (length rest) ≡ Err (Unexpected k) → IsUnexpected programs n ts k
answer_unexpected {A} view n ts rest (Ok a) y h k e = at (nat_eq (length rest) 0) refl e
  where
    at : (b : Bool) → nat_eq (length rest) 0 ≡ b → (let r : Result A ParseFault = elim b [ true ↦ Ok a | false ↦ Err (Unexpected (length ts - length rest)) ] in r) ≡ Err (Unexpected k)
        → IsUnexpected programs n ts k
    at true z e = absurd cc
    at false z e = let same : length ts - length rest ≡ k = cc in subst (λ (j : ℕ). IsUnexpected programs n ts j) same (more_unexpected n ts rest (view a) y h z)
answer_unexpected view n ts rest (Err halts.Stuck) y h k e =
    let same : length ts - length rest ≡ k = cc in subst (λ (j : ℕ). IsUnexpected programs n ts j) same (stuck_unexpected n ts rest y h)
answer_unexpected view n ts rest (Err halts.Deep) y h k e = absurd cc
answer_unexpected view n ts rest (Err halts.Memory) y h k e = absurd cc

-- a token that is answered as nested too deep is so
pub answer_too_deep : {A : Type 0} (view : A → ProgramTree) (n : ℕ) (ts rest : List Token) (r : Result A Halt) → 0 < n → Moves view r rest (program_at n ts)
    → (k : ℕ) → answer_of r (length ts) (length rest) ≡ Err (TooDeep k) → IsTooDeep programs n ts k
answer_too_deep {A} view n ts rest (Ok a) y h k e = at (nat_eq (length rest) 0) e
  where
    at : (b : Bool) → (let r : Result A ParseFault = elim b [ true ↦ Ok a | false ↦ Err (Unexpected (length ts - length rest)) ] in r) ≡ Err (TooDeep k) → IsTooDeep programs n ts k
    at true e = absurd cc
    at false e = absurd cc
answer_too_deep view n ts rest (Err halts.Stuck) y h k e = absurd cc
answer_too_deep view n ts rest (Err halts.Deep) y h k e =
    let same : length ts - length rest ≡ k = cc in subst (λ (j : ℕ). IsTooDeep programs n ts j) same (deep_too_deep n ts rest y h)
answer_too_deep view n ts rest (Err halts.Memory) y h k e = absurd cc

-- what is known of what was found is known of what is answered
pub answer_if : {A : Type 0} (P : A → Type 0) (count left : ℕ) (r : Result A Halt) → IfOk r P → IfOk (answer_of r count left) P
answer_if {A} P count left (Ok a) h = at (nat_eq left 0)
  where
    at : (b : Bool) → IfOk (let r : Result A ParseFault = elim b [ true ↦ Ok a | false ↦ Err (Unexpected (count - left)) ] in r) P
    at true = h
    at false = tt
answer_if P count left (Err halt) h = tt
