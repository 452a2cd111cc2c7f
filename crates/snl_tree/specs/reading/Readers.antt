-- What reading a prefix of a list of tokens gives, and the ways of joining readers.
use Rattle.std.specs.Prelude.{ℕ, Bool, true, false, List, [], ◌∷◌, Result, Ok, Err, Option, Some, None, ◌⊎◌, length}
use Rattle.std.proofs.Common.{inl, inr, zero, suc}
use Rattle.snl_text.specs.declared.tokens.Token.{Token}
use Rattle.snl_text.specs.declared.kinds.Kind.{Kind}
use Rattle.snl_syntax.specs.Kinds.{is}

-- Why nothing is read: no tree goes on with the tokens here, or one does that is nested too deep.
pub data Fault : Type 0 where
  Stuck : List Token → Fault
  Deep : List Token → Fault

-- The tokens from the place of a fault on.
abbrev pub place : Fault → List Token
place (Stuck rest) = rest
place (Deep rest) = rest

-- What is read, with the tokens after it.
abbrev pub Read : Type 0 → Type 0
Read A = Result (A × List Token) Fault

abbrev pub Reader : Type 0 → Type 0
Reader A = List Token → Read A

-- The tokens after what was read, or from the fault on.
abbrev pub left : {A : Type 0} → Read A → List Token
left (Ok found) = found.1
left (Err fault) = place fault

infixl 10 ◌>>=◌
abbrev pub ◌>>=◌ : {A B : Type 0} → Result A Fault → (A → Result B Fault) → Result B Fault
Ok a >>= f = f a
Err e >>= f = Err e

-- A test of the first token's kind; false at the end.
abbrev pub starts : (Kind → Bool) → List Token → Bool
starts test [] = false
starts test (t ∷ ts) = test t.kind

-- one token that the tree keeps
abbrev pub one : (Kind → Bool) → Reader Token
one test [] = Err (Stuck [])
one test (t ∷ ts) = elim (test t.kind) [ true ↦ Ok (t, ts) | false ↦ Err (Stuck (t ∷ ts)) ]

-- a token of a kind, which the tree drops
abbrev pub sign : Kind → Reader (Unit {0})
sign kind [] = Err (Stuck [])
sign kind (t ∷ ts) = elim (is kind t.kind) [ true ↦ Ok (tt, ts) | false ↦ Err (Stuck (t ∷ ts)) ]

-- one thing, and then another that may hang on the first
abbrev pub both : {A B : Type 0} → Reader A → (A → Reader B) → Reader (A × B)
both first second ts = first ts >>= λ x. second x.0 x.1 >>= λ y. Ok ((x.0, y.0), y.1)

-- one thing where the first token passes a test, else another
abbrev pub either : {A B : Type 0} → (Kind → Bool) → Reader A → Reader B → Reader (A ⊎ B)
either test first second ts = elim (starts test ts) [ true ↦ (first ts >>= λ x. Ok (inl x.0, x.1)) | false ↦ (second ts >>= λ y. Ok (inr y.0, y.1)) ]

-- the same kind of thing in two forms, told apart by the first token
abbrev pub choice : {A : Type 0} → (Kind → Bool) → Reader A → Reader A → Reader A
choice test first second ts = elim (starts test ts) [ true ↦ first ts | false ↦ second ts ]

-- nothing
abbrev pub nothing : Reader (Unit {0})
nothing ts = Ok (tt, ts)

-- as many as begin with a token that passes a test, at most so many
abbrev pub many_of : {A : Type 0} → (Kind → Bool) → Reader A → ℕ → Reader (List A)
many_of test item zero ts = Ok ([], ts)
many_of test item (suc most) ts = elim (starts test ts) [ true ↦ (item ts >>= λ x. many_of test item most x.1 >>= λ y. Ok (x.0 ∷ y.0, y.1)) | false ↦ Ok ([], ts) ]

-- as many as begin with a token that passes a test
abbrev pub many : {A : Type 0} → (Kind → Bool) → Reader A → Reader (List A)
many test item ts = many_of test item (length ts) ts

-- A part that stands one deeper than what it stands in. Its first reader reads the sign that opens it,
-- which passes the test. Where no depth is left, that sign is nested too deep.
abbrev pub under : {R A B : Type 0} → (Kind → Bool) → Option R → Reader A → (R → Reader B) → Reader (A × B)
under test None opener inner ts = elim (starts test ts) [ true ↦ Err (Deep ts) | false ↦ Err (Stuck ts) ]
under test (Some deeper) opener inner ts = both opener (λ _. inner deeper) ts

-- what is made of the parts
abbrev pub made : {A B : Type 0} → (A → B) → Reader A → Reader B
made make reader ts = reader ts >>= λ x. Ok (make x.0, x.1)
