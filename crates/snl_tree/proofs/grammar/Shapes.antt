-- Facts of the trees of expressions.
use Rattle.std.proofs.Common.{◌≡◌, ℕ, zero, suc, ◌≤◌, Bool, true, false, true≢false, List, [], ◌∷◌, inl, inr, refl, sym, ap, ◌∙◌, arith}
use denote.Enum.Bare.{false_same}
use Rattle.snl_text.specs.contracts.kinds.Kind.{the_type}
use Rattle.snl_text.specs.declared.kinds.Kind.{Kind}
use Rattle.snl_text.specs.declared.kinds.Kind.TheVariants.{Name, Whole, Decimal, Character, Text, OpenParenthesis, CloseParenthesis, Plus, Minus, Bang, Tilde, PlusPlus, MinusMinus}
use Rattle.snl_syntax.specs.Kinds.{is, is_constant, is_prefix}
use Rattle.snl_syntax.specs.Slots.{Slot, slot_kind}
use Rattle.snl_syntax.specs.Expressions.{ExprTree, TermList, ArgumentList, constant, parenthesized, named, element, call, postfix, prefix, chain, conditional, assignment, no_terms, term, no_arguments, value, text, rank, terms_rank, slots, IsLevel, Under, IsWell, HasTerms, AreWell}
use Rattle.snl_tree.specs.reading.Expressions.{is_no_close}
use Rattle.snl_tree.proofs.spelling.Choices.{Heads, Avoids}
use Rattle.snl_tree.proofs.spelling.Lists.{heads_append}

-- a kind that is not the given one fails the test for it
pub not_is : (K k : Kind) → (k ≡ K → ⊥) → is K k ≡ false
not_is K k f = false_same the_type tt k K f

-- a test that fails does not pass
false_true : {A : Type 0} → false ≡ true → A
false_true e = absurd (true≢false (sym e))

-- what an expression can begin with: a constant, a name, a parenthesis or a prefix operator
abbrev pub can_open : Kind → Bool
can_open Whole = true
can_open Decimal = true
can_open Character = true
can_open Name = true
can_open OpenParenthesis = true
can_open Plus = true
can_open Minus = true
can_open Bang = true
can_open Tilde = true
can_open PlusPlus = true
can_open MinusMinus = true
can_open _ = false

-- a constant can begin an expression
constant_opens : (k : Kind) → is_constant k ≡ true → can_open k ≡ true
constant_opens Whole e = refl
constant_opens Decimal e = refl
constant_opens Character e = refl
constant_opens _ e = false_true e

-- a prefix operator can begin an expression
prefix_opens : (k : Kind) → is_prefix k ≡ true → can_open k ≡ true
prefix_opens Plus e = refl
prefix_opens Minus e = refl
prefix_opens Bang e = refl
prefix_opens Tilde e = refl
prefix_opens PlusPlus e = refl
prefix_opens MinusMinus e = refl
prefix_opens _ e = false_true e

-- a constant is no prefix operator
constant_no_prefix : (k : Kind) → is_constant k ≡ true → is_prefix k ≡ false
constant_no_prefix Whole e = refl
constant_no_prefix Decimal e = refl
constant_no_prefix Character e = refl
constant_no_prefix _ e = false_true e

-- what can begin an expression is no string
pub open_no_text : (k : Kind) → can_open k ≡ true → is Text k ≡ false
open_no_text Text e = false_true e
open_no_text _ e = refl

-- what can begin an expression is no closing parenthesis
pub open_no_close : (k : Kind) → can_open k ≡ true → is_no_close k ≡ true
open_no_close CloseParenthesis e = false_true e
open_no_close _ e = refl

-- slots whose first passes one condition pass a weaker one
heads_more : (P Q : Kind → Type 0) (ss : List Slot) → ((k : Kind) → P k → Q k) → Heads P ss → Heads Q ss
heads_more P Q [] f h = absurd h
heads_more P Q (s ∷ ss) f h = f (slot_kind s) h

-- slots whose first kind fails a test begin with none that passes it
pub avoids_heads : (test : Kind → Bool) (F : Kind → Type 0) (ss : List Slot) → Heads (λ k. test k ≡ false) ss → Avoids test F ss
avoids_heads test F [] h = absurd h
avoids_heads test F (s ∷ ss) h = h

-- the kind of the first token of an expression
abbrev first_kind : ExprTree → Kind
first_kind (constant t) = t.kind
first_kind (parenthesized e) = OpenParenthesis
first_kind (named x) = x.kind
first_kind (element x b e) = x.kind
first_kind (call f all) = f.kind
first_kind (postfix e op) = first_kind e
first_kind (prefix op e) = op.kind
first_kind (chain e rest) = first_kind e
first_kind (conditional c a b) = first_kind c
first_kind (assignment e op f) = first_kind e

-- an expression begins with a token of its first kind
first_heads : (e : ExprTree) → Heads (λ k. k ≡ first_kind e) (slots e)
first_heads (constant t) = refl
first_heads (parenthesized e) = refl
first_heads (named x) = refl
first_heads (element x b e) = refl
first_heads (call f all) = refl
first_heads (postfix e op) = heads_append (λ k. k ≡ first_kind e) (slots e) _ (first_heads e)
first_heads (prefix op e) = refl
first_heads (chain e rest) = heads_append (λ k. k ≡ first_kind e) (slots e) _ (first_heads e)
first_heads (conditional c a b) = heads_append (λ k. k ≡ first_kind c) (slots c) _ (first_heads c)
first_heads (assignment e op f) = heads_append (λ k. k ≡ first_kind e) (slots e) _ (first_heads e)

-- a name can begin an expression
name_opens : (k : Kind) → k ≡ Name → can_open k ≡ true
name_opens k e = ap can_open e

-- the first kind of a well-formed expression can begin one
first_opens : (e : ExprTree) (n : ℕ) → IsWell e n → can_open (first_kind e) ≡ true
first_opens (constant t) n g = constant_opens t.kind g
first_opens (parenthesized e) n g = refl
first_opens (named x) n g = name_opens x.kind g
first_opens (element x b e) n g = name_opens x.kind g.0
first_opens (call f all) n g = name_opens f.kind g.0
first_opens (postfix e op) n g = first_opens e n g.1
first_opens (prefix op e) n g = prefix_opens op.kind g.0
first_opens (chain e rest) n g = first_opens e n g.2
first_opens (conditional c a b) n g = first_opens c n g.1
first_opens (assignment e op f) n g = first_opens e n g.1

-- a well-formed expression begins with a kind that can open one
pub heads_opens : (P : Kind → Type 0) (e : ExprTree) (n : ℕ) → ((k : Kind) → can_open k ≡ true → P k) → IsWell e n → Heads P (slots e)
heads_opens P e n f g = heads_more (λ k. k ≡ first_kind e) P (slots e) (λ k h. f k (ap can_open h ∙ first_opens e n g)) (first_heads e)

-- a postfix expression has no prefix operator for its first kind
first_no_prefix : (e : ExprTree) (n : ℕ) → rank e ≤ 1 → IsWell e n → is_prefix (first_kind e) ≡ false
first_no_prefix (constant t) n r g = constant_no_prefix t.kind g
first_no_prefix (parenthesized e) n r g = refl
first_no_prefix (named x) n r g = ap is_prefix g
first_no_prefix (element x b e) n r g = ap is_prefix g.0
first_no_prefix (call f all) n r g = ap is_prefix g.0
first_no_prefix (postfix e op) n r g = first_no_prefix e n (let h = g.0 in omega arith) g.1
first_no_prefix (prefix op e) n r g = absurd (omega arith)
first_no_prefix (chain e rest) n r g = let l : IsLevel (terms_rank rest) = g.0 in absurd (elim l [ inl h ↦ let a = h.0 in omega arith | inr h ↦ omega arith ])
first_no_prefix (conditional c a b) n r g = absurd (omega arith)
first_no_prefix (assignment e op f) n r g = absurd (omega arith)

-- a postfix expression begins with no prefix operator
pub heads_no_prefix : (e : ExprTree) (n : ℕ) → rank e ≤ 1 → IsWell e n → Heads (λ k. is_prefix k ≡ false) (slots e)
heads_no_prefix e n r g = heads_more (λ k. k ≡ first_kind e) (λ k. is_prefix k ≡ false) (slots e) (λ k h. ap is_prefix h ∙ first_no_prefix e n r g) (first_heads e)

-- what is well formed stays so where more depth is left

-- what holds one deeper holds so where more depth is left
under_more : (P : ℕ → Type 0) (n : ℕ) → ((m : ℕ) → P m → P (suc m)) → Under n P → Under (suc n) P
under_more P zero f h = absurd h
under_more P (suc n) f h = f n h

mutual
  -- a well-formed expression stays so where more depth is left
  pub well_more : (e : ExprTree) (n : ℕ) → IsWell e n → IsWell e (suc n)
  well_more (constant t) n g = g
  well_more (parenthesized e) n g = under_more (λ m. (rank e ≤ 15) × IsWell e m) n (λ m h. (h.0, well_more e m h.1)) g
  well_more (named x) n g = g
  well_more (element x b e) n g = (g.0, g.1, under_more (λ m. (rank e ≤ 15) × IsWell e m) n (λ m h. (h.0, well_more e m h.1)) g.2)
  well_more (call f all) n g = (g.0, under_more (λ m. AreWell all m) n (λ m h. all_more all m h) g.1)
  well_more (postfix e op) n g = (g.0, well_more e n g.1, g.2)
  well_more (prefix op e) n g = (g.0, under_more (λ m. (rank e ≤ 2) × IsWell e m) n (λ m h. (h.0, well_more e m h.1)) g.1)
  well_more (chain e rest) n g = (g.0, g.1, well_more e n g.2, terms_more rest (terms_rank rest) n g.3)
  well_more (conditional c a b) n g =
      (g.0, well_more c n g.1, under_more (λ m. (rank a ≤ 15) × IsWell a m × (rank b ≤ 13) × IsWell b m) n (λ m h. (h.0, well_more a m h.1, h.2, well_more b m h.3)) g.2)
  well_more (assignment e op f) n g = (g.0, well_more e n g.1, g.2, under_more (λ m. (rank f ≤ 14) × IsWell f m) n (λ m h. (h.0, well_more f m h.1)) g.3)

  -- well-formed terms stay so where more depth is left
  terms_more : (rest : TermList) (r n : ℕ) → HasTerms rest r n → HasTerms rest r (suc n)
  terms_more no_terms r n g = tt
  terms_more (term op e rest) r n g = (g.0, g.1, well_more e n g.2, terms_more rest r n g.3)

  -- well-formed arguments stay so where more depth is left
  all_more : (all : ArgumentList) (n : ℕ) → AreWell all n → AreWell all (suc n)
  all_more no_arguments n g = tt
  all_more (value e rest) n g = (g.0, well_more e n g.1, all_more rest n g.2)
  all_more (text t rest) n g = (g.0, all_more rest n g.1)
