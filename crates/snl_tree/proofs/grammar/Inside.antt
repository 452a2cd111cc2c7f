-- What is nested in an expression.
use Rattle.std.proofs.Common.{ℕ, zero, suc, ◌≤◌, ◌<◌, Bool, true, false, List, [], ◌∷◌, ◌++◌, Option, Some, None, Err, inl, refl}
use Rattle.snl_text.specs.declared.tokens.Token.{Token}
use Rattle.snl_text.specs.declared.kinds.Kind.{Kind}
use Rattle.snl_text.specs.declared.kinds.Kind.TheVariants.{Name}
use Rattle.snl_syntax.specs.Kinds.{looseness}
use Rattle.snl_syntax.specs.Slots.{Slot}
use Rattle.snl_tree.specs.reading.Readers.{Reader, Stuck, Deep, starts, under}
use Rattle.snl_syntax.specs.Expressions.{ExprTree, rank, slots, Under, IsWell}
use Rattle.snl_tree.specs.reading.Expressions.{Inside}
use Rattle.snl_tree.proofs.spelling.Laws.{Shape, Sound, Reads, Links}
use Rattle.snl_tree.proofs.spelling.Both.{reads_both}

-- a name, to fill what is left open in a tree
abbrev pub some_token : Token
some_token = record { kind = Name; text = record { ref_ptr = (0, 0); now = [] }; pos = record { offset = 0; file = 0; line = 1 } }

-- expressions that hold together so tightly and are nested at most so deep
abbrev pub expr_shape : ℕ → ℕ → Shape ExprTree
expr_shape n r = record { slots = slots; good = λ e. (rank e ≤ r) × IsWell e n; follow = λ _ k. r < looseness k }

-- the readers of nested parts are right, with so much depth left
pub record InsideLaws (m : ℕ) (d : Inside) : Type 0 where
  pub unary : Reads (expr_shape m 2) d.unary
  pub conditional : Reads (expr_shape m 13) d.conditional
  pub assignment : Reads (expr_shape m 14) d.assignment
  pub expression : Reads (expr_shape m 15) d.expression

-- What reads the nested parts keeps its laws for one depth less; with no depth left it is missing.
abbrev pub Given : {R : Type 0} → (ℕ → R → Type 0) → ℕ → Option R → Type 0
Given Laws zero None = Unit {0}
Given Laws zero (Some d) = ⊥
Given Laws (suc m) None = ⊥
Given Laws (suc m) (Some d) = Laws m d

-- the readers of nested parts are right for one depth less, or are missing
abbrev pub Deeper : ℕ → Option Inside → Type 0
Deeper = Given InsideLaws

-- where one condition brings another, so it does one deeper
pub under_map : (P Q : ℕ → Type 0) (n : ℕ) → ((m : ℕ) → P m → Q m) → Under n P → Under n Q
under_map P Q zero f h = h
under_map P Q (suc n) f h = f n h

-- slots may follow a part that any kind may follow
pub links_any : (P F : Kind → Type 0) (ss : List Slot) → ((k : Kind) → P k) → Links P F ss
links_any P F [] f = λ k _. f k
links_any P F (s ∷ ss) f = f _

-- a sign that opens a part, and the part one deeper
abbrev pub nest_shape : {A B : Type 0} → Shape A → (B → List Slot) → (ℕ → B → Type 0) → (B → Kind → Type 0) → ℕ → Shape (A × B)
nest_shape S slots_in good_in follow_in n = record {
  slots = λ x. S.slots x.0 ++ slots_in x.1;
  good = λ x. S.good x.0 × Under n (λ m. good_in m x.1);
  follow = λ x. follow_in x.1;
}

module _ {R : Type 0} (Laws : ℕ → R → Type 0) {A B : Type 0} (test : Kind → Bool) (S : Shape A) (opener : Reader A) (one : Reads S opener) (free : (a : A) (k : Kind) → S.follow a k)
    (slots_in : B → List Slot) (good_in : ℕ → B → Type 0) (follow_in : B → Kind → Type 0) (inner : R → Reader B)
    (two : (m : ℕ) (d : R) → Laws m d → Reads (record { slots = slots_in; good = good_in m; follow = follow_in }) (inner d))
    (some : (m : ℕ) → (b : B) × good_in m b) where
  -- with no depth left a nested part is a fault at its place, and this is sound
  sound_none : (ts : List Token) (b : Bool) → Sound (nest_shape S slots_in good_in follow_in zero) ts (elim b [ true ↦ Err (Deep ts) | false ↦ Err (Stuck ts) ])
  sound_none ts true = inl refl
  sound_none ts false = inl refl

  -- the reader of a nested part is right where the readers inside keep their laws
  pub reads_given : (n : ℕ) (i : Option R) → Given Laws n i → Reads (nest_shape S slots_in good_in follow_in n) (under test i opener inner)
  reads_given zero None h = record {
    sound = λ ts. sound_none ts (starts test ts);
    again = λ x g. absurd g.1;
    past = λ x g. absurd g.1;
  }
  reads_given zero (Some d) h = absurd h
  reads_given (suc m) None h = absurd h
  reads_given (suc m) (Some d) h =
      reads_both S (λ _. record { slots = slots_in; good = good_in m; follow = follow_in }) opener (λ _. inner d) one (λ _ _. two m d h)
      (λ a b _ _. links_any (S.follow a) (follow_in b) (slots_in b) (free a)) (λ _ _. some m)

-- the reader of a part nested in an expression is right
pub reads_under : {A B : Type 0} (test : Kind → Bool) (S : Shape A) (opener : Reader A) → Reads S opener → ((a : A) (k : Kind) → S.follow a k)
    → (slots_in : B → List Slot) (good_in : ℕ → B → Type 0) (follow_in : B → Kind → Type 0) (inner : Inside → Reader B)
    → ((m : ℕ) (d : Inside) → InsideLaws m d → Reads (record { slots = slots_in; good = good_in m; follow = follow_in }) (inner d))
    → ((m : ℕ) → (b : B) × good_in m b)
    → (n : ℕ) (i : Option Inside) → Deeper n i → Reads (nest_shape S slots_in good_in follow_in n) (under test i opener inner)
reads_under test S opener one free slots_in good_in follow_in inner two some n i h = reads_given InsideLaws test S opener one free slots_in good_in follow_in inner two some n i h
