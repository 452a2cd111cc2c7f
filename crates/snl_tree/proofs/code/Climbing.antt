-- Going from one binary operator to the next, in place of through every level.
use Rattle.std.proofs.Common.{◌≡◌, ℕ, zero, suc, ◌+◌, ◌-◌, ◌<◌, ◌≤◌, false, List, [], ◌∷◌, Ok, Err, Vec, Box, Global, refl, sym, ap, ◌∙◌, subst, arith}
use Rattle.std.proofs.lemmas.Bool.{ne_eqb}
use Rattle.snl_text.specs.declared.tokens.Token.{Token}
use Rattle.snl_syntax.specs.declared.expressions.Expr.{Expr}
use Rattle.snl_syntax.specs.declared.expressions.Term.{Term}
use Rattle.snl_tree.specs.declared.readers.cursor.Halt.{Halt}
use Rattle.snl_tree.specs.reading.Readers.{Fault, Read, starts, ◌>>=◌}
use Rattle.snl_tree.specs.reading.Moves.{Fails}
use Rattle.snl_syntax.specs.Expressions.{ExprTree}
use Rattle.snl_tree.specs.reading.Expressions.{inside, here, is_operator, level_at, unary_at, terms_at, chain_tree, chained, climbed}
use Rattle.snl_syntax.specs.view.Expressions.{boxed, pairs}
use Rattle.snl_tree.proofs.code.Forms.{bind_assoc, level_form, level_unary}
use Rattle.snl_tree.proofs.code.Turns.{same_fault}
use Rattle.snl_tree.proofs.code.Loops.{terms_stop}

-- going on with nothing to do gives what was read
bind_ok : {A : Type 0} (m : Read A) → m ≡ (m >>= λ x. Ok (x.0, x.1))
bind_ok (Ok x) = refl
bind_ok (Err e) = refl

-- a level is the levels below it one after another

-- a binary level is a unary, and so many levels one after another
level_climbed : (n k : ℕ) (ts : List Token) → k ≤ 10 → level_at (inside n) (2 + k) ts ≡ (unary_at (inside n) ts >>= λ x. climbed n 2 k x.0 x.1)
unfolding climbed chained
level_climbed n zero ts h = ap (λ f. f ts) (level_unary n 2 refl) ∙ bind_ok (unary_at (inside n) ts)
level_climbed n (suc k) ts h =
    let r : 2 + suc k ≡ suc (2 + k) = omega arith in
    let s : suc (2 + k) - 1 ≡ 2 + k = omega arith in
    subst (λ z. level_at (inside n) z ts ≡ (unary_at (inside n) ts >>= λ x. climbed n 2 (suc k) x.0 x.1)) (sym r)
    (level_form n (suc (2 + k)) ts (omega arith) (omega arith) (λ e. omega arith) (λ e. omega arith)
    ∙ ap (λ z. level_at (inside n) z ts >>= λ x. chained n (suc (2 + k)) x.0 x.1) s
    ∙ ap (λ m. m >>= λ x. chained n (suc (2 + k)) x.0 x.1) (level_climbed n k ts (omega arith))
    ∙ bind_assoc (unary_at (inside n) ts) (λ x. climbed n 2 k x.0 x.1) (λ x. chained n (suc (2 + k)) x.0 x.1))

-- a binary level, by its number, is a unary and the levels up to it
pub level_binary : (n r : ℕ) (ts : List Token) → 2 ≤ r → r ≤ 12 → level_at (inside n) r ts ≡ (unary_at (inside n) ts >>= λ x. climbed n 2 (r - 2) x.0 x.1)
level_binary n r ts low high =
    let e : 2 + (r - 2) ≡ r = omega arith in
    subst (λ z. level_at (inside n) z ts ≡ (unary_at (inside n) ts >>= λ x. climbed n 2 (r - 2) x.0 x.1)) e (level_climbed n (r - 2) ts (omega arith))

-- levels of which no operator is here

-- tokens that begin with another operator begin with none of this level
other : (r : ℕ) (ts : List Token) → r ≤ 15 → (here ts ≡ r → ⊥) → starts (is_operator r) ts ≡ false
other r [] high h = refl
other r (t ∷ ts) high h = ne_eqb (here (t ∷ ts)) r h

-- levels of which no operator is next change nothing
pub passed : (n tightness k : ℕ) (e : ExprTree) (ts : List Token) → tightness + k ≤ 15 → ((r : ℕ) → tightness < r → r ≤ tightness + k → here ts ≡ r → ⊥) → climbed n tightness k e ts ≡ Ok (e, ts)
unfolding climbed chained
passed n tightness zero e ts h o = refl
passed n tightness (suc k) e ts h o =
    let r : suc (tightness + k) ≤ tightness + suc k = omega arith in
    ap (λ m. m >>= λ x. chained n (suc (tightness + k)) x.0 x.1) (passed n tightness k e ts (omega arith) (λ r a b. o r a (omega arith)))
    ∙ ap (λ m. m >>= λ x. Ok (chain_tree e x.0, x.1)) (terms_stop n (suc (tightness + k)) ts (other (suc (tightness + k)) ts (omega arith) (o (suc (tightness + k)) (omega arith) r)))

-- some levels, and then others

-- some levels and then others are all of them at once
parted : (n tightness a b : ℕ) (e : ExprTree) (ts : List Token) → climbed n tightness (a + b) e ts ≡ (climbed n tightness a e ts >>= λ x. climbed n (tightness + a) b x.0 x.1)
unfolding climbed
parted n tightness a zero e ts =
    let s : a + 0 ≡ a = omega arith in
    ap (λ z. climbed n tightness z e ts) s ∙ bind_ok (climbed n tightness a e ts)
parted n tightness a (suc b) e ts =
    let s : a + suc b ≡ suc (a + b) = omega arith in
    let t : suc (tightness + (a + b)) ≡ suc ((tightness + a) + b) = omega arith in
    ap (λ z. climbed n tightness z e ts) s
    ∙ ap (λ m. m >>= λ x. chained n (suc (tightness + (a + b))) x.0 x.1) (parted n tightness a b e ts)
    ∙ ap (λ z. (climbed n tightness a e ts >>= λ x. climbed n (tightness + a) b x.0 x.1) >>= λ x. chained n z x.0 x.1) t
    ∙ bind_assoc (climbed n tightness a e ts) (λ x. climbed n (tightness + a) b x.0 x.1) (λ x. chained n (suc ((tightness + a) + b)) x.0 x.1)

-- the levels are that of the next operator and the looser ones, where it is one of theirs
climbed_on : (n tightness r to : ℕ) (e : ExprTree) (ts : List Token) → tightness < r → r ≤ to → to ≤ 12 → here ts ≡ r
    → climbed n tightness (to - tightness) e ts ≡ (chained n r e ts >>= λ x. climbed n r (to - r) x.0 x.1)
unfolding climbed
climbed_on n tightness r to e ts low high top h =
    let k = r - tightness - 1 in
    let a : to - tightness ≡ suc k + (to - r) = omega arith in
    let b : tightness + suc k ≡ r = omega arith in
    let c : suc (tightness + k) ≡ r = omega arith in
    ap (λ z. climbed n tightness z e ts) a
    ∙ parted n tightness (suc k) (to - r) e ts
    ∙ ap (λ m. (m >>= λ x. chained n (suc (tightness + k)) x.0 x.1) >>= λ x. climbed n (tightness + suc k) (to - r) x.0 x.1) (passed n tightness k e ts (omega arith) (λ q x y f. omega (arith, h)))
    ∙ ap (λ z. chained n z e ts >>= λ x. climbed n (tightness + suc k) (to - r) x.0 x.1) c
    ∙ ap (λ z. chained n r e ts >>= λ x. climbed n z (to - r) x.0 x.1) b

-- what the code gives, from what its parts gave

-- from the next operator on, the levels are what the code makes of its terms and the looser levels
pub climbed_chain : (n tightness r to : ℕ) (ts rest : List Token) (b made : Box Expr Global) (v : Vec Term Global) → tightness < r → r ≤ to → to ≤ 12 → here ts ≡ r
    → terms_at r (level_at (inside n) (r - 1)) ts ≡ Ok (pairs v, rest) → chain_tree (boxed b) (pairs v) ≡ boxed made
    → climbed n tightness (to - tightness) (boxed b) ts ≡ climbed n r (to - r) (boxed made) rest
unfolding chained
climbed_chain n tightness r to ts rest b made v low high top h k e =
    let c : chained n r (boxed b) ts ≡ Ok (chain_tree (boxed b) (pairs v), rest) = ap (λ m. m >>= λ x. Ok (chain_tree (boxed b) x.0, x.1)) k in
    climbed_on n tightness r to (boxed b) ts low high top h
    ∙ ap (λ m. m >>= λ x. climbed n r (to - r) x.0 x.1) c
    ∙ ap (λ z. climbed n r (to - r) z rest) e

-- a fault in the terms of the next operator is a fault of the levels
climbed_fault : (n tightness r to : ℕ) (ts : List Token) (e : ExprTree) (f : Fault) → tightness < r → r ≤ to → to ≤ 12 → here ts ≡ r → terms_at r (level_at (inside n) (r - 1)) ts ≡ Err f
    → climbed n tightness (to - tightness) e ts ≡ Err f
unfolding chained
climbed_fault n tightness r to ts e f low high top h k =
    let c : chained n r e ts ≡ Err f = ap (λ m. m >>= λ x. Ok (chain_tree e x.0, x.1)) k in
    climbed_on n tightness r to e ts low high top h ∙ ap (λ m. m >>= λ x. climbed n r (to - r) x.0 x.1) c

-- where the terms of the next operator are not read, the levels are not for the same cause
pub climbed_fails : (n tightness r to : ℕ) (ts : List Token) (e : ExprTree) (halt : Halt) (left : List Token) → tightness < r → r ≤ to → to ≤ 12 → here ts ≡ r
    → Fails halt left (terms_at r (level_at (inside n) (r - 1)) ts) → Fails halt left (climbed n tightness (to - tightness) e ts)
climbed_fails n tightness r to ts e halt left low high top h k =
    same_fault (terms_at r (level_at (inside n) (r - 1)) ts) (climbed n tightness (to - tightness) e ts) (λ f m. climbed_fault n tightness r to ts e f low high top h m) halt left k
