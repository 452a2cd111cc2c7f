-- The values of a list in braces, and what elements begin with.
use Rattle.std.proofs.Common.{◌≡◌, ◌∙◌, ◌+◌, ◌-◌, ◌<◌, sym, ap, arith, ℕ, zero, suc, ℤ, pos, Bool, List, [], ◌∷◌, ◌++◌, append_assoc}
use Rattle.std.specs.Prelude.{replicate}
use Rattle.snl_syntax.specs.Expressions.{ExprTree}
use Rattle.snl_syntax.specs.view.Declarations.{value_list}
use Rattle.snl_names.specs.Types.{listed_values}
use Rattle.snl_meaning.specs.Names.{words_of}
use Rattle.snl_names.specs.Variables.{CopyVariable}
use Rattle.snl_names.proofs.ListLaws.{listed_of}
use Rattle.snl_names.specs.Scopes.{elements}
use Rattle.snl_load.specs.First.{first_shared}
use Rattle.snl_load.specs.Initials.{first_element, first_elements}

-- they are those that are written
pub values_listed : (es : List ExprTree) (comma : Bool) → listed_values (value_list es comma) ≡ es
values_listed = listed_of

-- one zero more was added
pub zeros-more : (n : ℕ) (words : List ℤ) (i : ℕ) → i < n → (words ++ pos 0 ∷ []) ++ replicate (n - (i + 1)) (pos 0) ≡ words ++ replicate (n - i) (pos 0)
zeros-more n words i less =
    let left : n - i ≡ suc (n - (i + 1)) = omega (arith, less) in
    append_assoc words (pos 0 ∷ []) (replicate (n - (i + 1)) (pos 0)) ∙ sym (ap (λ (m : ℕ). words ++ replicate m (pos 0)) left)

-- one element more was added
pub elements-more : (v : CopyVariable) (from n : ℕ) (words : List ℤ) (i : ℕ) → i < n →
    (words ++ first_element v (from + i) ∷ []) ++ first_elements v (from + (i + 1)) (n - (i + 1)) ≡ words ++ first_elements v (from + i) (n - i)
elements-more v from n words i less =
    let left : n - i ≡ suc (n - (i + 1)) = omega (arith, less) in
    let later : from + (i + 1) ≡ from + i + 1 = omega arith in
    append_assoc words (first_element v (from + i) ∷ []) (first_elements v (from + (i + 1)) (n - (i + 1)))
    ∙ ap (λ k. words ++ first_element v (from + i) ∷ first_elements v k (n - (i + 1))) later
    ∙ sym (ap (λ m. words ++ first_elements v (from + i) m) left)

-- zeros behind zeros
zeros-both : (m n : ℕ) → replicate (m + n) (pos 0) ≡ replicate m (pos 0) ++ replicate n (pos 0)
zeros-both zero n = ap (λ (k : ℕ). replicate k (pos 0)) (let e : 0 + n ≡ n = omega arith in e)
zeros-both (suc m) n =
    ap (λ (k : ℕ). replicate k (pos 0)) (let e : suc m + n ≡ suc (m + n) = omega arith in e) ∙ ap (λ (l : List ℤ). pos 0 ∷ l) (zeros-both m n)

-- the words of one more variable of functions
pub shared_more : (v : CopyVariable) (vs : List CopyVariable) → first_shared (v ∷ vs) ≡ replicate (elements v.size) (pos 0) ++ first_shared vs
shared_more v vs = zeros-both (elements v.size) (words_of vs)
