-- The overfull state sets of a list, and the limit over all.
use Rattle.std.proofs.Common.{◌≡◌, ℕ, ◌+◌, ◌<◌, ◌↔◌, suc, zero, Bool, true, false, nat_lt, List, [], ◌∷◌, ◌++◌, slice_get, Some, Contains, if◌then◌else◌, refl, sym, ap, subst, ◌∙◌, inl, inr, map, length, get_or, drop, append_assoc, add-one, arith}
use Rattle.std.proofs.lemmas.Bool.{lt-ltb, le-ltb, ltb-true, cases_lt}
use Rattle.std.proofs.lemmas.List.Elements.{Contains-append_cases, Contains-append_left, Contains-append_right, Contains-push, Contains-push_cases}
use Rattle.std.proofs.lemmas.Option.{none-some, same_Some}
use Rattle.snl_text.specs.declared.tokens.Token.{Token}
use Rattle.snl_syntax.specs.declared.programs.StateSet.{StateSet}
use Rattle.snl_syntax.specs.declared.programs.Program.{Program}
use Rattle.snl_syntax.specs.view.Programs.{state_set_view, program_view}
use Rattle.snl_syntax.specs.Programs.{StateSetTree, ProgramTree}
use Rattle.snl_rules.specs.Words.{set_words, IsOverfullSet}
use Rattle.snl_rules.specs.Counts.{capped, overfull_at, overfull_from}
use Rattle.snl_rules.proofs.CountLaws.{row_from}
use Rattle.snl_reach.proofs.WayLaws.{none_in}

-- a count that was stopped passes the limit of a state set where the count itself does
pub same_limit : (words all : ℕ) → words ≡ capped all → nat_lt 65536 words ≡ nat_lt 65536 all
same_limit words all e =
    elim (cases_lt 65536 all) [ inl h ↦ lt-ltb 65536 words (omega arith) ∙ sym (lt-ltb 65536 all h) | inr h ↦ le-ltb 65536 words (omega arith) ∙ sym (le-ltb 65536 all h) ]

-- and so with the limit over all
pub is_above_all : (b : Bool) (stores links functions s l f : ℕ) → b ≡ nat_lt 1048576 (capped (capped (stores + links) + functions))
    → stores ≡ capped s → links ≡ capped l → functions ≡ capped f → (b ≡ true) ↔ (1048576 < s + (l + f))
is_above_all b stores links functions s l f e es el ef = (
  (λ h. let more = ltb-true 1048576 (capped (capped (stores + links) + functions)) (sym e ∙ h) in omega arith),
  (λ h. e ∙ lt-ltb 1048576 (capped (capped (stores + links) + functions)) (omega arith)),
)

-- The token is the `ss` of an overfull one of these state sets, counted from a number on.
pub record IsFull (p : ProgramTree) (k : ℕ) (sets : List StateSetTree) (t : Token) : Type 0 where
  pub place : ℕ
  pub number : ℕ
  pub state_set : StateSetTree
  pub counted : number ≡ k + place
  pub stands : slice_get sets place ≡ Some state_set
  pub word : state_set.word ≡ t
  pub full : 65536 < set_words p number

-- the one of a list that has one or none
only_one : (b : Bool) (w t : Token) → Contains (if b then w ∷ [] else []) t → (b ≡ true) × (w ≡ t)
only_one true w t c = elim (Contains-push_cases [] w t c) [ inl none ↦ absurd (none_in t none) | inr same ↦ (refl, same) ]
only_one false w t c = absurd (none_in t c)

-- one more state set before the others
full_later : (p : ProgramTree) (k : ℕ) (g : StateSetTree) (rest : List StateSetTree) (t : Token) → IsFull p (suc k) rest t → IsFull p k (g ∷ rest) t
full_later p k g rest t f = record {
  place = suc f.place;
  number = f.number;
  state_set = f.state_set;
  counted = (let e = f.counted in omega arith);
  stands = f.stands;
  word = f.word;
  full = f.full;
}

-- what is in the list is the `ss` of such a state set
pub listed_full : (p : ProgramTree) (k : ℕ) (sets : List StateSetTree) (t : Token) → Contains (overfull_from p k sets) t → IsFull p k sets t
listed_full p k [] t c = absurd (none_in t c)
listed_full p k (g ∷ rest) t c =
    elim (Contains-append_cases (overfull_at p k g) (overfull_from p (suc k) rest) t c) [
      | inl here ↦ (let one = only_one (nat_lt 65536 (set_words p k)) g.word t here in
          record {
            place = 0;
            number = k;
            state_set = g;
            counted = omega arith;
            stands = refl;
            word = one.1;
            full = ltb-true 65536 (set_words p k) one.0;
          })
      | inr later ↦ full_later p k g rest t (listed_full p (suc k) rest t later)
    ]

-- and so the other way round
pub full_listed : (p : ProgramTree) (k : ℕ) (sets : List StateSetTree) (place number : ℕ) (g : StateSetTree) (t : Token) → number ≡ k + place
    → slice_get sets place ≡ Some g → g.word ≡ t → 65536 < set_words p number → Contains (overfull_from p k sets) t
full_listed p k [] place number g t en es ew h = absurd (none-some g es)
full_listed p k (x ∷ rest) zero number g t en es ew h =
    let here : number ≡ k = omega arith in
    let yes : nat_lt 65536 (set_words p k) ≡ true = lt-ltb 65536 (set_words p k) (subst (λ n. 65536 < set_words p n) here h) in
    let name : x.word ≡ t = ap (λ y. y.word) (same_Some x g es) ∙ ew in
    Contains-append_left (overfull_at p k x) (overfull_from p (suc k) rest) t
    (subst (λ b. Contains (if b then x.word ∷ [] else []) t) (sym yes) (subst (λ w. Contains (x.word ∷ []) w) name (Contains-push [] x.word)))
full_listed p k (x ∷ rest) (suc place) number g t en es ew h =
    Contains-append_right (overfull_at p k x) (overfull_from p (suc k) rest) t (full_listed p (suc k) rest place number g t (omega arith) es ew h)

-- the list of a program's overfull state sets
pub overfull_is : (p : ProgramTree) (t : Token) → Contains (overfull_from p 0 p.state_sets) t ↔ IsOverfullSet p t
overfull_is p t = (
  (λ c. let f = listed_full p 0 p.state_sets t c in
      let same : f.number ≡ f.place = (let e = f.counted in omega arith) in
      record { number = f.place; state_set = f.state_set; stands = f.stands; word = f.word; full = subst (λ n. 65536 < set_words p n) same f.full }),
  (λ o. full_listed p 0 p.state_sets o.number o.number o.state_set t (omega arith) o.stands o.word o.full),
)

-- the list that is filled is that of the program's overfull state sets
pub found_all : (p : Program) (sets : List StateSet) (old new : List Token) → sets ≡ p.state_sets.items → old ≡ []
    → new ≡ old ++ overfull_from (program_view p) 0 (map state_set_view sets) → (t : Token) → Contains new t ↔ IsOverfullSet (program_view p) t
found_all p sets old new es eo en t =
    let list : new ≡ overfull_from (program_view p) 0 (map state_set_view p.state_sets.items) =
    en ∙ (λ j. eo j ++ overfull_from (program_view p) 0 (map state_set_view (es j))) in
    subst (λ l. Contains l t ↔ IsOverfullSet (program_view p) t) (sym list) (overfull_is (program_view p) t)

-- one more thing of a row is looked at, with its number
pub pushed_step : {A B : Type 0} (one : ℕ → A → List B) (go : ℕ → List A → List B) → ((k : ℕ) (x : A) (xs : List A) → go k (x ∷ xs) ≡ one k x ++ go (suc k) xs)
    → (all : List A) (i : ℕ) (a : A) (before now start : List B) → i < length all → a ≡ get_or all i a
    → before ++ go i (drop i all) ≡ start → now ≡ before ++ one i a
    → now ++ go (i + 1) (drop (i + 1) all) ≡ start
pushed_step one go more all i a before now start h ea inv en =
    let rest = drop (i + 1) all in
    (λ j. en j ++ go (add-one i j) rest) ∙ append_assoc before (one i a) (go (suc i) rest) ∙ ap (λ x. before ++ x) (sym (more i a rest))
    ∙ ap (λ l. before ++ go i l) (sym (row_from all i a h ea)) ∙ inv
