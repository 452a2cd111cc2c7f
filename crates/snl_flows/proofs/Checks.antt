-- Where the check of a table says so, the table is right.
use Rattle.std.proofs.Common.{◌≡◌, ◌∙◌, ◌⊎◌, ◌+◌, ◌-◌, ◌≤◌, ◌<◌, inl, inr, ⊎_elim, refl, sym, ap, subst, arith, ℕ, ℤ, zero, suc, Bool, true, false, List, [], ◌∷◌, if◌then◌else◌}
use Rattle.std.specs.Prelude.{◌==◌, ◌&&◌, ◌||◌, nat_le, nat_lt, not}
use Rattle.std.proofs.lemmas.Bool.{and_parts, or_cases, eqb-true, leb-true, ltb-true, false≢true}
use Rattle.snl_arithmetic.specs.Arithmetic.{is_zero}
use Rattle.snl_text.specs.declared.kinds.Kind.{Kind}
use Rattle.snl_text.specs.declared.kinds.Kind.TheVariants as kind
use Rattle.snl_meaning.specs.declared.instrs.Variable.{Variable}
use Rattle.snl_flows.specs.Checks.{has_all, has_more, are_below, is_name, is_named, is_same_in, are_first_same, are_all_same, is_no_more, are_no_more, may_overflow, may_overflow_by, may_overflow_over, prefix_may_overflow, hidden_here, known_at, leads, leads_after, is_same_at, are_same_at, is_read, may_get_from, may_get_other, may_get_others, are_kept}
use Rattle.snl_flows.specs.Fine.{AreKept, AreRead, IsElement, LeadsAfter, LeadsTo, MayGetOther, MayGetOthers, MayOverflow, MayOverflowBy, MayOverflowOver, PrefixMayOverflow}
use Rattle.snl_flows.specs.Outside.{has, places_of}
use Rattle.snl_flows.specs.Tables.{Operand, Another, Same, Within, IsSameIn, top_of, below, AreFirstSame, AreAllSame, IsNoMore, AreNoMore, Flow, Ground, IsOpen, IsSameAt, MayDiffer, facts_at, is_loose, said_at}
use Rattle.snl_flows.specs.Texts.{IsNamed}

-- ---- words

-- a negated test
pub not-so : (b : Bool) → not b ≡ true → b ≡ false
not-so true said = absurd (false≢true said)
not-so false said = refl

-- a word among some is among others
pub all-in : (here words : List ℕ) → has_all here words ≡ true → (k : ℕ) → has words k ≡ true → has here k ≡ true
all-in here [] said k known = absurd (false≢true known)
all-in here (x ∷ xs) said k known =
    let parts = and_parts (has here x) (has_all here xs) said in
    ⊎_elim (λ (same : (x == k) ≡ true). subst (λ (n : ℕ). has here n ≡ true) (eqb-true x k same) parts.0) (λ (more : has xs k ≡ true). all-in here xs parts.1 k more)
    (or_cases (x == k) (has xs k) known)

-- or it is one of so many from a place on
all-more : (here : List ℕ) (place many : ℕ) (words : List ℕ) → has_more here place many words ≡ true → (k : ℕ) → has words k ≡ true →
    (has here k ≡ true) ⊎ ((place ≤ k) × (k < place + many))
all-more here place many [] said k known = absurd (false≢true known)
all-more here place many (x ∷ xs) said k known =
    let parts = and_parts (has here x || (nat_le place x && nat_lt (x - place) many)) (has_more here place many xs) said in
    ⊎_elim (λ (same : (x == k) ≡ true). subst (λ (n : ℕ). (has here n ≡ true) ⊎ ((place ≤ n) × (n < place + many))) (eqb-true x k same) (one parts.0))
    (λ (more : has xs k ≡ true). all-more here place many xs parts.1 k more) (or_cases (x == k) (has xs k) known)
  where
    one : (has here x || (nat_le place x && nat_lt (x - place) many)) ≡ true → (has here x ≡ true) ⊎ ((place ≤ x) × (x < place + many))
    one said =
        ⊎_elim (λ (there : has here x ≡ true). inl there)
        (λ (other : (nat_le place x && nat_lt (x - place) many) ≡ true).
        let both = and_parts (nat_le place x) (nat_lt (x - place) many) other in
        let a = leb-true place x both.0 in
        let b = ltb-true (x - place) many both.1 in
        inr (a, omega (arith, a, b)))
        (or_cases (has here x) (nat_le place x && nat_lt (x - place) many) said)

-- words below a place are not at one from there on
all-below : (place : ℕ) (words : List ℕ) → are_below place words ≡ true → (k : ℕ) → has words (place + k) ≡ false
all-below place [] said k = refl
all-below place (x ∷ xs) said k =
    let parts = and_parts (nat_lt x place) (are_below place xs) said in
    let low = ltb-true x place parts.0 in
    by (x == (place + k)) refl low (all-below place xs parts.1 k)
  where
    by : (b : Bool) → (x == (place + k)) ≡ b → x < place → has xs (place + k) ≡ false → (b || has xs (place + k)) ≡ false
    by true same low rest = let is : x ≡ place + k = eqb-true x (place + k) same in absurd (omega (arith, is, low))
    by false same low rest = rest

-- a name that is the other one
same-name : (xs ys : List ℕ) → is_name xs ys ≡ true → xs ≡ ys
same-name [] [] said = refl
same-name [] (y ∷ ys) said = absurd (false≢true said)
same-name (x ∷ xs) [] said = absurd (false≢true said)
same-name (x ∷ xs) (y ∷ ys) said =
    let parts = and_parts (x == y) (is_name xs ys) said in
    ap (λ (n : ℕ). n ∷ xs) (eqb-true x y parts.0) ∙ ap (λ (ns : List ℕ). y ∷ ns) (same-name xs ys parts.1)

-- and one of some
pub named-by : (names : List (List ℕ)) (name : List ℕ) → is_named names name ≡ true → IsNamed names name
named-by [] name said = absurd (false≢true said)
named-by (x ∷ xs) name said =
    ⊎_elim (λ (same : is_name name x ≡ true). inl (same-name name x same)) (λ (more : is_named xs name ≡ true). inr (named-by xs name more))
    (or_cases (is_name name x) (is_named xs name) said)

-- ---- operands

-- one that is the same
pub same-in : (o : Operand) → is_same_in o ≡ true → IsSameIn o
same-in Another said = absurd (false≢true said)
same-in Same said = tt
same-in (Within n) said = tt

-- so many topmost ones
pub first-same : (n : ℕ) (os : List Operand) → are_first_same n os ≡ true → AreFirstSame n os
first-same zero os said = tt
first-same (suc n) os said = let parts = and_parts (is_same_in (top_of os)) (are_first_same n (below os)) said in (same-in (top_of os) parts.0, first-same n (below os) parts.1)

-- all
pub all-same : (os : List Operand) → are_all_same os ≡ true → AreAllSame os
all-same [] said = tt
all-same (o ∷ os) said = let parts = and_parts (is_same_in o) (are_all_same os) said in (same-in o parts.0, all-same os parts.1)

-- no more is said of one
pub no-more : (s h : Operand) → is_no_more s h ≡ true → IsNoMore s h
no-more Another h said = tt
no-more Same h said = same-in h said
no-more (Within n) Another said = absurd (false≢true said)
no-more (Within n) Same said = absurd (false≢true said)
no-more (Within n) (Within m) said = leb-true m n said

-- and of all
pub all-no-more : (ss hs : List Operand) → are_no_more ss hs ≡ true → AreNoMore ss hs
all-no-more [] [] said = tt
all-no-more [] (h ∷ hs) said = let parts = and_parts (is_no_more Same h) (are_no_more [] hs) said in (no-more Same h parts.0, all-no-more [] hs parts.1)
all-no-more (s ∷ ss) [] said = let parts = and_parts (is_no_more s Same) (are_no_more ss []) said in (no-more s Same parts.0, all-no-more ss [] parts.1)
all-no-more (s ∷ ss) (h ∷ hs) said = let parts = and_parts (is_no_more s h) (are_no_more ss hs) said in (no-more s h parts.0, all-no-more ss hs parts.1)

-- ---- operators

-- a binary one
pub overflows : (lines : List ℕ) (op : Kind) (line : ℕ) → may_overflow lines op line ≡ true → MayOverflow lines op line
overflows lines kind.Plus line said = said
overflows lines kind.Minus line said = said
overflows lines kind.Star line said = said
overflows lines kind.Comma line said = tt
overflows lines kind.Bar line said = tt
overflows lines kind.Caret line said = tt
overflows lines kind.Ampersand line said = tt
overflows lines kind.EqualEqual line said = tt
overflows lines kind.BangEqual line said = tt
overflows lines kind.Less line said = tt
overflows lines kind.LessEqual line said = tt
overflows lines kind.Greater line said = tt
overflows lines kind.GreaterEqual line said = tt
overflows lines _ line said = absurd (false≢true said)

-- one whose right operand is known so
pub overflows-over : (lines : List ℕ) (op : Kind) (o : Operand) (line : ℕ) → may_overflow_over lines op o line ≡ true → MayOverflowOver lines op o line
overflows-over lines kind.Slash o line said = let parts = and_parts (is_same_in o) (has lines line) said in (same-in o parts.0, parts.1)
overflows-over lines kind.Percent o line said = let parts = and_parts (is_same_in o) (has lines line) said in (same-in o parts.0, parts.1)
overflows-over lines kind.Comma o line said = overflows lines kind.Comma line said
overflows-over lines kind.Bar o line said = overflows lines kind.Bar line said
overflows-over lines kind.Caret o line said = overflows lines kind.Caret line said
overflows-over lines kind.Ampersand o line said = overflows lines kind.Ampersand line said
overflows-over lines kind.EqualEqual o line said = overflows lines kind.EqualEqual line said
overflows-over lines kind.BangEqual o line said = overflows lines kind.BangEqual line said
overflows-over lines kind.Less o line said = overflows lines kind.Less line said
overflows-over lines kind.LessEqual o line said = overflows lines kind.LessEqual line said
overflows-over lines kind.Greater o line said = overflows lines kind.Greater line said
overflows-over lines kind.GreaterEqual o line said = overflows lines kind.GreaterEqual line said
overflows-over lines kind.Plus o line said = overflows lines kind.Plus line said
overflows-over lines kind.Minus o line said = overflows lines kind.Minus line said
overflows-over lines kind.Star o line said = overflows lines kind.Star line said
overflows-over lines _ o line said = absurd (false≢true said)

-- one with a number
pub overflows-by : (lines : List ℕ) (op : Kind) (z : ℤ) (line : ℕ) → may_overflow_by lines op z line ≡ true → MayOverflowBy lines op z line
overflows-by lines kind.Slash z line said = let parts = and_parts (not (is_zero z)) (has lines line) said in (not-so (is_zero z) parts.0, parts.1)
overflows-by lines kind.Percent z line said = let parts = and_parts (not (is_zero z)) (has lines line) said in (not-so (is_zero z) parts.0, parts.1)
overflows-by lines kind.Comma z line said = overflows lines kind.Comma line said
overflows-by lines kind.Bar z line said = overflows lines kind.Bar line said
overflows-by lines kind.Caret z line said = overflows lines kind.Caret line said
overflows-by lines kind.Ampersand z line said = overflows lines kind.Ampersand line said
overflows-by lines kind.EqualEqual z line said = overflows lines kind.EqualEqual line said
overflows-by lines kind.BangEqual z line said = overflows lines kind.BangEqual line said
overflows-by lines kind.Less z line said = overflows lines kind.Less line said
overflows-by lines kind.LessEqual z line said = overflows lines kind.LessEqual line said
overflows-by lines kind.Greater z line said = overflows lines kind.Greater line said
overflows-by lines kind.GreaterEqual z line said = overflows lines kind.GreaterEqual line said
overflows-by lines kind.Plus z line said = overflows lines kind.Plus line said
overflows-by lines kind.Minus z line said = overflows lines kind.Minus line said
overflows-by lines kind.Star z line said = overflows lines kind.Star line said
overflows-by lines _ z line said = absurd (false≢true said)

-- a prefix operator
pub prefix-overflows : (lines : List ℕ) (op : Kind) (line : ℕ) → prefix_may_overflow lines op line ≡ true → PrefixMayOverflow lines op line
prefix-overflows lines kind.Minus line said = said
prefix-overflows lines kind.Bang line said = tt
prefix-overflows lines kind.Tilde line said = tt
prefix-overflows lines kind.Plus line said = tt
prefix-overflows lines _ line said = absurd (false≢true said)

module _ (g : Ground) (set : ℕ) (f : Flow) where
  -- ---- where a step leads

  -- no more is said there
  pub leads-to : (at to : ℕ) (holds : List Operand) → leads g set f at to holds ≡ true → LeadsTo g set f at to holds
  leads-to at to holds said =
      let three = and_parts (are_no_more (known_at g set f to) holds && (facts_at f to).is_reached && has_all (said_at f at true) (said_at f to true))
      (has_all (said_at f at false) (said_at f to false)) said in
      let two = and_parts (are_no_more (known_at g set f to) holds && (facts_at f to).is_reached) (has_all (said_at f at true) (said_at f to true)) three.0 in
      let one = and_parts (are_no_more (known_at g set f to) holds) (facts_at f to).is_reached two.0 in
      (all-no-more (known_at g set f to) holds one.0, one.1, by two.1 three.1)
    where
      by : has_all (said_at f at true) (said_at f to true) ≡ true → has_all (said_at f at false) (said_at f to false) ≡ true →
          (b : Bool) (k : ℕ) → has (said_at f to b) k ≡ true → has (said_at f at b) k ≡ true
      by functions own true k known = all-in (said_at f at true) (said_at f to true) functions k known
      by functions own false k known = all-in (said_at f at false) (said_at f to false) own k known

  -- but for what is written
  pub leads-more : (at to : ℕ) (holds : List Operand) (v : Variable) (place many : ℕ) (Writes : Bool → ℕ → Type 0) → leads_after g set f at to holds v place many ≡ true →
      ((b : Bool) (k : ℕ) → b ≡ v.is_shared → place ≤ k → k < place + many → Writes b k) → LeadsAfter g set f at to holds Writes
  leads-more at to holds v place many Writes said make =
      let three = and_parts (are_no_more (known_at g set f to) holds && (facts_at f to).is_reached
      && (if v.is_shared then has_more (said_at f at true) place many (said_at f to true) else has_all (said_at f at true) (said_at f to true)))
      (if v.is_shared then has_all (said_at f at false) (said_at f to false) else has_more (said_at f at false) place many (said_at f to false)) said in
      let two = and_parts (are_no_more (known_at g set f to) holds && (facts_at f to).is_reached)
      (if v.is_shared then has_more (said_at f at true) place many (said_at f to true) else has_all (said_at f at true) (said_at f to true)) three.0 in
      let one = and_parts (are_no_more (known_at g set f to) holds) (facts_at f to).is_reached two.0 in
      (all-no-more (known_at g set f to) holds one.0, one.1, by v.is_shared (λ b k is. make b k is) two.1 three.1)
    where
      by : (c : Bool) → ((b : Bool) (k : ℕ) → b ≡ c → place ≤ k → k < place + many → Writes b k) →
          (if c then has_more (said_at f at true) place many (said_at f to true) else has_all (said_at f at true) (said_at f to true)) ≡ true →
          (if c then has_all (said_at f at false) (said_at f to false) else has_more (said_at f at false) place many (said_at f to false)) ≡ true →
          (b : Bool) (k : ℕ) → has (said_at f to b) k ≡ true → (has (said_at f at b) k ≡ true) ⊎ Writes b k
      by true made functions own true k known =
          ⊎_elim (λ here. inl here) (λ (low : (place ≤ k) × (k < place + many)). inr (made true k refl low.0 low.1)) (all-more (said_at f at true) place many (said_at f to true) functions k known)
      by true made functions own false k known = inl (all-in (said_at f at false) (said_at f to false) own k known)
      by false made functions own true k known = inl (all-in (said_at f at true) (said_at f to true) functions k known)
      by false made functions own false k known =
          ⊎_elim (λ here. inl here) (λ (low : (place ≤ k) × (k < place + many)). inr (made false k refl low.0 low.1)) (all-more (said_at f at false) place many (said_at f to false) own k known)

  -- one element
  pub leads-one : (at to : ℕ) (holds : List Operand) (v : Variable) (element place : ℕ) → place ≡ v.place + element → leads_after g set f at to holds v place 1 ≡ true →
      LeadsAfter g set f at to holds (IsElement v element)
  leads-one at to holds v element place is said = leads-more at to holds v place 1 (IsElement v element) said (λ b k shared low high. (shared, omega (arith, is, low, high)))

  -- ---- variables

  -- a word that is the same
  word-same : (at : ℕ) (b : Bool) (k : ℕ) → is_same_at g set f at b k ≡ true → IsSameAt g set f at b k
  word-same at b k said =
      ⊎_elim (λ (seen : (not b && not (has (hidden_here g set f) k)) ≡ true).
      let parts = and_parts (not b) (not (has (hidden_here g set f) k)) seen in inl (bare b (not-so b parts.0) (not-so (has (hidden_here g set f) k) parts.1)))
      (λ (known : (has (said_at f at b) k && not (is_loose f b k)) ≡ true).
      let parts = and_parts (has (said_at f at b) k) (not (is_loose f b k)) known in inr (parts.0, not-so (is_loose f b k) parts.1))
      (or_cases (not b && not (has (hidden_here g set f) k)) (has (said_at f at b) k && not (is_loose f b k)) said)
    where
      bare : (c : Bool) → c ≡ false → has (places_of g.hidden set) k ≡ false → IsOpen (places_of g.hidden set) c k
      bare true own seen = absurd (false≢true (sym own))
      bare false own seen = seen

  -- words that are so where a piece is over
  pub kept-by : (at : ℕ) (places : List ℕ) → are_kept g set f at places ≡ true → AreKept g set f at places
  kept-by at [] said k here = absurd (false≢true here)
  kept-by at (x ∷ xs) said k here =
      let two = and_parts (has (said_at f at false) x && not (is_loose f false x)) (are_kept g set f at xs) said in
      let one = and_parts (has (said_at f at false) x) (not (is_loose f false x)) two.0 in
      ⊎_elim (λ (first : (x == k) ≡ true).
      let is = eqb-true x k first in
      (subst (λ (n : ℕ). has (said_at f at false) n ≡ true) is one.0, subst (λ (n : ℕ). is_loose f false n ≡ false) is (not-so (is_loose f false x) one.1)))
      (λ more. kept-by at xs two.1 k more) (or_cases (x == k) (has xs k) here)

  -- the first of a variable
  pub first-same-at : (at : ℕ) (v : Variable) → is_same_at g set f at v.is_shared v.place ≡ true → IsSameAt g set f at v.is_shared (v.place + 0)
  first-same-at at v said = subst (IsSameAt g set f at v.is_shared) (first v.place) (word-same at v.is_shared v.place said)
    where
      first : (place : ℕ) → place ≡ place + 0
      first place = omega arith

  -- so many words
  pub words-same : (at : ℕ) (b : Bool) (many place : ℕ) → are_same_at g set f at b place many ≡ true → (k : ℕ) → k < many → IsSameAt g set f at b (place + k)
  words-same at b zero place said k low = absurd (omega (arith, low))
  words-same at b (suc many) place said zero low =
      subst (IsSameAt g set f at b) (first place) (word-same at b place (and_parts (is_same_at g set f at b place) (are_same_at g set f at b (suc place) many) said).0)
    where
      first : (place : ℕ) → place ≡ place + 0
      first place = omega arith
  words-same at b (suc many) place said (suc k) low =
      subst (IsSameAt g set f at b) (next place k)
      (words-same at b many (suc place) (and_parts (is_same_at g set f at b place) (are_same_at g set f at b (suc place) many) said).1 k (omega (arith, low)))
    where
      next : (place k : ℕ) → suc place + k ≡ place + suc k
      next place k = omega arith

  -- words of the copy behind all that are hidden
  pub words-behind : (at place : ℕ) → are_below place (hidden_here g set f) ≡ true → (k : ℕ) → IsSameAt g set f at false (place + k)
  words-behind at place said k = inl (all-below place (places_of g.hidden set) said k)

  -- elements that a subscript can name
  pub read-by : (at : ℕ) (v : Variable) (o : Operand) → is_read g set f at v o ≡ true → AreRead g set f at v o
  read-by at v Another said = absurd (false≢true said)
  read-by at v Same said =
      let parts = and_parts (not v.is_shared) (are_below v.place (hidden_here g set f)) said in
      (tt, λ k can. subst (λ (b : Bool). IsSameAt g set f at b (v.place + k)) (sym (not-so v.is_shared parts.0)) (words-behind at v.place parts.1 k))
  read-by at v (Within size) said = (tt, λ k low. words-same at v.is_shared size v.place said k low)

  -- a word that may get what is not the same
  word-gets : (b : Bool) (place line : ℕ) → may_get_other g set f b place line ≡ true → MayDiffer (places_of g.hidden set) f b place × (has g.lines line ≡ true)
  word-gets b place line said =
      let two = and_parts (is_loose f b place && (b || has (hidden_here g set f) place)) (has g.lines line) said in
      let one = and_parts (is_loose f b place) (b || has (hidden_here g set f) place) two.0 in
      (record { loose = one.0; hides = by b one.1 }, two.1)
    where
      by : (b : Bool) → (b || has (places_of g.hidden set) place) ≡ true → IsOpen (places_of g.hidden set) b place → ⊥
      by true hides seen = seen
      by false hides seen = false≢true (sym seen ∙ hides)

  -- so may an element
  pub gets-other : (v : Variable) (element place line : ℕ) → place ≡ v.place + element → may_get_other g set f v.is_shared place line ≡ true → MayGetOther g set f v element line
  gets-other v element place line is said =
      let may = word-gets v.is_shared place line said in (subst (MayDiffer (places_of g.hidden set) f v.is_shared) is may.0, may.1)

  -- so many words
  words-get : (b : Bool) (line many place : ℕ) → may_get_from g set f b place many line ≡ true → (k : ℕ) → k < many → MayDiffer (places_of g.hidden set) f b (place + k)
  words-get b line zero place said k low = absurd (omega (arith, low))
  words-get b line (suc many) place said zero low =
      subst (MayDiffer (places_of g.hidden set) f b) (first place)
      (word-gets b place line (and_parts (may_get_other g set f b place line) (may_get_from g set f b (suc place) many line) said).0).0
    where
      first : (place : ℕ) → place ≡ place + 0
      first place = omega arith
  words-get b line (suc many) place said (suc k) low =
      subst (MayDiffer (places_of g.hidden set) f b) (next place k)
      (words-get b line many (suc place) (and_parts (may_get_other g set f b place line) (may_get_from g set f b (suc place) many line) said).1 k (omega (arith, low)))
    where
      next : (place k : ℕ) → suc place + k ≡ place + suc k
      next place k = omega arith

  -- elements that a subscript can name
  pub get-others : (v : Variable) (o : Operand) (line : ℕ) → may_get_others g set f v o line ≡ true → MayGetOthers g set f v o line
  get-others v Another line said = absurd (false≢true said)
  get-others v Same line said = absurd (false≢true said)
  get-others v (Within size) line said =
      let parts = and_parts (has g.lines line) (may_get_from g set f v.is_shared v.place size line) said in
      (tt, (λ k low. words-get v.is_shared line size v.place parts.1 k low), parts.0)
