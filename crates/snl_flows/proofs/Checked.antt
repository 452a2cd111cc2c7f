-- Where the check of an instruction says so, its table is right of it.
use Rattle.std.proofs.Common.{◌≡◌, ◌∙◌, ◌⊎◌, ◌+◌, ◌-◌, ◌<◌, inl, inr, ⊎_elim, refl, sym, ap, subst, arith, ℕ, zero, suc, Bool, true, false, List, [], ◌∷◌, Option, None, Some}
use Rattle.std.specs.Prelude.{◌==◌, ◌&&◌, ◌||◌, not, slice_get, slice_index_or}
use Rattle.std.proofs.lemmas.Bool.{and_parts, or_cases, eqb-true, false≢true}
use Rattle.snl_meaning.specs.declared.instrs.Instr.{Instr}
use Rattle.snl_meaning.specs.declared.instrs.Instr.TheVariants.{Push, Load, Check, Get, Peek, Store, StoreAt, Adjust, Increment, AdjustAt, Apply, ApplyNumber, ApplyPrefix, Settle, Drop, Jump, JumpIfZero, Tick, Print, Wait, Put, PutAt, Ask, AskLink, AskElement, Clear, Assign, Call, Fit, Return, Leave, End}
use Rattle.snl_meaning.specs.declared.instrs.Variable.{Variable}
use Rattle.snl_meaning.specs.declared.ties.Tied.{Tied}
use Rattle.snl_meaning.specs.Names.{format_text}
use Rattle.snl_meaning.specs.Run.{Entry}
use Rattle.snl_meaning.specs.Words.{element_place}
use Rattle.snl_names.specs.declared.builtins.Query.{Query}
use Rattle.snl_names.specs.declared.builtins.Query.TheVariants.{EfClear, EfSet, EfTest, EfTestAndClear, PvChannelCount, PvConnectCount, PvConnected, PvFlushQ, PvGet, PvGetQ, PvPutComplete}
use Rattle.snl_text.specs.declared.kinds.Kind.{Kind}
use Rattle.snl_flows.specs.Checks.{are_all_same, are_bound, are_got, are_got_by, are_got_within, are_kept, are_first_same, are_taken, takes, is_no_more, are_no_more, are_put, are_put_by, are_same_at, begins, hidden_here, is_bound, is_fine_at, is_got, is_got_at, is_got_by, is_got_from, is_got_of, is_named, is_printed, is_put, is_put_at, is_put_by, is_put_of, is_read, is_same_at, is_same_in, known_at, leads, leads_after, may_get_other, may_get_others, may_overflow, may_overflow_by, may_overflow_over, prefix_may_overflow}
use Rattle.snl_flows.specs.Fine.{AreTaken, Takes, Begins, IsAnyElement, IsBound, IsFineAt, IsGot, IsPrinted, IsPut, IsPutBy, LeadsTo, MayBecomeOther, MayBecomeOthers, settled_of}
use Rattle.snl_flows.specs.Outside.{has, places_of}
use Rattle.snl_flows.specs.Tables.{Operand, Another, Same, Within, CanBe, IsSameIn, top_of, below, under, Flow, Ground, MayDiffer, facts_at, said_at}
use Rattle.snl_flows.proofs.Checks.{all-no-more, all-same, first-same, first-same-at, get-others, gets-other, kept-by, leads-more, leads-one, leads-to, named-by, no-more, overflows, overflows-by, overflows-over, prefix-overflows, read-by, same-in, words-behind, words-same}

module _ (g : Ground) (set : ℕ) (f : Flow) where
  -- ---- puts

  -- of a link
  put-by : (at place count : ℕ) (o : Option ℕ) → is_put_by g set f at place count o ≡ true → IsPutBy g set f at place count o
  put-by at place count None said = words-behind g set f at place said
  put-by at place count (Some channel) said =
      ⊎_elim (λ (same : are_same_at g set f at false place count ≡ true). inl (λ k low. words-same g set f at false count place same k low))
      (λ (named : is_named g.names (slice_index_or g.channels channel []) ≡ true). inr (named-by g.names (slice_index_or g.channels channel []) named))
      (or_cases (are_same_at g set f at false place count) (is_named g.names (slice_index_or g.channels channel [])) said)

  -- of a place
  put-at : (at place : ℕ) → is_put g set f at place ≡ true → IsPut g set f at place
  put-at at place said link t found tied =
      let one : is_put_of g set f at place (Some link) ≡ true = subst (λ (o : Option ℕ). is_put_of g set f at place o ≡ true) found said in
      let two : is_put_at g set f at place (Some t) ≡ true = subst (λ (o : Option Tied). is_put_at g set f at place o ≡ true) tied one in
      put-by at place t.count t.channel two

  -- of so many elements
  puts-at : (at : ℕ) (v : Variable) (many element : ℕ) → are_put g set f at v element many ≡ true → (k : ℕ) → k < many → IsPut g set f at (element_place v (element + k))
  puts-at at v zero element said k low = absurd (omega (arith, low))
  puts-at at v (suc many) element said zero low =
      subst (λ (n : ℕ). IsPut g set f at (element_place v n)) (first element)
      (put-at at (element_place v element) (and_parts (is_put g set f at (element_place v element)) (are_put g set f at v (suc element) many) said).0)
    where
      first : (n : ℕ) → n ≡ n + 0
      first n = omega arith
  puts-at at v (suc many) element said (suc k) low =
      subst (λ (n : ℕ). IsPut g set f at (element_place v n)) (next element k)
      (puts-at at v many (suc element) (and_parts (is_put g set f at (element_place v element)) (are_put g set f at v (suc element) many) said).1 k (omega (arith, low)))
    where
      next : (n k : ℕ) → suc n + k ≡ n + suc k
      next n k = omega arith

  -- of each element that a subscript can name
  puts-by : (at : ℕ) (v : Variable) (o : Operand) → are_put_by g set f at v o ≡ true → IsSameIn o × ((k : ℕ) → CanBe o k → IsPut g set f at (element_place v k))
  puts-by at v Another said = absurd (false≢true said)
  puts-by at v Same said = absurd (false≢true said)
  puts-by at v (Within size) said = (tt, λ k low. subst (λ (n : ℕ). IsPut g set f at (element_place v n)) (from-none k) (puts-at at v size 0 said k low))
    where
      from-none : (k : ℕ) → 0 + k ≡ k
      from-none k = omega arith

  -- ---- what is got

  -- a word that may get what is not the same
  differs : (place : ℕ) → (has f.loose place && has (hidden_here g set f) place) ≡ true → MayDiffer (places_of g.hidden set) f false place
  differs place said =
      let both = and_parts (has f.loose place) (has (hidden_here g set f) place) said in
      record { loose = both.0; hides = λ (seen : has (places_of g.hidden set) place ≡ false). false≢true (sym seen ∙ both.1) }

  -- so many words, from places on
  got-from : (count place from : ℕ) → is_got_from g set f place from count ≡ true → (k : ℕ) → k < count → has g.stale (from + k) ≡ true → MayDiffer (places_of g.hidden set) f false (place + k)
  got-from zero place from said k low stale = absurd (omega (arith, low))
  got-from (suc count) place from said zero low stale =
      subst (MayDiffer (places_of g.hidden set) f false) (first place)
      (differs place (⊎_elim (λ (fresh : not (has g.stale from) ≡ true). absurd (never (has g.stale from) fresh (ap (has g.stale) (first from) ∙ stale)))
      (λ (may : (has f.loose place && has (hidden_here g set f) place) ≡ true). may)
      (or_cases (not (has g.stale from)) (has f.loose place && has (hidden_here g set f) place)
      (and_parts (not (has g.stale from) || (has f.loose place && has (hidden_here g set f) place)) (is_got_from g set f (suc place) (suc from) count) said).0)))
    where
      first : (n : ℕ) → n ≡ n + 0
      first n = omega arith

      never : (b : Bool) → not b ≡ true → b ≡ true → ⊥
      never true fresh is = false≢true fresh
      never false fresh is = false≢true is
  got-from (suc count) place from said (suc k) low stale =
      subst (MayDiffer (places_of g.hidden set) f false) (next place k)
      (got-from count (suc place) (suc from)
      (and_parts (not (has g.stale from) || (has f.loose place && has (hidden_here g set f) place)) (is_got_from g set f (suc place) (suc from) count) said).1
      k (omega (arith, low)) (ap (has g.stale) (next from k) ∙ stale))
    where
      next : (n k : ℕ) → suc n + k ≡ n + suc k
      next n k = omega arith

  -- of a place
  got-at : (place : ℕ) → is_got g set f place ≡ true → IsGot g set f PvGet place
  got-at place said link k t found tied low stale =
      let one : is_got_of g set f place (Some link) ≡ true = subst (λ (o : Option ℕ). is_got_of g set f place o ≡ true) found said in
      let two : is_got_at g set f place (Some t) ≡ true = subst (λ (o : Option Tied). is_got_at g set f place o ≡ true) tied one in
      got-from t.count place t.from two k low stale

  -- of so many elements
  gots-at : (v : Variable) (many element : ℕ) → are_got g set f v element many ≡ true → (k : ℕ) → k < many → IsGot g set f PvGet (element_place v (element + k))
  gots-at v zero element said k low = absurd (omega (arith, low))
  gots-at v (suc many) element said zero low =
      subst (λ (n : ℕ). IsGot g set f PvGet (element_place v n)) (first element)
      (got-at (element_place v element) (and_parts (is_got g set f (element_place v element)) (are_got g set f v (suc element) many) said).0)
    where
      first : (n : ℕ) → n ≡ n + 0
      first n = omega arith
  gots-at v (suc many) element said (suc k) low =
      subst (λ (n : ℕ). IsGot g set f PvGet (element_place v n)) (next element k)
      (gots-at v many (suc element) (and_parts (is_got g set f (element_place v element)) (are_got g set f v (suc element) many) said).1 k (omega (arith, low)))
    where
      next : (n k : ℕ) → suc n + k ≡ n + suc k
      next n k = omega arith

  -- of each element that a subscript can name
  gots-within : (v : Variable) (o : Operand) (stale : List ℕ) → g.stale ≡ stale → are_got_within g set f v o stale ≡ true → (k : ℕ) → CanBe o k → IsGot g set f PvGet (element_place v k)
  gots-within v o [] none said k can =
      λ link j t found tied low stale. absurd (false≢true (ap (λ (places : List ℕ). has places (t.from + j)) (sym none) ∙ stale))
  gots-within v Another (x ∷ stale) some said k can = absurd (false≢true said)
  gots-within v Same (x ∷ stale) some said k can = absurd (false≢true said)
  gots-within v (Within size) (x ∷ stale) some said k low = subst (λ (n : ℕ). IsGot g set f PvGet (element_place v n)) (from-none k) (gots-at v size 0 said k low)
    where
      from-none : (k : ℕ) → 0 + k ≡ k
      from-none k = omega arith

  -- by what is asked for
  got-by : (query : Query) (v : Variable) → is_got_by g set f query v ≡ true → IsGot g set f query v.place
  got-by PvGet v said = got-at v.place said
  got-by PvGetQ v said = tt
  got-by PvFlushQ v said = tt
  got-by PvConnected v said = tt
  got-by PvPutComplete v said = tt
  got-by PvChannelCount v said = tt
  got-by PvConnectCount v said = tt
  got-by EfClear v said = tt
  got-by EfSet v said = tt
  got-by EfTest v said = tt
  got-by EfTestAndClear v said = tt

  -- of elements
  gots-by : (query : Query) (v : Variable) (o : Operand) → are_got_by g set f query v o ≡ true → (k : ℕ) → CanBe o k → IsGot g set f query (element_place v k)
  gots-by PvGet v o said k can = gots-within v o g.stale refl said k can
  gots-by PvGetQ v o said k can = tt
  gots-by PvFlushQ v o said k can = tt
  gots-by PvConnected v o said k can = tt
  gots-by PvPutComplete v o said k can = tt
  gots-by PvChannelCount v o said k can = tt
  gots-by PvConnectCount v o said k can = tt
  gots-by EfClear v o said k can = tt
  gots-by EfSet v o said k can = tt
  gots-by EfTest v o said k can = tt
  gots-by EfTestAndClear v o said k can = tt

  -- ---- prints

  -- a `printf`
  printed-by : (at format n : ℕ) → is_printed g set f at format n ≡ true → IsPrinted g set f at format n
  printed-by at format n said =
      ⊎_elim (λ (same : are_first_same n (known_at g set f at) ≡ true). inl (first-same n (known_at g set f at) same))
      (λ (named : is_named g.names (format_text g.formats format) ≡ true). inr (named-by g.names (format_text g.formats format) named))
      (or_cases (are_first_same n (known_at g set f at)) (is_named g.names (format_text g.formats format)) said)

  -- ---- calls

  -- a parameter that gets a value
  bound : (ps : List Variable) (values : ℕ) (b : Bool) (k : ℕ) → is_bound g set f ps values b k ≡ true → IsBound ps values b k
  bound [] values b k said = false≢true said
  bound (p ∷ ps) zero b k said = false≢true said
  bound (p ∷ ps) (suc values) b k said =
      ⊎_elim
      (λ (here : ((not b || p.is_shared) && (b || not p.is_shared) && k == p.place) ≡ true).
      let two = and_parts ((not b || p.is_shared) && (b || not p.is_shared)) (k == p.place) here in
      let one = and_parts (not b || p.is_shared) (b || not p.is_shared) two.0 in
      let is = eqb-true k p.place two.1 in inl (same b p.is_shared one.0 one.1, omega (arith, is)))
      (λ (more : is_bound g set f ps values b k ≡ true). inr (bound ps values b k more))
      (or_cases ((not b || p.is_shared) && (b || not p.is_shared) && k == p.place) (is_bound g set f ps values b k) said)
    where
      same : (b c : Bool) → (not b || c) ≡ true → (b || not c) ≡ true → b ≡ c
      same true true p q = refl
      same true false p q = absurd (false≢true p)
      same false true p q = absurd (false≢true q)
      same false false p q = refl

  -- all words that are said
  all-bound : (ps : List Variable) (values : ℕ) (b : Bool) (words : List ℕ) → are_bound g set f ps values b words ≡ true → (k : ℕ) → has words k ≡ true → IsBound ps values b k
  all-bound ps values b [] said k known = absurd (false≢true known)
  all-bound ps values b (x ∷ xs) said k known =
      let parts = and_parts (is_bound g set f ps values b x) (are_bound g set f ps values b xs) said in
      ⊎_elim (λ (same : (x == k) ≡ true). subst (IsBound ps values b) (eqb-true x k same) (bound ps values b x parts.0))
      (λ (more : has xs k ≡ true). all-bound ps values b xs parts.1 k more) (or_cases (x == k) (has xs k) known)

  -- where a function begins
  begins-by : (o : Option Entry) (values : ℕ) → begins g set f o values ≡ true → Begins g set f o values
  begins-by None values said = tt
  begins-by (Some e) values said =
      let three = and_parts (are_no_more (known_at g set f e.start) [] && (facts_at f e.start).is_reached && are_bound g set f e.parameters values true (said_at f e.start true))
      (are_bound g set f e.parameters values false (said_at f e.start false)) said in
      let two = and_parts (are_no_more (known_at g set f e.start) [] && (facts_at f e.start).is_reached) (are_bound g set f e.parameters values true (said_at f e.start true)) three.0 in
      let one = and_parts (are_no_more (known_at g set f e.start) []) (facts_at f e.start).is_reached two.0 in
      (all-no-more (known_at g set f e.start) [] one.0, one.1, by two.1 three.1)
    where
      by : are_bound g set f e.parameters values true (said_at f e.start true) ≡ true → are_bound g set f e.parameters values false (said_at f e.start false) ≡ true →
          (b : Bool) (k : ℕ) → has (said_at f e.start b) k ≡ true → IsBound e.parameters values b k
      by functions own true k known = all-bound e.parameters values true (said_at f e.start true) functions k known
      by functions own false k known = all-bound e.parameters values false (said_at f e.start false) own k known

  -- a parameter's place is that of its first element
  first-place : (v : Variable) → v.place ≡ v.place + 0
  first-place v = omega arith

  -- what parameters get
  taken-by : (ps : List Variable) (values : ℕ) (os : List Operand) (line : ℕ) → are_taken g set f ps values os line ≡ true → AreTaken g set f ps values os line
  taken-by [] values os line said = tt
  taken-by (p ∷ ps) zero os line said = tt
  taken-by (p ∷ ps) (suc values) os line said =
      let parts = and_parts (is_same_in (top_of (under values os)) || may_get_other g set f p.is_shared p.place line) (are_taken g set f ps values os line) said in (
        ⊎_elim (λ (same : is_same_in (top_of (under values os)) ≡ true). inl (same-in (top_of (under values os)) same))
            (λ (other : may_get_other g set f p.is_shared p.place line ≡ true). inr (gets-other g set f p 0 p.place line (first-place p) other))
            (or_cases (is_same_in (top_of (under values os))) (may_get_other g set f p.is_shared p.place line) parts.0),
        taken-by ps values os line parts.1,
      )

  -- those of a function
  takes-by : (o : Option Entry) (values : ℕ) (os : List Operand) (line : ℕ) → takes g set f o values os line ≡ true → Takes g set f o values os line
  takes-by None values os line said = tt
  takes-by (Some e) values os line said = taken-by e.parameters values os line said

  -- ---- instructions

  module _ (at : ℕ) where
    -- the operands there
    abbrev os : List Operand
    os = known_at g set f at

    -- a first element has itself as its place
    first : (v : Variable) → v.place ≡ v.place + 0
    first v = omega arith

    -- a variable that becomes another one
    becomes : (v : Variable) (op : Kind) (op_line line : ℕ) → (may_get_other g set f v.is_shared v.place line && may_overflow g.lines op op_line) ≡ true → MayBecomeOther g set f v op op_line line
    becomes v op op_line line said =
        let parts = and_parts (may_get_other g set f v.is_shared v.place line) (may_overflow g.lines op op_line) said in
        (gets-other g set f v 0 v.place line (first v) parts.0, overflows g.lines op op_line parts.1)

    -- elements that become others
    become : (v : Variable) (o : Operand) (op : Kind) (op_line line : ℕ) → (may_get_others g set f v o line && may_overflow g.lines op op_line) ≡ true → MayBecomeOthers g set f v o op op_line line
    become v o op op_line line said =
        let parts = and_parts (may_get_others g set f v o line) (may_overflow g.lines op op_line) said in (get-others g set f v o line parts.0, overflows g.lines op op_line parts.1)

    -- one test, and where it leads
    with-test : (test : Bool) (to : ℕ) (holds : List Operand) {P : Type 0} → (test ≡ true → P) → (test && leads g set f at to holds) ≡ true → P × LeadsTo g set f at to holds
    with-test test to holds make said = let parts = and_parts test (leads g set f at to holds) said in (make parts.0, leads-to g set f at to holds parts.1)

    -- one of two
    either : (a b : Bool) {P Q : Type 0} → (a ≡ true → P) → (b ≡ true → Q) → (a || b) ≡ true → P ⊎ Q
    either a b p q said = ⊎_elim (λ (one : a ≡ true). inl (p one)) (λ (two : b ≡ true). inr (q two)) (or_cases a b said)

    -- each
    pub fine-at : (i : Instr) → is_fine_at g set f at i ≡ true → IsFineAt g set f at i
    fine-at (Push z) said = leads-to g set f at (at + 1) (Same ∷ os) said
    fine-at (Load v) said =
        either (is_same_at g set f at v.is_shared v.place && leads g set f at (at + 1) (Same ∷ os)) (leads g set f at (at + 1) (Another ∷ os))
        (with-test (is_same_at g set f at v.is_shared v.place) (at + 1) (Same ∷ os) (first-same-at g set f at v)) (leads-to g set f at (at + 1) (Another ∷ os)) said
    fine-at (Check v line) said = with-test (is_same_in (top_of os)) (at + 1) (Within v.size ∷ below os) (same-in (top_of os)) said
    fine-at (Get v) said =
        either (is_read g set f at v (top_of os) && leads g set f at (at + 1) (Same ∷ below os)) (leads g set f at (at + 1) (Another ∷ below os))
        (with-test (is_read g set f at v (top_of os)) (at + 1) (Same ∷ below os) (read-by g set f at v (top_of os))) (leads-to g set f at (at + 1) (Another ∷ below os)) said
    fine-at (Peek v) said =
        either (is_read g set f at v (top_of os) && leads g set f at (at + 1) (Same ∷ os)) (leads g set f at (at + 1) (Another ∷ os))
        (with-test (is_read g set f at v (top_of os)) (at + 1) (Same ∷ os) (read-by g set f at v (top_of os))) (leads-to g set f at (at + 1) (Another ∷ os)) said
    fine-at (Store v line) said =
        either (is_same_in (top_of os) && leads_after g set f at (at + 1) os v v.place 1) (may_get_other g set f v.is_shared v.place line && leads g set f at (at + 1) os)
        (λ one. let parts = and_parts (is_same_in (top_of os)) (leads_after g set f at (at + 1) os v v.place 1) one in
        (same-in (top_of os) parts.0, leads-one g set f at (at + 1) os v 0 v.place (first v) parts.1))
        (with-test (may_get_other g set f v.is_shared v.place line) (at + 1) os (gets-other g set f v 0 v.place line (first v))) said
    fine-at (StoreAt v line) said =
        with-test ((is_same_in (top_of os) && is_same_in (top_of (below os))) || may_get_others g set f v (top_of (below os)) line) (at + 1) (top_of os ∷ below (below os))
        (either (is_same_in (top_of os) && is_same_in (top_of (below os))) (may_get_others g set f v (top_of (below os)) line)
        (λ same. let one = and_parts (is_same_in (top_of os)) (is_same_in (top_of (below os))) same in (same-in (top_of os) one.0, same-in (top_of (below os)) one.1))
        (get-others g set f v (top_of (below os)) line)) said
    fine-at (Adjust v op op_line line is_before) said =
        either (is_same_at g set f at v.is_shared v.place && leads g set f at (at + 1) (Same ∷ os))
        (may_get_other g set f v.is_shared v.place line && may_overflow g.lines op op_line && leads g set f at (at + 1) (Another ∷ os))
        (with-test (is_same_at g set f at v.is_shared v.place) (at + 1) (Same ∷ os) (first-same-at g set f at v))
        (with-test (may_get_other g set f v.is_shared v.place line && may_overflow g.lines op op_line) (at + 1) (Another ∷ os) (becomes v op op_line line)) said
    fine-at (Increment v op op_line line) said =
        with-test (is_same_at g set f at v.is_shared v.place || (may_get_other g set f v.is_shared v.place line && may_overflow g.lines op op_line)) (at + 1) os
        (either (is_same_at g set f at v.is_shared v.place) (may_get_other g set f v.is_shared v.place line && may_overflow g.lines op op_line) (first-same-at g set f at v)
        (becomes v op op_line line)) said
    fine-at (AdjustAt v op op_line line is_before) said =
        either (is_read g set f at v (top_of os) && leads g set f at (at + 1) (Same ∷ below os))
        (may_get_others g set f v (top_of os) line && may_overflow g.lines op op_line && leads g set f at (at + 1) (Another ∷ below os))
        (with-test (is_read g set f at v (top_of os)) (at + 1) (Same ∷ below os) (read-by g set f at v (top_of os)))
        (with-test (may_get_others g set f v (top_of os) line && may_overflow g.lines op op_line) (at + 1) (Another ∷ below os) (become v (top_of os) op op_line line)) said
    fine-at (Apply op line) said =
        either (is_same_in (top_of os) && is_same_in (top_of (below os)) && leads g set f at (at + 1) (Same ∷ below (below os)))
        (may_overflow_over g.lines op (top_of os) line && leads g set f at (at + 1) (Another ∷ below (below os)))
        (λ same. let two = and_parts (is_same_in (top_of os) && is_same_in (top_of (below os))) (leads g set f at (at + 1) (Same ∷ below (below os))) same in
        let one = and_parts (is_same_in (top_of os)) (is_same_in (top_of (below os))) two.0 in
        (same-in (top_of os) one.0, same-in (top_of (below os)) one.1, leads-to g set f at (at + 1) (Same ∷ below (below os)) two.1))
        (with-test (may_overflow_over g.lines op (top_of os) line) (at + 1) (Another ∷ below (below os)) (overflows-over g.lines op (top_of os) line)) said
    fine-at (ApplyNumber op z line) said =
        either (is_same_in (top_of os) && leads g set f at (at + 1) (Same ∷ below os)) (may_overflow_by g.lines op z line && leads g set f at (at + 1) (Another ∷ below os))
        (with-test (is_same_in (top_of os)) (at + 1) (Same ∷ below os) (same-in (top_of os)))
        (with-test (may_overflow_by g.lines op z line) (at + 1) (Another ∷ below os) (overflows-by g.lines op z line)) said
    fine-at (ApplyPrefix op line) said =
        either (is_same_in (top_of os) && leads g set f at (at + 1) (Same ∷ below os)) (prefix_may_overflow g.lines op line && leads g set f at (at + 1) (Another ∷ below os))
        (with-test (is_same_in (top_of os)) (at + 1) (Same ∷ below os) (same-in (top_of os)))
        (with-test (prefix_may_overflow g.lines op line) (at + 1) (Another ∷ below os) (prefix-overflows g.lines op line)) said
    fine-at Settle said = leads-to g set f at (at + 1) (settled_of (top_of os) ∷ below os) said
    fine-at Drop said = leads-to g set f at (at + 1) (below os) said
    fine-at (Jump n) said = leads-to g set f at (at + 1 + n) os said
    fine-at (JumpIfZero n) said =
        let two = and_parts (is_same_in (top_of os) && leads g set f at (at + 1) (below os)) (leads g set f at (at + 1 + n) (below os)) said in
        let one = and_parts (is_same_in (top_of os)) (leads g set f at (at + 1) (below os)) two.0 in
        (same-in (top_of os) one.0, leads-to g set f at (at + 1) (below os) one.1, leads-to g set f at (at + 1 + n) (below os) two.1)
    fine-at (Tick line back) said = leads-to g set f at (at - back) os said
    fine-at (Print format n) said = with-test (is_printed g set f at format n) (at + 1) (Same ∷ under n os) (printed-by at format n) said
    fine-at (Wait in_seconds) said = with-test (is_same_in (top_of os)) (at + 1) (Same ∷ below os) (same-in (top_of os)) said
    fine-at (Put v async) said = with-test (is_put g set f at v.place) (at + 1) (Same ∷ os) (put-at at v.place) said
    fine-at (PutAt v async) said =
        let parts = and_parts (are_put_by g set f at v (top_of os)) (leads g set f at (at + 1) (Same ∷ below os)) said in
        let puts = puts-by at v (top_of os) parts.0 in (puts.0, puts.1, leads-to g set f at (at + 1) (Same ∷ below os) parts.1)
    fine-at (Ask query number) said = leads-to g set f at (at + 1) (Same ∷ os) said
    fine-at (AskLink query v) said = with-test (is_got_by g set f query v) (at + 1) (Same ∷ os) (got-by query v) said
    fine-at (AskElement query v) said =
        let two = and_parts (is_same_in (top_of os) && are_got_by g set f query v (top_of os)) (leads g set f at (at + 1) (Same ∷ below os)) said in
        let one = and_parts (is_same_in (top_of os)) (are_got_by g set f query v (top_of os)) two.0 in
        (same-in (top_of os) one.0, gots-by query v (top_of os) one.1, leads-to g set f at (at + 1) (Same ∷ below os) two.1)
    fine-at (Clear v) said = leads-more g set f at (at + 1) os v v.place v.size (IsAnyElement v) said (λ b k shared low high. (shared, low, high))
    fine-at (Assign v element line) said =
        either (is_same_in (top_of os) && leads_after g set f at (at + 1) (below os) v (v.place + element) 1)
        (may_get_other g set f v.is_shared (v.place + element) line && leads g set f at (at + 1) (below os))
        (λ one. let parts = and_parts (is_same_in (top_of os)) (leads_after g set f at (at + 1) (below os) v (v.place + element) 1) one in
        (same-in (top_of os) parts.0, leads-one g set f at (at + 1) (below os) v element (v.place + element) refl parts.1))
        (with-test (may_get_other g set f v.is_shared (v.place + element) line) (at + 1) (below os) (gets-other g set f v element (v.place + element) line refl)) said
    fine-at (Call function n line) said =
        let o = slice_get g.functions function in
        let three = and_parts (takes g set f o n os line && are_all_same (under n os) && begins g set f o n) (leads g set f at (at + 1) (f.given ∷ [])) said in
        let two = and_parts (takes g set f o n os line && are_all_same (under n os)) (begins g set f o n) three.0 in
        let one = and_parts (takes g set f o n os line) (are_all_same (under n os)) two.0 in
        (takes-by o n os line one.0, all-same (under n os) one.1, begins-by o n two.1, leads-to g set f at (at + 1) (f.given ∷ []) three.1)
    fine-at (Fit least greatest line) said =
        with-test (is_same_in (top_of os) || has g.lines line) (at + 1) os (either (is_same_in (top_of os)) (has g.lines line) (same-in (top_of os)) (λ left. left)) said
    fine-at Return said =
        let parts = and_parts (is_no_more f.given (top_of os)) (are_all_same (below os)) said in (no-more f.given (top_of os) parts.0, all-same (below os) parts.1)
    fine-at (Leave state) said = kept-by g set f at f.leaves said
    fine-at End said = let two = and_parts (are_all_same os) (are_kept g set f at f.ends) said in (all-same os two.0, kept-by g set f at f.ends two.1)
