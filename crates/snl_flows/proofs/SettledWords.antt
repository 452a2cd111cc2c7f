-- What a word of code does keeps links settled, where it writes no word of a free link.
use Rattle.std.proofs.Common.{◌≡◌, ◌∙◌, ◌⊎◌, ◌+◌, ◌≤◌, ◌<◌, inl, inr, ⊎_elim, refl, sym, ap, subst, arith, ℕ, zero, suc, ℤ, pos, negsuc, Bool, true, false, List, [], ◌∷◌, Option, None, Some, Result, Ok, Err, length, slice_get, if◌then◌else◌}
use Rattle.std.specs.Prelude.{◌&&◌, ◌+ℤ◌, ◌*ℤ◌, Contains, int_le, is_some, replicate, slice_index_or, slice_set}
use Rattle.std.proofs.lemmas.Bool.{eqb-true}
use Rattle.std.proofs.lemmas.List.{length-replicate}
use Rattle.snl_text.specs.declared.kinds.Kind.{Kind}
use Rattle.snl_arithmetic.specs.declared.arithmetic.ArithmeticFault as sum
use Rattle.snl_arithmetic.specs.Arithmetic.{computed, computed_prefix}
use Rattle.snl_names.specs.declared.builtins.Query.{Query}
use Rattle.snl_names.specs.declared.builtins.Query.TheVariants.{EfClear, EfSet, EfTest, EfTestAndClear, PvChannelCount, PvConnectCount, PvConnected, PvFlushQ, PvGet, PvGetQ, PvPutComplete}
use Rattle.snl_machine.proofs.Buffers.{AreApart, away-from}
use Rattle.snl_machine.proofs.Cells.{words-same, zeroed-is}
use Rattle.snl_machine.proofs.Marked.{mark-away}
use Rattle.snl_machine.proofs.Queued.{length-words}
use Rattle.snl_meaning.specs.declared.instrs.Variable.{Variable}
use Rattle.snl_meaning.specs.declared.ties.Tied.{Tied}
use Rattle.snl_meaning.specs.Asking.{ask_element, asked, asked_of, is_readable, unlinked}
use Rattle.snl_meaning.specs.Frames.{room_in}
use Rattle.snl_meaning.specs.Keeping.{world_after}
use Rattle.snl_meaning.specs.Links.{all_marked, begins_at, buffer_of, elements_at, enqueued, flagged, handed_over, is_left_out, is_queued, kept_for, link_at, link_from, marked, marked_but, marked_from, queue_of, unflagged, with_buffer, with_elements, with_items}
use Rattle.snl_meaning.specs.Ran.{Ran, Gives, Faults, also, then_do}
use Rattle.snl_meaning.specs.Words.{OnLink, adjusted, adjusted_to, at_link, at_number, at_tie, bound, called_with, element_place, natural, noted, operated, operated_prefix, outcome_at, put_by, put_element, spent, spent_of, stored, waited, waited_until}
use Rattle.snl_meaning.specs.World.{Queue, SetMemory, World, copy_of, element_of, is_waiting, no_copy, with_element, with_words_for, with_zeros, words_at, words_for, zeroed}
use Rattle.snl_meaning.proofs.Frames.{buffer-same, elements-same, marks-same, queue-same}
use Rattle.snl_meaning.proofs.Sizes.{marked-many}
use Rattle.snl_meaning.proofs.WordKeeps.{after-test}
use Rattle.snl_flows.specs.Settled.{CanBeFree, IsFree, IsSettled, Layout, StandApart, home_at, layout_in, layout_of}
use Rattle.snl_flows.specs.Unwritten.{AreClear, IsClear, IsElementClear, IsNoTaking, IsVariableClear}
use Rattle.snl_flows.proofs.Settled.{filled-settled, word-away}

-- the link that begins at a word, by numbers from one on, has its home there,
home-from : (homes : List (Option ℕ)) (place first link : ℕ) → link_from first homes place ≡ Some link → (k : ℕ) × (first + k ≡ link) × (slice_index_or homes k None ≡ Some place)
home-from [] place first link is = absurd (cc)
home-from (home ∷ homes) place first link is = by home (begins_at place home) refl is (home-from homes place (first + 1) link)
  where
    by : (o : Option ℕ) (b : Bool) → begins_at place o ≡ b → (if b then Some first else link_from (first + 1) homes place) ≡ Some link →
        (link_from (first + 1) homes place ≡ Some link → (k : ℕ) × (first + 1 + k ≡ link) × (slice_index_or homes k None ≡ Some place)) →
        (k : ℕ) × (first + k ≡ link) × (slice_index_or (o ∷ homes) k None ≡ Some place)
    by None true begins at later = absurd (cc)
    by (Some h) true begins at later =
        let there : h ≡ place = eqb-true h place begins in
        let this : first ≡ link = cc in
        (0, (let e : first + 0 ≡ link = omega (arith, this) in e), ap Some there)
    by o false begins at later = let r = later at in (suc r.0, (let e : first + suc r.0 ≡ link = omega (arith, r.1) in e), r.2)

-- the world behind a text
pub behind : {A : Type 0} (P : World → Type 0) (a : List ℕ) (r : Ran A) → P (world_after r) → P (world_after (also a r))
behind P a (Gives v w b) p = p
behind P a (Faults fault line w b) p = p

-- one step and then another
pub two-steps : {A B : Type 0} (P : World → Type 0) (r : Ran A) (go : A → World → Ran B) → P (world_after r) → ((x : A) (w : World) → P w → P (world_after (go x w))) → P (world_after (then_do r go))
two-steps P (Gives x w a) go p h = behind P a (go x w) (h x w p)
two-steps P (Faults fault line w a) go p h = p

-- a mark of another link, where one is marked for a state set, unless that is left out,
but-away : (but : Option ℕ) (set other link i : ℕ) (row : List (Option ℕ)) (marks : List (List Bool)) → (i ≡ link → ⊥) →
    slice_index_or (slice_index_or (marked_but but set link row marks) other []) i false ≡ slice_index_or (slice_index_or marks other []) i false
but-away but set other link i row marks not = by (is_left_out but set) (is_some (slice_index_or row link None))
  where
    by : (left there : Bool) →
        slice_index_or (slice_index_or (if left then marks else (if there then slice_set marks set (slice_set (slice_index_or marks set []) link true) else marks)) other []) i false
        ≡ slice_index_or (slice_index_or marks other []) i false
    by true there = refl
    by false true = mark-away marks set other link i true not
    by false false = refl

-- and for state sets from one on
all-but-away : (but : Option ℕ) (link other i set : ℕ) (homes : List (List (Option ℕ))) (marks : List (List Bool)) → (i ≡ link → ⊥) →
    slice_index_or (slice_index_or (marked_from but link set homes marks) other []) i false ≡ slice_index_or (slice_index_or marks other []) i false
all-but-away but link other i set [] marks not = refl
all-but-away but link other i set (row ∷ homes) marks not = all-but-away but link other i (set + 1) homes (marked_but but set link row marks) not ∙ but-away but set other link i row marks not

module _ (free : List ℕ) (values : List (List (List ℤ))) (l : Layout) (can : CanBeFree free l) (set : ℕ) where
  -- links are settled
  abbrev Settled : World → Type 0
  Settled = IsSettled free values l

  -- a word keeps them so
  abbrev pub Keeps : {A : Type 0} → (World → Ran A) → Type 0
  Keeps word = (w : World) → Settled w → Settled (world_after (word w))

  -- ---- worlds

  -- another world with the same of what links have
  same-links : (w v : World) → layout_of v ≡ layout_of w → v.buffers ≡ w.buffers → v.marks ≡ w.marks → v.copies ≡ w.copies → Settled w → Settled v
  same-links w v laid buffers marks copies s = record {
    laid = laid ∙ s.laid;
    buffers = λ link t is. subst (λ (words : List ℤ). Contains (slice_index_or values link []) (words_at words t.from t.count)) (sym buffers) (s.buffers link t is);
    copies = λ n link home t is at. ⊎_elim
        (λ told. inl (ap (λ (rows : List (List Bool)). slice_index_or (slice_index_or rows n []) link false) marks ∙ told))
        (λ same. inr (ap (λ (cs : List SetMemory). words_at (slice_index_or cs n no_copy).words home t.count) copies ∙ same
        ∙ ap (λ (words : List ℤ). words_at words t.from t.count) (sym buffers))) (s.copies n link home t is at);
  }

  -- numbers come to words of a copy that are of no free link
  words-come : (place : ℕ) (zs : List ℤ) (w : World) → IsClear free l set place (length zs) → Settled w → Settled (with_elements set place zs w)
  words-come place zs w clear s = record {
    laid = ap layout_in (elements-same set place zs w) ∙ s.laid;
    buffers = λ link t is. s.buffers link t is;
    copies = λ n link home t is at. ⊎_elim (λ told. inl told) (λ same. inr (stays n link home t is at ∙ same)) (s.copies n link home t is at);
  }
    where
      stays : (n link home : ℕ) (t : Tied) → IsFree free l link t → home_at l n link ≡ Some home → elements_at n home t (with_elements set place zs w) ≡ elements_at n home t w
      stays n link home t is at =
          words-same (copy_of n (with_elements set place zs w)).words (copy_of n w).words home t.count (λ j less. word-away set place zs n (home + j) w (λ here.
          by j less (clear link home t is (subst (λ (m : ℕ). home_at l m link ≡ Some home) here at))))
        where
          by : (j : ℕ) → j < t.count → StandApart home t.count place (length zs) → (home + j < place) ⊎ (place + length zs ≤ home + j)
          by j less (inl before) = inl (omega (arith, less, before))
          by j less (inr after) = inr (omega (arith, after))

  -- other words of functions
  shared-change : (words : List ℤ) (w : World) → Settled w → Settled (record w { shared = words })
  shared-change words w s = same-links w (record w { shared = words }) refl refl refl refl s

  -- ---- variables

  -- an element
  element-come : (v : Variable) (k : ℕ) (z : ℤ) (w : World) → IsElementClear free l set v k → Settled w → Settled (with_element set v k z w)
  element-come v k z w clear s = by v.is_shared refl
    where
      by : (b : Bool) → v.is_shared ≡ b → Settled (with_words_for set b (slice_set (words_for set b w) (v.place + k) z) w)
      by true is = shared-change (slice_set w.shared (v.place + k) z) w s
      by false is = words-come (v.place + k) (z ∷ []) w (⊎_elim (λ shared. let both : true ≡ false = sym shared ∙ is in absurd (cc)) (λ free-of. free-of) clear) s

  -- a store
  pub keeps-stored : (v : Variable) (line : ℕ) (k : ℤ) → IsElementClear free l set v (natural k) → (z : ℤ) → Keeps (stored set v line k z)
  keeps-stored v line k clear z w s = after-test Settled (int_le v.least z && int_le z v.greatest) _ _ (element-come v (natural k) z w clear s) s

  -- what an operator makes
  pub keeps-operated : (op : Kind) (line : ℕ) (x y : ℤ) → Keeps (operated op line x y)
  keeps-operated op line x y w s = by (computed op x y)
    where
      by : (r : Result ℤ sum.ArithmeticFault) → Settled (world_after (outcome_at line r w))
      by (Ok z) = s
      by (Err f) = s

  -- or a prefix operator
  pub keeps-prefix : (op : Kind) (line : ℕ) (z : ℤ) → Keeps (operated_prefix op line z)
  keeps-prefix op line z w s = by (computed_prefix op z)
    where
      by : (r : Result ℤ sum.ArithmeticFault) → Settled (world_after (outcome_at line r w))
      by (Ok y) = s
      by (Err f) = s

  -- `++` and `--`
  pub keeps-adjusted : (v : Variable) (op : Kind) (op_line line : ℕ) (is_before : Bool) (k : ℤ) → IsElementClear free l set v (natural k) → Keeps (adjusted set v op op_line line is_before k)
  keeps-adjusted v op op_line line is_before k clear w s =
      let old = element_of set v (natural k) w in
      two-steps Settled (operated op op_line old (pos 1) w) (adjusted_to set v line is_before k old) (keeps-operated op op_line old (pos 1) w s)
      (λ z u p. two-steps Settled (stored set v line k z u) (λ _ x. Gives (if is_before then old else z) x []) (keeps-stored v line k clear z u p) (λ _ x q. q))

  -- a variable of a block
  pub zeros-come : (v : Variable) (w : World) → IsVariableClear free l set v → Settled w → Settled (with_zeros set v w)
  zeros-come v w clear s = by v.is_shared refl
    where
      by : (b : Bool) → v.is_shared ≡ b → Settled (with_words_for set b (zeroed (words_for set b w) v.place v.size) w)
      by true is = shared-change (zeroed w.shared v.place v.size) w s
      by false is =
          subst (λ (words : List ℤ). Settled (with_words_for set false words w)) (sym (zeroed-is v.size (copy_of set w).words v.place))
          (words-come v.place (replicate v.size (pos 0)) w
          (subst (IsClear free l set v.place) (sym (length-replicate v.size (pos 0)))
          (⊎_elim (λ shared. let both : true ≡ false = sym shared ∙ is in absurd (cc)) (λ free-of. free-of) clear)) s)

  -- ---- flags, ticks and due times

  -- what is asked or told of a flag
  pub keeps-asked : (query : Query) (flag : ℕ) → Keeps (asked query flag)
  keeps-asked EfClear flag w s = same-links w _ refl refl refl refl s
  keeps-asked EfSet flag w s = same-links w _ refl refl refl refl s
  keeps-asked EfTest flag w s = s
  keeps-asked EfTestAndClear flag w s = same-links w _ refl refl refl refl s
  keeps-asked PvChannelCount flag w s = s
  keeps-asked PvConnectCount flag w s = s
  keeps-asked PvConnected flag w s = s
  keeps-asked PvFlushQ flag w s = s
  keeps-asked PvGet flag w s = s
  keeps-asked PvGetQ flag w s = s
  keeps-asked PvPutComplete flag w s = s

  -- a tick
  pub keeps-spent : (line : ℕ) → Keeps (spent line)
  keeps-spent line w s = by w.ticks
    where
      by : (left : ℕ) → Settled (world_after (spent_of line left w))
      by zero = s
      by (suc left) = same-links w (record w { ticks = left }) refl refl refl refl s

  -- `delay`
  pub keeps-waited : (in_seconds : Bool) (z : ℤ) → Keeps (waited set in_seconds z)
  keeps-waited in_seconds z w s = by (pos (copy_of set w).entered +ℤ (if in_seconds then z *ℤ pos 1000 else z))
    where
      by : (t : ℤ) → Settled (world_after (waited_until t w))
      by t = after-test Settled (int_le t (pos w.time)) _ _ s (same-links w (record w { due = noted t w.due }) refl refl refl refl s)

  -- values into parameters
  pub keeps-bound : (ps : List Variable) (line : ℕ) (zs : List ℤ) → AreClear free l set ps → Keeps (bound set ps line zs)
  keeps-bound [] line zs clear w s = s
  keeps-bound (p ∷ ps) line [] clear w s = s
  keeps-bound (p ∷ ps) line (z ∷ zs) clear w s =
      two-steps Settled (stored set p line (pos 0) z w) (λ _ u. bound set ps line zs u) (keeps-stored p line (pos 0) clear.0 z w s) (λ _ u q. keeps-bound ps line zs clear.1 u q)

  -- how a call begins
  pub keeps-called : (ps : List Variable) (line : ℕ) (zs : List ℤ) → AreClear free l set ps → Keeps (called_with set ps line zs)
  keeps-called ps line zs clear w s = two-steps Settled (spent line w) (λ _ u. bound set ps line zs u) (keeps-spent line w s) (λ _ u q. keeps-bound ps line zs clear u q)

  -- ---- links

  -- a flag of a link is set,
  flag-comes : (flag : Option ℕ) (w : World) → Settled w → Settled (flagged flag w)
  flag-comes None w s = s
  flag-comes (Some flag) w s = same-links w _ refl refl refl refl s

  -- or cleared
  flag-goes : (flag : Option ℕ) (w : World) → Settled w → Settled (unflagged flag w)
  flag-goes None w s = s
  flag-goes (Some flag) w s = same-links w _ refl refl refl refl s

  -- another queue of a link, that can hold as much
  queue-changes : (link : ℕ) (q : Queue) (w : World) → room_in q ≡ room_in (queue_of link w) → Settled w → Settled (record w { queues = slice_set w.queues link q })
  queue-changes link q w room s = same-links w (record w { queues = slice_set w.queues link q }) (ap layout_in (queue-same link q w room)) refl refl refl s

  module _ (link : ℕ) (t : Tied) (tied : slice_get l.ties link ≡ Some t) (other : IsFree free l link t → ⊥) where
    -- each free link is another one
    differs : (number : ℕ) (r : Tied) → IsFree free l number r → number ≡ link → ⊥
    differs number r is same =
        let both : Some r ≡ Some t = sym is.tied ∙ ap (slice_get l.ties) same ∙ tied in
        let one : r ≡ t = cc in
        other (subst (λ (n : ℕ). IsFree free l n t) same (subst (IsFree free l number) one is))

    -- it is marked where it is monitored
    marks-come : (w : World) → Settled w → Settled (marked (Some set) link t w)
    marks-come w s = by t.is_monitored
      where
        by : (b : Bool) → Settled (if b then all_marked (Some set) link w else w)
        by true = record {
          laid = ap layout_in (marks-same (marked_from (Some set) link 0 w.homes w.marks) w (marked-many (Some set) link 0 w.homes w.marks)) ∙ s.laid;
          buffers = λ number r is. s.buffers number r is;
          copies = λ n number home r is at.
              ⊎_elim (λ told. inl (all-but-away (Some set) link n number 0 w.homes w.marks (differs number r is) ∙ told)) (λ same. inr same) (s.copies n number home r is at);
        }
        by false = s

    -- numbers come to its buffer
    buffer-comes : (zs : List ℤ) (w : World) → length zs ≤ t.count → Settled w → Settled (with_buffer t zs w)
    buffer-comes zs w short s = record {
      laid = ap layout_in (buffer-same t zs w) ∙ s.laid;
      buffers = λ number r is. subst (Contains (slice_index_or values number [])) (sym (away number r is)) (s.buffers number r is);
      copies = λ n number home r is at. ⊎_elim (λ told. inl told) (λ same. inr (same ∙ sym (away number r is))) (s.copies n number home r is at);
    }
      where
        away : (number : ℕ) (r : Tied) → IsFree free l number r → buffer_of r (with_buffer t zs w) ≡ buffer_of r w
        away number r is = away-from t r zs w (by (can.apart number link r t is tied (differs number r is))) short
          where
            by : StandApart r.from r.count t.from t.count → AreApart t r
            by (inl before) = inr before
            by (inr after) = inl after

    -- its elements are handed over
    hands-over : (place : ℕ) (w : World) → Settled w → Settled (handed_over set place link t w)
    hands-over place w s = flag-comes t.flag (kept_for set place link t w) (by (is_queued link w))
      where
        many : length (elements_at set place t w) ≤ t.count
        many = let is = length-words (copy_of set w).words place t.count in omega (arith, is)

        by : (b : Bool) → Settled (if b then enqueued link (copy_of set w).words place w else marked (Some set) link t (with_buffer t (elements_at set place t w) w))
        by true = queue-changes link _ w refl s
        by false = marks-come (with_buffer t (elements_at set place t w) w) (buffer-comes (elements_at set place t w) w many s)

  -- What is done at a link keeps them settled.
  abbrev KeepsAt : (place : ℕ) → OnLink → Type 0
  KeepsAt place go = (link : ℕ) (t : Tied) (w : World) → home_at l set link ≡ Some place → slice_get l.ties link ≡ Some t → Settled w → Settled (world_after (go link t w))

  -- by the link that begins at a word
  at-word : (none : ℤ) (go : OnLink) (place : ℕ) → KeepsAt place go → Keeps (at_link none go set place)
  at-word none go place keeps w s = number (link_at set place w) refl
    where
      tie : (link : ℕ) (o : Option Tied) → home_at l set link ≡ Some place → slice_get w.ties link ≡ o → Settled (world_after (at_tie none go link o w))
      tie link None home is = s
      tie link (Some t) home is = keeps link t w home (ap (λ (x : Layout). slice_get x.ties link) (sym s.laid) ∙ is) s

      number : (o : Option ℕ) → link_at set place w ≡ o → Settled (world_after (at_number none go o w))
      number None is = s
      number (Some link) is =
          let found = home-from (slice_index_or w.homes set []) place 0 link is in
          let same : found.0 ≡ link = let sum = found.1 in omega (arith, sum) in
          tie link (slice_get w.ties link)
          (ap (λ (x : Layout). home_at x set link) (sym s.laid) ∙ ap (λ (n : ℕ). slice_index_or (slice_index_or w.homes set []) n None) (sym same) ∙ found.2) refl

  -- `pvPut` of a link
  puts-by : (async : Bool) (place link : ℕ) (t : Tied) (channel : Option ℕ) (w : World) → t.channel ≡ channel → slice_get l.ties link ≡ Some t → Settled w →
      Settled (world_after (put_by async set place link t channel w))
  puts-by async place link t None w none tied s = hands-over link t tied (λ is. can.heard link t is none) place w s
  puts-by false place link t (Some channel) w some tied s = after-test Settled (slice_index_or w.ups channel false) _ _ s s
  puts-by true place link t (Some channel) w some tied s =
      after-test Settled (slice_index_or w.ups channel false) _ _ (after-test Settled (is_waiting link w) _ _ s (same-links w _ refl refl refl refl s)) s

  -- of an element
  pub keeps-put : (async : Bool) (v : Variable) (k : ℤ) → Keeps (put_element async set v k)
  keeps-put async v k =
      at-word (negsuc 0) (λ link t. put_by async set (element_place v (natural k)) link t t.channel) (element_place v (natural k))
      (λ link t w home tied s. puts-by async (element_place v (natural k)) link t t.channel w refl tied s)

  -- what is asked or told of a link
  asks-of : (query : Query) (place : ℕ) → IsNoTaking query → KeepsAt place (asked_of query set place)
  asks-of PvGet place takes-none link t w home tied s =
      after-test Settled (is_readable t.channel w) _ _ (filled-settled free values l can set link t tied w s place home) s
  asks-of PvGetQ place takes-none link t w home tied s = absurd takes-none
  asks-of PvFlushQ place takes-none link t w home tied s = flag-goes t.flag (with_items link [] w) (queue-changes link (record (queue_of link w) { items = [] }) w refl s)
  asks-of PvConnected place takes-none link t w home tied s = s
  asks-of PvPutComplete place takes-none link t w home tied s = s
  asks-of PvChannelCount place takes-none link t w home tied s = s
  asks-of PvConnectCount place takes-none link t w home tied s = s
  asks-of EfClear place takes-none link t w home tied s = s
  asks-of EfSet place takes-none link t w home tied s = s
  asks-of EfTest place takes-none link t w home tied s = s
  asks-of EfTestAndClear place takes-none link t w home tied s = s

  -- of an element
  pub keeps-ask : (query : Query) (v : Variable) (k : ℤ) → IsNoTaking query → Keeps (ask_element query set v k)
  keeps-ask query v k takes-none = at-word (unlinked query) (asked_of query set (element_place v (natural k))) (element_place v (natural k)) (asks-of query (element_place v (natural k)) takes-none)
