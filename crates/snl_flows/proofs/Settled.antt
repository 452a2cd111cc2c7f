-- A refresh, a state that is entered, and values of channels keep links settled.
use Rattle.std.proofs.Common.{◌≡◌, ◌∙◌, ◌⊎◌, ◌+◌, ◌≤◌, ◌<◌, inl, inr, ⊎_elim, refl, sym, ap, subst, arith, ℕ, zero, suc, ℤ, pos, Bool, true, false, List, [], ◌∷◌, Option, None, Some, length, map, slice_get, take, get_or-set_other, if◌then◌else◌}
use Rattle.std.specs.Prelude.{Contains, nat_lt, slice_index_or, slice_set}
use Rattle.std.proofs.lemmas.Bool.{cases_order}
use Rattle.std.proofs.lemmas.List.{length-map, length-take-le}
use Rattle.snl_machine.proofs.Buffers.{AreApart, away-from}
use Rattle.snl_machine.proofs.Cells.{elements-written, overwritten-away, overwritten-there, words-same}
use Rattle.snl_machine.proofs.Filling.{take-few}
use Rattle.snl_machine.proofs.Fitting.{set-index}
use Rattle.snl_machine.proofs.Marked.{all-own, from-away, mark-away}
use Rattle.snl_machine.proofs.Queued.{length-words}
use Rattle.snl_meaning.specs.declared.ties.Tied.{Tied}
use Rattle.snl_meaning.specs.Frames.{room_in}
use Rattle.snl_meaning.specs.Links.{all_marked, announced, buffer_of, elements_at, enqueued, flagged, home_of, is_queued, no_queue, noticed, queue_of, with_buffer, with_elements}
use Rattle.snl_meaning.specs.World.{SetMemory, World, copy_of, no_copy, overwritten, with_copy, words_at}
use Rattle.snl_meaning.proofs.Frames.{buffer-same, copy-same, elements-same, marks-same, queue-same}
use Rattle.snl_meaning.proofs.Sizes.{mark-many, marked-many}
use Rattle.snl_schedule.specs.Arrivals.{is_of, received_link}
use Rattle.snl_schedule.specs.Refresh.{copied_to, is_marked, refreshed, refreshed_from, refreshed_link, with_mark}
use Rattle.snl_schedule.specs.Turn.{entered_in}
use Rattle.snl_alike.specs.OneRun.{IsKeptInRuns}
use Rattle.snl_alike.specs.TwoRuns.{Common, with_common}
use Rattle.snl_flows.specs.Settled.{AreKnown, CanBeFree, IsFree, IsSettled, Layout, StandApart, home_at, layout_in, layout_of}

-- ---- words, marks and queues

-- two numbers are one, or are not
pub one-or-not : (a b : ℕ) → (a ≡ b) ⊎ (a ≡ b → ⊥)
one-or-not a b = by (cases_order a b)
  where
    by : (a ≡ b) ⊎ ((a < b) ⊎ (b < a)) → (a ≡ b) ⊎ (a ≡ b → ⊥)
    by (inl same) = inl same
    by (inr (inl less)) = inr (λ (same : a ≡ b). omega (arith, same, less))
    by (inr (inr more)) = inr (λ (same : a ≡ b). omega (arith, same, more))

-- an element of a list of what is looked at
pub look-at : {A B : Type 0} (look : A → B) (xs : List A) (i : ℕ) (d : A) → slice_index_or (map look xs) i (look d) ≡ look (slice_index_or xs i d)
look-at look [] i d = refl
look-at look (x ∷ xs) zero d = refl
look-at look (x ∷ xs) (suc i) d = look-at look xs i d

-- a word of a copy, where numbers come to one elsewhere
pub word-away : (set place : ℕ) (zs : List ℤ) (other q : ℕ) (w : World) → ((other ≡ set) → (q < place) ⊎ (place + length zs ≤ q)) →
    slice_index_or (copy_of other (with_elements set place zs w)).words q (pos 0) ≡ slice_index_or (copy_of other w).words q (pos 0)
word-away set place zs other q w out = by (set-index w.copies set other new no_copy)
  where
    new : SetMemory
    new = record (copy_of set w) { words = overwritten (copy_of set w).words place zs }

    by : (copy_of other (with_elements set place zs w) ≡ copy_of other w) ⊎ ((set ≡ other) × (copy_of other (with_elements set place zs w) ≡ new)) →
        slice_index_or (copy_of other (with_elements set place zs w)).words q (pos 0) ≡ slice_index_or (copy_of other w).words q (pos 0)
    by (inl same) = ap (λ (c : SetMemory). slice_index_or c.words q (pos 0)) same
    by (inr own) =
        ap (λ (c : SetMemory). slice_index_or c.words q (pos 0)) own.1 ∙ overwritten-away zs (copy_of set w).words place q (out (sym own.0))
        ∙ ap (λ (n : ℕ). slice_index_or (copy_of n w).words q (pos 0)) own.0

-- the words of a copy, where one comes in the place of another one with the same
words-stay : (set other : ℕ) (c : SetMemory) (w : World) → c.words ≡ (copy_of set w).words → (copy_of other (with_copy set c w)).words ≡ (copy_of other w).words
words-stay set other c w same = by (set-index w.copies set other c no_copy)
  where
    by : (copy_of other (with_copy set c w) ≡ copy_of other w) ⊎ ((set ≡ other) × (copy_of other (with_copy set c w) ≡ c)) →
        (copy_of other (with_copy set c w)).words ≡ (copy_of other w).words
    by (inl same) = ap (λ (x : SetMemory). x.words) same
    by (inr own) = ap (λ (x : SetMemory). x.words) own.1 ∙ same ∙ ap (λ (n : ℕ). (copy_of n w).words) own.0

-- a mark, where one of another link, or of another state set, is cleared
mark-stays : (set number other link : ℕ) (w : World) → ((other ≡ set) × (link ≡ number) → ⊥) → is_marked other link (with_mark set number false w) ≡ is_marked other link w
mark-stays set number other link w not = by (one-or-not link number)
  where
    by : (link ≡ number) ⊎ (link ≡ number → ⊥) → is_marked other link (with_mark set number false w) ≡ is_marked other link w
    by (inr elsewhere) = mark-away w.marks set other number link false elsewhere
    by (inl same) = ap (λ (row : List Bool). slice_index_or row link false)
        (get_or-set_other w.marks set other (slice_set (slice_index_or w.marks set []) number false) [] (λ (own : other ≡ set). not (own, same)))

module _ (free : List ℕ) (values : List (List (List ℤ))) (l : Layout) (can : CanBeFree free l) where
  -- links are settled
  abbrev Settled : World → Type 0
  Settled = IsSettled free values l

  -- ---- what does not come to links

  -- what two runs have in common is another one
  changed : (r : Common) (w : World) → r.homes ≡ w.homes → r.ties ≡ w.ties → r.channels ≡ w.channels → map room_in r.queues ≡ map room_in w.queues → Settled w → Settled (with_common r w)
  changed r w homes ties channels queues s = record {
    laid = ap (λ (x : List (List (Option ℕ))). record (layout_of (with_common r w)) { homes = x }) homes
        ∙ ap (λ (x : List Tied). record (layout_of (with_common r w)) { homes = w.homes; ties = x }) ties
        ∙ ap (λ (x : List (List ℕ)). record (layout_of (with_common r w)) { homes = w.homes; ties = w.ties; channels = x }) channels
        ∙ ap (λ (x : List (ℕ × ℕ)). record (layout_of w) { rooms = x }) queues ∙ s.laid;
    buffers = λ link t is. s.buffers link t is;
    copies = λ set link home t is has. s.copies set link home t is has;
  }

  -- a state is entered
  entered : (set state : ℕ) (is_timed : Bool) (w : World) → Settled w → Settled (entered_in set state is_timed w)
  entered set state is_timed w s = record {
    laid = ap layout_in (copy-same set now w refl) ∙ s.laid;
    buffers = λ link t is. s.buffers link t is;
    copies = λ other link home t is has.
        ⊎_elim (λ marked. inl marked) (λ same. inr (ap (λ (words : List ℤ). words_at words home t.count) (words-stay set other now w refl) ∙ same)) (s.copies other link home t is has);
  }
    where
      now : SetMemory
      now = record (copy_of set w) { state = state; entered = if is_timed then w.time else (copy_of set w).entered }

  -- ---- the refresh

  module _ (set number : ℕ) (t : Tied) (tied : slice_get l.ties number ≡ Some t) (w : World) (s : Settled w) where
    -- the link's own mark is cleared, where the copy has what the buffer has, and others have what they had
    unmarked : (v : World) → layout_of v ≡ l → v.buffers ≡ w.buffers → v.marks ≡ w.marks →
        ((home : ℕ) → IsFree free l number t → home_at l set number ≡ Some home → elements_at set home t v ≡ buffer_of t v) →
        ((other link home : ℕ) (r : Tied) → IsFree free l link r → home_at l other link ≡ Some home → ((other ≡ set) × (link ≡ number) → ⊥) → elements_at other home r v ≡ elements_at other home r w) →
        Settled (with_mark set number false v)
    unmarked v laid buffers marks own others = record {
      laid = ap layout_in (marks-same (slice_set v.marks set (slice_set (slice_index_or v.marks set []) number false)) v (mark-many set number false v.marks)) ∙ laid;
      buffers = λ link r is. subst (λ (words : List ℤ). Contains (slice_index_or values link []) (words_at words r.from r.count)) (sym buffers) (s.buffers link r is);
      copies = λ other link home r is has. by other link home r is has (one-or-not other set) (one-or-not link number);
    }
      where
        away : (other link home : ℕ) (r : Tied) → IsFree free l link r → home_at l other link ≡ Some home → ((other ≡ set) × (link ≡ number) → ⊥) →
            (is_marked other link (with_mark set number false v) ≡ true) ⊎ (elements_at other home r v ≡ buffer_of r v)
        away other link home r is has not =
            ⊎_elim
            (λ marked. inl (mark-stays set number other link v not ∙ ap (λ (rows : List (List Bool)). slice_index_or (slice_index_or rows other []) link false) marks ∙ marked))
            (λ same. inr (others other link home r is has not ∙ same ∙ ap (λ (words : List ℤ). words_at words r.from r.count) (sym buffers)))
            (s.copies other link home r is has)

        by : (other link home : ℕ) (r : Tied) → IsFree free l link r → home_at l other link ≡ Some home → (other ≡ set) ⊎ (other ≡ set → ⊥) → (link ≡ number) ⊎ (link ≡ number → ⊥) →
            (is_marked other link (with_mark set number false v) ≡ true) ⊎ (elements_at other home r v ≡ buffer_of r v)
        by other link home r is has (inr elsewhere) which = away other link home r is has (λ both. elsewhere both.0)
        by other link home r is has (inl here) (inr another) = away other link home r is has (λ both. another both.1)
        by other link home r is has (inl here) (inl same) =
            let both : Some r ≡ Some t = sym is.tied ∙ ap (slice_get l.ties) same ∙ tied in
            let one : r ≡ t = cc in
            let mine : IsFree free l number t = subst (λ (n : ℕ). IsFree free l n t) same (subst (IsFree free l link) one is) in
            let at : home_at l set number ≡ Some home = ap (λ (n : ℕ). home_at l n number) (sym here) ∙ ap (home_at l other) (sym same) ∙ has in
            inr (subst (λ (x : Tied). elements_at other home x v ≡ buffer_of x v) (sym one)
            (subst (λ (n : ℕ). elements_at n home t v ≡ buffer_of t v) (sym here) (own home mine at)))

    -- the buffer of the link comes to a copy
    module _ (place : ℕ) (at : home_at l set number ≡ Some place) where
      -- the world in which it came
      abbrev filled : World
      filled = with_elements set place (buffer_of t w) w

      -- how many words it has
      many : length (buffer_of t w) ≡ t.count
      many = length-words w.buffers t.from t.count

      -- the words of the link
      filled-own : (home : ℕ) → IsFree free l number t → home_at l set number ≡ Some home → elements_at set home t filled ≡ buffer_of t filled
      filled-own home is has =
          let both : Some home ≡ Some place = sym has ∙ at in
          let one : home ≡ place = cc in
          let room = can.roomy set number place t is at in
          let copies : set < length w.copies = subst (λ (n : ℕ). set < n) (length-map w.copies (λ (c : SetMemory). length c.words))
          (subst (λ (x : Layout). set < length x.words) (sym s.laid) room.0) in
          let long : slice_index_or l.words set 0 ≡ length (copy_of set w).words =
          ap (λ (x : Layout). slice_index_or x.words set 0) (sym s.laid) ∙ look-at (λ (c : SetMemory). length c.words) w.copies set no_copy in
          let fits : place + length (buffer_of t w) ≤ length (copy_of set w).words = let enough = room.1 in omega (arith, enough, long, many) in
          ap (λ (n : ℕ). elements_at set n t filled) one ∙ ap (words_at (copy_of set filled).words place) (sym many) ∙ (elements-written set place (buffer_of t w) w (copies, fits)).there

      -- those of others
      filled-others : (other link home : ℕ) (r : Tied) → IsFree free l link r → home_at l other link ≡ Some home → ((other ≡ set) × (link ≡ number) → ⊥) →
          elements_at other home r filled ≡ elements_at other home r w
      filled-others other link home r is has not =
          words-same (copy_of other filled).words (copy_of other w).words home r.count (λ j less. word-away set place (buffer_of t w) other (home + j) w (λ here. by j less here
          (can.alone set link number home place r t is tied (subst (λ (n : ℕ). home_at l n link ≡ Some home) here has) at (λ same. not (here, same)))))
        where
          by : (j : ℕ) → j < r.count → (other ≡ set) → StandApart home r.count place t.count → (home + j < place) ⊎ (place + length (buffer_of t w) ≤ home + j)
          by j less here (inl before) = inl (omega (arith, less, before))
          by j less here (inr behind) = inr (omega (arith, behind, many))

      -- what is behind it
      pub filled-settled : Settled filled
      filled-settled = record {
        laid = ap layout_in (elements-same set place (buffer_of t w) w) ∙ s.laid;
        buffers = λ link r is. s.buffers link r is;
        copies = λ other link home r is has. by other link home r is has (one-or-not other set) (one-or-not link number);
      }
        where
          away : (other link home : ℕ) (r : Tied) → IsFree free l link r → home_at l other link ≡ Some home → ((other ≡ set) × (link ≡ number) → ⊥) →
              (is_marked other link w ≡ true) ⊎ (elements_at other home r filled ≡ buffer_of r w)
          away other link home r is has not = ⊎_elim (λ told. inl told) (λ same. inr (filled-others other link home r is has not ∙ same)) (s.copies other link home r is has)

          by : (other link home : ℕ) (r : Tied) → IsFree free l link r → home_at l other link ≡ Some home → (other ≡ set) ⊎ (other ≡ set → ⊥) → (link ≡ number) ⊎ (link ≡ number → ⊥) →
              (is_marked other link w ≡ true) ⊎ (elements_at other home r filled ≡ buffer_of r w)
          by other link home r is has (inr elsewhere) which = away other link home r is has (λ both. elsewhere both.0)
          by other link home r is has (inl here) (inr another) = away other link home r is has (λ both. another both.1)
          by other link home r is has (inl here) (inl same) =
              let both : Some r ≡ Some t = sym is.tied ∙ ap (slice_get l.ties) same ∙ tied in
              let one : r ≡ t = cc in
              let mine : IsFree free l number t = subst (λ (n : ℕ). IsFree free l n t) same (subst (IsFree free l link) one is) in
              let own : home_at l set number ≡ Some home = ap (λ (n : ℕ). home_at l n number) (sym here) ∙ ap (home_at l other) (sym same) ∙ has in
              inr (subst (λ (x : Tied). elements_at other home x filled ≡ buffer_of x w) (sym one)
              (subst (λ (n : ℕ). elements_at n home t filled ≡ buffer_of t w) (sym here) (filled-own home mine own)))

    -- a link
    refreshed-one : Settled (refreshed_link set number t w)
    refreshed-one = by (is_marked set number w) (home_of set number w) (ap (λ (x : Layout). home_at x set number) (sym s.laid))
      where
        by : (b : Bool) (home : Option ℕ) → home_at l set number ≡ home → Settled (if b then with_mark set number false (copied_to set home t w) else w)
        by false home is = s
        by true None none = unmarked w s.laid refl refl (λ home is has. let both : None ≡ Some home = sym none ∙ has in absurd (cc)) (λ other link home r is has not. refl)
        by true (Some place) at =
            unmarked (filled place at) (ap layout_in (elements-same set place (buffer_of t w) w) ∙ s.laid) refl refl (filled-own place at) (filled-others place at)

  -- links from a number on
  refreshed-links : (set number : ℕ) (ts : List Tied) → ((i : ℕ) → slice_get ts i ≡ slice_get l.ties (number + i)) → (w : World) → Settled w → Settled (refreshed_from set number ts w)
  refreshed-links set number [] here w s = s
  refreshed-links set number (t ∷ ts) here w s =
      let tied : slice_get l.ties number ≡ Some t = ap (slice_get l.ties) (let k : number ≡ number + 0 = omega arith in k) ∙ sym (here 0) in
      refreshed-links set (number + 1) ts (λ i. here (suc i) ∙ ap (slice_get l.ties) (let k : number + suc i ≡ number + 1 + i = omega arith in k)) (refreshed_link set number t w)
      (refreshed-one set number t tied w s)

  -- all of them
  refreshed-all : (set : ℕ) (w : World) → Settled w → Settled (refreshed set w)
  refreshed-all set w s =
      refreshed-links set 0 w.ties (λ i. ap (λ (x : Layout). slice_get x.ties i) s.laid ∙ ap (slice_get l.ties) (let k : i ≡ 0 + i = omega arith in k)) w s

  -- ---- values of a channel

  module _ (channel : ℕ) (zs : List ℤ) (number : ℕ) (t : Tied) (known : AreKnown free values l channel zs) (tied : slice_get l.ties number ≡ Some t) (of : is_of channel t ≡ true)
      (w : World) (s : Settled w) where
    -- the world in which they came
    abbrev come : World
    come = with_buffer t (take t.count zs) w

    -- another link has what it had
    come-others : (link : ℕ) (r : Tied) → IsFree free l link r → (link ≡ number → ⊥) → buffer_of r come ≡ buffer_of r w
    come-others link r is not = away-from t r (take t.count zs) w (by (can.apart link number r t is tied not)) (take-few t.count zs)
      where
        by : StandApart r.from r.count t.from t.count → AreApart t r
        by (inl before) = inr before
        by (inr behind) = inl behind

    -- the link itself has one of its values, if it is free
    come-own : IsFree free l number t → Contains (slice_index_or values number []) (buffer_of t come)
    come-own is =
        let fills = known number t is of in
        let many : length (take t.count zs) ≡ t.count = length-take-le t.count zs fills.0 in
        let lies = can.within number t is in
        let room : l.buffers ≡ length w.buffers = ap (λ (x : Layout). x.buffers) (sym s.laid) in
        let there : words_at come.buffers t.from (length (take t.count zs)) ≡ take t.count zs = overwritten-there (take t.count zs) w.buffers t.from (omega (arith, lies, room, many)) in
        subst (Contains (slice_index_or values number [])) (sym (ap (words_at come.buffers t.from) (sym many) ∙ there)) fills.1

    -- what is so behind it, if the link is marked for each copy that has its variable, and marks of others stay
    told : (v : World) → layout_of v ≡ l → v.buffers ≡ come.buffers → v.copies ≡ w.copies →
        ((set link : ℕ) → (link ≡ number → ⊥) → is_marked set link v ≡ is_marked set link w) →
        ((set home : ℕ) → IsFree free l number t → home_at l set number ≡ Some home → is_marked set number v ≡ true) → Settled v
    told v laid buffers copies others own = record {
      laid = laid;
      buffers = λ link r is. subst (λ (words : List ℤ). Contains (slice_index_or values link []) (words_at words r.from r.count)) (sym buffers) (has link r is (one-or-not link number));
      copies = λ set link home r is at. by set link home r is at (one-or-not link number);
    }
      where
        -- a link of the number is this one
        mine : (link : ℕ) (r : Tied) → IsFree free l link r → link ≡ number → r ≡ t
        mine link r is same = let both : Some r ≡ Some t = sym is.tied ∙ ap (slice_get l.ties) same ∙ tied in cc

        has : (link : ℕ) (r : Tied) → IsFree free l link r → (link ≡ number) ⊎ (link ≡ number → ⊥) → Contains (slice_index_or values link []) (buffer_of r come)
        has link r is (inr another) = subst (Contains (slice_index_or values link [])) (sym (come-others link r is another)) (s.buffers link r is)
        has link r is (inl same) =
            subst (λ (x : Tied). Contains (slice_index_or values link []) (buffer_of x come)) (sym (mine link r is same))
            (subst (λ (n : ℕ). Contains (slice_index_or values n []) (buffer_of t come)) (sym same)
            (come-own (subst (λ (n : ℕ). IsFree free l n t) same (subst (IsFree free l link) (mine link r is same) is))))

        by : (set link home : ℕ) (r : Tied) → IsFree free l link r → home_at l set link ≡ Some home → (link ≡ number) ⊎ (link ≡ number → ⊥) →
            (is_marked set link v ≡ true) ⊎ (elements_at set home r v ≡ buffer_of r v)
        by set link home r is at (inl same) =
            inl (ap (λ (n : ℕ). is_marked set n v) same ∙ own set home (subst (λ (n : ℕ). IsFree free l n t) same (subst (IsFree free l link) (mine link r is same) is))
            (ap (home_at l set) (sym same) ∙ at))
        by set link home r is at (inr another) =
            ⊎_elim (λ marked. inl (others set link another ∙ marked))
            (λ same. inr (ap (λ (cs : List SetMemory). words_at (slice_index_or cs set no_copy).words home r.count) copies ∙ same ∙ sym (come-others link r is another)
            ∙ ap (λ (words : List ℤ). words_at words r.from r.count) (sym buffers)))
            (s.copies set link home r is at)

    -- the layout of the world in which they came
    come-laid : layout_of come ≡ l
    come-laid = ap layout_in (buffer-same t (take t.count zs) w) ∙ s.laid

    -- what is announced
    announced-one : t.is_monitored ≡ true → Settled (announced number t come)
    announced-one monitored = by (is_queued number come) refl
      where
        -- how much the queue of a free link can hold
        none : IsFree free l number t → is_queued number come ≡ false
        none is =
            let room : (slice_index_or l.rooms number (0, 0)).0 ≡ (queue_of number w).size =
            ap (λ (x : Layout). (slice_index_or x.rooms number (0, 0)).0) (sym s.laid) ∙ ap (λ (x : ℕ × ℕ). x.0) (look-at room_in w.queues number no_queue) in
            ap (nat_lt 0) (sym room ∙ can.queueless number t is)

        by : (b : Bool) → is_queued number come ≡ b → Settled (if b then enqueued number come.buffers t.from come else all_marked None number come)
        by true queued =
            told (enqueued number come.buffers t.from come) (ap layout_in (queue-same number _ come refl) ∙ come-laid) refl refl (λ set link another. refl)
            (λ set home is at. let both : true ≡ false = sym queued ∙ none is in absurd (cc))
        by false queued =
            told (all_marked None number come) (ap layout_in (marks-same _ come (marked-many None number 0 come.homes come.marks)) ∙ come-laid) refl refl
            (λ set link another. from-away number set link 0 come.homes come.marks another)
            (λ set home is at. all-own set number home come (ap (λ (x : Layout). home_at x set number) come-laid ∙ at)
            (subst (λ (n : ℕ). number < n) (ap (λ (x : Layout). slice_index_or x.marks set 0) (sym s.laid) ∙ look-at (length {A = Bool}) w.marks set []) (can.marked set number home t is at)))

    -- what is noticed, where it is monitored
    noticed-one : Settled (noticed number t come)
    noticed-one = by t.is_monitored t.flag refl
      where
        by : (b : Bool) (flag : Option ℕ) → t.is_monitored ≡ b → Settled (if b then flagged flag (announced number t come) else come)
        by false flag is =
            told come come-laid refl refl (λ set link another. refl) (λ set home one at. let both : true ≡ false = sym (can.monitored number t one) ∙ is in absurd (cc))
        by true None is = announced-one is
        by true (Some flag) is =
            let a = announced-one is in
            record { laid = a.laid; buffers = λ link r one. a.buffers link r one; copies = λ set link home r one at. a.copies set link home r one at }

  -- values come at a link
  pub received-one : (channel : ℕ) (zs : List ℤ) (number : ℕ) (t : Tied) (w : World) → AreKnown free values l channel zs → slice_get l.ties number ≡ Some t → Settled w →
      Settled (received_link channel zs number t w)
  received-one channel zs number t w known tied s = by (is_of channel t) refl
    where
      by : (b : Bool) → is_of channel t ≡ b → Settled (if b then noticed number t (with_buffer t (take t.count zs) w) else w)
      by false of = s
      by true of = noticed-one channel zs number t known tied of w s

  -- ---- all steps

  -- all steps of a run keep links settled
  pub settled-in-runs : (sets : ℕ) → 0 < sets → IsKeptInRuns sets Settled
  settled-in-runs sets some = record {
    some = some;
    changes = changed;
    refreshes = λ set low w s. refreshed-all set w s;
    enters = λ set state is_timed low w s. entered set state is_timed w s;
    clocks = λ time wake due w s. record { laid = s.laid; buffers = λ link t is. s.buffers link t is; copies = λ set link home t is at. s.copies set link home t is at };
  }
