-- What values of a channel that come do at each link: to its buffer, its queue, its marks and its event flag.
use Rattle.std.proofs.Common.{◌≡◌, ◌∙◌, ◌+◌, ◌<◌, ◌≤◌, ◌⊎◌, inl, inr, refl, sym, ap, arith, true≢false, ℕ, zero, suc, ℤ, Bool, true, false, nat_lt, List, [], ◌∷◌, ◌++◌, Option, None, Some, slice_get, length, take, drop, get_or-set_same, get_or-set_other, if◌then◌else◌}
use Rattle.std.specs.Prelude.{◌-◌, ◌^◌, slice_set, slice_index_or}
use Rattle.std.proofs.lemmas.Bool.{cond-true, cond-false}
use Rattle.snl_syntax.specs.Programs.{ProgramTree}
use Rattle.snl_channels.specs.Links.{Link}
use Rattle.snl_load.specs.Places.{ties_in}
use Rattle.snl_machine.specs.Ranges.{counts}
use Rattle.snl_machine.specs.Layout.{IsMonitored, HasMark, QueueAndMarksStay, FeedsFillBuffers}
use Rattle.snl_machine.proofs.Buffers.{AreApart, tie-lies, ties-apart, away-from, links-keep, stay, among, Filled, filled-among, all-apart-stay}
use Rattle.snl_machine.proofs.Cells.{overwritten-front}
use Rattle.snl_machine.proofs.Filling.{take-few}
use Rattle.snl_machine.proofs.Fitting.{set-index}
use Rattle.snl_machine.proofs.Marked.{from-away, all-many, all-last, all-without, all-own}
use Rattle.snl_meaning.specs.declared.ties.Tied.{Tied}
use Rattle.snl_meaning.specs.Links.{home_of, buffer_of, with_buffer, queue_of, no_queue, is_queued, enqueued, put_into, flagged, announced, all_marked}
use Rattle.snl_meaning.specs.Queues.{put_in}
use Rattle.snl_meaning.specs.World.{Queue, World, words_at, is_set, with_flag}
use Rattle.snl_meaning.proofs.Sizes.{set-many, overwritten-many}
use Rattle.snl_schedule.specs.Arrivals.{is_of, received_link, received_from}
use Rattle.snl_schedule.specs.Refresh.{is_marked}

-- ---- queues

-- an item leaves the size of each queue
enqueued-size : (i link place : ℕ) (words : List ℤ) (w : World) → (queue_of i (enqueued link words place w)).size ≡ (queue_of i w).size
enqueued-size i link place words w = by (set-index w.queues link i new no_queue)
  where
    new : Queue
    new = put_into words place (queue_of link w)

    by : (queue_of i (enqueued link words place w) ≡ queue_of i w) ⊎ ((link ≡ i) × (queue_of i (enqueued link words place w) ≡ new)) →
        (queue_of i (enqueued link words place w)).size ≡ (queue_of i w).size
    by (inl same) = ap (λ (q : Queue). q.size) same
    by (inr own) = ap (λ (q : Queue). q.size) own.1 ∙ ap (λ (n : ℕ). (queue_of n w).size) own.0

-- so a link has a queue as before
enqueued-has : (i link place : ℕ) (words : List ℤ) (w : World) → is_queued i (enqueued link words place w) ≡ is_queued i w
enqueued-has i link place words w = ap (nat_lt 0) (enqueued-size i link place words w)

-- a link that has a queue is one of those
queue-within : (queues : List Queue) (i : ℕ) → nat_lt 0 (slice_index_or queues i no_queue).size ≡ true → i < length queues
queue-within [] i some = absurd (true≢false (sym some))
queue-within (q ∷ queues) zero some = omega arith
queue-within (q ∷ queues) (suc i) some = let within = queue-within queues i some in omega (arith, within)

-- ---- a monitored link of the channel

-- what an event flag leaves
flagged-leaves : {A : Type 0} (look : World → A) → ((flag : ℕ) (v : World) → look (with_flag flag true v) ≡ look v) → (flag : Option ℕ) (w : World) → look (flagged flag w) ≡ look w
flagged-leaves look leaves None w = refl
flagged-leaves look leaves (Some flag) w = leaves flag w

module _ (channel : ℕ) (values : List ℤ) (number : ℕ) (t : Tied) (w : World) (own : is_of channel t ≡ true) (on : t.is_monitored ≡ true) where
  -- the world in which the values are in its buffer
  abbrev there : World
  there = with_buffer t (take t.count values) w

  -- that is announced, and its event flag is set
  told : received_link channel values number t w ≡ flagged t.flag (announced number t there)
  told = cond-true (is_of channel t) _ w own ∙ cond-true t.is_monitored (flagged t.flag (announced number t there)) there on

  -- with a queue, what its event flag leaves is as after an item came
  told-queued : {A : Type 0} (look : World → A) → ((flag : ℕ) (v : World) → look (with_flag flag true v) ≡ look v) → is_queued number w ≡ true →
      look (received_link channel values number t w) ≡ look (enqueued number there.buffers t.from there)
  told-queued look leaves some =
      ap look told ∙ flagged-leaves look leaves t.flag (announced number t there)
      ∙ ap look (cond-true (is_queued number there) (enqueued number there.buffers t.from there) (all_marked None number there) some)

  -- with none, as after it was marked
  told-marked : {A : Type 0} (look : World → A) → ((flag : ℕ) (v : World) → look (with_flag flag true v) ≡ look v) → is_queued number w ≡ false →
      look (received_link channel values number t w) ≡ look (all_marked None number there)
  told-marked look leaves none =
      ap look told ∙ flagged-leaves look leaves t.flag (announced number t there)
      ∙ ap look (cond-false (is_queued number there) (enqueued number there.buffers t.from there) (all_marked None number there) none)

  -- its item is its buffer
  told-item : t.from + t.count ≤ length w.buffers → is_queued number w ≡ true → let q = queue_of number w in q.width ≡ t.count →
      queue_of number (received_link channel values number t w) ≡ record q { items = put_in q.size (Filled values t w) q.items }
  told-item within some wide =
      let q = queue_of number w in
      told-queued (queue_of number) (λ flag v. refl) some
      ∙ get_or-set_same w.queues number (put_into there.buffers t.from q) no_queue (queue-within w.queues number some)
      ∙ ap (λ (n : ℕ). record q { items = put_in q.size (words_at there.buffers t.from n) q.items }) wide
      ∙ ap (λ (item : List ℤ). record q { items = put_in q.size item q.items }) (overwritten-front (take t.count values) w.buffers t.from t.count (take-few t.count values) within)

  -- its event flag is set
  told-flag : (flag : ℕ) → t.flag ≡ Some flag → flag < length w.flags → is_set flag (received_link channel values number t w) ≡ true
  told-flag flag has within =
      ap (is_set flag) told ∙ ap (λ (o : Option ℕ). is_set flag (flagged o (announced number t there))) has
      ∙ get_or-set_same (announced number t there).flags flag true false (let many = flags (is_queued number there) in omega (arith, within, many))
    where
      flags : (b : Bool) → length (if b then enqueued number there.buffers t.from there else all_marked None number there).flags ≡ length w.flags
      flags true = refl
      flags false = refl

-- ---- feeds

module _ (p : ProgramTree) (ls : List Link) (channel : ℕ) (values : List ℤ) where
  -- the world after the feed
  abbrev fed : World → World
  fed w = received_from channel values 0 (ties_in p ls) w

  -- no monitored link of the channel has a number
  abbrev IsUntold : ℕ → Type 0
  IsUntold i = (j : ℕ) (r : Tied) → IsMonitored p ls channel j r → i ≡ j → ⊥

  -- two links with one number are one
  one-link : (i j : ℕ) (t r : Tied) → slice_get (ties_in p ls) i ≡ Some t → slice_get (ties_in p ls) j ≡ Some r → i ≡ j → t ≡ r
  one-link i j t r is_t is_r e =
      let both : Some t ≡ Some r = sym is_t ∙ ap (slice_get (ties_in p ls)) e ∙ is_r in
      cc

  -- a link that is not of the channel has another number than one that is
  other-number : (i j : ℕ) (t r : Tied) → slice_get (ties_in p ls) i ≡ Some t → slice_get (ties_in p ls) j ≡ Some r → is_of channel t ≡ false → is_of channel r ≡ true → i ≡ j → ⊥
  other-number i j t r is_t is_r foreign member e = true≢false (sym member ∙ sym (ap (is_of channel) (one-link i j t r is_t is_r e)) ∙ foreign)

  -- so it has that of no monitored one
  foreign-untold : (i : ℕ) (t : Tied) → slice_get (ties_in p ls) i ≡ Some t → is_of channel t ≡ false → IsUntold i
  foreign-untold i t is foreign j r told e = other-number i j t r is told.0 foreign told.1 e

  -- nor has one that is not monitored
  unmonitored-untold : (i : ℕ) (t : Tied) → slice_get (ties_in p ls) i ≡ Some t → t.is_monitored ≡ false → IsUntold i
  unmonitored-untold i t is off j r told e = true≢false (sym told.2 ∙ sym (ap (λ (x : Tied). x.is_monitored) (one-link i j t r is told.0 e)) ∙ off)

  -- the queue and the marks of such a link
  untold-stay : (i : ℕ) (w : World) → IsUntold i → QueueAndMarksStay i w (fed w)
  untold-stay i w untold = (
    stay channel values (queue_of i) (ties_in p ls) w (λ j r at member. record {
      fills = λ u. refl;
      enqueues = λ on u some. get_or-set_other u.queues j i (put_into u.buffers r.from (queue_of j u)) no_queue (untold j r (at, member, on));
      marks = λ on u some. refl;
      signals = λ on flag u has. refl;
    }),
    λ set. stay channel values (is_marked set i) (ties_in p ls) w (λ j r at member. record {
      fills = λ u. refl;
      enqueues = λ on u some. refl;
      marks = λ on u some. from-away j set i 0 u.homes u.marks (untold j r (at, member, on));
      signals = λ on flag u has. refl;
    }),
  )

  -- one link has a queue, and another one has none
  other-queued : (i j : ℕ) (w : World) → is_queued i w ≡ true → is_queued j w ≡ false → i ≡ j → ⊥
  other-queued i j w some none e = true≢false (sym some ∙ ap (λ (n : ℕ). is_queued n w) e ∙ none)

  -- the marks of a link with a queue
  queued-marks : (i set : ℕ) (w : World) → is_queued i w ≡ true → is_marked set i (fed w) ≡ is_marked set i w
  queued-marks i set w = (links-keep channel values Stay (λ v. (refl, λ some. refl))
      (λ a b c first second. (second.0 ∙ first.0, λ some. second.1 (first.0 ∙ some) ∙ first.1 some)) 0 (ties_in p ls) w (λ j n r at is member. record {
        fills = λ v. (refl, λ some. refl);
        enqueues = λ on v is. (enqueued-has i n r.from v.buffers v, λ some. refl);
        marks = λ on v none. (refl, λ some. from-away n set i 0 v.homes v.marks (other-queued i n v some none));
        signals = λ on flag v has. (refl, λ some. refl);
      })).1
    where
      Stay : World → World → Type 0
      Stay v u = (is_queued i u ≡ is_queued i v) × (is_queued i v ≡ true → is_marked set i u ≡ is_marked set i v)

  -- the queue of a link that has none
  unqueued-stays : (i : ℕ) (w : World) → is_queued i w ≡ false → queue_of i (fed w) ≡ queue_of i w
  unqueued-stays i w = links-keep channel values Stay (λ v none. refl)
      (λ a b c first second none. second (ap (λ (q : Queue). nat_lt 0 q.size) (first none) ∙ none) ∙ first none) 0 (ties_in p ls) w (λ j n r at is member. record {
        fills = λ v none. refl;
        enqueues = λ on v some none. get_or-set_other v.queues n i (put_into v.buffers r.from (queue_of n v)) no_queue (λ (e : i ≡ n). other-queued n i v some none (sym e));
        marks = λ on v is none. refl;
        signals = λ on flag v has none. refl;
      })
    where
      Stay : World → World → Type 0
      Stay v u = is_queued i v ≡ false → queue_of i u ≡ queue_of i v

  -- the mark of a link whose variable the copy does not have
  homeless-stays : (i set : ℕ) (w : World) → home_of set i w ≡ None → is_marked set i (fed w) ≡ is_marked set i w
  homeless-stays i set w = (links-keep channel values Stay (λ v. (refl, λ none. refl))
      (λ a b c first second. (second.0 ∙ first.0, λ none. second.1 (first.0 ∙ none) ∙ first.1 none)) 0 (ties_in p ls) w (λ j n r at is member. record {
        fills = λ v. (refl, λ none. refl);
        enqueues = λ on v some. (refl, λ none. refl);
        marks = λ on v some. (refl, λ none. all-without set i n v none);
        signals = λ on flag v has. (refl, λ none. refl);
      })).1
    where
      Stay : World → World → Type 0
      Stay v u = (home_of set i u ≡ home_of set i v) × (home_of set i v ≡ None → is_marked set i u ≡ is_marked set i v)

  -- a link of the channel that is monitored and has no queue is marked
  marked-among : (i set place : ℕ) (t : Tied) (w : World) → IsMonitored p ls channel i t → is_queued i w ≡ false → home_of set i w ≡ Some place → HasMark set i w →
      is_marked set i (fed w) ≡ true
  marked-among i set place t w own none home has = among channel values Before After 0 (ties_in p ls) i i t w (let e : i ≡ 0 + i = omega arith in e) own.0
      (λ v before. told-marked channel values i t v own.1 own.2 (is_marked set i) (λ flag u. refl) before.0
      ∙ all-own set i place (with_buffer t (take t.count values) v) before.1 before.2)
      (λ j m r at is not member. (
        record {
          fills = λ v before. before;
          enqueues = λ on v some before. (enqueued-has i m r.from v.buffers v ∙ before.0, before.1, before.2);
          marks = λ on v is before. (before.0, before.1, let many = all-many set m v in let within = before.2 in omega (arith, many, within));
          signals = λ on flag v has before. before;
        },
        record {
          fills = λ v after. after;
          enqueues = λ on v some after. after;
          marks = λ on v is after. all-last set i m v after;
          signals = λ on flag v has after. after;
        },
      )) (none, home, has)
    where
      Before : World → Type 0
      Before v = (is_queued i v ≡ false) × (home_of set i v ≡ Some place) × HasMark set i v

      After : World → Type 0
      After v = is_marked set i v ≡ true

  -- the event flag of a monitored link of the channel is set
  flagged-among : (i flag : ℕ) (t : Tied) (w : World) → IsMonitored p ls channel i t → t.flag ≡ Some flag → flag < length w.flags → is_set flag (fed w) ≡ true
  flagged-among i flag t w own has within = among channel values Before After 0 (ties_in p ls) i i t w (let e : i ≡ 0 + i = omega arith in e) own.0
      (λ v before. told-flag channel values i t v own.1 own.2 flag has before)
      (λ j m r at is not member. (
        record {
          fills = λ v before. before;
          enqueues = λ on v some before. before;
          marks = λ on v none before. before;
          signals = λ on other v is before. let many = set-many v.flags other true in omega (arith, many, before);
        },
        record {
          fills = λ v after. after;
          enqueues = λ on v some after. after;
          marks = λ on v none after. after;
          signals = λ on other v is after. still v other after (set-index v.flags other flag true false);
        },
      )) within
    where
      Before : World → Type 0
      Before v = flag < length v.flags

      After : World → Type 0
      After v = is_set flag v ≡ true

      still : (v : World) (other : ℕ) → is_set flag v ≡ true →
          (is_set flag (with_flag other true v) ≡ is_set flag v) ⊎ ((other ≡ flag) × (is_set flag (with_flag other true v) ≡ true)) → is_set flag (with_flag other true v) ≡ true
      still v other after (inl same) = same ∙ after
      still v other after (inr own) = own.1

  -- an event flag of no monitored link of the channel
  flag-stays : (flag : ℕ) (w : World) → ((i : ℕ) (t : Tied) → IsMonitored p ls channel i t → t.flag ≡ Some flag → ⊥) → is_set flag (fed w) ≡ is_set flag w
  flag-stays flag w not = stay channel values (is_set flag) (ties_in p ls) w (λ j r at member. record {
    fills = λ u. refl;
    enqueues = λ on u some. refl;
    marks = λ on u some. refl;
    signals = λ on own u has. get_or-set_other u.flags own flag true false (λ (e : flag ≡ own). not j r (at, member, on) (has ∙ ap (λ (n : ℕ). Some n) (sym e)));
  })

  -- all the rest
  rest-stays : (w : World) → record (fed w) { buffers = w.buffers; queues = w.queues; marks = w.marks; flags = w.flags } ≡ w
  rest-stays w =
      stay channel values (λ (u : World). record u { buffers = w.buffers; queues = w.queues; marks = w.marks; flags = w.flags }) (ties_in p ls) w
      (λ j r at member. record { fills = λ u. refl; enqueues = λ on u some. refl; marks = λ on u some. refl; signals = λ on flag u has. refl })

  module _ (w : World) (few : counts ls ≤ 2 ^ 64 - 1) (many : length w.buffers ≡ counts ls) where
    -- the buffer of a link of the channel
    own-filled : (i : ℕ) (t : Tied) → slice_get (ties_in p ls) i ≡ Some t → is_of channel t ≡ true → buffer_of t (fed w) ≡ Filled values t w
    own-filled i t is own =
        let lies = tie-lies p ls few i t is in
        filled-among channel values 0 (ties_in p ls) i t w (ties-apart p ls few) is own (omega (arith, lies, many))

    -- that of another link
    other-buffer : (i : ℕ) (t : Tied) → slice_get (ties_in p ls) i ≡ Some t → is_of channel t ≡ false → buffer_of t (fed w) ≡ buffer_of t w
    other-buffer i t is foreign =
        all-apart-stay channel values 0 (ties_in p ls) t w
        (λ j r at member. ties-apart p ls few j i r t at is (λ (e : j ≡ i). other-number i j t r is at foreign member (sym e)))

    -- a link of the channel that is monitored and has a queue has its buffer as an item
    item-among : (i : ℕ) (t : Tied) → IsMonitored p ls channel i t → is_queued i w ≡ true → let q = queue_of i w in q.width ≡ t.count →
        queue_of i (fed w) ≡ record q { items = put_in q.size (buffer_of t (fed w)) q.items }
    item-among i t own some wide =
        among channel values Before After 0 (ties_in p ls) i i t w (let e : i ≡ 0 + i = omega arith in e) own.0 mine
        (λ j m r at is not member. (
          record {
            fills = λ v before. (
              before.0,
              away-from r t (take r.count values) v (apart j m r at is not) (take-few r.count values) ∙ before.1,
              overwritten-many (take r.count values) v.buffers r.from ∙ before.2,
            );
            enqueues = λ on v is before. (get_or-set_other v.queues m i (put_into v.buffers r.from (queue_of m v)) no_queue not ∙ before.0, before.1, before.2);
            marks = λ on v none before. before;
            signals = λ on flag v has before. before;
          },
          record {
            fills = λ v after. after;
            enqueues = λ on v is after. get_or-set_other v.queues m i (put_into v.buffers r.from (queue_of m v)) no_queue not ∙ after;
            marks = λ on v none after. after;
            signals = λ on flag v has after. after;
          },
        )) (refl, refl, refl)
        ∙ ap with_item (sym (own-filled i t own.0 own.1))
      where
        with_item : List ℤ → Queue
        with_item item = record (queue_of i w) { items = put_in (queue_of i w).size item (queue_of i w).items }

        Before : World → Type 0
        Before v = (queue_of i v ≡ queue_of i w) × (buffer_of t v ≡ buffer_of t w) × (length v.buffers ≡ length w.buffers)

        After : World → Type 0
        After v = queue_of i v ≡ with_item (Filled values t w)

        apart : (j m : ℕ) (r : Tied) → m ≡ 0 + j → slice_get (ties_in p ls) j ≡ Some r → (i ≡ m → ⊥) → AreApart r t
        apart j m r at is not = ties-apart p ls few j i r t is own.0 (λ (e : j ≡ i). not (let f : i ≡ m = omega (arith, at, e) in f))

        mine : (v : World) → Before v → After (received_link channel values i t v)
        mine v before =
            let q = before.0 in
            let lies = tie-lies p ls few i t own.0 in
            told-item channel values i t v own.1 own.2 (let now = before.2 in omega (arith, lies, many, now))
            (ap (λ (x : Queue). nat_lt 0 x.size) q ∙ some) (ap (λ (x : Queue). x.width) q ∙ wide)
            ∙ ap (λ (x : Queue). record x { items = put_in x.size (Filled values t v) x.items }) q
            ∙ ap (λ (words : List ℤ). with_item (take t.count values ++ drop (length (take t.count values)) words)) before.1

-- the law
pub feeds_fill_buffers : FeedsFillBuffers
feeds_fill_buffers p ls waits channel values w tied laid = record {
  own = λ i t is own. own-filled p ls channel values there tied.few laid.buffers i t is own;
  queued = λ i t own some. record {
    queue = λ wide. item-among p ls channel values there tied.few laid.buffers i t own some wide;
    marks = λ set. queued-marks p ls channel values i set there some;
  };
  marked = λ i t own none. record {
    marks = λ set place home has. marked-among p ls channel values i set place t there own none home has;
    others = λ set home. homeless-stays p ls channel values i set there home;
    queue = unqueued-stays p ls channel values i there none;
  };
  flagged = λ i flag t own has within. flagged-among p ls channel values i flag t there own has within;
  unmonitored = λ i t is own off. untold-stay p ls channel values i there (unmonitored-untold p ls channel values i t is off);
  others = λ i t is foreign. (
    other-buffer p ls channel values there tied.few laid.buffers i t is foreign,
    untold-stay p ls channel values i there (foreign-untold p ls channel values i t is foreign),
  );
  flags = λ flag not. flag-stays p ls channel values flag there not;
  valued = ap (λ (u : World). u.valued) (rest-stays p ls channel values there);
  rest = ap (λ (u : World). record u { valued = w.valued }) (rest-stays p ls channel values there);
}
  where
    there : World
    there = record w { valued = slice_set w.valued channel true }
