-- What comes to links comes alike to worlds that are the same but for what may differ of buffers.
use Rattle.std.proofs.Common.{◌≡◌, ◌∙◌, ◌+◌, ◌≤◌, ◌<◌, refl, sym, ap, subst, arith, ℕ, zero, suc, ℤ, Bool, true, false, List, [], ◌∷◌, Option, None, Some, length, map, slice_get, take, if◌then◌else◌}
use Rattle.std.specs.Prelude.{slice_index_or, slice_set}
use Rattle.snl_meaning.specs.declared.ties.Tied.{Tied}
use Rattle.snl_meaning.specs.Frames.{room_in}
use Rattle.snl_meaning.specs.Links.{all_marked, announced, buffer_of, enqueued, flagged, home_of, is_queued, marked_from, no_queue, noticed, put_into, queue_of, with_buffer, with_elements}
use Rattle.snl_meaning.specs.Queues.{put_in}
use Rattle.snl_meaning.specs.World.{Queue, SetMemory, World, words_at}
use Rattle.snl_meaning.proofs.Sizes.{set-alike}
use Rattle.snl_schedule.specs.Arrivals.{is_of, received_from, received_link}
use Rattle.snl_schedule.specs.Refresh.{copied_to, is_marked, refreshed, refreshed_from, refreshed_link, with_mark}
use Rattle.snl_flows.specs.Flows.{IsStaleChannel}
use Rattle.snl_flows.specs.Outside.{has}
use Rattle.snl_flows.specs.Tables.{Ground, HasLinks}
use Rattle.snl_flows.proofs.Links.{links-same}

-- so many of some numbers are no more
take-few : (n : ℕ) (zs : List ℤ) → length (take n zs) ≤ n
take-few zero zs = omega arith
take-few (suc n) [] = omega arith
take-few (suc n) (z ∷ zs) = let rest : length (take n zs) ≤ n = take-few n zs in omega (arith, rest)

-- Two worlds have the links of a program, and are the same but for their copies, for words of functions and for buffers. They stay alike
-- where all else is changed to the same, but for how far the program has come and for what links are; where the buffer of a link comes to
-- a copy that has it; and where the same numbers come to a buffer, or any to one of which all may differ. What queues get from buffers is
-- the same.
pub record KeepsStale (g : Ground) (E : World → World → Type 0) : Type 0 where
  pub links : (w u : World) → E w u → HasLinks g w
  pub same : (w u : World) → E w u → record w { copies = u.copies; shared = u.shared; buffers = u.buffers } ≡ u
  pub changes : (v w : World) (cs : List SetMemory) (xs bs : List ℤ) → v.copies ≡ w.copies → v.shared ≡ w.shared → v.buffers ≡ w.buffers → v.phase ≡ w.phase → HasLinks g v →
      E w (record w { copies = cs; shared = xs; buffers = bs }) → E v (record v { copies = cs; shared = xs; buffers = bs })
  pub comes : (set link home : ℕ) (t : Tied) (w u : World) → slice_get g.ties link ≡ Some t → slice_index_or (slice_index_or g.homes set []) link None ≡ Some home → E w u →
      E (with_elements set home (buffer_of t w) w) (with_elements set home (buffer_of t u) u)
  pub fills : (t : Tied) (zs : List ℤ) (w u : World) → E w u → E (with_buffer t zs w) (with_buffer t zs u)
  pub others : (t : Tied) (zs ys : List ℤ) (w u : World) → length zs ≤ t.count → length ys ≤ t.count → ((k : ℕ) → k < t.count → has g.stale (t.from + k) ≡ true) → E w u →
      E (with_buffer t zs w) (with_buffer t ys u)
  pub queues : (link : ℕ) (t : Tied) (w u : World) → slice_get g.ties link ≡ Some t → is_queued link w ≡ true → E w u →
      words_at w.buffers t.from (queue_of link w).width ≡ words_at u.buffers t.from (queue_of link w).width

module _ (g : Ground) (E : World → World → Type 0) (keeps : KeepsStale g E) where
  -- any change of a world keeps worlds alike
  abbrev Keeps : (World → World) → Type 0
  Keeps f = (w u : World) → E w u → E (f w) (f u)

  -- another world beside the second one
  abbrev twin : World → List SetMemory → (xs bs : List ℤ) → World
  twin w cs xs bs = record w { copies = cs; shared = xs; buffers = bs }

  -- the second world may be the first one with other words
  leveled : (f : World → World) → ((w : World) (cs : List SetMemory) (xs bs : List ℤ) → E w (twin w cs xs bs) → E (f w) (f (twin w cs xs bs))) → Keeps f
  leveled f h w u e =
      let p : twin w u.copies u.shared u.buffers ≡ u = keeps.same w u e in subst (λ (v : World). E (f w) (f v)) p (h w u.copies u.shared u.buffers (subst (E w) (sym p) e))

  -- other marks
  remarked : (marks : List (List Bool)) (w : World) (cs : List SetMemory) (xs bs : List ℤ) → E w (twin w cs xs bs) → E (record w { marks = marks }) (twin (record w { marks = marks }) cs xs bs)
  remarked marks w cs xs bs e =
      keeps.changes (record w { marks = marks }) w cs xs bs refl refl refl refl (links-same g w (record w { marks = marks }) refl refl refl refl refl (keeps.links w _ e)) e

  -- other event flags
  reflagged : (flags : List Bool) (w : World) (cs : List SetMemory) (xs bs : List ℤ) → E w (twin w cs xs bs) → E (record w { flags = flags }) (twin (record w { flags = flags }) cs xs bs)
  reflagged flags w cs xs bs e =
      keeps.changes (record w { flags = flags }) w cs xs bs refl refl refl refl (links-same g w (record w { flags = flags }) refl refl refl refl refl (keeps.links w _ e)) e

  -- other channels that were valued
  revalued : (valued : List Bool) (w : World) (cs : List SetMemory) (xs bs : List ℤ) → E w (twin w cs xs bs) → E (record w { valued = valued }) (twin (record w { valued = valued }) cs xs bs)
  revalued valued w cs xs bs e =
      keeps.changes (record w { valued = valued }) w cs xs bs refl refl refl refl (links-same g w (record w { valued = valued }) refl refl refl refl refl (keeps.links w _ e)) e

  -- queues that can hold as much
  requeued : (queues : List Queue) (w : World) (cs : List SetMemory) (xs bs : List ℤ) → map room_in queues ≡ map room_in w.queues → E w (twin w cs xs bs) →
      E (record w { queues = queues }) (twin (record w { queues = queues }) cs xs bs)
  requeued queues w cs xs bs rooms e =
      keeps.changes (record w { queues = queues }) w cs xs bs refl refl refl refl (links-same g w (record w { queues = queues }) refl refl refl rooms refl (keeps.links w _ e)) e

  -- ---- the refresh

  -- a link of a number
  link-keeps : (set number : ℕ) (t : Tied) → slice_get g.ties number ≡ Some t → Keeps (refreshed_link set number t)
  link-keeps set number t at = leveled (refreshed_link set number t) (λ w cs xs bs e. by w cs xs bs e (is_marked set number w))
    where
      copied : (w u : World) → E w u → (home : Option ℕ) → slice_index_or (slice_index_or g.homes set []) number None ≡ home → E (copied_to set home t w) (copied_to set home t u)
      copied w u e None none = e
      copied w u e (Some home) begins = keeps.comes set number home t w u at begins e

      -- a mark that is cleared
      unmarked : Keeps (with_mark set number false)
      unmarked = leveled (with_mark set number false)
          (λ w cs xs bs e. remarked (slice_set w.marks set (slice_set (slice_index_or w.marks set []) number false)) w cs xs bs e)

      by : (w : World) (cs : List SetMemory) (xs bs : List ℤ) → E w (twin w cs xs bs) → (b : Bool) →
          E (if b then with_mark set number false (copied_to set (home_of set number w) t w) else w)
          (if b then with_mark set number false (copied_to set (home_of set number w) t (twin w cs xs bs)) else twin w cs xs bs)
      by w cs xs bs e true =
          let links : HasLinks g w = keeps.links w (twin w cs xs bs) e in
          unmarked _ _ (copied w (twin w cs xs bs) e (home_of set number w)
          (ap (λ (homes : List (List (Option ℕ))). slice_index_or (slice_index_or homes set []) number None) (sym links.homes)))
      by w cs xs bs e false = e

  -- links from a number on
  links-keep : (set number : ℕ) (ts : List Tied) → ((i : ℕ) → slice_get ts i ≡ slice_get g.ties (number + i)) → Keeps (refreshed_from set number ts)
  links-keep set number [] here = λ w u e. e
  links-keep set number (t ∷ ts) here = λ w u e.
      let at : slice_get g.ties number ≡ Some t = ap (slice_get g.ties) (let k : number ≡ number + 0 = omega arith in k) ∙ sym (here 0) in
      links-keep set (number + 1) ts (λ i. here (suc i) ∙ ap (slice_get g.ties) (let k : number + suc i ≡ number + 1 + i = omega arith in k)) _ _ (link-keeps set number t at w u e)

  -- all of them
  pub refreshed-keeps : (set : ℕ) → Keeps (refreshed set)
  refreshed-keeps set w u e =
      let links : HasLinks g w = keeps.links w u e in
      subst (λ (ts : List Tied). E (refreshed set w) (refreshed_from set 0 ts u)) (ap (λ (v : World). v.ties) (keeps.same w u e))
      (links-keep set 0 w.ties (λ i. ap (λ (ts : List Tied). slice_get ts i) links.ties ∙ ap (slice_get g.ties) (let k : i ≡ 0 + i = omega arith in k)) w u e)

  -- ---- values of a channel

  -- an event flag of a link
  flagged-keeps : (flag : Option ℕ) → Keeps (flagged flag)
  flagged-keeps None w u e = e
  flagged-keeps (Some flag) w u e = leveled (flagged (Some flag)) (λ x cs xs bs k. reflagged (slice_set x.flags flag true) x cs xs bs k) w u e

  -- what is in the buffer of a link is announced
  announced-keeps : (link : ℕ) (t : Tied) → slice_get g.ties link ≡ Some t → Keeps (announced link t)
  announced-keeps link t at = leveled (announced link t) (λ w cs xs bs e. by w cs xs bs e (is_queued link w) refl)
    where
      -- a queue with an item more
      with_item : List ℤ → Queue → Queue
      with_item item q = record q { items = put_in q.size item q.items }

      by : (w : World) (cs : List SetMemory) (xs bs : List ℤ) → E w (twin w cs xs bs) → (b : Bool) → is_queued link w ≡ b →
          E (if b then enqueued link w.buffers t.from w else all_marked None link w) (if b then enqueued link bs t.from (twin w cs xs bs) else all_marked None link (twin w cs xs bs))
      by w cs xs bs e true some =
          subst (λ (item : List ℤ). E (enqueued link w.buffers t.from w) (record (twin w cs xs bs) { queues = slice_set w.queues link (with_item item (queue_of link w)) }))
          (keeps.queues link t w (twin w cs xs bs) at some e)
          (requeued (slice_set w.queues link (put_into w.buffers t.from (queue_of link w))) w cs xs bs
          (set-alike room_in no_queue w.queues link (put_into w.buffers t.from (queue_of link w)) refl) e)
      by w cs xs bs e false none = remarked (marked_from None link 0 w.homes w.marks) w cs xs bs e

  -- and noticed, where it is monitored
  noticed-keeps : (link : ℕ) (t : Tied) → slice_get g.ties link ≡ Some t → Keeps (noticed link t)
  noticed-keeps link t at w u e = by t.is_monitored
    where
      by : (b : Bool) → E (if b then flagged t.flag (announced link t w) else w) (if b then flagged t.flag (announced link t u) else u)
      by true = flagged-keeps t.flag _ _ (announced-keeps link t at w u e)
      by false = e

  -- values come at a link
  pub received-keeps : (channel : ℕ) (values : List ℤ) (link : ℕ) (t : Tied) → slice_get g.ties link ≡ Some t → Keeps (received_link channel values link t)
  received-keeps channel values link t at w u e = by (is_of channel t)
    where
      by : (b : Bool) → E (if b then noticed link t (with_buffer t (take t.count values) w) else w) (if b then noticed link t (with_buffer t (take t.count values) u) else u)
      by true = noticed-keeps link t at _ _ (keeps.fills t (take t.count values) w u e)
      by false = e

  -- ---- other values of a channel

  module _ (channel : ℕ) (zs ys : List ℤ) (stale : IsStaleChannel g channel) where
    -- each come at a link
    others-keep : (link : ℕ) (t : Tied) → slice_get g.ties link ≡ Some t → (w u : World) → E w u → E (received_link channel zs link t w) (received_link channel ys link t u)
    others-keep link t at w u e = by (is_of channel t) refl
      where
        by : (b : Bool) → is_of channel t ≡ b → E (if b then noticed link t (with_buffer t (take t.count zs) w) else w) (if b then noticed link t (with_buffer t (take t.count ys) u) else u)
        by true is =
            noticed-keeps link t at _ _
            (keeps.others t (take t.count zs) (take t.count ys) w u (take-few t.count zs) (take-few t.count ys) (λ k low. stale link k t at is low) e)
        by false is = e

    -- at links from a number on
    all-keep : (number : ℕ) (ts : List Tied) → ((i : ℕ) → slice_get ts i ≡ slice_get g.ties (number + i)) → (w u : World) → E w u →
        E (received_from channel zs number ts w) (received_from channel ys number ts u)
    all-keep number [] here = λ w u e. e
    all-keep number (t ∷ ts) here = λ w u e.
        let at : slice_get g.ties number ≡ Some t = ap (slice_get g.ties) (let k : number ≡ number + 0 = omega arith in k) ∙ sym (here 0) in
        all-keep (number + 1) ts (λ i. here (suc i) ∙ ap (slice_get g.ties) (let k : number + suc i ≡ number + 1 + i = omega arith in k)) _ _ (others-keep number t at w u e)

    -- at all links
    pub values-keep : (w u : World) → E w u → E (received_from channel zs 0 g.ties (record w { valued = slice_set w.valued channel true }))
        (received_from channel ys 0 g.ties (record u { valued = slice_set u.valued channel true }))
    values-keep w u e =
        all-keep 0 g.ties (λ i. ap (slice_get g.ties) (let k : i ≡ 0 + i = omega arith in k)) _ _
        (leveled (λ x. record x { valued = slice_set x.valued channel true }) (λ x cs xs bs k. revalued (slice_set x.valued channel true) x cs xs bs k) w u e)
