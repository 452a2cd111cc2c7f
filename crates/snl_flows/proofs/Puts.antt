-- What a put does in two runs, and how a call begins.
use Rattle.std.proofs.Common.{◌≡◌, ◌∙◌, ◌⊎◌, ◌+◌, ◌<◌, inl, inr, ⊎_elim, refl, sym, ap, subst, ℕ, ℤ, pos, negsuc, Bool, true, false, List, [], Option, None, Some, if◌then◌else◌}
use Rattle.std.specs.Prelude.{slice_get, slice_index_or, slice_set}
use Rattle.snl_meaning.specs.declared.ties.Tied.{Tied}
use Rattle.snl_meaning.specs.Links.{enqueued, flagged, handed_over, is_queued, kept_for, link_at, link_from, marked, queue_of, with_buffer}
use Rattle.snl_meaning.specs.Printing.{put_line}
use Rattle.snl_meaning.specs.Queues.{put_in}
use Rattle.snl_meaning.specs.Words.{OnLink, at_number, at_tie, put_async, put_by, put_out, put_word, spent}
use Rattle.snl_meaning.specs.World.{Queue, SetMemory, World, copy_of, is_waiting, with_waiting, words_at}
use Rattle.snl_alike.proofs.Linked.{agrees-spent}
use Rattle.snl_flows.specs.Fine.{IsPut, IsPutBy}
use Rattle.snl_flows.specs.LeftOut.{left_out}
use Rattle.snl_flows.specs.Tables.{Flow, Ground, HasLinks, IsSameAt}
use Rattle.snl_flows.specs.Texts.{IsNamed, SameButValues}
use Rattle.snl_flows.proofs.Agree.{agree-words}
use Rattle.snl_flows.proofs.Kept.{Kept, handed, keeps-words, plain, same-rest, SameKept}
use Rattle.snl_flows.proofs.Outcomes.{AlikeTo, BothLead, lead, test-to}
use Rattle.snl_flows.proofs.Texts.{one-line, one-put, put-ends}
use Rattle.snl_flows.proofs.Worlds.{Known, SameOn, level, words-agree}

module _ (g : Ground) (set : ℕ) (K : Bool → ℕ → Type 0) where
  -- a number, and two worlds
  abbrev Put : ℤ → ℤ → World → World → Type 0
  Put = SameKept g set K

  -- another world beside the second one
  abbrev twin : World → List SetMemory → (xs bs : List ℤ) → World
  twin w cs xs bs = record w { copies = cs; shared = xs; buffers = bs }

  -- words of the own copy from a place on
  words-same : (place count : ℕ) (w u : World) → ((k : ℕ) → k < count → Known g set K false (place + k)) → Kept g set K w u →
      words_at (copy_of set w).words place count ≡ words_at (copy_of set u).words place count
  words-same place count w u known e =
      agree-words count (Known g set K false) (copy_of set w).words (copy_of set u).words place known (words-agree g set K false w u e)

  -- ---- lines

  -- the line of a put of what is the same, or to a channel whose puts may have other values
  line-to : (channel : List ℕ) (zs ys : List ℤ) (ms : ℕ) → (zs ≡ ys) ⊎ IsNamed g.names channel → SameButValues g.names (put_line ms channel zs) (put_line ms channel ys)
  line-to channel zs ys ms h =
      ⊎_elim
      (λ (p : zs ≡ ys). subst (λ (xs : List ℤ). SameButValues g.names (put_line ms channel zs) (put_line ms channel xs)) p (one-line g.names (put_line ms channel zs) (put-ends ms channel zs)))
      (λ named. one-put g.names ms channel zs ys named) h

  module _ (w : World) (cs : List SetMemory) (xs bs : List ℤ) (links : HasLinks g w) (e : Kept g set K w (record w { copies = cs; shared = xs; buffers = bs })) where
    -- what a put writes
    writes : (place count channel : ℕ) → ((k : ℕ) → k < count → Known g set K false (place + k)) ⊎ IsNamed g.names (slice_index_or g.channels channel []) →
        SameButValues g.names (put_line w.time (slice_index_or w.channels channel []) (words_at (copy_of set w).words place count))
        (put_line w.time (slice_index_or w.channels channel []) (words_at (copy_of set (twin w cs xs bs)).words place count))
    writes place count channel h =
        line-to (slice_index_or w.channels channel []) _ _ w.time
        (⊎_elim (λ known. inl (words-same place count w (twin w cs xs bs) known e))
        (λ named. inr (subst (λ (names : List (List ℕ)). IsNamed g.names (slice_index_or names channel [])) (sym links.channels) named)) h)

    -- `pvPut` to a channel
    out-to : (place count channel : ℕ) → ((k : ℕ) → k < count → Known g set K false (place + k)) ⊎ IsNamed g.names (slice_index_or g.channels channel []) →
        AlikeTo g Put (put_out set place count channel w) (put_out set place count channel (twin w cs xs bs))
    out-to place count channel h =
        test-to g Put (slice_index_or w.ups channel false) _ _ _ _ (BothLead (pos 0) (pos 0) w (twin w cs xs bs) _ _ (refl, e) (writes place count channel h))
        (lead g Put (negsuc 1) (negsuc 1) w (twin w cs xs bs) (refl, e))

    -- the same with `ASYNC`
    async-to : (place link count channel : ℕ) → ((k : ℕ) → k < count → Known g set K false (place + k)) ⊎ IsNamed g.names (slice_index_or g.channels channel []) →
        AlikeTo g Put (put_async set place link count channel w) (put_async set place link count channel (twin w cs xs bs))
    async-to place link count channel h =
        test-to g Put (slice_index_or w.ups channel false) _ _ _ _
        (test-to g Put (is_waiting link w) _ _ _ _ (lead g Put (negsuc 0) (negsuc 0) w (twin w cs xs bs) (refl, e))
        (BothLead (pos 0) (pos 0) _ _ _ _ (refl, same-rest g set K w (with_waiting link true w) cs xs bs refl refl refl e) (writes place count channel h)))
        (lead g Put (negsuc 1) (negsuc 1) w (twin w cs xs bs) (refl, e))

  -- ---- links without a channel

  -- elements of a link are kept for others
  kept-to : (place link : ℕ) (t : Tied) (w : World) (cs : List SetMemory) (xs bs : List ℤ) → ((n : ℕ) → words_at (copy_of set w).words place n ≡ words_at
      (copy_of set (record w { copies = cs })).words place n) →
      Kept g set K w (record w { copies = cs; shared = xs; buffers = bs }) →
      Kept g set K (kept_for set place link t w) (kept_for set place link t (record w { copies = cs; shared = xs; buffers = bs }))
  kept-to place link t w cs xs bs same e = by (is_queued link w)
    where
      u : World
      u = record w { copies = cs; shared = xs; buffers = bs }

      x : List ℤ
      x = (copy_of set w).words

      y : List ℤ
      y = (copy_of set (record w { copies = cs })).words

      q : Queue
      q = queue_of link w

      queued : (items : List ℤ) → List Queue
      queued items = slice_set w.queues link (record q { items = put_in q.size items q.items })

      by : (b : Bool) → Kept g set K (if b then enqueued link x place w else marked (Some set) link t (with_buffer t (words_at x place t.count) w))
          (if b then enqueued link y place u else marked (Some set) link t (with_buffer t (words_at y place t.count) u))
      by true = subst (λ (zs : List ℤ). Kept g set K (enqueued link x place w) (record u { queues = queued zs })) (same q.width)
          (same-rest g set K w (record w { queues = queued (words_at x place q.width) }) cs xs bs refl refl refl e)
      by false = subst (λ (zs : List ℤ). Kept g set K (marked (Some set) link t (with_buffer t (words_at x place t.count) w)) (marked (Some set) link t (with_buffer t zs u))) (same t.count)
          (handed g set K link t (words_at x place t.count) w u e)

  -- a flag of a link
  flagged-to : (flag : Option ℕ) (w u : World) → Kept g set K w u → Kept g set K (flagged flag w) (flagged flag u)
  flagged-to None w u e = e
  flagged-to (Some flag) w u e = level g set K (λ x y. Kept g set K (flagged (Some flag) x) (flagged (Some flag) y))
      (λ x cs xs bs h. same-rest g set K x (record x { flags = slice_set x.flags flag true }) cs xs bs refl refl refl h) w u e

  -- they are handed over
  handed-to : (place link : ℕ) (t : Tied) (w : World) (cs : List SetMemory) (xs bs : List ℤ) → ((k : ℕ) → Known g set K false (place + k)) →
      Kept g set K w (record w { copies = cs; shared = xs; buffers = bs }) →
      Kept g set K (handed_over set place link t w) (handed_over set place link t (record w { copies = cs; shared = xs; buffers = bs }))
  handed-to place link t w cs xs bs known e =
      flagged-to t.flag (kept_for set place link t w) (kept_for set place link t (record w { copies = cs; shared = xs; buffers = bs }))
      (kept-to place link t w cs xs bs (λ n. words-same place n w (record w { copies = cs; shared = xs; buffers = bs }) (λ k low. known k) e) e)

  -- ---- puts

  module _ (f : Flow) (at : ℕ) (here : (b : Bool) (k : ℕ) → IsSameAt g set f at b k → Known g set K b k) where
    -- of a link
    by-to : (async : Bool) (place link : ℕ) (t : Tied) (channel : Option ℕ) (w : World) (cs : List SetMemory) (xs bs : List ℤ) → HasLinks g w → IsPutBy g set f at place t.count channel →
        Kept g set K w (record w { copies = cs; shared = xs; buffers = bs }) →
        AlikeTo g Put (put_by async set place link t channel w) (put_by async set place link t channel (record w { copies = cs; shared = xs; buffers = bs }))
    by-to async place link t None w cs xs bs links fine e = lead g Put (pos 0) (pos 0) _ _ (refl, handed-to place link t w cs xs bs (λ k. here false (place + k) (fine k)) e)
    by-to false place link t (Some channel) w cs xs bs links fine e =
        out-to w cs xs bs links e place t.count channel (⊎_elim (λ known. inl (λ k low. here false (place + k) (known k low))) (λ named. inr named) fine)
    by-to true place link t (Some channel) w cs xs bs links fine e =
        async-to w cs xs bs links e place link t.count channel (⊎_elim (λ known. inl (λ k low. here false (place + k) (known k low))) (λ named. inr named) fine)

    -- of a word
    pub put-to : (async : Bool) (place : ℕ) (w u : World) → HasLinks g w → IsPut g set f at place → Kept g set K w u → AlikeTo g Put (put_word async set place w) (put_word async set place u)
    put-to async place w u links fine e =
        level g set K (λ x y. HasLinks g x → AlikeTo g Put (put_word async set place x) (put_word async set place y))
        (λ x cs xs bs h more. number x cs xs bs more h (link_at set place x) refl) w u e links
      where
        go : OnLink
        go = λ link t. put_by async set place link t t.channel

        tie : (x : World) (cs : List SetMemory) (xs bs : List ℤ) → HasLinks g x → Kept g set K x (record x { copies = cs; shared = xs; buffers = bs }) → (link : ℕ) → link_at set place x ≡ Some link →
            (o : Option Tied) → slice_get x.ties link ≡ o → AlikeTo g Put (at_tie (negsuc 0) go link o x) (at_tie (negsuc 0) go link o (record x { copies = cs; shared = xs; buffers = bs }))
        tie x cs xs bs more h link found None none = lead g Put (negsuc 0) (negsuc 0) x _ (refl, h)
        tie x cs xs bs more h link found (Some t) some =
            by-to async place link t t.channel x cs xs bs more
            (fine link t (ap (λ (homes : List (List (Option ℕ))). link_from 0 (slice_index_or homes set []) place) (sym more.homes) ∙ found)
            (ap (λ (ties : List Tied). slice_get ties link) (sym more.ties) ∙ some)) h

        number : (x : World) (cs : List SetMemory) (xs bs : List ℤ) → HasLinks g x → Kept g set K x (record x { copies = cs; shared = xs; buffers = bs }) → (o : Option ℕ) → link_at set place x ≡ o →
            AlikeTo g Put (at_number (negsuc 0) go o x) (at_number (negsuc 0) go o (record x { copies = cs; shared = xs; buffers = bs }))
        number x cs xs bs more h None none = lead g Put (negsuc 0) (negsuc 0) x _ (refl, h)
        number x cs xs bs more h (Some link) some = tie x cs xs bs more h link some (slice_get x.ties link) refl

  -- ---- ticks

  -- a tick
  pub spent-to : (line : ℕ) (w u : World) → Kept g set K w u → AlikeTo {A = Unit {0}} g (SameKept g set K) (spent line w) (spent line u)
  spent-to line w u e = plain g set K (spent line) (agrees-spent (left_out g.lines) set (Kept g set K) (SameButValues g.names) (keeps-words g set K) line) w u e

-- ---- calls

module _ (g : Ground) (set : ℕ) where
  -- where a call begins
  abbrev pub Entered : (Bool → ℕ → Type 0) → Unit {0} → Unit {0} → World → World → Type 0
  Entered L _ _ = SameOn g set L
