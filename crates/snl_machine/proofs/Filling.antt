-- Values that come to links, and go on into copies, are numbers that their types have.
use Rattle.std.proofs.Common.{◌≡◌, ◌∙◌, ◌+◌, ◌<◌, ◌≤◌, ◌⊎◌, inl, inr, refl, sym, ap, subst, arith, ℕ, zero, suc, ℤ, pos, Bool, true, false, nat_lt, List, [], ◌∷◌, Option, None, Some, slice_get, length, take, if◌then◌else◌}
use Rattle.std.specs.Prelude.{◌&&◌, ◌||◌, not, ◌-◌, ◌^◌, int_le, slice_set, slice_index_or}
use Rattle.std.specs.List.{list_all}
use Rattle.std.proofs.lemmas.Bool.{ltb-true, ltb-false}
use Rattle.snl_syntax.specs.Programs.{ProgramTree}
use Rattle.snl_channels.specs.Links.{Link}
use Rattle.snl_machine.specs.Ranges.{Has, Fit, IsSized, IsTied, BuffersFit, ItemFits, QueuesFit, Holds, counts}
use Rattle.snl_machine.proofs.Linked.{at_home}
use Rattle.snl_machine.proofs.Queued.{length-words, word-at, words-fit, put-fits, oldest-fits, rest-fits}
use Rattle.snl_machine.proofs.Fitting.{set-index, found, one-word, copy-apart, copy-holds}
use Rattle.snl_meaning.specs.declared.instrs.Variable.{Variable}
use Rattle.snl_meaning.specs.declared.names.Placed.{Placed}
use Rattle.snl_meaning.specs.Names.{variable_in, place_after}
use Rattle.snl_meaning.specs.Links.{home_of, elements_at, with_elements, buffer_of, with_buffer, queue_of, is_queued, with_items, enqueued, flagged, all_marked, announced}
use Rattle.snl_meaning.specs.World.{World, copy_of, words_at, overwritten}
use Rattle.snl_meaning.proofs.Apart.{variables_lie_within}
use Rattle.snl_load.specs.Places.{channels, flags_in, placed_in, placed_sets, tie_of, ties_from, ties_in}
use Rattle.snl_names.specs.Variables.{variables_of}
use Rattle.snl_meaning.specs.declared.ties.Tied.{Tied}
use Rattle.snl_schedule.specs.Arrivals.{is_of, is_in, is_link_fit, are_fit, received_link, received_from}
use Rattle.snl_schedule.specs.Refresh.{is_marked, with_mark, copied_to, refreshed_link, refreshed_from, refreshed}

-- ---- words that are replaced

-- what is known of a word after others came from a place on: it is as it was, or one of those
abbrev pub IsOneOf : List ℤ → ℕ → List ℤ → ℕ → ℤ → Type 0
IsOneOf zs p l q z = (z ≡ slice_index_or l q (pos 0)) ⊎ ((j : ℕ) × (j < length zs) × (p + j ≡ q) × (z ≡ slice_index_or zs j (pos 0)))

-- each word
pub overwritten-index : (zs l : List ℤ) (p q : ℕ) → IsOneOf zs p l q (slice_index_or (overwritten l p zs) q (pos 0))
overwritten-index [] l p q = inl refl
overwritten-index (x ∷ zs) l p q = by (overwritten-index zs (slice_set l p x) (suc p) q) (set-index l p q x (pos 0))
  where
    there : ℤ
    there = slice_index_or (overwritten l p (x ∷ zs)) q (pos 0)

    by : IsOneOf zs (suc p) (slice_set l p x) q there → (slice_index_or (slice_set l p x) q (pos 0) ≡ slice_index_or l q (pos 0)) ⊎ ((p ≡ q) × (slice_index_or (slice_set l p x) q (pos 0) ≡ x)) →
        IsOneOf (x ∷ zs) p l q there
    by (inl same) (inl old) = inl (same ∙ old)
    by (inl same) (inr new) = inr (0, omega arith, let e : p + 0 ≡ q = omega (arith, new.0) in e, same ∙ new.1)
    by (inr later) k = inr (suc later.0, omega (arith, later.1), let e : p + suc later.0 ≡ q = omega (arith, later.2) in e, later.3)

-- ---- links and copies

module _ (p : ProgramTree) (sized : IsSized p) (set : ℕ) where
  -- an item of a link in a copy
  item-fits : (l : Link) (t : Tied) (v : Variable) (words zs : List ℤ) → variable_in (placed_in p set) l.variable.offset ≡ Some v → l.first + t.count ≤ v.size →
      t.least ≡ v.least → t.greatest ≡ v.greatest → ItemFits t zs →
      Fit (placed_in p set) words → Fit (placed_in p set) (overwritten words (place_after v.place l.first) zs)
  item-fits l t v words zs is within least greatest item fits i k y is_y few = by (overwritten-index zs words to (y.variable.place + k))
    where
      to : ℕ
      to = place_after v.place l.first

      there : ℤ
      there = slice_index_or (overwritten words to zs) (y.variable.place + k) (pos 0)

      by : IsOneOf zs to words (y.variable.place + k) there → Has y.variable there
      by (inl same) = subst (λ (z : ℤ). Has y.variable z) (sym same) (fits i k y is_y few)
      by (inr new) =
          let f = found (placed_in p set) l.variable.offset v is in
          let x = f.1 in
          let less : new.0 < t.count = omega (arith, new.1, item.0) in
          let lies = variables_lie_within (variables_of p set) f.0 x (sized.copies set).few f.2 in
          let size : x.variable.size ≡ v.size = ap (λ (u : Variable). u.size) f.3 in
          let place : x.variable.place ≡ v.place = ap (λ (u : Variable). u.place) f.3 in
          let total = (sized.copies set).few in
          let to_is : to ≡ v.place + l.first = omega (arith, lies, size, place, total, within) in
          let word : x.variable.place + (l.first + new.0) ≡ y.variable.place + k = omega (arith, new.2, to_is, place) in
          let in_x : l.first + new.0 < x.variable.size = omega (arith, within, less, size) in
          let one : x ≡ y = one-word (placed_in p set) (copy-apart p sized set) f.0 i (l.first + new.0) k x y f.2 is_y in_x few word in
          let variable : v ≡ y.variable = sym f.3 ∙ ap (λ (u : Placed). u.variable) one in
          let has : (int_le t.least there && int_le there t.greatest) ≡ true = subst (λ (z : ℤ). is_in t z ≡ true) (sym new.3) (item.1 new.0 (pos 0) new.1) in
          let typed : Has v there =
          subst (λ (g : ℤ). (int_le v.least there && int_le there g) ≡ true) greatest (subst (λ (m : ℤ). (int_le m there && int_le there t.greatest) ≡ true) least has) in
          subst (λ (u : Variable). Has u there) variable typed

  -- the elements of a link in a copy
  held-fits : (l : Link) (t : Tied) (v : Variable) (words : List ℤ) → variable_in (placed_in p set) l.variable.offset ≡ Some v → l.first + t.count ≤ v.size →
      t.least ≡ v.least → t.greatest ≡ v.greatest → Fit (placed_in p set) words → (j : ℕ) → j < t.count →
      is_in t (slice_index_or words (place_after v.place l.first + j) (pos 0)) ≡ true
  held-fits l t v words is within least greatest fits j less =
      let f = found (placed_in p set) l.variable.offset v is in
      let x = f.1 in
      let lies = variables_lie_within (variables_of p set) f.0 x (sized.copies set).few f.2 in
      let size : x.variable.size ≡ v.size = ap (λ (u : Variable). u.size) f.3 in
      let place : x.variable.place ≡ v.place = ap (λ (u : Variable). u.place) f.3 in
      let total = (sized.copies set).few in
      let to_is : place_after v.place l.first ≡ v.place + l.first = omega (arith, lies, size, place, total, within) in
      let word : x.variable.place + (l.first + j) ≡ place_after v.place l.first + j = omega (arith, to_is, place) in
      let in_x : l.first + j < x.variable.size = omega (arith, within, less, size) in
      let z = slice_index_or words (place_after v.place l.first + j) (pos 0) in
      let has : Has x.variable z = subst (λ (n : ℕ). Has x.variable (slice_index_or words n (pos 0))) word (fits f.0 (l.first + j) x f.2 in_x) in
      let own : Has v z = subst (λ (u : Variable). Has u z) f.3 has in
      subst (λ (m : ℤ). (int_le m z && int_le z t.greatest) ≡ true) (sym least) (subst (λ (g : ℤ). (int_le v.least z && int_le z g) ≡ true) (sym greatest) own)

-- ---- values that come

-- where the buffer of a link stands among those of links from a place on
pub tie-within : (names : List (List ℕ)) (flags : List ℕ) (copies : List (List Placed)) (ks : List Link) (at i : ℕ) (t : Tied) → at + counts ks ≤ 2 ^ 64 - 1 →
    slice_get (ties_from names flags copies at ks) i ≡ Some t → (at ≤ t.from) × (t.from + t.count ≤ at + counts ks)
tie-within names flags copies [] at i t few is = absurd (cc)
tie-within names flags copies (l ∷ ks) at zero t few is =
    let same : tie_of names flags copies at l ≡ t = cc in
    let from : at ≡ t.from = ap (λ (u : Tied). u.from) same in
    let count : l.count ≡ t.count = ap (λ (u : Tied). u.count) same in
    (omega (arith, from), omega (arith, from, count))
tie-within names flags copies (l ∷ ks) at (suc i) t few is =
    let next : place_after at l.count ≡ at + l.count = omega (arith, few) in
    let rest = tie-within names flags copies ks (place_after at l.count) i t (omega (arith, few, next)) is in
    (omega (arith, rest.0, next), omega (arith, rest.1, next))

-- the buffer of a later link begins after that of an earlier one
pub tie-apart : (names : List (List ℕ)) (flags : List ℕ) (copies : List (List Placed)) (ks : List Link) (at i j : ℕ) (t u : Tied) → at + counts ks ≤ 2 ^ 64 - 1 → i < j →
    slice_get (ties_from names flags copies at ks) i ≡ Some t → slice_get (ties_from names flags copies at ks) j ≡ Some u → t.from + t.count ≤ u.from
tie-apart names flags copies [] at i j t u few less a b = absurd (cc)
tie-apart names flags copies (l ∷ ks) at i zero t u few less a b = absurd (omega (arith, less))
tie-apart names flags copies (l ∷ ks) at zero (suc j) t u few less a b =
    let same : tie_of names flags copies at l ≡ t = cc in
    let from : at ≡ t.from = ap (λ (x : Tied). x.from) same in
    let count : l.count ≡ t.count = ap (λ (x : Tied). x.count) same in
    let next : place_after at l.count ≡ at + l.count = omega (arith, few) in
    let rest = tie-within names flags copies ks (place_after at l.count) j u (omega (arith, few, next)) b in
    omega (arith, rest.0, next, from, count)
tie-apart names flags copies (l ∷ ks) at (suc i) (suc j) t u few less a b =
    let next : place_after at l.count ≡ at + l.count = omega (arith, few) in
    tie-apart names flags copies ks (place_after at l.count) i j t u (omega (arith, few, next)) (omega (arith, less)) a b

-- both halves of a test
pub both-true : (a b : Bool) → (a && b) ≡ true → (a ≡ true) × (b ≡ true)
both-true true true is = (refl, refl)
both-true true false is = absurd (cc)
both-true false b is = absurd (cc)

-- what all members are, one is
all-at : (f : ℤ → Bool) (xs : List ℤ) (n : ℕ) → list_all f xs ≡ true → n < length xs → f (slice_index_or xs n (pos 0)) ≡ true
all-at f [] n all less = absurd (omega (arith, less))
all-at f (x ∷ xs) zero all less = (both-true (f x) (list_all f xs) all).0
all-at f (x ∷ xs) (suc n) all less = all-at f xs n (both-true (f x) (list_all f xs) all).1 (omega (arith, less))

-- no more than so many are taken
pub take-few : (n : ℕ) (xs : List ℤ) → length (take n xs) ≤ n
take-few zero xs = omega arith
take-few (suc n) [] = omega arith
take-few (suc n) (x ∷ xs) = let rest = take-few n xs in omega (arith, rest)

module _ (p : ProgramTree) (ls : List Link) (few : counts ls ≤ 2 ^ 64 - 1) where
  -- the links
  abbrev ties : List Tied
  ties = ties_in p ls

  -- two links whose buffers share a word are one
  one-buffer : (i j k m : ℕ) (t u : Tied) → slice_get ties i ≡ Some t → slice_get ties j ≡ Some u → k < t.count → m < u.count → t.from + k ≡ u.from + m → t ≡ u
  one-buffer i j k m t u is_t is_u few_t few_u same = by (nat_lt i j) (nat_lt j i) refl refl
    where
      by : (a b : Bool) → nat_lt i j ≡ a → nat_lt j i ≡ b → t ≡ u
      by true b less none =
          let apart = tie-apart (channels ls) (flags_in p) (placed_sets p 0 p.state_sets) ls 0 i j t u (omega (arith, few)) (ltb-true i j less) is_t is_u in
          absurd (omega (arith, apart, few_t, few_u, same))
      by false true none less =
          let apart = tie-apart (channels ls) (flags_in p) (placed_sets p 0 p.state_sets) ls 0 j i u t (omega (arith, few)) (ltb-true j i less) is_u is_t in
          absurd (omega (arith, apart, few_t, few_u, same))
      by false false a b =
          let e : i ≡ j = omega (arith, ltb-false i j a, ltb-false j i b) in
          let both : Some t ≡ Some u = sym is_t ∙ ap (slice_get ties) e ∙ is_u in
          cc

  -- numbers that a link's type has come to its buffer
  pub numbers-fit : (zs buffers : List ℤ) (i : ℕ) (t : Tied) → slice_get ties i ≡ Some t → length zs ≤ t.count →
      ((n : ℕ) → n < length zs → is_in t (slice_index_or zs n (pos 0)) ≡ true) → BuffersFit ties buffers → BuffersFit ties (overwritten buffers t.from zs)
  numbers-fit zs buffers i t is_t short fit holds j k u is_u less = by (overwritten-index zs buffers t.from (u.from + k))
    where
      there : ℤ
      there = slice_index_or (overwritten buffers t.from zs) (u.from + k) (pos 0)

      by : IsOneOf zs t.from buffers (u.from + k) there → is_in u there ≡ true
      by (inl same) = subst (λ (z : ℤ). is_in u z ≡ true) (sym same) (holds j k u is_u less)
      by (inr new) =
          let n : new.0 < t.count = omega (arith, new.1, short) in
          let one : t ≡ u = one-buffer i j new.0 k t u is_t is_u n less new.2 in
          let has : is_in t there ≡ true = subst (λ (z : ℤ). is_in t z ≡ true) (sym new.3) (fit new.0 new.1) in
          subst (λ (x : Tied). is_in x there ≡ true) one has

  -- values that fit a link come to its buffer
  values-fit : (values buffers : List ℤ) (i : ℕ) (t : Tied) → slice_get ties i ≡ Some t → is_link_fit values t ≡ true → BuffersFit ties buffers →
      BuffersFit ties (overwritten buffers t.from (take t.count values))
  values-fit values buffers i t is_t fit holds =
      numbers-fit (take t.count values) buffers i t is_t (take-few t.count values) (λ n less. all-at (is_in t) (take t.count values) n fit less) holds

  -- buffers and queues
  abbrev pub LinksFit : World → Type 0
  LinksFit w = BuffersFit ties w.buffers × QueuesFit ties w.queues

  -- what is announced
  announced-fits : (link : ℕ) (t : Tied) (w : World) → slice_get ties link ≡ Some t → LinksFit w → LinksFit (announced link t w)
  announced-fits link t w is fit = by (is_queued link w) refl
    where
      by : (b : Bool) → is_queued link w ≡ b → LinksFit (if b then enqueued link w.buffers t.from w else all_marked None link w)
      by true queued = (fit.0, put-fits ties w.queues link t w.buffers t.from queued is (λ j less. fit.0 link j t is less) fit.1)
      by false queued = fit

  -- values of a channel come to a link, if it is one of the channel
  link-received : (channel : ℕ) (values : List ℤ) (number : ℕ) (t : Tied) (w : World) → slice_get ties number ≡ Some t → (not (is_of channel t) || is_link_fit values t) ≡ true →
      LinksFit w → LinksFit (received_link channel values number t w)
  link-received channel values number t w is_t fit holds = by (is_of channel t) t.is_monitored t.flag fit
    where
      there : World
      there = with_buffer t (take t.count values) w

      come : is_link_fit values t ≡ true → LinksFit there
      come fits = (values-fit values w.buffers number t is_t fits holds.0, holds.1)

      by : (b monitored : Bool) (flag : Option ℕ) → (not b || is_link_fit values t) ≡ true →
          LinksFit (if b then (if monitored then flagged flag (announced number t there) else there) else w)
      by true true None fits = announced-fits number t there is_t (come fits)
      by true true (Some flag) fits = announced-fits number t there is_t (come fits)
      by true false flag fits = come fits
      by false monitored flag fits = holds

  -- to links of the program, from a number on
  pub received-fits : (channel : ℕ) (values : List ℤ) (number : ℕ) (ts : List Tied) (w : World) →
      ((i n : ℕ) (t : Tied) → n ≡ number + i → slice_get ts i ≡ Some t → slice_get ties n ≡ Some t) → are_fit channel values ts ≡ true →
      LinksFit w → LinksFit (received_from channel values number ts w)
  received-fits channel values number [] w there fit holds = holds
  received-fits channel values number (t ∷ ts) w there fit holds =
      let halves = both-true (not (is_of channel t) || is_link_fit values t) (are_fit channel values ts) fit in
      received-fits channel values (number + 1) ts (received_link channel values number t w) (λ i n u is at. there (suc i) n u (omega (arith, is)) at) halves.1
      (link-received channel values number t w (there 0 number t (omega arith) refl) halves.0 holds)

-- values leave copies, the words of functions, and what never changes of links, as they are
abbrev pub Same : World → World → Type 0
Same w u = (u.copies ≡ w.copies) × (u.ties ≡ w.ties) × (u.homes ≡ w.homes) × (u.shared ≡ w.shared)

-- what is announced
announced-same : (link : ℕ) (t : Tied) (w : World) → Same w (announced link t w)
announced-same link t w = by (is_queued link w)
  where
    by : (b : Bool) → Same w (if b then enqueued link w.buffers t.from w else all_marked None link w)
    by true = (refl, refl, refl, refl)
    by false = (refl, refl, refl, refl)

-- at a link
link-same : (channel : ℕ) (values : List ℤ) (number : ℕ) (t : Tied) (w : World) → Same w (received_link channel values number t w)
link-same channel values number t w = by (is_of channel t) t.is_monitored t.flag
  where
    there : World
    there = with_buffer t (take t.count values) w

    by : (b monitored : Bool) (flag : Option ℕ) → Same w (if b then (if monitored then flagged flag (announced number t there) else there) else w)
    by true true None = announced-same number t there
    by true true (Some flag) = announced-same number t there
    by true false flag = (refl, refl, refl, refl)
    by false monitored flag = (refl, refl, refl, refl)

-- at all links
pub received-same : (channel : ℕ) (values : List ℤ) (number : ℕ) (ts : List Tied) (w : World) → Same w (received_from channel values number ts w)
received-same channel values number [] w = (refl, refl, refl, refl)
received-same channel values number (t ∷ ts) w =
    let here = link-same channel values number t w in
    let others = received-same channel values (number + 1) ts (received_link channel values number t w) in
    (others.0 ∙ here.0, others.1 ∙ here.1, others.2 ∙ here.2, others.3 ∙ here.3)

-- ---- what holds

module _ (p : ProgramTree) (ls : List Link) (sized : IsSized p) (tied : IsTied p ls) where
  -- what a link is tied to is what the program says
  tied_so : (link : ℕ) (t : Tied) (w : World) → Holds p ls w → slice_get w.ties link ≡ Some t → slice_get (ties_in p ls) link ≡ Some t
  tied_so link t w holds is = ap (λ (ts : List Tied). slice_get ts link) (sym holds.2) ∙ is

  -- an item of a link comes to a copy
  item_holds : (set place link : ℕ) (t : Tied) (item : List ℤ) (w : World) → home_of set link w ≡ Some place → slice_get (ties_in p ls) link ≡ Some t → ItemFits t item →
      Holds p ls w → Holds p ls (with_elements set place item w)
  item_holds set place link t item w home at fits holds =
      let k = at_home p ls tied set link place t w holds.3 home at in
      let old = (copy_of set w).words in
      let stays : Fit (placed_in p set) old → Fit (placed_in p set) (overwritten old place item) =
      subst (λ (n : ℕ). Fit (placed_in p set) old → Fit (placed_in p set) (overwritten old n item)) k.there
      (item-fits p sized set k.l t k.v old item k.variable k.within k.least k.greatest fits) in
      copy-holds p sized ls set (record (copy_of set w) { words = overwritten old place item }) w stays holds

  -- the buffer of a link does
  buffer_holds : (set place link : ℕ) (t : Tied) (w : World) → home_of set link w ≡ Some place → slice_get (ties_in p ls) link ≡ Some t →
      Holds p ls w → Holds p ls (with_elements set place (buffer_of t w) w)
  buffer_holds set place link t w home at holds =
      item_holds set place link t (buffer_of t w) w home at (words-fit t w.buffers t.from t.count refl (λ j less. holds.1 link j t at less)) holds

  -- so it is fetched
  pub fetched_holds : (set place link : ℕ) (t : Tied) (w : World) → home_of set link w ≡ Some place → slice_get w.ties link ≡ Some t →
      Holds p ls w → Holds p ls (with_elements set place (buffer_of t w) w)
  fetched_holds set place link t w home is holds = buffer_holds set place link t w home (tied_so link t w holds is) holds

  -- the oldest item of its queue is taken
  pub taken_holds : (set place link : ℕ) (t : Tied) (item : List ℤ) (more : List (List ℤ)) (w : World) → home_of set link w ≡ Some place → slice_get w.ties link ≡ Some t →
      (queue_of link w).items ≡ item ∷ more → Holds p ls w → Holds p ls (with_items link more (with_elements set place item w))
  taken_holds set place link t item more w home is has holds =
      let at = tied_so link t w holds is in
      let h = item_holds set place link t item w home at (oldest-fits (ties_in p ls) w.queues link t item more at has holds.4) holds in
      (h.0, h.1, h.2, h.3, rest-fits (ties_in p ls) w.queues link item more has holds.4, h.5)

  -- a link is refreshed
  link-holds : (set number : ℕ) (t : Tied) (w : World) → slice_get (ties_in p ls) number ≡ Some t → Holds p ls w → Holds p ls (refreshed_link set number t w)
  link-holds set number t w at holds = by (is_marked set number w) (home_of set number w) refl
    where
      by : (b : Bool) (home : Option ℕ) → home_of set number w ≡ home → Holds p ls (if b then with_mark set number false (copied_to set home t w) else w)
      by false home is = holds
      by true None is = holds
      by true (Some place) is = buffer_holds set place number t w is at holds

  -- links are, from a number on
  links-hold : (set number : ℕ) (ts : List Tied) (w : World) → ((i n : ℕ) (t : Tied) → n ≡ number + i → slice_get ts i ≡ Some t → slice_get (ties_in p ls) n ≡ Some t) →
      Holds p ls w → Holds p ls (refreshed_from set number ts w)
  links-hold set number [] w there holds = holds
  links-hold set number (t ∷ ts) w there holds =
      links-hold set (number + 1) ts (refreshed_link set number t w) (λ i n u is at. there (suc i) n u (omega (arith, is)) at)
      (link-holds set number t w (there 0 number t (omega arith) refl) holds)

  -- a refresh
  pub refresh_holds : (set : ℕ) (w : World) → Holds p ls w → Holds p ls (refreshed set w)
  refresh_holds set w holds =
      links-hold set 0 w.ties w
      (λ i n t is at. let same : n ≡ i = omega (arith, is) in ap (λ (m : ℕ). slice_get (ties_in p ls) m) same ∙ ap (λ (ts : List Tied). slice_get ts i) (sym holds.2) ∙ at)
      holds

  -- each element of a link in a copy is one that its type has
  own_fits : (set place link : ℕ) (t : Tied) (w : World) → home_of set link w ≡ Some place → slice_get (ties_in p ls) link ≡ Some t → Holds p ls w →
      (n : ℕ) → n < t.count → is_in t (slice_index_or (copy_of set w).words (place + n) (pos 0)) ≡ true
  own_fits set place link t w home at holds n few =
      let k = at_home p ls tied set link place t w holds.3 home at in
      let old = (copy_of set w).words in
      subst (λ (m : ℕ). is_in t (slice_index_or old (m + n) (pos 0)) ≡ true) k.there (held-fits p sized set k.l t k.v old k.variable k.within k.least k.greatest (holds.0 set) n few)

  -- they come from the copy to its queue
  pub queued_holds : (set place link : ℕ) (t : Tied) (w : World) → home_of set link w ≡ Some place → slice_get w.ties link ≡ Some t → is_queued link w ≡ true → Holds p ls w →
      Holds p ls (enqueued link (copy_of set w).words place w)
  queued_holds set place link t w home is queued holds =
      let at = tied_so link t w holds is in
      (holds.0, holds.1, holds.2, holds.3, put-fits (ties_in p ls) w.queues link t (copy_of set w).words place queued at (own_fits set place link t w home at holds) holds.4, holds.5)

  -- or to its buffer
  pub filled_holds : (set place link : ℕ) (t : Tied) (w : World) → home_of set link w ≡ Some place → slice_get w.ties link ≡ Some t → Holds p ls w →
      Holds p ls (with_buffer t (elements_at set place t w) w)
  filled_holds set place link t w home is holds =
      let at = tied_so link t w holds is in
      let old = (copy_of set w).words in
      let zs = words_at old place t.count in
      let long = length-words old place t.count in (
        holds.0,
        numbers-fit p ls tied.few zs w.buffers link t at (omega (arith, long))
            (λ n less.
            let few : n < t.count = omega (arith, less, long) in
            subst (λ (z : ℤ). is_in t z ≡ true) (sym (word-at old place t.count n (pos 0) few)) (own_fits set place link t w home at holds n few)) holds.1,
        holds.2,
        holds.3,
        holds.4,
        holds.5,
      )
