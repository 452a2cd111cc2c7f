-- Links whose values are chosen where they are read: where their words stand, and what follows of links that can be free.
use Rattle.std.proofs.Common.{◌≡◌, ◌∙◌, ◌⊎◌, ◌+◌, ◌-◌, ◌≤◌, ◌<◌, inl, inr, ⊎_elim, refl, sym, ap, subst, arith, ℕ, zero, suc, ℤ, pos, Bool, true, false, List, [], ◌∷◌, ◌++◌, Option, None, Some, map}
use Rattle.std.specs.Prelude.{◌==◌, slice_get, slice_index_or}
use Rattle.std.proofs.lemmas.Bool.{eq-eqb, eqb-false, eqb-true, false≢true, or_cases}
use Rattle.snl_channels.specs.Links.{Link}
use Rattle.snl_flat.specs.declared.code.Code.{Code}
use Rattle.snl_load.specs.Places.{channels, flags_in, placed_sets, tie_of, ties_from}
use Rattle.snl_machine.proofs.Queued.{word-at}
use Rattle.snl_meaning.specs.declared.live.Live.TheVariants.{Waiting}
use Rattle.snl_meaning.specs.declared.names.Placed.{Placed}
use Rattle.snl_meaning.specs.declared.ties.Tied.{Tied}
use Rattle.snl_meaning.specs.Names.{place_after}
use Rattle.snl_meaning.specs.World.{World, copy_of, words_at}
use Rattle.snl_syntax.specs.Programs.{ProgramTree}
use Rattle.snl_flows.specs.Chosen.{AreChosen, AreFree, IsSameByChoice, Share, Strays, with_more}
use Rattle.snl_flows.specs.ChosenLinks.{AreAmongLinks, ChoicesAreOfValues, HaveSame, LinksCanBeChosen, SettledHaveSame, buffers_of_links, share_of, span, words_from, words_in_buffer, words_of_links}
use Rattle.snl_flows.specs.Flows.{ground_of}
use Rattle.snl_flows.specs.Outside.{IsSameByState, Places, has, hidden_in, places_for, places_in, places_of}
use Rattle.snl_flows.specs.Settled.{CanBeFree, IsFree, Layout, StandApart, home_at, layout_for}
use Rattle.snl_flows.specs.Tables.{Ground}
use Rattle.snl_flows.proofs.ByState.{relisted}
use Rattle.snl_flows.proofs.ChosenLaws.{hidden-at, other-way}
use Rattle.snl_flows.proofs.Meets.{or-first, or-second}
use Rattle.snl_flows.proofs.Shares.{has-either, has-first, has-second, with-more-has, with-more-either}

-- ---- spans

-- each number of a span,
span-has : (from many e : ℕ) → e < many → has (span from many) (from + e) ≡ true
span-has from zero e low = absurd (omega (arith, low))
span-has from (suc many) zero low = or-first (from == from + 0) (has (span (suc from) many) (from + 0)) (eq-eqb from (from + 0) (omega arith))
span-has from (suc many) (suc e) low =
    or-second (from == from + suc e) (has (span (suc from) many) (from + suc e))
    (subst (λ (n : ℕ). has (span (suc from) many) n ≡ true) (let same : suc from + e ≡ from + suc e = omega arith in same) (span-has (suc from) many e (omega (arith, low))))

-- and no other
span-within : (from many k : ℕ) → has (span from many) k ≡ true → (from ≤ k) × (k < from + many)
span-within from zero k here = absurd (false≢true here)
span-within from (suc many) k here =
    ⊎_elim (λ (is : (from == k) ≡ true). let same : from ≡ k = eqb-true from k is in (omega (arith, same), omega (arith, same)))
    (λ (more : has (span (suc from) many) k ≡ true). let both = span-within (suc from) many k more in let low = both.0 in let high = both.1 in (omega (arith, low), omega (arith, high)))
    (or_cases (from == k) (has (span (suc from) many) k) here)

-- ---- words of links

-- A word is one of a link from a place on.
record IsWordOf (ties : List Tied) (links : List ℕ) (k link place : ℕ) (t : Tied) : Type 0 where
  pub listed : has links link ≡ true
  pub tied : slice_get ties link ≡ Some t
  pub low : place ≤ k
  pub high : k < place + t.count

-- It is one of some link in a copy,
record IsInCopy (ties : List Tied) (homes : List (Option ℕ)) (links : List ℕ) (k : ℕ) : Type 0 where
  pub link : ℕ
  pub home : ℕ
  pub t : Tied
  pub stands : slice_index_or homes link None ≡ Some home
  pub is : IsWordOf ties links k link home t

-- or in buffers.
record IsInBuffer (ties : List Tied) (links : List ℕ) (k : ℕ) : Type 0 where
  pub link : ℕ
  pub t : Tied
  pub is : IsWordOf ties links k link t.from t

module _ (ties : List Tied) where
  -- a list of links is longer
  wider : (x : ℕ) (links : List ℕ) (k link place : ℕ) (t : Tied) → IsWordOf ties links k link place t → IsWordOf ties (x ∷ links) k link place t
  wider x links k link place t is = record { listed = or-second (x == link) (has links link) is.listed; tied = is.tied; low = is.low; high = is.high }

  -- a word of links in a copy is one of a link,
  in-copy : (homes : List (Option ℕ)) (links : List ℕ) (k : ℕ) → has (words_of_links ties homes links) k ≡ true → IsInCopy ties homes links k
  in-copy homes [] k here = absurd (false≢true here)
  in-copy homes (x ∷ links) k here =
      ⊎_elim (λ (first : has (words_from (slice_get ties x) (slice_index_or homes x None)) k ≡ true). by (slice_get ties x) (slice_index_or homes x None) refl refl first)
      (λ (more : has (words_of_links ties homes links) k ≡ true).
      let one = in-copy homes links k more in
      record { link = one.link; home = one.home; t = one.t; stands = one.stands; is = wider x links k one.link one.home one.t one.is })
      (has-either (words_from (slice_get ties x) (slice_index_or homes x None)) (words_of_links ties homes links) k here)
    where
      by : (o : Option Tied) (q : Option ℕ) → slice_get ties x ≡ o → slice_index_or homes x None ≡ q → has (words_from o q) k ≡ true → IsInCopy ties homes (x ∷ links) k
      by None q tied stands first = absurd (false≢true first)
      by (Some t) None tied stands first = absurd (false≢true first)
      by (Some t) (Some home) tied stands first =
          let both = span-within home t.count k first in
          record {
            link = x;
            home = home;
            t = t;
            stands = stands;
            is = record { listed = or-first (x == x) (has links x) (eq-eqb x x refl); tied = tied; low = both.0; high = both.1 };
          }

  -- and so is one in buffers
  in-buffer : (links : List ℕ) (k : ℕ) → has (buffers_of_links ties links) k ≡ true → IsInBuffer ties links k
  in-buffer [] k here = absurd (false≢true here)
  in-buffer (x ∷ links) k here =
      ⊎_elim (λ (first : has (words_in_buffer (slice_get ties x)) k ≡ true). by (slice_get ties x) refl first)
      (λ (more : has (buffers_of_links ties links) k ≡ true).
      let one = in-buffer links k more in
      record { link = one.link; t = one.t; is = wider x links k one.link one.t.from one.t one.is })
      (has-either (words_in_buffer (slice_get ties x)) (buffers_of_links ties links) k here)
    where
      by : (o : Option Tied) → slice_get ties x ≡ o → has (words_in_buffer o) k ≡ true → IsInBuffer ties (x ∷ links) k
      by None tied first = absurd (false≢true first)
      by (Some t) tied first =
          let both = span-within t.from t.count k first in
          record { link = x; t = t; is = record { listed = or-first (x == x) (has links x) (eq-eqb x x refl); tied = tied; low = both.0; high = both.1 } }

  -- each word of a link in a copy is one of links,
  copy-has : (homes : List (Option ℕ)) (links : List ℕ) (link home e : ℕ) (t : Tied) → has links link ≡ true → slice_get ties link ≡ Some t → slice_index_or homes link None ≡ Some home →
      e < t.count → has (words_of_links ties homes links) (home + e) ≡ true
  copy-has homes [] link home e t listed tied stands low = absurd (false≢true listed)
  copy-has homes (x ∷ links) link home e t listed tied stands low =
      ⊎_elim
      (λ (is : (x == link) ≡ true).
      has-first (words_from (slice_get ties x) (slice_index_or homes x None)) (words_of_links ties homes links) (home + e)
      (subst (λ (n : ℕ). has (words_from (slice_get ties n) (slice_index_or homes n None)) (home + e) ≡ true) (sym (eqb-true x link is)) own))
      (λ (more : has links link ≡ true).
      has-second (words_from (slice_get ties x) (slice_index_or homes x None)) (words_of_links ties homes links) (home + e) (copy-has homes links link home e t more tied stands low))
      (or_cases (x == link) (has links link) listed)
    where
      own : has (words_from (slice_get ties link) (slice_index_or homes link None)) (home + e) ≡ true
      own =
          subst (λ (o : Option Tied). has (words_from o (slice_index_or homes link None)) (home + e) ≡ true) (sym tied)
          (subst (λ (q : Option ℕ). has (words_from (Some t) q) (home + e) ≡ true) (sym stands) (span-has home t.count e low))

  -- and so is each in its buffer
  buffer-has : (links : List ℕ) (link e : ℕ) (t : Tied) → has links link ≡ true → slice_get ties link ≡ Some t → e < t.count → has (buffers_of_links ties links) (t.from + e) ≡ true
  buffer-has [] link e t listed tied low = absurd (false≢true listed)
  buffer-has (x ∷ links) link e t listed tied low =
      ⊎_elim
      (λ (is : (x == link) ≡ true).
      has-first (words_in_buffer (slice_get ties x)) (buffers_of_links ties links) (t.from + e)
      (subst (λ (n : ℕ). has (words_in_buffer (slice_get ties n)) (t.from + e) ≡ true) (sym (eqb-true x link is)) own))
      (λ (more : has links link ≡ true).
      has-second (words_in_buffer (slice_get ties x)) (buffers_of_links ties links) (t.from + e) (buffer-has links link e t more tied low))
      (or_cases (x == link) (has links link) listed)
    where
      own : has (words_in_buffer (slice_get ties link)) (t.from + e) ≡ true
      own = subst (λ (o : Option Tied). has (words_in_buffer o) (t.from + e) ≡ true) (sym tied) (span-has t.from t.count e low)

  -- in a copy that has no links there are none
  none-there : (links : List ℕ) → words_of_links ties [] links ≡ []
  none-there [] = refl
  none-there (x ∷ links) = by (slice_get ties x) (none-there links)
    where
      by : (o : Option Tied) → words_of_links ties [] links ≡ [] → words_from o None ++ words_of_links ties [] links ≡ []
      by None rest = rest
      by (Some t) rest = rest

  -- those of a state set
  share-at : (links : List ℕ) (rows : List (List (Option ℕ))) (set : ℕ) →
      places_of (map (λ (homes : List (Option ℕ)). words_of_links ties homes links) rows) set ≡ words_of_links ties (slice_index_or rows set []) links
  share-at links [] set = sym (none-there links)
  share-at links (homes ∷ rows) zero = refl
  share-at links (homes ∷ rows) (suc set) = share-at links rows set

-- ---- links that can be free

-- two spans that have a number both do not stand apart
not-apart : (place many other more k : ℕ) → StandApart place many other more → place ≤ k → k < place + many → other ≤ k → k < other + more → ⊥
not-apart place many other more k apart low high from to =
    ⊎_elim (λ (before : place + many ≤ other). omega (arith, before, high, from)) (λ (behind : other + more ≤ place). omega (arith, behind, to, low)) apart

-- the width of a queue is that of its link
room-count : (names : List (List ℕ)) (flags : List ℕ) (copies : List (List Placed)) (at : ℕ) (ls : List Link) (link : ℕ) (t : Tied) → slice_get (ties_from names flags copies at ls) link ≡ Some t →
    (slice_index_or {A = ℕ × ℕ} (map (λ (l : Link). (l.queue, l.count)) ls) link (0, 0)).1 ≡ t.count
room-count names flags copies at [] link t tied = absurd (cc)
room-count names flags copies at (l ∷ ls) zero t tied = let same : tie_of names flags copies at l ≡ t = cc in ap (λ (r : Tied). r.count) same
room-count names flags copies at (l ∷ ls) (suc link) t tied = room-count names flags copies (place_after at l.count) ls link t tied

module _ (p : ProgramTree) (ls : List Link) (c : Code) (stale lines : List ℕ) (names : List (List ℕ)) (free : List ℕ) (can : CanBeFree free (layout_for p ls)) where
  -- how words are laid out
  abbrev l : Layout
  l = layout_for p ls

  -- what holds for all state sets
  abbrev ground : Ground
  ground = ground_of p ls c [] stale lines names

  -- a word in the buffer of a link that is one of free buffers is one of a free link
  is-listed : (link e : ℕ) (t : Tied) → slice_get l.ties link ≡ Some t → e < t.count → has (share_of l free).buffers (t.from + e) ≡ true → has free link ≡ true
  is-listed link e t tied low here =
      let one = in-buffer l.ties free (t.from + e) here in by one (one.link == link) refl
    where
      by : (one : IsInBuffer l.ties free (t.from + e)) (b : Bool) → (one.link == link) ≡ b → has free link ≡ true
      by one true is = subst (λ (n : ℕ). has free n ≡ true) (eqb-true one.link link is) one.is.listed
      by one false is =
          absurd (not-apart one.t.from one.t.count t.from t.count (t.from + e)
          (can.apart one.link link one.t t (record { listed = one.is.listed; tied = one.is.tied }) tied (eqb-false one.link link is))
          one.is.low one.is.high (omega arith) (omega (arith, low)))

  -- they are free by their words
  pub are-free : (hidden : List Places) → ((set k : ℕ) → has (places_of (share_of l free).words set) k ≡ true → has (places_for hidden set).always k ≡ false) → AreFree ground hidden (share_of l free)
  are-free hidden shown = record {
    shown = shown;
    comes = λ set link e home t tied stands low here.
        subst (λ (ps : List ℕ). has ps (home + e) ≡ true) (sym (share-at l.ties free l.homes set))
        (copy-has l.ties (slice_index_or l.homes set []) free link home e t (is-listed link e t tied low here) tied stands low);
    queueless = λ link e t tied some low.
        other-way (has (share_of l free).buffers (t.from + e))
        (λ here.
        let width = room-count (channels ls) (flags_in p) (placed_sets p 0 p.state_sets) 0 ls link t tied in
        let none = can.queueless link t (record { listed = is-listed link e t tied (subst (λ (n : ℕ). e < n) width low) here; tied = tied }) in
        omega (arith, none, some));
  }

  -- some of them are chosen by theirs
  pub are-chosen : (chosen : List ℕ) → AreAmongLinks chosen free → AreChosen ground (share_of l free) (share_of l chosen)
  are-chosen chosen among = record {
    words = λ set k here.
        let one = in-copy l.ties (slice_index_or l.homes set []) chosen k (subst (λ (ps : List ℕ). has ps k ≡ true) (share-at l.ties chosen l.homes set) here) in
        let low = one.is.low in
        let high = one.is.high in
        let same : one.home + (k - one.home) ≡ k = omega (arith, low) in
        subst (λ (ps : List ℕ). has ps k ≡ true) (sym (share-at l.ties free l.homes set))
        (subst (λ (n : ℕ). has (words_of_links l.ties (slice_index_or l.homes set []) free) n ≡ true) same
        (copy-has l.ties (slice_index_or l.homes set []) free one.link one.home (k - one.home) one.t (among one.link one.is.listed) one.is.tied one.stands (omega (arith, low, high))));
    comes = λ set link e home t tied stands low here.
        let one = in-copy l.ties (slice_index_or l.homes set []) chosen (home + e) (subst (λ (ps : List ℕ). has ps (home + e) ≡ true) (share-at l.ties chosen l.homes set) here) in
        buffer-has l.ties chosen link e t (is-own set link e home t tied stands low one (one.link == link) refl) tied low;
  }
    where
      -- it is one of the link itself
      is-own : (set link e home : ℕ) (t : Tied) → slice_get l.ties link ≡ Some t → home_at l set link ≡ Some home → e < t.count →
          (one : IsInCopy l.ties (slice_index_or l.homes set []) chosen (home + e)) (b : Bool) → (one.link == link) ≡ b → has chosen link ≡ true
      is-own set link e home t tied stands low one true is = subst (λ (n : ℕ). has chosen n ≡ true) (eqb-true one.link link is) one.is.listed
      is-own set link e home t tied stands low one false is =
          absurd (not-apart one.home one.t.count home t.count (home + e)
          (can.alone set one.link link one.home home one.t t (record { listed = among one.link one.is.listed; tied = one.is.tied }) tied one.stands stands (eqb-false one.link link is))
          one.is.low one.is.high (omega arith) (omega (arith, low)))

-- the law
pub links_can_be_chosen : LinksCanBeChosen
links_can_be_chosen = record {
  can_be_free = λ p ls c hidden stale lines names free can shown. are-free p ls c stale lines names free can hidden shown;
  can_be_chosen = λ p ls c stale lines names free chosen can among. are-chosen p ls c stale lines names free can chosen among;
}

-- ---- values of links

-- what is no mark is what the buffer has
unmarked-has : (b : Bool) (xs ys : List ℤ) → b ≡ false → (b ≡ true) ⊎ (xs ≡ ys) → xs ≡ ys
unmarked-has b xs ys none either = ⊎_elim (λ marked. absurd (false≢true (sym none ∙ marked))) (λ same. same) either

-- links that are settled have the same
pub settled_have_same : SettledHaveSame
settled_have_same free chosen values laid w u among first second none neither same = record {
  buffers = same;
  copies = λ set link home t is stands.
      let own : IsFree free laid link t = record { listed = among link is.listed; tied = is.tied } in
      unmarked-has _ _ _ (none set link home t is stands) (first.copies set link home t own stands) ∙ same link t is
      ∙ sym (unmarked-has _ _ _ (neither set link home t is stands) (second.copies set link home t own stands));
}

-- a word among so many that are the same
word-same : (xs ys : List ℤ) (place many k : ℕ) → place ≤ k → k < place + many → words_at xs place many ≡ words_at ys place many → slice_index_or xs k (pos 0) ≡ slice_index_or ys k (pos 0)
word-same xs ys place many k low high same =
    let e : place + (k - place) ≡ k = omega (arith, low) in
    let few : k - place < many = omega (arith, low, high) in
    subst (λ (n : ℕ). slice_index_or xs n (pos 0) ≡ slice_index_or ys n (pos 0)) e
    (sym (word-at xs place many (k - place) (pos 0) few) ∙ ap (λ (zs : List ℤ). slice_index_or zs (k - place) (pos 0)) same ∙ word-at ys place many (k - place) (pos 0) few)

module _ (hidden : List Places) (stale free chosen : List ℕ) (l : Layout) (w u : World) (same : HaveSame chosen l w u) where
  -- words of chosen links are the same,
  words-same : (set k : ℕ) → has (places_of (share_of l chosen).words set) k ≡ true → slice_index_or (copy_of set w).words k (pos 0) ≡ slice_index_or (copy_of set u).words k (pos 0)
  words-same set k here =
      let one = in-copy l.ties (slice_index_or l.homes set []) chosen k (subst (λ (ps : List ℕ). has ps k ≡ true) (share-at l.ties chosen l.homes set) here) in
      word-same (copy_of set w).words (copy_of set u).words one.home one.t.count k one.is.low one.is.high
      (same.copies set one.link one.home one.t (record { listed = one.is.listed; tied = one.is.tied }) one.stands)

  -- and so are those of their buffers
  buffers-same : (k : ℕ) → has (share_of l chosen).buffers k ≡ true → slice_index_or w.buffers k (pos 0) ≡ slice_index_or u.buffers k (pos 0)
  buffers-same k here =
      let one = in-buffer l.ties chosen k here in
      word-same w.buffers u.buffers one.t.from one.t.count k one.is.low one.is.high (same.buffers one.link one.t (record { listed = one.is.listed; tied = one.is.tied }))

  -- worlds that are the same but for all free words are alike by the choice
  by-values : (w.phase ≡ Waiting → ⊥) → IsSameByState (with_more hidden (share_of l free).words) (stale ++ (share_of l free).buffers) w u →
      ((set : ℕ) → Strays hidden (share_of l free) (share_of l chosen) set (copy_of set w).state → ⊥) → IsSameByChoice hidden stale (share_of l free) (share_of l chosen) w u
  by-values runs e within = record {
    runs = runs;
    outside = relisted (stale ++ (share_of l free).buffers) (hidden_in (with_more hidden (share_of l free).words) w) (hidden_in hidden w) w u seen e;
    words = words-same;
    buffers = buffers-same;
    within = within;
  }
    where
      -- what is not hidden by state is none of the free words, or one that is chosen
      seen : (n k : ℕ) → has (places_of (hidden_in hidden w) n) k ≡ false →
          (has (places_of (hidden_in (with_more hidden (share_of l free).words) w) n) k ≡ false) ⊎ (slice_index_or (copy_of n w).words k (pos 0) ≡ slice_index_or (copy_of n u).words k (pos 0))
      seen n k shows =
          by (has (places_of (hidden_in (with_more hidden (share_of l free).words) w) n) k) (has (places_of (share_of l chosen).words n) k) refl refl
        where
          read : has (places_in (places_for hidden n) (copy_of n w).state) k ≡ false
          read = subst (λ (ps : List ℕ). has ps k ≡ false) (hidden-at hidden w runs n) shows

          by : (a b : Bool) → has (places_of (hidden_in (with_more hidden (share_of l free).words) w) n) k ≡ a → has (places_of (share_of l chosen).words n) k ≡ b →
              (has (places_of (hidden_in (with_more hidden (share_of l free).words) w) n) k ≡ false) ⊎ (slice_index_or (copy_of n w).words k (pos 0) ≡ slice_index_or (copy_of n u).words k (pos 0))
          by false b is other = inl is
          by true true is other = inr (words-same n k other)
          by true false is other =
              ⊎_elim (λ (here : has (places_in (places_for hidden n) (copy_of n w).state) k ≡ true). absurd (false≢true (sym read ∙ here)))
              (λ (is-free : has (places_of (share_of l free).words n) k ≡ true). absurd (within n (record { word = k; is_free = is-free; other = other; read = read })))
              (with-more-either hidden (share_of l free).words n (copy_of n w).state k
              (subst (λ (ps : List ℕ). has ps k ≡ true) (hidden-at (with_more hidden (share_of l free).words) w runs n) is))

-- worlds that are alike by a choice are the same but for all free words
but-for-free : (hidden : List Places) (stale : List ℕ) (free chosen : Share) (w u : World) → IsSameByChoice hidden stale free chosen w u →
    IsSameByState (with_more hidden free.words) (stale ++ free.buffers) w u
but-for-free hidden stale free chosen w u s =
    relisted (stale ++ free.buffers) (hidden_in hidden w) (hidden_in (with_more hidden free.words) w) w u
    (λ n k shows. inl (other-way (has (places_of (hidden_in hidden w) n) k)
    (λ here. false≢true (sym shows ∙ ap (λ (ps : List ℕ). has ps k) (hidden-at (with_more hidden free.words) w s.runs n)
    ∙ with-more-has hidden free.words n (copy_of n w).state k (subst (λ (ps : List ℕ). has ps k ≡ true) (hidden-at hidden w s.runs n) here))))) s.outside

-- the law
pub choices_are_of_values : ChoicesAreOfValues
choices_are_of_values = record {
  alike = λ hidden stale free chosen l w u runs e same within. by-values hidden stale free chosen l w u same runs e within;
  apart = but-for-free;
}
