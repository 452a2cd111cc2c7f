-- The buffers of links have words of their own, and what is done where values of a channel come to its links.
use Rattle.std.proofs.Common.{◌≡◌, ◌∙◌, ◌+◌, ◌<◌, ◌≤◌, ◌⊎◌, inl, inr, refl, sym, ap, subst, arith, true≢false, ℕ, zero, suc, ℤ, Bool, true, false, List, [], ◌∷◌, ◌++◌, Option, None, Some, slice_get, length, take, drop, if◌then◌else◌}
use Rattle.std.specs.Prelude.{◌-◌, ◌^◌}
use Rattle.std.proofs.lemmas.Bool.{cases_order}
use Rattle.snl_syntax.specs.Programs.{ProgramTree}
use Rattle.snl_channels.specs.Links.{Link}
use Rattle.snl_load.specs.Places.{channels, flags_in, placed_sets, ties_in}
use Rattle.snl_machine.specs.Layout.{BuffersAreCells}
use Rattle.snl_machine.specs.Ranges.{counts}
use Rattle.snl_machine.proofs.Cells.{words-same, overwritten-away, overwritten-front}
use Rattle.snl_machine.proofs.Filling.{tie-within, tie-apart, take-few}
use Rattle.snl_meaning.specs.declared.ties.Tied.{Tied}
use Rattle.snl_meaning.specs.Links.{buffer_of, with_buffer, is_queued, enqueued, flagged, all_marked}
use Rattle.snl_meaning.specs.World.{World, with_flag}
use Rattle.snl_meaning.proofs.Sizes.{overwritten-many}
use Rattle.snl_schedule.specs.Arrivals.{is_of, received_link, received_from}

-- ---- buffers

-- the words of two links stand apart
abbrev pub AreApart : Tied → Tied → Type 0
AreApart t r = (t.from + t.count ≤ r.from) ⊎ (r.from + r.count ≤ t.from)

module _ (p : ProgramTree) (ls : List Link) (few : counts ls ≤ 2 ^ 64 - 1) where
  -- a link lies within the words of all
  pub tie-lies : (i : ℕ) (t : Tied) → slice_get (ties_in p ls) i ≡ Some t → t.from + t.count ≤ counts ls
  tie-lies i t is =
      let lies = tie-within (channels ls) (flags_in p) (placed_sets p 0 p.state_sets) ls 0 i t (omega (arith, few)) is in
      omega (arith, lies.1)

  -- two links stand apart
  pub ties-apart : (i j : ℕ) (t r : Tied) → slice_get (ties_in p ls) i ≡ Some t → slice_get (ties_in p ls) j ≡ Some r → (i ≡ j → ⊥) → AreApart t r
  ties-apart i j t r is_t is_r not = by (cases_order i j)
    where
      by : (i ≡ j) ⊎ ((i < j) ⊎ (j < i)) → AreApart t r
      by (inl e) = absurd (not e)
      by (inr (inl less)) = inl (tie-apart (channels ls) (flags_in p) (placed_sets p 0 p.state_sets) ls 0 i j t r (omega (arith, few)) less is_t is_r)
      by (inr (inr more)) = inr (tie-apart (channels ls) (flags_in p) (placed_sets p 0 p.state_sets) ls 0 j i r t (omega (arith, few)) more is_r is_t)

  -- two words that are one are the same word of the same link
  one-word-of : (i j k m : ℕ) (t r : Tied) → slice_get (ties_in p ls) i ≡ Some t → slice_get (ties_in p ls) j ≡ Some r → k < t.count → m < r.count →
      t.from + k ≡ r.from + m → (i ≡ j) × (k ≡ m)
  one-word-of i j k m t r is_t is_r less_t less_r same = by (cases_order i j)
    where
      separate : (i ≡ j → ⊥) → ⊥
      separate not = split (ties-apart i j t r is_t is_r not)
        where
          split : AreApart t r → ⊥
          split (inl before) = omega (arith, before, less_t, less_r, same)
          split (inr behind) = omega (arith, behind, less_t, less_r, same)

      by : (i ≡ j) ⊎ ((i < j) ⊎ (j < i)) → (i ≡ j) × (k ≡ m)
      by (inl e) =
          let both : Some t ≡ Some r = sym is_t ∙ ap (slice_get (ties_in p ls)) e ∙ is_r in
          let one : t ≡ r = cc in
          let from : t.from ≡ r.from = ap (λ (x : Tied). x.from) one in
          (e, let is : k ≡ m = omega (arith, from, same) in is)
      by (inr (inl less)) = absurd (separate (λ (e : i ≡ j). omega (arith, e, less)))
      by (inr (inr more)) = absurd (separate (λ (e : i ≡ j). omega (arith, e, more)))

-- numbers that come to the buffer of a link leave that of another one
pub away-from : (t r : Tied) (zs : List ℤ) (w : World) → AreApart t r → length zs ≤ t.count → buffer_of r (with_buffer t zs w) ≡ buffer_of r w
away-from t r zs w apart short =
    words-same (with_buffer t zs w).buffers w.buffers r.from r.count (λ j less. overwritten-away zs w.buffers t.from (r.from + j) (by j less apart))
  where
    by : (j : ℕ) → j < r.count → AreApart t r → (r.from + j < t.from) ⊎ (t.from + length zs ≤ r.from + j)
    by j less (inl before) = inr (omega (arith, before, short))
    by j less (inr behind) = inl (omega (arith, behind, less))

-- the law
pub buffers_are_cells : BuffersAreCells
buffers_are_cells = record {
  apart = λ p ls i j k m t r few. one-word-of p ls few i j k m t r;
  within = λ p ls i t few. tie-lies p ls few i t;
  fills = λ p ls i t zs w few many is short. (
    overwritten-front zs w.buffers t.from t.count short (let lies = tie-lies p ls few i t is in omega (arith, lies, many)),
    λ j r at not. away-from t r zs w (ties-apart p ls few i j t r is at not) short,
    refl,
  );
}

-- ---- values that come

-- each single change at a link keeps a relation
pub record IsKeptAt (values : List ℤ) (R : World → World → Type 0) (number : ℕ) (t : Tied) : Type 0 where
  pub fills : (w : World) → R w (with_buffer t (take t.count values) w)
  pub enqueues : t.is_monitored ≡ true → (w : World) → is_queued number w ≡ true → R w (enqueued number w.buffers t.from w)
  pub marks : t.is_monitored ≡ true → (w : World) → is_queued number w ≡ false → R w (all_marked None number w)
  pub signals : t.is_monitored ≡ true → (flag : ℕ) (w : World) → t.flag ≡ Some flag → R w (with_flag flag true w)

-- what each change at a link of the channel keeps is kept where values come to links
module _ (channel : ℕ) (values : List ℤ) (R : World → World → Type 0) (nothing : (w : World) → R w w) (both : (a b c : World) → R a b → R b c → R a c) where
  -- at a link
  pub link-keeps : (number : ℕ) (t : Tied) (w : World) → (is_of channel t ≡ true → IsKeptAt values R number t) → R w (received_link channel values number t w)
  link-keeps number t w kept = by (is_of channel t) t.is_monitored (is_queued number there) t.flag refl refl refl refl
    where
      there : World
      there = with_buffer t (take t.count values) w

      told : Bool → World
      told queued = if queued then enqueued number there.buffers t.from there else all_marked None number there

      announces : (queued : Bool) → t.is_monitored ≡ true → is_queued number there ≡ queued → IsKeptAt values R number t → R there (told queued)
      announces true on some k = k.enqueues on there some
      announces false on some k = k.marks on there some

      by : (own monitored queued : Bool) (flag : Option ℕ) → is_of channel t ≡ own → t.is_monitored ≡ monitored → is_queued number there ≡ queued → t.flag ≡ flag →
          R w (if own then (if monitored then flagged flag (told queued) else there) else w)
      by false monitored queued flag is on some has = nothing w
      by true false queued flag is on some has = (kept is).fills w
      by true true queued None is on some has = both w there (told queued) ((kept is).fills w) (announces queued on some (kept is))
      by true true queued (Some flag) is on some has =
          both w (told queued) (with_flag flag true (told queued)) (both w there (told queued) ((kept is).fills w) (announces queued on some (kept is)))
          ((kept is).signals on flag (told queued) has)

  -- at links from a number on
  pub links-keep : (number : ℕ) (ts : List Tied) (w : World) → ((i n : ℕ) (t : Tied) → n ≡ number + i → slice_get ts i ≡ Some t → is_of channel t ≡ true → IsKeptAt values R n t) →
      R w (received_from channel values number ts w)
  links-keep number [] w kept = nothing w
  links-keep number (t ∷ ts) w kept =
      both w (received_link channel values number t w) (received_from channel values (number + 1) ts (received_link channel values number t w))
      (link-keeps number t w (kept 0 number t (omega arith) refl))
      (links-keep (number + 1) ts (received_link channel values number t w) (λ i n r is at. kept (suc i) n r (omega (arith, is)) at))

-- the same of a relation that says that something is as before
module _ (channel : ℕ) (values : List ℤ) {A : Type 0} (look : World → A) where
  -- it is as before
  abbrev pub Stays : World → World → Type 0
  Stays w u = look u ≡ look w

  -- nothing changes
  pub none : (w : World) → Stays w w
  none w = refl

  -- one change after another
  pub two : (a b c : World) → Stays a b → Stays b c → Stays a c
  two a b c first second = second ∙ first

  -- at links of the program
  pub stay : (ts : List Tied) (w : World) → ((i : ℕ) (t : Tied) → slice_get ts i ≡ Some t → is_of channel t ≡ true → IsKeptAt values Stays i t) →
      look (received_from channel values 0 ts w) ≡ look w
  stay ts w kept = links-keep channel values Stays none two 0 ts w (λ i n t is at own. subst (λ (m : ℕ). IsKeptAt values Stays m t) (sym (let e : n ≡ i = omega (arith, is) in e)) (kept i t at own))

-- the same of a relation that says that what holds still does
module _ (channel : ℕ) (values : List ℤ) (Holds : World → Type 0) where
  -- it still does
  abbrev pub Lasts : World → World → Type 0
  Lasts w u = Holds w → Holds u

  -- at a link
  link-lasts : (number : ℕ) (t : Tied) (w : World) → (is_of channel t ≡ true → IsKeptAt values Lasts number t) → Holds w → Holds (received_link channel values number t w)
  link-lasts number t w = link-keeps channel values Lasts (λ v held. held) (λ a b c first second held. second (first held)) number t w

  -- at links from a number on
  links-last : (number : ℕ) (ts : List Tied) (w : World) → ((i n : ℕ) (t : Tied) → n ≡ number + i → slice_get ts i ≡ Some t → is_of channel t ≡ true → IsKeptAt values Lasts n t) →
      Holds w → Holds (received_from channel values number ts w)
  links-last number ts w = links-keep channel values Lasts (λ v held. held) (λ a b c first second held. second (first held)) number ts w

-- what holds before a link of the channel, and what that makes hold, where all other links keep both
module _ (channel : ℕ) (values : List ℤ) (Before After : World → Type 0) where
  -- a link keeps both
  abbrev pub KeepsBoth : ℕ → Tied → Type 0
  KeepsBoth number t = IsKeptAt values (Lasts channel values Before) number t × IsKeptAt values (Lasts channel values After) number t

  -- what one among them makes hold, holds after all
  pub among : (number : ℕ) (ts : List Tied) (i n : ℕ) (t : Tied) (w : World) → n ≡ number + i → slice_get ts i ≡ Some t →
      ((v : World) → Before v → After (received_link channel values n t v)) →
      ((j m : ℕ) (r : Tied) → m ≡ number + j → slice_get ts j ≡ Some r → (n ≡ m → ⊥) → is_of channel r ≡ true → KeepsBoth m r) →
      Before w → After (received_from channel values number ts w)
  among number [] i n t w is at own kept before = absurd (cc)
  among number (x ∷ ts) zero n t w is at own kept before =
      let e : n ≡ number = omega (arith, is) in
      let one : t ≡ x = cc in
      let mine : After (received_link channel values number x w) =
      subst (λ (y : Tied). After (received_link channel values number y w)) one (subst (λ (m : ℕ). After (received_link channel values m t w)) e (own w before)) in
      links-last channel values After (number + 1) ts (received_link channel values number x w)
      (λ j m r at_m is_r member. (kept (suc j) m r (omega (arith, at_m)) is_r (λ (f : n ≡ m). omega (arith, is, at_m, f)) member).1) mine
  among number (x ∷ ts) (suc i) n t w is at own kept before =
      let first : Before (received_link channel values number x w) =
      link-lasts channel values Before number x w (λ member. (kept 0 number x (omega arith) refl (λ (f : n ≡ number). omega (arith, is, f)) member).0) before in
      among (number + 1) ts i n t (received_link channel values number x w) (omega (arith, is)) at own (λ j m r at_m is_r. kept (suc j) m r (omega (arith, at_m)) is_r) first

-- how many words there are
length-stays : (channel : ℕ) (values : List ℤ) (number : ℕ) (t : Tied) (w : World) → length (received_link channel values number t w).buffers ≡ length w.buffers
length-stays channel values number t w =
    let L = λ (u : World). length u.buffers in
    link-keeps channel values (Stays channel values L) (none channel values L) (two channel values L) number t w
    (λ own. record {
      fills = λ u. overwritten-many (take t.count values) u.buffers t.from;
      enqueues = λ on u some. refl;
      marks = λ on u some. refl;
      signals = λ on flag u is. refl;
    })

-- the buffer of a link
abbrev BufferStays : Tied → World → World → Type 0
BufferStays r w u = buffer_of r u ≡ buffer_of r w

-- one that stands apart from a link stays
apart-stays : (channel : ℕ) (values : List ℤ) (number : ℕ) (t r : Tied) (w : World) → (is_of channel t ≡ true → AreApart t r) →
    buffer_of r (received_link channel values number t w) ≡ buffer_of r w
apart-stays channel values number t r w apart =
    link-keeps channel values (Stays channel values (buffer_of r)) (none channel values (buffer_of r)) (two channel values (buffer_of r)) number t w
    (λ own. record {
      fills = λ u. away-from t r (take t.count values) u (apart own) (take-few t.count values);
      enqueues = λ on u some. refl;
      marks = λ on u some. refl;
      signals = λ on flag u is. refl;
    })

-- one that stands apart from links stays
pub all-apart-stay : (channel : ℕ) (values : List ℤ) (number : ℕ) (ts : List Tied) (r : Tied) (w : World) → ((i : ℕ) (t : Tied) → slice_get ts i ≡ Some t → is_of channel t ≡ true → AreApart t r) →
    buffer_of r (received_from channel values number ts w) ≡ buffer_of r w
all-apart-stay channel values number [] r w apart = refl
all-apart-stay channel values number (t ∷ ts) r w apart =
    all-apart-stay channel values (number + 1) ts r (received_link channel values number t w) (λ i u at. apart (suc i) u at)
    ∙ apart-stays channel values number t r w (apart 0 t refl)

-- what a link has after values came to it
abbrev pub Filled : (values : List ℤ) → Tied → World → List ℤ
Filled values t w = take t.count values ++ drop (length (take t.count values)) (buffer_of t w)

-- a link of the channel, where values come to it alone
own-filled : (channel : ℕ) (values : List ℤ) (number : ℕ) (t : Tied) (w : World) → is_of channel t ≡ true → t.from + t.count ≤ length w.buffers →
    buffer_of t (received_link channel values number t w) ≡ Filled values t w
own-filled channel values number t w own within = by (is_of channel t) t.is_monitored (is_queued number there) t.flag own
  where
    there : World
    there = with_buffer t (take t.count values) w

    filled : buffer_of t there ≡ Filled values t w
    filled = overwritten-front (take t.count values) w.buffers t.from t.count (take-few t.count values) within

    by : (is monitored queued : Bool) (flag : Option ℕ) → is ≡ true →
        buffer_of t (if is then (if monitored then flagged flag (if queued then enqueued number there.buffers t.from there else all_marked None number there) else there) else w)
        ≡ Filled values t w
    by false monitored queued flag e = absurd (true≢false (sym e))
    by true false queued flag e = filled
    by true true true None e = filled
    by true true false None e = filled
    by true true true (Some flag) e = filled
    by true true false (Some flag) e = filled

-- a link of the channel among others
pub filled-among : (channel : ℕ) (values : List ℤ) (number : ℕ) (ts : List Tied) (i : ℕ) (t : Tied) (w : World) →
    ((a b : ℕ) (r s : Tied) → slice_get ts a ≡ Some r → slice_get ts b ≡ Some s → (a ≡ b → ⊥) → AreApart r s) →
    slice_get ts i ≡ Some t → is_of channel t ≡ true → t.from + t.count ≤ length w.buffers → buffer_of t (received_from channel values number ts w) ≡ Filled values t w
filled-among channel values number [] i t w apart is own within = absurd (cc)
filled-among channel values number (x ∷ ts) zero t w apart is own within =
    let one : x ≡ t = cc in
    let mine : buffer_of t (received_link channel values number x w) ≡ Filled values t w =
    ap (λ (y : Tied). buffer_of t (received_link channel values number y w)) one ∙ own-filled channel values number t w own within in
    all-apart-stay channel values (number + 1) ts t (received_link channel values number x w)
    (λ j r at member. apart (suc j) 0 r t at is (λ (e : suc j ≡ 0). omega (arith, e))) ∙ mine
filled-among channel values number (x ∷ ts) (suc i) t w apart is own within =
    let u = received_link channel values number x w in
    let many = length-stays channel values number x w in
    filled-among channel values (number + 1) ts i t u
    (λ a b r s at_r at_s not. apart (suc a) (suc b) r s at_r at_s (λ (e : suc a ≡ suc b). not (let same : a ≡ b = omega (arith, e) in same))) is own (omega (arith, within, many))
    ∙ ap (λ (l : List ℤ). take t.count values ++ drop (length (take t.count values)) l)
    (apart-stays channel values number x t w (λ member. apart 0 (suc i) x t refl is (λ (e : 0 ≡ suc i). omega (arith, e))))
