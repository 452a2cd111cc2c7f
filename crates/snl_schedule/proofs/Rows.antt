-- The links of a channel are all that its values touch, and marked links all that a refresh touches.
use Rattle.std.proofs.Common.{◌≡◌, ◌∙◌, ◌+◌, ◌-◌, ◌<◌, ◌≤◌, ◌==◌, refl, ℕ, zero, suc, ℤ, Bool, true, false, not, ◌&&◌, ◌||◌, List, [], ◌∷◌, Option, None, Some, ap, sym, arith, map, drop, take, length, get_or, slice_get, slice_index_or, if◌then◌else◌}
use Rattle.std.proofs.Math.Seq.{drop-nil}
use Rattle.std.proofs.lemmas.Option.{slice_get_past, slice_get_read}
use Rattle.std.specs.List.{list_all}
use Rattle.snl_meaning.specs.World.{World, with_waiting}
use Rattle.snl_vm.specs.Marks.{IsFirst}
use Rattle.snl_vm.specs.Rows.{has_key, numbers_of}
use Rattle.snl_meaning.specs.declared.ties.Tied.{Tied}
use Rattle.snl_meaning.specs.Links.{home_of, with_buffer, noticed}
use Rattle.snl_schedule.specs.Arrivals.{is_of, is_link_fit, are_fit, AtLink, at_links, received_link, answered_link}
use Rattle.snl_schedule.specs.Instant.{Program}
use Rattle.snl_schedule.specs.Linked.{done_at, done_over, is_fit_at}
use Rattle.snl_schedule.specs.Refresh.{is_marked, with_mark, copied_to, refreshed_from}

-- the member with which the rest of a list begins
front-get : {A : Type 0} (xs : List A) (k : ℕ) (x : A) (rest : List A) → drop k xs ≡ x ∷ rest → slice_get xs k ≡ Some x
front-get [] zero x rest is = absurd (cc)
front-get [] (suc k) x rest is = absurd (cc)
front-get (y ∷ ys) zero x rest is = cc
front-get (y ∷ ys) (suc k) x rest is = front-get ys k x rest is

-- and the rest after it
front-rest : {A : Type 0} (xs : List A) (k : ℕ) (x : A) (rest : List A) → drop k xs ≡ x ∷ rest → drop (suc k) xs ≡ rest
front-rest [] zero x rest is = absurd (cc)
front-rest [] (suc k) x rest is = absurd (cc)
front-rest (y ∷ ys) zero x rest is = cc
front-rest (y ∷ ys) (suc k) x rest is = front-rest ys k x rest is

-- the rest after the member of a number, counted on
front-next : {A : Type 0} (xs : List A) (k : ℕ) (x : A) (rest : List A) → drop k xs ≡ x ∷ rest → drop (k + 1) xs ≡ rest
front-next xs k x rest is = let later : k + 1 ≡ suc k = omega arith in ap (λ n. drop n xs) later ∙ front-rest xs k x rest is

-- what is done at the link of a number that is there,
pub at-there : (p : Program) (act : AtLink) (k : ℕ) (l : Tied) (w : World) → k < length p.links → l ≡ get_or p.links k l → act k l w ≡ done_at p act k w
at-there p act k l w within is =
    sym (ap (λ (o : Option Tied). elim o [ None ↦ w | Some x ↦ act k x w ]) (slice_get_read p.links (length p.links) k l refl within is))

-- and where there is no such link
pub at-none : (p : Program) (act : AtLink) (k : ℕ) (w : World) → length p.links ≤ k → w ≡ done_at p act k w
at-none p act k w beyond = sym (ap (λ (o : Option Tied). elim o [ None ↦ w | Some x ↦ act k x w ]) (slice_get_past p.links k beyond))

-- a link of a channel has its key
same-key : (channel : ℕ) (l : Tied) → is_of channel l ≡ has_key channel l.channel
same-key channel l = by l.channel
  where
    by : (o : Option ℕ) → ◌≡◌ {A = Bool} (elim o [ None ↦ false | Some c ↦ c == channel ]) (has_key channel o)
    by None = refl
    by (Some c) = refl

-- ---- values

module _ (p : Program) (channel : ℕ) (act : AtLink) (idle : (number : ℕ) (l : Tied) (w : World) → is_of channel l ≡ false → act number l w ≡ w) where
  -- one link, before the others
  one-done : (k : ℕ) (l : Tied) (ls : List Tied) (numbers : List ℕ) (w : World) → slice_get p.links k ≡ Some l →
      ((u : World) → done_over p act numbers u ≡ at_links act (k + 1) ls u) →
      done_over p act (if has_key channel l.channel then k ∷ numbers else numbers) w ≡ at_links act (k + 1) ls (act k l w)
  one-done k l ls numbers w at onward = by (has_key channel l.channel) refl
    where
      by : (b : Bool) → has_key channel l.channel ≡ b → done_over p act (if b then k ∷ numbers else numbers) w ≡ at_links act (k + 1) ls (act k l w)
      by true has =
          ap (λ (o : Option Tied). done_over p act numbers (elim o [ None ↦ w | Some x ↦ act k x w ])) at
          ∙ onward (act k l w)
      by false has = onward w ∙ ap (λ (u : World). at_links act (k + 1) ls u) (sym (idle k l w (same-key channel l ∙ has)))

  -- those of a channel are all links where something is done
  over-links : (k : ℕ) (ls : List Tied) (w : World) → drop k p.links ≡ ls →
      done_over p act (numbers_of channel k (map (λ l. l.channel) ls)) w ≡ at_links act k ls w
  over-links k [] w is = refl
  over-links k (l ∷ ls) w is =
      one-done k l ls (numbers_of channel (k + 1) (map (λ x. x.channel) ls)) w (front-get p.links k l ls is)
      (λ u. over-links (k + 1) ls u (front-next p.links k l ls is))

  -- from the first on
  pub over_links : (w : World) → done_over p act (numbers_of channel 0 (map (λ l. l.channel) p.links)) w ≡ at_links act 0 p.links w
  over_links w = over-links 0 p.links w refl

-- values come to no other link
pub receives_idle : (channel : ℕ) (values : List ℤ) (number : ℕ) (l : Tied) (w : World) → is_of channel l ≡ false → received_link channel values number l w ≡ w
receives_idle channel values number l w is = ap (λ (b : Bool). if b then noticed number l (with_buffer l (take l.count values) w) else w) is

-- nor do answers
pub answers_idle : (channel number : ℕ) (l : Tied) (w : World) → is_of channel l ≡ false → answered_link channel number l w ≡ w
answers_idle channel number l w is = ap (λ (b : Bool). if b then with_waiting number false w else w) is

-- one link, before the others
one-fits : (all : List Tied) (channel : ℕ) (values : List ℤ) (k : ℕ) (l : Tied) (ls : List Tied) (numbers : List ℕ) → slice_get all k ≡ Some l →
    list_all (is_fit_at all values) numbers ≡ are_fit channel values ls →
    list_all (is_fit_at all values) (if has_key channel l.channel then k ∷ numbers else numbers) ≡ ((not (is_of channel l) || is_link_fit values l) && are_fit channel values ls)
one-fits all channel values k l ls numbers at onward = by (has_key channel l.channel) refl
  where
    by : (b : Bool) → has_key channel l.channel ≡ b →
        list_all (is_fit_at all values) (if has_key channel l.channel then k ∷ numbers else numbers) ≡ ((not (is_of channel l) || is_link_fit values l) && are_fit channel values ls)
    by true has =
        ap (λ (b : Bool). list_all (is_fit_at all values) (if b then k ∷ numbers else numbers)) has
        ∙ ap (λ (o : Option Tied). (elim o [ None ↦ true | Some x ↦ is_link_fit values x ]) && list_all (is_fit_at all values) numbers) at
        ∙ ap (λ (c : Bool). is_link_fit values l && c) onward
        ∙ ap (λ (c : Bool). (not c || is_link_fit values l) && are_fit channel values ls) (sym (same-key channel l ∙ has))
    by false has =
        ap (λ (b : Bool). list_all (is_fit_at all values) (if b then k ∷ numbers else numbers)) has
        ∙ onward
        ∙ ap (λ (c : Bool). (not c || is_link_fit values l) && are_fit channel values ls) (sym (same-key channel l ∙ has))

-- values fit all links of a channel if they fit those of its row
over-fits : (all : List Tied) (channel : ℕ) (values : List ℤ) (k : ℕ) (ls : List Tied) → drop k all ≡ ls →
    list_all (is_fit_at all values) (numbers_of channel k (map (λ l. l.channel) ls)) ≡ are_fit channel values ls
over-fits all channel values k [] is = refl
over-fits all channel values k (l ∷ ls) is =
    one-fits all channel values k l ls (numbers_of channel (k + 1) (map (λ x. x.channel) ls)) (front-get all k l ls is)
    (over-fits all channel values (k + 1) ls (front-next all k l ls is))

-- from the first on
pub over_fits : (all : List Tied) (channel : ℕ) (values : List ℤ) →
    list_all (is_fit_at all values) (numbers_of channel 0 (map (λ l. l.channel) all)) ≡ are_fit channel values all
over_fits all channel values = over-fits all channel values 0 all refl

-- ---- marks

-- no link from a number on is marked: the refresh of these changes nothing
pub none-refreshed : (set from : ℕ) (ts : List Tied) (w : World) → ((k : ℕ) → from ≤ k → is_marked set k w ≡ false) → refreshed_from set from ts w ≡ w
none-refreshed set from [] w none = refl
none-refreshed set from (t ∷ ts) w none =
    ap (λ (b : Bool). refreshed_from set (from + 1) ts (if b then with_mark set from false (copied_to set (home_of set from w) t w) else w)) (none from (omega arith))
    ∙ none-refreshed set (from + 1) ts w (λ k less. none k (omega (arith, less)))

-- those up to a number are not: the refresh goes on from there
passed : (set from n : ℕ) (ts : List Tied) (w : World) → ((k : ℕ) → from ≤ k → k < from + n → is_marked set k w ≡ false) →
    refreshed_from set from ts w ≡ refreshed_from set (from + n) (drop n ts) w
passed set from zero ts w none = let same : from ≡ from + 0 = omega arith in ap (λ k. refreshed_from set k ts w) same
passed set from (suc n) [] w none = refl
passed set from (suc n) (t ∷ ts) w none =
    let same : from + 1 + n ≡ from + suc n = omega arith in
    ap (λ (b : Bool). refreshed_from set (from + 1) ts (if b then with_mark set from false (copied_to set (home_of set from w) t w) else w)) (none from (omega arith) (omega arith))
    ∙ passed set (from + 1) n ts w (λ k less more. none k (omega (arith, less)) (omega (arith, more)))
    ∙ ap (λ k. refreshed_from set k (drop n ts) w) same

-- what is left after what was left out
drop-further : {A : Type 0} (xs : List A) (n k : ℕ) → drop k (drop n xs) ≡ drop (n + k) xs
drop-further xs zero k = let same : k ≡ 0 + k = omega arith in ap (λ n. drop n xs) same
drop-further [] (suc n) k = drop-nil k ∙ sym (drop-nil (suc n + k))
drop-further (x ∷ xs) (suc n) k = let same : suc n + k ≡ suc (n + k) = omega arith in drop-further xs n k ∙ sym (ap (λ m. drop m (x ∷ xs)) same)

-- where no member stands there is none behind
drop-none : {A : Type 0} (xs : List A) (n : ℕ) → slice_get xs n ≡ None → drop n xs ≡ []
drop-none [] n none = drop-nil n
drop-none (x ∷ xs) zero none = absurd (cc)
drop-none (x ∷ xs) (suc n) none = drop-none xs n none

-- where one stands the rest begins with it
drop-some : {A : Type 0} (xs : List A) (n : ℕ) (x : A) → slice_get xs n ≡ Some x → drop n xs ≡ x ∷ drop (n + 1) xs
drop-some [] n x some = absurd (cc)
drop-some (y ∷ ys) zero x some = let same : y ≡ x = cc in ap (λ z. z ∷ ys) same
drop-some (y ∷ ys) (suc n) x some = let same : suc n + 1 ≡ suc (n + 1) = omega arith in drop-some ys n x some ∙ sym (ap (λ m. x ∷ drop m (y ∷ ys)) same)

-- what is copied leaves what links are tied to
pub copied_ties : (set : ℕ) (home : Option ℕ) (t : Tied) (w : World) → (copied_to set home t w).ties ≡ w.ties
copied_ties set None t w = refl
copied_ties set (Some home) t w = refl

module _ (set from : ℕ) (ts : List Tied) (w : World) where
  -- no link is marked from here on
  pub nothing_left : IsFirst (slice_index_or w.marks set []) from None → refreshed_from set from (drop from ts) w ≡ w
  nothing_left none = none-refreshed set from (drop from ts) w none

  module _ (link : ℕ) (first : IsFirst (slice_index_or w.marks set []) from (Some link)) where
    -- the first that is
    pub first_left : refreshed_from set from (drop from ts) w ≡ refreshed_from set link (drop link ts) w
    first_left =
        let n = link - from in
        let there : from + n ≡ link = omega (arith, first.after) in
        passed set from n (drop from ts) w (λ k less more. first.others k less (omega (arith, more, there)))
        ∙ ap (λ xs. refreshed_from set (from + n) xs w) (drop-further ts from n)
        ∙ ap (λ k. refreshed_from set k (drop k ts) w) there

    -- it is none of these
    pub none_left : slice_get ts link ≡ None → refreshed_from set from (drop from ts) w ≡ w
    none_left beyond = first_left ∙ ap (λ xs. refreshed_from set link xs w) (drop-none ts link beyond)

    -- it is refreshed, and then the others
    pub one_left : (t : Tied) → slice_get ts link ≡ Some t →
        refreshed_from set (link + 1) (drop (link + 1) ts) (with_mark set link false (copied_to set (home_of set link w) t w)) ≡ refreshed_from set from (drop from ts) w
    one_left t at =
        ap (λ (b : Bool). refreshed_from set (link + 1) (drop (link + 1) ts) (if b then with_mark set link false (copied_to set (home_of set link w) t w) else w)) (sym first.marked)
        ∙ sym (ap (λ xs. refreshed_from set link xs w) (drop-some ts link t at))
        ∙ sym first_left
