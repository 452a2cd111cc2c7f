-- That two worlds are the same but for what is hidden in their states is a relation that all steps of a run keep.
use Rattle.std.proofs.Common.{◌≡◌, ◌∙◌, ◌⊎◌, ◌+◌, ◌<◌, inl, ⊎_elim, refl, sym, ap, subst, arith, ℕ, zero, suc, pos, Bool, true, false, List, [], ◌∷◌, None, Some, length, if◌then◌else◌}
use Rattle.std.specs.Prelude.{◌==◌, slice_get, slice_index_or, slice_set}
use Rattle.std.proofs.lemmas.Bool.{eqb-false, eqb-true}
use Rattle.snl_meaning.specs.declared.live.Live.{Live}
use Rattle.snl_meaning.specs.declared.live.Live.TheVariants.{Waiting, Running, Ended}
use Rattle.snl_meaning.specs.declared.ties.Tied.{Tied}
use Rattle.snl_meaning.specs.Links.{buffer_of, with_buffer, with_elements}
use Rattle.snl_meaning.specs.World.{SetMemory, World, copy_of, no_copy, with_copy}
use Rattle.snl_meaning.proofs.Sizes.{set-many}
use Rattle.snl_schedule.specs.Turn.{entered_in}
use Rattle.snl_alike.specs.Runs.{AreAlikeInRuns, NothingMore}
use Rattle.snl_alike.specs.TwoRuns.{KeepsAlike, common_of, with_common}
use Rattle.snl_flows.specs.Flows.{IsAlike}
use Rattle.snl_flows.specs.Outside.{IsSameByState, IsSameCopy, IsSameOutside, Places, each_always, has, hidden_in, places_by, places_for, places_in, places_of, places_with}
use Rattle.snl_flows.specs.Tables.{AreBehind, Ground, HasLinks, room_of}
use Rattle.snl_flows.specs.Texts.{SameButValues}
use Rattle.snl_flows.proofs.Alike.{flow-in-runs, flow-keeps, flow-stale}
use Rattle.snl_flows.proofs.Buffers.{KeepsStale, refreshed-keeps}
use Rattle.snl_flows.proofs.Links.{links-hidden, links-same, links-shown}
use Rattle.snl_flows.proofs.Meets.{always-at}
use Rattle.snl_flows.proofs.Pieces.{CarriesOver, less-open}
use Rattle.snl_flows.proofs.Worlds.{CopiesAgree, copies-set}

-- ---- lists

-- the element that was put in
set-own : {A : Type 0} (xs : List A) (i : ℕ) (x d : A) → i < length xs → slice_index_or (slice_set xs i x) i d ≡ x
set-own [] i x d low = absurd (omega (arith, low))
set-own (y ∷ ys) zero x d low = refl
set-own (y ∷ ys) (suc i) x d low = set-own ys i x d (omega (arith, low))

-- and another one
set-other : {A : Type 0} (xs : List A) (i j : ℕ) (x d : A) → (j ≡ i → ⊥) → slice_index_or (slice_set xs i x) j d ≡ slice_index_or xs j d
set-other [] i j x d other = refl
set-other (y ∷ ys) zero zero x d other = absurd (other refl)
set-other (y ∷ ys) zero (suc j) x d other = refl
set-other (y ∷ ys) (suc i) zero x d other = refl
set-other (y ∷ ys) (suc i) (suc j) x d other = set-other ys i j x d (λ (same : j ≡ i). other (ap suc same))

-- Copies are in the same states.
abbrev pub AreInSame : List SetMemory → List SetMemory → Type 0
AreInSame cs ds = (n : ℕ) → (slice_index_or cs n no_copy).state ≡ (slice_index_or ds n no_copy).state

-- so they are where one is put in that is in the state of the one before
same-states : (cs : List SetMemory) (i : ℕ) (c : SetMemory) → c.state ≡ (slice_index_or cs i no_copy).state → AreInSame (slice_set cs i c) cs
same-states [] i c same n = refl
same-states (x ∷ cs) zero c same zero = same
same-states (x ∷ cs) zero c same (suc n) = refl
same-states (x ∷ cs) (suc i) c same zero = refl
same-states (x ∷ cs) (suc i) c same (suc n) = same-states cs i c same n

-- ---- what is hidden by states

-- the same where states are
pub places-same : (phase : Live) (hidden : List Places) (cs ds : List SetMemory) → AreInSame cs ds → places_with phase hidden cs ≡ places_with phase hidden ds
places-same phase [] cs ds same = refl
places-same phase (s ∷ hidden) [] [] same = refl
places-same phase (s ∷ hidden) [] (d ∷ ds) same =
    ap (λ (n : ℕ). places_by phase s n ∷ places_with phase hidden []) (same 0) ∙ ap (λ (ps : List (List ℕ)). places_by phase s d.state ∷ ps) (places-same phase hidden [] ds (λ n. same (suc n)))
places-same phase (s ∷ hidden) (c ∷ cs) [] same =
    ap (λ (n : ℕ). places_by phase s n ∷ places_with phase hidden cs) (same 0) ∙ ap (λ (ps : List (List ℕ)). places_by phase s 0 ∷ ps) (places-same phase hidden cs [] (λ n. same (suc n)))
places-same phase (s ∷ hidden) (c ∷ cs) (d ∷ ds) same =
    ap (λ (n : ℕ). places_by phase s n ∷ places_with phase hidden cs) (same 0) ∙ ap (λ (ps : List (List ℕ)). places_by phase s d.state ∷ ps) (places-same phase hidden cs ds (λ n. same (suc n)))

-- of a state set
pub place-at : (phase : Live) (hidden : List Places) (cs : List SetMemory) (n : ℕ) →
    places_of (places_with phase hidden cs) n ≡ places_by phase (places_for hidden n) (slice_index_or cs n no_copy).state
place-at Waiting [] cs n = refl
place-at Running [] cs n = refl
place-at Ended [] cs n = refl
place-at phase (s ∷ hidden) [] zero = refl
place-at phase (s ∷ hidden) [] (suc n) = place-at phase hidden [] n
place-at phase (s ∷ hidden) (c ∷ cs) zero = refl
place-at phase (s ∷ hidden) (c ∷ cs) (suc n) = place-at phase hidden cs n

-- What is hidden in each state is hidden in every one.
abbrev pub IsWide : List Places → Type 0
IsWide hidden = (set state k : ℕ) → has (places_for hidden set).always k ≡ true → has (places_in (places_for hidden set) state) k ≡ true

-- so it is by how far the program has come
pub by-wide : (hidden : List Places) → IsWide hidden → (phase : Live) (set state k : ℕ) → has (places_for hidden set).always k ≡ true →
    has (places_by phase (places_for hidden set) state) k ≡ true
by-wide hidden wide Waiting set state k here = here
by-wide hidden wide Running set state k here = wide set state k here
by-wide hidden wide Ended set state k here = wide set state k here

-- and all is hidden in the state
pub in-state : (hidden : List Places) → IsWide hidden → (phase : Live) (set state k : ℕ) → has (places_by phase (places_for hidden set) state) k ≡ true →
    has (places_in (places_for hidden set) state) k ≡ true
in-state hidden wide Waiting set state k here = wide set state k here
in-state hidden wide Running set state k here = here
in-state hidden wide Ended set state k here = here

-- what is so when a program does not wait
comes-less : (hidden : List Places) → IsWide hidden → (old new : Live) → (new ≡ Waiting → ⊥) → (set state k : ℕ) → has (places_by old (places_for hidden set) state) k ≡ true →
    has (places_by new (places_for hidden set) state) k ≡ true
comes-less hidden wide old Waiting waits set state k here = absurd (waits refl)
comes-less hidden wide old Running waits set state k here = in-state hidden wide old set state k here
comes-less hidden wide old Ended waits set state k here = in-state hidden wide old set state k here

-- other places may be hidden, if all that is the same by these is so by those, or else
pub relisted : (stale : List ℕ) (xs ys : List (List ℕ)) (w u : World) →
    ((n k : ℕ) → has (places_of ys n) k ≡ false → (has (places_of xs n) k ≡ false) ⊎ (slice_index_or (copy_of n w).words k (pos 0) ≡ slice_index_or (copy_of n u).words k (pos 0))) →
    IsSameOutside xs stale w u → IsSameOutside ys stale w u
relisted stale xs ys w u less e = record {
  same = e.same;
  long = e.long;
  count = e.count;
  copies = λ n. let c : IsSameCopy (places_of xs n) (copy_of n w) (copy_of n u) = e.copies n in
      record { state = c.state; entered = c.entered; long = c.long; at = λ k shows. ⊎_elim (λ free. c.at k free) (λ same. same) (less n k shows) };
  buffers = e.buffers;
}

-- ---- two worlds

-- What is hidden by state takes all that may differ of buffers, in states that are clean, and while a program waits, if it may; and then each
-- state is clean.
pub record Fits (g : Ground) (hidden : List Places) (Clean : (set state : ℕ) → Type 0) (Waits : Type 0) : Type 0 where
  pub wide : IsWide hidden
  pub hides : (set state link e home : ℕ) (t : Tied) → Clean set state → slice_get g.ties link ≡ Some t → slice_index_or (slice_index_or g.homes set []) link None ≡ Some home →
      e < t.count → has g.stale (t.from + e) ≡ true → has (places_in (places_for hidden set) state) (home + e) ≡ true
  pub queued : (link e : ℕ) (t : Tied) → slice_get g.ties link ≡ Some t → 0 < (room_of g link).0 → e < (room_of g link).1 → has g.stale (t.from + e) ≡ false
  pub waits : Waits → AreBehind (record g { hidden = each_always hidden })
  pub starts : Waits → (set state : ℕ) → Clean set state

module _ (g : Ground) (hidden : List Places) (Clean : (set state : ℕ) → Type 0) (Waits : Type 0) (fits : Fits g hidden Clean Waits) where
  -- what holds for all state sets, where that is hidden which is so in a world
  abbrev pub now : World → Ground
  now w = record g { hidden = hidden_in hidden w }

  -- A program with copies in some states waits if it may, and each state is clean.
  pub record Stands (phase : Live) (copies : List SetMemory) : Type 0 where
    pub waits : phase ≡ Waiting → Waits
    pub clean : (set : ℕ) → Clean set (slice_index_or copies set no_copy).state

  -- Two worlds are the same but for what is hidden in their states, and have the links of the program;
  pub record IsAlikeNow (w u : World) : Type 0 where
    pub stands : Stands w.phase w.copies
    pub links : HasLinks g w
    pub outside : IsSameByState hidden g.stale w u

  -- and a state set is in a state.
  pub record IsAlikeIn (set state : ℕ) (w u : World) : Type 0 where
    pub alike : IsAlikeNow w u
    pub is_in : (copy_of set w).state ≡ state

  -- On the way from a state to one, that is clean, words that are hidden in the first one alone are the same.
  pub record Carries (set from to : ℕ) (w u : World) : Type 0 where
    pub over : CarriesOver hidden set from to w u
    pub clean : Clean set to

  -- what may differ of buffers comes to places that are hidden in the state of a copy, as far as the program has come
  pub hides-by : (phase : Live) (copies : List SetMemory) → Stands phase copies → (set link k home : ℕ) (t : Tied) → slice_get g.ties link ≡ Some t →
      slice_index_or (slice_index_or g.homes set []) link None ≡ Some home → k < t.count → has g.stale (t.from + k) ≡ true →
      has (places_by phase (places_for hidden set) (slice_index_or copies set no_copy).state) (home + k) ≡ true
  hides-by Waiting copies stands set link k home t at begins low stale =
      subst (λ (ps : List ℕ). has ps (home + k) ≡ true) (always-at hidden set) ((fits.waits (stands.waits refl)).hides set link k home t at begins low stale)
  hides-by Running copies stands set link k home t at begins low stale = fits.hides set _ link k home t (stands.clean set) at begins low stale
  hides-by Ended copies stands set link k home t at begins low stale = fits.hides set _ link k home t (stands.clean set) at begins low stale

  -- so it does in a world
  pub behind-now : (w : World) → Stands w.phase w.copies → AreBehind (now w)
  behind-now w stands = record {
    hides = λ set link k home t at begins low stale.
        subst (λ (ps : List ℕ). has ps (home + k) ≡ true) (sym (place-at w.phase hidden w.copies set)) (hides-by w.phase w.copies stands set link k home t at begins low stale);
    queued = fits.queued;
  }

  -- it is so where that is hidden
  pub to-now : (w u : World) → IsAlikeNow w u → IsAlike (now w) w u
  to-now w u e = record { behind = behind-now w e.stands; links = links-hidden g (hidden_in hidden w) w e.links; outside = e.outside }

  -- and back, where a step keeps how far the program has come, and the states
  pub back : (w x y : World) → Stands w.phase w.copies → x.phase ≡ w.phase → AreInSame x.copies w.copies → IsAlike (now w) x y → IsAlikeNow x y
  back w x y stands phase states e = record {
    stands = record { waits = λ is. stands.waits (sym phase ∙ is); clean = λ set. subst (Clean set) (sym (states set)) (stands.clean set) };
    links = links-shown g (hidden_in hidden w) x e.links;
    outside = subst (λ (places : List (List ℕ)). IsSameOutside places g.stale x y)
        (sym (places-same x.phase hidden x.copies w.copies states ∙ ap (λ (l : Live). places_with l hidden w.copies) phase)) e.outside;
  }

  -- what comes to links comes alike
  pub now-stale : KeepsStale g IsAlikeNow
  now-stale = record {
    links = λ w u e. e.links;
    same = λ w u e. e.outside.same;
    changes = λ v w cs xs bs copies shared buffers phase links e.
        back w v (record v { copies = cs; shared = xs; buffers = bs }) e.stands phase (λ n. ap (λ (ws : List SetMemory). (slice_index_or ws n no_copy).state) copies)
        ((flow-stale (now w)).changes v w cs xs bs copies shared buffers phase (links-hidden g (hidden_in hidden w) v links) (to-now w (record w { copies = cs; shared = xs; buffers = bs }) e));
    comes = λ set link home t w u at begins e.
        back w (with_elements set home (buffer_of t w) w) (with_elements set home (buffer_of t u) u) e.stands refl (same-states w.copies set _ refl)
        ((flow-stale (now w)).comes set link home t w u at begins (to-now w u e));
    fills = λ t zs w u e. back w (with_buffer t zs w) (with_buffer t zs u) e.stands refl (λ n. refl) ((flow-stale (now w)).fills t zs w u (to-now w u e));
    others = λ t zs ys w u few less stale e. back w (with_buffer t zs w) (with_buffer t ys u) e.stands refl (λ n. refl) ((flow-stale (now w)).others t zs ys w u few less stale (to-now w u e));
    queues = λ link t w u at some e. (flow-stale (now w)).queues link t w u at some (to-now w u e);
  }

  -- what steps of a state set keep,
  now-keeps : (set : ℕ) → KeepsAlike set IsAlikeNow (SameButValues g.names)
  now-keeps set = record {
    rest = λ w u e. ap common_of e.outside.same;
    rest_changes = λ r w u phase homes ties channels queues e.
        back w (with_common r w) (with_common r u) e.stands phase (λ n. refl)
        ((flow-keeps (now w) set).rest_changes r w u phase homes ties channels queues (to-now w u e));
    prints = λ name text w u e. (flow-keeps (now w) set).prints name text w u (to-now w u e);
    silent = (flow-keeps g set).silent;
    joined = (flow-keeps g set).joined;
  }

  -- and while it is in a state
  keeps-in : (set state : ℕ) → KeepsAlike set (IsAlikeIn set state) (SameButValues g.names)
  keeps-in set state = record {
    rest = λ w u e. ap common_of e.alike.outside.same;
    rest_changes = λ r w u phase homes ties channels queues e. record { alike = (now-keeps set).rest_changes r w u phase homes ties channels queues e.alike; is_in = e.is_in };
    prints = λ name text w u e. (now-keeps set).prints name text w u e.alike;
    silent = (flow-keeps g set).silent;
    joined = (flow-keeps g set).joined;
  }

  -- ---- a state is entered

  module _ (set from to : ℕ) (is_timed : Bool) (w u : World) (low : set < length w.copies) (e : IsAlikeIn set from w u) (carries : Carries set from to w u) where
    -- the copies of the state set
    abbrev first : SetMemory
    first = record (copy_of set w) { state = to; entered = if is_timed then w.time else (copy_of set w).entered }

    abbrev second : SetMemory
    second = record (copy_of set u) { state = to; entered = if is_timed then u.time else (copy_of set u).entered }

    -- what is the same before,
    abbrev Old : ℕ → ℕ → Type 0
    Old n k = has (places_of (hidden_in hidden w) n) k ≡ false

    -- and behind
    abbrev New : ℕ → ℕ → Type 0
    New n k = has (places_of (hidden_in hidden (entered_in set to is_timed w)) n) k ≡ false

    -- the state is entered
    is-to : (copy_of set (entered_in set to is_timed w)).state ≡ to
    is-to = ap (λ (c : SetMemory). c.state) (set-own w.copies set first no_copy low)

    -- each state set is in a clean one
    clean-new : (n : ℕ) → Clean n (copy_of n (entered_in set to is_timed w)).state
    clean-new n = by (n == set) refl
      where
        by : (b : Bool) → (n == set) ≡ b → Clean n (copy_of n (entered_in set to is_timed w)).state
        by true is = subst (λ (m : ℕ). Clean m (copy_of m (entered_in set to is_timed w)).state) (sym (eqb-true n set is)) (subst (Clean set) (sym is-to) carries.clean)
        by false is =
            subst (λ (c : SetMemory). Clean n c.state) (sym (set-other w.copies set n first no_copy (eqb-false n set is)))
            (e.alike.stands.clean n)

    -- of other state sets the same is hidden
    other-new : (n : ℕ) → (n ≡ set → ⊥) → (k : ℕ) → New n k → Old n k
    other-new n other k shows =
        subst (λ (ps : List ℕ). has ps k ≡ false) (sym (place-at w.phase hidden w.copies n))
        (subst (λ (c : SetMemory). has (places_by w.phase (places_for hidden n) c.state) k ≡ false) (set-other w.copies set n first no_copy other)
        (subst (λ (ps : List ℕ). has ps k ≡ false) (place-at w.phase hidden (slice_set w.copies set first) n) shows))

    -- times of entry are the same
    times : (b : Bool) → (if b then w.time else (copy_of set w).entered) ≡ (if b then u.time else (copy_of set u).entered)
    times true = ap (λ (v : World). v.time) e.alike.outside.same
    times false = (e.alike.outside.copies set).entered

    -- what is not hidden in the new state is the same
    open-same : (phase : Live) (k : ℕ) → (has (places_by phase (places_for hidden set) from) k ≡ false →
        slice_index_or (copy_of set w).words k (pos 0) ≡ slice_index_or (copy_of set u).words k (pos 0)) → has (places_by phase (places_for hidden set) to) k ≡ false →
        slice_index_or (copy_of set w).words k (pos 0) ≡ slice_index_or (copy_of set u).words k (pos 0)
    open-same Waiting k old shows = old shows
    open-same Running k old shows = by (has (places_in (places_for hidden set) from) k) refl
      where
        by : (b : Bool) → has (places_in (places_for hidden set) from) k ≡ b → slice_index_or (copy_of set w).words k (pos 0) ≡ slice_index_or (copy_of set u).words k (pos 0)
        by true here = carries.over k here shows
        by false free = old free
    open-same Ended k old shows = by (has (places_in (places_for hidden set) from) k) refl
      where
        by : (b : Bool) → has (places_in (places_for hidden set) from) k ≡ b → slice_index_or (copy_of set w).words k (pos 0) ≡ slice_index_or (copy_of set u).words k (pos 0)
        by true here = carries.over k here shows
        by false free = old free

    -- so it is of the own copy
    own-new : (k : ℕ) → New set k → slice_index_or (copy_of set w).words k (pos 0) ≡ slice_index_or (copy_of set u).words k (pos 0)
    own-new k shows =
        open-same w.phase k
        (λ free. (e.alike.outside.copies set).at k (subst (λ (ps : List ℕ). has ps k ≡ false) (sym (place-at w.phase hidden w.copies set))
        (subst (λ (n : ℕ). has (places_by w.phase (places_for hidden set) n) k ≡ false) (sym e.is_in) free)))
        (subst (λ (n : ℕ). has (places_by w.phase (places_for hidden set) n) k ≡ false) is-to
        (subst (λ (ps : List ℕ). has ps k ≡ false) (place-at w.phase hidden (slice_set w.copies set first) set) shows))

    -- all of it
    entered : IsAlikeIn set to (entered_in set to is_timed w) (entered_in set to is_timed u)
    entered =
        let o = e.alike.outside in
        let both = copies-set Old New w.copies u.copies set first second o.count other-new
        (record { state = refl; entered = times is_timed; words = record { long = (o.copies set).long; at = own-new } })
        (λ n. record { state = (o.copies n).state; entered = (o.copies n).entered; words = record { long = (o.copies n).long; at = (o.copies n).at } }) in
        record {
          alike = record {
            stands = record { waits = e.alike.stands.waits; clean = clean-new };
            links = links-same g w (entered_in set to is_timed w) refl refl refl refl (set-many w.copies set first) e.alike.links;
            outside = record {
              same = ap (λ (v : World). with_copy set second v) o.same;
              long = o.long;
              count = set-many w.copies set first ∙ o.count ∙ sym (set-many u.copies set second);
              copies = λ n. let c : CopiesAgree (New n) _ _ = both n in record { state = c.state; entered = c.entered; long = c.words.long; at = c.words.at };
              buffers = o.buffers;
            };
          };
          is_in = is-to;
        }

  -- ---- how far the program has come

  -- it begins, or ends
  becomes : (phase : Live) → (phase ≡ Waiting → ⊥) → (w u : World) → IsAlikeNow w u → IsAlikeNow (record w { phase = phase }) (record u { phase = phase })
  becomes phase waits w u e = record {
    stands = record { waits = λ is. absurd (waits is); clean = e.stands.clean };
    links = links-same g w (record w { phase = phase }) refl refl refl refl refl e.links;
    outside = relisted g.stale (hidden_in hidden w) (places_with phase hidden w.copies) (record w { phase = phase }) (record u { phase = phase })
        (λ n k shows. inl (subst (λ (ps : List ℕ). has ps k ≡ false) (sym (place-at w.phase hidden w.copies n))
        (less-open (places_by phase (places_for hidden n) (copy_of n w).state) (places_by w.phase (places_for hidden n) (copy_of n w).state) k
        (comes-less hidden fits.wide w.phase phase waits n (copy_of n w).state k) (subst (λ (ps : List ℕ). has ps k ≡ false) (place-at phase hidden w.copies n) shows))))
        (record { same = ap (λ (v : World). record v { phase = phase }) e.outside.same; long = e.outside.long; count = e.outside.count; copies = e.outside.copies; buffers = e.outside.buffers });
  }

  -- ---- runs

  module _ (sets : ℕ) (some : 0 < sets) (as-many : sets ≡ length g.homes) where
    -- what steps keep of two worlds with places that stay
    steps : (w : World) → AreAlikeInRuns sets (λ n m. n ≡ m) (IsAlike (now w)) (λ set state. IsAlike (now w)) NothingMore (SameButValues g.names)
    steps w = flow-in-runs (now w) sets some

    -- there is such a copy
    copy-there : (set : ℕ) (w u : World) → set < sets → IsAlikeNow w u → set < length w.copies
    copy-there set w u low e = let many = e.links.many in omega (arith, low, many, as-many)

    -- all steps of a run keep it
    pub state-in-runs : AreAlikeInRuns sets (λ n m. n ≡ m) IsAlikeNow IsAlikeIn Carries (SameButValues g.names)
    state-in-runs = record {
      some = some;
      keeps = λ set low. now-keeps set;
      keeps_in = λ set state low. keeps-in set state;
      states = λ set low w u e. (e.outside.copies set).state;
      inside = λ set low w u e. record { alike = e; is_in = refl };
      outside = λ set state w u e. e.alike;
      refreshes = λ set low w u e. refreshed-keeps g IsAlikeNow now-stale set w u e;
      enters = λ set from state is_timed low either w u e l. entered set from state is_timed w u (copy-there set w u low e.alike) e l;
      becomes = becomes;
      opens = λ w u e. back w _ _ e.stands refl (λ n. refl) ((steps w).opens w u (to-now w u e));
      wakes = λ w u e. back w _ _ e.stands refl (λ n. refl) ((steps w).wakes w u (to-now w u e));
      times = λ n m w u at e. back w _ _ e.stands refl (λ k. refl) ((steps w).times n m w u at (to-now w u e));
      before = λ n m w u at e. (steps w).before n m w u at (to-now w u e);
      left = λ n m w u at e. (steps w).left n m w u at (to-now w u e);
      starts = λ name w u e. (steps w).starts name w u (to-now w u e);
      goes = λ set from to w u e. (steps w).goes set from to w u (to-now w u e);
      exits = λ name w u e. (steps w).exits name w u (to-now w u e);
      faults = λ set line f w u e. (steps w).faults set line f w u (to-now w u e);
    }
