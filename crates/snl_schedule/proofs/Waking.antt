-- Wakes, one after another.
use Rattle.std.proofs.Common.{◌≡◌, ◌∙◌, ℕ, zero, suc, List, [], ◌++◌, Option, None, Some, Result, Ok, Err, OnErr, refl, ap, sym, subst}
use Rattle.snl_output.specs.declared.faults.Stop.{Stop}
use Rattle.snl_output.specs.Does.{Does, Gave}
use Rattle.snl_output.proofs.Doing.{IsOnWay, on_way-then, on_way-does, stopped-then, gave-silent}
use Rattle.snl_meaning.specs.declared.live.Live.{Live}
use Rattle.snl_meaning.specs.declared.live.Live.TheVariants.{Waiting, Running, Ended}
use Rattle.snl_meaning.specs.Frames.{Frame, frame_of}
use Rattle.snl_meaning.specs.Ran.{Ran, Gives, Faults, also, then_do}
use Rattle.snl_meaning.specs.World.{World}
use Rattle.snl_schedule.specs.Instant.{Program, instant_of}
use Rattle.snl_schedule.specs.Event.{wake_by, wake_before, woken, wakes_of, all_wakes, HasInstant, AtWake, AtLine}

-- where no wake is noted there is none before any time
pub none-noted : (ms : ℕ) (w : World) → w.wake ≡ None → wake_before ms w ≡ None
none-noted ms w none = ap (wake_by ms w.phase) none ∙ by w.phase
  where
    by : (phase : Live) → wake_by ms phase None ≡ None
    by Waiting = refl
    by Running = refl
    by Ended = refl

-- so nothing comes before it
pub no-wakes : (p : Program) (budget ms n : ℕ) (w : World) → w.wake ≡ None → wakes_of p budget ms n w ≡ Gives tt w []
no-wakes p budget ms zero w none = refl
no-wakes p budget ms (suc n) w none = ap (λ (o : Option ℕ). woken p budget (wakes_of p budget ms n) o w) (none-noted ms w none)

module _ (p : Program) (budget ms : ℕ) (w : World) (n m : ℕ) (fuel : n ≡ suc m) (whole : Ran (Unit {0})) (old mid : Option (List ℕ)) (way : IsOnWay old mid whole (wakes_of p budget ms n w)) where
  -- what is left begins with the next wake
  wake_here : (o : Option ℕ) → o ≡ wake_before ms w → IsOnWay old mid whole (woken p budget (wakes_of p budget ms m) o w)
  wake_here o is =
      subst (λ (x : Option ℕ). IsOnWay old mid whole (woken p budget (wakes_of p budget ms m) x w)) (sym is)
      (subst (λ (r : Ran (Unit {0})). IsOnWay old mid whole r) (ap (λ k. wakes_of p budget ms k w) fuel) way)

  -- there is none
  pub wake-none : (o : Option ℕ) → o ≡ wake_before ms w → o ≡ None → Gave tt w old mid whole
  wake-none o is none =
      on_way-does {V = Unit {0}} (λ x. x) (Ok tt) w old mid mid whole (Gives tt w [])
      (subst (λ (x : Option ℕ). IsOnWay old mid whole (woken p budget (wakes_of p budget ms m) x w)) none (wake_here o is)) (gave-silent tt w mid)

  module _ (o : Option ℕ) (is : o ≡ wake_before ms w) (at : ℕ) (some : o ≡ Some at) where
    -- there is one
    wake_at : IsOnWay old mid whole (then_do (instant_of p budget (record w { time = at })) (λ _ u. wakes_of p budget ms m u))
    wake_at = subst (λ (x : Option ℕ). IsOnWay old mid whole (woken p budget (wakes_of p budget ms m) x w)) some (wake_here o is)

    -- its instant was done
    pub wake-goes_on : (new : Option (List ℕ)) (u : World) → Gave tt u mid new (instant_of p budget (record w { time = at })) → IsOnWay old new whole (wakes_of p budget ms m u)
    wake-goes_on new u did = on_way-then old mid new whole (instant_of p budget (record w { time = at })) (λ _ v. wakes_of p budget ms m v) tt u wake_at did

    -- it was stopped
    pub wake-stops : (why : Stop) (new : Option (List ℕ)) (u : World) → Does {V = Unit {0}} {A = Unit {0}} (λ x. x) (Err why) u mid new (instant_of p budget (record w { time = at }))
        → Does {V = Unit {0}} {A = Unit {0}} (λ x. x) (Err why) u old new whole
    wake-stops why new u did =
        on_way-does (λ x. x) (Err why) u old mid new whole (then_do (instant_of p budget (record w { time = at })) (λ _ v. wakes_of p budget ms m v)) wake_at
        (stopped-then {V = Unit {0}} (λ x. x) {U = Unit {0}} (λ x. x) why (instant_of p budget (record w { time = at })) (λ _ v. wakes_of p budget ms m v) u mid new did)

-- ---- the times of instants

-- from a world on some wakes came, and this world after them
pub record IsPast (p : Program) (budget ms : ℕ) (w u : World) : Type 0 where
  pub n : ℕ
  pub text : List ℕ
  pub is : wakes_of p budget ms n w ≡ Gives tt u text

-- a fact that holds however a call ended
pub on_err : {A : Type 0} (result : Result A Stop) {P : Type 0} → P → OnErr result P
on_err (Ok a) h = tt
on_err (Err why) h = h

module _ (p : Program) (budget ms : ℕ) where
  -- none came yet
  pub past-start : (w : World) → IsPast p budget ms w w
  past-start w = record { n = 0; text = []; is = refl }

  -- what so many wakes give, and one more, which gives a world
  abbrev OneMore : (n : ℕ) (w v : World) → Type 0
  OneMore n w v = (all : List ℕ) × (wakes_of p budget ms (suc n) w ≡ Gives tt v all)

  -- the wake after some others is the last of one more
  one-more : (n : ℕ) (w u v : World) (at : ℕ) (text more : List ℕ) → wakes_of p budget ms n w ≡ Gives tt u text → wake_before ms u ≡ Some at →
      instant_of p budget (record u { time = at }) ≡ Gives tt v more → OneMore n w v
  one-more zero w u v at text more is wake did =
      let same : u ≡ w = cc in
      subst (λ (x : World). OneMore 0 x v) same
      (more ++ [], ap (λ (o : Option ℕ). woken p budget (wakes_of p budget ms 0) o u) wake ∙ ap (λ (r : Ran (Unit {0})). then_do r (λ _ x. wakes_of p budget ms 0 x)) did)
  one-more (suc n) w u v at text more is wake did = by (λ x t e. one-more n x u v at t more e wake did) (wake_before ms w) refl
    where
      by : ((x : World) (t : List ℕ) → wakes_of p budget ms n x ≡ Gives tt u t → OneMore n x v) → (o : Option ℕ) → wake_before ms w ≡ o → OneMore (suc n) w v
      by others None none =
          let here : Gives tt w [] ≡ Gives tt u text = sym (ap (λ (o : Option ℕ). woken p budget (wakes_of p budget ms n) o w) none) ∙ is in
          let same : w ≡ u = cc in
          let never : None ≡ Some at = sym none ∙ (ap (wake_before ms) same ∙ wake) in
          absurd (cc)
      by others (Some k) some = at_first (instant_of p budget (record w { time = k })) refl
        where
          -- the first of them, and what follows it
          first-is : (m : ℕ) (r : Ran (Unit {0})) → instant_of p budget (record w { time = k }) ≡ r → wakes_of p budget ms (suc m) w ≡ then_do r (λ _ x. wakes_of p budget ms m x)
          first-is m r e =
              ap (λ (o : Option ℕ). woken p budget (wakes_of p budget ms m) o w) some ∙ ap (λ (q : Ran (Unit {0})). then_do q (λ _ x. wakes_of p budget ms m x)) e

          at_first : (r : Ran (Unit {0})) → instant_of p budget (record w { time = k }) ≡ r → OneMore (suc n) w v
          at_first (Gives a x t) e = at_rest (wakes_of p budget ms n x) refl
            where
              at_rest : (r : Ran (Unit {0})) → wakes_of p budget ms n x ≡ r → OneMore (suc n) w v
              at_rest (Gives b y rest) q =
                  let all : Gives tt u text ≡ also t (Gives b y rest) = sym is ∙ (first-is n (Gives a x t) e ∙ ap (also t) q) in
                  let there : y ≡ u = cc in
                  let then = others x rest (q ∙ ap (λ (z : World). Gives tt z rest) there) in
                  (t ++ then.0, first-is (suc n) (Gives a x t) e ∙ ap (also t) then.1)
              at_rest (Faults f line y rest) q =
                  let all : Gives tt u text ≡ also t (Faults f line y rest) = sym is ∙ (first-is n (Gives a x t) e ∙ ap (also t) q) in absurd (cc)
          at_first (Faults f line x t) e = let all : Gives tt u text ≡ Faults f line x t = sym is ∙ first-is n (Faults f line x t) e in absurd (cc)

  module _ (w u : World) (past : IsPast p budget ms w u) (at : ℕ) (wake : wake_before ms u ≡ Some at) where
    -- one more came
    pub past-on : (old new : Option (List ℕ)) (v : World) → Gave tt v old new (instant_of p budget (record u { time = at })) → IsPast p budget ms w v
    past-on old new v did =
        let more = one-more past.n w u v at past.text did.text past.is wake did.is in record { n = suc past.n; text = more.0; is = more.1 }

    -- it was stopped: then the time is that of the wake
    pub past-stops : (v : World) → frame_of v ≡ frame_of (record u { time = at }) → HasInstant p budget ms w v.time
    past-stops v same =
        subst (λ (t : ℕ). HasInstant p budget ms w t) (sym (ap (λ (f : Frame). f.time) same)) (AtWake past.n at u past.text past.is wake)

  -- after all wakes it was stopped at the line itself
  pub at_line : (w u : World) (result : Result (Unit {0}) Stop) (t : ℕ) (text : List ℕ) → all_wakes p budget ms w ≡ Gives tt u text → OnErr result (t ≡ ms) →
      OnErr result (u.phase ≡ Ended → ⊥) → OnErr result (HasInstant p budget ms w t)
  at_line w u (Ok a) t text is same lives = tt
  at_line w u (Err why) t text is same lives = subst (λ (x : ℕ). HasInstant p budget ms w x) (sym same) (AtLine u text is lives)
