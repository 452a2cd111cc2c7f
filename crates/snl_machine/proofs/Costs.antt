-- What steps cost: each tick that is spent pays for three times the length of the code. A transition's tick pays for its three
-- pieces; one of a loop or of a call, which may lead back twice, for two.
use Rattle.std.proofs.Common.{◌≡◌, ◌+◌, ◌*◌, ◌≤◌, ℕ, suc, Bool, true, false, List, [], ◌∷◌, Option, None, Some, refl, ap, sym, ◌∙◌, arith, length, if◌then◌else◌}
use Rattle.std.proofs.Math.Nat.{mul-le-mul_right, suc-mul, mul_assoc, mul_comm}
use Rattle.snl_meaning.specs.declared.instrs.Instr.{Instr}
use Rattle.snl_meaning.specs.declared.ties.Tied.{Tied}
use Rattle.snl_meaning.specs.Effect.{holds}
use Rattle.snl_meaning.specs.Endings.{IsOver}
use Rattle.snl_meaning.specs.Keeping.{world_after}
use Rattle.snl_meaning.specs.Links.{home_of}
use Rattle.snl_meaning.specs.Ran.{Ran, Gives, Faults, also, then_do}
use Rattle.snl_meaning.specs.Run.{PieceContext, Exit, Over, LeftFor, Unfinished, Stuck, credit, run_of, steps_of}
use Rattle.snl_meaning.specs.World.{World}
use Rattle.snl_meaning.proofs.Counts.{after-also, run-keeps}
use Rattle.snl_vm.specs.Running.{value_left, left_at, state_left}
use Rattle.snl_schedule.specs.Plans.{test_at, block_at, ended, CanDo}
use Rattle.snl_schedule.specs.Refresh.{is_marked, with_mark, copied_to, refreshed_link, refreshed_from, refreshed}
use Rattle.snl_schedule.specs.Steps.{steps_then, block_steps}
use Rattle.snl_schedule.specs.Turn.{told_fault}
use Rattle.snl_meaning.specs.Counts.{StepsAreBounded}

-- what so many ticks pay for
abbrev pub paid : ℕ → ℕ → ℕ
paid len ticks = ticks * (3 * len)

-- What is done in a world, in so many steps, gives no tick back, and takes no more than some room and what its ticks pay for.
pub record Costs {A : Type 0} (len room : ℕ) (w : World) (steps : ℕ) (r : Ran A) : Type 0 where
  pub still : (world_after r).ticks ≤ w.ticks
  pub fits : steps + paid len (world_after r).ticks ≤ room + paid len w.ticks

-- ---- one after another

-- text does not matter
pub costs-also : {A : Type 0} (len room : ℕ) (w : World) (steps : ℕ) (text : List ℕ) (r : Ran A) → Costs len room w steps r → Costs len room w steps (also text r)
costs-also len room w steps text (Gives v u more) h = record { still = h.still; fits = h.fits }
costs-also len room w steps text (Faults f line u more) h = record { still = h.still; fits = h.fits }

-- nor does text that was there
costs-without : {A : Type 0} (len room : ℕ) (w : World) (steps : ℕ) (text : List ℕ) (r : Ran A) → Costs len room w steps (also text r) → Costs len room w steps r
costs-without len room w steps text (Gives v u more) h = record { still = h.still; fits = h.fits }
costs-without len room w steps text (Faults f line u more) h = record { still = h.still; fits = h.fits }

-- nor does it before what follows
pub costs-between : {A B : Type 0} (len room : ℕ) (w : World) (steps : ℕ) (text : List ℕ) (r : Ran A) (go : A → World → Ran B) → Costs len room w steps (then_do r go) →
    Costs len room w steps (then_do (also text r) go)
costs-between len room w steps text (Gives v u more) go h = costs-also len room w steps _ (go v u) (costs-without len room w steps more (go v u) h)
costs-between len room w steps text (Faults f line u more) go h = record { still = h.still; fits = h.fits }

-- nor does the line of a fault
pub costs-told : {A : Type 0} (len room : ℕ) (w : World) (steps : ℕ) (name : List ℕ) (r : Ran A) → Costs len room w steps r → Costs len room w steps (told_fault name r)
costs-told len room w steps name (Gives v u more) h = record { still = h.still; fits = h.fits }
costs-told len room w steps name (Faults f line u more) h = record { still = h.still; fits = h.fits }

-- what does nothing costs nothing
pub costs-nothing : {A : Type 0} (len room : ℕ) (w : World) (v : A) (text : List ℕ) → Costs len room w 0 (Gives v w text)
costs-nothing len room w v text = record { still = omega arith; fits = omega arith }

-- a world with as many ticks
pub costs-from : {A : Type 0} (len room : ℕ) (w u : World) (steps : ℕ) (r : Ran A) → u.ticks ≡ w.ticks → Costs len room u steps r → Costs len room w steps r
costs-from len room w u steps r same h = let k = ap (paid len) same in record { still = omega (arith, h.still, same); fits = omega (arith, h.fits, k) }

-- one step and then another
pub costs-then : {A B : Type 0} (len room more : ℕ) (w : World) (steps : ℕ) (r : Ran A) (go : A → World → Ran B) (next : A → World → ℕ) → Costs len room w steps r →
    ((a : A) (u : World) → Costs len more u (next a u) (go a u)) → Costs len (room + more) w (steps + steps_then r next) (then_do r go)
costs-then len room more w steps (Gives a u text) go next h k =
    let m = k a u in
    costs-also len (room + more) w (steps + next a u) text (go a u) (record { still = omega (arith, h.still, m.still); fits = omega (arith, h.fits, m.fits) })
costs-then len room more w steps (Faults f line u text) go next h k = record { still = h.still; fits = omega (arith, h.fits) }

-- one step and then what changes no ticks
pub costs-last : {A B : Type 0} (len room : ℕ) (w : World) (steps : ℕ) (r : Ran A) (go : A → World → Ran B) → ((a : A) (u : World) → (world_after (go a u)).ticks ≡ u.ticks) →
    Costs len room w steps r → Costs len room w steps (then_do r go)
costs-last len room w steps (Gives a u text) go still h =
    let same = still a u in
    let k = ap (paid len) same in
    costs-also len room w steps text (go a u) (record { still = omega (arith, h.still, same); fits = omega (arith, h.fits, k) })
costs-last len room w steps (Faults f line u text) go still h = record { still = h.still; fits = h.fits }

-- ---- runs

-- three times as much, in another form
pub three : (n len : ℕ) → n * (3 * len) ≡ 3 * (n * len)
three n len = sym (mul_assoc n 3 len) ∙ ap (λ k. k * len) (mul_comm n 3) ∙ mul_assoc 3 n len

-- a bound by ticks is one by what they pay for
pub bound-costs : {A : Type 0} (len : ℕ) (w : World) (steps : ℕ) (r : Ran A) → (world_after r).ticks ≤ w.ticks →
    steps + 2 * (world_after r).ticks * len ≤ suc (2 * w.ticks) * len → Costs len len w steps r
bound-costs len w steps r still h =
    let left = (world_after r).ticks in
    let k : left * len ≤ w.ticks * len = mul-le-mul_right len still in
    record { still = still; fits = omega (arith, h, k, three left len, three w.ticks len, mul_assoc 2 left len, mul_assoc 2 w.ticks len, suc-mul (2 * w.ticks) len) }

-- the state that a run leaves for changes nothing
left-still : (e : Exit) (u : World) → (world_after (state_left e u)).ticks ≡ u.ticks
left-still (Over s) u = refl
left-still (LeftFor state) u = refl
left-still Unfinished u = refl
left-still Stuck u = refl

-- nor does the value that it leaves
value-still : (e : Exit) (u : World) → (world_after (value_left e u)).ticks ≡ u.ticks
value-still (Over []) u = refl
value-still (Over (z ∷ s)) u = refl
value-still (LeftFor state) u = refl
value-still Unfinished u = refl
value-still Stuck u = refl

-- what follows a step and changes no ticks
then-same : {A B : Type 0} (r : Ran A) (go : A → World → Ran B) → ((a : A) (u : World) → (world_after (go a u)).ticks ≡ u.ticks) → (world_after (then_do r go)).ticks ≡ (world_after r).ticks
then-same (Gives a u text) go same = after-also text (go a u) ∙ same a u
then-same (Faults f line u text) go same = refl

-- a condition leaves the ticks of its run
pub held-ticks : (g : PieceContext) (code : List Instr) (start : ℕ) (w : World) → (world_after (test_at g code (Some start) w)).ticks ≡ (world_after (run_of g code start w)).ticks
held-ticks g code start w = then-same (then_do (run_of g code start w) value_left) holds (λ z u. refl) ∙ then-same (run_of g code start w) value_left value-still

-- no condition gives ticks back
pub held-still : (g : PieceContext) (code : List Instr) (condition : Option ℕ) (w : World) → (world_after (test_at g code condition w)).ticks ≤ w.ticks
held-still g code None w = omega arith
held-still g code (Some start) w =
    let same = held-ticks g code start w in let kept = run-keeps g code (suc (credit g w) * length code) start [] w in omega (arith, same, kept)

module _ (bounded : StepsAreBounded) (g : PieceContext) (code : List Instr) (idle : g.returns ≡ []) where
  -- a run that comes to its end
  pub left-costs : (start : ℕ) → ((w : World) → IsOver (run_of g code start w)) → (w : World) → Costs (length code) (length code) w (steps_of g code start w) (left_at g code start w)
  left-costs start over w =
      let r = run_of g code start w in
      costs-last (length code) (length code) w (steps_of g code start w) r state_left left-still
      (bound-costs (length code) w (steps_of g code start w) r (run-keeps g code (suc (credit g w) * length code) start [] w) (bounded g code start w idle (over w)))

  -- an entry or an exit block
  pub block-costs : (start : Option ℕ) → CanDo g code start → (w : World) → Costs (length code) (length code) w (block_steps g code start w) (block_at g code start w)
  block-costs None can w = costs-nothing (length code) (length code) w tt []
  block-costs (Some start) can w =
      costs-last (length code) (length code) w (steps_of g code start w) (left_at g code start w) ended (λ left u. refl) (left-costs start can w)

-- ---- a refresh

-- a buffer is copied
copied-still : (set : ℕ) (home : Option ℕ) (t : Tied) (w : World) → (copied_to set home t w).ticks ≡ w.ticks
copied-still set None t w = refl
copied-still set (Some home) t w = refl

-- a link
link-still : (set number : ℕ) (t : Tied) (w : World) → (refreshed_link set number t w).ticks ≡ w.ticks
link-still set number t w = by (is_marked set number w)
  where
    by : (b : Bool) → (if b then with_mark set number false (copied_to set (home_of set number w) t w) else w).ticks ≡ w.ticks
    by true = copied-still set (home_of set number w) t w
    by false = refl

-- links
links-still : (set number : ℕ) (ts : List Tied) (w : World) → (refreshed_from set number ts w).ticks ≡ w.ticks
links-still set number [] w = refl
links-still set number (t ∷ ts) w = links-still set (number + 1) ts (refreshed_link set number t w) ∙ link-still set number t w

-- a refresh changes no ticks
pub refreshed-still : (set : ℕ) (w : World) → (refreshed set w).ticks ≡ w.ticks
refreshed-still set w = links-still set 0 w.ties w
