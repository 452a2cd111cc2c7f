-- What all steps of one run keep: that two worlds are one that has a property is a relation that all steps of a run keep.
use Rattle.std.proofs.Common.{◌≡◌, ◌∙◌, ◌-◌, refl, ap, subst, ℕ, List, ◌++◌, Option, None, Some}
use Rattle.snl_meaning.specs.Keeping.{world_after}
use Rattle.snl_meaning.specs.Printing.{print_line}
use Rattle.snl_meaning.specs.Ran.{Ran, Gives, Faults}
use Rattle.snl_meaning.specs.World.{World, copy_of}
use Rattle.snl_output.specs.Lines.{exit_line, fault_line, fault_text, go_line, start_line}
use Rattle.snl_schedule.specs.Event.{wake_before}
use Rattle.snl_schedule.specs.Refresh.{refreshed}
use Rattle.snl_schedule.specs.Turn.{entered_in}
use Rattle.snl_alike.specs.OneRun.{IsKeptInRuns, IsOneWith, IsSameText}
use Rattle.snl_alike.specs.Runs.{AreAlikeInRuns, NothingMore, NoWakes, Wakes, WakesAlike}
use Rattle.snl_alike.specs.TwoRuns.{Agrees, Alike, BothFault, BothGive, FirstLeftOut, KeepsAlike, SecondLeftOut, SecondWrote, common_of, nothing_exempt, with_common}

module _ (P : World → Type 0) where
  -- what comes out alike from one world has the property behind it
  pub one-behind : {A : Type 0} (r s : Ran A) → Alike nothing_exempt (IsOneWith P) IsSameText r s → P (world_after r)
  one-behind _ _ (BothGive v w u a b e t) = e.1
  one-behind _ _ (BothFault fault line w u a b e t) = e.1
  one-behind _ _ (FirstLeftOut fault line w a r never) = absurd never
  one-behind _ _ (SecondLeftOut fault line u b r never) = absurd never
  one-behind _ _ (SecondWrote r s never) = absurd never

  -- what a piece does that keeps it comes out alike
  pub one-agrees : {A : Type 0} (word : World → Ran A) → ((w : World) → P w → P (world_after (word w))) → Agrees nothing_exempt (IsOneWith P) IsSameText word
  one-agrees {A = A} word keeps w u e =
      subst (λ (v : World). Alike nothing_exempt (IsOneWith P) IsSameText (word w) (word v)) e.0 (by (word w) (keeps w e.1))
    where
      by : (r : Ran A) → P (world_after r) → Alike nothing_exempt (IsOneWith P) IsSameText r r
      by (Gives v x a) p = BothGive v x x a a (refl, p) refl
      by (Faults fault line x a) p = BothFault fault line x x a a (refl, p) refl

-- the same wakes
wakes-one : (o : Option ℕ) → WakesAlike (λ n m. n ≡ m) o o
wakes-one None = NoWakes
wakes-one (Some n) = Wakes n n refl

module _ (sets : ℕ) (P : World → Type 0) (k : IsKeptInRuns sets P) where
  -- two worlds that are one with the property
  abbrev One : World → World → Type 0
  One = IsOneWith P

  -- of a state set
  one-keeps : (set : ℕ) → KeepsAlike set One IsSameText
  one-keeps set = record {
    rest = λ w u e. ap common_of e.0;
    rest_changes = λ r w u phase homes ties channels queues e. (ap (with_common r) e.0, k.changes r w homes ties channels queues e.1);
    prints = λ name text w u e. ap (λ (v : World). print_line v.time name text) e.0;
    silent = refl;
    joined = λ a b c d p q. ap (λ (x : List ℕ). x ++ c) p ∙ ap (λ (x : List ℕ). b ++ x) q;
  }

  -- of runs
  pub one-in-runs : AreAlikeInRuns sets (λ n m. n ≡ m) One (λ set state. One) NothingMore IsSameText
  one-in-runs = record {
    some = k.some;
    keeps = λ set low. one-keeps set;
    keeps_in = λ set state low. one-keeps set;
    states = λ set low w u e. ap (λ (v : World). (copy_of set v).state) e.0;
    inside = λ set low w u e. e;
    outside = λ set state w u e. e;
    refreshes = λ set low w u e. (ap (refreshed set) e.0, k.refreshes set low w e.1);
    enters = λ set from state is_timed low either w u e l. (ap (entered_in set state is_timed) e.0, k.enters set state is_timed low w e.1);
    becomes = λ phase waits w u e. (ap (λ (v : World). record v { phase = phase }) e.0, k.changes (record (common_of w) { phase = phase }) w refl refl refl refl e.1);
    opens = λ w u e. (ap (λ (v : World). record v { due = None }) e.0, k.clocks w.time w.wake None w e.1);
    wakes = λ w u e. (ap (λ (v : World). record v { wake = v.due }) e.0, k.clocks w.time w.due w.due w e.1);
    times = λ n m w u at e. (ap (λ (v : World). record v { time = n }) e.0 ∙ ap (λ (t : ℕ). record u { time = t }) at, k.clocks n w.wake w.due w e.1);
    before = λ n m w u at e.
        subst (λ (o : Option ℕ). WakesAlike (λ (a b : ℕ). a ≡ b) (wake_before n w) o) (ap (wake_before n) e.0 ∙ ap (λ (t : ℕ). wake_before t u) at) (wakes-one (wake_before n w));
    left = λ n m w u at e. ap (λ (v : World). n - v.time) e.0 ∙ ap (λ (t : ℕ). t - u.time) at;
    starts = λ name w u e. ap (λ (v : World). start_line v.time name) e.0;
    goes = λ set from to w u e. ap (λ (v : World). go_line v.time set from to) e.0;
    exits = λ name w u e. ap (λ (v : World). exit_line v.time name) e.0;
    faults = λ set line f w u e. ap (λ (v : World). fault_line v.time set line (fault_text f)) e.0;
  }
