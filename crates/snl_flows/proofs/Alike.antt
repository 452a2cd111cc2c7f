-- That two worlds are the same but at some places of each copy, and have the links of a program, is a relation that all steps of a run keep.
use Rattle.std.proofs.Common.{◌≡◌, ◌∙◌, ◌+◌, ◌-◌, ◌<◌, ⊎_elim, refl, sym, ap, subst, ℕ, ℤ, Bool, true, false, List, Option, None, Some, length, slice_get, if◌then◌else◌}
use Rattle.std.specs.Prelude.{codes, decimal, slice_index_or}
use Rattle.std.proofs.lemmas.Bool.{false≢true, ltb-true}
use Rattle.snl_meaning.specs.declared.ties.Tied.{Tied}
use Rattle.snl_meaning.specs.Frames.{room_in}
use Rattle.snl_meaning.specs.Links.{buffer_of, is_queued, queue_of, with_buffer}
use Rattle.snl_meaning.specs.Printing.{print_line}
use Rattle.snl_meaning.specs.World.{SetMemory, World, copy_of, no_copy, words_at}
use Rattle.snl_meaning.proofs.Sizes.{set-many}
use Rattle.snl_output.specs.Lines.{start_line, go_line, exit_line, fault_line, fault_text, space}
use Rattle.snl_schedule.specs.Event.{wake_before}
use Rattle.snl_schedule.specs.Turn.{entered_in}
use Rattle.snl_alike.specs.Lines.{EndsLine, Newline}
use Rattle.snl_alike.specs.Runs.{AreAlikeInRuns, NothingMore, WakesAlike, NoWakes, Wakes}
use Rattle.snl_alike.specs.TwoRuns.{KeepsAlike, common_of, with_common}
use Rattle.snl_flows.specs.Flows.{IsAlike}
use Rattle.snl_flows.specs.Outside.{AreSameOutside, IsSameCopy, IsSameOutside, has, places_of}
use Rattle.snl_flows.specs.Tables.{Ground, room_of}
use Rattle.snl_flows.specs.Texts.{SameButValues, NoLines}
use Rattle.snl_flows.proofs.Agree.{agree-words}
use Rattle.snl_flows.proofs.Buffers.{KeepsStale, refreshed-keeps}
use Rattle.snl_flows.proofs.Joined.{buffer-other}
use Rattle.snl_flows.proofs.Links.{links-elements, links-same, links-with, room-is}
use Rattle.snl_flows.proofs.Texts.{ends-behind, one-line, print-ends, texts-joined}
use Rattle.snl_flows.proofs.Worlds.{Fresh, SameOn, buffer-change, buffer-comes, copy-change, same-nowhere, same-outside}

-- ---- lines of a run

-- `start`
start-ends : (ms : ℕ) (name : List ℕ) → EndsLine (start_line ms name)
start-ends ms name = ends-behind (decimal ms) _ (ends-behind (codes " start ") _ (ends-behind name _ Newline))

-- `go`
go-ends : (ms : ℕ) (set from to : List ℕ) → EndsLine (go_line ms set from to)
go-ends ms set from to =
    ends-behind (decimal ms) _ (ends-behind (codes " go ") _ (ends-behind set _ (ends-behind space _ (ends-behind from _ (ends-behind space _ (ends-behind to _ Newline))))))

-- `exit`
exit-ends : (ms : ℕ) (name : List ℕ) → EndsLine (exit_line ms name)
exit-ends ms name = ends-behind (decimal ms) _ (ends-behind (codes " exit ") _ (ends-behind name _ Newline))

-- `fault`
fault-ends : (ms : ℕ) (set : List ℕ) (line : ℕ) (text : List ℕ) → EndsLine (fault_line ms set line text)
fault-ends ms set line text =
    ends-behind (decimal ms) _ (ends-behind (codes " fault ") _ (ends-behind set _ (ends-behind space _ (ends-behind (decimal line) _ (ends-behind space _ (ends-behind text _ Newline))))))

-- ---- the relation is one that all steps keep

module _ (g : Ground) where
  -- of nothing more it is known that it is the same
  abbrev Nowhere : Bool → ℕ → Type 0
  Nowhere b k = ⊥

  -- two worlds, of which nothing more is known
  bare : (set : ℕ) (w u : World) → IsSameOutside g.hidden g.stale w u → SameOn g set Nowhere w u
  bare set w u e = same-nowhere g set Nowhere w u (λ b k p. p) e

  -- a line at the same time
  same-line : (line : ℕ → List ℕ) → ((ms : ℕ) → EndsLine (line ms)) → (w u : World) → IsAlike g w u → SameButValues g.names (line w.time) (line u.time)
  same-line line ends w u e =
      subst (λ (ms : ℕ). SameButValues g.names (line w.time) (line ms)) (ap (λ (v : World). v.time) e.outside.same) (one-line g.names (line w.time) (ends w.time))

  -- what comes to links comes alike
  pub flow-stale : KeepsStale g (IsAlike g)
  flow-stale = record {
    links = λ w u e. e.links;
    same = λ w u e. e.outside.same;
    changes = λ v w cs xs bs copies shared buffers phase links e. record {
      behind = e.behind;
      links = links;
      outside = record {
        same = refl;
        long = subst (λ (ys : List ℤ). length ys ≡ length xs) (sym shared) e.outside.long;
        count = subst (λ (ws : List SetMemory). length ws ≡ length cs) (sym copies) e.outside.count;
        copies = subst (λ (ws : List SetMemory). (n : ℕ) → IsSameCopy (places_of g.hidden n) (slice_index_or ws n no_copy) (slice_index_or cs n no_copy)) (sym copies) e.outside.copies;
        buffers = subst (λ (ys : List ℤ). AreSameOutside g.stale ys bs) (sym buffers) e.outside.buffers;
      };
    };
    comes = λ set link home t w u at begins e. record {
      behind = e.behind;
      links = links-elements g set home (buffer_of t w) w e.links;
      outside = same-outside g set Nowhere _ _ (buffer-comes g set Nowhere home t w u
          (λ k low stale known. ⊎_elim (λ (seen : has (places_of g.hidden set) (home + k) ≡ false). false≢true (sym seen ∙ e.behind.hides set link k home t at begins low stale)) (λ never. never)
          known) (bare set w u e.outside));
    };
    fills = λ t zs w u e. record {
      behind = e.behind;
      links = links-same g w (with_buffer t zs w) refl refl refl refl refl e.links;
      outside = same-outside g 0 Nowhere _ _ (buffer-change g 0 Nowhere t zs w u (bare 0 w u e.outside));
    };
    others = λ t zs ys w u few less stale e. record {
      behind = e.behind;
      links = links-same g w (with_buffer t zs w) refl refl refl refl refl e.links;
      outside = same-outside g 0 Nowhere _ _ (buffer-other g 0 Nowhere t zs ys w u few less stale (bare 0 w u e.outside));
    };
    queues = queued-same;
  }
    where
      -- what a queue gets
      queued-same : (link : ℕ) (t : Tied) (w u : World) → slice_get g.ties link ≡ Some t → is_queued link w ≡ true → IsAlike g w u →
          words_at w.buffers t.from (queue_of link w).width ≡ words_at u.buffers t.from (queue_of link w).width
      queued-same link t w u at some e =
          let room : room_of g link ≡ room_in (queue_of link w) = room-is g w link e.links in
          agree-words (queue_of link w).width (Fresh g 0) w.buffers u.buffers t.from
          (λ k low. e.behind.queued link k t at (subst (λ (r : ℕ × ℕ). 0 < r.0) (sym room) (ltb-true 0 (queue_of link w).size some)) (subst (λ (r : ℕ × ℕ). k < r.1) (sym room) low))
          (bare 0 w u e.outside).buffers

  -- of a state set
  pub flow-keeps : (set : ℕ) → KeepsAlike set (IsAlike g) (SameButValues g.names)
  flow-keeps set = record {
    rest = λ w u e. ap common_of e.outside.same;
    rest_changes = λ r w u phase homes ties channels queues e. record {
      behind = e.behind;
      links = links-with g r w homes ties channels queues e.links;
      outside = record { same = ap (with_common r) e.outside.same; long = e.outside.long; count = e.outside.count; copies = e.outside.copies; buffers = e.outside.buffers };
    };
    prints = λ name text w u e. same-line (λ ms. print_line ms name text) (λ ms. print-ends ms name text) w u e;
    silent = NoLines;
    joined = texts-joined g.names;
  }

  -- the same wakes
  wakes-same : (o : Option ℕ) → WakesAlike (λ n m. n ≡ m) o o
  wakes-same None = NoWakes
  wakes-same (Some n) = Wakes n n refl

  -- a state that is entered
  enter : (set state : ℕ) (is_timed : Bool) (w u : World) → IsAlike g w u → IsAlike g (entered_in set state is_timed w) (entered_in set state is_timed u)
  enter set state is_timed w u e = record {
    behind = e.behind;
    links = links-same g w (entered_in set state is_timed w) refl refl refl refl (set-many w.copies set _) e.links;
    outside = same-outside g set Nowhere (entered_in set state is_timed w) (entered_in set state is_timed u)
        (copy-change g set Nowhere (record (copy_of set w) { state = state; entered = if is_timed then w.time else (copy_of set w).entered })
        (record (copy_of set u) { state = state; entered = if is_timed then u.time else (copy_of set u).entered }) w u
        (record { state = refl; entered = at is_timed; words = (on.copies set).words }) on);
  }
    where
      on : SameOn g set Nowhere w u
      on = bare set w u e.outside

      at : (b : Bool) → (if b then w.time else (copy_of set w).entered) ≡ (if b then u.time else (copy_of set u).entered)
      at true = ap (λ (v : World). v.time) e.outside.same
      at false = (e.outside.copies set).entered

  -- of runs
  pub flow-in-runs : (sets : ℕ) → 0 < sets → AreAlikeInRuns sets (λ n m. n ≡ m) (IsAlike g) (λ set state. IsAlike g) NothingMore (SameButValues g.names)
  flow-in-runs sets some = record {
    some = some;
    keeps = λ set low. flow-keeps set;
    keeps_in = λ set state low. flow-keeps set;
    states = λ set low w u e. (e.outside.copies set).state;
    inside = λ set low w u e. e;
    outside = λ set state w u e. e;
    refreshes = λ set low w u e. refreshed-keeps g (IsAlike g) flow-stale set w u e;
    enters = λ set from state is_timed low either w u e l. enter set state is_timed w u e;
    becomes = λ phase waits w u e. record {
      behind = e.behind;
      links = links-same g w (record w { phase = phase }) refl refl refl refl refl e.links;
      outside = record {
        same = ap (λ (v : World). record v { phase = phase }) e.outside.same;
        long = e.outside.long;
        count = e.outside.count;
        copies = e.outside.copies;
        buffers = e.outside.buffers;
      };
    };
    opens = λ w u e. record {
      behind = e.behind;
      links = links-same g w (record w { due = None }) refl refl refl refl refl e.links;
      outside = record { same = ap (λ (v : World). record v { due = None }) e.outside.same; long = e.outside.long; count = e.outside.count; copies = e.outside.copies; buffers = e.outside.buffers };
    };
    wakes = λ w u e. record {
      behind = e.behind;
      links = links-same g w (record w { wake = w.due }) refl refl refl refl refl e.links;
      outside = record { same = ap (λ (v : World). record v { wake = v.due }) e.outside.same; long = e.outside.long; count = e.outside.count; copies = e.outside.copies; buffers = e.outside.buffers };
    };
    times = λ n m w u at e. subst (λ (t : ℕ). IsAlike g (record w { time = n }) (record u { time = t })) at (record {
      behind = e.behind;
      links = links-same g w (record w { time = n }) refl refl refl refl refl e.links;
      outside = record { same = ap (λ (v : World). record v { time = n }) e.outside.same; long = e.outside.long; count = e.outside.count; copies = e.outside.copies; buffers = e.outside.buffers };
    });
    before = λ n m w u at e.
        subst (λ (o : Option ℕ). WakesAlike (λ (a b : ℕ). a ≡ b) (wake_before n w) o)
        (ap (λ (v : World). wake_before n v) e.outside.same ∙ ap (λ (t : ℕ). wake_before t u) at) (wakes-same (wake_before n w));
    left = λ n m w u at e. ap (λ (v : World). n - v.time) e.outside.same ∙ ap (λ (t : ℕ). t - u.time) at;
    starts = λ name w u e. same-line (λ ms. start_line ms name) (λ ms. start-ends ms name) w u e;
    goes = λ set from to w u e. same-line (λ ms. go_line ms set from to) (λ ms. go-ends ms set from to) w u e;
    exits = λ name w u e. same-line (λ ms. exit_line ms name) (λ ms. exit-ends ms name) w u e;
    faults = λ set line f w u e. same-line (λ ms. fault_line ms set line (fault_text f)) (λ ms. fault-ends ms set line (fault_text f)) w u e;
  }
