-- Laws of a program and its requirement over the bytes that a source gives.
use Rattle.std.proofs.Common.{◌≡◌, ◌∙◌, ◌+◌, ◌<◌, ◌≤◌, ◌^◌, ℕ, Bool, true, false, List, [], ◌++◌, Option, None, Some, length, map, take, refl, ap, sym, subst, arith, append-nil, length-append, length-take}
use Rattle.snl_outline.specs.Names.{seen}
use Rattle.snl_machine.specs.MachineOf.{world_held}
use Rattle.snl_machine.specs.declared.machine.Machine.{Machine}
use Rattle.snl_observer.proofs.TakingLaws.{right-so-far, taken-none, taken-then, takes-behind}
use Rattle.snl_observer.specs.Behind.{Finishes, IsRight, IsTakenIn, ObservesOver, Stand, StandBehind, TakesIn, pair_of, stand_by}
use Rattle.snl_observer.specs.Heard.{heard}
use Rattle.snl_observer.specs.Means.{MeansAs}
use Rattle.snl_observer.specs.Observed.{IsObservedOver, ObservedBy, Pair, RunsSo, is_told, source_failed}
use Rattle.snl_observer.specs.declared.closes.Close.{Close}
use Rattle.snl_observer.specs.declared.closes.Close.TheVariants.{Run}
use Rattle.snl_observer.specs.declared.closes.Ending.{Ending}
use Rattle.snl_observer.specs.declared.programs.Program.{Program}
use Rattle.snl_output.specs.TraceLines.{last_line, lines_from, whole_lines}
use Rattle.snl_trace.specs.Run.{Rules, run_from}
use Rattle.snl_trace.specs.RunOver.{MayFollow}
use Rattle.snl_trace.specs.declared.runner.End.TheVariants as end

-- so many reads gave some bytes, which were taken in
pub record IsUnderWay (gave : List ℕ) (reads : ℕ) (begun : List ℕ) (s t : Stand) : Type 0 where
  pub are_taken : IsTakenIn gave [] begun s t
  pub many : reads ≤ length gave
  pub short : 0 < reads → length gave < 2 ^ 63

-- before the first read
pub under_way-start : (gave : List ℕ) (s : Stand) → gave ≡ [] → IsUnderWay gave 0 [] s s
under_way-start gave s none = record {
  are_taken = subst (λ (z : List ℕ). IsTakenIn z [] [] s s) (sym none) (taken-none [] s);
  many = omega arith;
  short = λ some. absurd (omega arith);
}

-- one read more
pub under_way-on : (mid now : List ℕ) (reads n : ℕ) (room begun end : List ℕ) (s t u : Stand) → IsUnderWay mid reads begun s t → now ≡ mid ++ take n room →
    length now < 2 ^ 63 → 0 < n → n ≤ length room → IsTakenIn (take n room) begun end t u → IsUnderWay now (reads + 1) end s u
under_way-on mid now reads n room begun end s t u way given short some within more = record {
  are_taken = subst (λ (z : List ℕ). IsTakenIn z [] end s u) (sym given) (taken-then mid (take n room) [] begun end s t u way.are_taken more);
  many = omega (arith, way.many, ap length given, length-append mid (take n room), length-take n room);
  short = λ _. short;
}

-- the same, where what was written is seen another time
pub under_way-seen : (gave : List ℕ) (reads : ℕ) (begun : List ℕ) (s : Stand) (run watch : Program) (number : ℕ) (wrote wrote' said said' : List ℕ) (how : Option Ending) (stuck stuck' : Bool) →
    wrote' ≡ wrote → said' ≡ said → stuck' ≡ stuck → IsUnderWay gave reads begun s (stand_by run watch number wrote said how stuck) →
    IsUnderWay gave reads begun s (stand_by run watch number wrote' said' how stuck')
under_way-seen gave reads begun s run watch number wrote wrote' said said' how stuck stuck' is so too way =
    subst (λ (z : List ℕ). IsUnderWay gave reads begun s (stand_by run watch number z said' how stuck')) (sym is)
    (subst (λ (z : List ℕ). IsUnderWay gave reads begun s (stand_by run watch number wrote z how stuck')) (sym so)
    (subst (λ (z : Bool). IsUnderWay gave reads begun s (stand_by run watch number wrote said how z)) (sym too) way))

-- what holds whatever follows, holds over what was given
over-right : (p : Pair) (gave : List ℕ) (ended : Bool) (t : Stand) (close : Close) → source_failed close ≡ false →
    ((more : List ℕ) → MayFollow ended more → IsRight p (lines_from [] (gave ++ more)) t close) → (is_told close ≡ true → t.stuck ≡ false) →
    IsObservedOver p gave ended t.wrote t.said close × (is_told close ≡ true → t.stuck ≡ false)
over-right p gave ended t close is right unstuck =
    (subst (λ (b : Bool). ObservedBy b p gave ended t.wrote t.said close) (sym is) (λ more may. (right more may).observed), unstuck)

-- the run ends in the bytes that a read gave
pub under_way-ends : (mid now : List ℕ) (reads n : ℕ) (room begun end : List ℕ) (ended : Bool) (close : Close) (s t u : Stand) → IsUnderWay mid reads begun s t → now ≡ mid ++ take n room →
    source_failed close ≡ false → TakesIn (take n room) begun end t u (Some close) → ObservesOver now ended s u close
under_way-ends mid now reads n room begun end ended close s t u way given is ends = λ p at.
    let right : (more : List ℕ) → IsRight p (lines_from [] (now ++ more)) u close = λ more.
    subst (λ (z : List ℕ). IsRight p (lines_from [] (z ++ more)) u close) (sym given)
    (takes-behind close mid (take n room) [] begun end s t u way.are_taken ends more p [] at) in
    over-right p now ended u close is (λ more may. right more) (right []).unstuck

-- nothing follows a source that has ended
none-follows : (ended : Bool) (more : List ℕ) → ended ≡ true → MayFollow ended more → more ≡ []
none-follows ended more is may = subst (λ (b : Bool). MayFollow b more) is may

-- a read gave nothing
pub under_way-ended : (mid now : List ℕ) (reads n : ℕ) (room begun : List ℕ) (ended : Bool) (close : Close) (s t u : Stand) → IsUnderWay mid reads begun s t → now ≡ mid ++ take n room →
    n ≡ 0 → ended ≡ true → source_failed close ≡ false → Finishes begun t u close → ObservesOver now ended s u close
under_way-ended mid now reads n room begun ended close s t u way given nothing is calm ends = λ p at.
    let none : take n room ≡ [] = ap (λ k. take k room) nothing in
    let same : now ≡ mid = given ∙ ap (λ z. mid ++ z) none ∙ append-nil mid in
    let lines : lines_from [] mid ≡ way.are_taken.lines ++ last_line begun = way.are_taken.cut last_line in
    let right : IsRight p (lines_from [] now) u close =
    subst (λ (z : List ℕ). IsRight p (lines_from [] z) u close) (sym same)
    (subst (λ (z : List (List ℕ)). IsRight p z u close) (sym lines) (ends p way.are_taken.lines (way.are_taken.stands p [] at))) in
    over-right p now ended u close calm
    (λ more may. subst (λ (z : List ℕ). IsRight p (lines_from [] z) u close) (sym (ap (λ z. now ++ z) (none-follows ended more is may) ∙ append-nil now)) right)
    right.unstuck

-- a read failed
pub under_way-broken : (mid now : List ℕ) (reads : ℕ) (begun : List ℕ) (ended : Bool) (s t : Stand) → now ≡ mid ++ [] → IsUnderWay mid reads begun s t →
    ObservesOver now ended s t (Run end.SourceFailed)
under_way-broken mid now reads begun ended s t same way = λ p at.
    let whole : whole_lines now ≡ way.are_taken.lines =
    ap whole_lines (same ∙ append-nil mid) ∙ way.are_taken.cut (λ _. []) ∙ append-nil way.are_taken.lines in
    let behind = way.are_taken.stands p [] at in
    (subst (λ (z : List (List ℕ)). RunsSo p z t.wrote t.said end.TraceEnded) (sym whole) (right-so-far p way.are_taken.lines t behind), λ _. behind.unstuck)

-- a source ends before so many reads
pub under_way-never : (gave : List ℕ) (reads : ℕ) (begun : List ℕ) (s t : Stand) → IsUnderWay gave reads begun s t → 2 ^ 63 ≤ reads → ⊥
under_way-never gave reads begun s t way long = omega (arith, long, way.many, way.short (omega (arith, long)))

-- both stand behind no lines
pub stands-first : (a b : Rules) (run watch : Program) (wrote said : List ℕ) (how : Option Ending) (stuck : Bool) → MeansAs a run.machine → MeansAs b watch.machine → wrote ≡ [] → said ≡ [] →
    how ≡ None → stuck ≡ false → StandBehind (pair_of a b run watch) [] (stand_by run watch 1 wrote said how stuck)
unfolding run_from heard
stands-first a b run watch wrote said how stuck meant bs none nothing goes unstuck =
    subst (λ (z : List ℕ). StandBehind (pair_of a b run watch) [] (stand_by run watch 1 z said how stuck)) (sym none)
    (subst (λ (z : List ℕ). StandBehind (pair_of a b run watch) [] (stand_by run watch 1 [] z how stuck)) (sym nothing)
    (subst (λ (z : Option Ending). StandBehind (pair_of a b run watch) [] (stand_by run watch 1 [] [] z stuck)) (sym goes)
    (record {
      run_means = meant;
      watch_means = bs;
      sets_are = refl;
      number_is = refl;
      ran = refl;
      well = tt;
      unstuck = unstuck;
      stands = λ n. refl;
    })))

-- the same, where the requirement gave some of its parts away
pub stands-as : (a b : Rules) (run watch old : Program) (wrote said : List ℕ) (how : Option Ending) (stuck : Bool) → MeansAs a run.machine → MeansAs b old.machine → watch.machine ≡ old.machine →
    wrote ≡ [] → said ≡ [] → how ≡ None → stuck ≡ false → StandBehind (pair_of a b run old) [] (stand_by run watch 1 wrote said how stuck)
stands-as a b run watch old wrote said how stuck meant bs same none nothing goes unstuck =
    subst (λ (m : Machine). StandBehind (record { run = a; watch = b; sets = map seen run.sets.items; run_first = world_held run.machine; watch_first = world_held m }) []
    (stand_by run watch 1 wrote said how stuck)) same
    (stands-first a b run watch wrote said how stuck meant (subst (λ (m : Machine). MeansAs b m) (sym same) bs) none nothing goes unstuck)
