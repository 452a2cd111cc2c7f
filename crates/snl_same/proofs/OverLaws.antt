-- Laws of two programs over the bytes that a source gives.
use Rattle.std.proofs.Common.{◌≡◌, ◌∙◌, ◌+◌, ◌<◌, ◌≤◌, ◌^◌, ℕ, Bool, true, List, [], ◌++◌, Option, None, Some, length, take, refl, ap, sym, subst, arith, append-nil, length-append, length-take}
use Rattle.snl_machine.specs.MachineOf.{world_held}
use Rattle.snl_machine.specs.declared.machine.Machine.{Machine}
use Rattle.snl_output.specs.TraceLines.{last_line, lines_from, whole_lines}
use Rattle.snl_same.proofs.StandLaws.{found-so-far}
use Rattle.snl_same.proofs.TakingLaws.{taken-none, taken-then, takes-behind}
use Rattle.snl_same.specs.Answers.{IsFound, IsFoundOver, OrDiffers}
use Rattle.snl_same.specs.Lines.{AreAlike, Pair, PairIsAlike, world_behind}
use Rattle.snl_same.specs.Sides.{Finishes, FindsOver, IsTakenIn, MeansAs, Stand, StandBehind, TakesIn, pair_of}
use Rattle.snl_same.specs.declared.differences.Close.{Close}
use Rattle.snl_same.specs.declared.differences.Close.TheVariants.{LineTooLong, RunEnded, SourceFailed, TraceEnded}
use Rattle.snl_same.specs.declared.differences.Difference.{Difference}
use Rattle.snl_same.specs.declared.filters.Filter.{Filter}
use Rattle.snl_trace.specs.Run.{Rules}
use Rattle.snl_trace.specs.RunOver.{MayFollow}

-- so many reads gave some bytes, which were taken in
pub record IsUnderWay (gave : List ℕ) (reads : ℕ) (begun : List ℕ) (s t : Stand) : Type 0 where
  pub are_taken : IsTakenIn gave [] begun s t
  pub many : reads ≤ length gave
  pub short : 0 < reads → length gave < 2 ^ 63

-- before the first read
pub under_way-start : (gave : List ℕ) (s : Stand) → gave ≡ [] → IsUnderWay gave 0 [] s s
under_way-start gave s none = record {
  are_taken = subst (λ (z : List ℕ). IsTakenIn z [] [] s s) (sym none) (taken-none [] s);
  many = omega arith;
  short = λ some. absurd (omega arith);
}

-- one read more
pub under_way-on : (mid now : List ℕ) (reads n : ℕ) (room begun end : List ℕ) (s t u : Stand) → IsUnderWay mid reads begun s t → now ≡ mid ++ take n room →
    length now < 2 ^ 63 → 0 < n → n ≤ length room → IsTakenIn (take n room) begun end t u → IsUnderWay now (reads + 1) end s u
under_way-on mid now reads n room begun end s t u way given short some within more = record {
  are_taken = subst (λ (z : List ℕ). IsTakenIn z [] end s u) (sym given) (taken-then mid (take n room) [] begun end s t u way.are_taken more);
  many = omega (arith, way.many, ap length given, length-append mid (take n room), length-take n room);
  short = λ _. short;
}

-- what holds whatever follows, holds over what was given
over-found : (p : Pair) (gave : List ℕ) (ended : Bool) (first : Option Difference) (close : Close) → ((more : List ℕ) → IsFound p (lines_from [] (gave ++ more)) first close) →
    IsFoundOver p gave ended first close
over-found p gave ended first TraceEnded found = λ more may. found more
over-found p gave ended first (RunEnded old new) found = λ more may. found more
over-found p gave ended first (LineTooLong number) found = λ more may. found more
over-found p gave ended first SourceFailed found = absurd (found [])

-- the comparison ends in the bytes that a read gave
pub under_way-ends : (mid now : List ℕ) (reads n : ℕ) (room begun end : List ℕ) (ended : Bool) (close : Close) (s t u : Stand) → IsUnderWay mid reads begun s t → now ≡ mid ++ take n room →
    TakesIn (take n room) begun end t u (Some close) → FindsOver now ended s u.first close
under_way-ends mid now reads n room begun end ended close s t u way given ends = λ p at.
    over-found p now ended u.first close (λ more.
    subst (λ (z : List ℕ). IsFound p (lines_from [] (z ++ more)) u.first close) (sym given)
    (takes-behind close mid (take n room) [] begun end s t u way.are_taken ends more p [] at))

-- nothing follows a source that has ended
none-follows : (ended : Bool) (more : List ℕ) → ended ≡ true → MayFollow ended more → more ≡ []
none-follows ended more is may = subst (λ (b : Bool). MayFollow b more) is may

-- what was found over all that came, where no more comes
over-ended : (p : Pair) (gave : List ℕ) (ended : Bool) (first : Option Difference) (close : Close) → ended ≡ true → IsFound p (lines_from [] gave) first close →
    IsFoundOver p gave ended first close
over-ended p gave ended first TraceEnded is found = λ more may.
    subst (λ (z : List ℕ). IsFound p (lines_from [] z) first TraceEnded) (sym (ap (λ z. gave ++ z) (none-follows ended more is may) ∙ append-nil gave)) found
over-ended p gave ended first (RunEnded old new) is found = λ more may.
    subst (λ (z : List ℕ). IsFound p (lines_from [] z) first (RunEnded old new)) (sym (ap (λ z. gave ++ z) (none-follows ended more is may) ∙ append-nil gave)) found
over-ended p gave ended first (LineTooLong number) is found = λ more may.
    subst (λ (z : List ℕ). IsFound p (lines_from [] z) first (LineTooLong number)) (sym (ap (λ z. gave ++ z) (none-follows ended more is may) ∙ append-nil gave)) found
over-ended p gave ended first SourceFailed is found = absurd found

-- a read gave nothing
pub under_way-ended : (mid now : List ℕ) (reads n : ℕ) (room begun : List ℕ) (ended : Bool) (close : Close) (s t u : Stand) → IsUnderWay mid reads begun s t → now ≡ mid ++ take n room →
    n ≡ 0 → ended ≡ true → Finishes begun t u close → FindsOver now ended s u.first close
under_way-ended mid now reads n room begun ended close s t u way given nothing is ends = λ p at.
    let none : take n room ≡ [] = ap (λ k. take k room) nothing in
    let same : now ≡ mid = given ∙ ap (λ z. mid ++ z) none ∙ append-nil mid in
    let lines : lines_from [] mid ≡ way.are_taken.lines ++ last_line begun = way.are_taken.cut last_line in
    over-ended p now ended u.first close is
    (subst (λ (z : List ℕ). IsFound p (lines_from [] z) u.first close) (sym same)
    (subst (λ (z : List (List ℕ)). IsFound p z u.first close) (sym lines) (ends p way.are_taken.lines (way.are_taken.stands p [] at))))

-- a read failed
pub under_way-broken : (mid now : List ℕ) (reads : ℕ) (begun : List ℕ) (ended : Bool) (s t : Stand) → now ≡ mid ++ [] → IsUnderWay mid reads begun s t →
    FindsOver now ended s t.first SourceFailed
under_way-broken mid now reads begun ended s t same way = λ p at.
    let whole : whole_lines now ≡ way.are_taken.lines =
    ap whole_lines (same ∙ append-nil mid) ∙ way.are_taken.cut (λ _. []) ∙ append-nil way.are_taken.lines in
    let behind = way.are_taken.stands p [] at in
    subst (λ (z : List (List ℕ)). OrDiffers p z t.first (PairIsAlike p z)) (sym whole)
    (found-so-far p way.are_taken.lines (world_held t.old) (world_held t.new) t.first behind.so_far)

-- a source ends before so many reads
pub under_way-never : (gave : List ℕ) (reads : ℕ) (begun : List ℕ) (s t : Stand) → IsUnderWay gave reads begun s t → 2 ^ 63 ≤ reads → ⊥
under_way-never gave reads begun s t way long = omega (arith, long, way.many, way.short (omega (arith, long)))

-- two machines stand behind no lines
pub stands-first : (filter : Filter) (a b : Rules) (old new : Machine) (s : Stand) → MeansAs a old → MeansAs b new → s ≡ record { filter = filter; old = old; new = new; number = 1; first = None } →
    StandBehind (pair_of filter a b old new) [] s
unfolding AreAlike world_behind
stands-first filter a b old new s meant bs is =
    subst (λ (z : Stand). StandBehind (pair_of filter a b old new) [] z) (sym is)
    (record { filter_is = refl; old_means = meant; new_means = bs; number_is = refl; so_far = (tt, refl, refl) })
