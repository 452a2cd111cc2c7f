-- Laws of a run over the bytes that a source gives.
use Rattle.std.proofs.Common.{◌≡◌, ℕ, zero, suc, ◌+◌, ◌<◌, ◌≤◌, ◌^◌, Bool, true, false, List, [], ◌++◌, Option, Some, Ok, length, take, refl, sym, ap, ◌∙◌, subst, arith, append_assoc, append-nil, length-append, length-take}
use Rattle.std.proofs.lemmas.Bool.{lt-ltb}
use Rattle.snl_meaning.specs.World.{World}
use Rattle.snl_trace.specs.declared.runner.End.{End}
use Rattle.snl_trace.specs.declared.runner.End.TheVariants as end
use Rattle.snl_output.specs.TraceLines.{lines_to, lines_from, last_line, whole_lines}
use Rattle.snl_trace.specs.Run.{Rules, run_from}
use Rattle.snl_output.specs.Sources.{says_end}
use Rattle.snl_trace.specs.RunOver.{Place, Reaches, EndsIn, Takes, IsBroken, MayFollow, EndsOver, RunsOver, RunsOn}
use Rattle.snl_trace.proofs.ShortLaws.{lines-short}
use Rattle.snl_trace.proofs.RunOverLaws.{KnowsLong, reaches-start, reaches-then, ends-behind, takes-behind}

-- so many reads gave some bytes more, which were taken in
pub record IsUnderWay (rules : Rules) (first now : List ℕ) (reads : ℕ) (from to : Place) : Type 0 where
  pub came : List ℕ
  pub gave : now ≡ first ++ came
  pub reaches : Reaches rules came from to
  pub many : reads ≤ length came
  pub short : 0 < reads → length now < 2 ^ 63

-- before the first read
pub under_way-start : (rules : Rules) (first : List ℕ) (a : Place) → IsUnderWay rules first first 0 a a
under_way-start rules first a = record {
  came = [];
  gave = sym (append-nil first);
  reaches = reaches-start rules a;
  many = omega arith;
  short = λ some. absurd (omega arith);
}

-- more was given
more-given : (first mid now came piece : List ℕ) → mid ≡ first ++ came → now ≡ mid ++ piece → now ≡ first ++ (came ++ piece)
more-given first mid now came piece gave more = more ∙ ap (λ z. z ++ piece) gave ∙ append_assoc first came piece

-- one read more
pub under_way-on : (rules : Rules) (first mid now : List ℕ) (reads n : ℕ) (room : List ℕ) (a b c : Place) →
    IsUnderWay rules first mid reads a b → now ≡ mid ++ take n room → length now < 2 ^ 63 → 0 < n → n ≤ length room → Reaches rules (take n room) b c →
    IsUnderWay rules first now (reads + 1) a c
under_way-on rules first mid now reads n room a b c way given short some within more = record {
  came = way.came ++ take n room;
  gave = more-given first mid now way.came (take n room) way.gave given;
  reaches = reaches-then rules way.came (take n room) a b c way.reaches more;
  many = omega (arith, way.many, length-append way.came (take n room), length-take n room);
  short = λ _. short;
}

-- a run that ended by itself, whatever follows
pub runs-over : (rules : Rules) (e : End) (came : List ℕ) (ended : Bool) (a : Place) (w : World) (told : Option (List ℕ)) →
    EndsIn rules e (lines_from [] came) a w told → EndsOver rules e came ended a w told → RunsOver rules e came ended a w told
runs-over rules (end.Fault fault line) came ended a w told ends over = over
runs-over rules end.TraceEnded came ended a w told ends over = over
runs-over rules end.ProgramEnded came ended a w told ends over = over
runs-over rules (end.TraceFault number fault) came ended a w told ends over = over
runs-over rules end.SinkFailed came ended a w told ends over = over
runs-over rules end.SourceFailed came ended a w told ends over = absurd ends

-- in the bytes that a read gave
pub under_way-ends : (rules : Rules) (first mid now : List ℕ) (reads n : ℕ) (room : List ℕ) (ended : Bool) (e : End) (a b c : Place) → a.begun ≡ [] →
    IsUnderWay rules first mid reads a b → now ≡ mid ++ take n room → Takes rules (Some e) (take n room) b c →
    RunsOn rules e first now ended a c.world c.told
under_way-ends rules first mid now reads n room ended e a b c fresh way given ends =
    let over : (more : List ℕ) → EndsIn rules e (lines_from [] ((way.came ++ take n room) ++ more)) a c.world c.told = λ more.
    subst (λ (z : List ℕ). EndsIn rules e (lines_from z ((way.came ++ take n room) ++ more)) a c.world c.told) fresh
    (takes-behind rules (Some e) way.came (take n room) a b c way.reaches ends more) in
    record {
      came = way.came ++ take n room;
      gave = more-given first mid now way.came (take n room) way.gave given;
      over = runs-over rules e (way.came ++ take n room) ended a c.world c.told
          (subst (λ (z : List ℕ). EndsIn rules e (lines_from [] z) a c.world c.told) (append-nil (way.came ++ take n room)) (over []))
          (λ more _. over more);
    }

-- nothing follows a source that has ended
none-follows : (ended : Bool) (more : List ℕ) → ended ≡ true → MayFollow ended more → more ≡ []
none-follows ended more is may = subst (λ (b : Bool). MayFollow b more) is may

-- a read gave nothing
pub under_way-ended : (rules : Rules) (first mid now : List ℕ) (reads n : ℕ) (room : List ℕ) (ended : Bool) (e : End) (a b : Place) (w : World) (told : Option (List ℕ)) → a.begun ≡ [] →
    IsUnderWay rules first mid reads a b → now ≡ mid ++ take n room → n ≡ 0 → ended ≡ true → EndsIn rules e (last_line b.begun) b w told →
    RunsOn rules e first now ended a w told
under_way-ended rules first mid now reads n room ended e a b w told fresh way given nothing is ends =
    let none : take n room ≡ [] = ap (λ k. take k room) nothing in
    let all : lines_from [] way.came ≡ way.reaches.done ++ last_line b.begun =
    ap (λ z. lines_from z way.came) (sym fresh) ∙ way.reaches.lines last_line in
    let here : EndsIn rules e (lines_from [] way.came) a w told =
    subst (λ (ls : List (List ℕ)). EndsIn rules e ls a w told) (sym all)
    (ends-behind rules e way.reaches.done (last_line b.begun) a b way.reaches.text w told way.reaches.number way.reaches.ran way.reaches.told ends) in
    record {
      came = way.came;
      gave = given ∙ ap (λ z. mid ++ z) none ∙ append-nil mid ∙ way.gave;
      over = runs-over rules e way.came ended a w told here
          (λ more may. subst (λ (z : List ℕ). EndsIn rules e (lines_from [] z) a w told)
          (sym (ap (λ z. way.came ++ z) (none-follows ended more is may) ∙ append-nil way.came)) here);
    }

-- an answer of no bytes, for a room with a place, says the end
pub says-end : (n size : ℕ) → n ≡ 0 → 0 < size → says_end (Ok n) size ≡ true
says-end n size nothing some = ap (λ k. says_end (Ok k) size) nothing ∙ lt-ltb 0 size some

-- a read failed
pub under_way-broken : (rules : Rules) → KnowsLong rules → (first mid now : List ℕ) (reads : ℕ) (ended : Bool) (a b : Place) → a.begun ≡ [] → length b.begun ≤ 32768 → now ≡ mid ++ [] →
    IsUnderWay rules first mid reads a b → RunsOn rules end.SourceFailed first now ended a b.world b.told
under_way-broken rules long first mid now reads ended a b fresh short same way =
    let whole : whole_lines way.came ≡ way.reaches.done =
    ap (λ z. lines_to (λ _. []) z way.came) (sym fresh) ∙ way.reaches.lines (λ _. []) ∙ append-nil way.reaches.done in
    record {
      came = way.came;
      gave = same ∙ append-nil mid ∙ way.gave;
      over = record {
        short = lines-short rules long way.came a b fresh way.reaches short;
        gave = record {
          text = way.reaches.text;
          is = ap (λ ls. run_from rules a.number ls a.world) whole ∙ way.reaches.ran;
          told = way.reaches.told;
        };
      };
    }

-- a source ends before so many reads
pub under_way-never : (rules : Rules) (first now : List ℕ) (reads : ℕ) (a b : Place) → IsUnderWay rules first now reads a b → 2 ^ 63 ≤ reads → ⊥
under_way-never rules first now reads a b way long =
    omega (arith, way.many, way.short (omega arith), ap length way.gave, length-append first way.came)
