-- Laws of a walk over the bytes of a trace.
use Rattle.std.proofs.Common.{◌≡◌, ◌≢◌, ◌∙◌, ◌+◌, ◌<◌, ℕ, Bool, true, false, List, [], ◌∷◌, ◌++◌, Option, None, Some, refl, ap, sym, subst, append_assoc, append-nil, length, length-append, take, arith}
use Rattle.std.specs.List.{All}
use Rattle.std.specs.Option.{IfNone, IfSome}
use Rattle.std.proofs.lemmas.Bool.{false≢true}
use Rattle.std.proofs.lemmas.List.Elements.{All-append, All-nil, All-weaker}
use Rattle.snl_machine.specs.MachineOf.{world_held}
use Rattle.snl_machine.specs.declared.machine.Machine.{Machine}
use Rattle.snl_meaning.specs.World.{World}
use Rattle.snl_moments.proofs.PlanLaws.{asks-early, asks-idle}
use Rattle.snl_moments.proofs.WalkLaws.{long-bad, moment-ends, stands-ends, stands-more}
use Rattle.snl_moments.specs.Comes.{Begins, ComesTo, IsLine}
use Rattle.snl_moments.specs.Plans.{AreFrom, AsksFor, left_of}
use Rattle.snl_moments.specs.Tells.{AreMoments, IsBad, IsMoment, whole_of}
use Rattle.snl_moments.specs.Walks.{EndsAt, EndsBehind, GoesBy, HasRoom, KeepsTold, MeansAs, Stands, TakesIn, TellsBad}
use Rattle.snl_moments.specs.declared.subject.Subject.{Subject}
use Rattle.snl_moments.specs.declared.walks.Close.{Close}
use Rattle.snl_moments.specs.declared.walks.Moment.{Moment}
use Rattle.snl_trace.specs.Run.{Rules}
use Rattle.snl_vm.specs.declared.stores.Store.{Store}

-- a byte that is no newline
abbrev IsOther : ℕ → Type 0
IsOther byte = byte ≢ 10

-- ---- the lines that end in some bytes

-- the bytes in front of those that are left were taken in
pub record IsPartWay (bytes left begun begun' : List ℕ) (s t : Subject) : Type 0 where
  pub plain : IsLine begun'
  pub way : (r : Rules) (first : World) (gave : List ℕ) → Stands false r first gave begun s → Stands false r first (gave ++ bytes) (begun' ++ left) t

-- none was yet
pub part-start : (bytes begun : List ℕ) (s : Subject) → IsLine begun → IsPartWay bytes bytes begun begun s s
part-start bytes begun s plain = record { plain = plain; way = λ r first gave at. stands-more r first gave begun bytes s at }

-- the next line in front of a newline
next-line : (begun line left rest : List ℕ) → left ≡ line ++ 10 ∷ rest → begun ++ left ≡ (begun ++ line) ++ 10 ∷ rest
next-line begun line left rest cut = ap (λ (z : List ℕ). begun ++ z) cut ∙ sym (append_assoc begun line (10 ∷ rest))

-- one more line was
pub part-on : (bytes left line rest begun begun' begun'' : List ℕ) (s t u : Subject) → IsPartWay bytes left begun begun' s t → left ≡ line ++ 10 ∷ rest →
    GoesBy (begun' ++ line) t u None → begun'' ≡ [] → IsPartWay bytes rest begun begun'' s u
part-on bytes left line rest begun begun' begun'' s t u part cut goes clear = record {
  plain = subst (λ (z : List ℕ). IsLine z) (sym clear) (All-nil IsOther);
  way = λ r first gave at.
      subst (λ (z : List ℕ). Stands false r first (gave ++ bytes) (z ++ rest) u) (sym clear)
      (goes r first (gave ++ bytes) rest
      (subst (λ (z : List ℕ). Stands false r first (gave ++ bytes) z t) (next-line begun' line left rest cut) (part.way r first gave at)));
}

-- the walk ended at one
pub part-ends : (close : Close) (bytes left line rest begun begun' begun'' : List ℕ) (s t u : Subject) → IsPartWay bytes left begun begun' s t → left ≡ line ++ 10 ∷ rest →
    GoesBy (begun' ++ line) t u (Some close) → TakesIn bytes begun begun'' s u (Some close)
part-ends close bytes left line rest begun begun' begun'' s t u part cut goes = λ r first gave at.
    goes r first (gave ++ bytes) rest (subst (λ (z : List ℕ). Stands false r first (gave ++ bytes) z t) (next-line begun' line left rest cut) (part.way r first gave at))

-- what is left has no newline
pub part-all : (bytes left begun begun' begun'' : List ℕ) (s t : Subject) → IsPartWay bytes left begun begun' s t → IsLine left → begun'' ≡ begun' ++ left →
    TakesIn bytes begun begun'' s t None
part-all bytes left begun begun' begun'' s t part plain is = (
  subst (λ (z : List ℕ). IsLine z) (sym is) (All-append IsOther begun' left part.plain plain),
  λ r first gave at. subst (λ (z : List ℕ). Stands false r first (gave ++ bytes) z t) (sym is) (part.way r first gave at),
)

-- it is too long
pub part-long : (close : Close) (bytes left begun begun' begun'' : List ℕ) (s t u : Subject) → IsPartWay bytes left begun begun' s t → IsLine left →
    32768 < length begun' + length left → TellsBad t u → TakesIn bytes begun begun'' s u (Some close)
part-long close bytes left begun begun' begun'' s t u part plain long tells = λ r first gave at.
    let line = begun' ++ left in
    let is-plain = All-append IsOther begun' left part.plain plain in
    let is-long : 32768 < length line = omega (arith, long, length-append begun' left) in
    let here = part.way r first gave at in
    (tells r first (gave ++ bytes) line
    (subst (λ (z : List ℕ). IsBad r (world_held t.machine) z) (append-nil line) (long-bad r (world_held t.machine) line [] is-plain is-long)) here).moments

-- what holds at all holds where there is none
pub none-so : {A : Type 0} {P : Type 0} (o : Option A) → P → IfNone o P
none-so None so = so
none-so (Some x) so = tt

-- no bytes had begun the line
pub goes-clear : (close : Option Close) (begun text : List ℕ) (s t : Subject) → begun ≡ [] → GoesBy text s t close → GoesBy (begun ++ text) s t close
goes-clear close begun text s t none goes = subst (λ (z : List ℕ). GoesBy (z ++ text) s t close) (sym none) goes

-- ---- the end of a trace

-- nothing has begun
pub ends-clean : (begun : List ℕ) (s t : Subject) → begun ≡ [] → EndsAt true s t → EndsBehind begun s t
ends-clean begun s t none ends = λ r first gave at.
    let here = subst (λ (z : List ℕ). Stands false r first gave z s) none at in
    (false, (ends r first gave [] (λ _. refl) (stands-ends true r first gave [] s here)).moments)

-- the last line lacks its newline
whole-line : (r : Rules) (first : World) (gave begun : List ℕ) (s : Subject) → Stands false r first gave begun s → Stands false r first (whole_of true gave) (begun ++ 10 ∷ []) s
whole-line r first gave begun s at = stands-more r first gave begun (10 ∷ []) s at

-- a line that was begun, and the end of the trace behind it
pub ends-line : (begun : List ℕ) (s t u : Subject) → GoesBy begun s t None → EndsAt true t u → EndsBehind begun s u
ends-line begun s t u goes ends = λ r first gave at.
    let here = goes r first (whole_of true gave) [] (whole-line r first gave begun s at) in
    (true, (ends r first (whole_of true gave) [] (λ _. refl) (stands-ends true r first (whole_of true gave) [] t here)).moments)

-- the walk ended at it
pub ends-there : (close : Close) (begun : List ℕ) (s t : Subject) → GoesBy begun s t (Some close) → EndsBehind begun s t
ends-there close begun s t goes = λ r first gave at.
    let told = goes r first (whole_of true gave) [] (whole-line r first gave begun s at) in
    (true, All-weaker (IsMoment false r first (whole_of true gave)) (IsMoment true r first (whole_of true gave)) (moment-ends true r first (whole_of true gave)) t.moments.items told)

-- ---- the bytes that a source gives

-- those that it gave so far were taken in
pub record IsUnderWay (gave begun : List ℕ) (s t : Subject) : Type 0 where
  pub plain : IsLine begun
  pub way : (r : Rules) (first : World) → Stands false r first [] [] s → Stands false r first gave begun t

-- before the first read
pub under_way-start : (gave begun : List ℕ) (s : Subject) → gave ≡ [] → begun ≡ [] → IsUnderWay gave begun s s
under_way-start gave begun s none fresh = record {
  plain = subst (λ (z : List ℕ). IsLine z) (sym fresh) (All-nil IsOther);
  way = λ r first at.
      subst (λ (z : List ℕ). Stands false r first z begun s) (sym none) (subst (λ (z : List ℕ). Stands false r first [] z s) (sym fresh) at);
}

-- one read more
pub under_way-on : (mid now piece begun begun' : List ℕ) (s t u : Subject) → IsUnderWay mid begun s t → now ≡ mid ++ piece → TakesIn piece begun begun' t u None → IsUnderWay now begun' s u
under_way-on mid now piece begun begun' s t u way given takes = record {
  plain = takes.0;
  way = λ r first at. subst (λ (z : List ℕ). Stands false r first z begun' u) (sym given) (takes.1 r first mid (way.way r first at));
}

-- what was told is right over what was given
moments-by : (r : Rules) (first : World) (gave : List ℕ) (ended : Bool) (t : Subject) → All (IsMoment false r first gave) t.moments.items → AreMoments r first gave ended t.moments.items
moments-by r first gave ended t told = record {
  front = gave;
  more = [];
  gave_is = sym (append-nil gave);
  at_end = false;
  is_unended = false;
  all = λ never. absurd (false≢true never);
  last = λ never. absurd (false≢true never);
  are = told;
}

-- the walk ended in the bytes of a read
pub under_way-ends : (close : Close) (mid now piece begun begun' : List ℕ) (ended : Bool) (s t u : Subject) → IsUnderWay mid begun s t → now ≡ mid ++ piece →
    TakesIn piece begun begun' t u (Some close) → (r : Rules) (first : World) → Stands false r first [] [] s → AreMoments r first now ended u.moments.items
under_way-ends close mid now piece begun begun' ended s t u way given takes = λ r first at.
    moments-by r first now ended u (subst (λ (z : List ℕ). All (IsMoment false r first z) u.moments.items) (sym given) (takes r first mid (way.way r first at)))

-- no more could be read
pub under_way-broken : (mid now : List ℕ) (begun : List ℕ) (ended : Bool) (s t : Subject) → IsUnderWay mid begun s t → now ≡ mid ++ [] →
    (r : Rules) (first : World) → Stands false r first [] [] s → AreMoments r first now ended t.moments.items
under_way-broken mid now begun ended s t way same = λ r first at.
    subst (λ (z : List ℕ). AreMoments r first z ended t.moments.items) (sym (same ∙ append-nil mid)) (moments-by r first mid ended t (way.way r first at).moments)

-- a read gave nothing
pub under_way-ended : (mid now : List ℕ) (n : ℕ) (room begun : List ℕ) (ended : Bool) (s t u : Subject) → IsUnderWay mid begun s t → now ≡ mid ++ take n room → n ≡ 0 → ended ≡ true →
    EndsBehind begun t u → (r : Rules) (first : World) → Stands false r first [] [] s → AreMoments r first now ended u.moments.items
under_way-ended mid now n room begun ended s t u way given nothing is ends = λ r first at.
    let told = ends r first mid (way.way r first at) in
    record {
      front = mid;
      more = take n room;
      gave_is = given;
      at_end = true;
      is_unended = told.0;
      all = λ _. (is, ap (λ (k : ℕ). take k room) nothing);
      last = λ _. refl;
      are = told.1;
    }

-- ---- the first step

-- a walk of which nothing is told stands in front of its trace, once it is asked
pub stands-first : (asked : Option (List ℕ)) (r : Rules) (s t : Subject) → KeepsTold s t → AsksFor asked t → MeansAs r s.machine → All (HasRoom (world_held s.machine)) s.spares.items →
    s.moments.items ≡ [] → IfSome asked (AreFrom (world_held s.machine).time) → Stands false r (world_held s.machine) [] [] t
stands-first asked r s t same asks meant spares none early =
    let w = world_held s.machine in
    record {
      means = subst (λ (m : Machine). MeansAs r m) (sym same.machine) meant;
      behind = subst (λ (m : Machine). ComesTo false r w [] [] (world_held m)) (sym same.machine) Begins;
      early = subst (λ (m : Machine). AreFrom (world_held m).time (left_of t)) (sym same.machine) (asks-early asked w.time t asks early);
      idle = asks-idle asked t asks;
      spares = subst (λ (m : Machine). All (HasRoom (world_held m)) t.spares.items) (sym same.machine) (subst (λ (xs : List Store). All (HasRoom w) xs) (sym same.spares) spares);
      moments = subst (λ (xs : List Moment). All (IsMoment false r w []) xs) (sym (same.moments ∙ none)) (All-nil (IsMoment false r w []));
      rooms = subst (λ (xs : List Moment). All (λ (x : Moment). HasRoom (world_held t.machine) x.store) xs) (sym (same.moments ∙ none))
          (All-nil (λ (x : Moment). HasRoom (world_held t.machine) x.store));
    }
