-- Laws of which moments are told.
use Rattle.std.proofs.Common.{◌≡◌, ◌≢◌, ◌∙◌, ◌+◌, ◌<◌, ◌≤◌, ℕ, suc, Bool, true, false, List, [], ◌∷◌, ◌++◌, Option, None, Some, add-one, append-nil, append_assoc, arith, ap, drop, get_or, inl, inr, length, map, refl, slice_get, subst, sym}
use Rattle.std.proofs.Math.Seq.{drop-cons, drop-nil}
use Rattle.std.specs.Option.{IfSome}
use Rattle.std.proofs.lemmas.Bool.{false≢true}
use Rattle.std.proofs.lemmas.List.{drop_all, map-append}
use Rattle.std.proofs.lemmas.Option.{get_or_from_slice_get, none-some, slice_get_cases, slice_get_within}
use Rattle.snl_moments.specs.Loaded.{IsUntold}
use Rattle.snl_moments.specs.Plans.{AreFrom, AreTold, AreToldBy, AsksFor, ClosesPlan, EndsPlan, GoesPlanned, KeepsPlan, SameAsked, StaysAsked, TellsKind, TellsNext, TellsPlan, kinds, left_of, planned}
use Rattle.snl_moments.specs.declared.subject.Subject.{Subject}
use Rattle.snl_moments.specs.declared.walks.Close.{Close}
use Rattle.snl_moments.specs.declared.walks.Close.TheVariants.{Ended, Over, Told}
use Rattle.snl_moments.specs.declared.walks.Kind.{Kind}
use Rattle.snl_moments.specs.declared.walks.Kind.TheVariants.{At, Before}
use Rattle.snl_moments.specs.declared.walks.Moment.{Moment}
use Rattle.snl_moments.specs.declared.walks.Sort.{Sort}
use Rattle.snl_moments.specs.declared.walks.Sort.TheVariants.{Into, Times, Trip}
use Rattle.snl_trace.specs.declared.runner.End.TheVariants as End
use Rattle.snl_trace.specs.declared.runner.End.TheVariants.{Fault, ProgramEnded, SinkFailed, SourceFailed, TraceEnded}
use Rattle.snl_trace.specs.declared.trace_faults.TraceFault.{TraceFault}

-- ---- the next time

-- of some times that are left the next one is the first
left-next : (xs : List ℕ) (n ms : ℕ) → slice_get xs n ≡ Some ms → drop n xs ≡ ms ∷ drop (n + 1) xs
left-next xs n ms is =
    drop-cons xs n ms (slice_get_within xs n ms is)
    ∙ ap (λ (x : ℕ). x ∷ drop (suc n) xs) (get_or_from_slice_get xs n ms ms is)
    ∙ ap (λ (k : ℕ). ms ∷ drop k xs) (sym (add-one n))

-- where there is no next one, none is left
pub left-none : (s : Subject) → length s.times.items ≤ s.next → left_of s ≡ []
left-none s past = drop_all s.next s.times.items past

-- past the last time none is left
pub left-past : (s : Subject) → slice_get s.times.items s.next ≡ None → left_of s ≡ []
left-past s none = left-none s (past s.times.items s.next none)
  where
    past : (xs : List ℕ) (n : ℕ) → slice_get xs n ≡ None → length xs ≤ n
    past xs n none = elim (slice_get_cases xs n).1 [ inl some ↦ absurd (none-some some.0 (sym none ∙ some.2)) | inr late ↦ late.0 ]

-- ---- what stays

-- what stays as it is was asked the same
pub stays-same : (s : Subject) → SameAsked s s
stays-same s = record { sort = refl; times = refl; next = refl }

-- where the moments stay, what is left to be told stays
pub stays-asked : (s t : Subject) → SameAsked s t → t.moments.items ≡ s.moments.items → StaysAsked s t
stays-asked s t same moments = record { same = same; told = λ _. ap kinds moments }

-- the same twice is the same
pub same-then : (s t u : Subject) → SameAsked s t → SameAsked t u → SameAsked s u
same-then s t u one other = record { sort = other.sort ∙ one.sort; times = other.times ∙ one.times; next = other.next ∙ one.next }

-- to stay twice is to stay
pub stays-then : (s t u : Subject) → StaysAsked s t → StaysAsked t u → StaysAsked s u
stays-then s t u one other = record { same = same-then s t u one.same other.same; told = λ is. other.told (one.same.sort ∙ is) ∙ one.told is }

-- what is asked for in the same order is left
pub left-same : (s t : Subject) → SameAsked s t → left_of t ≡ left_of s
left-same s t same = (λ j. drop (same.next j) (same.times j))

-- what stays keeps its plan
pub stays-plan : (s t : Subject) → StaysAsked s t → KeepsPlan s t
stays-plan s t stays = record {
  sort = stays.same.sort;
  times = stays.same.times;
  plan = λ is.
      ap (λ (ks : List Kind). ks ++ map At (left_of t)) (stays.told is)
      ∙ ap (λ (xs : List ℕ). kinds s.moments.items ++ map At xs) (left-same s t stays.same);
}

-- each plan is kept by itself
pub keeps-plan : (s : Subject) → KeepsPlan s s
keeps-plan s = record { sort = refl; times = refl; plan = λ _. refl }

-- plans are kept one after another
pub plan-then : (s t u : Subject) → KeepsPlan s t → KeepsPlan t u → KeepsPlan s u
plan-then s t u one other = record { sort = other.sort ∙ one.sort; times = other.times ∙ one.times; plan = λ is. other.plan (one.sort ∙ is) ∙ one.plan is }

-- the next time is the same
pub asked-on : (s t : Subject) (ms : ℕ) → SameAsked s t → slice_get s.times.items s.next ≡ Some ms → slice_get t.times.items t.next ≡ Some ms
asked-on s t ms same is = (λ j. slice_get (same.times j) (same.next j)) ∙ is

-- ---- one time more

-- the next time is told
pub tells-plan : (ms : ℕ) (s t : Subject) → TellsNext ms s t → slice_get s.times.items s.next ≡ Some ms → KeepsPlan s t
tells-plan ms s t tells is =
    let told = kinds s.moments.items in
    record {
      sort = tells.sort;
      times = tells.times;
      plan = λ _.
          (λ j. tells.told j ++ map At (drop (tells.next is j) (tells.times j)))
          ∙ append_assoc told (At ms ∷ []) (map At (drop (s.next + 1) s.times.items))
          ∙ ap (λ (xs : List ℕ). told ++ map At xs) (sym (left-next s.times.items s.next ms is));
    }

-- the same by two steps
pub tells-next : (ms : ℕ) (s t u : Subject) → TellsKind (At ms) s t → u.sort ≡ t.sort → u.times.items ≡ t.times.items → u.moments.items ≡ t.moments.items →
    (t.next < length t.times.items → u.next ≡ t.next + 1) → TellsNext ms s u
tells-next ms s t u tells sort times moments next = record {
  sort = sort ∙ tells.same.sort;
  times = times ∙ tells.same.times;
  next = λ is.
      next (within s t ms tells.same is) ∙ ap (λ (n : ℕ). n + 1) tells.same.next;
  told = ap kinds moments ∙ tells.told;
}
  where
    within : (s t : Subject) (ms : ℕ) → SameAsked s t → slice_get s.times.items s.next ≡ Some ms → t.next < length t.times.items
    within s t ms same is = slice_get_within t.times.items t.next ms ((λ j. slice_get (same.times j) (same.next j)) ∙ is)

-- a time is told once a wake was done
pub told-plan : (ms : ℕ) (s t u : Subject) → StaysAsked s t → TellsNext ms t u → slice_get s.times.items s.next ≡ Some ms → KeepsPlan s u
told-plan ms s t u stays tells is =
    plan-then s t u (stays-plan s t stays) (tells-plan ms t u tells ((λ j. slice_get (stays.same.times j) (stays.same.next j)) ∙ is))

-- where the next time was told, the one behind it is next
pub told-next : (ms : ℕ) (s t u : Subject) → StaysAsked s t → TellsNext ms t u → slice_get s.times.items s.next ≡ Some ms → u.next ≡ s.next + 1
told-next ms s t u stays tells is =
    tells.next ((λ j. slice_get (stays.same.times j) (stays.same.next j)) ∙ is) ∙ ap (λ (n : ℕ). n + 1) stays.same.next

-- ---- the end

-- where all are told, that is right for each close
all-told : (close : Close) (times : List ℕ) (told : List Kind) → told ≡ map At times → AreToldBy times close told
all-told Told times told is = is
all-told Over times told is = is
all-told (Ended TraceEnded) times told is = is
all-told (Ended ProgramEnded) times told is = is
all-told (Ended (Fault fault line)) times told is = is
all-told (Ended (End.TraceFault number fault)) times told is = inl is
all-told (Ended SourceFailed) times told is = is
all-told (Ended SinkFailed) times told is = is

-- where none is left of a plan that is kept, all are told
pub closes-by : (close : Close) (s t : Subject) → KeepsPlan s t → (s.sort ≡ Times → left_of t ≡ []) → ClosesPlan close s t
closes-by close s t keeps none = λ is times planned.
    let told = kinds t.moments.items in
    all-told close times told (sym (append-nil told) ∙ ap (λ (xs : List ℕ). told ++ map At xs) (sym (none is)) ∙ keeps.plan is ∙ planned)

-- at the end of a trace none is left
pub closes-over : (close : Close) (s t : Subject) → EndsPlan true s t → ClosesPlan close s t
closes-over close s t ends = closes-by close s t ends.keeps (λ is. ends.none refl is)

-- where a trace can't be read on, the first ones are told
pub closes-source : (s t : Subject) → KeepsPlan s t → TellsPlan None s t
closes-source s t keeps = λ is times planned. record { left = left_of t; are = keeps.plan is ∙ planned }

-- in front of a bad line the next time is told
pub closes-bad : (ms number : ℕ) (fault : TraceFault) (s t : Subject) → TellsKind (Before ms) s t → slice_get s.times.items s.next ≡ Some ms →
    ClosesPlan (Ended (End.TraceFault number fault)) s t
closes-bad ms number fault s t tells next = λ is times planned. inr (record {
  front = kinds s.moments.items;
  ms = ms;
  left = drop (s.next + 1) s.times.items;
  told_is = tells.told;
  times_are = ap (λ (xs : List ℕ). kinds s.moments.items ++ map At xs) (sym (left-next s.times.items s.next ms next)) ∙ planned;
})

-- where no time is next, all are told
pub closes-none : (close : Close) (s : Subject) → slice_get s.times.items s.next ≡ None → ClosesPlan close s s
closes-none close s none = closes-by close s s (keeps-plan s) (λ _. left-past s none)

-- ---- one after another

-- what keeps its plan first closes as planned
pub closes-then : (close : Close) (s t u : Subject) → KeepsPlan s t → ClosesPlan close t u → ClosesPlan close s u
closes-then close s t u keeps closes = λ is times planned. closes (keeps.sort ∙ is) times (keeps.plan is ∙ planned)

-- what keeps its plan first goes on as planned
pub goes-then : (close : Option Close) (s t u : Subject) → KeepsPlan s t → GoesPlanned close t u → GoesPlanned close s u
goes-then None s t u keeps goes = plan-then s t u keeps goes
goes-then (Some close) s t u keeps goes = closes-then close s t u keeps goes

-- where something is not the last it is not over
pub not-over : {A : Type 0} (is_over is_last : Bool) → is_over ≡ true → is_last ≡ false → (is_over ≡ true → is_last ≡ true) → A
not-over is_over is_last over never so = absurd (false≢true (sym never ∙ so over))

-- one moment more
pub tells-kind : (s t : Subject) (m : Moment) → SameAsked s t → t.moments.items ≡ s.moments.items ++ m ∷ [] → TellsKind m.kind s t
tells-kind s t m same moments = record { same = same; told = ap kinds moments ∙ map-append (λ (x : Moment). x.kind) s.moments.items (m ∷ []) }

-- ---- where no times are asked for

-- a trip is no time
pub trip-not : (sort : Sort) → sort ≡ Trip → sort ≢ Times
trip-not sort trip times = cc

-- a way into a state is no time
pub into-not : (sort : Sort) → sort ≡ Into → sort ≢ Times
into-not sort into times = cc

-- where no times are asked for, each plan is kept
pub other-keeps : (s t : Subject) → SameAsked s t → s.sort ≢ Times → KeepsPlan s t
other-keeps s t same never = record { sort = same.sort; times = same.times; plan = λ is. absurd (never is) }

-- and each end is as planned
pub ends-other : (is_over : Bool) (s t : Subject) → SameAsked s t → s.sort ≢ Times → EndsPlan is_over s t
ends-other is_over s t same never = record { keeps = other-keeps s t same never; none = λ over is. absurd (never is) }

-- and all stays
pub other-stays : (s t : Subject) → SameAsked s t → s.sort ≢ Times → StaysAsked s t
other-stays s t same never = record { same = same; told = λ is. absurd (never is) }

-- ---- times in order

-- none comes before an earlier time either
pub from-sooner : (early late : ℕ) (xs : List ℕ) → early ≤ late → AreFrom late xs → AreFrom early xs
from-sooner early late [] le are = tt
from-sooner early late (x ∷ xs) le are = (omega (arith, le, are.0), are.1)

-- the next one is not before any that comes behind it
pub from-next : (early ms : ℕ) (xs : List ℕ) (n : ℕ) → slice_get xs n ≡ Some ms → AreFrom early (drop n xs) → (early ≤ ms) × AreFrom ms (drop n xs)
from-next early ms xs n is are =
    let cut = left-next xs n ms is in
    let both = subst (λ (ys : List ℕ). AreFrom early ys) cut are in
    (both.0, subst (λ (ys : List ℕ). AreFrom ms ys) (sym cut) (omega arith, both.1))

-- so it is behind the next one
pub from-drop : (early : ℕ) (xs : List ℕ) (n : ℕ) → n < length xs → AreFrom early (drop n xs) → AreFrom early (drop (n + 1) xs)
from-drop early xs n within are =
    let both = subst (λ (ys : List ℕ). AreFrom early ys) (drop-cons xs n 0 within) are in
    from-sooner early (get_or xs n 0) (drop (n + 1) xs) both.0 (subst (λ (k : ℕ). AreFrom (get_or xs n 0) (drop k xs)) (sym (add-one n)) both.1)

-- where none is left they are
pub from-none : (early : ℕ) (xs : List ℕ) → xs ≡ [] → AreFrom early xs
from-none early xs none = subst (λ (ys : List ℕ). AreFrom early ys) (sym none) tt

-- those of the same walk are
pub from-same : (early : ℕ) (s t : Subject) → SameAsked s t → AreFrom early (left_of s) → AreFrom early (left_of t)
from-same early s t same are = subst (λ (xs : List ℕ). AreFrom early xs) (sym (left-same s t same)) are

-- a walk that asks for none has none left
pub idle-left : (s : Subject) → s.times.items ≡ [] → left_of s ≡ []
idle-left s none = ap (λ (xs : List ℕ). drop s.next xs) none ∙ drop-nil s.next

-- ---- the first step

-- what is asked for is planned where nothing is told
pub asks-plan : (times : List ℕ) (s t : Subject) → IsUntold s → t.moments.items ≡ s.moments.items → left_of t ≡ times → planned t ≡ map At times
asks-plan times s t none moments left = (λ j. kinds (moments j) ++ map At (left j)) ∙ (λ j. kinds (none.moments j) ++ map At times)

-- it is told so where the walk closed
pub told-by : (asked : Option (List ℕ)) (close : Option Close) (s t u : Subject) → IsUntold s → t.moments.items ≡ s.moments.items → AsksFor asked t → TellsPlan close t u →
    IfSome asked (λ times. AreTold times close (kinds u.moments.items))
told-by None close s t u none moments asks closes = tt
told-by (Some times) close s t u none moments asks closes = closes asks.0 times (asks-plan times s t none moments asks.1)

-- the times that are asked for are left
pub asks-early : (asked : Option (List ℕ)) (early : ℕ) (t : Subject) → AsksFor asked t → IfSome asked (AreFrom early) → AreFrom early (left_of t)
asks-early None early t asks are = from-none early (left_of t) (idle-left t asks.1)
asks-early (Some times) early t asks are = subst (λ (xs : List ℕ). AreFrom early xs) (sym asks.1) are

-- else none are
pub asks-idle : (asked : Option (List ℕ)) (t : Subject) → AsksFor asked t → (t.sort ≡ Times → ⊥) → t.times.items ≡ []
asks-idle None t asks never = asks.1
asks-idle (Some times) t asks never = absurd (never asks.0)
