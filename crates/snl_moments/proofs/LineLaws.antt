-- Laws of a walk in front of a line, and behind it.
use Rattle.std.proofs.Common.{◌≡◌, ◌≢◌, ◌∙◌, ◌<◌, ◌≤◌, ℕ, false, List, [], ◌∷◌, ◌++◌, Option, None, Some, length, refl, slice_get, subst, sym}
use Rattle.std.proofs.lemmas.Bool.{false≢true}
use Rattle.snl_machine.specs.MachineOf.{world_held}
use Rattle.snl_machine.specs.declared.machine.Machine.{Machine}
use Rattle.snl_moments.proofs.PlanLaws.{asked-on, from-next, from-none, from-sooner, idle-left, left-past, left-same}
use Rattle.snl_moments.proofs.WalkLaws.{before-line, idle-same, keeps-nears, leaves-keeps, leaves-stands, line-on, long-bad, nears-then, refused-bad, tells-nears}
use Rattle.snl_moments.specs.Comes.{IsLater, IsLine}
use Rattle.snl_moments.specs.Plans.{SameAsked, left_of}
use Rattle.snl_moments.specs.Stepping.{LineFollows}
use Rattle.snl_moments.specs.Tells.{IsBad}
use Rattle.snl_moments.specs.Walks.{ComesTowards, DoesBy, EndsAt, GoesBy, IsRefused, Keeps, Leaves, MeansAs, Nears, ReadsAt, ReadsBehind, ReadsUpTo, TellsAt, TellsBad, WakesTo}
use Rattle.snl_moments.specs.declared.subject.Subject.{Subject}
use Rattle.snl_moments.specs.declared.walks.Close.{Close}
use Rattle.snl_moments.specs.declared.walks.Sort.TheVariants.{Times}
use Rattle.snl_trace.specs.Run.{Rules}

-- ---- towards a line

-- no time is left
pub towards-none : (line : List ℕ) (s t : Subject) → Nears line s t → left_of t ≡ [] → ComesTowards line s t
towards-none line s t nears none = λ r first gave more plain at. (nears r first gave more plain at, λ ms read. from-none ms (left_of t) none)

-- none was asked for
pub towards-idle : (line : List ℕ) (s t : Subject) → Nears line s t → t.sort ≢ Times → ComesTowards line s t
towards-idle line s t nears never = λ r first gave more plain at.
    let here = nears r first gave more plain at in (here, λ ms read. from-none ms (left_of t) (idle-left t (here.idle never)))

-- the line comes at the next one or before it
pub towards-next : (line : List ℕ) (ms : ℕ) (s t : Subject) → Nears line s t → slice_get t.times.items t.next ≡ Some ms →
    ((r : Rules) → MeansAs r t.machine → (at : ℕ) → ReadsAt r (world_held t.machine) line at → at ≤ ms) → ComesTowards line s t
towards-next line ms s t nears next sooner = λ r first gave more plain at.
    let here = nears r first gave more plain at in
    (here, λ when read. from-sooner when ms (left_of t) (sooner r here.means when read) (from-next (world_held t.machine).time ms t.times.items t.next next here.early).1)

-- wakes are run in front of it
pub wakes-towards : (line : List ℕ) (ms : ℕ) (s t u : Subject) → s.sort ≢ Times → Leaves s t → SameAsked t u → ((r : Rules) → MeansAs r s.machine → ReadsBehind r (world_held s.machine) line ms) →
    WakesTo ms t u → ComesTowards line s u
wakes-towards line ms s t u never same asked reads wakes =
    towards-idle line s u
    (λ r first gave more plain at.
    let rest = line ++ 10 ∷ more in
    let here = leaves-stands false r first gave rest s t same at in
    let later = subst (λ (m : Machine). IsLater false r ms (world_held m) rest) (sym same.told.machine) (before-line r (world_held s.machine) line more ms plain (reads r at.means)) in
    (wakes false r first gave rest here later (from-none ms (left_of t) (idle-left t (idle-same s t same.asked at.idle (λ is. never (sym same.asked.sort ∙ is)))))).0)
    (λ is. never (sym same.asked.sort ∙ sym asked.sort ∙ is))

-- the next time that comes before it is told
pub nears-due : (line : List ℕ) (ms : ℕ) (s t u v : Subject) → Nears line s t → Leaves t u → slice_get t.times.items t.next ≡ Some ms →
    ((r : Rules) → MeansAs r t.machine → ReadsBehind r (world_held t.machine) line ms) → TellsAt ms u v → Nears line s v
nears-due line ms s t u v nears same next reads tells =
    let there : (r : Rules) → MeansAs r u.machine → ReadsBehind r (world_held u.machine) line ms =
    subst (λ (m : Machine). (r : Rules) → MeansAs r m → ReadsBehind r (world_held m) line ms) (sym same.told.machine) reads in
    nears-then line s t v nears (nears-then line t u v (keeps-nears line t u (leaves-keeps t u same)) (tells-nears line ms u v (asked-on t u ms same.asked next) there tells))

-- none that is left comes before it
pub towards-due : (line : List ℕ) (s t u : Subject) → Nears line s t → Leaves t u →
    ((r : Rules) (ms : ℕ) → MeansAs r t.machine → slice_get t.times.items t.next ≡ Some ms → ReadsUpTo r (world_held t.machine) line ms) → ComesTowards line s u
towards-due line s t u nears same sooner = by (slice_get t.times.items t.next) refl
  where
    near : Nears line s u
    near = nears-then line s t u nears (keeps-nears line t u (leaves-keeps t u same))

    by : (o : Option ℕ) → slice_get t.times.items t.next ≡ o → ComesTowards line s u
    by None none = towards-none line s u near (left-same t u same.asked ∙ left-past t none)
    by (Some ms) next =
        towards-next line ms s u near (asked-on t u ms same.asked next)
        (subst (λ (m : Machine). (r : Rules) → MeansAs r m → ReadsUpTo r (world_held m) line ms) (sym same.told.machine) (λ r meant. sooner r ms meant next))

-- ---- lines, one after another

-- a line that was done, behind which a way into a state may be told
pub does-on : (line : List ℕ) (s t u : Subject) → IsLine line → LineFollows line s.machine t.machine → t.spares.items ≡ s.spares.items → t.moments.items ≡ s.moments.items →
    SameAsked s t → Keeps t u → DoesBy line s u None
does-on line s t u plain follows spares moments asked keeps = λ r first gave more at may.
    keeps false r first gave more (line-on r first gave line more s t plain follows spares moments asked at may)

-- a line at which the program ends
pub does-end : (line : List ℕ) (close : Close) (s t u : Subject) → IsLine line → LineFollows line s.machine t.machine → t.spares.items ≡ s.spares.items → t.moments.items ≡ s.moments.items →
    SameAsked s t → EndsAt false t u → DoesBy line s u (Some close)
does-end line close s t u plain follows spares moments asked ends = λ r first gave more at may.
    (ends r first gave more (λ never. absurd (false≢true never)) (line-on r first gave line more s t plain follows spares moments asked at may)).moments

-- a line that is bad
pub does-bad : (line : List ℕ) (close : Close) (s t u : Subject) → IsLine line → Leaves s t → ((r : Rules) → MeansAs r s.machine → IsRefused r (world_held s.machine) line) → TellsBad t u →
    DoesBy line s u (Some close)
does-bad line close s t u plain same bad tells = λ r first gave more at may.
    (tells r first gave (line ++ 10 ∷ more)
    (subst (λ (m : Machine). IsBad r (world_held m) (line ++ 10 ∷ more)) (sym same.told.machine) (refused-bad r (world_held s.machine) line more plain (bad r at.means)))
    (leaves-stands false r first gave (line ++ 10 ∷ more) s t same at)).moments

-- what is told in front of a line, behind which the walk ends
pub goes-told : (line : List ℕ) (close : Close) (s t : Subject) → IsLine line → ComesTowards line s t → GoesBy line s t (Some close)
goes-told line close s t plain towards = λ r first gave more at. (towards r first gave more plain at).0.moments

-- a program that has ended in front of a line
pub goes-ended : (line : List ℕ) (close : Close) (s t u : Subject) → IsLine line → ComesTowards line s t → EndsAt false t u → GoesBy line s u (Some close)
goes-ended line close s t u plain towards ends = λ r first gave more at.
    (ends r first gave (line ++ 10 ∷ more) (λ never. absurd (false≢true never)) (towards r first gave more plain at).0).moments

-- a line behind what is told in front of it
pub goes-towards : (line : List ℕ) (close : Option Close) (s t u : Subject) → IsLine line → ComesTowards line s t → DoesBy line t u close → GoesBy line s u close
goes-towards line close s t u plain towards does = λ r first gave more at. let here = towards r first gave more plain at in does r first gave more here.0 here.1

-- a line that is too long
pub goes-long : (line : List ℕ) (close : Close) (s t : Subject) → IsLine line → 32768 < length line → TellsBad s t → GoesBy line s t (Some close)
goes-long line close s t plain long tells = λ r first gave more at.
    (tells r first gave (line ++ 10 ∷ more) (long-bad r (world_held s.machine) line (10 ∷ more) plain long) at).moments
