-- Laws of lines that a requirement hears.
use Rattle.std.proofs.Common.{◌≡◌, ◌∙◌, ◌+◌, ℕ, Bool, true, false, List, [], ◌∷◌, ◌++◌, Option, None, Some, IsSome, length, refl, ap, sym, subst, append_assoc, append-nil}
use Rattle.snl_machine.specs.MachineOf.{StaysMachineOf, world_held}
use Rattle.snl_machine.specs.declared.machine.Machine.{Machine}
use Rattle.snl_meaning.specs.Ran.{Ran, Faults, Gives, then_do}
use Rattle.snl_meaning.specs.World.{World}
use Rattle.snl_observer.proofs.DoneLaws.{told-is}
use Rattle.snl_observer.proofs.MeansLaws.{means-stays}
use Rattle.snl_observer.proofs.StandLaws.{stands-more, stands-then, text-also}
use Rattle.snl_observer.specs.Doing.{LineDid}
use Rattle.snl_observer.specs.Means.{MeansAs}
use Rattle.snl_observer.specs.Stands.{Begins, StandsBy}
use Rattle.snl_observer.specs.Telling.{Adds}
use Rattle.snl_observer.specs.Watching.{Led, ended_by, stopped}
use Rattle.snl_observer.specs.declared.closes.Ending.{Ending}
use Rattle.snl_observer.specs.declared.closes.Ending.TheVariants.{Exited, Faulted, Refused, Stopped}
use Rattle.snl_output.specs.Does.{text_of}
use Rattle.snl_trace.proofs.RunLaws.{run_from-append}
use Rattle.snl_trace.proofs.RunOverLaws.{ends-here, goes_on}
use Rattle.snl_trace.specs.Run.{Rules, line_done, or_rest, run_from}
use Rattle.snl_trace.specs.RunOver.{Place}
use Rattle.snl_trace.specs.declared.runner.End.{End}
use Rattle.snl_trace.specs.declared.runner.End.TheVariants as end

-- the text of a step begins that of all
step-begins : (r : Ran (Option End)) (go : World → Ran End) → (more : List ℕ) × (text_of (then_do r (or_rest go)) ≡ text_of r ++ more)
step-begins (Gives None x t) go = (text_of (go x), text-also t (go x))
step-begins (Gives (Some e) x t) go = ([], refl)
step-begins (Faults f l x t) go = ([], sym (append-nil t))

-- the run over lines begins with what the first one gives
pub line-begins : (rules : Rules) (n : ℕ) (line : List ℕ) (lines : List (List ℕ)) (w : World) →
    (more : List ℕ) × (text_of (run_from rules n (line ∷ lines) w) ≡ text_of (line_done rules n line w) ++ more)
unfolding run_from
line-begins rules n line lines w = step-begins (line_done rules n line w) (λ v. run_from rules (n + 1) lines v)

-- a line that starts a trace
abbrev pub place_at : ℕ → World → Place
place_at n w = record { begun = []; number = n; world = w; told = Some [] }

-- one line
pub stands-one : (rules : Rules) (line : List ℕ) (w v : World) (text : List ℕ) (e : Option Ending) → LineDid rules line w e v text → StandsBy rules (line ∷ []) w v text e
stands-one rules line w v text None did = λ n.
    goes_on rules line (place_at n w) v (Some text) (did.does n) ∙ ap (Gives end.TraceEnded v) (told-is (did.does n).text text (did.does n).told)
stands-one rules line w v text (Some Exited) did = λ n.
    let at = ends-here rules end.ProgramEnded line [] (place_at n w) v (Some text) (did.does n) in
    at.is ∙ ap (Gives end.ProgramEnded v) (told-is at.text text at.told)
stands-one rules line w v text (Some (Faulted fault number)) did = λ n.
    let at = ends-here rules (end.Fault fault number) line [] (place_at n w) v (Some text) (did.does n) in
    at.is ∙ ap (Faults fault number v) (told-is at.text text at.told)
stands-one rules line w v text (Some (Refused fault)) did = λ n.
    let at = ends-here rules (end.TraceFault n fault) line [] (place_at n w) v (Some text) (did.does n) in
    (n, at.is ∙ ap (Gives (end.TraceFault n fault) v) (told-is at.text text at.told))
stands-one rules line w v text (Some Stopped) did = λ n.
    let more = line-begins rules n line [] w in (more.0, more.1 ∙ ap (λ z. z ++ more.0) (did.text_is n))

-- no line leads to where one stands
pub led-none : (m : Machine) (before : List ℕ) (o : Option Ending) → Led [] m m before before o o
led-none m before o = (
  λ p ls waits budget made. made,
  λ rules meant heard w at. subst (λ (z : List (List ℕ)). StandsBy rules z w (world_held m) before o) (sym (append-nil heard)) at,
)

-- some lines and then others
pub led-then : (xs ys : List (List ℕ)) (m k l : Machine) (a b d : List ℕ) (o p q : Option Ending) → Led xs m k a b o p → Led ys k l b d p q → Led (xs ++ ys) m l a d o q
led-then xs ys m k l a b d o p q first then = (
  λ t ls waits budget made. then.0 t ls waits budget (first.0 t ls waits budget made),
  λ rules meant heard w at.
      subst (λ (z : List (List ℕ)). StandsBy rules z w (world_held l) d q) (append_assoc heard xs ys)
      (then.1 rules (means-stays rules m k first.0 meant) (heard ++ xs) w (first.1 rules meant heard w at)),
)

-- one that has ended is led by no line
pub led-ended : (lines : List (List ℕ)) (m : Machine) (before : List ℕ) (o : Option Ending) → IsSome o → Led lines m m before before o o
led-ended lines m before None some = absurd cc
led-ended lines m before (Some e) some = (
  λ p ls waits budget made. made,
  λ rules meant heard w at. stands-more rules heard lines w (world_held m) before e at,
)

-- the same of one of which it is known how it ended
pub led-ended-by : (lines : List (List ℕ)) (m : Machine) (before : List ℕ) (o : Option Ending) (e : Ending) → o ≡ Some e → Led lines m m before before o o
led-ended-by lines m before o e is = subst (λ (z : Option Ending). Led lines m m before before z z) (sym is) (led-ended lines m before (Some e) refl)

-- so it stays where it is, whatever follows
pub led-more : (xs ys : List (List ℕ)) (m k : Machine) (a b : List ℕ) (o p : Option Ending) → IsSome p → Led xs m k a b o p → Led (xs ++ ys) m k a b o p
led-more xs ys m k a b o p some first = led-then xs ys m k k a b b o p p first (led-ended ys k b p some)

-- the same lines
pub led-same : (xs ys : List (List ℕ)) (m k : Machine) (a b : List ℕ) (o p : Option Ending) → xs ≡ ys → Led xs m k a b o p → Led ys m k a b o p
led-same xs ys m k a b o p is first = subst (λ (z : List (List ℕ)). Led z m k a b o p) is first

-- one that is stopped in lines of which a text begins
pub led-cut : (lines : List (List ℕ)) (m k : Machine) (before after front : List ℕ) → StaysMachineOf m k → after ≡ before ++ front →
    ((rules : Rules) → MeansAs rules m → (n : ℕ) → Begins front (text_of (run_from rules n lines (world_held m)))) → Led lines m k before after None (Some Stopped)
led-cut lines m k before after front stays is begins = (
  stays,
  λ rules meant heard w at n.
      let more = begins rules meant (n + length heard) in (
        more.0,
        ap (λ (r : Ran End). text_of r) (run_from-append rules n heard lines w (world_held m) before (at n))
            ∙ text-also before (run_from rules (n + length heard) lines (world_held m)) ∙ ap (λ z. before ++ z) more.1 ∙ sym (append_assoc before front more.0)
            ∙ ap (λ z. z ++ more.0) (sym is),
      ),
)

-- one that is stopped before it hears them
pub led-unheard : (lines : List (List ℕ)) (m k : Machine) (before : List ℕ) (o : Option Ending) → o ≡ None → StaysMachineOf m k → Led lines m k before before o (Some Stopped)
led-unheard lines m k before o none stays =
    subst (λ (z : Option Ending). Led lines m k before before z (Some Stopped)) (sym none)
    (led-cut lines m k before before [] stays (sym (append-nil before)) (λ rules meant n. (text_of (run_from rules n lines (world_held m)), refl)))

-- one that is stopped, unless it has ended
pub led-stop : (lines : List (List ℕ)) (m : Machine) (before : List ℕ) (o : Option Ending) → Led lines m m before before o (stopped o)
led-stop lines m before None = led-unheard lines m m before None refl (λ p ls waits budget made. made)
led-stop lines m before (Some e) = led-ended lines m before (Some e) refl

-- a line that is heard, by what it did, and by how much of that was written
pub led-heard : (line : List ℕ) (m k : Machine) (before after text : List ℕ) (o e : Option Ending) (whole : Bool) → o ≡ None → StaysMachineOf m k → Adds before after text →
    (whole ≡ true → after ≡ before ++ text) → ((rules : Rules) → MeansAs rules m → LineDid rules line (world_held m) e (world_held k) text) →
    Led (line ∷ []) m k before after o (ended_by e whole)
led-heard line m k before after text o e true none stays adds whole did =
    subst (λ (z : Option Ending). Led (line ∷ []) m k before after z e) (sym none) (
      stays,
      λ rules meant heard w at.
          subst (λ (z : List ℕ). StandsBy rules (heard ++ line ∷ []) w (world_held k) z e) (sym (whole refl))
          (stands-then rules heard (line ∷ []) w (world_held m) (world_held k) before text e at (stands-one rules line (world_held m) (world_held k) text e (did rules meant))),
    )
led-heard line m k before after text o e false none stays adds whole did =
    subst (λ (z : Option Ending). Led (line ∷ []) m k before after z (Some Stopped)) (sym none)
    (led-cut (line ∷ []) m k before after adds.front stays adds.is (λ rules meant n.
    let more = line-begins rules n line [] (world_held m) in (
      adds.rest ++ more.0,
      more.1 ∙ ap (λ z. z ++ more.0) ((did rules meant).text_is n ∙ adds.are) ∙ append_assoc adds.front adds.rest more.0,
    )))

-- the same with what was seen of all that
pub led-heard-as : (line : List ℕ) (m k : Machine) (before mid after text seen : List ℕ) (o e p : Option Ending) (whole : Bool) → o ≡ None → StaysMachineOf m k → seen ≡ text →
    Adds before mid seen → (whole ≡ true → mid ≡ before ++ seen) → after ≡ mid → p ≡ ended_by e whole →
    ((rules : Rules) → MeansAs rules m → LineDid rules line (world_held m) e (world_held k) text) → Led (line ∷ []) m k before after o p
led-heard-as line m k before mid after text seen o e p whole none stays same adds all is how did =
    subst (λ (z : List ℕ). Led (line ∷ []) m k before z o p) (sym is)
    (subst (λ (z : Option Ending). Led (line ∷ []) m k before mid o z) (sym how)
    (led-heard line m k before mid seen o e whole none stays adds all
    (λ rules meant. subst (λ (z : List ℕ). LineDid rules line (world_held m) e (world_held k) z) (sym same) (did rules meant))))

-- one that is stopped, with what was seen of that
pub led-stop-as : (lines : List (List ℕ)) (m : Machine) (a b : List ℕ) (o p : Option Ending) → b ≡ a → p ≡ stopped o → Led lines m m a b o p
led-stop-as lines m a b o p is how =
    subst (λ (z : List ℕ). Led lines m m a z o p) (sym is) (subst (λ (z : Option Ending). Led lines m m a a o z) (sym how) (led-stop lines m a o))

-- one line more, as a loop has it
pub led-push : (xs all : List (List ℕ)) (x y : List ℕ) (m k l : Machine) (a b d : List ℕ) (o p q : Option Ending) → Led xs m k a b o p → x ≡ y → Led (x ∷ []) k l b d p q →
    all ≡ xs ++ y ∷ [] → Led all m l a d o q
led-push xs all x y m k l a b d o p q first is then are =
    led-same (xs ++ y ∷ []) all m l a d o q (sym are)
    (led-then xs (y ∷ []) m k l a b d o p q first (subst (λ (z : List ℕ). Led (z ∷ []) k l b d p q) is then))

-- the same from and to where it is seen
pub led-seen : (lines : List (List ℕ)) (m k : Machine) (a b c d : List ℕ) (o p q r : Option Ending) → c ≡ a → b ≡ d → q ≡ o → p ≡ r → Led lines m k a b o p → Led lines m k c d q r
led-seen lines m k a b c d o p q r begins ends goes comes led =
    subst (λ (z : List ℕ). Led lines m k z d q r) (sym begins)
    (subst (λ (z : List ℕ). Led lines m k a z q r) ends
    (subst (λ (z : Option Ending). Led lines m k a b z r) (sym goes)
    (subst (λ (z : Option Ending). Led lines m k a b o z) comes led)))
