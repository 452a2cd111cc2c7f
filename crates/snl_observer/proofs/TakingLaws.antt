-- Laws of bytes that are taken in.
use Rattle.std.proofs.Common.{◌≡◌, ◌≢◌, ◌∙◌, ◌+◌, ◌<◌, ℕ, true, false, List, [], ◌∷◌, ◌++◌, All, Option, None, Some, cond, eqb, length, refl, ap, sym, subst, arith, append_assoc, append-nil, length-append}
use Rattle.std.specs.Option.{unwrap_or}
use Rattle.snl_machine.specs.MachineOf.{world_held}
use Rattle.snl_output.specs.TraceLines.{last_line, lines_from, lines_to}
use Rattle.snl_observer.proofs.StepLaws.{right-long}
use Rattle.snl_observer.proofs.TellLaws.{none-at}
use Rattle.snl_observer.specs.Behind.{Finishes, IsRight, IsTakenIn, Stand, StandBehind, StepsTo, TakesIn, long_at}
use Rattle.snl_meaning.specs.Ran.{Ran}
use Rattle.snl_observer.specs.Observed.{EndsSo, Pair, RunsSo}
use Rattle.snl_observer.specs.declared.closes.Close.{Close}
use Rattle.snl_observer.specs.declared.closes.Close.TheVariants.{Run}
use Rattle.snl_trace.specs.declared.runner.End.{End}
use Rattle.snl_trace.specs.declared.runner.End.TheVariants as end
use Rattle.snl_trace.proofs.LineLaws.{lines_to-append, lines_to-end, lines_to-newline}

-- no bytes
pub taken-none : (begun : List ℕ) (s : Stand) → IsTakenIn [] begun begun s s
unfolding lines_to
taken-none begun s = record {
  lines = [];
  cut = λ last. refl;
  stands = λ p done at. subst (λ (z : List (List ℕ)). StandBehind p z s) (sym (append-nil done)) at;
}

-- some bytes and then others
pub taken-then : (front rest begun mid end : List ℕ) (s t u : Stand) → IsTakenIn front begun mid s t → IsTakenIn rest mid end t u → IsTakenIn (front ++ rest) begun end s u
taken-then front rest begun mid end s t u first then = record {
  lines = first.lines ++ then.lines;
  cut = λ last.
      lines_to-append last begun front rest
      ∙ first.cut (λ line. lines_to last line rest)
      ∙ ap (λ z. first.lines ++ z) (then.cut last)
      ∙ sym (append_assoc first.lines then.lines (last end));
  stands = λ p done at.
      subst (λ (z : List (List ℕ)). StandBehind p z u) (append_assoc done first.lines then.lines)
      (then.stands p (done ++ first.lines) (first.stands p done at));
}

-- bytes without a newline go on the line
pub taken-more : (left begun : List ℕ) (s : Stand) → All (λ byte. byte ≢ 10) left → IsTakenIn left begun (begun ++ left) s s
taken-more left begun s none = record {
  lines = [];
  cut = λ last. lines_to-end last begun left (none-at left none);
  stands = λ p done at. subst (λ (z : List (List ℕ)). StandBehind p z s) (sym (append-nil done)) at;
}

-- a newline ends a line
pub takes-line : (close : Option Close) (front begun : List ℕ) (s t : Stand) → All (λ byte. byte ≢ 10) front → StepsTo (begun ++ front) s t close →
    TakesIn (front ++ 10 ∷ []) begun [] s t close
unfolding lines_to
takes-line None front begun s t none steps = record {
  lines = (begun ++ front) ∷ [];
  cut = λ last. lines_to-newline last begun front [] (none-at front none);
  stands = λ p done at. steps p done at;
}
takes-line (Some close) front begun s t none steps = λ more p done at.
    let lines : lines_from begun ((front ++ 10 ∷ []) ++ more) ≡ (begun ++ front) ∷ lines_from [] more =
    ap (lines_to last_line begun) (append_assoc front (10 ∷ []) more) ∙ lines_to-newline last_line begun front more (none-at front none) in
    subst (λ (z : List (List ℕ)). IsRight p (done ++ z) t close) (sym lines) (steps p done (lines_from [] more) at)

-- of some lines the first is too long
abbrev BeginsLong : List (List ℕ) → Type 0
BeginsLong lines = (line : List ℕ) × (after : List (List ℕ)) × (lines ≡ line ∷ after) × (32768 < length line)

-- a line that goes on from one that is too long is too long
long-first : (begun bytes : List ℕ) → 32768 < length begun → BeginsLong (lines_from begun bytes)
unfolding lines_to
long-first [] [] long = absurd (omega arith)
long-first (c ∷ cs) [] long = (c ∷ cs, [], refl, long)
long-first begun (b ∷ bs) long =
    elim (eqb b 10) as (λ t. BeginsLong (cond t (begun ∷ lines_to last_line [] bs) (lines_to last_line (begun ++ b ∷ []) bs))) [
      | true ↦ (begun, lines_to last_line [] bs, refl, long)
      | false ↦ long-first (begun ++ b ∷ []) bs (omega (arith, length-append begun (b ∷ [])))
    ]

-- a line that is too long follows some lines
found-long : (p : Pair) (done lines : List (List ℕ)) (s : Stand) → StandBehind p done s → BeginsLong lines → IsRight p (done ++ lines) s (long_at s.number)
found-long p done lines s at long =
    subst (λ (z : List (List ℕ)). IsRight p (done ++ z) s (long_at s.number)) (sym long.2) (right-long p done long.1 long.0 s at long.3)

-- bytes that make a line too long end the run, whatever follows
pub takes-long : (front rest begun any : List ℕ) (s : Stand) → All (λ byte. byte ≢ 10) front → 32768 < length begun + length front →
    TakesIn (front ++ rest) begun any s s (Some (long_at s.number))
takes-long front rest begun any s none size = λ more p done at.
    let lines : lines_from begun ((front ++ rest) ++ more) ≡ lines_from (begun ++ front) (rest ++ more) =
    ap (lines_to last_line begun) (append_assoc front rest more)
    ∙ lines_to-append last_line begun front (rest ++ more)
    ∙ lines_to-end (λ line. lines_to last_line line (rest ++ more)) begun front (none-at front none) in
    let long = long-first (begun ++ front) (rest ++ more) (omega (arith, size, length-append begun front)) in
    subst (λ (z : List (List ℕ)). IsRight p (done ++ z) s (long_at s.number)) (sym lines)
    (found-long p done (lines_from (begun ++ front) (rest ++ more)) s at long)

-- the run ends in bytes behind others
pub takes-behind : (close : Close) (front rest begun mid end : List ℕ) (s t u : Stand) → IsTakenIn front begun mid s t → TakesIn rest mid end t u (Some close) →
    TakesIn (front ++ rest) begun end s u (Some close)
takes-behind close front rest begun mid end s t u first then = λ more p done at.
    let lines : lines_from begun ((front ++ rest) ++ more) ≡ first.lines ++ lines_from mid (rest ++ more) =
    ap (lines_to last_line begun) (append_assoc front rest more)
    ∙ lines_to-append last_line begun front (rest ++ more)
    ∙ first.cut (λ line. lines_to last_line line (rest ++ more)) in
    subst (λ (z : List (List ℕ)). IsRight p (done ++ z) u close) (sym lines)
    (subst (λ (z : List (List ℕ)). IsRight p z u close) (append_assoc done first.lines (lines_from mid (rest ++ more)))
    (then more p (done ++ first.lines) (first.stands p done at)))

-- of some bytes the first were taken in
pub record IsPartWay (bytes left begun now : List ℕ) (s t : Stand) : Type 0 where
  pub taken : List ℕ
  pub are : bytes ≡ taken ++ left
  pub are_taken : IsTakenIn taken begun now s t

-- none were taken in yet
pub way-start : (bytes begun : List ℕ) (s : Stand) → IsPartWay bytes bytes begun begun s s
way-start bytes begun s = record { taken = []; are = refl; are_taken = taken-none begun s }

-- more of them
pub way-on : (bytes left front rest begun mid end : List ℕ) (s t u : Stand) → IsPartWay bytes left begun mid s t → left ≡ front ++ rest → IsTakenIn front mid end t u →
    IsPartWay bytes rest begun end s u
way-on bytes left front rest begun mid end s t u way are more = record {
  taken = way.taken ++ front;
  are = way.are ∙ ap (λ z. way.taken ++ z) are ∙ sym (append_assoc way.taken front rest);
  are_taken = taken-then way.taken front begun mid end s t u way.are_taken more;
}

-- the run ends in those that are next
pub way-ends : (close : Close) (bytes left front rest begun mid end : List ℕ) (s t u : Stand) → IsPartWay bytes left begun mid s t → left ≡ front ++ rest →
    TakesIn front mid end t u (Some close) → TakesIn bytes begun end s u (Some close)
way-ends close bytes left front rest begun mid end s t u way are ends = λ more p done at.
    let all : (way.taken ++ front) ++ (rest ++ more) ≡ bytes ++ more =
    append_assoc way.taken front (rest ++ more) ∙ ap (λ z. way.taken ++ z) (sym (append_assoc front rest more) ∙ ap (λ z. z ++ more) (sym are))
    ∙ sym (append_assoc way.taken left more) ∙ ap (λ z. z ++ more) (sym way.are) in
    subst (λ (z : List ℕ). IsRight p (done ++ lines_from begun z) u close) all
    (takes-behind close way.taken front begun mid end s t u way.are_taken ends (rest ++ more) p done at)

-- no bytes are left
pub way-all : (bytes left begun mid end : List ℕ) (s t u : Stand) → IsPartWay bytes left begun mid s t → IsTakenIn left mid end t u → IsTakenIn bytes begun end s u
way-all bytes left begun mid end s t u way more =
    subst (λ (z : List ℕ). IsTakenIn z begun end s u) (sym way.are) (taken-then way.taken left begun mid end s t u way.are_taken more)

-- what both wrote so far is right, where the trace ends
pub right-so-far : (p : Pair) (done : List (List ℕ)) (s : Stand) → StandBehind p done s → RunsSo p done s.wrote s.said end.TraceEnded
right-so-far p done s at = record {
  ends = subst (λ (z : Ran End). EndsSo z end.TraceEnded s.wrote) (sym at.ran) (refl, refl);
  how = s.how;
  well = at.well;
  watched = record { now = world_held s.watch; by = at.stands };
}

-- nothing stands behind the last newline
pub finishes-none : (begun : List ℕ) (s : Stand) → length begun ≡ 0 → Finishes begun s s (Run end.TraceEnded)
finishes-none [] s none = λ p done at.
    subst (λ (z : List (List ℕ)). IsRight p z s (Run end.TraceEnded)) (sym (append-nil done))
    (record { observed = right-so-far p done s at; unstuck = λ _. at.unstuck })
finishes-none (b ∷ bs) s none = absurd (omega arith)

-- a last line that no newline ends
pub finishes-line : (begun : List ℕ) (s t : Stand) (close : Option Close) → 0 < length begun → StepsTo begun s t close → Finishes begun s t (unwrap_or close (Run end.TraceEnded))
finishes-line [] s t close some steps = absurd (omega arith)
finishes-line (b ∷ bs) s t None some steps = λ p done at.
    let behind = steps p done at in record { observed = right-so-far p (done ++ (b ∷ bs) ∷ []) t behind; unstuck = λ _. behind.unstuck }
finishes-line (b ∷ bs) s t (Some close) some steps = λ p done at. steps p done [] at

-- a line that no bytes before it begin
pub takes-whole : (close : Option Close) (front begun : List ℕ) (s t : Stand) → begun ≡ [] → All (λ byte. byte ≢ 10) front → StepsTo front s t close →
    TakesIn (front ++ 10 ∷ []) begun begun s t close
takes-whole close front begun s t is none steps =
    subst (λ (z : List ℕ). TakesIn (front ++ 10 ∷ []) z z s t close) (sym is) (takes-line close front [] s t none steps)
