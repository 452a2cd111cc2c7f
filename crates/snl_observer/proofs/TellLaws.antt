-- Laws of lines of a program that are written, and that its requirement hears of.
use Rattle.std.proofs.Common.{◌≡◌, ◌≢◌, ◌∙◌, ◌<◌, ℕ, true, false, List, [], ◌∷◌, ◌++◌, All, Option, None, Some, IsSome, get_or, length, refl, ap, sym, subst, append_assoc, append-nil}
use Rattle.std.proofs.lemmas.List.Elements.{All-get_or}
use Rattle.snl_heard.specs.Heard.{among, heard_all, heard_of}
use Rattle.snl_outline.specs.Names.{Names}
use Rattle.snl_machine.specs.declared.machine.Machine.{Machine}
use Rattle.snl_observer.proofs.HeardLaws.{all-append, all-none, all-one, among-back, among-front, before-append, halts-none}
use Rattle.snl_observer.proofs.LineLaws.{led-more, led-none, led-same, led-then}
use Rattle.snl_observer.specs.Telling.{Adds, EndsIn, Halts, Passes, Tells, comes_at}
use Rattle.snl_observer.specs.Watching.{Led}
use Rattle.snl_observer.specs.declared.closes.Ending.{Ending}
use Rattle.snl_output.specs.TraceLines.{whole_lines}
use Rattle.snl_trace.proofs.LineLaws.{lines_to-end, lines_to-newline}

-- no newline stands at any place
pub none-at : (text : List ℕ) → All (λ byte. byte ≢ 10) text → (j : ℕ) → j < length text → get_or text j 0 ≡ 10 → ⊥
none-at text none j below = All-get_or (λ (byte : ℕ). byte ≢ 10) text j 0 below none

-- nothing was added
pub adds-none : (old text : List ℕ) → Adds old old text
adds-none old text = record { front = []; rest = text; are = refl; is = sym (append-nil old) }

-- all was added
pub adds-all : (old new text : List ℕ) → new ≡ old ++ text → Adds old new text
adds-all old new text is = record { front = text; rest = []; are = sym (append-nil text); is = is }

-- the first line of a text
pub first-line : (left line rest : List ℕ) → left ≡ line ++ 10 ∷ rest → All (λ byte. byte ≢ 10) line → whole_lines left ≡ line ∷ whole_lines rest
first-line left line rest is none = ap whole_lines is ∙ lines_to-newline (λ _. []) [] line rest (none-at line none)

-- a text without a line
pub no-line : (left : List ℕ) → All (λ byte. byte ≢ 10) left → whole_lines left ≡ []
no-line left none = lines_to-end (λ _. []) [] left (none-at left none)

-- of a text the front was written
pub record IsPart (old new text left : List ℕ) : Type 0 where
  pub front : List ℕ
  pub are : text ≡ front ++ left
  pub is : new ≡ old ++ front

-- nothing yet
pub part-none : (old text : List ℕ) → IsPart old old text text
part-none old text = record { front = []; are = refl; is = sym (append-nil old) }

-- one line more
pub part-on : (old mid new text left line rest : List ℕ) → IsPart old mid text left → left ≡ line ++ 10 ∷ rest → new ≡ mid ++ (line ++ 10 ∷ []) → IsPart old new text rest
part-on old mid new text left line rest part is written = record {
  front = part.front ++ (line ++ 10 ∷ []);
  are = part.are ∙ ap (λ z. part.front ++ z) (is ∙ sym (append_assoc line (10 ∷ []) rest)) ∙ sym (append_assoc part.front (line ++ 10 ∷ []) rest);
  is = written ∙ ap (λ z. z ++ (line ++ 10 ∷ [])) part.is ∙ append_assoc old part.front (line ++ 10 ∷ []);
}

-- nothing is left
pub part-all : (old new text left : List ℕ) → IsPart old new text left → left ≡ [] → new ≡ old ++ text
part-all old new text left part none = part.is ∙ ap (λ z. old ++ z) (sym (part.are ∙ ap (λ z. part.front ++ z) none ∙ append-nil part.front))

-- a part of a text was heard of, and written
pub record IsWay (sets : List Names) (until : Option ℕ) (text left : List ℕ) (m k : Machine) (said said' : List ℕ) (how how' : Option Ending) (wrote wrote' : List ℕ) : Type 0 where
  pub passes : Passes sets until text left m k said said' how how'
  pub front : List ℕ
  pub are : text ≡ front ++ left
  pub is : wrote' ≡ wrote ++ front

-- nothing was heard of yet
pub way-start : (sets : List Names) (until : Option ℕ) (text : List ℕ) (m : Machine) (said : List ℕ) (how : Option Ending) (wrote : List ℕ) →
    IsWay sets until text text m m said said how how wrote wrote
way-start sets until text m said how wrote = record {
  passes = record { lines = []; whole = refl; before = tt; led = led-same [] (heard_all sets []) m m said said how how (sym (all-none sets)) (led-none m said how) };
  front = [];
  are = refl;
  is = sym (append-nil wrote);
}

-- one line more was heard of
pub passes-on : (sets : List Names) (until : Option ℕ) (text left line rest : List ℕ) (m k l : Machine) (a b d : List ℕ) (o p q : Option Ending) → Passes sets until text left m k a b o p →
    left ≡ line ++ 10 ∷ rest → All (λ byte. byte ≢ 10) line → comes_at until line ≡ false → Led (heard_of sets line) k l b d p q → Passes sets until text rest m l a d o q
passes-on sets until text left line rest m k l a b d o p q way is none other led = record {
  lines = way.lines ++ line ∷ [];
  whole = way.whole ∙ ap (λ z. way.lines ++ z) (first-line left line rest is none) ∙ sym (append_assoc way.lines (line ∷ []) (whole_lines rest));
  before = before-append until way.lines (line ∷ []) way.before (other, tt);
  led =
      led-same (heard_all sets way.lines ++ heard_of sets line) (heard_all sets (way.lines ++ line ∷ [])) m l a d o q
      (sym (all-append sets way.lines (line ∷ []) ∙ ap (λ z. heard_all sets way.lines ++ z) (all-one sets line)))
      (led-then (heard_all sets way.lines) (heard_of sets line) m k l a b d o p q way.led led);
}

-- and written
pub way-on : (sets : List Names) (until : Option ℕ) (text left line rest : List ℕ) (m k l : Machine) (a b d : List ℕ) (o p q : Option Ending) (wrote mid now : List ℕ) →
    IsWay sets until text left m k a b o p wrote mid → left ≡ line ++ 10 ∷ rest → All (λ byte. byte ≢ 10) line → comes_at until line ≡ false → Led (heard_of sets line) k l b d p q →
    now ≡ mid ++ (line ++ 10 ∷ []) → IsWay sets until text rest m l a d o q wrote now
way-on sets until text left line rest m k l a b d o p q wrote mid now way is none other led written = record {
  passes = passes-on sets until text left line rest m k l a b d o p q way.passes is none other led;
  front = way.front ++ (line ++ 10 ∷ []);
  are = way.are ∙ ap (λ z. way.front ++ z) (is ∙ sym (append_assoc line (10 ∷ []) rest)) ∙ sym (append_assoc way.front (line ++ 10 ∷ []) rest);
  is = written ∙ ap (λ z. z ++ (line ++ 10 ∷ [])) way.is ∙ append_assoc wrote way.front (line ++ 10 ∷ []);
}

-- the requirement ended at the next line
pub way-ends : (sets : List Names) (until : Option ℕ) (text left line rest : List ℕ) (m k l : Machine) (a b d : List ℕ) (o p q : Option Ending) (wrote mid now : List ℕ) →
    IsWay sets until text left m k a b o p wrote mid → left ≡ line ++ 10 ∷ rest → All (λ byte. byte ≢ 10) line → comes_at until line ≡ false → Led (heard_of sets line) k l b d p q →
    Adds mid now (line ++ 10 ∷ []) → IsSome q → EndsIn sets until text m l a d o q wrote now
way-ends sets until text left line rest m k l a b d o p q wrote mid now way is none other led adds some = record {
  left = rest;
  passes = passes-on sets until text left line rest m k l a b d o p q way.passes is none other led;
  ends = some;
  adds = record {
    front = way.front ++ adds.front;
    rest = adds.rest ++ rest;
    are =
        way.are ∙ ap (λ z. way.front ++ z) (is ∙ sym (append_assoc line (10 ∷ []) rest) ∙ ap (λ z. z ++ rest) adds.are ∙ append_assoc adds.front adds.rest rest)
        ∙ sym (append_assoc way.front adds.front (adds.rest ++ rest));
    is = adds.is ∙ ap (λ z. z ++ adds.front) way.is ∙ append_assoc wrote way.front adds.front;
  };
}

-- a line of the time that is looked for comes next
pub way-halts : (sets : List Names) (until : Option ℕ) (text left line rest : List ℕ) (m k : Machine) (a b : List ℕ) (o p : Option Ending) (wrote now : List ℕ) →
    IsWay sets until text left m k a b o p wrote now → left ≡ line ++ 10 ∷ rest → All (λ byte. byte ≢ 10) line → comes_at until line ≡ true →
    Tells sets until text left m k a b o p wrote now
way-halts sets until text left line rest m k a b o p wrote now way is none here = record {
  passes = way.passes;
  halts = subst (λ (z : List (List ℕ)). Halts until z) (sym (first-line left line rest is none)) here;
  front = way.front;
  are = way.are;
  is = way.is;
}

-- no line is left
pub way-all : (sets : List Names) (until : Option ℕ) (text left : List ℕ) (m k : Machine) (a b : List ℕ) (o p : Option Ending) (wrote now : List ℕ) →
    IsWay sets until text left m k a b o p wrote now → All (λ byte. byte ≢ 10) left → Tells sets until text left m k a b o p wrote now
way-all sets until text left m k a b o p wrote now way none = record {
  passes = way.passes;
  halts = subst (λ (z : List (List ℕ)). Halts until z) (sym (no-line left none)) tt;
  front = way.front;
  are = way.are;
  is = way.is;
}

-- what is heard in all where the requirement ended in front of the line of the trace
pub among-ends : (sets : List Names) (ms : ℕ) (line text : List ℕ) (m k : Machine) (a b : List ℕ) (o p : Option Ending) (wrote now : List ℕ) →
    EndsIn sets (Some ms) text m k a b o p wrote now → Led (among sets ms line (whole_lines text)) m k a b o p
among-ends sets ms line text m k a b o p wrote now at =
    led-same (heard_all sets at.passes.lines ++ among sets ms line (whole_lines at.left)) (among sets ms line (whole_lines text)) m k a b o p
    (sym (ap (among sets ms line) at.passes.whole ∙ among-front sets ms line at.passes.lines (whole_lines at.left) at.passes.before))
    (led-more (heard_all sets at.passes.lines) (among sets ms line (whole_lines at.left)) m k a b o p at.ends at.passes.led)

-- all lines were heard of, where the run went on to the last one,
pub rest-whole : (sets : List Names) (text left : List ℕ) (m k : Machine) (a b : List ℕ) (o p : Option Ending) (wrote now : List ℕ) → Tells sets None text left m k a b o p wrote now →
    Led (heard_all sets (whole_lines text)) m k a b o p
rest-whole sets text left m k a b o p wrote now at =
    led-same (heard_all sets at.passes.lines) (heard_all sets (whole_lines text)) m k a b o p
    (sym (ap (heard_all sets) (at.passes.whole ∙ ap (λ z. at.passes.lines ++ z) (halts-none (whole_lines left) at.halts) ∙ append-nil at.passes.lines)))
    at.passes.led

-- and where the requirement ended before
pub rest-ends : (sets : List Names) (text : List ℕ) (m k : Machine) (a b : List ℕ) (o p : Option Ending) (wrote now : List ℕ) → EndsIn sets None text m k a b o p wrote now →
    Led (heard_all sets (whole_lines text)) m k a b o p
rest-ends sets text m k a b o p wrote now at =
    led-same (heard_all sets at.passes.lines ++ heard_all sets (whole_lines at.left)) (heard_all sets (whole_lines text)) m k a b o p
    (sym (ap (heard_all sets) at.passes.whole ∙ all-append sets at.passes.lines (whole_lines at.left)))
    (led-more (heard_all sets at.passes.lines) (heard_all sets (whole_lines at.left)) m k a b o p at.ends at.passes.led)

-- what is heard in all: of the lines in front, the line of the trace, and of the others
pub among-then : (sets : List Names) (ms : ℕ) (line text left : List ℕ) (m k l s : Machine) (a b c d : List ℕ) (o p q r : Option Ending) (wrote now : List ℕ) →
    Tells sets (Some ms) text left m k a b o p wrote now → Led (line ∷ []) k l b c p q → Led (heard_all sets (whole_lines left)) l s c d q r →
    Led (among sets ms line (whole_lines text)) m s a d o r
among-then sets ms line text left m k l s a b c d o p q r wrote now first given then =
    let front = first.passes.lines in
    let back = whole_lines left in
    led-same (heard_all sets front ++ (line ∷ heard_all sets back)) (among sets ms line (whole_lines text)) m s a d o r
    (sym (ap (among sets ms line) first.passes.whole ∙ among-front sets ms line front back first.passes.before
    ∙ ap (λ z. heard_all sets front ++ z) (among-back sets ms line back first.halts)))
    (led-then (heard_all sets front) (line ∷ heard_all sets back) m k s a b d o p r first.passes.led
    (led-then (line ∷ []) (heard_all sets back) k l s b c d p q r given then))

-- the front of a text was written
pub tells-adds : (sets : List Names) (until : Option ℕ) (text left : List ℕ) (m k : Machine) (a b : List ℕ) (o p : Option Ending) (wrote now : List ℕ) →
    Tells sets until text left m k a b o p wrote now → Adds wrote now text
tells-adds sets until text left m k a b o p wrote now at = record { front = at.front; rest = left; are = at.are; is = at.is }

-- all of it, where nothing is left
pub tells-all : (sets : List Names) (until : Option ℕ) (text left : List ℕ) (m k : Machine) (a b : List ℕ) (o p : Option Ending) (wrote now : List ℕ) →
    Tells sets until text left m k a b o p wrote now → left ≡ [] → now ≡ wrote ++ text
tells-all sets until text left m k a b o p wrote now at none = at.is ∙ ap (λ z. wrote ++ z) (sym (at.are ∙ ap (λ z. at.front ++ z) none ∙ append-nil at.front))

-- a text and what follows it
pub wrote-then : (old mid new text left front : List ℕ) → text ≡ front ++ left → mid ≡ old ++ front → new ≡ mid ++ left → new ≡ old ++ text
wrote-then old mid new text left front are is all = all ∙ ap (λ z. z ++ left) is ∙ append_assoc old front left ∙ ap (λ z. old ++ z) (sym are)

-- texts that were written, one behind the other
pub adds-then : (old mid new text left front : List ℕ) → text ≡ front ++ left → mid ≡ old ++ front → Adds mid new left → Adds old new text
adds-then old mid new text left front are is adds = record {
  front = front ++ adds.front;
  rest = adds.rest;
  are = are ∙ ap (λ z. front ++ z) adds.are ∙ sym (append_assoc front adds.front adds.rest);
  is = adds.is ∙ ap (λ z. z ++ adds.front) is ∙ append_assoc old front adds.front;
}
