-- Laws of what a program takes of a trace.
use Rattle.std.proofs.Common.{◌≡◌, ℕ, Bool, true, false, List, [], ◌∷◌, ◌++◌, Option, None, Some, Result, Ok, Err, nat_lt, length, refl, sym, ap, ◌∙◌, subst, arith, inl, inr}
use Rattle.std.specs.List.{list_all, All, AllByRecursion}
use Rattle.std.proofs.lemmas.Bool.{cases_Bool}
use Rattle.std.proofs.lemmas.List.Elements.{All-append, All-cons, All-nil, recursion_from_All, All-from_recursion}
use Rattle.snl_output.specs.Devices.{told_more, IsCutShort}
use Rattle.snl_output.specs.TraceLines.{lines_to, whole_lines, without_return}
use Rattle.snl_trace.specs.Fields.{is_text, is_silent, fields}
use Rattle.snl_trace.specs.Grammar.{Told, ◌>>=◌, in_order, timed, told_by, spoken, said, told_of}
use Rattle.snl_trace.specs.Numbers.{time_of}
use Rattle.snl_trace.specs.declared.trace_faults.TraceFault.{TraceFault}
use Rattle.snl_trace.specs.declared.trace_faults.TraceFault.TheVariants.{NotAscii, BackInTime, LineTooLong}
use Rattle.snl_written.specs.Events.{IsEventLine}
use Rattle.snl_import.specs.Comments.{is_comment, behind_comments, AreComments}
use Rattle.snl_import.specs.Taken.{IsTaken, AreTaken, TellsTaken}
use Rattle.snl_import.specs.Trace.{Heard, rest_from}
use Rattle.snl_import.specs.Written.{IsTrace}
use Rattle.snl_import.proofs.CommentLaws.{skipped}
use Rattle.snl_import.proofs.TraceLaws.{lines-append, line-whole, told-text}

-- ---- what a line tells does not lie in the time of the event before

-- what comes of two steps comes of the first one
bind-ok : {A B : Type 0} (first : Result A TraceFault) (next : A → Result B TraceFault) (b : B) → (first >>= next) ≡ Ok b → (a : A) × (first ≡ Ok a) × (next a ≡ Ok b)
bind-ok (Ok a) next b is = (a, refl, is)
bind-ok (Err fault) next b is = absurd (cc)

-- no time is below 0
none-below : (n : ℕ) → nat_lt n 0 ≡ false
none-below n = elim (cases_Bool (nat_lt n 0)) [
  | inl below ↦ grind arith
  | inr other ↦ other
]

-- a time that is in order behind another is so at first
in-order-first : (last : ℕ) (time : Option ℕ) (ms : ℕ) → in_order last time ≡ Ok ms → in_order 0 time ≡ Ok ms
in-order-first last None ms is = absurd (cc)
in-order-first last (Some time) ms is = elim (cases_Bool (nat_lt time last)) [
  | inl late ↦ absurd (let bad : Err BackInTime ≡ Ok ms = rw late at is in cc)
  | inr ordered ↦ rw (none-below time) (rw ordered at is)
]

-- the same of fields with a time
timed-first : (last : ℕ) (fs : List (List ℕ)) (time : ℕ × List (List ℕ)) → timed last fs ≡ Ok time → timed 0 fs ≡ Ok time
unfolding timed
timed-first last [] time is = absurd (cc)
timed-first last (field ∷ rest) time is =
    let found = bind-ok (in_order last (time_of field)) (λ ms. Ok (ms, rest)) time is in
    ap (λ first. first >>= (λ ms. Ok (ms, rest))) (in-order-first last (time_of field) found.0 found.1) ∙ found.2

-- the same of fields that tell an event
spoken-first : (last : ℕ) (fs : List (List ℕ)) (event : ℕ × Told) → spoken last fs ≡ Ok (Some event) → spoken 0 fs ≡ Ok (Some event)
unfolding spoken
spoken-first last fs event is =
    let found = bind-ok (timed last fs) (λ time. told_by time.1 >>= (λ told. Ok (Some (time.0, told)))) (Some event) is in
    ap (λ first. first >>= (λ (time : ℕ × List (List ℕ)). told_by time.1 >>= (λ told. Ok (Some (time.0, told))))) (timed-first last fs found.0 found.1) ∙ found.2

-- the same of a line without what ends it
said-first : (last : ℕ) (line : List ℕ) (event : ℕ × Told) → said last line ≡ Ok (Some event) → said 0 line ≡ Ok (Some event)
said-first last line event is = elim (cases_Bool (is_silent line)) [
  | inl silent ↦ absurd (let bad : Ok None ≡ Ok (Some event) = rw silent at is in cc)
  | inr loud ↦ rw loud (elim (cases_Bool (list_all is_text line)) [
    | inl text ↦ rw text (spoken-first last (fields line) event (rw text at (rw loud at is)))
    | inr other ↦ absurd (let bad : Err NotAscii ≡ Ok (Some event) = rw other at (rw loud at is) in cc)
  ])
]

-- what a line tells behind an event it tells at first
told-first : (last : ℕ) (line : List ℕ) (event : ℕ × Told) → told_of last line ≡ Ok (Some event) → told_of 0 line ≡ Ok (Some event)
unfolding told_of
told-first last line event is = elim (cases_Bool (nat_lt 32768 (length line))) [
  | inl long ↦ absurd (let bad : Err LineTooLong ≡ Ok (Some event) = rw long at is in cc)
  | inr short ↦ rw short (said-first last (without_return line) event (rw short at is))
]

-- ---- lines

-- a line that tells what is taken is taken
line-taken : (taken : Told → Bool) (ms : ℕ) (told : Told) (line : List ℕ) → told_of 0 line ≡ Ok (Some (ms, told)) → taken told ≡ true → IsTaken taken line
line-taken taken ms told line tells holds last event is =
    let both : Ok (Some event) ≡ Ok (Some (ms, told)) = sym (told-first last line event is) ∙ tells in
    let same : event ≡ (ms, told) = cc in
    ap (λ (e : ℕ × Told). taken e.1) same ∙ holds

-- what holds of each of all holds of each of the first ones
front-by : {X : Type 0} (P : X → Type 0) (xs ys : List X) → AllByRecursion P (xs ++ ys) → AllByRecursion P xs
front-by P [] ys all = tt
front-by P (x ∷ xs) ys all = (all.0, front-by P xs ys all.1)

-- a comment tells nothing
none-taken : (taken : Told → Bool) (line : List ℕ) → is_comment line ≡ true → IsTaken taken line
none-taken taken line comment last event is = absurd (let bad : Ok None ≡ Ok (Some event) = sym (skipped last line comment) ∙ is in cc)

-- comments tell nothing
silent-taken : (taken : Told → Bool) (ls : List (List ℕ)) → behind_comments ls ≡ [] → All (IsTaken taken) ls
silent-taken taken [] none = All-nil (IsTaken taken)
silent-taken taken (l ∷ ls) none = elim (cases_Bool (is_comment l)) [
  | inl comment ↦ All-cons (IsTaken taken) l ls (none-taken taken l comment) (silent-taken taken ls (rw comment at none))
  | inr other ↦ absurd (let bad : (l ∷ ls) ≡ [] = rw other at none in cc)
]

-- ---- texts

-- the lines of a text of whole lines, and those behind it
lines-both : (xs ys : List ℕ) → rest_from [] xs ≡ [] → whole_lines (xs ++ ys) ≡ whole_lines xs ++ whole_lines ys
lines-both xs ys whole = lines-append [] xs ys ∙ ap (λ b. lines_to (λ _. []) [] xs ++ lines_to (λ _. []) b ys) whole

-- what is taken behind what is taken
taken-append : (taken : Told → Bool) (xs ys : List ℕ) → rest_from [] xs ≡ [] → AreTaken taken xs → AreTaken taken ys → AreTaken taken (xs ++ ys)
taken-append taken xs ys whole some others =
    subst (All (IsTaken taken)) (sym (lines-both xs ys whole)) (All-append (IsTaken taken) (whole_lines xs) (whole_lines ys) some others)

-- the front of what is taken
taken-front : (taken : Told → Bool) (text front rest : List ℕ) → text ≡ front ++ rest → AreTaken taken text → AreTaken taken front
taken-front taken text front rest is all =
    let lines = whole_lines front in
    let more = lines_to (λ _. []) (rest_from [] front) rest in
    All-from_recursion (IsTaken taken) lines (front-by (IsTaken taken) lines more
    (recursion_from_All (IsTaken taken) (lines ++ more) (subst (All (IsTaken taken)) (ap whole_lines is ∙ lines-append [] front rest) all)))

-- nothing is taken
pub nothing-taken : (taken : Told → Bool) (text : List ℕ) → text ≡ [] → AreTaken taken text
unfolding lines_to
nothing-taken taken text none = subst (AreTaken taken) (sym none) (All-nil (IsTaken taken))

-- comments are taken
pub comments-taken : (taken : Told → Bool) (text : List ℕ) → AreComments text → AreTaken taken text
comments-taken taken text comments = silent-taken taken (whole_lines text) comments.all

-- one event more
pub event-taken : (taken : Told → Bool) (old new line : List ℕ) (ms : ℕ) (told : Told) → rest_from [] old ≡ [] → AreTaken taken old → IsEventLine line ms told → taken told ≡ true →
    new ≡ old ++ line → AreTaken taken new
event-taken taken old new line ms told whole are event holds is =
    let tells : told_of 0 event.line ≡ Ok (Some (ms, told)) = event.tells 0 (omega arith) in
    let one : whole_lines line ≡ event.line ∷ [] = ap whole_lines event.is ∙ line-whole [] event.line (told-text 0 event.line (ms, told) tells) in
    subst (AreTaken taken) (sym is) (taken-append taken old line whole are
    (subst (All (IsTaken taken)) (sym one) (All-cons (IsTaken taken) event.line [] (line-taken taken ms told event.line tells holds) (All-nil (IsTaken taken)))))

-- ---- sinks

-- a sink to which nothing was given
pub fresh-taken : (taken : Told → Bool) (told : Option (List ℕ)) → ((text : List ℕ) → told ≡ Some text → text ≡ []) → TellsTaken taken told
fresh-taken taken None fresh = tt
fresh-taken taken (Some text) fresh = nothing-taken taken text (fresh text refl)

-- a sink that was given more behind a trace
pub taken-more : (taken : Told → Bool) (told : Option (List ℕ)) (from : Heard) (piece : List ℕ) → IsTrace told from → TellsTaken taken told → AreTaken taken piece →
    TellsTaken taken (told_more told piece)
taken-more taken None from piece trace are more = tt
taken-more taken (Some text) from piece trace are more = taken-append taken text piece trace.whole are more

-- a sink that broke off in it
pub taken-cut : (taken : Told → Bool) (old new : Option (List ℕ)) (from : Heard) (piece : List ℕ) → IsTrace old from → TellsTaken taken old → AreTaken taken piece → IsCutShort piece old new →
    TellsTaken taken new
taken-cut taken old new from piece trace are more cut =
    subst (TellsTaken taken) (sym cut.told) (taken-more taken old from cut.taken trace are (taken-front taken piece cut.taken cut.rest cut.is more))
