-- Cuts on lists of bytes: one lexeme more, and one cut inside another.
use Rattle.std.proofs.Common.{◌≡◌, ℕ, ◌+◌, ◌<◌, ◌≤◌, ◌^◌, Bool, List, [], ◌∷◌, ◌++◌, length, take, drop, refl, ap, sym, ◌∙◌, subst, arith, cond, true, false, length-append, length-drop, Option, Some, None}
use Rattle.std.proofs.lemmas.List.Sums.{count_by-le-length}
use Rattle.std.proofs.lemmas.List.{length-take-le, drop-drop, append-nil}
use Rattle.std.specs.Prelude.{◌==◌, bytes_eq, slice_range, Result, Ok, Err, IfOk, IfErr}
use Rattle.std.specs.List.{list_any}
use Rattle.snl_text.specs.Cut.{Reading, Cuts, IsStuck, Stands, after, renamed, nothing_read}
use Rattle.snl_text.specs.Faults.{fault_of}
use Rattle.snl_text.specs.Lexing.{IsFault, IsLexed, IsReading, FaultHolds, FaultsOnly, GivesOnly}
use Rattle.snl_text.specs.declared.tokens.Lexed.{Lexed}
use Rattle.snl_text.specs.declared.faults.LexFault.{LexFault}
use Rattle.snl_text.specs.declared.faults.LexFault.TheVariants as fault
use Rattle.snl_text.specs.Lexemes.{flaw_at, lexeme_at, SortFits, FitsIn}
use Rattle.snl_text.specs.declared.faults.Flaw.{Flaw}
use Rattle.snl_text.specs.declared.faults.Flaw.TheVariants as flaw
use Rattle.snl_text.specs.declared.tokens.Pos.{Pos}
use Rattle.snl_text.specs.declared.markers.Marker.{Marker}
use Rattle.snl_text.specs.declared.markers.Span.{Span}
use Rattle.snl_text.specs.declared.lexemes.Lexeme.{Lexeme}
use Rattle.snl_text.specs.declared.lexemes.LexemeSort.{LexemeSort}
use Rattle.snl_text.specs.declared.lexemes.LexemeSort.TheVariants as sort

-- one lexeme more
pub cut_push : (r : Reading) (bytes : List ℕ) (lexemes : List Lexeme) (end : Reading) (rest : List ℕ) (lexeme : Lexeme) → Cuts r bytes lexemes end rest → Stands end rest lexeme
    → Cuts r bytes (lexemes ++ lexeme ∷ []) (after end (take lexeme.length rest) lexeme.sort) (drop lexeme.length rest)
cut_push r bytes [] end rest lexeme cut stands =
    let there : Stands r bytes lexeme = subst (λ (s : Reading). Stands s bytes lexeme) (sym cut.0) (subst (λ (b : List ℕ). Stands end b lexeme) (sym cut.1) stands) in
    let same : after r (take lexeme.length bytes) lexeme.sort ≡ after end (take lexeme.length rest) lexeme.sort =
    ap (λ (s : Reading). after s (take lexeme.length bytes) lexeme.sort) cut.0 ∙ ap (λ (b : List ℕ). after end (take lexeme.length b) lexeme.sort) cut.1 in
    (there, (same, ap (drop lexeme.length) cut.1))
cut_push r bytes (p ∷ ps) end rest lexeme cut stands =
    (cut.0, cut_push (after r (take p.length bytes) p.sort) (drop p.length bytes) ps end rest lexeme cut.1 stands)

-- at the end no lexeme can stand
pub at_end : (r : Reading) → IsStuck r []
at_end r lexeme stands = absurd (omega (arith, stands.some, stands.within))

-- nothing is no lexeme
pub none_is_some : {a : Lexeme} → ◌≡◌ {A = Option Lexeme} None (Some a) → ⊥
none_is_some e = cc

-- two lexemes found at one place are one
pub some_are_one : {a b : Lexeme} → ◌≡◌ {A = Option Lexeme} (Some a) (Some b) → a ≡ b
some_are_one e = cc

-- any cut begins the one that can't go on
pub record Continues (r : Reading) (bytes : List ℕ) (front : List Lexeme) (there : Reading) (left : List ℕ) (whole : List Lexeme) (end : Reading) (rest : List ℕ) : Type 0 where
  pub more : List Lexeme
  pub is_whole : whole ≡ front ++ more
  pub cut : Cuts there left more end rest

-- a cut that begins another one is continued by it
pub continues : (r : Reading) (bytes : List ℕ) (front : List Lexeme) (there : Reading) (left : List ℕ) (whole : List Lexeme) (end : Reading) (rest : List ℕ) → Cuts r bytes front there left
    → Cuts r bytes whole end rest → IsStuck end rest → Continues r bytes front there left whole end rest
continues r bytes [] there left whole end rest f w stuck = record {
  more = whole;
  is_whole = refl;
  cut = subst (λ (b : List ℕ). Cuts there b whole end rest) f.1 (subst (λ (s : Reading). Cuts s bytes whole end rest) f.0 w);
}
continues r bytes (p ∷ ps) there left [] end rest f w stuck =
    absurd (stuck p (subst (λ (b : List ℕ). Stands end b p) w.1 (subst (λ (s : Reading). Stands s bytes p) w.0 f.0)))
continues r bytes (p ∷ ps) there left (q ∷ qs) end rest f w stuck =
    let same : p ≡ q = some_are_one (sym f.0.there ∙ w.0.there) in
    let tail : Cuts (after r (take p.length bytes) p.sort) (drop p.length bytes) qs end rest =
    subst (λ (x : Lexeme). Cuts (after r (take x.length bytes) x.sort) (drop x.length bytes) qs end rest) (sym same) w.1 in
    let inner = continues (after r (take p.length bytes) p.sort) (drop p.length bytes) ps there left qs end rest f.1 tail stuck in
    record {
      more = inner.more;
      is_whole = ap (λ (x : Lexeme). x ∷ qs) (sym same) ∙ ap (λ (l : List Lexeme). p ∷ l) inner.is_whole;
      cut = inner.cut;
    }

-- what is left never grows
pub shrinks : (r : Reading) (bytes : List ℕ) (lexemes : List Lexeme) (end : Reading) (rest : List ℕ) → Cuts r bytes lexemes end rest → length rest ≤ length bytes
shrinks r bytes [] end rest cut = omega (arith, ap length cut.1)
shrinks r bytes (p ∷ ps) end rest cut =
    omega (arith, shrinks (after r (take p.length bytes) p.sort) (drop p.length bytes) ps end rest cut.1, length-drop p.length bytes)

-- where each lexeme leads
offset_renamed : (r : Reading) (text : List ℕ) (marker : Marker) (name : Option Span) → (renamed r text marker name).pos.offset ≡ r.pos.offset + length text
offset_renamed r text marker None = refl
offset_renamed r text marker (Some span) = refl

-- a marker sets no line past the limit
line_renamed : (r : Reading) (text : List ℕ) (marker : Marker) (name : Option Span) → marker.line < 2 ^ 31 → (renamed r text marker name).pos.line < 2 ^ 31 + (r.pos.offset + length text)
line_renamed r text marker None h = omega arith
line_renamed r text marker (Some span) h = omega arith

-- one name more at most
with_name_length : (b : Bool) (names : List (List ℕ)) (name : List ℕ) → length (cond b names (names ++ name ∷ [])) ≤ length names + 1
with_name_length true names name = omega arith
with_name_length false names name = omega (arith, length-append names (name ∷ []))

-- a marker brings one name at most
files_renamed : (r : Reading) (text : List ℕ) (marker : Marker) (name : Option Span) → length r.files ≤ r.pos.offset → 0 < length text
    → length (renamed r text marker name).files ≤ r.pos.offset + length text
files_renamed r text marker None h some = omega arith
files_renamed r text marker (Some span) h some =
    let name : List ℕ = slice_range text span.start span.end in
    omega (arith, with_name_length (list_any (bytes_eq name) r.files) r.files name)

-- a lexeme leads on by the bytes of its text
pub offset_after : (r : Reading) (text : List ℕ) (sort : LexemeSort) → (after r text sort).pos.offset ≡ r.pos.offset + length text
offset_after r text sort.Blank = refl
offset_after r text sort.LineEnd = refl
offset_after r text sort.Skipped = refl
offset_after r text sort.EmbeddedC = refl
offset_after r text (sort.Marker marker) = offset_renamed r text marker marker.name
offset_after r text (sort.Token kind) = refl

-- a lexeme leads to no line past the limit
pub line_after : (r : Reading) (text : List ℕ) (sort : LexemeSort) → r.pos.line < 2 ^ 31 + r.pos.offset → SortFits (length text) sort
    → (after r text sort).pos.line < 2 ^ 31 + (r.pos.offset + length text)
line_after r text sort.Blank h fits = omega arith
line_after r text sort.LineEnd h fits = omega (arith, count_by-le-length (λ byte. byte == 10) text)
line_after r text sort.Skipped h fits = omega (arith, count_by-le-length (λ byte. byte == 10) text)
line_after r text sort.EmbeddedC h fits = omega (arith, count_by-le-length (λ byte. byte == 10) text)
line_after r text (sort.Marker marker) h fits = line_renamed r text marker marker.name fits.0
line_after r text (sort.Token kind) h fits = omega arith

-- a lexeme brings one name at most
pub files_after : (r : Reading) (text : List ℕ) (sort : LexemeSort) → length r.files ≤ r.pos.offset → 0 < length text → length (after r text sort).files ≤ r.pos.offset + length text
files_after r text sort.Blank h some = omega arith
files_after r text sort.LineEnd h some = omega arith
files_after r text sort.Skipped h some = omega arith
files_after r text sort.EmbeddedC h some = omega arith
files_after r text (sort.Marker marker) h some = files_renamed r text marker marker.name h some
files_after r text (sort.Token kind) h some = omega arith

-- What the walk over a source keeps: a cut leads to where it is.
pub record Reached (source : List ℕ) (r : Reading) : Type 0 where
  pub lexemes : List Lexeme
  pub cut : Cuts nothing_read source lexemes r (drop r.pos.offset source)
  pub within : r.pos.offset ≤ length source
  pub line : r.pos.line < 2 ^ 31 + r.pos.offset
  pub files : length r.files ≤ r.pos.offset

-- at the begin nothing is cut
pub begun : (source : List ℕ) → Reached source nothing_read
begun source = record {
  lexemes = [];
  cut = (refl, refl);
  within = omega arith;
  line = omega arith;
  files = omega arith;
}

-- a lexeme more is reached
pub step : (source : List ℕ) (r : Reading) (rest : List ℕ) (lexeme : Lexeme) → Reached source r → rest ≡ drop r.pos.offset source → r.pos.offset < length source
    → Some lexeme ≡ lexeme_at r.opens_line rest → FitsIn (length rest) lexeme → Reached source (after r (take lexeme.length rest) lexeme.sort)
step source r rest lexeme reached is short there fits =
    let text = take lexeme.length rest in
    let long : length text ≡ lexeme.length = length-take-le lexeme.length rest fits.1 in
    let left : length rest + r.pos.offset ≡ length source = omega (arith, ap length is, length-drop r.pos.offset source) in
    let offset = offset_after r text lexeme.sort in
    let stands : Stands r rest lexeme = record { some = fits.0; within = fits.1; there = sym there } in
    let pushed = cut_push nothing_read source reached.lexemes r rest lexeme (rw (sym is) at reached.cut) stands in
    let further : drop lexeme.length rest ≡ drop (after r text lexeme.sort).pos.offset source =
    ap (drop lexeme.length) is ∙ drop-drop lexeme.length r.pos.offset source ∙ ap (λ n. drop n source) (omega (arith, offset, long)) in
    record {
      lexemes = reached.lexemes ++ lexeme ∷ [];
      cut = rw further at pushed;
      within = omega (arith, offset, long, left, fits.1);
      line = omega (arith, offset, line_after r text lexeme.sort reached.line (rw (sym long) at fits.2));
      files = omega (arith, offset, files_after r text lexeme.sort reached.files (omega (arith, long, fits.0)));
    }

-- where no lexeme can stand before the end, the fault is
pub stuck_fault : (source : List ℕ) (r : Reading) (rest : List ℕ) (kind : Flaw) → Reached source r → rest ≡ drop r.pos.offset source → r.pos.offset < length source
    → None ≡ lexeme_at r.opens_line rest → kind ≡ flaw_at rest → IsFault source kind r.pos
stuck_fault source r rest kind reached is short none kind_is =
    let stuck : IsStuck r rest = λ lexeme stands. none_is_some (none ∙ stands.there) in
    let left : length rest + r.pos.offset ≡ length source = omega (arith, ap length is, length-drop r.pos.offset source) in
    let cut : Cuts nothing_read source reached.lexemes r rest = rw (sym is) at reached.cut in
    record {
      lexemes = reached.lexemes;
      end = r;
      rest = rest;
      cut = cut;
      short = omega (arith, left);
      longest = λ others there left other.
          let after_it = continues nothing_read source others there left reached.lexemes r rest other cut stuck in
          shrinks there left after_it.more r rest after_it.cut;
      kind_is = kind_is;
      pos_is = refl;
    }

-- a fault of a kind at a place holds
pub fault_holds : (source : List ℕ) (kind : Flaw) (pos : Pos) → IsFault source kind pos → FaultHolds source (fault_of kind pos)
fault_holds source flaw.BadByte pos h = h
fault_holds source flaw.OpenComment pos h = h
fault_holds source flaw.OpenString pos h = h
fault_holds source flaw.BadNumber pos h = h
fault_holds source flaw.OpenEmbeddedC pos h = h

-- where no lexeme can stand, nothing more was cut
pub same_end : (r : Reading) (bytes : List ℕ) (lexemes : List Lexeme) (end : Reading) (rest : List ℕ) → Cuts r bytes lexemes end rest → IsStuck r bytes → (r ≡ end) × (bytes ≡ rest) × (lexemes ≡ [])
same_end r bytes [] end rest cut stuck = (cut.0, cut.1, refl)
same_end r bytes (p ∷ ps) end rest cut stuck = absurd (stuck p cut.0)

-- a law of its own: of two cuts that can't go on there is one
pub one_cut : (source : List ℕ) (ps qs : List Lexeme) (d e : Reading) (left rest : List ℕ) → Cuts nothing_read source ps d left → IsStuck d left → Cuts nothing_read source qs e rest
    → IsStuck e rest → (ps ≡ qs) × (d ≡ e) × (left ≡ rest)
one_cut source ps qs d e left rest p at_d q at_e =
    let on = continues nothing_read source ps d left qs e rest p q at_e in
    let same = same_end d left on.more e rest on.cut at_d in
    (sym (on.is_whole ∙ ap (λ (more : List Lexeme). ps ++ more) same.2 ∙ append-nil ps), same.0, same.1)

-- no cut passes a place where no lexeme can stand
pub none_passes : (source : List ℕ) (lexemes others : List Lexeme) (end there : Reading) (rest left : List ℕ) → Cuts nothing_read source lexemes end rest → IsStuck end rest
    → Cuts nothing_read source others there left → length rest ≤ length left
none_passes source lexemes others end there rest left cut stuck other =
    let on = continues nothing_read source others there left lexemes end rest other cut stuck in
    shrinks there left on.more end rest on.cut

-- at the end of the longest cut no lexeme can stand
pub longest_is_stuck : (source : List ℕ) (kind : Flaw) (pos : Pos) (fault : IsFault source kind pos) → IsStuck fault.end fault.rest
longest_is_stuck source kind pos fault lexeme stands =
    let further = cut_push nothing_read source fault.lexemes fault.end fault.rest lexeme fault.cut stands in
    let more = fault.longest (fault.lexemes ++ lexeme ∷ []) (after fault.end (take lexeme.length fault.rest) lexeme.sort) (drop lexeme.length fault.rest) further in
    omega (arith, more, length-drop lexeme.length fault.rest, stands.some, stands.within)

-- of two faults of a source there is one
pub one_fault : (source : List ℕ) (kind other : Flaw) (pos there : Pos) → IsFault source kind pos → IsFault source other there → fault_of kind pos ≡ fault_of other there
one_fault source kind other pos there f g =
    let one = one_cut source f.lexemes g.lexemes f.end g.end f.rest g.rest f.cut (longest_is_stuck source kind pos f) g.cut (longest_is_stuck source other there g) in
    let kinds : kind ≡ other = f.kind_is ∙ ap flaw_at one.2 ∙ sym g.kind_is in
    let places : pos ≡ there = f.pos_is ∙ ap (λ (r : Reading). r.pos) one.1 ∙ sym g.pos_is in
    ap (λ (k : Flaw). fault_of k pos) kinds ∙ ap (fault_of other) places

-- a cut that reaches the end leaves no fault
pub no_fault : (source : List ℕ) (lexemes : List Lexeme) (end : Reading) (kind : Flaw) (pos : Pos) → Cuts nothing_read source lexemes end [] → IsFault source kind pos → ⊥
no_fault source lexemes end kind pos cut fault = omega (arith, fault.longest lexemes end [] cut, fault.short)

-- what lex ensures of a source, once it is known what it answered
pub whole : (source : List ℕ) (result : Result Lexed LexFault) → IfOk result (IsLexed source) → IfErr result (FaultHolds source) → length source ≤ 1048576
    → (lexemes : List Lexeme) (end : Reading) → Cuts nothing_read source lexemes end [] → GivesOnly end result
whole source (Ok lexed) ok err short lexemes end cut =
    let one = one_cut source ok.cut.lexemes lexemes ok.end end [] [] ok.cut.cut (at_end ok.end) cut (at_end end) in
    subst (λ (r : Reading). IsReading r lexed) one.1 ok.reads
whole source (Err (fault.BadByte pos)) ok err short lexemes end cut = absurd (no_fault source lexemes end flaw.BadByte pos cut err)
whole source (Err (fault.OpenComment pos)) ok err short lexemes end cut = absurd (no_fault source lexemes end flaw.OpenComment pos cut err)
whole source (Err (fault.OpenString pos)) ok err short lexemes end cut = absurd (no_fault source lexemes end flaw.OpenString pos cut err)
whole source (Err (fault.BadNumber pos)) ok err short lexemes end cut = absurd (no_fault source lexemes end flaw.BadNumber pos cut err)
whole source (Err (fault.SourceTooLong pos)) ok err short lexemes end cut = absurd (omega (arith, err, short))
whole source (Err (fault.OpenEmbeddedC pos)) ok err short lexemes end cut = absurd (no_fault source lexemes end flaw.OpenEmbeddedC pos cut err)
whole source (Err fault.Memory) ok err short lexemes end cut = refl

-- what lex ensures of a source that has a fault
pub broken : (source : List ℕ) (result : Result Lexed LexFault) → IfOk result (IsLexed source) → IfErr result (FaultHolds source) → length source ≤ 1048576 → (kind : Flaw) (pos : Pos)
    → IsFault source kind pos → FaultsOnly kind pos result
broken source (Ok lexed) ok err short kind pos is = absurd (no_fault source ok.cut.lexemes ok.end kind pos ok.cut.cut is)
broken source (Err (fault.BadByte there)) ok err short kind pos is = one_fault source flaw.BadByte kind there pos err is
broken source (Err (fault.OpenComment there)) ok err short kind pos is = one_fault source flaw.OpenComment kind there pos err is
broken source (Err (fault.OpenString there)) ok err short kind pos is = one_fault source flaw.OpenString kind there pos err is
broken source (Err (fault.BadNumber there)) ok err short kind pos is = one_fault source flaw.BadNumber kind there pos err is
broken source (Err (fault.SourceTooLong there)) ok err short kind pos is = absurd (omega (arith, err, short))
broken source (Err (fault.OpenEmbeddedC there)) ok err short kind pos is = one_fault source flaw.OpenEmbeddedC kind there pos err is
broken source (Err fault.Memory) ok err short kind pos is = tt
