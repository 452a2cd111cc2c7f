-- All functions of a program are right, one after another, and a piece may call them.
use Rattle.std.proofs.Common.{◌≡◌, ◌∙◌, ◌+◌, ◌≤◌, ℕ, List, [], ◌∷◌, ◌++◌, refl, sym, ap, subst, arith, append-nil, append_assoc, length, length-append, map, slice_get, Some}
use Rattle.std.specs.List.{flat_map}
use Rattle.std.proofs.lemmas.Option.{slice_get_within}
use Rattle.snl_text.specs.declared.tokens.Token.{Token}
use Rattle.snl_names.specs.declared.sites.Site.{Site}
use Rattle.snl_meaning.specs.declared.instrs.Instr.{Instr}
use Rattle.snl_meaning.specs.Endings.{HasAt}
use Rattle.snl_meaning.specs.Functions.{Routine, callee_names, callable_of, callables_after}
use Rattle.snl_meaning.specs.Names.{Outline, format_at}
use Rattle.snl_meaning.specs.Run.{Entry, PieceContext}
use Rattle.snl_meaning.specs.Scenes.{Callable, Scene}
use Rattle.snl_meaning.proofs.Ticks.{AllKeep, calls-keep, callees-keep}
use Rattle.snl_emit.specs.Depths.{outline_of, outlines_after}
use Rattle.snl_emit.specs.FunctionCode.{function_code}
use Rattle.snl_emit.specs.Right.{AreFunctions, AreThere, IsPieceOf, IsReady}
use Rattle.snl_emit.proofs.Callees.{IsCallee, AreCallees, callees-more}
use Rattle.snl_emit.proofs.Program.{callee-right}
use Rattle.snl_emit.proofs.Settings.{Setting, running, IsSet}

-- ---- names and numbers

-- one name more
names-more : (cs : List Callable) (c : Callable) → callee_names (cs ++ c ∷ []) ≡ callee_names cs ++ c.name ∷ []
names-more [] c = refl
names-more (d ∷ cs) c = ap (λ (l : List Token). d.name ∷ l) (names-more cs c)

-- there are as many names as functions
as-many : (cs : List Callable) → length (callee_names cs) ≡ length cs
as-many [] = refl
as-many (c ∷ cs) = omega (arith, as-many cs)

-- the names of functions after others
names-after : (set : ℕ) (name : List ℕ) (above : List Callable) (rs : List Routine) →
    callee_names (callables_after set name above rs) ≡ callee_names above ++ map (λ (r : Routine). r.name) rs
names-after set name above [] = sym (append-nil (callee_names above))
names-after set name above (r ∷ rs) =
    let c = callable_of set name above r in
    names-after set name (above ++ c ∷ []) rs ∙ ap (λ (l : List Token). l ++ map (λ (q : Routine). q.name) rs) (names-more above c)
    ∙ append_assoc (callee_names above) (r.name ∷ []) (map (λ (q : Routine). q.name) rs)

-- how many they are
many-after : (set : ℕ) (name : List ℕ) (above : List Callable) (rs : List Routine) → length (callables_after set name above rs) ≡ length above + length rs
many-after set name above [] = omega arith
many-after set name above (r ∷ rs) =
    let c = callable_of set name above r in
    omega (arith, many-after set name (above ++ c ∷ []) rs, length-append above (c ∷ []))

-- there is an entry for each
entries-enough : (code : List Instr) (entries : List Entry) (names : List Token) (rs : List Routine) → length names ≤ length entries → AreThere code entries names rs →
    length names + length rs ≤ length entries
entries-enough code entries names [] le there = omega (arith, le)
entries-enough code entries names (r ∷ rs) le there =
    let more = length-append names (r.name ∷ []) in
    let within = slice_get_within entries (length names) there.0.0 there.0.1 in
    omega (arith, more, entries-enough code entries (names ++ r.name ∷ []) rs (omega (arith, more, within)) there.1)

-- ---- functions

module _ (set : ℕ) (name : List ℕ) (sites : List Site) (entries : List Entry) (room : ℕ) (code : List Instr) where
  -- what code runs with, with these formats
  abbrev with_formats : List (List ℕ) → PieceContext
  with_formats formats = record { set = set; name = name; formats = formats; functions = entries; room = room; returns = [] }

  -- what code of the program runs with
  abbrev g : PieceContext
  g = with_formats (flat_map format_at sites)

  -- one function after others that are right
  one-right : (above : List Callable) (os : List Outline) (names : List Token) (r : Routine) (rs : List Routine) → names ≡ callee_names above → AllKeep above →
      AreFunctions sites (r ∷ rs) → AreThere code entries names (r ∷ rs) → AreCallees g code 0 above os → IsCallee g code (length above) (callable_of set name above r) (outline_of os r)
  one-right above os names r rs same keep functions there =
      let e = there.0.0 in
      let stands = there.0.2 in
      let number : length names ≡ length above = ap length same ∙ as-many above in
      subst (λ (formats : List (List ℕ)). AreCallees (with_formats formats) code 0 above os → IsCallee (with_formats formats) code (length above) (callable_of set name above r) (outline_of os r))
      (ap (λ (l : List Site). flat_map format_at l) functions.1)
      (λ callees. callee-right set name entries room code above os r e callees keep functions.0
      (subst (λ (l : List Token). HasAt code e.start (function_code l r)) same stands.there)
      (subst (λ (n : ℕ). slice_get entries n ≡ Some e) number there.0.1) stands.parameters)

  -- functions after others
  all-right : (above : List Callable) (os : List Outline) (names : List Token) (rs : List Routine) → names ≡ callee_names above → AllKeep above →
      AreFunctions sites rs → AreThere code entries names rs → AreCallees g code 0 above os → AreCallees g code 0 (callables_after set name above rs) (outlines_after os rs)
  all-right above os names [] same keep functions there callees = callees
  all-right above os names (r ∷ rs) same keep functions there callees =
      let c = callable_of set name above r in
      let number : length above ≡ 0 + length above = omega arith in
      all-right (above ++ c ∷ []) (os ++ outline_of os r ∷ []) (names ++ r.name ∷ []) rs
      (ap (λ (l : List Token). l ++ r.name ∷ []) same ∙ sym (names-more above c)) (calls-keep set name above (r ∷ []) keep) functions.2 there.1
      (callees-more g code 0 above os c (outline_of os r) callees
      (subst (λ (n : ℕ). IsCallee g code n c (outline_of os r)) number (one-right above os names r rs same keep functions there callees)))

-- a piece of a program
pub piece-set : (rs : List Routine) (m : Scene) (code : List Instr) (entries : List Entry) (room : ℕ) → IsPieceOf rs m → IsReady rs code entries →
    IsSet m (record { entries = entries; room = room; returns = []; outlines = outlines_after [] rs }) code
piece-set rs m code entries room is ready =
    let setting : Setting = record { entries = entries; room = room; returns = []; outlines = outlines_after [] rs } in
    record {
      callees = subst (λ (cs : List Callable). AreCallees (running m setting) code 0 cs (outlines_after [] rs)) (sym is.callees)
          (all-right m.set m.set_name m.here.sites entries room code [] [] [] rs refl tt is.functions ready tt);
      names = is.names ∙ sym (ap callee_names is.callees ∙ names-after m.set m.set_name [] rs);
      places = omega (arith, ap (λ (cs : List Callable). length cs) is.callees, many-after m.set m.set_name [] rs, entries-enough code entries [] rs (omega arith) ready);
      keep = callees-keep rs m is.callees;
    }
