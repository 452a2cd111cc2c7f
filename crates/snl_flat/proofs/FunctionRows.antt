-- Functions, one after another: their code, their entries, and what code knows of them.
use Rattle.std.proofs.Common.{◌≡◌, ◌∙◌, ◌+◌, ◌<◌, refl, sym, ap, subst, arith, ℕ, List, [], ◌∷◌, ◌++◌, Box, Global, append_assoc, drop, get_or, length, length-append, map, take}
use Rattle.std.specs.List.{flat_map}
use Rattle.std.proofs.lemmas.List.{drop_more, length-take, map-append, take_at}
use Rattle.snl_text.specs.declared.tokens.Token.{Token}
use Rattle.snl_syntax.specs.declared.definitions.Def.{Def}
use Rattle.snl_syntax.specs.declared.definitions.Def.TheVariants as Declared
use Rattle.snl_syntax.specs.declared.functions.Function.{Function}
use Rattle.snl_syntax.specs.view.Definitions.{definition_view}
use Rattle.snl_syntax.specs.view.Functions.{function_view}
use Rattle.snl_syntax.specs.Functions.{FunctionTree}
use Rattle.snl_syntax.specs.Programs.{ProgramTree}
use Rattle.snl_names.specs.declared.sites.Site.{Site}
use Rattle.snl_names.specs.Variables.{function_by, functions_of}
use Rattle.snl_meaning.specs.declared.instrs.Instr.{Instr}
use Rattle.snl_meaning.specs.declared.names.Placed.{Placed}
use Rattle.snl_meaning.specs.declared.names.Outline as names
use Rattle.snl_meaning.specs.Functions.{Routine, here_below}
use Rattle.snl_meaning.specs.Known.{outline_view, outlines}
use Rattle.snl_meaning.specs.Names.{Here, Outline}
use Rattle.snl_meaning.specs.Run.{Entry}
use Rattle.snl_emit.specs.Depths.{block_depth, outline_of, outlines_after}
use Rattle.snl_emit.specs.FunctionCode.{body_code, entries_from, function_code, functions_code}
use Rattle.snl_flat.specs.Depths.{capped, depth_with, program_depth}
use Rattle.snl_flat.specs.Heres.{outlines_in, routine_by, routine_of}
use Rattle.snl_flat.specs.Outlines.{AreAlike}
use Rattle.snl_flat.proofs.DepthAlike.{block-alike, program-alike}

-- ---- functions among definitions

-- where the next definition is a function it comes first
pub function-next : (all : List Def) (i : ℕ) (d : Def) (b : Box Function Global) → i < length all → d ≡ get_or all i d → d ≡ Declared.Function b →
    flat_map function_by (map definition_view (drop i all)) ≡ function_view b.value ∷ flat_map function_by (map definition_view (drop (i + 1) all))
function-next all i d b less is this =
    let rest = drop (i + 1) all in
    ap (λ (l : List Def). flat_map function_by (map definition_view l)) (drop_more all i d less)
    ∙ ap (λ (x : Def). flat_map function_by (map definition_view (x ∷ rest))) (sym is ∙ this)

-- any other counts nothing
other-next : (d : Def) (rest : List Def) → ((b : Box Function Global) → d ≡ Declared.Function b → ⊥) →
    flat_map function_by (map definition_view (d ∷ rest)) ≡ flat_map function_by (map definition_view rest)
other-next (Declared.Function b) rest none = absurd (none b refl)
other-next (Declared.Declaration d) rest none = refl
other-next (Declared.Assign a) rest none = refl
other-next (Declared.Monitor q) rest none = refl
other-next (Declared.Sync y) rest none = refl
other-next (Declared.SyncQueue q) rest none = refl
other-next (Declared.EventFlags names) rest none = refl
other-next (Declared.Setting o) rest none = refl

-- where the next definition is none, those that are left are the same
pub function-none : (all : List Def) (i : ℕ) (d : Def) → i < length all → d ≡ get_or all i d → ((b : Box Function Global) → d ≡ Declared.Function b → ⊥) →
    flat_map function_by (map definition_view (drop i all)) ≡ flat_map function_by (map definition_view (drop (i + 1) all))
function-none all i d less is none =
    let rest = drop (i + 1) all in
    ap (λ (l : List Def). flat_map function_by (map definition_view l)) (drop_more all i d less)
    ∙ ap (λ (x : Def). flat_map function_by (map definition_view (x ∷ rest))) (sym is) ∙ other-next d rest none

-- ---- code and entries

-- the names of functions
pub names-same : (p : ProgramTree) (fs : List FunctionTree) → map (λ (r : Routine). r.name) (map (routine_of p) fs) ≡ map (λ (f : FunctionTree). f.name) fs
names-same p [] = refl
names-same p (f ∷ fs) = ap (λ (l : List Token). f.name ∷ l) (names-same p fs)

-- one name more
names-more : (names : List Token) (n : ℕ) (t : Token) (rest : List Token) → take n names ++ t ∷ rest ≡ names →
    (take (n + 1) names ≡ take n names ++ t ∷ []) × (take (n + 1) names ++ rest ≡ names)
names-more names n t rest is = (first, ap (λ (l : List Token). l ++ rest) first ∙ append_assoc (take n names) (t ∷ []) rest ∙ is)
  where
    long : length (take n names ++ t ∷ []) ≡ n + 1
    long = let taken = length-take n names in let one = length-append (take n names) (t ∷ []) in let all = length-append (take n names) (t ∷ rest) in let whole = ap length is in
        omega (arith, taken, one, all, whole)

    first : take (n + 1) names ≡ take n names ++ t ∷ []
    first =
        ap (take (n + 1)) (sym is ∙ sym (append_assoc (take n names) (t ∷ []) rest)) ∙ take_at (take n names ++ t ∷ []) rest (n + 1) long

module _ (all : List Site) (places : List Placed) (names : List Token) (f : FunctionTree) (fs : List FunctionTree) (n : ℕ)
    (behind : take n names ++ map (λ (g : FunctionTree). g.name) (f ∷ fs) ≡ names)
    (h : Here) (below : h ≡ here_below (take n names) (routine_by all places f)) (before after : List Instr) (placed : after ≡ before ++ body_code h f.body) where
  -- its name
  names-next : take (n + 1) names ≡ take n names ++ f.name ∷ []
  names-next = (names-more names n f.name (map (λ (g : FunctionTree). g.name) fs) behind).0

  -- the names of those that are left stand behind
  pub names-left : take (n + 1) names ++ map (λ (g : FunctionTree). g.name) fs ≡ names
  names-left = (names-more names n f.name (map (λ (g : FunctionTree). g.name) fs) behind).1

  -- its code
  own : after ≡ before ++ function_code (take n names) (routine_by all places f)
  own = placed ∙ ap (λ (k : Here). before ++ body_code k f.body) below

  -- the code of those that are left
  pub code-left : (whole : List Instr) → before ++ functions_code (take n names) (map (routine_by all places) (f ∷ fs)) ≡ whole →
      after ++ functions_code (take (n + 1) names) (map (routine_by all places) fs) ≡ whole
  code-left whole is =
      (λ j. own j ++ functions_code (names-next j) (map (routine_by all places) fs))
      ∙ append_assoc before (function_code (take n names) (routine_by all places f)) (functions_code (take n names ++ f.name ∷ []) (map (routine_by all places) fs))
      ∙ is

  -- their entries
  pub entries-left : (found whole : List Entry) (e : Entry) → e ≡ record { start = length before; parameters = (routine_by all places f).parameters } →
      found ++ entries_from (length before) (take n names) (map (routine_by all places) (f ∷ fs)) ≡ whole →
      (found ++ e ∷ []) ++ entries_from (length after) (take (n + 1) names) (map (routine_by all places) fs) ≡ whole
  entries-left found whole e one is =
      let code = function_code (take n names) (routine_by all places f) in
      let long : length after ≡ length before + length code = ap length own ∙ length-append before code in
      append_assoc found (e ∷ []) (entries_from (length after) (take (n + 1) names) (map (routine_by all places) fs))
      ∙ (λ j. found ++ one j ∷ entries_from (long j) (names-next j) (map (routine_by all places) fs))
      ∙ is

-- ---- outlines

-- two lists, one after the other
alike-append : (a b c d : List Outline) → AreAlike a b → AreAlike c d → AreAlike (a ++ c) (b ++ d)
alike-append [] [] c d f g = g
alike-append [] (y ∷ b) c d f g = absurd f
alike-append (x ∷ a) [] c d f g = absurd f
alike-append (x ∷ a) (y ∷ b) c d f g = (f.0, f.1, alike-append a b c d f.2 g)

-- one function more
pub outline-more : (all : List Site) (places : List Placed) (kept above : List Outline) (f : FunctionTree) (o : Outline) → AreAlike kept above → o.name ≡ f.name.text.now →
    o.depth ≡ capped (block_depth kept f.body) → AreAlike (kept ++ o ∷ []) (above ++ outline_of above (routine_by all places f) ∷ [])
outline-more all places kept above f o alike name depth =
    let same = block-alike kept above alike f.body in
    alike-append kept above (o ∷ []) (outline_of above (routine_by all places f) ∷ []) alike (name, omega (arith, depth, same), tt)

-- one more that was kept
pub outline-pushed : (kept more : List names.Outline) (x : names.Outline) (above : List Outline) (f : FunctionTree) → more ≡ kept ++ x ∷ [] → AreAlike (outlines kept) above →
    x.name.now ≡ f.name.text.now → x.depth ≡ capped (block_depth (outlines kept) f.body) → AreAlike (outlines more) (above ++ outline_of above (routine_by [] [] f) ∷ [])
outline-pushed kept more x above f is alike name depth =
    subst (λ (l : List Outline). AreAlike l (above ++ outline_of above (routine_by [] [] f) ∷ [])) (sym (ap outlines is ∙ map-append outline_view kept (x ∷ [])))
    (outline-more [] [] (outlines kept) above f (outline_view x) alike name depth)

-- what code knows of functions does not go by the sites of their program and the places of its variables
outlines-same : (p : ProgramTree) (fs : List FunctionTree) (above : List Outline) → outlines_after above (map (routine_by [] []) fs) ≡ outlines_after above (map (routine_of p) fs)
outlines-same p [] above = refl
outlines-same p (f ∷ fs) above = outlines-same p fs (above ++ outline_of above (routine_of p f) ∷ [])

-- with them the depth of a program is found
pub depth-found : (p : ProgramTree) (kept : List Outline) (fs : List FunctionTree) → fs ≡ functions_of p → AreAlike kept (outlines_after [] (map (routine_by [] []) fs)) →
    capped (depth_with kept p) ≡ capped (program_depth p)
depth-found p kept fs are alike =
    program-alike kept (outlines_in p)
    (subst (AreAlike kept) (outlines-same p fs [] ∙ ap (λ (l : List FunctionTree). outlines_after [] (map (routine_of p) l)) are) alike) p
