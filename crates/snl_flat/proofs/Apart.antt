-- The conditions of a state have stretches of code of their own.
use Rattle.std.proofs.Common.{◌≡◌, ◌∙◌, ◌≤◌, Bool, true, false, ℕ, suc, List, [], ◌∷◌, ◌++◌, Option, None, Some, refl, sym, ap, subst, arith, append-nil, append_assoc, length, length-append, take}
use Rattle.std.proofs.lemmas.Bool.{false≢true}
use Rattle.std.proofs.lemmas.List.{take_at}
use Rattle.snl_syntax.specs.Expressions.{ExprTree}
use Rattle.snl_syntax.specs.Programs.{ClauseTree, StateTree, ProgramTree}
use Rattle.snl_meaning.specs.declared.instrs.Instr.{Instr}
use Rattle.snl_meaning.specs.Names.{Here}
use Rattle.snl_emit.specs.BlockCode.{condition_piece, block_piece}
use Rattle.snl_emit.proofs.Pieces.{conditions-right}
use Rattle.snl_flat.specs.declared.starts.ClauseStarts.{ClauseStarts}
use Rattle.snl_flat.specs.Apart.{IsAlone, AreApart}
use Rattle.snl_flat.specs.Heres.{entries_in, here_in, routines_in, scene_in}
use Rattle.snl_flat.specs.Layout.{row_code, row_starts, maybe_code, start_after, clause_code, clause_starts, code_if, starts_if, kept_code, kept_starts, routines_code, program_code, program_starts}
use Rattle.snl_flat.specs.Reached.{Table}
use Rattle.snl_flat.specs.Starts.{StateTable, state_in}
use Rattle.snl_flat.proofs.Placed.{AllApart, Found, clauses-at, has-at, number, piece-of, ready-to, regrouped, state-found}

module _ (p : ProgramTree) (whole rest : List Instr) (begins : whole ≡ routines_code p ++ rest) (set : ℕ) where
  abbrev h : Here
  h = here_in p set

  -- where a condition and what follows it begin, after this code
  abbrev starts : List Instr → Option ExprTree → ClauseStarts
  starts before o = record { condition = start_after before o; block = length (before ++ maybe_code (condition_piece h) o) }

  -- a condition that may be missing
  alone : (o : Option ExprTree) (before behind : List Instr) (from : ℕ) → whole ≡ before ++ (maybe_code (condition_piece h) o ++ behind) →
      length (routines_code p) ≤ length before → from ≤ length before → IsAlone p set whole (entries_in p) from o (starts before o)
  alone None before behind from e low le =
      let short = length-append before [] in
      let long = ap length e ∙ length-append before behind in
      (omega (arith, le, short), omega (arith, short, long))
  alone (Some c) before behind from e low le =
      let piece = condition_piece h c in
      let front = before ++ piece in
      let both : whole ≡ front ++ behind = e ∙ sym (append_assoc before piece behind) in
      let taken : take (length front) whole ≡ before ++ (piece ++ []) =
      ap (take (length front)) both ∙ take_at front behind (length front) refl ∙ ap (λ (l : List Instr). before ++ l) (sym (append-nil piece)) in
      let short = length-append before piece in
      let long = ap length both ∙ length-append front behind in
      record {
        start = length before;
        there = refl;
        begins = le;
        ends = omega (arith, short);
        within = omega (arith, long);
        is = λ room deep.
            conditions-right (routines_in p) (scene_in p set) (take (length front) whole) (entries_in p) room (length before) c (piece-of p set)
            (ready-to p whole rest (length front) begins (omega (arith, low, short))) (has-at before piece [] (take (length front) whole) taken) deep;
      }

  -- clauses in a row
  row-apart : (cs : List ClauseTree) (k : ℕ) (before after : List Instr) (from : ℕ) → whole ≡ before ++ (row_code (clause_code h) k cs ++ after) →
      length (routines_code p) ≤ length before → from ≤ length before → AreApart p set whole (entries_in p) from cs (row_starts (clause_code h) (clause_starts h) k before cs)
  row-apart [] k before after from e low le = tt
  row-apart (c ∷ cs) k before after from e low le =
      let test = maybe_code (condition_piece h) c.condition in
      let block = block_piece h c.block in
      let more = row_code (clause_code h) (suc k) cs in
      let one : whole ≡ before ++ (test ++ (block ++ (more ++ after))) =
      e ∙ ap (λ (l : List Instr). before ++ l) (append_assoc (test ++ block) more after ∙ append_assoc test block (more ++ after)) in
      let longer = length-append (before ++ test) block in
      let same = ap length (append_assoc before test block) in (
        alone c.condition before (block ++ (more ++ after)) from one low le,
        row-apart cs (suc k) (before ++ (test ++ block)) after (length (before ++ test)) (e ∙ regrouped before (test ++ block) more after)
            (let long = length-append before (test ++ block) in omega (arith, low, long)) (omega (arith, longer, same)),
      )

  -- a state that is reached
  state-apart : (reached : ℕ → Bool) (k : ℕ) (s : StateTree) (t : StateTable) → Found (length (routines_code p)) (kept_code h reached) (kept_starts h reached) whole k (Some s) (Some t) →
      t.is_reached ≡ true → AreApart p set whole (entries_in p) 0 s.clauses t.clauses
  state-apart reached k s t f held = by (reached k) f
    where
      by : (b : Bool) → (before : List Instr) × (after : List Instr) × (whole ≡ before ++ (code_if b h k s ++ after)) × (t ≡ starts_if b h k before s)
          × (length (routines_code p) ≤ length before) → AreApart p set whole (entries_in p) 0 s.clauses t.clauses
      by true g =
          let before = g.0 in
          let after = g.1 in
          subst (λ (x : StateTable). AreApart p set whole (entries_in p) 0 s.clauses x.clauses) (sym g.3)
          (row-apart s.clauses 0 (before ++ maybe_code (block_piece h) s.entry) (maybe_code (block_piece h) s.exit ++ after) 0 (clauses-at p (length (routines_code p)) whole set s before after g.2)
          (let long = length-append before (maybe_code (block_piece h) s.entry) in omega (arith, long, g.4)) (omega arith))
      by false g = absurd (false≢true (sym (ap (λ (x : StateTable). x.is_reached) g.3) ∙ held))

-- those of each state that the code has
pub conditions-apart : (p : ProgramTree) (reached : Table) → AllApart p (program_code reached p) (entries_in p) (program_starts reached p)
conditions-apart p reached set state s t at there held =
    let h = here_in p set in
    let found = state-found p reached set state in
    let code = kept_code h (reached set) in
    let starts = kept_starts h (reached set) in
    let table = program_starts reached p in
    let low = length (routines_code p) in
    state-apart p (program_code reached p) _ refl set (reached set) (number 0 state) s t
    (subst (λ (o : Option StateTable). Found low code starts (program_code reached p) (number 0 state) (Some s) o) there
    (subst (λ (o : Option StateTree). Found low code starts (program_code reached p) (number 0 state) o (state_in table set state)) at
    found)) held
