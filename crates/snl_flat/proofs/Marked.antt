-- The table of marks tells which states are reached.
use Rattle.std.proofs.Common.{◌≡◌, ◌∙◌, ◌+◌, ◌<◌, ◌≤◌, ◌↔◌, ◌⊎◌, ℕ, zero, suc, Bool, true, false, List, [], ◌∷◌, ◌++◌, Vec, Global, Option, None, Some, refl, sym, ap, subst, inl, inr, arith, length, length-append, get_or, map, slice_get, unwrap_or}
use Rattle.std.proofs.lemmas.Bool.{cases_eq, false≢true}
use Rattle.std.proofs.lemmas.Option.{slice_get-map, slice_get_read, slice_get_within}
use Rattle.std.proofs.lemmas.List.{length-map}
use Rattle.snl_syntax.specs.Programs.{StateSetTree, ProgramTree}
use Rattle.snl_syntax.specs.declared.programs.State.{State}
use Rattle.snl_syntax.specs.declared.programs.StateSet.{StateSet}
use Rattle.snl_syntax.specs.view.Programs.{state_view, state_set_view}
use Rattle.snl_reach.specs.Marks.{AreReached}
use Rattle.snl_flat.specs.Reached.{TellsReached, marks_by, marks_in, rows, table_by, AreMarked}

-- a mark is there where it is found
mark-found : (o : Option Bool) → (unwrap_or o false ≡ true) ↔ (o ≡ Some true)
mark-found None = ((λ e. absurd (false≢true e)), (λ e. absurd (cc)))
mark-found (Some b) = ((λ e. ap (λ (x : Bool). Some x) e), (λ e. let same : b ≡ true = cc in same))

-- where the states of each state set are marked, the table tells which are reached
pub tells-reached : (p : ProgramTree) (marks : List (Vec Bool Global)) → AreMarked p.state_sets marks → TellsReached p (table_by marks)
tells-reached p marks all set state g at within =
    let exact = (all set g at).exact state within in
    let found = mark-found (slice_get (marks_in (rows marks) set) state) in
    ((λ is. exact.0 (found.0 is)), (λ is. found.1 (exact.1 is)))

-- ---- marks of state sets, one after another

-- The state sets that come first are marked.
abbrev pub AreMarkedTo : ℕ → List StateSetTree → List (Vec Bool Global) → Type 0
AreMarkedTo n sets marks = (length marks ≡ n) × ((k : ℕ) (g : StateSetTree) → k < n → slice_get sets k ≡ Some g → AreReached g.states (marks_in (rows marks) k))

-- what comes before the last
row-before : (marks : List (Vec Bool Global)) (new : Vec Bool Global) (k : ℕ) → k < length marks → slice_get (rows (marks ++ new ∷ [])) k ≡ slice_get (rows marks) k
row-before [] new k less = absurd (omega (arith, less))
row-before (m ∷ marks) new zero less = refl
row-before (m ∷ marks) new (suc k) less = row-before marks new k (omega (arith, less))

-- the last
row-last : (marks : List (Vec Bool Global)) (new : Vec Bool Global) (k : ℕ) → k ≡ length marks → slice_get (rows (marks ++ new ∷ [])) k ≡ Some new.items
row-last [] new zero is = refl
row-last [] new (suc k) is = absurd (omega (arith, is))
row-last (m ∷ marks) new zero is = absurd (omega (arith, is))
row-last (m ∷ marks) new (suc k) is = row-last marks new k (omega (arith, is))

-- one more state set is marked
pub marked-more : (sets all : List StateSet) (i : ℕ) (set : StateSet) (states : List State) (marks more : List (Vec Bool Global)) (new : Vec Bool Global) →
    all ≡ sets → i < length all → set ≡ get_or all i set → states ≡ set.states.items → more ≡ marks ++ new ∷ [] → AreReached (map state_view states) new.items →
    AreMarkedTo i (map state_set_view sets) marks → AreMarkedTo (i + 1) (map state_set_view sets) more
marked-more sets all i set states marks more new same less is within push reached before =
    (ap length push ∙ length-append marks (new ∷ []) ∙ ap (λ (n : ℕ). n + 1) before.0, each)
  where
    here : slice_get (map state_set_view sets) i ≡ Some (state_set_view set)
    here =
        subst (λ (l : List StateSet). slice_get (map state_set_view l) i ≡ Some (state_set_view set)) same
        (slice_get-map state_set_view all i ∙ ap (option_view) (slice_get_read all (length all) i set refl less is))
      where
        option_view : Option StateSet → Option StateSetTree
        option_view None = None
        option_view (Some s) = Some (state_set_view s)

    by : (k : ℕ) (g : StateSetTree) → k < i + 1 → slice_get (map state_set_view sets) k ≡ Some g → (k ≡ i) ⊎ (k ≡ i → ⊥) → AreReached g.states (marks_by (slice_get (rows (marks ++ new ∷ [])) k))
    by k g small at (inl this) =
        let one : Some (state_set_view set) ≡ Some g = sym here ∙ ap (slice_get (map state_set_view sets)) (sym this) ∙ at in
        let tree : state_set_view set ≡ g = cc in
        subst (λ (o : Option (List Bool)). AreReached g.states (marks_by o)) (sym (row-last marks new k (this ∙ sym before.0)))
        (subst (λ (x : StateSetTree). AreReached x.states new.items) tree (subst (λ (l : List State). AreReached (map state_view l) new.items) within reached))
    by k g small at (inr other) =
        let earlier : k < i = omega (arith, small, other) in
        subst (λ (o : Option (List Bool)). AreReached g.states (marks_by o)) (sym (row-before marks new k (omega (arith, earlier, before.0)))) (before.1 k g earlier at)

    each : (k : ℕ) (g : StateSetTree) → k < i + 1 → slice_get (map state_set_view sets) k ≡ Some g → AreReached g.states (marks_in (rows more) k)
    each k g small at = subst (λ (l : List (Vec Bool Global)). AreReached g.states (marks_in (rows l) k)) (sym push) (by k g small at (cases_eq k i))

-- all of them are
pub marked-all : (sets all : List StateSet) (i : ℕ) (marks : List (Vec Bool Global)) → all ≡ sets → length all ≤ i → AreMarkedTo i (map state_set_view sets) marks →
    AreMarked (map state_set_view sets) marks
marked-all sets all i marks same end to k g at =
    let within = slice_get_within (map state_set_view sets) k g at in
    to.1 k g (omega (arith, within, end, ap length same, length-map sets state_set_view)) at
