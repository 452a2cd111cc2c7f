-- What is found are the names by which a copy is read that is never written.
use Rattle.std.proofs.Common.{◌≡◌, ℕ, ◌⊎◌, ◌↔◌, Bool, true, false, List, [], ◌∷◌, ◌++◌, slice_get, Option, None, Some, Contains, refl, sym, ap, ◌∙◌, subst, inl, inr, cond, arith}
use Rattle.std.specs.Bool.{Decides}
use Rattle.std.specs.List.{Any, list_any, flat_map}
use Rattle.std.proofs.lemmas.Bool.{false≢true, true≢false}
use Rattle.std.proofs.lemmas.List.Elements.{Contains-append_cases, Contains-append_left, Contains-append_right, Contains-push, Contains-push_cases}
use Rattle.snl_text.specs.declared.tokens.Pos.{Pos}
use Rattle.snl_text.specs.declared.tokens.Token.{Token}
use Rattle.snl_syntax.specs.Programs.{ClauseTree, StateTree, StateSetTree, ProgramTree}
use Rattle.snl_names.specs.declared.use_table.UseTable.{UseTable}
use Rattle.snl_names.specs.UseTables.{IsTableOf, declared_at}
use Rattle.snl_copies.specs.declared.copies.SetCopy.{SetCopy}
use Rattle.snl_copies.specs.declared.touches.Touch.{Touch}
use Rattle.snl_copies.specs.declared.touches.Touch.TheVariants.{Reads, Writes, Begins, Calls, Leads}
use Rattle.snl_copies.specs.declared.unwritten.Unwritten.{Unwritten}
use Rattle.snl_copies.specs.Code.{in_clause}
use Rattle.snl_copies.specs.Copies.{LeadsTo, HasClause, ReadsUnwritten}
use Rattle.snl_copies.specs.Tests.{all_code, is_written, IsCopyOf, leads, unless_written, unwritten_by, unwritten_at, unwritten_in, in_clause_to, in_state_to, in_set_to}
use Rattle.snl_copies.proofs.CopyLaws.{never, any_decides, spelled_is, spelled_so, does_law, written_decides}

-- an empty list has no elements
none_in : {X : Type 0} (x : X) → Contains [] x → ⊥
none_in x c = let h = c.1 in omega arith

-- the first of a row, or one of the others
first_or : {X : Type 0} (s t : X) (rest : List X) → Contains (s ∷ rest) t → (s ≡ t) ⊎ Contains rest t
first_or s t rest c =
    elim (Contains-append_cases (s ∷ []) rest t c)
    [ inl here ↦ elim (Contains-push_cases [] s t here) [ inl none ↦ absurd (none_in t none) | inr same ↦ inl same ] | inr later ↦ inr later ]

-- what stands in lists, one behind the other, stands in one of them
flat_law : {X Y : Type 0} (f : X → List Y) (xs : List X) (y : Y) → Contains (flat_map f xs) y ↔ ((x : X) × Contains xs x × Contains (f x) y)
flat_law f [] y = ((λ c. absurd (none_in y c)), (λ w. absurd (none_in w.0 w.1)))
flat_law f (x ∷ xs) y = (
  (λ c. elim (Contains-append_cases (f x) (flat_map f xs) y c) [
    | inl here ↦ (x, Contains-append_left (x ∷ []) xs x (Contains-push [] x), here)
    | inr later ↦ (let w = (flat_law f xs y).0 later in (w.0, Contains-append_right (x ∷ []) xs w.0 w.1, w.2))
  ]),
  (λ w. elim (first_or x w.0 xs w.1) [
    | inl same ↦ Contains-append_left (f x) (flat_map f xs) y (subst (λ z. Contains (f z) y) (sym same) w.2)
    | inr later ↦ Contains-append_right (f x) (flat_map f xs) y ((flat_law f xs y).1 (w.0, later, w.2))
  ]),
)

-- ---- one name

-- what is there where the copy is not written
unless_is : (b : Bool) (x : Token) (d : Pos) (u : Unwritten) → Contains (unless_written b x d) u → (record { name = x; declared = d } ≡ u) × (b ≡ false)
unless_is true x d u c = absurd (none_in u c)
unless_is false x d u c = elim (Contains-push_cases [] _ u c) [ inl none ↦ absurd (none_in u none) | inr same ↦ (same, refl) ]

-- what is there of a name
by_is : (w : ℕ → Bool) (x : Token) (o : Option Pos) (u : Unwritten) → Contains (unwritten_by w x o) u → (x ≡ u.name) × (o ≡ Some u.declared) × (w u.declared.offset ≡ false)
by_is w x None u c = absurd (none_in u c)
by_is w x (Some d) u c =
    let h = unless_is (w d.offset) x d u c in
    (ap (λ z. z.name) h.0, ap (λ z. Some z.declared) h.0, subst (λ (z : Unwritten). w z.declared.offset ≡ false) h.0 h.1)

-- what is there of a touch
at_is : (uses : UseTable) (copy : SetCopy) (t : Touch) (u : Unwritten) → Contains (unwritten_at uses copy t) u
    → (t ≡ Reads u.name) × (declared_at uses u.name.pos.offset ≡ Some u.declared) × (is_written uses copy u.declared.offset ≡ false)
at_is uses copy (Reads x) u c =
    let h = by_is (is_written uses copy) x (declared_at uses x.pos.offset) u c in
    (ap Reads h.0, subst (λ (y : Token). declared_at uses y.pos.offset ≡ Some u.declared) h.0 h.1, h.2)
at_is uses copy (Writes x) u c = absurd (none_in u c)
at_is uses copy (Begins x) u c = absurd (none_in u c)
at_is uses copy (Calls x) u c = absurd (none_in u c)
at_is uses copy (Leads x) u c = absurd (none_in u c)

-- and so the other way round
is_at_name : (uses : UseTable) (copy : SetCopy) (u : Unwritten) → declared_at uses u.name.pos.offset ≡ Some u.declared → is_written uses copy u.declared.offset ≡ false
    → Contains (unwritten_at uses copy (Reads u.name)) u
is_at_name uses copy u e f =
    subst (λ o. Contains (unwritten_by (is_written uses copy) u.name o) u) (sym e)
    (subst (λ b. Contains (unless_written b u.name u.declared) u) (sym f) (Contains-push [] u))

-- ---- a clause

-- it leads to the state
pub lead_decides : (name : List ℕ) (t : Touch) → Decides (leads name t) (LeadsTo name t)
lead_decides name (Leads x) = (spelled_is name x, spelled_so name x)
lead_decides name (Reads x) = never
lead_decides name (Writes x) = never
lead_decides name (Begins x) = never
lead_decides name (Calls x) = never

-- a test that can't hold fails
fails : (b : Bool) → (b ≡ true → ⊥) → b ≡ false
fails true h = absurd (h refl)
fails false h = refl

module _ (p : ProgramTree) (name : List ℕ) (uses : UseTable) (set : ℕ) (copy : SetCopy) (table : IsTableOf uses p) (is : IsCopyOf p set copy) (u : Unwritten) where
  -- what is found in a clause that leads there
  clause_in : (c : ClauseTree) → HasClause p set c → (b : Bool) → list_any (leads name) (in_clause c) ≡ b
      → Contains (cond b (unwritten_in uses copy (all_code p.definitions (in_clause c))) []) u → ReadsUnwritten p set name u.name u.declared
  clause_in c has true e h =
      let w = (flat_law (unwritten_at uses copy) (all_code p.definitions (in_clause c)) u).0 h in
      let a = at_is uses copy w.0 u w.2 in
      record {
        clause = c;
        stands = has;
        leads = (any_decides (leads name) (LeadsTo name) (lead_decides name) (in_clause c)).0 e;
        reads = (does_law p.definitions (in_clause c) (Reads u.name)).0 (subst (λ t. Contains (all_code p.definitions (in_clause c)) t) a.0 w.1);
        means = sym (table u.name.pos.offset) ∙ a.1;
        never = λ written. false≢true (sym a.2 ∙ (written_decides p uses set copy table is u.declared.offset).1 written);
      }
  clause_in c has false e h = absurd (none_in u h)

  -- what is found in a state set
  set_in : (o : Option StateSetTree) → slice_get p.state_sets set ≡ o → Contains (in_set_to p.definitions name uses copy o) u → ReadsUnwritten p set name u.name u.declared
  set_in None e h = absurd (none_in u h)
  set_in (Some g) e h =
      let w = (flat_law (in_state_to p.definitions name uses copy) g.states u).0 h in
      let v = (flat_law (in_clause_to p.definitions name uses copy) w.0.clauses u).0 w.2 in
      clause_in v.0 (record { state_set = g; state = w.0; stands = e; among = w.1; inside = v.1 }) (list_any (leads name) (in_clause v.0)) refl v.2

  -- what is read is found in its clause
  in_clause_found : (r : ReadsUnwritten p set name u.name u.declared) → Contains (in_clause_to p.definitions name uses copy r.clause) u
  in_clause_found r =
      let all = all_code p.definitions (in_clause r.clause) in
      let written = is_written uses copy u.declared.offset in
      let unwritten : written ≡ false = fails written (λ e. r.never ((written_decides p uses set copy table is u.declared.offset).0 e)) in
      subst (λ b. Contains (cond b (unwritten_in uses copy all) []) u) (sym ((any_decides (leads name) (LeadsTo name) (lead_decides name) (in_clause r.clause)).1 r.leads))
      ((flat_law (unwritten_at uses copy) all u).1
      (Reads u.name, (does_law p.definitions (in_clause r.clause) (Reads u.name)).1 r.reads, is_at_name uses copy u (table u.name.pos.offset ∙ r.means) unwritten))

  -- and in its state set
  set_found : ReadsUnwritten p set name u.name u.declared → Contains (in_set_to p.definitions name uses copy (slice_get p.state_sets set)) u
  set_found r =
      let g = r.stands.state_set in
      let s = r.stands.state in
      subst (λ o. Contains (in_set_to p.definitions name uses copy o) u) (sym r.stands.stands)
      ((flat_law (in_state_to p.definitions name uses copy) g.states u).1
      (s, r.stands.among, (flat_law (in_clause_to p.definitions name uses copy) s.clauses u).1 (r.clause, r.stands.inside, in_clause_found r)))

  -- what is found are the names that are read so
  pub found_law : (found : List Unwritten) → found ≡ in_set_to p.definitions name uses copy (slice_get p.state_sets set)
      → Contains found u ↔ ReadsUnwritten p set name u.name u.declared
  found_law found e = (
    (λ c. set_in (slice_get p.state_sets set) refl (subst (λ l. Contains l u) e c)),
    (λ r. subst (λ l. Contains l u) (sym e) (set_found r)),
  )
