-- The tests hold exactly where a copy is written.
use Rattle.std.proofs.Common.{◌≡◌, ℕ, ◌⊎◌, ◌↔◌, Bool, true, false, not, List, [], ◌∷◌, ◌++◌, Option, None, Some, Contains, refl, sym, ap, ◌∙◌, subst, inl, inr, cond, nat_eq}
use Rattle.std.specs.Bool.{Decides}
use Rattle.std.specs.Cmp.Lexicographic.{pointwise, same_text}
use Rattle.std.specs.List.{Any, list_any}
use Rattle.std.proofs.lemmas.Bool.{false≢true}
use Rattle.std.proofs.lemmas.Cmp.{nat_list_eq_equiv}
use Rattle.std.proofs.lemmas.Bool.Decides.{Decides-eqb, Decides-and, Decides-or, Decides-not, Decides-at}
use Rattle.std.proofs.lemmas.List.Folds.{Any-from_list_any, list_any-from_Any}
use Rattle.std.proofs.lemmas.List.Elements.{Contains-append_cases, Contains-append_left, Contains-append_right}
use Rattle.snl_text.specs.declared.tokens.Pos.{Pos}
use Rattle.snl_text.specs.declared.tokens.Token.{Token}
use Rattle.snl_syntax.specs.Definitions.{DefinitionTree, declaration, assign, monitor, sync, sync_queue, event_flags, setting, function}
use Rattle.snl_syntax.specs.Functions.{FunctionTree}
use Rattle.snl_syntax.specs.Programs.{ProgramTree}
use Rattle.snl_names.specs.declared.use_table.UseTable.{UseTable}
use Rattle.snl_names.specs.Programs.{sites}
use Rattle.snl_names.specs.Scopes.{is_spelled}
use Rattle.snl_names.specs.Uses.{declared_of}
use Rattle.snl_names.specs.UseTables.{IsTableOf, declared_at}
use Rattle.snl_copies.specs.declared.copies.SetCopy.{SetCopy}
use Rattle.snl_copies.specs.declared.touches.Touch.{Touch}
use Rattle.snl_copies.specs.declared.touches.Touch.TheVariants.{Reads, Writes, Begins, Calls, Leads}
use Rattle.snl_copies.specs.Code.{in_function}
use Rattle.snl_copies.specs.Copies.{IsAt, monitored_at, queued_at, Refreshed, code_of, IsCalled, Does, Stores, Stored, Written}
use Rattle.snl_copies.specs.Tests.{is_at, is_refreshed, calls, with_function, all_code, stores, is_written, is_written_in, IsCopyOf}

-- what never holds
pub never : Decides false ⊥
never = (λ e. absurd (false≢true e), λ h. absurd h)

-- some element passes
pub any_decides : {X : Type 0} (p : X → Bool) (P : X → Type 0) → ((x : X) → Decides (p x) (P x)) → (xs : List X) → Decides (list_any p xs) (Any P xs)
any_decides p P each xs = (
  (λ e. let w = Any-from_list_any p xs e in (w.0, w.1, w.2, w.3, (each w.1).0 w.4)),
  (λ w. list_any-from_Any p xs (w.0, w.1, w.2, w.3, (each w.1).1 w.4)),
)

-- a name that is spelled so
pub spelled_is : (name : List ℕ) (t : Token) → is_spelled name t ≡ true → t.text.now ≡ name
spelled_is name t e = sym (same_text name t.text.now (sym e))

-- and so the other way round
pub spelled_so : (name : List ℕ) (t : Token) → t.text.now ≡ name → is_spelled name t ≡ true
spelled_so name t e = subst (λ (n : List ℕ). pointwise nat_eq n t.text.now ≡ true) e (nat_list_eq_equiv.refl t.text.now)

-- ---- by a refresh

-- a declaration is that of a variable
at_decides : (v : ℕ) (o : Option Pos) → Decides (is_at v o) (IsAt v o)
at_decides v None = never
at_decides v (Some d) = Decides-eqb d.offset v

-- a refresh brings values
refreshed_decides : (p : ProgramTree) (v : ℕ) → Decides (is_refreshed (sites p) v) (Refreshed p v)
refreshed_decides p v =
    Decides-and (list_any (λ s. is_at v (monitored_at s)) (sites p)) (not (list_any (λ s. is_at v (queued_at s)) (sites p)))
    (any_decides (λ s. is_at v (monitored_at s)) (λ s. IsAt v (monitored_at s)) (λ s. at_decides v (monitored_at s)) (sites p))
    (Decides-not (list_any (λ s. is_at v (queued_at s)) (sites p))
    (any_decides (λ s. is_at v (queued_at s)) (λ s. IsAt v (queued_at s)) (λ s. at_decides v (queued_at s)) (sites p)))

-- ---- by code

-- a call of a function that stands in code
call_is : (f : FunctionTree) (r : List Touch) (t : Touch) → Contains r t → calls f t ≡ true → IsCalled (Contains r) f
call_is f r (Calls x) c e = (x, c, spelled_is f.name.text.now x e)
call_is f r (Reads x) c e = absurd (false≢true e)
call_is f r (Writes x) c e = absurd (false≢true e)
call_is f r (Begins x) c e = absurd (false≢true e)
call_is f r (Leads x) c e = absurd (false≢true e)

-- code calls a function
called_decides : (f : FunctionTree) (r : List Touch) → Decides (list_any (calls f) r) (IsCalled (Contains r) f)
called_decides f r = (
  (λ e. let w = Any-from_list_any (calls f) r e in call_is f r w.1 (w.0, w.2, w.3) w.4),
  (λ c. list_any-from_Any (calls f) r (c.1.0, Calls c.0, c.1.1, c.1.2, spelled_so f.name.text.now c.0 c.2)),
)

-- the same where it is told in another way what is done
called_like : (f : FunctionTree) (R S : Touch → Type 0) → ((t : Touch) → R t → S t) → IsCalled R f → IsCalled S f
called_like f R S h c = (c.0, h (Calls c.0) c.1, c.2)

-- nothing stands beside it
alone : {A B : Type 0} → A ↔ B → A ↔ (B ⊎ ⊥)
alone h = ((λ a. inl (h.0 a)), (λ s. elim s [ inl b ↦ h.1 b | inr none ↦ absurd none ]))

module _ (f : FunctionTree) (below : List DefinitionTree) (code : List Touch) (law : (t : Touch) → Contains (all_code below code) t ↔ Does below code t) (t : Touch) where
  -- by whether it is called
  by : (b : Bool) → list_any (calls f) (all_code below code) ≡ b
      → Contains (cond b (all_code below code ++ in_function f) (all_code below code)) t ↔ (Does below code t ⊎ (IsCalled (Does below code) f × Contains (in_function f) t))
  by true e = (
    (λ c. elim (Contains-append_cases (all_code below code) (in_function f) t c) [
      | inl here ↦ inl ((law t).0 here)
      | inr there ↦ inr (called_like f (Contains (all_code below code)) (Does below code) (λ s h. (law s).0 h) ((called_decides f (all_code below code)).0 e), there)
    ]),
    (λ s. elim s [
      | inl d ↦ Contains-append_left (all_code below code) (in_function f) t ((law t).1 d)
      | inr w ↦ Contains-append_right (all_code below code) (in_function f) t w.1
    ]),
  )
  by false e = (
    (λ c. inl ((law t).0 c)),
    (λ s. elim s [
      | inl d ↦ (law t).1 d
      | inr w ↦ absurd (false≢true (sym e ∙ (called_decides f (all_code below code)).1 (called_like f (Does below code) (Contains (all_code below code)) (λ s d. (law s).1 d) w.0)))
    ]),
  )

  -- a function above code
  function_law : Contains (with_function f (all_code below code)) t ↔ (Does below code t ⊎ (IsCalled (Does below code) f × Contains (in_function f) t))
  function_law = by (list_any (calls f) (all_code below code)) refl

-- code with the functions that are called is what it does
pub does_law : (defs : List DefinitionTree) (code : List Touch) (t : Touch) → Contains (all_code defs code) t ↔ Does defs code t
does_law [] code t = ((λ c. c), (λ c. c))
does_law (function f ∷ below) code t = function_law f below code (does_law below code) t
does_law (declaration d ∷ below) code t = alone (does_law below code t)
does_law (assign d ∷ below) code t = alone (does_law below code t)
does_law (monitor d ∷ below) code t = alone (does_law below code t)
does_law (sync d ∷ below) code t = alone (does_law below code t)
does_law (sync_queue d ∷ below) code t = alone (does_law below code t)
does_law (event_flags d ∷ below) code t = alone (does_law below code t)
does_law (setting d ∷ below) code t = alone (does_law below code t)

-- a touch writes
stores_decides : (p : ProgramTree) (at : ℕ → Option Pos) → ((q : ℕ) → at q ≡ declared_of p q) → (v : ℕ) (t : Touch) → Decides (stores at v t) (Stores p v t)
stores_decides p at h v (Writes x) =
    Decides-at (is_at v (at x.pos.offset)) (is_at v (declared_of p x.pos.offset)) (ap (is_at v) (h x.pos.offset)) (at_decides v (declared_of p x.pos.offset))
stores_decides p at h v (Begins x) = Decides-eqb x.pos.offset v
stores_decides p at h v (Reads x) = never
stores_decides p at h v (Calls x) = never
stores_decides p at h v (Leads x) = never

-- code writes
stored_decides : (p : ProgramTree) (at : ℕ → Option Pos) → ((q : ℕ) → at q ≡ declared_of p q) → (set v : ℕ) (code : List Touch) → code ≡ all_code p.definitions (code_of p set)
    → Decides (list_any (stores at v) code) (Stored p set v)
stored_decides p at h set v code ec =
    let d = any_decides (stores at v) (Stores p v) (stores_decides p at h v) code in
    let law = does_law p.definitions (code_of p set) in (
      (λ e. let w = d.0 e in (w.1, (law w.1).0 (subst (λ l. Contains l w.1) ec (w.0, w.2, w.3)), w.4)),
      (λ s. let c = subst (λ l. Contains l s.0) (sym ec) ((law s.0).1 s.1) in d.1 (c.0, s.0, c.1, c.2, s.2)),
    )

-- a copy is written
pub written_decides : (p : ProgramTree) (uses : UseTable) (set : ℕ) (copy : SetCopy) → IsTableOf uses p → IsCopyOf p set copy → (v : ℕ)
    → Decides (is_written uses copy v) (Written p set v)
written_decides p uses set copy table is v =
    Decides-or (is_refreshed copy.sites.items v) (list_any (stores (declared_at uses) v) copy.code.items)
    (Decides-at (is_refreshed copy.sites.items v) (is_refreshed (sites p) v) (ap (λ s. is_refreshed s v) is.sites) (refreshed_decides p v))
    (stored_decides p (declared_at uses) table set v copy.code.items is.code)

-- the same of an answer
pub answer_decides : (p : ProgramTree) (uses : UseTable) (set : ℕ) (copy : SetCopy) → IsTableOf uses p → IsCopyOf p set copy → (v : ℕ) (answer : Bool)
    → answer ≡ is_written uses copy v → (answer ≡ true) ↔ Written p set v
answer_decides p uses set copy table is v answer e = Decides-at answer (is_written uses copy v) e (written_decides p uses set copy table is v)

-- the same of a program and a state set
pub written_in_decides : (p : ProgramTree) (set v : ℕ) → Decides (is_written_in p set v) (Written p set v)
written_in_decides p set v =
    Decides-or (is_refreshed (sites p) v) (list_any (stores (declared_of p) v) (all_code p.definitions (code_of p set)))
    (refreshed_decides p v) (stored_decides p (declared_of p) (λ q. refl) set v (all_code p.definitions (code_of p set)) refl)
