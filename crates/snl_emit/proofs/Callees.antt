-- What is assumed of the functions that code may call, and where a call of one leads.
use Rattle.std.proofs.Common.{◌≡◌, ◌∙◌, ◌+◌, ◌<◌, ◌≤◌, ℕ, suc, ℤ, Bool, true, false, List, [], ◌∷◌, ◌++◌, Option, None, Some, refl, sym, ap, subst, arith, length, length-append, slice_get, reverse, if◌then◌else◌}
use Rattle.std.specs.Prelude.{bytes_eq, nat_le, take, drop}
use Rattle.std.proofs.lemmas.Bool.{lt-ltb, le-leb}
use Rattle.std.proofs.lemmas.Cmp.{nat_list_eq_equiv}
use Rattle.snl_names.specs.Numbered.{number_from}
use Rattle.snl_names.specs.Scopes.{is_spelled}
use Rattle.snl_meaning.specs.declared.instrs.Instr.{Instr}
use Rattle.snl_meaning.specs.declared.instrs.Instr.TheVariants.{Call}
use Rattle.snl_meaning.specs.declared.instrs.Variable.{Variable}
use Rattle.snl_meaning.specs.Functions.{callee_names}
use Rattle.snl_meaning.specs.Names.{Outline, outline_named}
use Rattle.snl_meaning.specs.Ran.{Ran, Gives, then_do}
use Rattle.snl_meaning.specs.Run.{Entry, PieceContext, with_returns, Step, GoesOver, Sticks, with_place, goes_over, calls}
use Rattle.snl_meaning.specs.Scenes.{Callable, callee_named}
use Rattle.snl_meaning.specs.Value.{performed}
use Rattle.snl_meaning.specs.Words.{called_with}
use Rattle.snl_meaning.specs.World.{World}
use Rattle.snl_meaning.proofs.Following.{Continues, run_at, continues-then, follows-over}
use Rattle.snl_emit.proofs.Joins.{Runs}

-- The function of a number is right: its outline has its name, its entry its parameters; the code at its entry does what its body does,
-- on whatever operands, and goes back to where its call goes on with the value on top.
pub record IsCallee (g : PieceContext) (code : List Instr) (n : ℕ) (c : Callable) (o : Outline) : Type 0 where
  pub name : o.name ≡ c.name.text.now
  pub entry : Entry
  pub there : slice_get g.functions n ≡ Some entry
  pub parameters : entry.parameters ≡ c.parameters
  pub runs : (back : ℕ) (rs : List ℕ) (t : List ℤ) (w : World) → length t + 1 ≤ g.room → length t + o.depth ≤ g.room → suc (length rs) + n ≤ length g.functions →
      Continues (run_at (with_returns g (back ∷ rs)) code entry.start t w) (c.body w) (λ z u. run_at (with_returns g rs) code back (z ∷ t) u)

-- The same of functions with numbers from n on.
abbrev pub AreCallees : PieceContext → List Instr → ℕ → List Callable → List Outline → Type 0
AreCallees g code n [] [] = Unit {0}
AreCallees g code n (c ∷ cs) (o ∷ os) = IsCallee g code n c o × AreCallees g code (suc n) cs os
AreCallees g code n _ _ = ⊥

-- which calls are under way does not matter
pub callees-over : (g : PieceContext) (rs : List ℕ) (code : List Instr) (n : ℕ) (cs : List Callable) (os : List Outline) → AreCallees g code n cs os → AreCallees (with_returns g rs) code n cs os
callees-over g rs code n [] [] all = tt
callees-over g rs code n (c ∷ cs) (o ∷ os) all =
    let x = all.0 in
    (record { name = x.name; entry = x.entry; there = x.there; parameters = x.parameters; runs = x.runs }, callees-over g rs code (suc n) cs os all.1)
callees-over g rs code n [] (o ∷ os) all = absurd all
callees-over g rs code n (c ∷ cs) [] all = absurd all

-- with one more
pub callees-more : (g : PieceContext) (code : List Instr) (n : ℕ) (cs : List Callable) (os : List Outline) (c : Callable) (o : Outline) → AreCallees g code n cs os →
    IsCallee g code (n + length cs) c o → AreCallees g code n (cs ++ c ∷ []) (os ++ o ∷ [])
callees-more g code n [] [] c o all is = let e : n + 0 ≡ n = omega arith in (subst (λ (m : ℕ). IsCallee g code m c o) e is, tt)
callees-more g code n (d ∷ cs) (p ∷ os) c o all is =
    let e : n + length (d ∷ cs) ≡ suc n + length cs = omega arith in
    (all.0, callees-more g code (suc n) cs os c o all.1 (subst (λ (m : ℕ). IsCallee g code m c o) e is))
callees-more g code n [] (p ∷ os) c o all is = absurd all
callees-more g code n (d ∷ cs) [] c o all is = absurd all

-- What is found by a name: nothing, or a function of some number that is right.
abbrev pub IsFound : PieceContext → List Instr → (end : ℕ) → Option Callable → Option ℕ → Option Outline → Type 0
IsFound g code end None None None = Unit {0}
IsFound g code end (Some c) (Some n) (Some o) = IsCallee g code n c o × (n < end)
IsFound g code end _ _ _ = ⊥

-- a name is spelled so on either side
spelled : (a b : List ℕ) → bytes_eq a b ≡ bytes_eq b a
spelled a b = nat_list_eq_equiv.symm a b

-- it is so
pub found : (g : PieceContext) (code : List Instr) (n : ℕ) (cs : List Callable) (os : List Outline) (name : List ℕ) → AreCallees g code n cs os →
    IsFound g code (n + length cs) (callee_named cs name) (number_from n (callee_names cs) name) (outline_named os name)
found g code n [] [] name all = tt
found g code n (c ∷ cs) (o ∷ os) name all =
    let same : is_spelled name c.name ≡ bytes_eq o.name name = spelled name c.name.text.now ∙ ap (λ (l : List ℕ). bytes_eq l name) (sym all.0.name) in
    subst (λ (b : Bool). IsFound g code (n + length (c ∷ cs)) (if is_spelled name c.name then Some c else callee_named cs name)
    (if is_spelled name c.name then Some n else number_from (suc n) (callee_names cs) name) (if b then Some o else outline_named os name))
    same (by (is_spelled name c.name) (found g code (suc n) cs os name all.1))
  where
    by : (b : Bool) → IsFound g code (suc n + length cs) (callee_named cs name) (number_from (suc n) (callee_names cs) name) (outline_named os name) →
        IsFound g code (n + length (c ∷ cs)) (if b then Some c else callee_named cs name) (if b then Some n else number_from (suc n) (callee_names cs) name)
        (if b then Some o else outline_named os name)
    by true others = (all.0, omega arith)
    by false others =
        let e : suc n + length cs ≡ n + length (c ∷ cs) = omega arith in
        subst (λ (end : ℕ). IsFound g code end (callee_named cs name) (number_from (suc n) (callee_names cs) name) (outline_named os name)) e others
found g code n [] (o ∷ os) name all = absurd all
found g code n (c ∷ cs) [] name all = absurd all

-- ---- a call

module _ (g : PieceContext) (code : List Instr) where
  -- the instruction of a call, with its values on top
  calls-is : (e : Entry) (n line at : ℕ) (taken s : List ℤ) (w : World) → length taken ≡ n → length g.returns < length g.functions →
      calls g (Some e) n line at (taken ++ s) w ≡ then_do (called_with g.set e.parameters line (reverse taken) w) (λ _ u. Gives (GoesOver ((at + 1) ∷ g.returns) e.start s) u [])
  calls-is e n line at taken s w is place =
      ap (λ m. calls g (Some e) m line at (taken ++ s) w) (sym is)
      ∙ ap (λ (b : Bool). if b then with_place g w (told (take (length taken) (taken ++ s)) (drop (length taken) (taken ++ s))) else Gives Sticks w []) (enough taken)
      ∙ ap (λ (l : List ℤ). with_place g w (told (take (length taken) (taken ++ s)) l)) (dropped taken)
      ∙ ap (λ (l : List ℤ). with_place g w (told l s)) (kept taken)
      ∙ ap (λ (b : Bool). if b then told taken s else Gives Sticks w []) (lt-ltb (length g.returns) (length g.functions) place)
    where
      told : List ℤ → List ℤ → Ran Step
      told values rest = then_do (called_with g.set e.parameters line (reverse values) w) (goes_over ((at + 1) ∷ g.returns) e.start rest)

      enough : (t : List ℤ) → nat_le (length t) (length (t ++ s)) ≡ true
      enough t = le-leb (length t) (length (t ++ s)) (omega (arith, length-append t s))

      dropped : (t : List ℤ) → drop (length t) (t ++ s) ≡ s
      dropped [] = refl
      dropped (z ∷ t) = dropped t

      kept : (t : List ℤ) → take (length t) (t ++ s) ≡ t
      kept [] = refl
      kept (z ∷ t) = ap (λ l. z ∷ l) (kept t)

  -- a call whose values are there
  pub runs-call : (f n line at : ℕ) (c : Callable) (o : Outline) (taken s : List ℤ) (w : World) → IsCallee g code f c o → slice_get code at ≡ Some (Call f n line) → length taken ≡ n →
      length s + 1 ≤ g.room → length s + o.depth ≤ g.room → suc (length g.returns) + f ≤ length g.functions →
      Runs g code at (taken ++ s) w (performed g.set c line (reverse taken) w) (at + 1) s
  runs-call f n line at c o taken s w is there many some deep places =
      let r = called_with g.set c.parameters line (reverse taken) w in
      continues-then (run_at g code at (taken ++ s) w) r (λ _. c.body) (λ _ u. run_at (with_returns g ((at + 1) ∷ g.returns)) code is.entry.start s u) (λ z u. run_at g code (at + 1) (z ∷ s) u)
      (follows-over g code (Call f n line) at (taken ++ s) w r ((at + 1) ∷ g.returns) is.entry.start s there
      (ap (λ e. calls g e n line at (taken ++ s) w) is.there ∙ calls-is is.entry n line at taken s w many (omega arith)
      ∙ ap (λ (ps : List Variable). then_do (called_with g.set ps line (reverse taken) w) (λ _ u. Gives (GoesOver ((at + 1) ∷ g.returns) is.entry.start s) u [])) is.parameters))
      (λ _ u. is.runs (at + 1) g.returns s u some deep places)
