-- What an instruction does in two runs, where a table is right at its address.
use Rattle.std.proofs.Common.{◌≡◌, ◌∙◌, ◌⊎◌, ◌+◌, ◌≤◌, ◌<◌, inl, inr, ⊎_elim, refl, sym, ap, subst, arith, ℕ, ℤ, pos, negsuc, Bool, true, false, List, [], ◌∷◌, Option, None, Some, length, reverse, take, drop, if◌then◌else◌}
use Rattle.std.specs.Prelude.{nat_le, nat_lt}
use Rattle.std.proofs.lemmas.Bool.{leb-true, ltb-true}
use Rattle.snl_arithmetic.specs.Arithmetic.{is_zero}
use Rattle.snl_meaning.specs.declared.faults.Fault.TheVariants.{OutOfRange}
use Rattle.snl_meaning.specs.declared.instrs.Instr.TheVariants.{Store, StoreAt, Assign}
use Rattle.snl_meaning.specs.declared.instrs.Variable.{Variable}
use Rattle.snl_meaning.specs.Ran.{Ran, Gives, Faults, then_do}
use Rattle.snl_meaning.specs.Run.{Entry, PieceContext, Step, GoesTo, GoesOver, EndsWith, LeavesFor, Sticks, on_top, on_two, goes, goes_with, goes_over, with_room, pushes, takes, with_place, calls, returns_to, done_by}
use Rattle.snl_meaning.specs.Words.{called_with, is_subscript, natural, stored, subscript}
use Rattle.snl_meaning.specs.World.{World}
use Rattle.snl_alike.specs.TwoRuns.{Agrees, KeepsAlike}
use Rattle.snl_flows.specs.Fine.{AreKept, AreTaken, Begins, IsElement, IsFineAt, LeadsAfter, LeadsTo, MayGetOther, MayGetOthers, Takes}
use Rattle.snl_flows.specs.LeftOut.{left_out}
use Rattle.snl_flows.specs.Outside.{AreSameAt, has, places_of, IsSameOutside}
use Rattle.snl_flows.specs.Tables.{Operand, Same, Within, IsSameIn, top_of, below, under, AreAllSame, IsNoMore, AreNoMore, Flow, Ground, IsOpen, IsReached, IsSameAt, MayDiffer, facts_at, is_loose, said_at}
use Rattle.snl_flows.specs.Texts.{IsInLine, SameButValues}
use Rattle.snl_flows.proofs.Kept.{keeps-words, plain, SameKept}
use Rattle.snl_flows.proofs.Operands.{HoldsOf, HoldOf, all-same, as-many, can-be, given-holds, holds-of-same, no-more-of, same-of, under-of}
use Rattle.snl_flows.proofs.Outcomes.{AlikeTo, lead, less-to, stop, test-to, then-to}
use Rattle.snl_flows.proofs.Calls.{Bound, calls-to}
use Rattle.snl_flows.proofs.Puts.{Entered}
use Rattle.snl_flows.proofs.Variables.{Grows, Stays, With, stored-other, stored-to}
use Rattle.snl_flows.proofs.Worlds.{Known, SameOn, same-less, same-outside}

-- A table says at one of some addresses that a word is the same.
abbrev pub IsSaidAt : Flow → List ℕ → Bool → ℕ → Type 0
IsSaidAt f [] b k = ⊥
IsSaidAt f (at ∷ more) b k = (has (said_at f at b) k ≡ true) ⊎ IsSaidAt f more b k

-- And it is none that may get what is not the same.
abbrev pub Here : Flow → List ℕ → Bool → ℕ → Type 0
Here f ats b k = (is_loose f b k ≡ false) × IsSaidAt f ats b k

-- What code runs with has the functions and the strings of the program, and the name of its state set has no newline.
pub record IsOfGround (g : Ground) (c : PieceContext) : Type 0 where
  pub functions : g.functions ≡ c.functions
  pub formats : g.formats ≡ c.formats
  pub named : IsInLine c.name

-- Where calls go on no more is said of the operands than what is known of what functions give, and that all below it are the same.
abbrev pub AreBack : Flow → List ℕ → Type 0
AreBack f [] = Unit {0}
AreBack f (at ∷ more) = AreNoMore (facts_at f at).operands (f.given ∷ []) × IsReached f at × AreBack f more

-- Two steps lead to the same address, with operands and worlds of which the table is right; both end with the same operands, or leave for
-- the same state, where it says that more is the same; or both stick.
pub data After (g : Ground) (set : ℕ) (f : Flow) (returns : List ℕ) : Step → Step → World → World → Type 0 where
  BothGo : (pc : ℕ) (s t : List ℤ) (w u : World) → IsReached f pc → HoldOf (facts_at f pc).operands s t → SameOn g set (Here f (pc ∷ returns)) w u →
      After g set f returns (GoesTo pc s) (GoesTo pc t) w u
  BothGoOver : (others : List ℕ) (pc : ℕ) (s t : List ℤ) (w u : World) → AreBack f others → IsReached f pc → HoldOf (facts_at f pc).operands s t → SameOn g set (Here f (pc ∷ others)) w u →
      After g set f returns (GoesOver others pc s) (GoesOver others pc t) w u
  BothEnd : (s : List ℤ) (w u : World) → IsSameOutside g.hidden g.stale w u → AreSameAt set f.ends w u → After g set f returns (EndsWith s) (EndsWith s) w u
  BothLeave : (state : ℕ) (w u : World) → IsSameOutside g.hidden g.stale w u → AreSameAt set f.leaves w u → After g set f returns (LeavesFor state) (LeavesFor state) w u
  BothStick : (w u : World) → IsSameOutside g.hidden g.stale w u → After g set f returns Sticks Sticks w u

-- a subscript that passes the check is below the size
in-size : (size : ℕ) (k : ℤ) → is_subscript size k ≡ true → natural k < size
in-size size (pos n) h = ltb-true n size h
in-size size (negsuc n) h = absurd (cc)

module _ (g : Ground) (f : Flow) (c : PieceContext) where
  -- what is known at an address
  abbrev pub K : ℕ → Bool → ℕ → Type 0
  K at = Here f (at ∷ c.returns)

  -- of the operands there
  abbrev pub ops : ℕ → List Operand
  ops at = (facts_at f at).operands

  -- two worlds at an address
  abbrev pub At : ℕ → World → World → Type 0
  At at = SameOn g c.set (K at)

  -- where steps lead
  abbrev pub Next : Step → Step → World → World → Type 0
  Next = After g c.set f c.returns

  -- a value, of which something is known
  abbrev pub Holds : ℕ → Operand → ℤ → ℤ → World → World → Type 0
  Holds at o = Stays g c.set (K at) o

  -- ---- where a step leads

  -- no more is said there
  pub led : (at to : ℕ) (holds : List Operand) (s t : List ℤ) (w u : World) → LeadsTo g c.set f at to holds → HoldOf holds s t → At at w u →
      AlikeTo g Next (Gives (GoesTo to s) w []) (Gives (GoesTo to t) u [])
  led at to holds s t w u leads h e =
      lead g Next _ _ w u (BothGo to s t w u leads.1 (no-more-of s t (ops to) holds leads.0 h)
      (same-less g c.set (K at) (K to) w u (λ b k known. (known.0, ⊎_elim (λ said. inl (leads.2 b k said)) (λ others. inr others) known.1)) e))

  -- but for what was written
  pub led-after : (at to : ℕ) (holds : List Operand) (W : Bool → ℕ → Type 0) (s t : List ℤ) (w u : World) → LeadsAfter g c.set f at to holds W → HoldOf holds s t →
      SameOn g c.set (With (K at) W) w u → AlikeTo g Next (Gives (GoesTo to s) w []) (Gives (GoesTo to t) u [])
  led-after at to holds W s t w u leads h e =
      lead g Next _ _ w u (BothGo to s t w u leads.1 (no-more-of s t (ops to) holds leads.0 h)
      (same-less g c.set (With (K at) W) (K to) w u
      (λ b k known. ⊎_elim (λ said. ⊎_elim (λ before. inl (known.0, inl before)) (λ now. inr now) (leads.2 b k said)) (λ others. inl (known.0, inr others)) known.1) e))

  -- it sticks
  pub stuck : (at : ℕ) (w u : World) → At at w u → AlikeTo g Next (Gives Sticks w []) (Gives Sticks u [])
  stuck at w u e = lead g Next Sticks Sticks w u (BothStick w u (same-outside g c.set (K at) w u e))

  -- on with a value on top
  pub on : (at to : ℕ) (o : Operand) (os : List Operand) (s t : List ℤ) (r r' : Ran ℤ) → LeadsTo g c.set f at to (o ∷ os) → HoldOf os s t → AlikeTo g (Holds at o) r r' →
      AlikeTo g Next (then_do r (goes_with to s)) (then_do r' (goes_with to t))
  on at to o os s t r r' leads h both =
      then-to g (Holds at o) Next r r' (goes_with to s) (goes_with to t) both (λ x y w u more. led at to (o ∷ os) (x ∷ s) (y ∷ t) w u leads (more.0, h) more.1)

  -- where there is room
  roomy : (at : ℕ) (os : List Operand) (s t : List ℤ) (w u : World) (r r' : Ran Step) → HoldOf os s t → At at w u → AlikeTo g Next r r' →
      AlikeTo g Next (with_room c.room s w r) (with_room c.room t u r')
  roomy at os s t w u r r' h e both =
      subst (λ (n : ℕ). AlikeTo g Next (with_room c.room s w r) (if nat_lt n c.room then r' else Gives Sticks u [])) (as-many s t os h)
      (test-to g Next (nat_lt (length s) c.room) _ _ _ _ both (stuck at w u e))

  -- a number more
  pub pushed : (at : ℕ) (o : Operand) (os : List Operand) (s t : List ℤ) (w u : World) (r r' : Ran ℤ) → LeadsTo g c.set f at (at + 1) (o ∷ os) → HoldOf os s t → At at w u → AlikeTo g
      (Holds at o) r r' →
      AlikeTo g Next (pushes c at s w r) (pushes c at t u r')
  pushed at o os s t w u r r' leads h e both =
      roomy at os s t w u (then_do r (goes_with (at + 1) s)) (then_do r' (goes_with (at + 1) t)) h e (on at (at + 1) o os s t r r' leads h both)

  -- a step that takes the topmost number
  pub topped : (at : ℕ) (os : List Operand) (s t : List ℤ) (go to : ℤ → List ℤ → Ran Step) (w u : World) → HoldOf os s t → At at w u →
      ((x y : ℤ) (s t : List ℤ) → HoldsOf (top_of os) x y → HoldOf (below os) s t → AlikeTo g Next (go x s) (to y t)) → AlikeTo g Next (on_top s w go) (on_top t u to)
  topped at os [] [] go to w u h e k = stuck at w u e
  topped at os [] (y ∷ t) go to w u h e k = absurd h
  topped at os (x ∷ s) [] go to w u h e k = absurd h
  topped at os (x ∷ s) (y ∷ t) go to w u h e k = k x y s t h.0 h.1

  -- the two topmost
  pub two-topped : (at : ℕ) (os : List Operand) (s t : List ℤ) (go to : ℤ → ℤ → List ℤ → Ran Step) (w u : World) → HoldOf os s t → At at w u →
      ((x x' y y' : ℤ) (s t : List ℤ) → HoldsOf (top_of os) y y' → HoldsOf (top_of (below os)) x x' → HoldOf (below (below os)) s t → AlikeTo g Next (go x y s) (to x' y' t)) →
      AlikeTo g Next (on_two s w go) (on_two t u to)
  two-topped at os [] [] go to w u h e k = stuck at w u e
  two-topped at os [] (y ∷ t) go to w u h e k = absurd h
  two-topped at os (x ∷ s) [] go to w u h e k = absurd h
  two-topped at os (x ∷ []) (y ∷ []) go to w u h e k = stuck at w u e
  two-topped at os (x ∷ []) (y ∷ b ∷ t) go to w u h e k = absurd h.1
  two-topped at os (x ∷ a ∷ s) (y ∷ []) go to w u h e k = absurd h.1
  two-topped at os (y ∷ x ∷ s) (y' ∷ x' ∷ t) go to w u h e k = k x x' y y' s t h.0 h.1.0 h.1.1

  -- the same word of numbers that are the same
  pub twice : {A : Type 0} (F : A → A → World → World → Type 0) (word : ℤ → World → Ran A) (x y : ℤ) (w u : World) → x ≡ y → AlikeTo g F (word x w) (word x u) → AlikeTo g F (word x w) (word y u)
  twice F word x y w u same h = subst (λ (z : ℤ). AlikeTo g F (word x w) (word z u)) same h

  -- what needs no word of a variable
  pub free : (at : ℕ) {A : Type 0} (word : World → Ran A) → (KeepsAlike c.set (At at) (SameButValues g.names) → Agrees (left_out g.lines) (At at) (SameButValues g.names) word) →
      (w u : World) → At at w u →
      AlikeTo {A = A} g (SameKept g c.set (K at)) (word w) (word u)
  free at word agrees w u e = plain g c.set (K at) word (agrees (keeps-words g c.set (K at))) w u e

  -- ---- what is known at an address

  -- a word that is the same there
  pub known : (at : ℕ) (b : Bool) (k : ℕ) → IsSameAt g c.set f at b k → Known g c.set (K at) b k
  known at b k same = ⊎_elim (λ seen. inl seen) (λ both. inr (both.1, inl both.0)) same

  -- one that may differ is no other one
  pub apart : (at : ℕ) (b : Bool) (place : ℕ) → MayDiffer (places_of g.hidden c.set) f b place → (j : ℕ) → Known g c.set (K at) b j → j ≡ place → ⊥
  apart at b place may j here is =
      ⊎_elim (λ (seen : IsOpen (places_of g.hidden c.set) b j). may.hides (subst (IsOpen (places_of g.hidden c.set) b) is seen))
      (λ (more : K at b j). let p : is_loose f b place ≡ true = may.loose in let q : is_loose f b j ≡ false = more.0 in
      let never : true ≡ false = sym p ∙ ap (is_loose f b) (sym is) ∙ q in absurd (cc)) here

  -- words that are the same where a piece is over
  pub kept : (at : ℕ) (places : List ℕ) (w u : World) → AreKept g c.set f at places → At at w u → AreSameAt c.set places w u
  kept at places w u all e k here = let both = all k here in (e.copies c.set).words.at k (inr (refl, (both.1, inl both.0)))

  -- ---- instructions

  -- a store of the topmost number, which stays
  pub stores : (at : ℕ) (v : Variable) (line : ℕ) (s t : List ℤ) (w u : World) → IsFineAt g c.set f at (Store v line) → HoldOf (ops at) s t → At at w u →
      AlikeTo g Next (done_by c (Store v line) at s w) (done_by c (Store v line) at t u)
  stores at v line s t w u fine h e =
      topped at (ops at) s t
      (λ z more. then_do (stored c.set v line (pos 0) z w) (goes_with (at + 1) more))
      (λ z more. then_do (stored c.set v line (pos 0) z u) (goes_with (at + 1) more)) w u h e
      (λ x y s' t' top rest. ⊎_elim
      (λ (same : IsSameIn (top_of (ops at)) × LeadsAfter g c.set f at (at + 1) (ops at) (IsElement v 0)).
      then-to g (Grows g c.set (K at) (IsElement v 0) (top_of (ops at))) Next (stored c.set v line (pos 0) x w) (stored c.set v line (pos 0) y u) (goes_with (at + 1) s') (goes_with (at + 1) t')
      (stored-to g c.set (K at) (top_of (ops at)) v line (pos 0) x y w u same.0 top e)
      (λ a b p q more. led-after at (at + 1) (ops at) (IsElement v 0) (a ∷ s') (b ∷ t') p q same.1 (more.0, rest) more.1))
      (λ (other : MayGetOther g c.set f v 0 line × LeadsTo g c.set f at (at + 1) (ops at)).
      then-to g (Holds at (top_of (ops at))) Next (stored c.set v line (pos 0) x w) (stored c.set v line (pos 0) y u) (goes_with (at + 1) s') (goes_with (at + 1) t')
      (stored-other g c.set (K at) (top_of (ops at)) v line (pos 0) x y w u top other.0.1 (apart at v.is_shared (v.place + 0) other.0.0) e)
      (λ a b p q more. led at (at + 1) (ops at) (a ∷ s') (b ∷ t') p q other.1 (more.0, rest) more.1)) fine)

  -- one that takes it away
  pub assigns : (at : ℕ) (v : Variable) (k line : ℕ) (s t : List ℤ) (w u : World) → IsFineAt g c.set f at (Assign v k line) → HoldOf (ops at) s t → At at w u →
      AlikeTo g Next (done_by c (Assign v k line) at s w) (done_by c (Assign v k line) at t u)
  assigns at v k line s t w u fine h e =
      topped at (ops at) s t
      (λ z more. then_do (stored c.set v line (pos k) z w) (goes (at + 1) more))
      (λ z more. then_do (stored c.set v line (pos k) z u) (goes (at + 1) more)) w u h e
      (λ x y s' t' top rest. ⊎_elim
      (λ (same : IsSameIn (top_of (ops at)) × LeadsAfter g c.set f at (at + 1) (below (ops at)) (IsElement v k)).
      then-to g (Grows g c.set (K at) (IsElement v k) (top_of (ops at))) Next (stored c.set v line (pos k) x w) (stored c.set v line (pos k) y u) (goes (at + 1) s') (goes (at + 1) t')
      (stored-to g c.set (K at) (top_of (ops at)) v line (pos k) x y w u same.0 top e)
      (λ a b p q more. led-after at (at + 1) (below (ops at)) (IsElement v k) s' t' p q same.1 rest more.1))
      (λ (other : MayGetOther g c.set f v k line × LeadsTo g c.set f at (at + 1) (below (ops at))).
      then-to g (Holds at (top_of (ops at))) Next (stored c.set v line (pos k) x w) (stored c.set v line (pos k) y u) (goes (at + 1) s') (goes (at + 1) t')
      (stored-other g c.set (K at) (top_of (ops at)) v line (pos k) x y w u top other.0.1 (apart at v.is_shared (v.place + k) other.0.0) e)
      (λ a b p q more. led at (at + 1) (below (ops at)) s' t' p q other.1 rest more.1)) fine)

  -- one at a subscript
  pub stores-at : (at : ℕ) (v : Variable) (line : ℕ) (s t : List ℤ) (w u : World) → IsFineAt g c.set f at (StoreAt v line) → HoldOf (ops at) s t → At at w u →
      AlikeTo g Next (done_by c (StoreAt v line) at s w) (done_by c (StoreAt v line) at t u)
  stores-at at v line s t w u fine h e =
      two-topped at (ops at) s t
      (λ k z more. then_do (stored c.set v line k z w) (goes_with (at + 1) more))
      (λ k z more. then_do (stored c.set v line k z u) (goes_with (at + 1) more)) w u h e
      (λ k k' z z' s' t' top next rest.
      subst (λ (j : ℤ). AlikeTo g Next (then_do (stored c.set v line k z w) (goes_with (at + 1) s')) (then_do (stored c.set v line j z' u) (goes_with (at + 1) t')))
      (same-of (top_of (below (ops at))) k k' (⊎_elim (λ same. same.1) (λ may. may.0) fine.0) next)
      (on at (at + 1) (top_of (ops at)) (below (below (ops at))) s' t' (stored c.set v line k z w) (stored c.set v line k z' u) fine.1 rest (⊎_elim
      (λ (same : IsSameIn (top_of (ops at)) × IsSameIn (top_of (below (ops at)))).
      less-to g (Grows g c.set (K at) (IsElement v (natural k)) (top_of (ops at))) (Holds at (top_of (ops at))) (stored c.set v line k z w) (stored c.set v line k z' u)
      (λ a b p q more. (more.0, same-less g c.set (With (K at) (IsElement v (natural k))) (K at) p q (λ d j m. inl m) more.1))
      (stored-to g c.set (K at) (top_of (ops at)) v line k z z' w u same.0 top e))
      (λ (may : MayGetOthers g c.set f v (top_of (below (ops at))) line).
      stored-other g c.set (K at) (top_of (ops at)) v line k z z' w u top may.2
      (apart at v.is_shared (v.place + natural k) (may.1 (natural k) (can-be (top_of (below (ops at))) k k' may.0 next))) e) fine.0)))

  -- the check of a subscript
  pub checked : (at : ℕ) (v : Variable) (line : ℕ) (k : ℤ) (w u : World) → At at w u → AlikeTo g (Holds at (Within v.size)) (subscript v line k w) (subscript v line k u)
  checked at v line k w u e = by (is_subscript v.size k) refl
    where
      by : (b : Bool) → is_subscript v.size k ≡ b → AlikeTo g (Holds at (Within v.size)) (if b then Gives k w [] else Faults OutOfRange line w [])
          (if b then Gives k u [] else Faults OutOfRange line u [])
      by true is = lead g (Holds at (Within v.size)) k k w u ((refl, in-size v.size k is), e)
      by false is = stop g (Holds at (Within v.size)) OutOfRange line w u (same-outside g c.set (K at) w u e)

  -- a jump by a condition
  pub jumped : (at n : ℕ) (os : List Operand) (z : ℤ) (s t : List ℤ) (w u : World) → LeadsTo g c.set f at (at + 1) os → LeadsTo g c.set f at (at + 1 + n) os → HoldOf os s t → At at w u →
      AlikeTo g Next (Gives (GoesTo (if is_zero z then at + 1 + n else at + 1) s) w []) (Gives (GoesTo (if is_zero z then at + 1 + n else at + 1) t) u [])
  jumped at n os z s t w u next over h e = by (is_zero z)
    where
      by : (b : Bool) → AlikeTo g Next (Gives (GoesTo (if b then at + 1 + n else at + 1) s) w []) (Gives (GoesTo (if b then at + 1 + n else at + 1) t) u [])
      by true = led at (at + 1 + n) os s t w u over h e
      by false = led at (at + 1) os s t w u next h e

  -- numbers in the place of others
  pub taken : (at n : ℕ) (s t : List ℤ) (word : List ℤ → World → Ran ℤ) (w u : World) → LeadsTo g c.set f at (at + 1) (Same ∷ under n (ops at)) → HoldOf (ops at) s t → At at w u →
      AlikeTo g (Holds at Same) (word (take n s) w) (word (take n t) u) → AlikeTo g Next (takes c n at s w word) (takes c n at t u word)
  taken at n s t word w u leads h e both =
      subst (λ (m : ℕ). AlikeTo g Next (takes c n at s w word) (if nat_le n m then with_room c.room (drop n t) u
      (then_do (word (take n t) u) (goes_with (at + 1) (drop n t))) else Gives Sticks u []))
      (as-many s t (ops at) h)
      (test-to g Next (nat_le n (length s)) _ _ _ _
      (roomy at (under n (ops at)) (drop n s) (drop n t) w u _ _ rest e
      (on at (at + 1) Same (under n (ops at)) (drop n s) (drop n t) (word (take n s) w) (word (take n t) u) leads rest both)) (stuck at w u e))
    where
      rest : HoldOf (under n (ops at)) (drop n s) (drop n t)
      rest = under-of n s t (ops at) h

  -- a return
  pub returned : (returns : List ℕ) (at : ℕ) (s t : List ℤ) (w u : World) → IsNoMore f.given (top_of (ops at)) × AreAllSame (below (ops at)) → AreBack f returns → HoldOf (ops at) s t →
      SameOn g c.set (Here f (at ∷ returns)) w u → AlikeTo g Next (returns_to returns s w) (returns_to returns t u)
  returned [] at s t w u all backs h e = lead g Next Sticks Sticks w u (BothStick w u (same-outside g c.set (Here f (at ∷ [])) w u e))
  returned (back ∷ returns) at s t w u all backs h e =
      lead g Next _ _ w u (BothGoOver returns back s t w u backs.2 backs.1
      (no-more-of s t (ops back) (f.given ∷ []) backs.0 (given-holds f.given s t (ops at) all.0 all.1 h))
      (same-less g c.set (Here f (at ∷ back ∷ returns)) (Here f (back ∷ returns)) w u (λ b k said. (said.0, inr said.1)) e))

  -- a call
  module _ (x : Entry) (n line at : ℕ) (s t : List ℤ) (w u : World) (backs : AreBack f c.returns) (taken : AreTaken g c.set f x.parameters n (ops at) line) (all : AreAllSame (under n (ops at)))
      (begins : Begins g c.set f (Some x) n) (leads : LeadsTo g c.set f at (at + 1) (f.given ∷ [])) (h : HoldOf (ops at) s t) (e : At at w u) where
    -- where it goes on
    abbrev others : List ℕ
    others = (at + 1) ∷ c.returns

    -- the operands below its values
    same-below : drop n s ≡ drop n t
    same-below = all-same (drop n s) (drop n t) (under n (ops at)) all (under-of n s t (ops at) h)

    -- what is known where the function begins
    entered : (p q : World) → SameOn g c.set (With (K at) (Bound g f c.set x.parameters n)) p q → SameOn g c.set (Here f (x.start ∷ others)) p q
    entered p q known =
        same-less g c.set (With (K at) (Bound g f c.set x.parameters n)) (Here f (x.start ∷ others)) p q
        (λ b k said. ⊎_elim (λ here. inr (begins.2 b k here, said.0))
        (λ (more : IsSaidAt f others b k). inl (said.0, ⊎_elim (λ back. inl (leads.2 b k back)) (λ later. inr later) more)) said.1) known

    -- it
    call-alike : n ≤ length s → AlikeTo g Next (then_do (called_with c.set x.parameters line (reverse (take n s)) w) (goes_over others x.start (drop n s)))
        (then_do (called_with c.set x.parameters line (reverse (take n t)) u) (goes_over others x.start (drop n t)))
    call-alike low =
        let many : length s ≡ length t = as-many s t (ops at) h in
        then-to g {A = Unit {0}} (Entered g c.set (With (K at) (Bound g f c.set x.parameters n))) Next (called_with c.set x.parameters line (reverse (take n s)) w)
        (called_with c.set x.parameters line (reverse (take n t)) u) (goes_over others x.start (drop n s)) (goes_over others x.start (drop n t))
        (calls-to g f c.set x.parameters line n s t (ops at) (K at) w u (λ b k known. known.0) taken low (omega (arith, low, many)) h e)
        (λ _ _ p q known. lead g Next _ _ p q (BothGoOver others x.start (drop n s) (drop n t) p q (leads.0, leads.1, backs) begins.1
        (no-more-of (drop n s) (drop n t) (ops x.start) [] begins.0 (subst (HoldOf [] (drop n s)) same-below (holds-of-same (drop n s)))) (entered p q known)))

  -- a call, if there is a function
  pub called-on : (o : Option Entry) (n line at : ℕ) (s t : List ℤ) (w u : World) → AreBack f c.returns → Takes g c.set f o n (ops at) line → AreAllSame (under n (ops at)) →
      Begins g c.set f o n → LeadsTo g c.set f at (at + 1) (f.given ∷ []) → HoldOf (ops at) s t → At at w u → AlikeTo g Next (calls c o n line at s w) (calls c o n line at t u)
  called-on None n line at s t w u backs taken all begins leads h e = stuck at w u e
  called-on (Some x) n line at s t w u backs taken all begins leads h e =
      subst (λ (m : ℕ). AlikeTo g Next (calls c (Some x) n line at s w)
      (if nat_le n m then with_place c u (then_do (called_with c.set x.parameters line (reverse (take n t)) u) (goes_over ((at + 1) ∷ c.returns) x.start (drop n t))) else Gives Sticks u []))
      (as-many s t (ops at) h) (by (nat_le n (length s)) refl)
    where
      by : (b : Bool) → nat_le n (length s) ≡ b →
          AlikeTo g Next
          (if b then with_place c w (then_do (called_with c.set x.parameters line (reverse (take n s)) w) (goes_over ((at + 1) ∷ c.returns) x.start (drop n s))) else Gives Sticks w [])
          (if b then with_place c u (then_do (called_with c.set x.parameters line (reverse (take n t)) u) (goes_over ((at + 1) ∷ c.returns) x.start (drop n t))) else Gives Sticks u [])
      by true p =
          test-to g Next (nat_lt (length c.returns) (length c.functions)) _ _ _ _ (call-alike x n line at s t w u backs taken all begins leads h e (leb-true n (length s) p)) (stuck at w u e)
      by false p = stuck at w u e
