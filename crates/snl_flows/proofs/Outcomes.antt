-- Two outcomes of what two runs do from worlds that are the same outside, where faults may be left out.
use Rattle.std.proofs.Common.{ℕ, Bool, true, false, List, [], ◌++◌, if◌then◌else◌}
use Rattle.snl_meaning.specs.declared.faults.Fault.{Fault}
use Rattle.snl_meaning.specs.Keeping.{world_after}
use Rattle.snl_meaning.specs.Ran.{Ran, Gives, Faults, also, then_do}
use Rattle.snl_meaning.specs.World.{World}
use Rattle.snl_flows.specs.LeftOut.{IsLeftOut}
use Rattle.snl_flows.specs.Outside.{IsSameOutside}
use Rattle.snl_flows.specs.Tables.{Ground}
use Rattle.snl_flows.specs.Texts.{SameButValues, NoLines}
use Rattle.snl_flows.proofs.Texts.{texts-joined}

-- Both give values and lead to worlds that go together, with texts that are the same but for values of puts; or both come to the same
-- fault; or one comes to a fault that is left out.
pub data AlikeTo {A : Type 0} (g : Ground) (F : A → A → World → World → Type 0) : Ran A → Ran A → Type 0 where
  BothLead : (x y : A) (w u : World) (a b : List ℕ) → F x y w u → SameButValues g.names a b → AlikeTo g F (Gives x w a) (Gives y u b)
  BothStop : (fault : Fault) (line : ℕ) (w u : World) (a b : List ℕ) → IsSameOutside g.hidden g.stale w u → SameButValues g.names a b → AlikeTo g F (Faults fault line w a) (Faults fault line u b)
  FirstStops : (fault : Fault) (line : ℕ) (w : World) (a : List ℕ) (s : Ran A) → IsLeftOut g.lines fault line → AlikeTo g F (Faults fault line w a) s
  SecondStops : (fault : Fault) (line : ℕ) (u : World) (b : List ℕ) (r : Ran A) → IsLeftOut g.lines fault line → AlikeTo g F r (Faults fault line u b)

module _ (g : Ground) where
  -- values, with no text
  pub lead : {A : Type 0} (F : A → A → World → World → Type 0) (x y : A) (w u : World) → F x y w u → AlikeTo g F (Gives x w []) (Gives y u [])
  lead F x y w u e = BothLead x y w u [] [] e NoLines

  -- the same fault, with no text
  pub stop : {A : Type 0} (F : A → A → World → World → Type 0) (fault : Fault) (line : ℕ) (w u : World) → IsSameOutside g.hidden g.stale w u →
      AlikeTo g F (Faults fault line w []) (Faults fault line u [])
  stop F fault line w u e = BothStop fault line w u [] [] e NoLines

  -- after texts
  pub also-to : {A : Type 0} (F : A → A → World → World → Type 0) (a b : List ℕ) (r s : Ran A) → SameButValues g.names a b → AlikeTo g F r s → AlikeTo g F (also a r) (also b s)
  also-to F a b _ _ t (BothLead x y w u c d e k) = BothLead x y w u (a ++ c) (b ++ d) e (texts-joined g.names a b c d t k)
  also-to F a b _ _ t (BothStop fault line w u c d e k) = BothStop fault line w u (a ++ c) (b ++ d) e (texts-joined g.names a b c d t k)
  also-to F a b _ _ t (FirstStops fault line w c s left) = FirstStops fault line w (a ++ c) (also b s) left
  also-to F a b _ _ t (SecondStops fault line u d r left) = SecondStops fault line u (b ++ d) (also a r) left

  -- one step and then another
  pub then-to : {A B : Type 0} (F : A → A → World → World → Type 0) (G : B → B → World → World → Type 0) (r s : Ran A) (go to : A → World → Ran B) → AlikeTo g F r s →
      ((x y : A) (w u : World) → F x y w u → AlikeTo g G (go x w) (to y u)) → AlikeTo g G (then_do r go) (then_do s to)
  then-to F G _ _ go to (BothLead x y w u a b e t) k = also-to G a b (go x w) (to y u) t (k x y w u e)
  then-to F G _ _ go to (BothStop fault line w u a b e t) k = BothStop fault line w u a b e t
  then-to F G _ _ go to (FirstStops fault line w a s left) k = FirstStops fault line w a (then_do s to) left
  then-to F G _ _ go to (SecondStops fault line u b r left) k = SecondStops fault line u b (then_do r go) left

  -- less is known behind it
  pub less-to : {A : Type 0} (F G : A → A → World → World → Type 0) (r s : Ran A) → ((x y : A) (w u : World) → F x y w u → G x y w u) → AlikeTo g F r s → AlikeTo g G r s
  less-to F G _ _ less (BothLead x y w u a b e t) = BothLead x y w u a b (less x y w u e) t
  less-to F G _ _ less (BothStop fault line w u a b e t) = BothStop fault line w u a b e t
  less-to F G _ _ less (FirstStops fault line w a s left) = FirstStops fault line w a s left
  less-to F G _ _ less (SecondStops fault line u b r left) = SecondStops fault line u b r left

  -- what is known of the world that the first one leaves is known behind it
  pub left-to : {A : Type 0} (F : A → A → World → World → Type 0) (P : World → Type 0) (r s : Ran A) → P (world_after r) → AlikeTo g F r s →
      AlikeTo g (λ x y w u. F x y w u × P w) r s
  left-to F P _ _ p (BothLead x y w u a b e t) = BothLead x y w u a b (e, p) t
  left-to F P _ _ p (BothStop fault line w u a b e t) = BothStop fault line w u a b e t
  left-to F P _ _ p (FirstStops fault line w a s left) = FirstStops fault line w a s left
  left-to F P _ _ p (SecondStops fault line u b r left) = SecondStops fault line u b r left

  -- one of two
  pub test-to : {A : Type 0} (F : A → A → World → World → Type 0) (b : Bool) (r r' s s' : Ran A) → AlikeTo g F r r' → AlikeTo g F s s' → AlikeTo g F (if b then r else s) (if b then r' else s')
  test-to F true r r' s s' h k = h
  test-to F false r r' s s' h k = k
