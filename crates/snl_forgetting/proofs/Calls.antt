-- A call comes out the same, whatever its parameters were before.
use Rattle.std.proofs.Common.{◌≡◌, ◌∙◌, ◌+◌, ◌<◌, ◌⊎◌, inl, inr, refl, sym, ap, subst, arith, ℕ, ℤ, pos, Bool, true, false, List, [], ◌∷◌, length}
use Rattle.std.specs.Prelude.{◌&&◌, int_le, slice_set}
use Rattle.snl_meaning.specs.declared.faults.Fault.TheVariants.{DoesNotFit}
use Rattle.snl_meaning.specs.declared.instrs.Variable.{Variable}
use Rattle.snl_meaning.specs.Scenes.{Callable}
use Rattle.snl_meaning.specs.Value.{performed}
use Rattle.snl_meaning.specs.Words.{stored, spent, bound, called_with}
use Rattle.snl_meaning.specs.World.{World, words_for, with_words_for, with_element}
use Rattle.snl_forgetting.specs.Own.{AreSingle, IsParameter}
use Rattle.snl_forgetting.specs.Forgotten.{AreSameBut, SameOutcome, BothGive, BothFault}
use Rattle.snl_forgetting.proofs.Places.{at, set-long, set-both, set-gains}
use Rattle.snl_forgetting.proofs.Words.{then-same, outcome-weaker, test-same, fewer, kept}
use Rattle.snl_forgetting.proofs.Linked.{agrees-spent}

-- parameters are known beside others
abbrev pub Beside : List Variable → (Known : Variable → Type 0) → Variable → Type 0
Beside ps Known v = IsParameter ps v ⊎ Known v

-- a body comes out the same where its parameters are known, whatever else is
abbrev pub BodyAgrees : Callable → Type 1
BodyAgrees c = (Known : Variable → Type 0) (w u : World) → AreSameBut (Beside c.parameters Known) w u →
    SameOutcome (AreSameBut (Beside c.parameters Known)) (AreSameBut (Beside c.parameters Known)) (c.body w) (c.body u)

-- one more is known
abbrev With : Variable → (Known : Variable → Type 0) → Variable → Type 0
With p Known v = (p ≡ v) ⊎ Known v

-- words of which the first one of a variable is set
abbrev filled : Variable → ℤ → List ℤ → List ℤ
filled p z l = slice_set l (p.place + 0) z

-- the world then, by where the variable stands
abbrev put : ℕ → Variable → ℤ → Bool → World → World
put set p z b x = with_words_for set b (filled p z (words_for set b x)) x

-- there is only one truth
differ : (false ≡ true) → ⊥
differ never = absurd (cc)

-- a parameter that was stored is known
gained : (Known : Variable → Type 0) (set : ℕ) (p : Variable) (z : ℤ) → p.size ≡ 1 → (w u : World) → AreSameBut Known w u →
    AreSameBut (With p Known) (with_element set p 0 z w) (with_element set p 0 z u)
gained Known set p z single w u e = by p.is_shared refl
  where
    by : (b : Bool) → p.is_shared ≡ b → AreSameBut (With p Known) (put set p z b w) (put set p z b u)
    by false copied =
        let same = kept Known (put set p z false) (λ x words. (refl, refl)) w u e in record {
          words = same.words;
          is = same.is;
          near = record {
            size = same.near.size;
            known = λ v is shared k less. elim is [
              | inl it ↦ absurd (differ (sym copied ∙ ap (λ (x : Variable). x.is_shared) it ∙ shared))
              | inr known ↦ same.near.known v known shared k less
            ];
          };
        }
    by true is_shared = record {
      words = filled p z e.words;
      is = ap (put set p z true) e.is;
      near = record {
        size = set-long w.shared e.words (p.place + 0) z e.near.size;
        known = λ v is shared k less. elim is [
          | inl it ↦ subst (λ (x : Variable). k < x.size → at (filled p z w.shared) (x.place + k) ≡ at (filled p z e.words) (x.place + k)) it (first k) less
          | inr known ↦ set-both w.shared e.words (p.place + 0) (v.place + k) z e.near.size (e.near.known v known shared k less)
        ];
      };
    }
      where
        first : (k : ℕ) → k < p.size → at (filled p z w.shared) (p.place + k) ≡ at (filled p z e.words) (p.place + k)
        first k less =
            let zero_is : 0 ≡ k = omega (arith, single, less) in
            subst (λ (n : ℕ). at (filled p z w.shared) (p.place + n) ≡ at (filled p z e.words) (p.place + n)) zero_is (set-gains w.shared e.words (p.place + 0) z e.near.size)

-- a parameter in front is one of them
moved : (p : Variable) (ps : List Variable) (Known : Variable → Type 0) (v : Variable) → Beside (p ∷ ps) Known v → Beside ps (With p Known) v
moved p ps Known v (inl (inl it)) = inr (inl it)
moved p ps Known v (inl (inr more)) = inl more
moved p ps Known v (inr known) = inr (inr known)

-- values into parameters: then these are known, and where one does not fit, no less than before
bound-same : (Known : Variable → Type 0) (set : ℕ) (ps : List Variable) (line : ℕ) (zs : List ℤ) → AreSingle ps → length zs ≡ length ps →
    (w u : World) → AreSameBut Known w u → SameOutcome (AreSameBut (Beside ps Known)) (AreSameBut Known) (bound set ps line zs w) (bound set ps line zs u)
bound-same Known set [] line zs single many w u e = BothGive tt w u [] (fewer Known (Beside [] Known) (λ v is. elim is [ inl never ↦ absurd never | inr known ↦ known ]) w u e)
bound-same Known set (p ∷ ps) line [] single many w u e = absurd (omega (arith, many))
bound-same Known set (p ∷ ps) line (z ∷ zs) single many w u e =
    then-same (AreSameBut (With p Known)) (AreSameBut (Beside (p ∷ ps) Known)) (AreSameBut Known) (stored set p line (pos 0) z w) (stored set p line (pos 0) z u) (λ _ x. bound set ps line zs x)
    (test-same (AreSameBut (With p Known)) (AreSameBut Known) (int_le p.least z && int_le z p.greatest) _ _ _ _
    (BothGive z _ _ [] (gained Known set p z single.0 w u e)) (BothFault DoesNotFit line w u [] e))
    (λ _ x y f. outcome-weaker (AreSameBut (Beside ps (With p Known))) (AreSameBut (Beside (p ∷ ps) Known)) (AreSameBut (With p Known)) (AreSameBut Known)
    (bound set ps line zs x) (bound set ps line zs y)
    (λ a b g. fewer (Beside ps (With p Known)) (Beside (p ∷ ps) Known) (moved p ps Known) a b g) (λ a b g. fewer (With p Known) Known (λ v known. inr known) a b g)
    (bound-same (With p Known) set ps line zs single.1 (omega (arith, many)) x y f))

-- a call whose arguments have their values
pub performed-same : (Known : Variable → Type 0) (set : ℕ) (c : Callable) (line : ℕ) (zs : List ℤ) → AreSingle c.parameters → length zs ≡ length c.parameters → BodyAgrees c →
    (w u : World) → AreSameBut Known w u → SameOutcome (AreSameBut Known) (AreSameBut Known) (performed set c line zs w) (performed set c line zs u)
performed-same Known set c line zs single many body w u e =
    then-same (AreSameBut (Beside c.parameters Known)) (AreSameBut Known) (AreSameBut Known) (called_with set c.parameters line zs w) (called_with set c.parameters line zs u) (λ _. c.body)
    (then-same (AreSameBut Known) (AreSameBut (Beside c.parameters Known)) (AreSameBut Known) (spent line w) (spent line u) (λ _ x. bound set c.parameters line zs x) (agrees-spent Known line w u e)
    (λ _ x y f. bound-same Known set c.parameters line zs single many x y f))
    (λ _ x y f. outcome-weaker (AreSameBut (Beside c.parameters Known)) (AreSameBut Known) (AreSameBut (Beside c.parameters Known)) (AreSameBut Known)
    (c.body x) (c.body y) less less (body Known x y f))
  where
    less : (x y : World) → AreSameBut (Beside c.parameters Known) x y → AreSameBut Known x y
    less x y f = fewer (Beside c.parameters Known) Known (λ v known. inr known) x y f
