-- The entry of a block: its variables are 0, so from then on they are known.
use Rattle.std.proofs.Common.{◌≡◌, ◌∙◌, ◌+◌, ◌<◌, ◌⊎◌, inl, inr, refl, sym, ap, subst, ℕ, ℤ, Bool, true, false, List, [], ◌∷◌, Option, None, Some}
use Rattle.snl_syntax.specs.Declarations.{DeclaratorTree}
use Rattle.snl_meaning.specs.declared.instrs.Variable.{Variable}
use Rattle.snl_meaning.specs.Effect.{variable_for, cleared_maybe, all_cleared}
use Rattle.snl_meaning.specs.Ran.{Gives, also, then_do}
use Rattle.snl_meaning.specs.Scenes.{Scene}
use Rattle.snl_meaning.specs.World.{World, words_for, with_words_for, with_zeros, zeroed}
use Rattle.snl_forgetting.specs.Own.{OwnWithin}
use Rattle.snl_forgetting.specs.Forgotten.{AreSameBut}
use Rattle.snl_forgetting.proofs.Places.{at, zeroed-long, zeroed-both, zeroed-gains}
use Rattle.snl_forgetting.proofs.Words.{fewer, kept}

-- ---- the world then

-- a variable is 0, if there is one
abbrev blank_maybe : ℕ → Option Variable → World → World
blank_maybe set None w = w
blank_maybe set (Some v) w = with_zeros set v w

-- each variable of a block is
abbrev pub blank : Scene → List DeclaratorTree → World → World
blank m [] w = w
blank m (d ∷ ds) w = blank m ds (blank_maybe m.set (variable_for m.here d) w)

-- the entry leaves that world, and writes nothing
pub all_cleared-is : (m : Scene) (ds : List DeclaratorTree) (w : World) → all_cleared m ds w ≡ Gives tt (blank m ds w) []
all_cleared-is m [] w = refl
all_cleared-is m (d ∷ ds) w = by (variable_for m.here d) (λ x. all_cleared-is m ds x)
  where
    by : (o : Option Variable) → ((x : World) → all_cleared m ds x ≡ Gives tt (blank m ds x) []) →
        then_do (cleared_maybe m.set o w) (λ _ u. all_cleared m ds u) ≡ Gives tt (blank m ds (blank_maybe m.set o w)) []
    by None others = ap (also []) (others w)
    by (Some v) others = ap (also []) (others (with_zeros m.set v w))

-- ---- what is known then

-- there is no variable
apart : (v : Variable) → None ≡ Some v → ⊥
apart v never = absurd (cc)

-- one is the other
the-same : (v x : Variable) → Some v ≡ Some x → v ≡ x
the-same v x is = cc

-- one more is known, if there is one
abbrev With : Option Variable → (Known : Variable → Type 0) → Variable → Type 0
With o Known v = (o ≡ Some v) ⊎ Known v

-- words of which those of a variable are 0
abbrev emptied : Variable → List ℤ → List ℤ
emptied x l = zeroed l x.place x.size

-- the world then, by where the variable stands
abbrev put : ℕ → Variable → Bool → World → World
put set x b y = with_words_for set b (emptied x (words_for set b y)) y

-- there is only one truth
differ : (false ≡ true) → ⊥
differ never = absurd (cc)

-- one that is 0 is known
zero-known : (Known : Variable → Type 0) (set : ℕ) (o : Option Variable) (w u : World) → AreSameBut Known w u →
    AreSameBut (With o Known) (blank_maybe set o w) (blank_maybe set o u)
zero-known Known set None w u e = fewer Known (With None Known) (λ v is. elim is [ inl never ↦ absurd (apart v never) | inr known ↦ known ]) w u e
zero-known Known set (Some x) w u e = by x.is_shared refl
  where
    by : (b : Bool) → x.is_shared ≡ b → AreSameBut (With (Some x) Known) (put set x b w) (put set x b u)
    by false copied =
        let same = kept Known (put set x false) (λ y words. (refl, refl)) w u e in record {
          words = same.words;
          is = same.is;
          near = record {
            size = same.near.size;
            known = λ v is shared k less. elim is [
              | inl it ↦ absurd (differ (sym copied ∙ ap (λ (y : Variable). y.is_shared) (the-same x v it) ∙ shared))
              | inr known ↦ same.near.known v known shared k less
            ];
          };
        }
    by true is_shared = record {
      words = emptied x e.words;
      is = ap (put set x true) e.is;
      near = record {
        size = zeroed-long x.size w.shared e.words x.place e.near.size;
        known = λ v is shared k less. elim is [
          | inl it ↦ subst (λ (y : Variable). k < y.size → at (emptied x w.shared) (y.place + k) ≡ at (emptied x e.words) (y.place + k)) (the-same x v it)
              (zeroed-gains x.size k w.shared e.words x.place e.near.size) less
          | inr known ↦ zeroed-both x.size w.shared e.words x.place (v.place + k) e.near.size (e.near.known v known shared k less)
        ];
      };
    }

-- all that a block declares are
pub blank-known : (m : Scene) (ds : List DeclaratorTree) (Known : Variable → Type 0) (w u : World) → AreSameBut Known w u →
    AreSameBut (OwnWithin m.here ds Known) (blank m ds w) (blank m ds u)
blank-known m [] Known w u e = fewer Known (OwnWithin m.here [] Known) (λ v is. elim is [ inl never ↦ absurd never | inr known ↦ known ]) w u e
blank-known m (d ∷ ds) Known w u e =
    fewer (OwnWithin m.here ds (With (variable_for m.here d) Known)) (OwnWithin m.here (d ∷ ds) Known) moved _ _
    (blank-known m ds (With (variable_for m.here d) Known) _ _ (zero-known Known m.set (variable_for m.here d) w u e))
  where
    moved : (v : Variable) → OwnWithin m.here (d ∷ ds) Known v → OwnWithin m.here ds (With (variable_for m.here d) Known) v
    moved v (inl (inl it)) = inr (inl it)
    moved v (inl (inr more)) = inl more
    moved v (inr known) = inr (inr known)
