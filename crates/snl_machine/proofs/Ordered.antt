-- The tokens of a program that was read stand one after another; so no two of its declarations stand at one offset.
use Rattle.std.proofs.Common.{◌≡◌, ◌∙◌, ◌+◌, ◌<◌, ◌≤◌, ◌⊎◌, inl, inr, refl, sym, ap, subst, arith, ℕ, suc, List, [], ◌∷◌, ◌++◌, map}
use Rattle.std.specs.Prelude.{slice_index}
use Rattle.std.specs.List.Sorted.{IsStrictlyIncreasing}
use Rattle.std.proofs.lemmas.List.{map-append}
use Rattle.snl_text.specs.Cut.{nothing_read}
use Rattle.snl_text.specs.Cut as cut
use Rattle.snl_text.specs.Scanning.{spelled}
use Rattle.snl_text.specs.declared.tokens.Token.{Token}
use Rattle.snl_text.proofs.Ascending.{ascend, none_yet}
use Rattle.snl_syntax.specs.Slots.{Slot, The, Sign, Spelled}
use Rattle.snl_syntax.specs.Programs.{ProgramTree, program_slots}
use Rattle.snl_names.specs.Variables.{CopyVariable}
use Rattle.snl_machine.specs.Accepted.{IsRead, ParsedAreRead}
use Rattle.snl_machine.proofs.Declared.{declared, programs, In}

-- ---- lists within lists

-- some numbers are, in this order, among others
abbrev pub Sub : List ℕ → List ℕ → Type 0
Sub [] ys = Unit {0}
Sub (x ∷ xs) [] = ⊥
Sub (x ∷ xs) (y ∷ ys) = ((x ≡ y) × Sub xs ys) ⊎ Sub (x ∷ xs) ys

-- one more before the others
pub sub-skip : (xs ys : List ℕ) (y : ℕ) → Sub xs ys → Sub xs (y ∷ ys)
sub-skip [] ys y h = tt
sub-skip (x ∷ xs) ys y h = inr h

-- two lists within two
pub sub-both : (a c b d : List ℕ) → Sub a c → Sub b d → Sub (a ++ b) (c ++ d)
sub-both [] [] b d h k = k
sub-both [] (y ∷ c) b d h k = sub-skip b (c ++ d) y (sub-both [] c b d tt k)
sub-both (x ∷ a) [] b d h k = absurd h
sub-both (x ∷ a) (y ∷ c) b d (inl h) k = inl (h.0, sub-both a c b d h.1 k)
sub-both (x ∷ a) (y ∷ c) b d (inr h) k = inr (sub-both (x ∷ a) c b d h k)

-- ---- numbers that ascend

-- each is above those before it, and the first is no less than this
abbrev pub Ascends : ℕ → List ℕ → Type 0
Ascends low [] = Unit {0}
Ascends low (x ∷ xs) = (low ≤ x) × Ascends (suc x) xs

-- from a lesser bound on
lower : (l m : ℕ) (xs : List ℕ) → l ≤ m → Ascends m xs → Ascends l xs
lower l m [] less h = tt
lower l m (x ∷ xs) less h = (omega (arith, less, h.0), h.1)

-- some among them
pub sub-ascends : (low : ℕ) (xs ys : List ℕ) → Sub xs ys → Ascends low ys → Ascends low xs
sub-ascends low [] ys h k = tt
sub-ascends low (x ∷ xs) [] h k = absurd h
sub-ascends low (x ∷ xs) (y ∷ ys) (inl h) k =
    let same = h.0 in (let first = k.0 in omega (arith, first, same), sub-ascends (suc x) xs ys h.1 (subst (λ (n : ℕ). Ascends (suc n) ys) (sym same) k.1))
sub-ascends low (x ∷ xs) (y ∷ ys) (inr h) k = sub-ascends low (x ∷ xs) ys h (lower low (suc y) ys (let first = k.0 in omega (arith, first)) k.1)

-- where each is below the next
pub from-increasing : (low : ℕ) (x : ℕ) (xs : List ℕ) → low ≤ x → IsStrictlyIncreasing (x ∷ xs) → Ascends low (x ∷ xs)
from-increasing low x [] first all = (first, tt)
from-increasing low x (y ∷ ys) first all =
    let next : x < y = all 0 (omega arith) in (
      first,
      from-increasing (suc x) y ys (omega (arith, next)) (λ k less.
          subst (λ (n : ℕ). slice_index (y ∷ ys) k < slice_index (x ∷ y ∷ ys) n) (let e : suc k + 1 ≡ suc (k + 1) = omega arith in e) (all (suc k) (omega (arith, less)))),
    )

-- all of them from 0 on
all-increasing : (xs : List ℕ) → IsStrictlyIncreasing xs → Ascends 0 xs
all-increasing [] all = tt
all-increasing (x ∷ xs) all = from-increasing 0 x xs (omega arith) all

-- ---- slots

-- the offsets of the tokens that a tree keeps
abbrev pub kept : List Slot → List ℕ
kept [] = []
kept (The t ∷ ss) = t.pos.offset ∷ kept ss
kept (Sign k ∷ ss) = kept ss

-- those of two parts
pub kept-both : (a b : List Slot) → kept (a ++ b) ≡ kept a ++ kept b
kept-both [] b = refl
kept-both (The t ∷ ss) b = ap (λ (l : List ℕ). t.pos.offset ∷ l) (kept-both ss b)
kept-both (Sign k ∷ ss) b = kept-both ss b

-- they are among those of the tokens that spell it
spelled-kept : (ss : List Slot) (ts : List Token) → Spelled ss ts [] → Sub (kept ss) (map (λ (t : Token). t.pos.offset) ts)
spelled-kept [] ts h = tt
spelled-kept (s ∷ ss) [] h = absurd h
spelled-kept (The t ∷ ss) (u ∷ ts) h = inl (ap (λ (v : Token). v.pos.offset) (sym h.0), spelled-kept ss ts h.1)
spelled-kept (Sign k ∷ ss) (u ∷ ts) h = sub-skip (kept ss) (map (λ (t : Token). t.pos.offset) ts) u.pos.offset (spelled-kept ss ts h.1)

-- those of a program that was read ascend
pub kept-ascend : (p : ProgramTree) → IsRead p → Ascends 0 (kept (program_slots p))
kept-ascend p read =
    sub-ascends 0 (kept (program_slots p)) (map (λ (t : Token). t.pos.offset) read.tokens) (spelled-kept (program_slots p) read.tokens read.spells)
    (all-increasing (map (λ (t : Token). t.pos.offset) read.tokens) read.ascend)

-- ---- declarations

-- where variables are declared
abbrev places : List CopyVariable → List ℕ
places vs = map (λ (v : CopyVariable). v.name.pos.offset) vs

-- the places of all variables are among the tokens of the program
declared-kept : (p : ProgramTree) → Sub (places (declared p)) (kept (program_slots p))
declared-kept p =
    programs (λ ss vs. Sub (places vs) (kept ss)) (λ ss. tt)
    (λ a b m k f g. subst (λ (l : List ℕ). Sub l (kept (a ++ b))) (sym (map-append (λ (v : CopyVariable). v.name.pos.offset) m k))
    (subst (λ (l : List ℕ). Sub (places m ++ places k) l) (sym (kept-both a b)) (sub-both (places m) (kept a) (places k) (kept b) f g)))
    (λ s type d. inl (refl, tt)) p

-- one of those that ascend is no less than the bound
no-less : (low : ℕ) (vs : List CopyVariable) (v : CopyVariable) → Ascends low (places vs) → In v vs → low ≤ v.name.pos.offset
no-less low [] v h is = absurd is
no-less low (u ∷ us) v h (inl is) = let first = h.0 in let same = ap (λ (w : CopyVariable). w.name.pos.offset) is in omega (arith, first, same)
no-less low (u ∷ us) v h (inr is) = let first = h.0 in let later = no-less (suc u.name.pos.offset) us v h.1 is in omega (arith, first, later)

-- two at one place are one
same-place : (low : ℕ) (vs : List CopyVariable) (v w : CopyVariable) → Ascends low (places vs) → In v vs → In w vs → v.name.pos.offset ≡ w.name.pos.offset → v ≡ w
same-place low [] v w h is_v is_w same = absurd is_v
same-place low (u ∷ us) v w h (inl is_v) (inl is_w) same = sym is_v ∙ is_w
same-place low (u ∷ us) v w h (inl is_v) (inr is_w) same =
    let later = no-less (suc u.name.pos.offset) us w h.1 is_w in let here = ap (λ (x : CopyVariable). x.name.pos.offset) is_v in absurd (omega (arith, later, here, same))
same-place low (u ∷ us) v w h (inr is_v) (inl is_w) same =
    let later = no-less (suc u.name.pos.offset) us v h.1 is_v in let here = ap (λ (x : CopyVariable). x.name.pos.offset) is_w in absurd (omega (arith, later, here, same))
same-place low (u ∷ us) v w h (inr is_v) (inr is_w) same = same-place (suc u.name.pos.offset) us v w h.1 is_v is_w same

-- two variables of a program that was read are one, where their declarations stand at one offset
pub one-at : (p : ProgramTree) → IsRead p → (v w : CopyVariable) → In v (declared p) → In w (declared p) → v.name.pos.offset ≡ w.name.pos.offset → v ≡ w
one-at p read v w is_v is_w same =
    same-place 0 (declared p) v w (sub-ascends 0 (places (declared p)) (kept (program_slots p)) (declared-kept p) (kept-ascend p read)) is_v is_w same

-- ---- what is read from a source

-- the offsets of what tokens spell are their own
spelled-offsets : (ts : List Token) → map (λ (s : cut.Spelled). s.pos.offset) (map spelled ts) ≡ map (λ (t : Token). t.pos.offset) ts
spelled-offsets [] = refl
spelled-offsets (t ∷ ts) = ap (λ (l : List ℕ). t.pos.offset ∷ l) (spelled-offsets ts)

-- what the tokens of a source spell
pub parsed_are_read : ParsedAreRead
parsed_are_read source lexed limit p lexes is spells = record {
  limit = limit;
  tokens = lexed.tokens.items;
  is = is;
  spells = spells;
  ascend = subst IsStrictlyIncreasing (ap (λ (l : List cut.Spelled). map (λ (s : cut.Spelled). s.pos.offset) l) (sym lexes.reads.tokens) ∙ spelled-offsets lexed.tokens.items)
      (ascend nothing_read source lexes.cut.lexemes lexes.end [] none_yet lexes.cut.cut).rises;
}
