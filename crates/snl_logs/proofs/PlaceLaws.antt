-- Laws of digits whose point is moved.
use Rattle.std.proofs.Common.{◌≡◌, ◌≤◌, ◌<◌, ◌+◌, ◌-◌, ◌*◌, ◌^◌, ℕ, zero, suc, List, [], ◌∷◌, ◌++◌, length, take, drop, min, get_or, refl, sym, ap, ◌∙◌, subst, arith, nat_le, if◌then◌else◌, Option, None, Some, IfNone}
use Rattle.std.proofs.Math.Nat.{pow-suc}
use Rattle.std.proofs.Math.Seq.{drop-cons}
use Rattle.snl_logs.specs.Places.{number_behind, front_of, is_half, rounded}

-- digits behind digits
pub behind-append : (number : ℕ) (xs ys : List ℕ) → number_behind number (xs ++ ys) ≡ number_behind (number_behind number xs) ys
behind-append number [] ys = refl
behind-append number (x ∷ xs) ys = behind-append (number * 10 + (x - 48)) xs ys

-- digits make a number no smaller
pub behind-grows : (number : ℕ) (xs : List ℕ) → number ≤ number_behind number xs
behind-grows number [] = omega arith
behind-grows number (x ∷ xs) = omega (arith, behind-grows (number * 10 + (x - 48)) xs)

-- so do zeros
pub zeros-grow : (number zeros : ℕ) → number ≤ number * 10 ^ zeros
zeros-grow number zero = omega arith
zeros-grow number (suc zeros) = rw (pow-suc) (omega (arith, zeros-grow number zeros))

-- the front of one piece
front-alone : (places k : ℕ) (f : List ℕ) → k ≡ min (length f) places → take k f ≡ take places f
front-alone zero k f end = let none : k ≡ 0 = omega (arith, end) in rw none refl
front-alone (suc places) k [] end = let none : k ≡ 0 = omega (arith, end) in rw none refl
front-alone (suc places) zero (x ∷ f) end = absurd (omega (arith, end))
front-alone (suc places) (suc k) (x ∷ f) end = ap (λ z. x ∷ z) (front-alone places k f (omega (arith, end)))

-- what stands first behind it
next-alone : (places k : ℕ) (f : List ℕ) → k ≡ min (length f) places → get_or (drop k f) 0 48 ≡ get_or f places 48
next-alone places k [] end = let none : k ≡ 0 = omega (arith, end) in rw none refl
next-alone zero k (x ∷ f) end = let none : k ≡ 0 = omega (arith, end) in rw none refl
next-alone (suc places) zero (x ∷ f) end = absurd (omega (arith, end))
next-alone (suc places) (suc k) (x ∷ f) end = next-alone places k f (omega (arith, end))

-- the front of two pieces
pub front-parts : (places m k : ℕ) (w f : List ℕ) → m ≡ min (length w) places → k ≡ min (length f) (places - m) → take m w ++ take k f ≡ take places (w ++ f)
front-parts places m k [] f mid end =
    let none : m ≡ 0 = omega (arith, mid) in
    let all : k ≡ min (length f) places = omega (arith, end, none) in
    rw none (front-alone places k f all)
front-parts zero m k (x ∷ w) f mid end =
    let none : m ≡ 0 = omega (arith, mid) in
    let no_more : k ≡ 0 = omega (arith, end) in
    rw (none, no_more) refl
front-parts (suc places) zero k (x ∷ w) f mid end = absurd (omega (arith, mid))
front-parts (suc places) (suc m) k (x ∷ w) f mid end =
    ap (λ z. x ∷ z) (front-parts places m k w f (omega (arith, mid)) (omega (arith, end)))

-- what stands first behind them
pub next-parts : (places m k : ℕ) (w f : List ℕ) → m ≡ min (length w) places → k ≡ min (length f) (places - m) → get_or (drop m w ++ drop k f) 0 48 ≡ get_or (w ++ f) places 48
next-parts places m k [] f mid end =
    let none : m ≡ 0 = omega (arith, mid) in
    let all : k ≡ min (length f) places = omega (arith, end, none) in
    rw none (next-alone places k f all)
next-parts zero m k (x ∷ w) f mid end =
    let none : m ≡ 0 = omega (arith, mid) in
    rw none refl
next-parts (suc places) zero k (x ∷ w) f mid end = absurd (omega (arith, mid))
next-parts (suc places) (suc m) k (x ∷ w) f mid end = next-parts places m k w f (omega (arith, mid)) (omega (arith, end))

-- a digit that makes a number too large makes that of all digits too large
pub digits-none : (most whole number i : ℕ) (digits : List ℕ) → i < length digits → number_behind number (drop i digits) ≡ whole → most ≤ number * 10 + (get_or digits i 0 - 48) → most ≤ whole
digits-none most whole number i digits within is large =
    let more = number * 10 + (get_or digits i 0 - 48) in
    let same : whole ≡ number_behind more (drop (suc i) digits) = sym is ∙ ap (number_behind number) (drop-cons digits i 0 within) in
    omega (arith, same, behind-grows more (drop (suc i) digits))

-- a zero less is left behind a number with a zero more
pub zero-more : (number zeros i : ℕ) → i < zeros → number * 10 * 10 ^ (zeros - (i + 1)) ≡ number * 10 ^ (zeros - i)
zero-more number zeros i within =
    let next : zeros - i ≡ suc (zeros - (i + 1)) = omega (arith, within) in
    rw (next, pow-suc) (omega arith)

-- a zero that makes a number too large
pub zeros-none : (most whole number zeros i : ℕ) → i < zeros → number * 10 ^ (zeros - i) ≡ whole → most ≤ number * 10 → most ≤ whole
zeros-none most whole number zeros i within is large = omega (arith, sym is ∙ sym (zero-more number zeros i within), zeros-grow (number * 10) (zeros - (i + 1)))

-- no zero is left
pub zeros-done : (whole number zeros i : ℕ) → zeros ≤ i → number * 10 ^ (zeros - i) ≡ whole → number ≡ whole
zeros-done whole number zeros i over is = let none : zeros - i ≡ 0 = omega (arith, over) in omega (arith, rw none at is)

-- what is cut is what its parts make
pub parts-rounded : (digits first second : List ℕ) (places zeros next size : ℕ) → first ++ second ≡ take places digits → zeros ≡ places - length digits → next ≡ get_or digits places 48 →
    size ≡ number_behind (number_behind 0 first) second * 10 ^ zeros → size + (if nat_le 53 next then 1 else 0) ≡ rounded digits places
parts-rounded digits first second places zeros next size front left ahead is =
    let number : number_behind (number_behind 0 first) second ≡ number_behind 0 (take places digits) = sym (behind-append 0 first second) ∙ ap (number_behind 0) front in
    ap (λ n. size + (if nat_le 53 n then 1 else 0)) ahead
    ∙ ap (λ n. n + (if nat_le 53 (get_or digits places 48) then 1 else 0)) (is ∙ (ap (λ n. n * 10 ^ zeros) number ∙ ap (λ z. number_behind 0 (take places digits) * 10 ^ z) left))

-- it is no smaller than the number of its parts
pub parts-large : (digits first second : List ℕ) (places zeros : ℕ) → first ++ second ≡ take places digits → zeros ≡ places - length digits →
    number_behind (number_behind 0 first) second * 10 ^ zeros ≤ rounded digits places
parts-large digits first second places zeros front left =
    let same = parts-rounded digits first second places zeros (get_or digits places 48) (number_behind (number_behind 0 first) second * 10 ^ zeros) front left refl refl in
    omega (arith, same)

-- nor than that of the front of them
pub front-large : (digits first second : List ℕ) (places zeros : ℕ) → first ++ second ≡ take places digits → zeros ≡ places - length digits →
    number_behind (number_behind 0 first) second ≤ rounded digits places
front-large digits first second places zeros front left =
    omega (arith, parts-large digits first second places zeros front left, zeros-grow (number_behind (number_behind 0 first) second) zeros)

-- where there is no answer, what is said of that holds
pub if_none : {A : Type 0} (r : Option A) (P : Type 0) → P → IfNone r P
if_none None P holds = holds
if_none (Some x) P holds = tt
