-- Laws of the lines that are written: each is an event.
use Rattle.std.proofs.Common.{◌≡◌, ◌≤◌, ◌+◌, ◌<◌, ◌^◌, ℕ, ℤ, Bool, true, false, List, [], ◌∷◌, ◌++◌, length, take, map, refl, sym, ap, subst, arith, length-append, codes, decimal, nat_le, pos, negsuc, FitsSigned, w64, Result, Ok, Err, OnOk}
use Rattle.std.specs.Bool.{OnTrue}
use Rattle.std.specs.Result.{IsOk}
use Rattle.std.proofs.lemmas.Bool.{leb-true}
use Rattle.std.specs.Fmt.{signed_decimal}
use Rattle.std.specs.List.{All, flat_map}
use Rattle.snl_trace.specs.Grammar.{Told, Up, Down, Val}
use Rattle.snl_written.specs.Written.{is_name, spaced, up_line, down_line, values_line}
use Rattle.snl_written.specs.Events.{IsEventLine, IsValue}
use Rattle.snl_written.proofs.EventLaws.{lines-are-events}

-- the line of a name that is up
pub up-is : (ms : ℕ) (name text : List ℕ) → ms ≤ 10 ^ 15 → is_name name ≡ true → length name ≤ 32000 → text ≡ up_line ms name → IsEventLine text ms (Up name)
up-is ms name text early good short is = subst (λ t. IsEventLine t ms (Up name)) (sym is) ((lines-are-events ms early).1 name good short).up

-- the line of a name that is down
pub down-is : (ms : ℕ) (name text : List ℕ) → ms ≤ 10 ^ 15 → is_name name ≡ true → length name ≤ 32000 → text ≡ down_line ms name → IsEventLine text ms (Down name)
down-is ms name text early good short is = subst (λ t. IsEventLine t ms (Down name)) (sym is) ((lines-are-events ms early).1 name good short).down

-- a line has one byte more than its words
line-longer : (time words : List ℕ) → length (time ++ (words ++ 10 ∷ [])) ≡ length (time ++ words) + 1
line-longer time words = omega (arith, length-append time (words ++ 10 ∷ []), length-append words (10 ∷ []), length-append time words)

-- the line of values
pub values-are : (ms : ℕ) (name : List ℕ) (values : List ℤ) (text : List ℕ) → ms ≤ 10 ^ 15 → is_name name ≡ true → 0 < length values → All IsValue values →
    text ≡ values_line ms name values → length text ≤ 32769 → IsEventLine text ms (Val name (take 1024 values))
values-are ms name [] text early good some small is short = absurd (omega arith)
values-are ms name (value ∷ more) text early good some small is short =
    let longer = line-longer (decimal ms) (flat_map spaced (codes "val" ∷ name ∷ map signed_decimal (value ∷ more))) in
    subst (λ t. IsEventLine t ms (Val name (take 1024 (value ∷ more)))) (sym is)
    ((lines-are-events ms early).2 name good value more small (omega (arith, longer, ap length is)))

-- the line of an event has a byte
pub event-longer : (text : List ℕ) (ms : ℕ) (told : Told) → IsEventLine text ms told → 0 < length text
event-longer text ms told event = omega (arith, ap length event.is, length-append event.line (10 ∷ []))

-- a number that fits 64 bits is a value
pub fits-value : (z : ℤ) → FitsSigned w64 z → IsValue z
fits-value (pos n) fits = omega (arith, fits.sfits)
fits-value (negsuc n) fits = omega (arith, fits.sfits)

-- what holds where a test passes
pub on_test : (b : Bool) (P : Type 0) → (b ≡ true → P) → OnTrue b P
on_test true P holds = holds refl
on_test false P holds = tt

-- a line that is short enough is that of values
pub on-short : (size : ℕ) (P : Type 0) → (size ≤ 32769 → P) → OnTrue (nat_le size 32769) P
on-short size P short = on_test (nat_le size 32769) P (λ fits. short (leb-true size 32769 fits))

-- what holds where a test passes, where it does
pub where_passed : (b : Bool) (P : Type 0) → OnTrue b P → b ≡ true → P
where_passed true P holds passed = holds
where_passed false P holds passed = absurd (cc)

-- what holds where a call succeeds, where it does
pub where_ok : {A E : Type 0} (r : Result A E) (P : Type 0) → IsOk r → OnOk r P → P
where_ok (Ok done) P is holds = holds
where_ok (Err fault) P is holds = absurd (cc)
