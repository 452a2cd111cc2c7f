-- Laws of the values that are kept of the fields of a line.
use Rattle.std.proofs.Common.{◌≡◌, ℕ, zero, suc, subst, length-append, length-take, ◌<◌, ◌≤◌, List, [], ◌∷◌, ◌++◌, Option, None, Some, Result, Ok, Err, ℤ, length, take, refl, ap, ◌∙◌, arith, append_assoc}
use Rattle.std.specs.Option.{option_map}
use Rattle.std.proofs.lemmas.List.{append-nil, take-append-le, take_all}
use Rattle.snl_trace.specs.declared.trace_faults.TraceFault.{TraceFault}
use Rattle.snl_trace.specs.declared.trace_faults.TraceFault.TheVariants.{FieldCount, BadValue}
use Rattle.snl_trace.specs.Numbers.{spelled_value}
use Rattle.snl_trace.specs.Grammar.{values_of, put_first, kept, kept_values}

-- what the fields that are left make of the values so far
unfoldable pub kept_after : List ℤ → List (List ℕ) → Result (List ℤ) TraceFault
kept_after items fields = kept (option_map (λ values. items ++ values) (values_of fields))

-- with none kept before, those of the fields are kept
pub kept_after_start : (fields : List (List ℕ)) → kept_after [] fields ≡ kept (values_of fields)
unfolding kept_after
kept_after_start fields = elim (values_of fields) as (λ o. kept (option_map (λ values. [] ++ values) o) ≡ kept o) [ None ↦ refl | Some values ↦ refl ]

-- a field that is no value is the fault, whatever was kept
pub kept_after_bad : (items : List ℤ) (field : List ℕ) (rest : List (List ℕ)) → spelled_value field ≡ None → kept_after items (field ∷ rest) ≡ Err BadValue
unfolding kept_after values_of
kept_after_bad items field rest bad = rw bad refl

-- as many as fit of the first, and then more
take_front : (n : ℕ) (xs ys : List ℤ) → take n (take n xs ++ ys) ≡ take n (xs ++ ys)
take_front zero xs ys = refl
take_front (suc n) [] ys = refl
take_front (suc n) (x ∷ xs) ys = ap (λ z. x ∷ z) (take_front n xs ys)

-- a field that is a value is kept where there is room
pub kept_after_more : (items : List ℤ) (field : List ℕ) (rest : List (List ℕ)) (value : ℤ) → spelled_value field ≡ Some value
    → kept_after (take 1024 (items ++ value ∷ [])) rest ≡ kept_after items (field ∷ rest)
unfolding kept_after values_of
kept_after_more items field rest value is =
    rw is (
    elim (values_of rest) as (λ o. kept (option_map (λ values. take 1024 (items ++ value ∷ []) ++ values) o) ≡ kept (option_map (λ values. items ++ values) (put_first (Some value) o))) [
      | None ↦ refl
      | Some values ↦ ap (λ all. Ok all) (take_front 1024 (items ++ value ∷ []) values ∙ ap (λ all. take 1024 all) (append_assoc items (value ∷ []) values))
    ]
    )

-- the first n are at most n
pub take-within : (n : ℕ) (xs : List ℤ) → length (take n xs) ≤ n
take-within n xs = omega (arith, length-take n xs)

-- a value more, with room for it and without
pub take_room : (items : List ℤ) (value : ℤ) → length items < 1024 → take 1024 (items ++ value ∷ []) ≡ items ++ value ∷ []
take_room items value room = take_all 1024 (items ++ value ∷ []) (omega (arith, length-append items (value ∷ [])))

-- of more than 1,024 values the first ones stay
pub take_full : (items : List ℤ) (value : ℤ) → length items ≡ 1024 → take 1024 (items ++ value ∷ []) ≡ items
take_full items value full = take-append-le 1024 items (value ∷ []) (omega arith) ∙ take_all 1024 items (omega arith)

-- after the last field those are kept that were
pub kept_after_end : (items : List ℤ) → length items ≤ 1024 → kept_after items [] ≡ Ok items
unfolding kept_after values_of
kept_after_end items within = ap (λ all. Ok all) (ap (λ all. take 1024 all) (append-nil items) ∙ take_all 1024 items within)

-- a fault of a value is that of the fields
pub kept_values_bad : (fields : List (List ℕ)) (fault : TraceFault) → kept (values_of fields) ≡ Err fault → kept_values fields ≡ Err fault
unfolding values_of
kept_values_bad [] fault is = cc
kept_values_bad (field ∷ rest) fault is = is

-- a result is a fault
is_fault : {A : Type 0} → Result A TraceFault → Type 0
is_fault (Ok value) = ⊥
is_fault (Err fault) = Unit {0}

-- a fault is no value
err_ok : {A : Type 0} {fault : TraceFault} {value : A} → Err fault ≡ Ok value → ⊥
unfolding is_fault
err_ok {A} e = subst (is_fault {A = A}) e tt

-- some values are kept of some fields
some_kept : (first : Option ℤ) (rest : Option (List ℤ)) (items : List ℤ) → kept (put_first first rest) ≡ Ok items → length items ≡ 0 → ⊥
some_kept None rest items is none = absurd (err_ok is)
some_kept (Some value) None items is none = absurd (err_ok is)
some_kept (Some value) (Some values) items is none =
    let same : take 1024 (value ∷ values) ≡ items = cc in
    omega (arith, ap length same, length-take 1024 (value ∷ values))

-- with no value there was no field
pub kept_values_none : (fields : List (List ℕ)) (items : List ℤ) → kept (values_of fields) ≡ Ok items → length items ≡ 0 → kept_values fields ≡ Err FieldCount
unfolding values_of
kept_values_none [] items is none = refl
kept_values_none (field ∷ rest) items is none = absurd (some_kept (spelled_value field) (values_of rest) items is none)

-- with a value there was one
pub kept_values_some : (fields : List (List ℕ)) (items : List ℤ) → kept (values_of fields) ≡ Ok items → 0 < length items → kept_values fields ≡ Ok items
unfolding values_of
kept_values_some [] items is more = absurd (let same : take 1024 [] ≡ items = cc in omega (arith, ap length same))
kept_values_some (field ∷ rest) items is more = is
