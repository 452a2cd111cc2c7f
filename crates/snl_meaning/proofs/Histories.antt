-- What is taken out of a queue came to it, in that order.
use Rattle.std.proofs.Common.{◌≡◌, ◌∙◌, ◌+◌, ◌-◌, ◌<◌, ◌≤◌, refl, sym, ap, subst, arith, ℕ, suc, ℤ, Bool, true, false, nat_lt, List, [], ◌∷◌, ◌++◌, length, length-append, take, drop, append_assoc, if◌then◌else◌}
use Rattle.std.proofs.lemmas.Bool.{ltb-true, ltb-false}
use Rattle.std.proofs.lemmas.List.{take-append-drop, length-take-le}
use Rattle.snl_meaning.specs.Histories.{Items, IsPartOf, Nothing, Kept, Missed, Begins, Comes, IsTaken, QueuesKeepOrder}
use Rattle.snl_meaning.specs.Queues.{put_in}

-- one more at both ends
part-more : (xs ys : Items) (item : List ℤ) → IsPartOf xs ys → IsPartOf (xs ++ item ∷ []) (ys ++ item ∷ [])
part-more _ _ item Nothing = Kept item [] [] Nothing
part-more _ _ item (Kept x xs ys h) = Kept x (xs ++ item ∷ []) (ys ++ item ∷ []) (part-more xs ys item h)
part-more _ _ item (Missed x xs ys h) = Missed x (xs ++ item ∷ []) (ys ++ item ∷ []) (part-more xs ys item h)

-- nothing is part of all
part-nothing : (ys : Items) → IsPartOf [] ys
part-nothing [] = Nothing
part-nothing (y ∷ ys) = Missed y [] ys (part-nothing ys)

-- a front of a part is a part
part-front : (xs zs all ys : Items) → all ≡ xs ++ zs → IsPartOf all ys → IsPartOf xs ys
part-front [] zs all ys is h = part-nothing ys
part-front (x ∷ xs) zs _ _ is Nothing = absurd (cc)
part-front (x ∷ xs) zs _ _ is (Kept i cs ys k) =
    let one : i ≡ x = cc in
    let rest : cs ≡ xs ++ zs = cc in
    subst (λ (z : List ℤ). IsPartOf (x ∷ xs) (z ∷ ys)) (sym one) (Kept x xs ys (part-front xs zs cs ys rest k))
part-front (x ∷ xs) zs _ _ is (Missed i cs ys k) = Missed i (x ∷ xs) ys (part-front (x ∷ xs) zs cs ys is k)

-- one item more: where the queue is full it stands in the place of the newest
comes : (size : ℕ) (came taken held : Items) (late : ℕ) (item : List ℤ) → 0 < size → IsPartOf (taken ++ held) came → length taken + length held + late ≡ length came →
    IsPartOf (taken ++ put_in size item held) (came ++ item ∷ [])
    × (length taken + length (put_in size item held) + (if nat_lt (length held) size then late else suc late) ≡ length (came ++ item ∷ []))
comes size came taken held late item some part count = by (nat_lt (length held) size) refl
  where
    newest : Items
    newest = item ∷ []

    by : (b : Bool) → nat_lt (length held) size ≡ b →
        IsPartOf (taken ++ ((if b then held else take (length held - 1) held) ++ newest)) (came ++ newest)
        × (length taken + length ((if b then held else take (length held - 1) held) ++ newest) + (if b then late else suc late) ≡ length (came ++ newest))
    by true free = (
      subst (λ (l : Items). IsPartOf l (came ++ newest)) (append_assoc taken held newest) (part-more (taken ++ held) came item part),
      omega (arith, count, length-append held newest, length-append came newest),
    )
    by false full =
        let at_least : size ≤ length held = ltb-false (length held) size full in
        let n = length held - 1 in
        let front = take n held in
        let back = drop n held in
        let whole : taken ++ held ≡ (taken ++ front) ++ back = ap (λ (l : Items). taken ++ l) (sym (take-append-drop n held)) ∙ sym (append_assoc taken front back) in
        let older : IsPartOf (taken ++ front) came = part-front (taken ++ front) back (taken ++ held) came whole part in
        let long : length front ≡ n = length-take-le n held (omega arith) in (
          subst (λ (l : Items). IsPartOf l (came ++ newest)) (append_assoc taken front newest) (part-more (taken ++ front) came item older),
          omega (arith, count, at_least, some, long, length-append front newest, length-append came newest),
        )

-- so it is of each queue
pub queues_keep_order : QueuesKeepOrder
queues_keep_order size _ _ _ _ Begins some = (Nothing, refl)
queues_keep_order size _ _ _ _ (Comes came taken held late item h) some =
    let before = queues_keep_order size came taken held late h some in
    comes size came taken held late item (ltb-true 0 size some) before.0 before.1
queues_keep_order size _ _ _ _ (IsTaken came taken held late item h) some =
    let before = queues_keep_order size came taken (item ∷ held) late h some in (
      subst (λ (l : Items). IsPartOf l came) (sym (append_assoc taken (item ∷ []) held)) before.0,
      omega (arith, before.1, length-append taken (item ∷ [])),
    )
