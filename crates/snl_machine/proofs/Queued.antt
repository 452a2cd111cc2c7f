-- Queues hold what their links' types have.
use Rattle.std.proofs.Common.{◌≡◌, ◌∙◌, ◌+◌, ◌-◌, ◌<◌, ◌≤◌, ◌⊎◌, inl, inr, refl, sym, ap, subst, arith, ℕ, zero, suc, ℤ, pos, Bool, true, false, nat_lt, List, [], ◌∷◌, ◌++◌, Some, slice_get, slice_set, slice_index_or, length, length-append, take, if◌then◌else◌}
use Rattle.std.specs.Prelude.{All}
use Rattle.std.proofs.lemmas.Bool.{ltb-true, ltb-false}
use Rattle.std.proofs.lemmas.List.{length-take-le}
use Rattle.std.proofs.lemmas.List.Elements.{All-nil, All-cons, All-append, All-take, All-drop}
use Rattle.snl_machine.specs.Ranges.{ItemFits, QueueFits, QueuesFit}
use Rattle.snl_meaning.specs.declared.ties.Tied.{Tied}
use Rattle.snl_meaning.specs.Links.{no_queue, put_into}
use Rattle.snl_meaning.specs.Queues.{kept}
use Rattle.snl_meaning.specs.World.{Queue, words_at}
use Rattle.snl_schedule.specs.Arrivals.{is_in}

-- ---- words

-- so many words from a place on
pub length-words : (l : List ℤ) (p n : ℕ) → length (words_at l p n) ≡ n
length-words l p zero = refl
length-words l p (suc n) = ap suc (length-words l (suc p) n)

-- one of them
pub word-at : (l : List ℤ) (p n j : ℕ) (d : ℤ) → j < n → slice_index_or (words_at l p n) j d ≡ slice_index_or l (p + j) (pos 0)
word-at l p zero j d less = absurd (omega (arith, less))
word-at l p (suc n) zero d less = ap (λ (q : ℕ). slice_index_or l q (pos 0)) (let e : p ≡ p + 0 = omega arith in e)
word-at l p (suc n) (suc j) d less =
    word-at l (suc p) n j d (omega (arith, less)) ∙ ap (λ (q : ℕ). slice_index_or l q (pos 0)) (let e : suc p + j ≡ p + suc j = omega arith in e)

-- as many words as a link has elements are an item of it, if its type has each
pub words-fit : (t : Tied) (l : List ℤ) (p n : ℕ) → n ≡ t.count → ((j : ℕ) → j < t.count → is_in t (slice_index_or l (p + j) (pos 0)) ≡ true) → ItemFits t (words_at l p n)
words-fit t l p n many has = (
  length-words l p n ∙ many,
  λ j d less.
      let few : j < n = omega (arith, less, length-words l p n) in
      let within : j < t.count = omega (arith, few, many) in
      subst (λ (z : ℤ). is_in t z ≡ true) (sym (word-at l p n j d few)) (has j within),
)

-- ---- one queue

-- one item more
put-queue : (t : Tied) (q : Queue) (words : List ℤ) (place : ℕ) → 0 < q.size → ((j : ℕ) → j < t.count → is_in t (slice_index_or words (place + j) (pos 0)) ≡ true) →
    QueueFits t q → QueueFits t (put_into words place q)
put-queue t q words place some has fits = record { width = fits.width; few = held.0; items = held.1 }
  where
    item : List ℤ
    item = words_at words place q.width

    newest : All (ItemFits t) (item ∷ [])
    newest = All-cons (ItemFits t) item [] (words-fit t words place q.width fits.width has) (All-nil (ItemFits t))

    by : (b : Bool) → nat_lt (length q.items) q.size ≡ b →
        (length ((if b then q.items else take (length q.items - 1) q.items) ++ item ∷ []) ≤ q.size)
        × All (ItemFits t) ((if b then q.items else take (length q.items - 1) q.items) ++ item ∷ [])
    by true free =
        let less : length q.items < q.size = ltb-true (length q.items) q.size free in
        (omega (arith, less, length-append q.items (item ∷ [])), All-append (ItemFits t) q.items (item ∷ []) fits.items newest)
    by false full =
        let n = length q.items - 1 in
        let not_less : q.size ≤ length q.items = ltb-false (length q.items) q.size full in
        let within : n ≤ length q.items = omega arith in
        let long = length-take-le n q.items within in
        let most = fits.few in (
          omega (arith, some, not_less, most, long, length-append (take n q.items) (item ∷ [])),
          All-append (ItemFits t) (take n q.items) (item ∷ []) (All-take (ItemFits t) n q.items fits.items) newest,
        )

    held : (length (kept q.size q.items ++ item ∷ []) ≤ q.size) × All (ItemFits t) (kept q.size q.items ++ item ∷ [])
    held = by (nat_lt (length q.items) q.size) refl

-- ---- all queues

-- a queue among those of which one was replaced: as it was, or the new one, where there was one
get-set : (l : List Queue) (p i : ℕ) (x y : Queue) → slice_get (slice_set l p x) i ≡ Some y →
    (slice_get l i ≡ Some y) ⊎ ((p ≡ i) × (y ≡ x) × (slice_get l i ≡ Some (slice_index_or l i no_queue)))
get-set [] p i x y at = inl at
get-set (a ∷ l) zero zero x y at = inr (refl, (let same : x ≡ y = cc in sym same), refl)
get-set (a ∷ l) zero (suc i) x y at = inl at
get-set (a ∷ l) (suc p) zero x y at = inl at
get-set (a ∷ l) (suc p) (suc i) x y at = by (get-set l p i x y at)
  where
    by : (slice_get l i ≡ Some y) ⊎ ((p ≡ i) × (y ≡ x) × (slice_get l i ≡ Some (slice_index_or l i no_queue))) →
        (slice_get l i ≡ Some y) ⊎ ((suc p ≡ suc i) × (y ≡ x) × (slice_get l i ≡ Some (slice_index_or l i no_queue)))
    by (inl same) = inl same
    by (inr new) = inr (ap suc new.0, new.1, new.2)

-- one is replaced
queue-changes : (ties : List Tied) (queues : List Queue) (link : ℕ) (new : Queue) →
    ((t : Tied) → slice_get ties link ≡ Some t → QueueFits t (slice_index_or queues link no_queue) → QueueFits t new) → QueuesFit ties queues → QueuesFit ties (slice_set queues link new)
queue-changes ties queues link new change fits i t q is at = by (get-set queues link i new q at)
  where
    by : (slice_get queues i ≡ Some q) ⊎ ((link ≡ i) × (q ≡ new) × (slice_get queues i ≡ Some (slice_index_or queues i no_queue))) → QueueFits t q
    by (inl same) = fits i t q is same
    by (inr this) =
        let old = subst (λ (n : ℕ). QueueFits t (slice_index_or queues n no_queue)) (sym this.0) (fits i t (slice_index_or queues i no_queue) is this.2) in
        subst (QueueFits t) (sym this.1) (change t (ap (slice_get ties) this.0 ∙ is) old)

-- words of a link come to its queue
pub put-fits : (ties : List Tied) (queues : List Queue) (link : ℕ) (t : Tied) (words : List ℤ) (place : ℕ) → nat_lt 0 (slice_index_or queues link no_queue).size ≡ true →
    slice_get ties link ≡ Some t → ((j : ℕ) → j < t.count → is_in t (slice_index_or words (place + j) (pos 0)) ≡ true) → QueuesFit ties queues →
    QueuesFit ties (slice_set queues link (put_into words place (slice_index_or queues link no_queue)))
put-fits ties queues link t words place queued at has fits =
    let q = slice_index_or queues link no_queue in
    queue-changes ties queues link (put_into words place q)
    (λ u is old.
    let one : Some t ≡ Some u = sym at ∙ is in
    let same : t ≡ u = cc in
    subst (λ (x : Tied). QueueFits x (put_into words place q)) same
    (put-queue t q words place (ltb-true 0 q.size queued) has (subst (λ (x : Tied). QueueFits x q) (sym same) old))) fits

-- a queue that holds an item is there
queue-there : (queues : List Queue) (link : ℕ) (item : List ℤ) (more : List (List ℤ)) → (slice_index_or queues link no_queue).items ≡ item ∷ more →
    slice_get queues link ≡ Some (slice_index_or queues link no_queue)
queue-there [] link item more has = absurd (cc)
queue-there (q ∷ queues) zero item more has = refl
queue-there (q ∷ queues) (suc link) item more has = queue-there queues link item more has

-- the oldest item of a queue
pub oldest-fits : (ties : List Tied) (queues : List Queue) (link : ℕ) (t : Tied) (item : List ℤ) (more : List (List ℤ)) → slice_get ties link ≡ Some t →
    (slice_index_or queues link no_queue).items ≡ item ∷ more → QueuesFit ties queues → ItemFits t item
oldest-fits ties queues link t item more at has fits =
    let q = slice_index_or queues link no_queue in
    let old = fits link t q at (queue-there queues link item more has) in
    let all = subst (All (ItemFits t)) has old.items in
    all 0 item (omega arith)

-- the others
pub rest-fits : (ties : List Tied) (queues : List Queue) (link : ℕ) (item : List ℤ) (more : List (List ℤ)) → (slice_index_or queues link no_queue).items ≡ item ∷ more →
    QueuesFit ties queues → QueuesFit ties (slice_set queues link (record (slice_index_or queues link no_queue) { items = more }))
rest-fits ties queues link item more has fits =
    let q = slice_index_or queues link no_queue in
    queue-changes ties queues link (record q { items = more })
    (λ t is old. let most = old.few in let one = ap length has in record {
      width = old.width;
      few = omega (arith, most, one);
      items = All-drop (ItemFits t) 1 (item ∷ more) (subst (All (ItemFits t)) has old.items);
    }) fits

-- one that holds nothing
pub none-fits : (ties : List Tied) (queues : List Queue) (link : ℕ) → QueuesFit ties queues →
    QueuesFit ties (slice_set queues link (record (slice_index_or queues link no_queue) { items = [] }))
none-fits ties queues link fits =
    queue-changes ties queues link (record (slice_index_or queues link no_queue) { items = [] })
    (λ t is old. record { width = old.width; few = omega arith; items = All-nil (ItemFits t) }) fits
