-- What is taken out of a queue.
use Rattle.std.proofs.Common.{◌≡◌, ◌∙◌, ◌≤◌, refl, sym, ap, arith, ℕ, zero, suc, ℤ, pos, true, false, List, [], ◌∷◌, length, map, slice_set, slice_index_or, drop}
use Rattle.snl_meaning.specs.Asking.{drained, taken_of}
use Rattle.snl_meaning.specs.declared.ties.Tied.{Tied}
use Rattle.snl_meaning.specs.Links.{no_queue, queue_of, with_elements, with_items, unflagged}
use Rattle.snl_meaning.specs.Ran.{Gives}
use Rattle.snl_meaning.specs.World.{Queue, SetMemory, World, no_copy, copy_of, overwritten}
use Rattle.snl_vm.specs.Asking.{taken_out}
use Rattle.snl_vm.specs.Queues.{is_there, oldest_to}

-- ---- lists

-- a member that is set to what it is
unchanged : {A : Type 0} (l : List A) (i : ℕ) (d : A) → slice_set l i (slice_index_or l i d) ≡ l
unchanged [] i d = refl
unchanged (x ∷ l) zero d = refl
unchanged (x ∷ l) (suc i) d = ap (λ m. x ∷ m) (unchanged l i d)

-- one that is not there is not set
pub none-set : {A B : Type 0} (view : A → B) (xs : List A) (i : ℕ) (y : B) → length xs ≤ i → slice_set (map view xs) i y ≡ map view xs
none-set view [] i y none = refl
none-set view (x ∷ xs) zero y none = absurd (omega (arith, none))
none-set view (x ∷ xs) (suc i) y none = ap (λ m. view x ∷ m) (none-set view xs i y (omega (arith, none)))

-- a queue that holds an item is there, and so is what stands in its place
set-there : (l : List Queue) (i : ℕ) (q : Queue) → is_there (slice_index_or l i no_queue).items ≡ true → slice_index_or (slice_set l i q) i no_queue ≡ q
set-there [] i q some = absurd (cc)
set-there (x ∷ l) zero q some = refl
set-there (x ∷ l) (suc i) q some = set-there l i q some

-- ---- the world

-- the oldest item stands in a copy, and the others are left, where there was one
pub taken-is : (set place link : ℕ) (items : List (List ℤ)) (w : World) → (queue_of link w).items ≡ items →
    record w {
      copies = slice_set w.copies set (record (copy_of set w) { words = oldest_to items place (copy_of set w).words });
      queues = slice_set w.queues link (record (queue_of link w) { items = drop 1 items });
    } ≡ taken_out set place link items w
taken-is set place link [] w has =
    let queues = ap (λ (is : List (List ℤ)). slice_set w.queues link (record (queue_of link w) { items = is })) (sym has) ∙ unchanged w.queues link no_queue in
    λ j. record w { copies = unchanged w.copies set no_copy j; queues = queues j }
taken-is set place link (item ∷ more) w has = refl

-- the same where there is no copy
pub skipped-is : (set place link : ℕ) (items : List (List ℤ)) (w : World) → (queue_of link w).items ≡ items → ((c : SetMemory) → slice_set w.copies set c ≡ w.copies) →
    record w { queues = slice_set w.queues link (record (queue_of link w) { items = drop 1 items }) } ≡ taken_out set place link items w
skipped-is set place link [] w has outside =
    let queues = ap (λ (is : List (List ℤ)). slice_set w.queues link (record (queue_of link w) { items = is })) (sym has) ∙ unchanged w.queues link no_queue in
    λ j. record w { queues = queues j }
skipped-is set place link (item ∷ more) w has outside =
    let there = sym (outside (record (copy_of set w) { words = overwritten (copy_of set w).words place item })) in
    λ j. record w { copies = there j; queues = slice_set w.queues link (record (queue_of link w) { items = more }) }

-- where nothing was, nothing is taken
pub taken-none : (set place link : ℕ) (t : Tied) (items : List (List ℤ)) (w u : World) → false ≡ is_there items → u ≡ taken_out set place link items w →
    taken_of set place link t items w ≡ Gives (pos 0) (unflagged t.flag u) []
taken-none set place link t [] w u none is = ap (λ (v : World). Gives (pos 0) (unflagged t.flag v) []) (sym is)
taken-none set place link t (item ∷ more) w u none is = absurd (cc)

-- and where something was, the flag is cleared if nothing is left
pub taken-some : (set place link : ℕ) (t : Tied) (items : List (List ℤ)) (w u : World) → (queue_of link w).items ≡ items → true ≡ is_there items → u ≡ taken_out set place link items w →
    taken_of set place link t items w ≡ Gives (pos 1) (drained t.flag (queue_of link u).items u) []
taken-some set place link t [] w u has some is = absurd (cc)
taken-some set place link t (item ∷ more) w u has some is =
    let v = with_items link more (with_elements set place item w) in
    let left = set-there w.queues link (record (queue_of link w) { items = more }) (ap is_there has) in
    ap (λ (q : Queue). Gives (pos 1) (drained t.flag q.items v) []) (sym left)
    ∙ ap (λ (x : World). Gives (pos 1) (drained t.flag (queue_of link x).items x) []) (sym is)
