-- Before the first event all variables hold what their types have.
use Rattle.std.proofs.Common.{◌≡◌, ◌∙◌, ◌+◌, ◌<◌, ◌≤◌, ◌⊎◌, inl, inr, refl, sym, ap, subst, arith, ℕ, zero, suc, ℤ, pos, Bool, true, false, List, [], ◌∷◌, ◌++◌, Option, None, Some, slice_get, length, length-append, map, append_assoc, if◌then◌else◌}
use Rattle.std.specs.Prelude.{◌&&◌, ◌-◌, ◌^◌, int_le, replicate, slice_index_or}
use Rattle.std.specs.List.{flat_map}
use Rattle.snl_syntax.specs.Expressions.{ExprTree}
use Rattle.snl_syntax.specs.Programs.{StateSetTree, ProgramTree}
use Rattle.snl_channels.specs.Links.{Link}
use Rattle.std.proofs.lemmas.List.Elements.{All-nil}
use Rattle.snl_machine.specs.Ranges.{Has, Fit, AllFit, IsSized, ItemFits, QueueFits, QueuesFit, counts, FirstHolds}
use Rattle.snl_meaning.specs.declared.instrs.Variable.{Variable}
use Rattle.snl_meaning.specs.declared.names.Placed.{Placed}
use Rattle.snl_meaning.specs.Effect.{values_of}
use Rattle.snl_meaning.specs.Names.{behind, variable_from, placed_from, words_of, place_after}
use Rattle.snl_meaning.specs.World.{SetMemory, no_copy, copy_of}
use Rattle.snl_flat.specs.Copies.{held_sets}
use Rattle.snl_flat.specs.Heres.{shared_in}
use Rattle.snl_load.specs.First.{first_copy, first_queue, first_shared, first_world_of}
use Rattle.snl_load.specs.Initials.{worth_in, first_by, first_element, first_elements, all_elements, held_among, buffer_by, first_buffer}
use Rattle.snl_load.specs.Places.{channels, flags_in, placed_sets, for_each_set, tie_of, ties_from}
use Rattle.snl_names.specs.declared.constants.Constant.{Constant}
use Rattle.snl_names.specs.declared.constants.Constant.TheVariants.{Varies, Faults, Worth}
use Rattle.snl_names.specs.Constants.{constant_of}
use Rattle.snl_names.specs.Scopes.{elements, is_hidden}
use Rattle.snl_names.specs.Variables.{CopyVariable, variables_of, shared_variables}
use Rattle.snl_meaning.specs.declared.ties.Tied.{Tied}
use Rattle.snl_schedule.specs.Arrivals.{is_in}

-- ---- what an element begins with

-- a range has a number
abbrev In : ℤ × ℤ → ℤ → Type 0
In range z = (int_le range.0 z && int_le z range.1) ≡ true

-- what a constant is worth in a range that has 0
worth-in : (range : ℤ × ℤ) (c : Constant) → In range (pos 0) → In range (worth_in range c)
worth-in range Varies nought = nought
worth-in range Faults nought = nought
worth-in range (Worth z) nought = by (int_le range.0 z && int_le z range.1) refl
  where
    by : (b : Bool) → (int_le range.0 z && int_le z range.1) ≡ b → In range (if b then z else pos 0)
    by true has = has
    by false fails = nought

-- an element
by-in : (range : ℤ × ℤ) (o : Option ExprTree) → In range (pos 0) → In range (first_by range o)
by-in range None nought = nought
by-in range (Some e) nought = worth-in range (constant_of (is_hidden []) e) nought

-- ---- words one after another

-- so many elements
pub length-elements : (v : CopyVariable) (k n : ℕ) → length (first_elements v k n) ≡ n
length-elements v k zero = refl
length-elements v k (suc n) = ap suc (length-elements v (k + 1) n)

-- a word behind others
index-behind : (before rest : List ℤ) (j : ℕ) → slice_index_or (before ++ rest) (length before + j) (pos 0) ≡ slice_index_or rest j (pos 0)
index-behind [] rest j = ap (λ (n : ℕ). slice_index_or rest n (pos 0)) (let e : 0 + j ≡ j = omega arith in e)
index-behind (b ∷ before) rest j =
    ap (λ (n : ℕ). slice_index_or (b ∷ (before ++ rest)) n (pos 0)) (let e : suc (length before) + j ≡ suc (length before + j) = omega arith in e)
    ∙ index-behind before rest j

-- an element of those in front
index-front : (v : CopyVariable) (k n j : ℕ) (rest : List ℤ) → j < n → slice_index_or (first_elements v k n ++ rest) j (pos 0) ≡ first_element v (k + j)
index-front v k zero j rest less = absurd (omega (arith, less))
index-front v k (suc n) zero rest less = ap (first_element v) (let e : k ≡ k + 0 = omega arith in e)
index-front v k (suc n) (suc j) rest less =
    index-front v (k + 1) n j rest (omega (arith, less)) ∙ ap (first_element v) (let e : k + 1 + j ≡ k + suc j = omega arith in e)

-- the words of a variable among those of others
words-fit : (vs : List CopyVariable) (before : List ℤ) (at i k : ℕ) (x : Placed) → length before ≡ at → at + words_of vs ≤ 2 ^ 64 - 1 → slice_get (placed_from at vs) i ≡ Some x →
    k < x.variable.size → Has x.variable (pos 0) → Has x.variable (slice_index_or (before ++ flat_map all_elements vs) (x.variable.place + k) (pos 0))
words-fit [] before at i k x long few is less nought = absurd (cc)
words-fit (v ∷ vs) before at zero k x long few is less nought =
    let here : variable_from at v ≡ x.variable = cc in
    let within : k < elements v.size = subst (λ (u : Variable). k < u.size) (sym here) less in
    let has : In v.range (pos 0) = subst (λ (u : Variable). Has u (pos 0)) (sym here) nought in
    let words = before ++ flat_map all_elements (v ∷ vs) in
    let value : slice_index_or words (at + k) (pos 0) ≡ first_element v (0 + k) =
    ap (λ (n : ℕ). slice_index_or words (n + k) (pos 0)) (sym long) ∙ index-behind before (flat_map all_elements (v ∷ vs)) k
    ∙ index-front v 0 (elements v.size) k (flat_map all_elements vs) within in
    subst (λ (u : Variable). Has u (slice_index_or words (u.place + k) (pos 0))) here
    (subst (λ (z : ℤ). In v.range z) (sym value) (by-in v.range (slice_get (values_of v.initial) (0 + k)) has))
words-fit (v ∷ vs) before at (suc i) k x long few is less nought =
    let next : behind at v ≡ at + elements v.size = omega (arith, few) in
    let longer : length (before ++ all_elements v) ≡ behind at v =
    length-append before (all_elements v) ∙ (let e : length before + length (all_elements v) ≡ behind at v = omega (arith, long, next, length-elements v 0 (elements v.size)) in e) in
    subst (λ (l : List ℤ). Has x.variable (slice_index_or l (x.variable.place + k) (pos 0))) (append_assoc before (all_elements v) (flat_map all_elements vs))
    (words-fit vs (before ++ all_elements v) (behind at v) i k x longer (omega (arith, few, next)) is less nought)

-- ---- copies

-- the copy of a state set, if it is there
copy-at : (f : ℕ → List CopyVariable) (k : ℕ) (gs : List StateSetTree) (i : ℕ) →
    (slice_index_or (map first_copy (for_each_set f k gs)) i no_copy ≡ first_copy (f (k + i))) ⊎ (slice_index_or (map first_copy (for_each_set f k gs)) i no_copy ≡ no_copy)
copy-at f k [] i = inr refl
copy-at f k (g ∷ gs) zero = inl (ap (λ (n : ℕ). first_copy (f n)) (let e : k ≡ k + 0 = omega arith in e))
copy-at f k (g ∷ gs) (suc i) = by (copy-at f (k + 1) gs i)
  where
    there : SetMemory
    there = slice_index_or (map first_copy (for_each_set f (k + 1) gs)) i no_copy

    by : (there ≡ first_copy (f (k + 1 + i))) ⊎ (there ≡ no_copy) → (there ≡ first_copy (f (k + suc i))) ⊎ (there ≡ no_copy)
    by (inl is) = inl (is ∙ ap (λ (n : ℕ). first_copy (f n)) (let e : k + 1 + i ≡ k + suc i = omega arith in e))
    by (inr none) = inr none

-- all of them fit
first-fits : (p : ProgramTree) (ls : List Link) → IsSized p → AllFit p (first_world_of p ls)
first-fits p ls sized set i k x is less = by (copy-at (variables_of p) 0 p.state_sets set)
  where
    there : SetMemory
    there = copy_of set (first_world_of p ls)

    nought : Has x.variable (pos 0)
    nought = (sized.copies set).zero i x is

    by : (there ≡ first_copy (variables_of p (0 + set))) ⊎ (there ≡ no_copy) → Has x.variable (slice_index_or there.words (x.variable.place + k) (pos 0))
    by (inr none) = subst (λ (c : SetMemory). Has x.variable (slice_index_or c.words (x.variable.place + k) (pos 0))) (sym none) nought
    by (inl here) =
        let e : 0 + set ≡ set = omega arith in
        subst (λ (c : SetMemory). Has x.variable (slice_index_or c.words (x.variable.place + k) (pos 0)))
        (sym (here ∙ ap (λ (n : ℕ). first_copy (variables_of p n)) e))
        (words-fit (variables_of p set) [] 0 i k x refl (let few = (sized.copies set).few in omega (arith, few)) is less nought)

-- ---- the words of functions

-- each word of some zeros is 0, and so is each that is not there
zeros-at : (n i : ℕ) → slice_index_or (replicate n (pos 0)) i (pos 0) ≡ pos 0
zeros-at zero i = refl
zeros-at (suc n) zero = refl
zeros-at (suc n) (suc i) = zeros-at n i

-- so they fit
shared-fits : (p : ProgramTree) → IsSized p → Fit (shared_in p) (first_shared (shared_variables p))
shared-fits p sized i k x is less =
    subst (Has x.variable) (sym (zeros-at (words_of (shared_variables p)) (x.variable.place + k))) (sized.shared.zero i x is)

-- ---- buffers

-- what a link's buffer begins with, where its variable stands in a copy
abbrev Begins : List (List CopyVariable) → Link → Tied → Type 0
Begins sets l t = (v : CopyVariable) × (held_among sets l.variable.offset ≡ Some v) × (t.least ≡ v.range.0) × (t.greatest ≡ v.range.1) × (is_in t (pos 0) ≡ true)

module _ (names : List (List ℕ)) (flags : List ℕ) (copies : List (List Placed)) (sets : List (List CopyVariable)) where
  -- the words of a link's buffer among those of others
  buffer-fits : (ks : List Link) (before : List ℤ) (at i k : ℕ) (t : Tied) → length before ≡ at → at + counts ks ≤ 2 ^ 64 - 1 →
      ((j : ℕ) (l : Link) (u : Tied) → slice_get ks j ≡ Some l → slice_get (ties_from names flags copies at ks) j ≡ Some u → Begins sets l u) →
      slice_get (ties_from names flags copies at ks) i ≡ Some t → k < t.count → is_in t (slice_index_or (before ++ flat_map (first_buffer sets) ks) (t.from + k) (pos 0)) ≡ true
  buffer-fits [] before at i k t long few held is less = absurd (cc)
  buffer-fits (l ∷ ks) before at zero k t long few held is less =
      let here : tie_of names flags copies at l ≡ t = cc in
      let b = held 0 l t refl is in
      let v = b.0 in
      let within : k < l.count = subst (λ (u : Tied). k < u.count) (sym here) less in
      let rest = flat_map (first_buffer sets) ks in
      let words = before ++ flat_map (first_buffer sets) (l ∷ ks) in
      let front : flat_map (first_buffer sets) (l ∷ ks) ≡ first_elements v l.first l.count ++ rest = ap (λ (o : Option CopyVariable). buffer_by o l ++ rest) b.1 in
      let from : t.from + k ≡ length before + k = omega (arith, long, ap (λ (u : Tied). u.from) (sym here)) in
      let value : slice_index_or words (t.from + k) (pos 0) ≡ first_element v (l.first + k) =
      ap (λ (n : ℕ). slice_index_or words n (pos 0)) from ∙ index-behind before (flat_map (first_buffer sets) (l ∷ ks)) k
      ∙ ap (λ (m : List ℤ). slice_index_or m k (pos 0)) front ∙ index-front v l.first l.count k rest within in
      let nought : In v.range (pos 0) =
      subst (λ (g : ℤ). (int_le v.range.0 (pos 0) && int_le (pos 0) g) ≡ true) b.3 (subst (λ (m : ℤ). (int_le m (pos 0) && int_le (pos 0) t.greatest) ≡ true) b.2 b.4) in
      let z = slice_index_or words (t.from + k) (pos 0) in
      let has : In v.range z = subst (In v.range) (sym value) (by-in v.range (slice_get (values_of v.initial) (l.first + k)) nought) in
      subst (λ (m : ℤ). (int_le m z && int_le z t.greatest) ≡ true) (sym b.2) (subst (λ (g : ℤ). (int_le v.range.0 z && int_le z g) ≡ true) (sym b.3) has)
  buffer-fits (l ∷ ks) before at (suc i) k t long few held is less =
      let next : place_after at l.count ≡ at + l.count = omega (arith, few) in
      let b = held 0 l (tie_of names flags copies at l) refl refl in
      let own = first_buffer sets l in
      let count : length own ≡ l.count = ap (λ (o : Option CopyVariable). length (buffer_by o l)) b.1 ∙ length-elements b.0 l.first l.count in
      let longer : length (before ++ own) ≡ place_after at l.count =
      length-append before own ∙ (let e : length before + length own ≡ place_after at l.count = omega (arith, long, next, count) in e) in
      subst (λ (m : List ℤ). is_in t (slice_index_or m (t.from + k) (pos 0)) ≡ true) (append_assoc before own (flat_map (first_buffer sets) ks))
      (buffer-fits ks (before ++ own) (place_after at l.count) i k t longer (omega (arith, few, next)) (λ j m u a c. held (suc j) m u a c) is less)

-- ---- queues

-- a link has a queue of its own, which holds nothing
first-queues : (names : List (List ℕ)) (flags : List ℕ) (copies : List (List Placed)) (ks : List Link) (at : ℕ) → QueuesFit (ties_from names flags copies at ks) (map first_queue ks)
first-queues names flags copies [] at i t q is there = absurd (cc)
first-queues names flags copies (l ∷ ks) at zero t q is there =
    let tie : tie_of names flags copies at l ≡ t = cc in
    let own : first_queue l ≡ q = cc in
    subst (QueueFits t) own (record { width = ap (λ (x : Tied). x.count) tie; few = omega arith; items = All-nil (ItemFits t) })
first-queues names flags copies (l ∷ ks) at (suc i) t q is there = first-queues names flags copies ks (place_after at l.count) i t q is there

-- copies, buffers, queues and the words of functions
pub first_holds : FirstHolds
first_holds p ls sized tied held =
    let few = tied.few in (
      first-fits p ls sized,
      λ i k t is less. buffer-fits (channels ls) (flags_in p) (placed_sets p 0 p.state_sets) (held_sets p 0 p.state_sets) ls [] 0 i k t refl (omega (arith, few)) held is less,
      refl,
      refl,
      first-queues (channels ls) (flags_in p) (placed_sets p 0 p.state_sets) ls 0,
      shared-fits p sized,
    )
