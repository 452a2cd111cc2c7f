-- A refresh writes the elements of marked links, clears their marks, and leaves everything else as it is.
use Rattle.std.proofs.Common.{◌≡◌, ◌∙◌, ◌+◌, ◌<◌, ◌≤◌, ◌⊎◌, inl, inr, refl, sym, ap, subst, arith, ℕ, zero, suc, ℤ, pos, Bool, true, false, List, [], ◌∷◌, Option, None, Some, slice_get, length, get_or-set_same, get_or-set_other, if◌then◌else◌}
use Rattle.std.specs.Prelude.{slice_set, slice_index_or}
use Rattle.snl_syntax.specs.Programs.{ProgramTree}
use Rattle.snl_channels.specs.Links.{Link}
use Rattle.snl_load.specs.Places.{ties_in}
use Rattle.snl_machine.specs.Layout.{HasWords, CopiesStay, IsLaidOut, IsTiedTo, RefreshesFillVariables}
use Rattle.snl_machine.specs.Ranges.{IsSized, IsTied}
use Rattle.snl_machine.proofs.Cells.{words-same, overwritten-away, elements-written, element-in-copy, IsThere, home-there, home-words, home-away, home-element}
use Rattle.snl_machine.proofs.Fitting.{set-index}
use Rattle.snl_machine.proofs.Marked.{mark-away, mark-cleared}
use Rattle.snl_machine.proofs.Queued.{length-words}
use Rattle.snl_meaning.specs.declared.ties.Tied.{Tied}
use Rattle.snl_meaning.specs.Links.{home_of, elements_at, with_elements, buffer_of}
use Rattle.snl_meaning.specs.World.{SetMemory, World, no_copy, copy_of, words_at, overwritten}
use Rattle.snl_meaning.proofs.Sizes.{set-many, overwritten-many}
use Rattle.snl_schedule.specs.Refresh.{is_marked, with_mark, copied_to, refreshed_link, refreshed_from}

module _ (set : ℕ) where
  -- a word of the copy
  abbrev word : ℕ → World → ℤ
  word q w = slice_index_or (copy_of set w).words q (pos 0)

  -- it lies outside of so many words from a place on
  abbrev Outside : ℕ → ℕ → ℕ → Type 0
  Outside place n q = (q < place) ⊎ (place + n ≤ q)

  -- ---- one link

  -- numbers that come to the copy leave it
  elements-away : (place : ℕ) (zs : List ℤ) (q : ℕ) (w : World) → Outside place (length zs) q → word q (with_elements set place zs w) ≡ word q w
  elements-away place zs q w out = by (set-index w.copies set set new no_copy)
    where
      new : SetMemory
      new = record (copy_of set w) { words = overwritten (copy_of set w).words place zs }

      now : SetMemory
      now = copy_of set (with_elements set place zs w)

      by : (now ≡ copy_of set w) ⊎ ((set ≡ set) × (now ≡ new)) → word q (with_elements set place zs w) ≡ word q w
      by (inl same) = ap (λ (c : SetMemory). slice_index_or c.words q (pos 0)) same
      by (inr own) = ap (λ (c : SetMemory). slice_index_or c.words q (pos 0)) own.1 ∙ overwritten-away zs (copy_of set w).words place q out

  -- so does the refresh of a link
  link-away : (number : ℕ) (t : Tied) (w : World) (q : ℕ) → ((place : ℕ) → is_marked set number w ≡ true → home_of set number w ≡ Some place → Outside place t.count q) →
      word q (refreshed_link set number t w) ≡ word q w
  link-away number t w q out = by (is_marked set number w) (home_of set number w) refl refl
    where
      by : (b : Bool) (home : Option ℕ) → is_marked set number w ≡ b → home_of set number w ≡ home →
          word q (if b then with_mark set number false (copied_to set home t w) else w) ≡ word q w
      by false home marked is = refl
      by true None marked is = refl
      by true (Some place) marked is =
          elements-away place (buffer_of t w) q w (subst (λ (n : ℕ). Outside place n q) (sym (length-words w.buffers t.from t.count)) (out place marked is))

  -- it clears the mark of the link,
  link-cleared : (number : ℕ) (t : Tied) (w : World) → is_marked set number (refreshed_link set number t w) ≡ false
  link-cleared number t w = by (is_marked set number w) (home_of set number w) refl
    where
      by : (b : Bool) (home : Option ℕ) → is_marked set number w ≡ b → is_marked set number (if b then with_mark set number false (copied_to set home t w) else w) ≡ false
      by false home is = is
      by true None is = mark-cleared w.marks set number
      by true (Some place) is = mark-cleared w.marks set number

  -- it leaves marks of other links,
  link-marks : (number : ℕ) (t : Tied) (w : World) (other i : ℕ) → (i ≡ number → ⊥) → is_marked other i (refreshed_link set number t w) ≡ is_marked other i w
  link-marks number t w other i not = by (is_marked set number w) (home_of set number w)
    where
      by : (b : Bool) (home : Option ℕ) → is_marked other i (if b then with_mark set number false (copied_to set home t w) else w) ≡ is_marked other i w
      by false home = refl
      by true None = mark-away w.marks set other number i false not
      by true (Some place) = mark-away w.marks set other number i false not

  -- those of other state sets,
  link-others : (number : ℕ) (t : Tied) (w : World) (other i : ℕ) → (set ≡ other → ⊥) → is_marked other i (refreshed_link set number t w) ≡ is_marked other i w
  link-others number t w other i not = by (is_marked set number w) (home_of set number w)
    where
      same : (new : List Bool) → slice_index_or (slice_index_or (slice_set w.marks set new) other []) i false ≡ is_marked other i w
      same new = ap (λ (row : List Bool). slice_index_or row i false) (get_or-set_other w.marks set other new [] (λ (e : other ≡ set). not (sym e)))

      by : (b : Bool) (home : Option ℕ) → is_marked other i (if b then with_mark set number false (copied_to set home t w) else w) ≡ is_marked other i w
      by false home = refl
      by true None = same _
      by true (Some place) = same _

  -- other copies,
  link-copies : (number : ℕ) (t : Tied) (w : World) → CopiesStay set w (refreshed_link set number t w)
  link-copies number t w other not = by (is_marked set number w) (home_of set number w)
    where
      by : (b : Bool) (home : Option ℕ) → copy_of other (if b then with_mark set number false (copied_to set home t w) else w) ≡ copy_of other w
      by false home = refl
      by true None = refl
      by true (Some place) = get_or-set_other w.copies set other _ no_copy (λ (e : other ≡ set). not (sym e))

  -- and all the rest
  link-rest : (number : ℕ) (t : Tied) (w : World) → record (refreshed_link set number t w) { copies = w.copies; marks = w.marks } ≡ w
  link-rest number t w = by (is_marked set number w) (home_of set number w)
    where
      by : (b : Bool) (home : Option ℕ) → record (if b then with_mark set number false (copied_to set home t w) else w) { copies = w.copies; marks = w.marks } ≡ w
      by false home = refl
      by true None = refl
      by true (Some place) = refl

  -- the copy has as many words
  link-words : (number : ℕ) (t : Tied) (w : World) (place n : ℕ) → HasWords set place n w → HasWords set place n (refreshed_link set number t w)
  link-words number t w place n has = by (is_marked set number w) (home_of set number w)
    where
      by : (b : Bool) (home : Option ℕ) → HasWords set place n (if b then with_mark set number false (copied_to set home t w) else w)
      by false home = has
      by true None = has
      by true (Some to) =
          let old = (copy_of set w).words in
          let new : SetMemory = record (copy_of set w) { words = overwritten old to (buffer_of t w) } in
          let now = get_or-set_same w.copies set new no_copy has.0 in
          let many : length (copy_of set (with_elements set to (buffer_of t w) w)).words ≡ length old =
          ap (λ (c : SetMemory). length c.words) now ∙ overwritten-many (buffer_of t w) old to in
          (omega (arith, has.0, set-many w.copies set new), omega (arith, has.1, many))

  -- a marked link has what its buffer has
  link-fresh : (number : ℕ) (t : Tied) (w : World) (place : ℕ) → is_marked set number w ≡ true → home_of set number w ≡ Some place → HasWords set place t.count w →
      elements_at set place t (refreshed_link set number t w) ≡ buffer_of t w
  link-fresh number t w place marked home has = by (is_marked set number w) (home_of set number w) marked home
    where
      many : length (buffer_of t w) ≡ t.count
      many = length-words w.buffers t.from t.count

      there : elements_at set place t (with_elements set place (buffer_of t w) w) ≡ buffer_of t w
      there =
          let u = with_elements set place (buffer_of t w) w in
          let written = elements-written set place (buffer_of t w) w (subst (λ (n : ℕ). HasWords set place n w) (sym many) has) in
          ap (λ (n : ℕ). words_at (copy_of set u).words place n) (sym many) ∙ written.there

      by : (b : Bool) (o : Option ℕ) → b ≡ true → o ≡ Some place → elements_at set place t (if b then with_mark set number false (copied_to set o t w) else w) ≡ buffer_of t w
      by false o is at = absurd (cc)
      by true None is at = absurd (cc)
      by true (Some to) is at = let e : to ≡ place = cc in ap (λ (n : ℕ). elements_at set place t (with_elements set n (buffer_of t w) w)) e ∙ there

  -- ---- links from a number on

  -- words that no marked link has
  links-away : (number : ℕ) (ts : List Tied) (w : World) (q : ℕ) →
      ((i n place : ℕ) (t : Tied) → n ≡ number + i → slice_get ts i ≡ Some t → is_marked set n w ≡ true → home_of set n w ≡ Some place → Outside place t.count q) →
      word q (refreshed_from set number ts w) ≡ word q w
  links-away number [] w q out = refl
  links-away number (t ∷ ts) w q out =
      let u = refreshed_link set number t w in
      let homes = ap (λ (v : World). v.homes) (link-rest number t w) in
      links-away (number + 1) ts u q
      (λ i n place r is at marked home. out (suc i) n place r (omega (arith, is)) at (sym (link-marks number t w set n (λ (e : n ≡ number). omega (arith, is, e))) ∙ marked)
      (ap (λ (hs : List (List (Option ℕ))). slice_index_or (slice_index_or hs set []) n None) (sym homes) ∙ home))
      ∙ link-away number t w q (λ place marked home. out 0 number place t (omega arith) refl marked home)

  -- marks of links with lower numbers
  links-marks : (number : ℕ) (ts : List Tied) (w : World) (other i : ℕ) → i < number → is_marked other i (refreshed_from set number ts w) ≡ is_marked other i w
  links-marks number [] w other i less = refl
  links-marks number (t ∷ ts) w other i less =
      links-marks (number + 1) ts (refreshed_link set number t w) other i (omega (arith, less)) ∙ link-marks number t w other i (λ (e : i ≡ number). omega (arith, less, e))

  -- each of their own marks is cleared
  links-cleared : (number : ℕ) (ts : List Tied) (w : World) (i n : ℕ) → n ≡ number + i → i < length ts → is_marked set n (refreshed_from set number ts w) ≡ false
  links-cleared number [] w i n is less = absurd (omega (arith, less))
  links-cleared number (t ∷ ts) w zero n is less =
      let u = refreshed_link set number t w in
      let e : n ≡ number = omega (arith, is) in
      links-marks (number + 1) ts u set n (omega (arith, is)) ∙ ap (λ (m : ℕ). is_marked set m u) e ∙ link-cleared number t w
  links-cleared number (t ∷ ts) w (suc i) n is less = links-cleared (number + 1) ts (refreshed_link set number t w) i n (omega (arith, is)) (omega (arith, less))

  -- marks of other state sets
  links-others : (number : ℕ) (ts : List Tied) (w : World) (other i : ℕ) → (set ≡ other → ⊥) → is_marked other i (refreshed_from set number ts w) ≡ is_marked other i w
  links-others number [] w other i not = refl
  links-others number (t ∷ ts) w other i not = links-others (number + 1) ts (refreshed_link set number t w) other i not ∙ link-others number t w other i not

  -- other copies
  links-copies : (number : ℕ) (ts : List Tied) (w : World) → CopiesStay set w (refreshed_from set number ts w)
  links-copies number [] w other not = refl
  links-copies number (t ∷ ts) w other not = links-copies (number + 1) ts (refreshed_link set number t w) other not ∙ link-copies number t w other not

  -- all the rest
  links-rest : (number : ℕ) (ts : List Tied) (w : World) → record (refreshed_from set number ts w) { copies = w.copies; marks = w.marks } ≡ w
  links-rest number [] w = refl
  links-rest number (t ∷ ts) w =
      ap (λ (v : World). record v { copies = w.copies; marks = w.marks }) (links-rest (number + 1) ts (refreshed_link set number t w)) ∙ link-rest number t w

  -- a marked link that is alone has what its buffer has
  links-fresh : (number : ℕ) (ts : List Tied) (w : World) (i n place : ℕ) (t : Tied) → n ≡ number + i → slice_get ts i ≡ Some t → is_marked set n w ≡ true → home_of set n w ≡ Some place →
      HasWords set place t.count w →
      ((j m to : ℕ) (r : Tied) → m ≡ number + j → (n ≡ m → ⊥) → slice_get ts j ≡ Some r → is_marked set m w ≡ true → home_of set m w ≡ Some to →
      (k : ℕ) → k < t.count → Outside to r.count (place + k)) →
      elements_at set place t (refreshed_from set number ts w) ≡ buffer_of t w
  links-fresh number [] w i n place t is at marked home has alone = absurd (cc)
  links-fresh number (x ∷ ts) w zero n place t is at marked home has alone =
      let u = refreshed_link set number x w in
      let e : n ≡ number = omega (arith, is) in
      let one : x ≡ t = cc in
      let homes = ap (λ (v : World). v.homes) (link-rest number x w) in
      let own : elements_at set place t u ≡ buffer_of t w =
      ap (λ (y : Tied). elements_at set place t (refreshed_link set number y w)) one
      ∙ link-fresh number t w place (ap (λ (k : ℕ). is_marked set k w) (sym e) ∙ marked) (ap (λ (k : ℕ). home_of set k w) (sym e) ∙ home) has in
      words-same (copy_of set (refreshed_from set (number + 1) ts u)).words (copy_of set u).words place t.count
      (λ k less. links-away (number + 1) ts u (place + k)
      (λ j m to r at_m is_r marked_r home_r.
      let far : m ≡ number → ⊥ = λ (f : m ≡ number). omega (arith, at_m, f) in
      alone (suc j) m to r (omega (arith, at_m)) (λ (f : n ≡ m). far (sym f ∙ e)) is_r (sym (link-marks number x w set m far) ∙ marked_r)
      (ap (λ (hs : List (List (Option ℕ))). slice_index_or (slice_index_or hs set []) m None) (sym homes) ∙ home_r) k less))
      ∙ own
  links-fresh number (x ∷ ts) w (suc i) n place t is at marked home has alone =
      let u = refreshed_link set number x w in
      let far : n ≡ number → ⊥ = λ (f : n ≡ number). omega (arith, is, f) in
      let rest = link-rest number x w in
      let homes = ap (λ (v : World). v.homes) rest in
      let home_at : (m : ℕ) → home_of set m u ≡ home_of set m w = λ m. ap (λ (hs : List (List (Option ℕ))). slice_index_or (slice_index_or hs set []) m None) homes in
      links-fresh (number + 1) ts u i n place t (omega (arith, is)) at (link-marks number x w set n far ∙ marked) (home_at n ∙ home) (link-words number x w place t.count has)
      (λ j m to r at_m not is_r marked_r home_r.
      alone (suc j) m to r (omega (arith, at_m)) not is_r (sym (link-marks number x w set m (λ (f : m ≡ number). omega (arith, at_m, f))) ∙ marked_r) (sym (home_at m) ∙ home_r))
      ∙ ap (λ (l : List ℤ). words_at l t.from t.count) (ap (λ (v : World). v.buffers) rest)

-- ---- the copy of a program

module _ (p : ProgramTree) (ls : List Link) (set : ℕ) (w : World) (sized : IsSized p) (tied : IsTied p ls) (laid : IsLaidOut p ls w) where
  -- a word of a link is none of another one that ties none of its elements
  alone-away : (i place : ℕ) (t : Tied) (n to : ℕ) (r : Tied) (k : ℕ) → IsThere p ls set i place t → IsThere p ls set n to r → k < t.count →
      ((j m : ℕ) → IsTiedTo p ls set i j m → IsTiedTo p ls set n j m → ⊥) → (place + k < to) ⊎ (to + r.count ≤ place + k)
  alone-away i place t n to r k h g less not =
      let first = h.home.l.first in
      let within : first + k < h.x.variable.size = omega (arith, h.size, less) in
      let word : h.x.variable.place + (first + k) ≡ place + k = omega (arith, h.from) in
      subst (λ (q : ℕ). (q < to) ⊎ (to + r.count ≤ q)) word
      (home-away p ls set w sized tied laid n to r g h.j (first + k) h.x h.placed within
      (λ ties. not h.j (first + k) (home-element p ls set w sized tied laid i place t h k less) ties))

-- the law
pub refreshes_fill_variables : RefreshesFillVariables
refreshes_fill_variables p ls set w sized tied laid here = record {
  fresh = λ i place t is marked home alone.
      let h = there i place t is home in
      links-fresh set 0 w.ties w i i place t (let e : i ≡ 0 + i = omega arith in e) (own i t is) marked home (home-words p ls set w sized tied laid i place t here h)
      (λ j n to r at not is_r marked_r home_r k less.
      alone-away p ls set w sized tied laid i place t n to r k h (there n to r (theirs j n r at is_r) home_r) less (λ a b mine others. alone n a b not marked_r mine others));
  elements = λ j m y is_y less not.
      let same = links-away set 0 w.ties w (y.variable.place + m)
      (λ i n place t at is marked home.
      home-away p ls set w sized tied laid n place t (there n place t (theirs i n t at is) home) j m y is_y less (λ ties. not (n, marked, ties))) in
      element-in-copy p set j m y (refreshed_from set 0 w.ties w) is_y ∙ same ∙ sym (element-in-copy p set j m y w is_y);
  copies = links-copies set 0 w.ties w;
  cleared = λ i less. links-cleared set 0 w.ties w i i (let e : i ≡ 0 + i = omega arith in e) (let many = ap (length {A = Tied}) laid.ties in omega (arith, less, many));
  marks = links-others set 0 w.ties w;
  rest = links-rest set 0 w.ties w;
}
  where
    there : (i place : ℕ) (t : Tied) → slice_get (ties_in p ls) i ≡ Some t → home_of set i w ≡ Some place → IsThere p ls set i place t
    there = home-there p ls set w sized tied laid

    own : (i : ℕ) (t : Tied) → slice_get (ties_in p ls) i ≡ Some t → slice_get w.ties i ≡ Some t
    own i t is = ap (λ (ts : List Tied). slice_get ts i) laid.ties ∙ is

    theirs : (i n : ℕ) (t : Tied) → n ≡ 0 + i → slice_get w.ties i ≡ Some t → slice_get (ties_in p ls) n ≡ Some t
    theirs i n t at is =
        let e : n ≡ i = omega (arith, at) in
        ap (slice_get (ties_in p ls)) e ∙ ap (λ (ts : List Tied). slice_get ts i) (sym laid.ties) ∙ is
