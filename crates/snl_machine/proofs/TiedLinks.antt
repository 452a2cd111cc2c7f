-- The links of an accepted program tie elements that their variables have, and these stand in copies.
use Rattle.std.proofs.Common.{◌≡◌, ◌∙◌, ◌+◌, ◌<◌, ◌≤◌, ◌⊎◌, inl, inr, refl, sym, ap, subst, arith, ℕ, zero, suc, ℤ, pos, Bool, true, false, if◌then◌else◌, List, [], ◌∷◌, ◌++◌, length, map, Option, None, Some, slice_get}
use Rattle.std.specs.Prelude.{◌&&◌, ◌==◌, int_le}
use Rattle.std.specs.List.{AllByRecursion, flat_map}
use Rattle.std.proofs.lemmas.Bool.{eqb-true, eq-eqb, false≢true}
use Rattle.std.proofs.lemmas.List.{map-append}
use Rattle.std.proofs.lemmas.Option.{slice_get_within}
use Rattle.snl_text.specs.declared.tokens.Pos.{Pos}
use Rattle.snl_text.specs.declared.tokens.Token.{Token}
use Rattle.snl_syntax.specs.Definitions.{NamesTree, one_name, name_list, ChannelsTree}
use Rattle.snl_syntax.specs.Programs.{StateSetTree, ProgramTree}
use Rattle.snl_names.specs.declared.options.Options.{Options}
use Rattle.snl_names.specs.declared.sites.Part.{Part}
use Rattle.snl_names.specs.Programs.{program_scopes, sites}
use Rattle.snl_names.specs.Scopes.{Scope, elements}
use Rattle.snl_names.specs.Variables.{CopyVariable, by_definitions, by_maybe, by_numbered, by_state_set, for_first, variables_of}
use Rattle.snl_rules.specs.Words.{queue_size, links_words}
use Rattle.snl_channels.specs.Links.{Said, assigned, monitored, synced, ties_from, ties_by_channels, ties_by, said_in_program, spelled, Link, link_by, links}
use Rattle.snl_channels.specs.declared.ties.Tie.{Tie}
use Rattle.snl_channels.specs.Macros.{macros_of, macro_value}
use Rattle.snl_meaning.specs.declared.instrs.Variable.{Variable}
use Rattle.snl_meaning.specs.declared.names.Placed.{Placed}
use Rattle.snl_meaning.specs.declared.ties.Tied.{Tied}
use Rattle.snl_meaning.specs.Names.{variable_from, behind, placed_from, variable_in, place_after}
use Rattle.snl_flat.specs.Heres.{for_each_set, placed_in, placed_sets}
use Rattle.snl_load.specs.Initials.{held_in, held_among}
use Rattle.snl_load.specs.Places as places
use Rattle.snl_load.specs.Places.{channels, flags_in, variable_among, range_of, tie_of, ties_in}
use Rattle.snl_machine.specs.Ranges.{counts, IsTied, AreHeld}
use Rattle.snl_machine.specs.Accepted.{IsRead, IsAcceptedTree, AcceptedIsTied, AcceptedIsHeld}
use Rattle.snl_machine.proofs.Declared.{declared, In, of-in, in-left, in-right, in-either, in-declared}
use Rattle.snl_machine.proofs.NoErrors.{words-few}
use Rattle.snl_machine.proofs.Ordered.{one-at}
use Rattle.snl_machine.proofs.Sized.{IsDecent, all-decent, all-both, first-set}
use Rattle.snl_machine.proofs.Spoken.{tied, top, count-of, count-all, IsSound, all-fine, program}

-- ---- links of what is said

-- a link ties elements of a variable that is declared
abbrev IsSoundLink : ProgramTree → Link → Type 0
IsSoundLink p l = (v : CopyVariable) × In v (declared p) × (v.name.pos.offset ≡ l.variable.offset) × (l.first + l.count ≤ elements v.size)

-- how many elements two lists of links have
counts-both : (ks ls : List Link) → counts (ks ++ ls) ≡ counts ks + counts ls
counts-both [] ls = omega arith
counts-both (k ∷ ks) ls = let rest = counts-both ks ls in omega (arith, rest)

module _ (p : ProgramTree) (value : List ℕ → List ℕ) (all : List Said) where
  -- the links of ties
  abbrev made : List Tie → List Link
  made ts = map (link_by value) ts

  -- a channel for each element
  from-counts : (t : Token) (part : Part) (k : ℕ) (xs : List Token) → counts (made (ties_from all t part k xs)) ≡ length xs
  from-counts t part k [] = refl
  from-counts t part k (x ∷ xs) = let rest = from-counts t part (suc k) xs in omega (arith, rest)

  -- they tie elements that are there
  from-sound : (t : Token) (part : Part) (k : ℕ) (xs : List Token) (v : CopyVariable) → In v (declared p) → v.name.pos ≡ part.variable → k + length xs ≤ elements v.size →
      AllByRecursion (IsSoundLink p) (made (ties_from all t part k xs))
  from-sound t part k [] v is place within = tt
  from-sound t part k (x ∷ xs) v is place within =
      ((v, is, ap (λ (d : Pos). d.offset) place, omega (arith, within)), from-sound t part (suc k) xs v is place (omega (arith, within)))

  -- some channels
  names-counts : (t : Token) (part : Part) (to : Bool) (names : NamesTree) →
      let c : Option ChannelsTree = Some (record { to = to; names = names }) in counts (made (ties_by_channels all t part c)) ≡ tied part c
  names-counts t part to (one_name x) = omega arith
  names-counts t part to (name_list xs) = from-counts t part 0 xs

  -- they tie elements that are there
  names-sound : (t : Token) (part : Part) (to : Bool) (names : NamesTree) (v : CopyVariable) → In v (declared p) → v.name.pos ≡ part.variable →
      let c : Option ChannelsTree = Some (record { to = to; names = names }) in top part c ≤ elements v.size → AllByRecursion (IsSoundLink p) (made (ties_by_channels all t part c))
  names-sound t part to (one_name x) v is place within = ((v, is, ap (λ (d : Pos). d.offset) place, within), tt)
  names-sound t part to (name_list xs) v is place within = from-sound t part 0 xs v is place (omega (arith, within))

  -- something that is said
  one-counts : (x : Said) → counts (made (ties_by all x)) ≡ count-of x
  one-counts (assigned t part None) = omega arith
  one-counts (assigned t part (Some c)) = names-counts t part c.to c.names
  one-counts (monitored part) = refl
  one-counts (synced part flag queue) = refl

  -- its links are sound, if it is
  one-sound : (x : Said) → IsSound p x → AllByRecursion (IsSoundLink p) (made (ties_by all x))
  one-sound (assigned t part None) w = ((w.0, w.1, ap (λ (d : Pos). d.offset) w.2, w.3), tt)
  one-sound (assigned t part (Some c)) w = names-sound t part c.to c.names w.0 w.1 w.2 w.3
  one-sound (monitored part) w = tt
  one-sound (synced part flag queue) w = tt

  -- all that is said
  all-counts : (xs : List Said) → counts (made (flat_map (ties_by all) xs)) ≡ count-all xs
  all-counts [] = refl
  all-counts (x ∷ xs) =
      let rest = all-counts xs in
      let one = one-counts x in
      let both = counts-both (made (ties_by all x)) (made (flat_map (ties_by all) xs)) in
      let cut = ap counts (map-append (link_by value) (ties_by all x) (flat_map (ties_by all) xs)) in
      omega (arith, rest, one, both, cut)

  -- all links are sound
  all-sound : (xs : List Said) → AllByRecursion (IsSound p) xs → AllByRecursion (IsSoundLink p) (made (flat_map (ties_by all) xs))
  all-sound [] h = tt
  all-sound (x ∷ xs) h =
      subst (λ (l : List Link). AllByRecursion (IsSoundLink p) l) (sym (map-append (link_by value) (ties_by all x) (flat_map (ties_by all) xs)))
      (all-both (IsSoundLink p) (made (ties_by all x)) (made (flat_map (ties_by all) xs)) (one-sound x h.0) (all-sound xs h.1))

-- what holds of each holds of that of a number
pub at-number : {A : Type 0} (P : A → Type 0) (xs : List A) (i : ℕ) (x : A) → AllByRecursion P xs → slice_get xs i ≡ Some x → P x
at-number P [] i x h is = absurd (cc)
at-number P (y ∷ ys) zero x h is = let same : y ≡ x = cc in subst P same h.0
at-number P (y ∷ ys) (suc i) x h is = at-number P ys i x h.1 is

-- ---- where variables stand

-- one of what some lists give is one of what one of them gives
in-some : {A B : Type 0} (f : A → List B) (x : B) (l : List A) → In x (flat_map f l) → (k : ℕ) × (a : A) × (slice_get l k ≡ Some a) × In x (f a)
in-some f x [] is = absurd is
in-some {A} {B} f x (b ∷ l) is = by (in-either x (f b) (flat_map f l) is) (in-some f x l)
  where
    by : In x (f b) ⊎ In x (flat_map f l) → (In x (flat_map f l) → (k : ℕ) × (a : A) × (slice_get l k ≡ Some a) × In x (f a)) →
        (k : ℕ) × (a : A) × (slice_get (b ∷ l) k ≡ Some a) × In x (f a)
    by (inl here) rest = (0, b, refl, here)
    by (inr there) rest = let w = rest there in (suc w.0, w.1, w.2, w.3)

-- a variable stands in the copy of a state set that is there
abbrev StandsIn : ProgramTree → CopyVariable → Type 0
StandsIn p v = (k : ℕ) × (k < length p.state_sets) × In v (variables_of p k)

-- each that is declared does
stands-somewhere : (p : ProgramTree) → IsRead p → (v : CopyVariable) → In v (declared p) → StandsIn p v
stands-somewhere p read v is = by (in-either v (defs ++ entry ++ all) exit is)
  where
    s : List Scope
    s = program_scopes p

    defs : List CopyVariable
    defs = by_definitions [] p.definitions

    entry : List CopyVariable
    entry = by_maybe s p.entry

    all : List CopyVariable
    all = flat_map (by_state_set s) p.state_sets

    exit : List CopyVariable
    exit = by_maybe s p.exit

    some : 0 < length p.state_sets
    some = let first = first-set p read in slice_get_within p.state_sets 0 first.0 first.1

    own : ℕ → List CopyVariable
    own k = by_numbered s (slice_get p.state_sets k)

    one : In v defs ⊎ In v entry → StandsIn p v
    one (inl here) = (0, some, in-left v (defs ++ entry ++ own 0) exit (in-left v (defs ++ entry) (own 0) (in-left v defs entry here)))
    one (inr here) = (0, some, in-left v (defs ++ entry ++ own 0) exit (in-left v (defs ++ entry) (own 0) (in-right v defs entry here)))

    set : ((k : ℕ) × (g : StateSetTree) × (slice_get p.state_sets k ≡ Some g) × In v (by_state_set s g)) → StandsIn p v
    set w =
        let k = w.0 in
        let first = for_first k s p.entry in
        let last = for_first k s p.exit in
        let here : In v (own k) = subst (λ (o : Option StateSetTree). In v (by_numbered s o)) (sym w.2) w.3 in
        (k, slice_get_within p.state_sets k w.1 w.2, in-left v (defs ++ first ++ own k) last (in-right v (defs ++ first) (own k) here))

    two : In v (defs ++ entry) ⊎ In v all → StandsIn p v
    two (inl here) = one (in-either v defs entry here)
    two (inr here) = set (in-some (by_state_set s) v p.state_sets here)

    by : In v (defs ++ entry ++ all) ⊎ In v exit → StandsIn p v
    by (inl here) = two (in-either v (defs ++ entry) all here)
    by (inr here) = (0, some, in-right v (defs ++ entry ++ own 0) exit here)

-- ---- variables by the offsets of their declarations

-- what is found of an offset among some: a variable, with the form that it has in the copy; or that there is none
abbrev IsFoundIn : List CopyVariable → ℕ → ℕ → Type 0
IsFoundIn vs at offset = (v : CopyVariable) × In v vs × (v.name.pos.offset ≡ offset) × (held_in vs offset ≡ Some v) × (w : Variable) × (variable_in (placed_from at vs) offset ≡ Some w)
    × (elements v.size ≡ w.size) × (v.range.0 ≡ w.least) × (v.range.1 ≡ w.greatest)

-- none of them stands at the offset
abbrev IsNone : List CopyVariable → ℕ → ℕ → Type 0
IsNone vs at offset = (held_in vs offset ≡ None) × (variable_in (placed_from at vs) offset ≡ None) × ((v : CopyVariable) → In v vs → v.name.pos.offset ≡ offset → ⊥)

-- one of both
found-or-none : (vs : List CopyVariable) (at offset : ℕ) → IsFoundIn vs at offset ⊎ IsNone vs at offset
found-or-none [] at offset = inr (refl, refl, λ v is same. is)
found-or-none (v ∷ vs) at offset = by (v.name.pos.offset == offset) refl (found-or-none vs (behind at v) offset)
  where
    by : (b : Bool) → (v.name.pos.offset == offset) ≡ b → IsFoundIn vs (behind at v) offset ⊎ IsNone vs (behind at v) offset → IsFoundIn (v ∷ vs) at offset ⊎ IsNone (v ∷ vs) at offset
    by true is rest =
        inl (
          v,
          inl refl,
          eqb-true v.name.pos.offset offset is,
          ap (λ (b : Bool). if b then Some v else held_in vs offset) is,
          variable_from at v,
          ap (λ (b : Bool). if b then Some (variable_from at v) else variable_in (placed_from (behind at v) vs) offset) is,
          refl,
          refl,
          refl,
        )
    by false is (inl w) =
        inl (
          w.0,
          inr w.1,
          w.2,
          ap (λ (b : Bool). if b then Some v else held_in vs offset) is ∙ w.3,
          w.4,
          ap (λ (b : Bool). if b then Some (variable_from at v) else variable_in (placed_from (behind at v) vs) offset) is ∙ w.5,
          w.6,
          w.7,
          w.8,
        )
    by false is (inr n) =
        inr (
          ap (λ (b : Bool). if b then Some v else held_in vs offset) is ∙ n.0,
          ap (λ (b : Bool). if b then Some (variable_from at v) else variable_in (placed_from (behind at v) vs) offset) is ∙ n.1,
          λ u there same. other u there same,
        )
      where
        other : (u : CopyVariable) → In u (v ∷ vs) → u.name.pos.offset ≡ offset → ⊥
        other u (inl here) same = false≢true (sym is ∙ eq-eqb v.name.pos.offset offset (ap (λ (x : CopyVariable). x.name.pos.offset) here ∙ same))
        other u (inr later) same = n.2 u later same

module _ (p : ProgramTree) where
  -- what is found of an offset in the first copy that has it
  abbrev IsFoundAmong : ℕ → List StateSetTree → ℕ → Type 0
  IsFoundAmong k gs offset = (v : CopyVariable) × In v (declared p) × (v.name.pos.offset ≡ offset) × (held_among (for_each_set (variables_of p) k gs) offset ≡ Some v)
      × (v.range.0 ≡ (range_of (variable_among (for_each_set (placed_in p) k gs) offset)).0) × (v.range.1 ≡ (range_of (variable_among (for_each_set (placed_in p) k gs) offset)).1)

  -- a variable that stands in a copy is found
  found-among : (k : ℕ) (gs : List StateSetTree) (offset j n : ℕ) (v : CopyVariable) → n ≡ k + j → j < length gs → In v (variables_of p n) → v.name.pos.offset ≡ offset →
      IsFoundAmong k gs offset
  found-among k [] offset j n v number less is same = absurd (omega (arith, less))
  found-among k (g ∷ gs) offset j n v number less is same = by j number less (found-or-none (variables_of p k) 0 offset) (λ i e short. found-among (k + 1) gs offset i n v e short is same)
    where
      held-here : Option CopyVariable → Option CopyVariable
      held-here o = elim o [ Some u ↦ Some u | None ↦ held_among (for_each_set (variables_of p) (k + 1) gs) offset ]

      range-here : Option Variable → ℤ × ℤ
      range-here o = range_of (elim o [ Some u ↦ Some u | None ↦ variable_among (for_each_set (placed_in p) (k + 1) gs) offset ])

      by : (j : ℕ) → n ≡ k + j → j < length (g ∷ gs) → IsFoundIn (variables_of p k) 0 offset ⊎ IsNone (variables_of p k) 0 offset →
          ((i : ℕ) → n ≡ k + 1 + i → i < length gs → IsFoundAmong (k + 1) gs offset) → IsFoundAmong k (g ∷ gs) offset
      by j e short (inl w) rest =
          (w.0, in-declared p k w.0 w.1, w.2, ap held-here w.3, w.7 ∙ ap (λ (o : Option Variable). (range-here o).0) (sym w.5), w.8 ∙ ap (λ (o : Option Variable). (range-here o).1) (sym w.5))
      by zero e short (inr none) rest = absurd (none.2 v (subst (λ (m : ℕ). In v (variables_of p m)) (let here : n ≡ k = omega (arith, e) in here) is) same)
      by (suc i) e short (inr none) rest =
          let w = rest i (omega (arith, e)) (omega (arith, short)) in
          (w.0, w.1, w.2, ap held-here none.0 ∙ w.3, w.4 ∙ ap (λ (o : Option Variable). (range-here o).0) (sym none.1), w.5 ∙ ap (λ (o : Option Variable). (range-here o).1) (sym none.1))

-- what a link is tied to has the range of the variable in the first copy
tie-range : (names : List (List ℕ)) (flags : List ℕ) (copies : List (List Placed)) (at : ℕ) (ls : List Link) (i : ℕ) (l : Link) (t : Tied) → slice_get ls i ≡ Some l →
    slice_get (places.ties_from names flags copies at ls) i ≡ Some t →
    (t.least ≡ (range_of (variable_among copies l.variable.offset)).0) × (t.greatest ≡ (range_of (variable_among copies l.variable.offset)).1)
tie-range names flags copies at [] i l t is_l is_t = absurd (cc)
tie-range names flags copies at (k ∷ ks) zero l t is_l is_t =
    let link : k ≡ l = cc in
    let tie : tie_of names flags copies at k ≡ t = cc in (
      ap (λ (x : Tied). x.least) (sym tie) ∙ ap (λ (x : Link). (range_of (variable_among copies x.variable.offset)).0) link,
      ap (λ (x : Tied). x.greatest) (sym tie) ∙ ap (λ (x : Link). (range_of (variable_among copies x.variable.offset)).1) link,
    )
tie-range names flags copies at (k ∷ ks) (suc i) l t is_l is_t = tie-range names flags copies (place_after at k.count) ks i l t is_l is_t

-- ---- an accepted program

module _ (o : Options) (p : ProgramTree) (embedded : List Pos) (beyond : Option Pos) (read : IsRead p) (accepted : IsAcceptedTree o p embedded beyond) (macros : List ℕ) where
  -- its links
  abbrev ls : List Link
  ls = links p macros

  -- the values of macros
  abbrev value : List ℕ → List ℕ
  value = macro_value (macros_of (spelled p.macros) macros)

  -- what is said is sound, and has few words
  said-fits : (count-all (said_in_program p) ≤ links_words (sites p)) × AllByRecursion (IsSound p) (said_in_program p)
  said-fits = program p (queue_size (sites p)) (all-fine o p embedded beyond accepted)

  -- each link is sound
  link-sound : (i : ℕ) (l : Link) → slice_get ls i ≡ Some l → IsSoundLink p l
  link-sound i l is = at-number (IsSoundLink p) ls i l (all-sound p value (said_in_program p) (said_in_program p) said-fits.1) is

  -- its variable is found in the first copy that has it
  link-found : (i : ℕ) (l : Link) → slice_get ls i ≡ Some l → IsFoundAmong p 0 p.state_sets l.variable.offset
  link-found i l is =
      let sound = link-sound i l is in
      let stands = stands-somewhere p read sound.0 sound.1 in
      found-among p 0 p.state_sets l.variable.offset stands.0 stands.0 sound.0 (omega arith) stands.1 stands.2 sound.2

  -- a variable at its offset in a copy is that one
  found-here : (set i : ℕ) (l : Link) (w : Variable) → slice_get ls i ≡ Some l → variable_in (placed_in p set) l.variable.offset ≡ Some w →
      (v : CopyVariable) × In v (declared p) × (v.name.pos.offset ≡ l.variable.offset) × (elements v.size ≡ w.size) × (v.range.0 ≡ w.least) × (v.range.1 ≡ w.greatest)
  found-here set i l w is there = by (found-or-none (variables_of p set) 0 l.variable.offset)
    where
      by : IsFoundIn (variables_of p set) 0 l.variable.offset ⊎ IsNone (variables_of p set) 0 l.variable.offset →
          (v : CopyVariable) × In v (declared p) × (v.name.pos.offset ≡ l.variable.offset) × (elements v.size ≡ w.size) × (v.range.0 ≡ w.least) × (v.range.1 ≡ w.greatest)
      by (inl f) =
          let both : Some f.4 ≡ Some w = sym f.5 ∙ there in
          let same : f.4 ≡ w = cc in
          (f.0, in-declared p set f.0 f.1, f.2, f.6 ∙ ap (λ (x : Variable). x.size) same, f.7 ∙ ap (λ (x : Variable). x.least) same, f.8 ∙ ap (λ (x : Variable). x.greatest) same)
      by (inr none) = absurd (let e : None ≡ Some w = sym none.1 ∙ there in cc)

  -- few words
  few-words : counts ls ≤ 1048576
  few-words =
      let few = words-few o p embedded beyond accepted in
      let fits = said-fits.0 in
      let same = all-counts p value (said_in_program p) (said_in_program p) in
      omega (arith, few, fits, same)

  -- links are tied
  tied-links : IsTied p ls
  tied-links = record {
    few = let few = few-words in omega (arith, few);
    within = λ set i l w is there.
        let sound = link-sound i l is in
        let here = found-here set i l w is there in
        let same = one-at p read sound.0 here.0 sound.1 here.1 (sound.2 ∙ sym here.2) in
        let long : elements sound.0.size ≡ w.size = ap (λ (v : CopyVariable). elements v.size) same ∙ here.3 in
        let within = sound.3 in
        omega (arith, within, long);
    type = λ set i l t w is_l is_t there.
        let found = link-found i l is_l in
        let here = found-here set i l w is_l there in
        let same = one-at p read found.0 here.0 found.1 here.1 (found.2 ∙ sym here.2) in
        let range = tie-range (channels ls) (flags_in p) (placed_sets p 0 p.state_sets) 0 ls i l t is_l is_t in
        (range.0 ∙ sym found.4 ∙ ap (λ (v : CopyVariable). v.range.0) same ∙ here.4, range.1 ∙ sym found.5 ∙ ap (λ (v : CopyVariable). v.range.1) same ∙ here.5);
  }

  -- their variables are held
  held-links : AreHeld p ls
  held-links i l t is_l is_t =
      let found = link-found i l is_l in
      let range = tie-range (channels ls) (flags_in p) (placed_sets p 0 p.state_sets) 0 ls i l t is_l is_t in
      let least : t.least ≡ found.0.range.0 = range.0 ∙ sym found.4 in
      let greatest : t.greatest ≡ found.0.range.1 = range.1 ∙ sym found.5 in
      let nought = (of-in IsDecent found.0 (declared p) (all-decent p) found.1).1 in (
        found.0,
        found.3,
        least,
        greatest,
        subst (λ (n : ℤ). (int_le t.least (pos 0) && int_le (pos 0) n) ≡ true) (sym greatest)
            (subst (λ (n : ℤ). (int_le n (pos 0) && int_le (pos 0) found.0.range.1) ≡ true) (sym least) nought),
      )

-- links are tied, of each program
pub accepted_is_tied : AcceptedIsTied
accepted_is_tied o p embedded beyond read accepted macros = tied-links o p embedded beyond read accepted macros

-- their variables are held, of each program
pub accepted_is_held : AcceptedIsHeld
accepted_is_held o p embedded beyond read accepted macros = held-links o p embedded beyond read accepted macros
