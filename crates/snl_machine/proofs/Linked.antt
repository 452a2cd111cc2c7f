-- What is known of a link that has a home in a copy.
use Rattle.std.proofs.Common.{◌≡◌, ◌∙◌, ◌+◌, ◌≤◌, refl, sym, ap, arith, ℕ, zero, suc, List, [], ◌∷◌, Option, None, Some, map, slice_get, option_map}
use Rattle.std.specs.Prelude.{slice_index_or}
use Rattle.snl_syntax.specs.Programs.{StateSetTree, ProgramTree}
use Rattle.snl_channels.specs.Links.{Link}
use Rattle.snl_machine.specs.Ranges.{IsTied}
use Rattle.snl_meaning.specs.declared.instrs.Variable.{Variable}
use Rattle.snl_meaning.specs.declared.names.Placed.{Placed}
use Rattle.snl_meaning.specs.declared.ties.Tied.{Tied}
use Rattle.snl_meaning.specs.Links.{home_of}
use Rattle.snl_meaning.specs.Names.{variable_in, place_after}
use Rattle.snl_meaning.specs.World.{World}
use Rattle.snl_load.specs.Places.{channels, flags_in, placed_in, placed_sets, home_in, homes_in, tie_of, ties_from, ties_in}

-- A link of a program with its home in the copy of a state set: its variable stands in the copy, and has its elements.
pub record IsAtHome (p : ProgramTree) (ls : List Link) (set link place : ℕ) (t : Tied) : Type 0 where
  pub l : Link
  pub is : slice_get ls link ≡ Some l
  pub count : l.count ≡ t.count
  pub v : Variable
  pub variable : variable_in (placed_in p set) l.variable.offset ≡ Some v
  pub there : place_after v.place l.first ≡ place
  pub within : l.first + t.count ≤ v.size
  pub least : t.least ≡ v.least
  pub greatest : t.greatest ≡ v.greatest

-- the homes in a list of copies, by the number of one
for-set : (p : ProgramTree) (ls : List Link) (gs : List StateSetTree) (k set link place : ℕ) →
    slice_index_or (slice_index_or (homes_in (placed_sets p k gs) ls) set []) link None ≡ Some place →
    slice_index_or (map (home_in (placed_in p (k + set))) ls) link None ≡ Some place
for-set p ls [] k set link place is = absurd (cc)
for-set p ls (g ∷ gs) k zero link place is =
    let same : k ≡ k + 0 = omega arith in
    ap (λ (n : ℕ). slice_index_or (map (home_in (placed_in p n)) ls) link None) (sym same) ∙ is
for-set p ls (g ∷ gs) k (suc set) link place is =
    let same : k + 1 + set ≡ k + suc set = omega arith in
    ap (λ (n : ℕ). slice_index_or (map (home_in (placed_in p n)) ls) link None) (sym same) ∙ for-set p ls gs (k + 1) set link place is

-- the link of a home
for-link : (places : List Placed) (ls : List Link) (link place : ℕ) → slice_index_or (map (home_in places) ls) link None ≡ Some place →
    (l : Link) × (slice_get ls link ≡ Some l) × (home_in places l ≡ Some place)
for-link places [] link place is = absurd (cc)
for-link places (l ∷ ls) zero place is = (l, refl, is)
for-link places (l ∷ ls) (suc link) place is = for-link places ls link place is

-- the variable of a home
for-variable : (l : Link) (o : Option Variable) (place : ℕ) → option_map (λ v. place_after v.place l.first) o ≡ Some place →
    (v : Variable) × (o ≡ Some v) × (place_after v.place l.first ≡ place)
for-variable l None place is = absurd (cc)
for-variable l (Some v) place is = (v, refl, (let same : place_after v.place l.first ≡ place = cc in same))

-- a link has as many elements as it is tied to
tie-count : (names : List (List ℕ)) (flags : List ℕ) (copies : List (List Placed)) (ls : List Link) (at i : ℕ) (l : Link) (t : Tied) →
    slice_get ls i ≡ Some l → slice_get (ties_from names flags copies at ls) i ≡ Some t → l.count ≡ t.count
tie-count names flags copies [] at i l t a b = absurd (cc)
tie-count names flags copies (k ∷ ks) at zero l t a b =
    let link : k ≡ l = cc in
    let tie : tie_of names flags copies at k ≡ t = cc in
    sym (ap (λ (x : Link). x.count) link) ∙ ap (λ (x : Tied). x.count) tie
tie-count names flags copies (k ∷ ks) at (suc i) l t a b = tie-count names flags copies ks (place_after at k.count) i l t a b

-- what a home in a world tells, where links are as the program says
pub at_home : (p : ProgramTree) (ls : List Link) (tied : IsTied p ls) (set link place : ℕ) (t : Tied) (w : World) → w.homes ≡ homes_in (placed_sets p 0 p.state_sets) ls →
    home_of set link w ≡ Some place → slice_get (ties_in p ls) link ≡ Some t → IsAtHome p ls set link place t
at_home p ls tied set link place t w homes home at =
    let in_set = for-set p ls p.state_sets 0 set link place (ap (λ (hs : List (List (Option ℕ))). slice_index_or (slice_index_or hs set []) link None) (sym homes) ∙ home) in
    let own : 0 + set ≡ set = omega arith in
    let in_copy = ap (λ (n : ℕ). slice_index_or (map (home_in (placed_in p n)) ls) link None) (sym own) ∙ in_set in
    let found = for-link (placed_in p set) ls link place in_copy in
    let l = found.0 in
    let var = for-variable l (variable_in (placed_in p set) l.variable.offset) place found.2 in
    let v = var.0 in
    let count = tie-count (channels ls) (flags_in p) (placed_sets p 0 p.state_sets) ls 0 link l t found.1 at in
    let within = tied.within set link l v found.1 var.1 in
    let type = tied.type set link l t v found.1 at var.1 in
    record { l = l; is = found.1; count = count; v = v; variable = var.1; there = var.2; within = omega (arith, within, count); least = type.0; greatest = type.1 }
