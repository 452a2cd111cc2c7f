-- Every world of a program is laid out as the program says.
use Rattle.std.proofs.Common.{◌≡◌, ◌∙◌, ◌+◌, ◌<◌, refl, sym, ap, arith, ℕ, zero, suc, List, [], ◌∷◌, map, length}
use Rattle.std.specs.Prelude.{slice_index_or}
use Rattle.std.proofs.lemmas.List.{length-map}
use Rattle.snl_syntax.specs.Programs.{StateSetTree}
use Rattle.snl_flat.specs.Copies.{held_sets}
use Rattle.snl_load.specs.Places.{for_each_set}
use Rattle.snl_machine.specs.Layout.{WorldsAreLaidOut}
use Rattle.snl_meaning.specs.Frames.{Frame}
use Rattle.snl_meaning.specs.Names.{words_of}
use Rattle.snl_meaning.specs.World.{SetMemory, no_copy}
use Rattle.snl_names.specs.Variables.{variables_of}

-- as many as there are state sets
pub sets-many : {A : Type 0} (f : ℕ → A) (k : ℕ) (gs : List StateSetTree) → length (for_each_set f k gs) ≡ length gs
sets-many f k [] = refl
sets-many f k (g ∷ gs) = ap suc (sets-many f (k + 1) gs)

-- one of a list
map-at : {A B : Type 0} (f : A → B) (l : List A) (i : ℕ) (d : A) → slice_index_or (map f l) i (f d) ≡ f (slice_index_or l i d)
map-at f [] i d = refl
map-at f (x ∷ l) zero d = refl
map-at f (x ∷ l) (suc i) d = map-at f l i d

-- what there is for a state set
set-at : {A : Type 0} (f : ℕ → A) (k : ℕ) (gs : List StateSetTree) (i : ℕ) (d : A) → i < length gs → slice_index_or (for_each_set f k gs) i d ≡ f (k + i)
set-at f k [] i d less = absurd (omega (arith, less))
set-at f k (g ∷ gs) zero d less = ap f (let e : k ≡ k + 0 = omega arith in e)
set-at f k (g ∷ gs) (suc i) d less = set-at f (k + 1) gs i d (omega (arith, less)) ∙ ap f (let e : k + 1 + i ≡ k + suc i = omega arith in e)

-- the law
pub worlds_are_laid_out : WorldsAreLaidOut
worlds_are_laid_out p ls w world =
    let sets = held_sets p 0 p.state_sets in
    let frame = world.frame_is in
    let look = λ (c : SetMemory). length c.words in
    let all : map look w.copies ≡ map words_of sets = ap (λ (f : Frame). f.words) frame in
    let many : length w.copies ≡ length p.state_sets =
    sym (length-map w.copies look) ∙ ap length all ∙ length-map sets words_of ∙ sets-many (variables_of p) 0 p.state_sets in
    record {
      sets = many;
      words = λ set less.
          sym (map-at look w.copies set no_copy) ∙ ap (λ (ns : List ℕ). slice_index_or ns set 0) all ∙ map-at words_of sets set []
          ∙ ap words_of (set-at (variables_of p) 0 p.state_sets set [] less ∙ ap (variables_of p) (let e : 0 + set ≡ set = omega arith in e));
      shared = ap (λ (f : Frame). f.shared) frame;
      buffers = ap (λ (f : Frame). f.buffers) frame;
      ties = ap (λ (f : Frame). f.ties) frame;
      homes = ap (λ (f : Frame). f.homes) frame;
    }
