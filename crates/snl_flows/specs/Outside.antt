-- Two worlds that are the same but for words that decide nothing: some places of each copy, the words of functions, and some places of buffers.
use Rattle.std.specs.Prelude.{◌≡◌, ◌==◌, ◌||◌, ℕ, ℤ, pos, Bool, true, false, List, [], ◌∷◌, length, map, slice_index_or}
use Rattle.snl_meaning.specs.declared.live.Live.{Live}
use Rattle.snl_meaning.specs.declared.live.Live.TheVariants.{Waiting, Running, Ended}
use Rattle.snl_meaning.specs.World.{SetMemory, World, copy_of}

-- A number is one of some.
abbrev pub has : List ℕ → ℕ → Bool
has [] k = false
has (x ∷ xs) k = x == k || has xs k

-- The places of a state set's copy that are hidden; none where nothing is said of it.
abbrev pub places_of : List (List ℕ) → ℕ → List ℕ
places_of hidden set = slice_index_or hidden set []

-- Words are as many, and the same but at some places.
pub record AreSameOutside (places : List ℕ) (words others : List ℤ) : Type 0 where
  pub long : length words ≡ length others
  pub at : (k : ℕ) → has places k ≡ false → slice_index_or words k (pos 0) ≡ slice_index_or others k (pos 0)

-- Two copies are the same but for the words at hidden places, and have as many words.
pub record IsSameCopy (places : List ℕ) (c d : SetMemory) : Type 0 where
  pub state : c.state ≡ d.state
  pub entered : c.entered ≡ d.entered
  pub long : length c.words ≡ length d.words
  pub at : (k : ℕ) → has places k ≡ false → slice_index_or c.words k (pos 0) ≡ slice_index_or d.words k (pos 0)

-- Two worlds are the same but for the words at the hidden places of each copy, for the words of functions, of which both have as many, and for
-- the words at the stale places of buffers.
pub record IsSameOutside (hidden : List (List ℕ)) (stale : List ℕ) (w u : World) : Type 0 where
  pub same : record w { copies = u.copies; shared = u.shared; buffers = u.buffers } ≡ u
  pub long : length w.shared ≡ length u.shared
  pub count : length w.copies ≡ length u.copies
  pub copies : (set : ℕ) → IsSameCopy (places_of hidden set) (copy_of set w) (copy_of set u)
  pub buffers : AreSameOutside stale w.buffers u.buffers

-- Some words of a copy are the same in two worlds.
abbrev pub AreSameAt : (set : ℕ) → (places : List ℕ) → World → World → Type 0
AreSameAt set places w u = (k : ℕ) → has places k ≡ true → slice_index_or (copy_of set w).words k (pos 0) ≡ slice_index_or (copy_of set u).words k (pos 0)

-- ---- by state

-- The places of a state set's copy that are hidden whatever its state is, and by its state.
pub record Places : Type 0 where
  pub always : List ℕ
  pub states : List (List ℕ)

-- Where nothing is hidden.
abbrev pub no_places : Places
no_places = record { always = []; states = [] }

-- By state set: those that are hidden whatever its state is.
abbrev pub each_always : List Places → List (List ℕ)
each_always hidden = map (λ (s : Places). s.always) hidden

-- Those of a state set.
abbrev pub places_for : List Places → (set : ℕ) → Places
places_for hidden set = slice_index_or hidden set no_places

-- Those that are hidden in a state,
abbrev pub places_in : Places → (state : ℕ) → List ℕ
places_in s state = slice_index_or s.states state s.always

-- and in one by how far the program has come: as long as it waits, those of each state.
abbrev pub places_by : Live → Places → (state : ℕ) → List ℕ
places_by Waiting s state = s.always
places_by Running s state = places_in s state
places_by Ended s state = places_in s state

-- By state set: those that are hidden by the states of copies,
abbrev pub places_with : Live → List Places → List SetMemory → List (List ℕ)
places_with phase [] copies = []
places_with phase (s ∷ hidden) [] = places_by phase s 0 ∷ places_with phase hidden []
places_with phase (s ∷ hidden) (c ∷ copies) = places_by phase s c.state ∷ places_with phase hidden copies

-- and those that are hidden in a world.
abbrev pub hidden_in : List Places → World → List (List ℕ)
hidden_in hidden w = places_with w.phase hidden w.copies

-- Two worlds are the same but for the words that are hidden in the first one, for words of functions, and for those at stale places of buffers.
abbrev pub IsSameByState : List Places → (stale : List ℕ) → World → World → Type 0
IsSameByState hidden stale w u = IsSameOutside (hidden_in hidden w) stale w u

-- ---- laws

-- With no stale place buffers are the same.
abbrev pub BuffersAreSame : Type 0
BuffersAreSame = (hidden : List (List ℕ)) (w u : World) → IsSameOutside hidden [] w u → w.buffers ≡ u.buffers

-- Two worlds are the same but for what is hidden in their states, either way.
abbrev pub SameEitherWay : Type 0
SameEitherWay = (hidden : List Places) (stale : List ℕ) (w u : World) → IsSameByState hidden stale w u → IsSameByState hidden stale u w
