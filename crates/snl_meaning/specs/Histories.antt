-- What becomes of the items that come to a queue.
use Rattle.std.specs.Prelude.{◌≡◌, ◌+◌, ℕ, suc, ℤ, true, nat_lt, List, [], ◌∷◌, ◌++◌, length, if◌then◌else◌}
use Rattle.snl_meaning.specs.Queues.{put_in}

-- Items, oldest first.
abbrev pub Items : Type 0
Items = List (List ℤ)

-- The first list has members of the second, in their order; some may be missing.
pub data IsPartOf : Items → Items → Type 0 where
  Nothing : IsPartOf [] []
  Kept : (item : List ℤ) (xs ys : Items) → IsPartOf xs ys → IsPartOf (item ∷ xs) (item ∷ ys)
  Missed : (item : List ℤ) (xs ys : Items) → IsPartOf xs ys → IsPartOf xs (item ∷ ys)

-- A queue of a size that began with no item: those that came to it, those that were taken out, those that it holds, and how
-- many came while it was full.
pub data History (size : ℕ) : (came taken held : Items) (late : ℕ) → Type 0 where
  Begins : History size [] [] [] 0
  Comes : (came taken held : Items) (late : ℕ) (item : List ℤ) → History size came taken held late →
      History size (came ++ item ∷ []) taken (put_in size item held) (if nat_lt (length held) size then late else suc late)
  IsTaken : (came taken held : Items) (late : ℕ) (item : List ℤ) → History size came taken (item ∷ held) late → History size came (taken ++ item ∷ []) held late

-- What is taken out are items that came, in their order, and the queue holds the later ones. As many are missing as came while
-- it was full: so none is, where it never was.
abbrev pub QueuesKeepOrder : Type 0
QueuesKeepOrder = (size : ℕ) (came taken held : Items) (late : ℕ) → History size came taken held late → nat_lt 0 size ≡ true →
    IsPartOf (taken ++ held) came × (length taken + length held + late ≡ length came)
