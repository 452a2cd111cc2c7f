-- A block that comes again, while it does.
use Rattle.std.specs.Prelude.{◌≡◌, ◌≤◌, ℕ, List, ◌++◌, length}
use Rattle.snl_watch.specs.Folding.{last_of, repeated}

-- Of all lines some are done with: they were written. Behind them their last lines, so many, came so many times more, whole; and then
-- those that are held, with which they begin once more.
pub record Turning {A : Type 0} (all done : List A) (size times : ℕ) (held : List A) : Type 0 where
  -- what is left of the block
  pub rest : List A
  pub all_is : all ≡ done ++ (repeated times (last_of size done) ++ held)
  pub block : last_of size done ≡ held ++ rest
  pub turned : last_of size all ≡ rest ++ held
  pub within : size ≤ length done
