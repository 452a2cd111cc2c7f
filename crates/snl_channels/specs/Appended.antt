-- What a call that runs out of memory leaves of the text that it appends.
use Rattle.std.specs.Prelude.{◌≡◌, ℕ, List, ◌++◌}

-- A beginning of the text was appended, and nothing else.
pub record Begun (old new text : List ℕ) : Type 0 where
  pub front : List ℕ
  pub rest : List ℕ
  pub appended : new ≡ old ++ front
  pub whole : text ≡ front ++ rest
