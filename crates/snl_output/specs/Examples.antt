-- What a sink is told of small texts by calls that fail, and by calls that do not.
use Rattle.std.specs.Prelude.{ℕ, List, [], Some, Result, Ok, Err, codes}
use Rattle.snl_output.specs.Devices.{Wrote}
use Rattle.snl_output.specs.Held.{Adds}

-- a call that did not fail
abbrev pub well : Result (Unit {0}) (Unit {0})
well = Ok tt

-- one that failed
abbrev pub failed : Result (Unit {0}) (Unit {0})
failed = Err tt

-- A sink that took `ab` before is handed `cd`, and then tells a text.
abbrev pub Told : Result (Unit {0}) (Unit {0}) → List ℕ → Type 0
Told result now = Wrote result (codes "cd") (Some (codes "ab")) (Some now)

-- A call that does not fail hands over all. One that fails may have handed over nothing, or a part that begins the text, but not
-- all of it, nor its end without its beginning.
pub record WriteExamples : Type 0 where
  pub all : Told well (codes "abcd")
  pub lost : Told well (codes "abc") → ⊥
  pub none : Told failed (codes "ab")
  pub part : Told failed (codes "abc")
  pub whole : Told failed (codes "abcd") → ⊥
  pub end : Told failed (codes "abd") → ⊥
  pub before : Told failed (codes "a") → ⊥

-- That sink gets `cd` by way of a line that holds back a text then.
abbrev pub Held : Result (Unit {0}) (Unit {0}) → List ℕ → List ℕ → Type 0
Held result held now = Adds result (codes "cd") held (Some (codes "ab")) (Some now)

-- What the line does not hold back was handed over, all of it, where the call did not fail; where it did, some of it is lost.
pub record HoldExamples : Type 0 where
  pub kept : Held well (codes "cd") (codes "ab")
  pub sent : Held well (codes "d") (codes "abc")
  pub lost : Held well [] (codes "abc") → ⊥
  pub twice : Held well (codes "cd") (codes "abc") → ⊥
  pub part : Held failed [] (codes "abc")
  pub whole : Held failed [] (codes "abcd") → ⊥
