-- What is told of two programs over a trace.
use Rattle.std.specs.Prelude.{◌≡◌, ◌+◌, ◌<◌, ℕ, Bool, true, false, List, [], ◌∷◌, ◌++◌, Option, None, Some, IsSome, length}
use Rattle.snl_output.specs.TraceLines.{lines_from, whole_lines}
use Rattle.snl_same.specs.Lines.{AreApartAt, Pair, PairIsAlike, end_in, new_at, old_at}
use Rattle.snl_same.specs.declared.differences.Apart.{Apart}
use Rattle.snl_same.specs.declared.differences.Difference.{Difference}
use Rattle.snl_same.specs.declared.differences.Close.{Close}
use Rattle.snl_same.specs.declared.differences.Close.TheVariants.{LineTooLong, RunEnded, SourceFailed, TraceEnded}
use Rattle.snl_trace.specs.RunOver.{MayFollow}
use Rattle.snl_trace.specs.declared.runner.End.{End}

-- At one of some lines two programs are apart for the first time: at each line before it both went on and wrote the same.
pub record DiffersAt (p : Pair) (lines : List (List ℕ)) (d : Difference) : Type 0 where
  pub before : List (List ℕ)
  pub line : List ℕ
  pub after : List (List ℕ)
  pub are : lines ≡ before ++ line ∷ after
  pub number_is : d.number ≡ 1 + length before
  pub alike : PairIsAlike p before
  pub apart : AreApartAt p.filter (old_at p before line) (new_at p before line) (Some d.apart)

-- At one of some lines both runs end, and alike, and they wrote the same up to there.
pub record EndsAlike (p : Pair) (lines : List (List ℕ)) (old new : Option End) : Type 0 where
  pub before : List (List ℕ)
  pub line : List ℕ
  pub after : List (List ℕ)
  pub are : lines ≡ before ++ line ∷ after
  pub alike : PairIsAlike p before
  pub same : AreApartAt p.filter (old_at p before line) (new_at p before line) None
  pub ends : IsSome old
  pub old_is : end_in (old_at p before line) ≡ old
  pub new_is : end_in (new_at p before line) ≡ new

-- One of some lines is too long, and both went on and wrote the same up to there.
pub record HasLong (p : Pair) (lines : List (List ℕ)) (number : ℕ) : Type 0 where
  pub before : List (List ℕ)
  pub line : List ℕ
  pub after : List (List ℕ)
  pub are : lines ≡ before ++ line ∷ after
  pub number_is : number ≡ 1 + length before
  pub alike : PairIsAlike p before
  pub long : 32768 < length line

-- The first difference, once one more line was done: the one that was known, or that of this line, which has a number.
abbrev pub first_of : Option Difference → (number : ℕ) → Option Apart → Option Difference
first_of (Some d) number apart = Some d
first_of None number None = None
first_of None number (Some apart) = Some (record { number = number; apart = apart })

-- A difference is the first one; where none was found, this holds.
abbrev pub OrDiffers : Pair → List (List ℕ) → Option Difference → Type 0 → Type 0
OrDiffers p lines (Some d) fact = DiffersAt p lines d
OrDiffers p lines None fact = fact

-- Whether a comparison ended since no more of the trace could be read.
abbrev pub source_failed : Close → Bool
source_failed SourceFailed = true
source_failed TraceEnded = false
source_failed (RunEnded old new) = false
source_failed (LineTooLong number) = false

-- What was found over some lines is right, by the first difference and by how the comparison ended: where no difference is told,
-- both went on and wrote the same at each line, or up to the one at which they end alike or that is too long.
abbrev pub IsFound : Pair → List (List ℕ) → Option Difference → Close → Type 0
IsFound p lines first TraceEnded = OrDiffers p lines first (PairIsAlike p lines)
IsFound p lines first (RunEnded old new) = OrDiffers p lines first (EndsAlike p lines old new)
IsFound p lines first (LineTooLong number) = OrDiffers p lines first (HasLong p lines number)
IsFound p lines first SourceFailed = ⊥

-- The same over what a trace gave that has ended or not, whatever may follow; where it could not be read to its end, over the lines
-- that came whole.
abbrev pub IsFoundOver : Pair → (gave : List ℕ) → (ended : Bool) → Option Difference → Close → Type 0
IsFoundOver p gave ended first SourceFailed = OrDiffers p (whole_lines gave) first (PairIsAlike p (whole_lines gave))
IsFoundOver p gave ended first TraceEnded = (more : List ℕ) → MayFollow ended more → IsFound p (lines_from [] (gave ++ more)) first TraceEnded
IsFoundOver p gave ended first (RunEnded old new) = (more : List ℕ) → MayFollow ended more → IsFound p (lines_from [] (gave ++ more)) first (RunEnded old new)
IsFoundOver p gave ended first (LineTooLong number) = (more : List ℕ) → MayFollow ended more → IsFound p (lines_from [] (gave ++ more)) first (LineTooLong number)
