-- What the counts of a run say of its lines.
use Rattle.std.proofs.Common.{◌≡◌, ◌∙◌, ℕ, List, [], Some, ap, map, refl, subst, sym}
use Rattle.snl_output.specs.TraceLines.{lines_to, whole_lines}
use Rattle.snl_watch.specs.Counts.{Reading, count_in, cut, no_cut, reading_of}
use Rattle.snl_watch.proofs.WholeLines.{cut-is-whole-lines}
use Rattle.snl_coverage.specs.Coverage.{AreCounts}
use Rattle.snl_coverage.proofs.Counting.{are-counts}

-- counts that were taken of what a text shows
pub counts-of-text : (keys : List (List ℕ)) (room : ℕ) (r : Reading) (text : List ℕ) (texts : List (List ℕ)) (counts : List ℕ) → r ≡ reading_of keys room (cut text) →
    map (count_in keys room r.2) texts ≡ map (λ (n : ℕ). Some n) counts → AreCounts texts counts (whole_lines text)
counts-of-text keys room r text texts counts is taken =
    subst (λ lines. AreCounts texts counts lines) (cut-is-whole-lines text)
    (are-counts keys room (cut text).done texts counts (ap (λ (s : Reading). map (count_in keys room s.2) texts) (sym is) ∙ taken))

-- an empty text has no line
none-whole : whole_lines [] ≡ []
unfolding lines_to
none-whole = refl

-- counts that were taken of nothing
pub counts-of-nothing : (keys : List (List ℕ)) (room : ℕ) (r : Reading) (texts : List (List ℕ)) (counts : List ℕ) → r ≡ reading_of keys room no_cut →
    map (count_in keys room r.2) texts ≡ map (λ (n : ℕ). Some n) counts → AreCounts texts counts []
counts-of-nothing keys room r texts counts is taken =
    subst (λ lines. AreCounts texts counts lines) none-whole (counts-of-text keys room r [] texts counts is taken)
