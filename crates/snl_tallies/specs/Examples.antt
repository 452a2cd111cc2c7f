-- Files of small counts, and what the digests of programs are of.
use Rattle.std.specs.Prelude.{◌≡◌, ℕ, List, [], ◌∷◌, codes}
use Rattle.snl_tallies.specs.Counts.{IsFileOf, IsNoFileOf, line_of, text_of}
use Rattle.snl_tallies.specs.Heads.{front, head, message}

-- Two counts of a lamp: their file; and what is none, as one that is cut, one with a line too many, and one with a name of another
-- program.
pub record FileExamples : Type 0 where
  pub line : line_of (codes "entered room lit") 12 ≡ codes "entered room lit 12\n"
  pub lines : text_of (codes "a" ∷ codes "b" ∷ []) (1 ∷ 20 ∷ []) ≡ codes "a 1\nb 20\n"
  pub file : IsFileOf (codes "head\n") (codes "a" ∷ codes "b" ∷ []) (1 ∷ 20 ∷ []) (codes "head\na 1\nb 20\n")
  pub cut : IsNoFileOf (codes "head\n") (codes "a" ∷ codes "b" ∷ []) (codes "head\na 1\nb 20")
  pub more : IsNoFileOf (codes "head\n") (codes "a" ∷ []) (codes "head\na 1\nb 20\n")
  pub other : IsNoFileOf (codes "head\n") (codes "b" ∷ []) (codes "head\na 1\n")

-- What the digests of programs are of. `P=LAB:` and `P=LAB:X` differ, though macros and source are the same bytes together.
pub record DigestExamples : Type 0 where
  pub small : message (codes "100000") (codes "P=LAB:") (codes "program p") ≡ codes "6 6\n100000P=LAB:program p"
  pub other : message (codes "100000") (codes "P=LAB:p") (codes "rogram p") ≡ codes "6 7\n100000P=LAB:program p"
  pub none : message (codes "100000") [] (codes "program p") ≡ codes "6 0\n100000program p"
  pub line : front (codes "0.9.0") ≡ codes "snl counts 0.9.0 "
