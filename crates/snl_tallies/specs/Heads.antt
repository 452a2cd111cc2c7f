-- The first line of a file of counts: which program, of which version, they are of.
use Rattle.std.specs.Prelude.{ℕ, List, [], ◌∷◌, ◌++◌, codes, decimal, length}
use Rattle.hex.specs.Hex.{encode_lower}
use Rattle.sha2.specs.Sha256.{sha256}

-- A program as it was run: the words that its run depends on (options and budget), its macros, and its source, with the sizes of the
-- first two in front, so that no two programs are written alike.
abbrev pub message : (words macros source : List ℕ) → List ℕ
message words macros source = decimal (length words) ++ 32 ∷ (decimal (length macros) ++ 10 ∷ (words ++ (macros ++ source)))

-- What stands in front of the digest: these words, the version, and a blank (32).
abbrev pub front : (version : List ℕ) → List ℕ
front version = codes "snl counts " ++ (version ++ 32 ∷ [])

-- The first line: its front, the digest of the program as 64 digits, and a newline (10).
abbrev pub head : (version words macros source : List ℕ) → List ℕ
head version words macros source = front version ++ (encode_lower (sha256 (message words macros source)) ++ 10 ∷ [])
