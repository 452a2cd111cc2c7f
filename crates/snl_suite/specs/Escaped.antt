-- A text in XML.
use Rattle.std.specs.Prelude.{◌==◌, ℕ, List, [], ◌∷◌, ◌++◌, codes, if◌then◌else◌}

-- What stands for a byte in XML, also between double quotes: a name for what XML uses itself.
abbrev pub escaped_byte : ℕ → List ℕ
escaped_byte n =
    if n == 38 then codes "&amp;" else
    (if n == 60 then codes "&lt;" else
    (if n == 62 then codes "&gt;" else
    (if n == 34 then codes "&quot;" else n ∷ [])))

-- The same of a text, byte by byte.
unfoldable pub escaped : List ℕ → List ℕ
escaped [] = []
escaped (byte ∷ bytes) = escaped_byte byte ++ escaped bytes
