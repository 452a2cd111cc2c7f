-- Texts that stand in rows of a fixed length, and the one that the lines of `printf` of a state set have in common.
use Rattle.std.specs.Prelude.{ℕ, List, ◌++◌, codes, take}
use Rattle.snl_output.specs.declared.texts.Short.{Short}
use Rattle.snl_output.specs.declared.texts.Text.{Text}

-- what a short text says: the bytes at the front of its row
abbrev pub short_of : Short → List ℕ
short_of s = take s.count s.bytes

-- what a text says: its front, and what is behind that
abbrev pub text_in : Text → List ℕ
text_in t = short_of t.front ++ t.more.items

-- what stands between the time and the text of a `printf`
abbrev pub print_rest : List ℕ → List ℕ
print_rest set = codes " print " ++ (set ++ codes " ")
