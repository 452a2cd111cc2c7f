-- An output with the lines of a program and of a requirement beside each other.
use Rattle.std.specs.Prelude.{◌≡◌, ◌==◌, ℕ, Bool, false, List, [], ◌∷◌, ◌++◌, bytes_eq, codes, drop, filter, map, not, take}
use Rattle.snl_output.specs.TraceLines.{lines_to, whole_lines}

-- Lines as a text, each with its newline.
unfoldable pub text_of_lines : List (List ℕ) → List ℕ
text_of_lines [] = []
text_of_lines (line ∷ lines) = line ++ 10 ∷ text_of_lines lines

-- Whether a line begins with `#`, as no line of a program does: each of them begins with its time.
abbrev pub is_note : List ℕ → Bool
is_note [] = false
is_note (byte ∷ bytes) = byte == 35

-- Whether a line is one of the requirement: `# watch ` stands in front.
abbrev pub is_watch : List ℕ → Bool
is_watch line = bytes_eq (take 8 line) (codes "# watch ")

-- The lines of the program, of an output,
abbrev pub run_lines : List ℕ → List (List ℕ)
run_lines text = filter (λ line. not (is_note line)) (whole_lines text)

-- and those of the requirement, without what stands in front.
abbrev pub watch_lines : List ℕ → List (List ℕ)
watch_lines text = map (drop 8) (filter is_watch (whole_lines text))

-- Each line of a text has its newline.
abbrev pub IsWhole : List ℕ → Type 0
IsWhole text = (last : List ℕ → List (List ℕ)) → lines_to last [] text ≡ whole_lines text ++ last []

-- An output has what the program wrote, and what the requirement did.
abbrev pub IsPrinted : (run watch text : List ℕ) → Type 0
IsPrinted run watch text = IsWhole text × ((text_of_lines (run_lines text) ≡ run) × (text_of_lines (watch_lines text) ≡ watch))
