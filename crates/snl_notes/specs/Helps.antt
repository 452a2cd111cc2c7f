-- A line of help.
use Rattle.std.specs.Prelude.{ℕ, List, [], ◌∷◌, ◌++◌, codes, decimal}
use Rattle.std.specs.List.{concat}
use Rattle.snl_notes.specs.declared.helps.Help.{Help}
use Rattle.snl_notes.specs.declared.helps.Help.TheVariants.{Words, Named, Counted, Compared, Placed}

-- Its words.
abbrev pub words_of : Help → List ℕ
words_of (Words words) = words.now
words_of (Named front name back) = concat (front.now ∷ name.now ∷ back.now ∷ [])
words_of (Counted front number back) = concat (front.now ∷ decimal number ∷ back.now ∷ [])
words_of (Compared front one middle other back) = concat (front.now ∷ decimal one ∷ middle.now ∷ decimal other ∷ back.now ∷ [])
words_of (Placed front name middle number back) = concat (front.now ∷ name.now ∷ middle.now ∷ decimal number ∷ back.now ∷ [])

-- The line.
abbrev pub line_of : Help → List ℕ
line_of h = concat (codes "  = help: " ∷ words_of h ∷ codes "\n" ∷ [])
