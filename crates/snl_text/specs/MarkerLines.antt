-- What a marker line is, told by its parts; and the laws that such lines are those which are read as markers.
use Rattle.std.specs.Prelude.{ℕ, ◌+◌, ◌<◌, ◌≡◌, ◌⊎◌, true, false, List, [], ◌∷◌, ◌++◌, length, codes, Option, Some, None, slice_index, slice_range}
use Rattle.std.specs.List.{list_all}
use Rattle.snl_text.specs.Bytes.{is_blank, is_digit, is_inner_blank}
use Rattle.snl_text.specs.Markers.{marker_at}
use Rattle.snl_text.specs.Numbers.{digits_value}
use Rattle.snl_text.specs.Quotes.{quoted}
use Rattle.snl_text.specs.declared.markers.Marker.{Marker}
use Rattle.snl_text.specs.declared.markers.Span.{Span}

-- the rest of a line stands apart from what is before it: it is empty, or begins with a blank
abbrev pub IsApart : List ℕ → Type 0
IsApart rest = (rest ≡ []) ⊎ (is_blank (slice_index rest 0) ≡ true)

-- The rest of a line names a file: blanks, the name as a whole string, and nothing or a blank and anything.
pub record NamesFile (rest name : List ℕ) : Type 0 where
  pub blanks : List ℕ
  pub more : List ℕ
  pub is : rest ≡ blanks ++ (codes "\"" ++ (name ++ (codes "\"" ++ more)))
  pub blank : list_all is_inner_blank blanks ≡ true
  -- the name ends at the first quote that closes it
  pub closes : quoted false (name ++ codes "\"") ≡ Some (length name + 1)
  pub apart : IsApart more

-- the file that the rest of a line names, if it names one
abbrev pub Names : List ℕ → Option (List ℕ) → Type 0
Names rest None = (name : List ℕ) → NamesFile rest name → ⊥
Names rest (Some name) = NamesFile rest name

-- nothing, or the word `line` and one blank
abbrev pub IsLineWord : List ℕ → Type 0
IsLineWord word = (word ≡ []) ⊎ ((blank : ℕ) × ((is_blank blank ≡ true) × (word ≡ codes "line" ++ blank ∷ [])))

-- The line says that the next one has this number, in this file or, if none is named, in the same one.
pub record IsMarkerLine (line : List ℕ) (number : ℕ) (file : Option (List ℕ)) : Type 0 where
  pub blanks : List ℕ
  pub word : List ℕ
  pub digits : List ℕ
  pub rest : List ℕ
  pub is : line ≡ codes "#" ++ (blanks ++ (word ++ (digits ++ rest)))
  pub blank : list_all is_inner_blank blanks ≡ true
  pub word_is : IsLineWord word
  -- 1 to 9 decimal digits
  pub digit : list_all is_digit digits ≡ true
  pub some : 0 < length digits
  pub few : length digits < 10
  pub number_is : number ≡ digits_value 10 digits
  pub apart : IsApart rest
  pub names : Names rest file

-- the bytes of a span
abbrev pub spanned : List ℕ → Option Span → Option (List ℕ)
spanned line None = None
spanned line (Some span) = Some (slice_range line span.start span.end)

-- What is read as a marker is a marker line, with that number and that name.
abbrev pub MarkersAreLines : Type 0
MarkersAreLines = (rest : List ℕ) (marker : Marker) → marker_at (codes "#" ++ rest) ≡ Some marker →
    IsMarkerLine (codes "#" ++ rest) marker.line (spanned (codes "#" ++ rest) marker.name)

-- A marker line is read as a marker, with its number and its name.
abbrev pub LinesAreMarkers : Type 0
LinesAreMarkers = (line : List ℕ) (number : ℕ) (file : Option (List ℕ)) → IsMarkerLine line number file →
    (marker : Marker) × ((marker_at line ≡ Some marker) × ((marker.line ≡ number) × (spanned line marker.name ≡ file)))
