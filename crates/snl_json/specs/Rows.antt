-- Rows: what a tree is written as. Each row has a number, the first one 1.
use Rattle.std.specs.Prelude.{ℕ, Bool, List, [], ◌∷◌, ◌++◌, length, map, codes, Option, None, Some}
use Rattle.std.specs.List.{flat_map}
use Rattle.std.specs.Char.{encode_utf8}
use Rattle.serde_json.specs.Data.{Data, null, boolean, number, string, array, unsigned, no_items, item}
use Rattle.serde_json.specs.View.{view, items_of}
use Rattle.serde_json.specs.declared.value.Value.{Value}
use Rattle.snl_text.specs.declared.tokens.Token.{Token}
use Rattle.snl_json.specs.declared.rows.Part.{Part}
use Rattle.snl_json.specs.declared.rows.Part.TheVariants as part
use Rattle.snl_json.specs.Kinds.{kind_name}

-- The rows that were made.
abbrev pub made : List Value → List Data
made values = map view values

-- A number.
abbrev pub counted : ℕ → Data
counted n = number (unsigned n)

-- Bytes as letters: each is the letter of that number.
abbrev pub letters : List ℕ → List ℕ
letters text = flat_map encode_utf8 text

-- A token: its kind, its text and its place, which is an offset, a file and a line.
unfoldable pub token_data : Token → Data
token_data t =
    array (item (string (kind_name t.kind)) (item (string (letters t.text.now))
    (item (counted t.pos.offset) (item (counted t.pos.file) (item (counted t.pos.line) no_items)))))

-- A part of a row: a tree by the number of its row, nothing, whether something is written, or a token.
unfoldable pub part_data : Part → Data
part_data (part.Tree n) = counted n
part_data part.Missing = null
part_data (part.Flag b) = boolean b
part_data (part.Word t) = token_data t

-- Parts, one after another.
abbrev pub parts_listed : List Part → List Data
parts_listed parts = map part_data parts

-- A row of a form with its parts, behind others.
unfoldable pub with_row : List ℕ → List Part → List Data → List Data
with_row form parts rows = rows ++ array (items_of (string form ∷ parts_listed parts)) ∷ []

-- The tree of the last row.
unfoldable pub last : List Data → Part
last rows = part.Tree (length rows)

-- A token that may be missing.
abbrev pub maybe_word : Option Token → Part
maybe_word None = part.Missing
maybe_word (Some t) = part.Word t

-- A tree that may be missing: its rows,
abbrev pub with_maybe : {A : Type 0} → (A → List Data → List Data) → Option A → List Data → List Data
with_maybe put None rows = rows
with_maybe put (Some x) rows = put x rows

-- and how another row names it, behind these.
abbrev pub maybe_last : {A : Type 0} → Option A → List Data → Part
maybe_last None rows = part.Missing
maybe_last (Some x) rows = last rows

-- A thing in front of a list, each by the last of its rows.
abbrev pub with_first : {A : Type 0} → (A → List Data → List Data) → A → List Data → List Data
with_first put x rest = with_row (codes "cons") (last (put x rest) ∷ last rest ∷ []) (put x rest)

-- Things in front of a list, the last one first.
abbrev pub with_things : {A : Type 0} → (A → List Data → List Data) → List A → List Data → List Data
with_things put [] rest = rest
with_things put (x ∷ xs) rest = with_first put x (with_things put xs rest)

-- The empty list.
abbrev pub with_nil : List Data → List Data
with_nil rows = with_row (codes "nil") [] rows

-- A list.
abbrev pub with_list : {A : Type 0} → (A → List Data → List Data) → List A → List Data → List Data
with_list put xs rows = with_things put xs (with_nil rows)

-- Tokens in front of a list, the last one first.
abbrev pub with_tokens : List Token → List Data → List Data
with_tokens [] rest = rest
with_tokens (t ∷ ts) rest = let others = with_tokens ts rest in with_row (codes "cons") (part.Word t ∷ last others ∷ []) others

-- A list of tokens.
abbrev pub with_words : List Token → List Data → List Data
with_words ts rows = with_tokens ts (with_nil rows)
