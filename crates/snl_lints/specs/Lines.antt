-- The text of remarks: a line for each, `FILE:LINE:COLUMN: warning: TEXT [NAME]`.
use Rattle.std.specs.Prelude.{ℕ, ◌-◌, ◌==◌, Bool, ◌||◌, List, [], ◌∷◌, ◌++◌, Option, None, Some, slice_index_or, bytes_eq, if◌then◌else◌, codes, decimal}
use Rattle.std.specs.List.{concat, flat_map, list_any}
use Rattle.snl_lints.specs.declared.remarks.Lint.{Lint}
use Rattle.snl_lints.specs.declared.remarks.Lint.TheVariants.{Itself, Shared, Stale, Unread, Unput, Equals, Comma, Answered, Undefined, Unclosed, Unspoken, Faulting, Unfitting, Missing}
use Rattle.snl_lints.specs.declared.remarks.Remark.{Remark}
use Rattle.snl_lints.specs.Columns.{column_of}

-- ---- names and words

-- The name of a lint.
abbrev pub name_of : Lint → List ℕ
name_of Itself = codes "itself"
name_of Shared = codes "shared"
name_of Stale = codes "stale"
name_of Unread = codes "unread"
name_of Unput = codes "unput"
name_of Equals = codes "equals"
name_of Comma = codes "comma"
name_of Answered = codes "answered"
name_of Undefined = codes "macro"
name_of Unclosed = codes "macro"
name_of Unspoken = codes "unspoken"
name_of Faulting = codes "constant"
name_of Unfitting = codes "constant"
name_of Missing = codes "constant"

-- The lint of a name, of those that speak of what is done with a variable.
abbrev pub variable_lint_of : List ℕ → Option Lint
variable_lint_of name =
    if bytes_eq name (codes "shared") then Some Shared
    else (if bytes_eq name (codes "stale") then Some Stale
    else (if bytes_eq name (codes "unread") then Some Unread
    else (if bytes_eq name (codes "unput") then Some Unput else None)))

-- The lint of a name, of those that speak of channels and constants. What one name has several of counts by the first.
abbrev pub constant_lint_of : List ℕ → Option Lint
constant_lint_of name =
    if bytes_eq name (codes "macro") then Some Undefined
    else (if bytes_eq name (codes "unspoken") then Some Unspoken
    else (if bytes_eq name (codes "constant") then Some Faulting else variable_lint_of name))

-- The lint of a name, if there is one.
abbrev pub lint_of : List ℕ → Option Lint
lint_of name =
    if bytes_eq name (codes "itself") then Some Itself
    else (if bytes_eq name (codes "equals") then Some Equals
    else (if bytes_eq name (codes "comma") then Some Comma
    else (if bytes_eq name (codes "answered") then Some Answered else constant_lint_of name)))

-- What a remark says behind the token that it quotes.
abbrev pub words_of : Lint → List ℕ
words_of Itself = codes "' leads back to itself and leaves its entry or exit block out; options -e and -x do them"
words_of Shared = codes "' is set in one state set and read in another, and each has a copy of its own"
words_of Stale = codes "' is read, and no monitor, pvGet or assignment gives it a value"
words_of Unread = codes "' is monitored and never read"
words_of Unput = codes "' is set and never put"
words_of Equals = codes "' sets a variable in a condition; == compares, and ((x = y)) is taken as meant"
words_of Comma = codes "' in a condition: what stands before it decides nothing; && takes both"
words_of Answered = codes "' is never put with ASYNC, so pvPutComplete is always 1"
words_of Undefined = codes "' has a macro that neither the program nor MACROS defines: nothing stands in its place"
words_of Unclosed = codes "' has a { that no } follows: it stays in the name"
words_of Unspoken = codes "' names a channel that no trace can name: a name there is printable ASCII without blanks, at most 32763 bytes"
words_of Faulting = codes "' faults by its constants whenever it is computed"
words_of Unfitting = codes "' is given a number that its type does not have"
words_of Missing = codes "' has no element of this number"

-- ---- places

-- What a file is called: the one that was read by the word of the call, and one that markers named, from 1 on, by its name.
abbrev pub file_name : List ℕ → List (List ℕ) → ℕ → List ℕ
file_name word names file = if file == 0 then word else slice_index_or names (file - 1) word

-- ---- lines

-- Where a remark stands, and the token that it quotes, where the text that was read and the names of its files are these.
abbrev pub place_of : List ℕ → List (List ℕ) → List ℕ → Remark → List ℕ
place_of source names word r =
    concat (file_name word names r.token.pos.file ∷ codes ":" ∷ decimal r.token.pos.line ∷ codes ":" ∷ decimal (column_of source r.token.pos.offset)
    ∷ codes ": warning: '" ∷ r.token.text.now ∷ [])

-- What a lint says behind that, with its name.
abbrev pub saying_of : Lint → List ℕ
saying_of l = concat (words_of l ∷ codes " [" ∷ name_of l ∷ codes "]\n" ∷ [])

-- A remark.
abbrev pub line_of : List ℕ → List (List ℕ) → List ℕ → Remark → List ℕ
line_of source names word r = place_of source names word r ++ saying_of r.lint

-- A name is one of these.
abbrev pub is_among : List (List ℕ) → List ℕ → Bool
is_among names name = list_any (λ n. bytes_eq n name) names

-- What a lint says on a line is silenced by its name, or by `NAME=LINE`.
abbrev pub is_silenced : List (List ℕ) → Lint → ℕ → Bool
is_silenced silenced l line = is_among silenced (name_of l) || is_among silenced (concat (name_of l ∷ codes "=" ∷ decimal line ∷ []))

-- A remark, where it is not silenced.
abbrev pub line_unless : List (List ℕ) → List ℕ → List (List ℕ) → List ℕ → Remark → List ℕ
line_unless silenced source names word r = if is_silenced silenced r.lint r.token.pos.line then [] else line_of source names word r

-- All lines.
abbrev pub remarks_text : List (List ℕ) → List ℕ → List (List ℕ) → List ℕ → List Remark → List ℕ
remarks_text silenced source names word remarks = flat_map (line_unless silenced source names word) remarks
