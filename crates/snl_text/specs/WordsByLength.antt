-- The reserved words by their lengths, as the code looks them up. That they are those of the one list is proved.
use Rattle.std.specs.Prelude.{ℕ, List, codes, bytes_eq, if◌then◌else◌, length, ◌==◌}
use Rattle.snl_text.specs.declared.kinds.Kind.{Kind}
use Rattle.snl_text.specs.declared.kinds.Kind.TheVariants as k

-- the reserved words of two bytes
unfoldable pub word_of_two : List ℕ → Kind
word_of_two word =
    if bytes_eq word (codes "if") then k.If
    else (if bytes_eq word (codes "ss") then k.StateSet
    else (if bytes_eq word (codes "to") then k.To
    else k.Name))

-- the reserved words of three bytes
unfoldable pub word_of_three : List ℕ → Kind
word_of_three word =
    if bytes_eq word (codes "for") then k.For
    else (if bytes_eq word (codes "int") then k.Int
    else k.Name)

-- the reserved words of four bytes
unfoldable pub word_of_four : List ℕ → Kind
word_of_four word =
    if bytes_eq word (codes "char") then k.Char
    else (if bytes_eq word (codes "else") then k.Else
    else (if bytes_eq word (codes "enum") then k.Enum
    else (if bytes_eq word (codes "exit") then k.Exit
    else (if bytes_eq word (codes "long") then k.Long
    else (if bytes_eq word (codes "sync") then k.Sync
    else (if bytes_eq word (codes "void") then k.Void
    else (if bytes_eq word (codes "when") then k.When
    else k.Name)))))))

-- the reserved words of five bytes
unfoldable pub word_of_five : List ℕ → Kind
word_of_five word =
    if bytes_eq word (codes "break") then k.Break
    else (if bytes_eq word (codes "entry") then k.Entry
    else (if bytes_eq word (codes "float") then k.Float
    else (if bytes_eq word (codes "short") then k.Short
    else (if bytes_eq word (codes "state") then k.State
    else (if bytes_eq word (codes "syncq") then k.SyncQueue
    else (if bytes_eq word (codes "syncQ") then k.SyncQueue
    else (if bytes_eq word (codes "union") then k.Union
    else (if bytes_eq word (codes "while") then k.While
    else k.Name))))))))

-- the reserved words of six bytes
unfoldable pub word_of_six : List ℕ → Kind
word_of_six word =
    if bytes_eq word (codes "assign") then k.Assign
    else (if bytes_eq word (codes "double") then k.Double
    else (if bytes_eq word (codes "evflag") then k.EventFlag
    else (if bytes_eq word (codes "int8_t") then k.Int8
    else (if bytes_eq word (codes "option") then k.OptionWord
    else (if bytes_eq word (codes "return") then k.Return
    else (if bytes_eq word (codes "sizeof") then k.Sizeof
    else (if bytes_eq word (codes "string") then k.StringType
    else (if bytes_eq word (codes "struct") then k.Struct
    else k.Name))))))))

-- the reserved words of seven bytes
unfoldable pub word_of_seven : List ℕ → Kind
word_of_seven word =
    if bytes_eq word (codes "foreign") then k.Foreign
    else (if bytes_eq word (codes "int16_t") then k.Int16
    else (if bytes_eq word (codes "int32_t") then k.Int32
    else (if bytes_eq word (codes "int64_t") then k.Int64
    else (if bytes_eq word (codes "monitor") then k.Monitor
    else (if bytes_eq word (codes "program") then k.Program
    else (if bytes_eq word (codes "uint8_t") then k.Uint8
    else k.Name))))))

-- the reserved words of eight bytes
unfoldable pub word_of_eight : List ℕ → Kind
word_of_eight word =
    if bytes_eq word (codes "continue") then k.Continue
    else (if bytes_eq word (codes "typename") then k.Typename
    else (if bytes_eq word (codes "uint16_t") then k.Uint16
    else (if bytes_eq word (codes "uint32_t") then k.Uint32
    else (if bytes_eq word (codes "uint64_t") then k.Uint64
    else (if bytes_eq word (codes "unsigned") then k.Unsigned
    else k.Name)))))

-- the reserved word that it is, or else a name
unfoldable pub word_by_length : List ℕ → Kind
word_by_length word =
    if length word == 2 then word_of_two word
    else (if length word == 3 then word_of_three word
    else (if length word == 4 then word_of_four word
    else (if length word == 5 then word_of_five word
    else (if length word == 6 then word_of_six word
    else (if length word == 7 then word_of_seven word
    else (if length word == 8 then word_of_eight word
    else k.Name))))))
