-- The reserved words.
use Rattle.std.specs.Prelude.{ℕ, List, [], ◌∷◌, codes, bytes_eq, if◌then◌else◌}
use Rattle.snl_text.specs.declared.kinds.Kind.{Kind}
use Rattle.snl_text.specs.declared.kinds.Kind.TheVariants as k

-- each reserved word, and what sort of token it is
abbrev pub reserved_words : List (List ℕ × Kind)
reserved_words =
    (codes "assign", k.Assign)
    ∷ (codes "break", k.Break)
    ∷ (codes "char", k.Char)
    ∷ (codes "continue", k.Continue)
    ∷ (codes "double", k.Double)
    ∷ (codes "else", k.Else)
    ∷ (codes "entry", k.Entry)
    ∷ (codes "enum", k.Enum)
    ∷ (codes "evflag", k.EventFlag)
    ∷ (codes "exit", k.Exit)
    ∷ (codes "float", k.Float)
    ∷ (codes "for", k.For)
    ∷ (codes "foreign", k.Foreign)
    ∷ (codes "if", k.If)
    ∷ (codes "int", k.Int)
    ∷ (codes "int8_t", k.Int8)
    ∷ (codes "int16_t", k.Int16)
    ∷ (codes "int32_t", k.Int32)
    ∷ (codes "int64_t", k.Int64)
    ∷ (codes "long", k.Long)
    ∷ (codes "monitor", k.Monitor)
    ∷ (codes "option", k.OptionWord)
    ∷ (codes "program", k.Program)
    ∷ (codes "return", k.Return)
    ∷ (codes "short", k.Short)
    ∷ (codes "sizeof", k.Sizeof)
    ∷ (codes "ss", k.StateSet)
    ∷ (codes "state", k.State)
    ∷ (codes "string", k.StringType)
    ∷ (codes "struct", k.Struct)
    ∷ (codes "sync", k.Sync)
    ∷ (codes "syncq", k.SyncQueue)
    ∷ (codes "syncQ", k.SyncQueue)
    ∷ (codes "to", k.To)
    ∷ (codes "typename", k.Typename)
    ∷ (codes "uint8_t", k.Uint8)
    ∷ (codes "uint16_t", k.Uint16)
    ∷ (codes "uint32_t", k.Uint32)
    ∷ (codes "uint64_t", k.Uint64)
    ∷ (codes "union", k.Union)
    ∷ (codes "unsigned", k.Unsigned)
    ∷ (codes "void", k.Void)
    ∷ (codes "when", k.When)
    ∷ (codes "while", k.While)
    ∷ []

-- what the word is in a list of words; a name, where it is not there
abbrev pub kind_among : List (List ℕ × Kind) → List ℕ → Kind
kind_among [] word = k.Name
kind_among (entry ∷ entries) word = if bytes_eq word entry.0 then entry.1 else kind_among entries word

-- the reserved word that it is, or else a name
unfoldable pub word_kind : List ℕ → Kind
word_kind word = kind_among reserved_words word
