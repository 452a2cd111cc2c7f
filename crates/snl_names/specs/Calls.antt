-- The forms of the arguments of calls.
use Rattle.std.specs.Prelude.{ℕ, zero, suc, ◌==◌, Bool, true, false, ◌&&◌, List, [], ◌∷◌, Option, Some, None, codes, bytes_eq, if◌then◌else◌}
use Rattle.snl_text.specs.declared.tokens.Pos.{Pos}
use Rattle.snl_syntax.specs.Expressions.{ExprTree, ArgumentList, named, element, no_arguments, value, text}
use Rattle.snl_names.specs.declared.builtins.Builtin.{Builtin}
use Rattle.snl_names.specs.declared.builtins.Builtin.TheVariants.{Delay, PvPut}
use Rattle.snl_names.specs.declared.calls.Heading.{Heading}
pub use Rattle.snl_names.specs.declared.calls.CallKind.{CallKind}
pub use Rattle.snl_names.specs.declared.calls.CallKind.TheVariants.{Unknown, BuiltIn, Defined}
use Rattle.snl_names.specs.declared.calls.Form.{Form}
use Rattle.snl_names.specs.declared.calls.Form.TheVariants.{ChannelPlace, PutPlace, QueueName, FlagName, Seconds, Nothing, Format}
use Rattle.snl_names.specs.Builtins.{builtin_of, form_of}
use Rattle.snl_names.specs.Scopes.{is_spelled}

-- A name, alone.
abbrev pub is_name : ExprTree → Bool
is_name (named x) = true
is_name _ = false

-- A name, or an element of an array.
abbrev pub is_place : ExprTree → Bool
is_place (named x) = true
is_place (element x b e) = true
is_place _ = false

-- The word that asks `pvPut` not to wait for the answer of its channel: that token alone.
abbrev pub is_async : ExprTree → Bool
is_async (named x) = bytes_eq x.text.now (codes "ASYNC")
is_async _ = false

-- There is no string among the arguments.
abbrev pub are_values : ArgumentList → Bool
are_values no_arguments = true
are_values (value e rest) = are_values rest
are_values (text t rest) = false

-- The arguments have the form that the call takes: one place, with the word `ASYNC` behind it or not where it is that of a put, one name,
-- one expression, nothing, or a string and then expressions.
abbrev pub fits : Form → ArgumentList → Bool
fits ChannelPlace (value e no_arguments) = is_place e
fits PutPlace (value e no_arguments) = is_place e
fits PutPlace (value e (value a no_arguments)) = is_place e && is_async a
fits QueueName (value e no_arguments) = is_name e
fits FlagName (value e no_arguments) = is_name e
fits Seconds (value e no_arguments) = true
fits Nothing no_arguments = true
fits Format (text t rest) = are_values rest
fits _ _ = false

-- How many arguments there are.
abbrev pub count_of : ArgumentList → ℕ
count_of no_arguments = 0
count_of (value e rest) = suc (count_of rest)
count_of (text t rest) = suc (count_of rest)

-- The first of some functions that has a name.
abbrev pub heading_in : List Heading → List ℕ → Option Heading
heading_in [] name = None
heading_in (f ∷ fs) name = if is_spelled name f.name then Some f else heading_in fs name

-- One of the program's, if there is one.
abbrev pub defined : Option Heading → CallKind
defined None = Unknown
defined (Some f) = Defined f

-- A built-in function, or one of the program's.
abbrev pub or_defined : Option Builtin → Option Heading → CallKind
or_defined (Some b) f = BuiltIn b
or_defined None f = defined f

-- What a call of a name calls, where these functions are in sight.
abbrev pub call_kind : List Heading → List ℕ → CallKind
call_kind fs name = or_defined (builtin_of name) (heading_in fs name)

-- The arguments have the form that the call takes; those of one that is not known never do.
abbrev pub is_fitting : CallKind → ArgumentList → Bool
is_fitting Unknown all = false
is_fitting (BuiltIn b) all = fits (form_of b) all
is_fitting (Defined f) all = are_values all && count_of all == f.parameters

-- It is known what is called.
abbrev pub is_known : CallKind → Bool
is_known Unknown = false
is_known _ = true

-- It is `delay`, which stands in conditions alone.
abbrev pub is_delay : CallKind → Bool
is_delay (BuiltIn Delay) = true
is_delay _ = false

-- The call has a value, or that is not known.
abbrev pub has_value : CallKind → Bool
has_value (Defined f) = f.has_value
has_value _ = true

-- The place of a function of the program.
abbrev pub place_called : CallKind → Option Pos
place_called (Defined f) = Some f.name.pos
place_called _ = None

-- ---- the word `ASYNC`

-- Whether it stands behind the first argument of a put, as the last one.
abbrev pub has_async : ArgumentList → Bool
has_async (value e no_arguments) = is_async e
has_async _ = false

-- How many arguments there are up to the one that may be that word: two for `pvPut`, and none elsewhere. It is counted down from argument to
-- argument.
abbrev pub word_at : Option Builtin → ℕ
word_at (Some PvPut) = 2
word_at _ = 0

-- An argument that is that word, where so many are left up to its place. It is no use of a name.
abbrev pub is_word : ℕ → ExprTree → Bool
is_word (suc zero) e = is_async e
is_word _ e = false

-- Nothing, where it is the word.
abbrev pub unless : {A : Type 0} → Bool → List A → List A
unless true found = []
unless false found = found
