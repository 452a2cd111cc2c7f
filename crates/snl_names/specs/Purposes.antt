-- What the parts of an expression are for, and the sites of its tokens.
use Rattle.std.specs.Prelude.{ℕ, Bool, true, false, not, ◌||◌, List, [], ◌∷◌, Option, Some, None}
use Rattle.snl_text.specs.declared.tokens.Token.{Token}
use Rattle.snl_text.specs.declared.kinds.Kind.{Kind}
use Rattle.snl_text.specs.declared.kinds.Kind.TheVariants as kind
use Rattle.snl_text.specs.declared.numbers.DecimalValue.{DecimalValue}
use Rattle.snl_text.specs.Numbers.{decimal_value}
use Rattle.snl_syntax.specs.Expressions.{ExprTree, parenthesized}
use Rattle.snl_names.specs.declared.calls.Form.{Form}
use Rattle.snl_names.specs.declared.calls.Form.TheVariants.{ChannelPlace, PutPlace, QueueName, FlagName, Seconds}
use Rattle.snl_names.specs.declared.sites.Purpose.{Purpose}
use Rattle.snl_names.specs.declared.sites.Purpose.TheVariants.{Read, Changed, Channel, Queued, Flagged, Delayed, Dropped, Ignored}
use Rattle.snl_names.specs.declared.sites.Site.{Site}
use Rattle.snl_names.specs.declared.sites.Site.TheVariants.{Decimal, Call, Format, Change}
use Rattle.snl_names.specs.Builtins.{form_of}
use Rattle.snl_names.specs.Calls.{is_place, CallKind, BuiltIn, Defined, is_known, is_delay, has_value, place_called}
use Rattle.snl_names.specs.Formats.{conversions_of}
use Rattle.snl_names.specs.Numbered.{is_number}

-- ---- purposes; what stands in a wrong call stays ignored all the way down

-- A part that gives a value: an operand, a subscript, a condition.
abbrev pub inner : Purpose → Purpose
inner Ignored = Ignored
inner _ = Read

-- Only the argument itself is a `delay`'s, and not what stands in parentheses there.
abbrev pub in_parentheses : Purpose → Purpose
in_parentheses Delayed = Read
in_parentheses Dropped = Read
in_parentheses p = p

-- What is assigned to.
abbrev pub target : Purpose → Purpose
target Ignored = Ignored
target _ = Changed

-- What the argument of a call is for, by the form that the call takes.
abbrev pub argument_of : Form → Purpose
argument_of ChannelPlace = Channel
argument_of PutPlace = Channel
argument_of QueueName = Queued
argument_of FlagName = Flagged
argument_of Seconds = Delayed
argument_of _ = Read

-- The arguments of a call, by its function and whether they have its form. Those of an unknown or wrong call are ignored.
abbrev pub argument : Purpose → CallKind → Bool → Purpose
argument Ignored c fitting = Ignored
argument p (BuiltIn b) true = argument_of (form_of b)
argument p (Defined f) true = Read
argument p _ _ = Ignored

-- It stands in an unknown or wrong call.
abbrev pub is_ignored : Purpose → Bool
is_ignored Ignored = true
is_ignored p = false

-- ---- sites

-- There is a number, and it is exact to its third digit after the point.
abbrev pub is_exact : Option DecimalValue → Bool
is_exact None = false
is_exact (Some d) = d.is_exact

-- A decimal constant is the whole argument of a `delay`, and has no digit but 0 after the third.
abbrev pub is_good_decimal : Purpose → List ℕ → Bool
is_good_decimal Ignored bytes = true
is_good_decimal Delayed bytes = is_exact (decimal_value bytes)
is_good_decimal p bytes = false

-- Of constants only decimal ones have a site.
abbrev pub at_constant : Purpose → Token → Kind → List Site
at_constant p t kind.Decimal = Decimal t (is_good_decimal p t.text.now) ∷ []
at_constant p t k = []

-- Its value is dropped.
abbrev pub is_dropped : Purpose → Bool
is_dropped Dropped = true
is_dropped p = false

-- A call: its function is known, its arguments have the form, a `delay` stands in a condition, and there is a value where one is used; with the
-- place of a function of the program.
abbrev pub at_call : Purpose → Bool → Token → CallKind → Bool → Site
at_call p in_condition f c fitting =
    Call f (is_known c || is_ignored p) (not (is_known c) || fitting || is_ignored p) (in_condition || not (is_delay c) || is_ignored p)
    (has_value c || is_dropped p || is_ignored p) (place_called c)

-- A name or an element, in parentheses or not.
abbrev pub is_target : ExprTree → Bool
is_target (parenthesized e) = is_target e
is_target e = is_place e

-- An operator that changes its target.
abbrev pub at_change : Purpose → ExprTree → Token → Site
at_change p e op = Change op (is_target e || is_ignored p)

-- A format, which has as many conversions as there are arguments after it.
abbrev pub at_format : Purpose → Token → ℕ → Site
at_format p t n = Format t (is_number n (conversions_of t.text.now) || is_ignored p)

-- `++` and `--`.
abbrev pub is_step : Kind → Bool
is_step kind.PlusPlus = true
is_step kind.MinusMinus = true
is_step _ = false

-- What the operand of a prefix operator is for: that of `++` and `--` is changed.
abbrev pub operand_of : Purpose → Bool → Purpose
operand_of p true = target p
operand_of p false = inner p

-- A prefix operator has a site where it changes its operand.
abbrev pub at_prefix : Purpose → ExprTree → Token → Bool → List Site
at_prefix p e op true = at_change p e op ∷ []
at_prefix p e op false = []
