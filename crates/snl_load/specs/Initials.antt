-- What variables, and the buffers of their links, begin with.
use Rattle.std.specs.Prelude.{ℕ, zero, suc, ◌+◌, ℤ, pos, int_le, ◌&&◌, ◌==◌, List, [], ◌∷◌, Option, None, Some, slice_get, replicate, if◌then◌else◌}
use Rattle.snl_syntax.specs.Expressions.{ExprTree}
use Rattle.snl_channels.specs.Links.{Link}
use Rattle.snl_meaning.specs.Effect.{values_of}
use Rattle.snl_names.specs.declared.constants.Constant.{Constant}
use Rattle.snl_names.specs.declared.constants.Constant.TheVariants.{Worth}
use Rattle.snl_names.specs.Constants.{constant_of}
use Rattle.snl_names.specs.Scopes.{elements, is_hidden}
use Rattle.snl_names.specs.Variables.{CopyVariable}

-- What a constant is worth in a range, and 0 where it has no place there. The rules refuse a first value that is none,
-- but for a variable of a block: that begins anew whenever the block is entered.
abbrev pub worth_in : ℤ × ℤ → Constant → ℤ
worth_in range (Worth z) = if int_le range.0 z && int_le z range.1 then z else pos 0
worth_in range _ = pos 0

-- An element begins with the value that is written for it, and with 0 where none is. A name in that value is predefined:
-- the rules refuse all others there.
abbrev pub first_by : ℤ × ℤ → Option ExprTree → ℤ
first_by range None = pos 0
first_by range (Some e) = worth_in range (constant_of (is_hidden []) e)

-- The element of a variable that goes by this number.
abbrev pub first_element : CopyVariable → ℕ → ℤ
first_element v k = first_by v.range (slice_get (values_of v.initial) k)

-- So many elements, from one on.
abbrev pub first_elements : CopyVariable → ℕ → ℕ → List ℤ
first_elements v k zero = []
first_elements v k (suc n) = first_element v k ∷ first_elements v (k + 1) n

-- All elements of a variable.
abbrev pub all_elements : CopyVariable → List ℤ
all_elements v = first_elements v 0 (elements v.size)

-- ---- buffers

-- The variable that is declared at an offset, among some.
abbrev pub held_in : List CopyVariable → ℕ → Option CopyVariable
held_in [] offset = None
held_in (v ∷ vs) offset = if v.name.pos.offset == offset then Some v else held_in vs offset

-- The same, in the first copy that has it.
abbrev pub held_among : List (List CopyVariable) → ℕ → Option CopyVariable
held_among [] offset = None
held_among (vs ∷ more) offset = elim (held_in vs offset) [ Some v ↦ Some v | None ↦ held_among more offset ]

-- The buffer of a link begins as its elements of the variable do; where there is no variable, with 0.
abbrev pub buffer_by : Option CopyVariable → Link → List ℤ
buffer_by None l = replicate l.count (pos 0)
buffer_by (Some v) l = first_elements v l.first l.count

-- The buffer of a link of variables of these copies.
abbrev pub first_buffer : List (List CopyVariable) → Link → List ℤ
first_buffer sets l = buffer_by (held_among sets l.variable.offset) l
