-- The elements of a variable that an `assign`, `monitor`, `sync` or `syncQ` names.
use Rattle.std.specs.Prelude.{ℕ, pos, min, nat_lt, Bool, false, not, ◌||◌, List, length, Option, None, Some, is_none, is_some, if◌then◌else◌}
use Rattle.snl_text.specs.declared.tokens.Pos.{Pos}
use Rattle.snl_syntax.specs.Expressions.{ExprTree}
use Rattle.snl_syntax.specs.Definitions.{one_name, name_list, ChannelsTree}
use Rattle.snl_names.specs.declared.constants.Constant.{Constant}
use Rattle.snl_names.specs.declared.constants.Constant.TheVariants.{Worth}
use Rattle.snl_names.specs.declared.sites.Size.{Size}
use Rattle.snl_names.specs.declared.sites.Meaning.{Meaning}
use Rattle.snl_names.specs.declared.sites.Meaning.TheVariants.{Variable}
use Rattle.snl_names.specs.declared.sites.Extent.TheVariants.{Whole, Front, Element}
use Rattle.snl_names.specs.declared.sites.Part.{Part}
use Rattle.snl_names.specs.Constants.{constant_of}
use Rattle.snl_names.specs.Scopes.{elements, is_array}

-- How many channels a list in braces has; nothing for one channel, or for none.
abbrev pub listed_names : Option ChannelsTree → Option ℕ
listed_names None = None
listed_names (Some c) = elim c.names [ one_name t ↦ None | name_list ts ↦ Some (length ts) ]

-- The element that a subscript names: it is constant, does not fault and is in range.
abbrev pub element_by : ℕ → Constant → Option ℕ
element_by size (Worth (pos k)) = if nat_lt k size then Some k else None
element_by size _ = None

-- The same of a subscript, by what it is worth.
abbrev pub element_at : (List ℕ → Bool) → Size → ExprTree → Option ℕ
element_at h size e = element_by (elements size) (constant_of h e)

-- One element, where there is one.
abbrev pub one_element : Pos → Option ℕ → Option Part
one_element d None = None
one_element d (Some k) = Some (record { variable = d; extent = Element k })

-- The whole of a variable by one name, or as many of its elements as there are names in the list.
abbrev pub all_elements : Pos → Size → Option ℕ → Part
all_elements d size None = record { variable = d; extent = Whole (elements size) }
all_elements d size (Some n) = record { variable = d; extent = Front (min n (elements size)) }

-- What a definition names, by the meaning of its name, its subscript and the length of its list. Those elements count
-- that there are, also where the definition is wrong.
abbrev pub part_of : (List ℕ → Bool) → Meaning → Option ExprTree → Option ℕ → Option Part
part_of h (Variable d size) None list = Some (all_elements d size list)
part_of h (Variable d size) (Some e) list = one_element d (element_at h size e)
part_of h m sub list = None

-- A subscript of a scalar, or one that names no element.
abbrev pub is_wrong_subscript : (List ℕ → Bool) → Size → Option ExprTree → Bool
is_wrong_subscript h size None = false
is_wrong_subscript h size (Some e) = not (is_array size) || is_none (element_at h size e)

-- A list for a scalar, beside a subscript, or longer than the array.
abbrev pub is_wrong_list : Size → Option ExprTree → Option ℕ → Bool
is_wrong_list size sub None = false
is_wrong_list size sub (Some n) = not (is_array size) || is_some sub || nat_lt (elements size) n

-- The subscript or the list is wrong. Only that of a variable can be.
abbrev pub is_wrong_part : (List ℕ → Bool) → Meaning → Option ExprTree → Option ℕ → Bool
is_wrong_part h (Variable d size) sub list = is_wrong_subscript h size sub || is_wrong_list size sub list
is_wrong_part h m sub list = false
