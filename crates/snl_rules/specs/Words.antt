-- How many words a program's stores take, its functions, and the buffers and queues of its links.
use Rattle.std.specs.Prelude.{◌≡◌, ℕ, suc, ◌+◌, ◌*◌, ◌<◌, ◌==◌, List, [], ◌∷◌, length, slice_get, Option, None, Some, if◌then◌else◌}
use Rattle.std.specs.List.{sum_by}
use Rattle.std.specs.Option.{unwrap_or}
use Rattle.snl_text.specs.declared.tokens.Token.{Token}
use Rattle.snl_syntax.specs.Programs.{StateSetTree, ProgramTree}
use Rattle.snl_names.specs.declared.sites.Extent.{Extent}
use Rattle.snl_names.specs.declared.sites.Extent.TheVariants.{Whole, Front, Element}
use Rattle.snl_names.specs.declared.sites.Part.{Part}
use Rattle.snl_names.specs.declared.sites.Sort.{Sort}
use Rattle.snl_names.specs.declared.sites.Sort.TheVariants.{Assign, Queue}
use Rattle.snl_names.specs.declared.sites.Site.{Site}
use Rattle.snl_names.specs.declared.sites.Site.TheVariants.{Defined}
use Rattle.snl_names.specs.Programs.{sites}
use Rattle.snl_names.specs.Scopes.{elements, or_in}
use Rattle.snl_names.specs.Variables.{CopyVariable, variables_of, functions_of, shared_variables}

-- ---- the stores of state sets

-- A variable takes a word for each element.
abbrev pub variable_words : CopyVariable → ℕ
variable_words v = elements v.size

-- The store of the state set of a number: the words of all variables that its copy holds.
abbrev pub set_words : ProgramTree → ℕ → ℕ
set_words p k = sum_by variable_words (variables_of p k)

-- The stores of these state sets, counted from a number on.
abbrev pub sets_words : ProgramTree → ℕ → List StateSetTree → ℕ
sets_words p k [] = 0
sets_words p k (g ∷ rest) = set_words p k + sets_words p (suc k) rest

-- The token is the `ss` of a state set whose store takes more than 65,536 words.
pub record IsOverfullSet (p : ProgramTree) (t : Token) : Type 0 where
  pub number : ℕ
  pub state_set : StateSetTree
  pub stands : slice_get p.state_sets number ≡ Some state_set
  pub word : state_set.word ≡ t
  pub full : 65536 < set_words p number

-- ---- links

-- How many elements a definition names.
abbrev pub count : Extent → ℕ
count (Whole n) = n
count (Front n) = n
count (Element k) = 1

-- What an `assign` names, of the elements that there are.
abbrev pub assigned_of : Sort → Option Part → Option Part
assigned_of Assign part = part
assigned_of _ part = None

-- The same of a site.
abbrev pub assigned_by : Site → Option Part
assigned_by (Defined sort w t m sub wrong part) = assigned_of sort part
assigned_by _ = None

-- The variable that a `syncQ` names, by the place of its declaration, and the size of its queue.
abbrev pub queue_of : Sort → Option Part → Option (ℕ × ℕ)
queue_of (Queue n) (Some p) = Some (p.variable.offset, n)
queue_of _ part = None

-- The same of a site.
abbrev pub queue_by : Site → Option (ℕ × ℕ)
queue_by (Defined sort w t m sub wrong part) = queue_of sort part
queue_by _ = None

-- The size of the queue, where it is one of the variable that is declared at this place.
abbrev pub queue_at : Option (ℕ × ℕ) → ℕ → Option ℕ
queue_at None variable = None
queue_at (Some q) variable = if q.0 == variable then Some q.1 else None

-- The queue of a variable: the one by the first `syncQ` that names it.
abbrev pub first_queue : List Site → ℕ → Option ℕ
first_queue [] variable = None
first_queue (s ∷ rest) variable = or_in (queue_at (queue_by s) variable) (first_queue rest variable)

-- The size of a variable's queue; 0 where it has none.
abbrev pub queue_size : List Site → ℕ → ℕ
queue_size all variable = unwrap_or (first_queue all variable) 0

-- The links that an `assign` makes: a word for each element of a buffer, and as many for each item of its queue.
abbrev pub link_words : (ℕ → ℕ) → Option Part → ℕ
link_words queue None = 0
link_words queue (Some p) = count p.extent + count p.extent * queue p.variable.offset

-- All links.
abbrev pub links_words : List Site → ℕ
links_words all = sum_by (λ s. link_words (queue_size all) (assigned_by s)) all

-- ---- functions

-- The variables of functions, and a place to return to for each function; all state sets share them.
abbrev pub function_words : ProgramTree → ℕ
function_words p = sum_by variable_words (shared_variables p) + length (functions_of p)

-- ---- all in all

-- The stores of all state sets, with the buffers and queues of all links, and what functions take.
abbrev pub all_words : ProgramTree → ℕ
all_words p = sets_words p 0 p.state_sets + (links_words (sites p) + function_words p)

-- The stores, the links and the functions take more than 1,048,576 words.
abbrev pub IsOverfull : ProgramTree → Type 0
IsOverfull p = 1048576 < all_words p
