-- The elements of variables that definitions name. A variable is told by the offset of its declaration.
use Rattle.std.specs.Prelude.{◌≡◌, ℕ, ◌<◌, Bool, true, false, not, List, ◌∷◌, ◌++◌, Option, None, Some, IsTrue, if◌then◌else◌}
use Rattle.std.specs.List.{All}
use Rattle.snl_names.specs.declared.sites.Extent.{Extent}
use Rattle.snl_names.specs.declared.sites.Extent.TheVariants.{Whole, Front, Element}
use Rattle.snl_names.specs.declared.sites.Part.{Part}
use Rattle.snl_names.specs.declared.sites.Sort.{Sort}
use Rattle.snl_names.specs.declared.sites.Sort.TheVariants.{Assign, Monitor, Sync, Queue}
use Rattle.snl_names.specs.declared.sites.Site.{Site}
use Rattle.snl_names.specs.declared.sites.Site.TheVariants.{Defined}

-- ---- the sorts of definitions

-- An `assign`.
abbrev pub is_assign : Sort → Bool
is_assign Assign = true
is_assign sort = false

-- A `monitor`.
abbrev pub is_monitor : Sort → Bool
is_monitor Monitor = true
is_monitor sort = false

-- A `syncQ`.
abbrev pub is_queue : Sort → Bool
is_queue (Queue size) = true
is_queue sort = false

-- A `sync` or a `syncQ`.
abbrev pub is_sync : Sort → Bool
is_sync Sync = true
is_sync sort = is_queue sort

-- ---- what a definition names

-- The extent has element k.
abbrev pub IsIn : ℕ → Extent → Type 0
IsIn k (Whole n) = k < n
IsIn k (Front n) = k < n
IsIn k (Element j) = k ≡ j

-- The part has element k of the variable.
abbrev pub HasElement : ℕ → ℕ → Option Part → Type 0
HasElement variable k None = ⊥
HasElement variable k (Some p) = (p.variable.offset ≡ variable) × IsIn k p.extent

-- The part is of the variable.
abbrev pub IsOf : ℕ → Option Part → Type 0
IsOf variable None = ⊥
IsOf variable (Some p) = p.variable.offset ≡ variable

-- The part is of the variable, with this extent.
abbrev pub HasExtent : ℕ → Extent → Option Part → Type 0
HasExtent variable extent None = ⊥
HasExtent variable extent (Some p) = (p.variable.offset ≡ variable) × (p.extent ≡ extent)

-- What a site names, where it is a definition of such a sort.
abbrev pub part_at : (Sort → Bool) → Site → Option Part
part_at sorts (Defined sort word t m sub wrong part) = if sorts sort then part else None
part_at sorts s = None

-- A definition of such a sort names element k of the variable.
abbrev pub NamesElement : (Sort → Bool) → ℕ → ℕ → Site → Type 0
NamesElement sorts variable k s = HasElement variable k (part_at sorts s)

-- A definition of such a sort names the variable, or an element of it.
abbrev pub NamesVariable : (Sort → Bool) → ℕ → Site → Type 0
NamesVariable sorts variable s = IsOf variable (part_at sorts s)

-- Some element that a part has is such a one.
pub record SomeElement (part : Option Part) (IsSuch : ℕ → ℕ → Type 0) : Type 0 where
  pub variable : ℕ
  pub element : ℕ
  pub has : HasElement variable element part
  pub such : IsSuch variable element

-- ---- the first `assign` of a variable

-- No site before it is an `assign` of the variable, and it is one, with this extent.
pub record FirstAssign (all : List Site) (variable : ℕ) (extent : Extent) : Type 0 where
  pub before : List Site
  pub site : Site
  pub after : List Site
  pub stands : all ≡ before ++ site ∷ after
  pub assigns : HasExtent variable extent (part_at is_assign site)
  pub first : All (λ s. NamesVariable is_assign variable s → ⊥) before

-- All of a variable by one channel.
abbrev pub is_whole : Extent → Bool
is_whole (Whole n) = true
is_whole extent = false

-- The first `assign` is of the whole variable, by one channel.
abbrev pub AssignedWhole : List Site → ℕ → Type 0
AssignedWhole all variable = (extent : Extent) × FirstAssign all variable extent × IsTrue (is_whole extent)

-- The first `assign` is of elements: of one, or of the first ones by a channel each.
abbrev pub AssignedByElements : List Site → ℕ → Type 0
AssignedByElements all variable = (extent : Extent) × FirstAssign all variable extent × IsTrue (not (is_whole extent))
