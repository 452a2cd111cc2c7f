-- Laws of the definitions that the sites speak of.
use Rattle.std.specs.Prelude.{◌≡◌, ℕ, List, Some, ◌↔◌}
use Rattle.snl_text.specs.declared.tokens.Pos.{Pos}
use Rattle.snl_text.specs.declared.tokens.Token.{Token}
use Rattle.snl_names.specs.declared.scopes.Declared.{Declared}
use Rattle.snl_names.specs.Scopes.{Scope, bound, meaning, Means}
use Rattle.snl_syntax.specs.Programs.{ProgramTree}
use Rattle.snl_resolve.specs.Names.{names_of, meant_at}
use Rattle.snl_names.specs.Uses.{declared_pos, declared_of}

-- What a name means by the relation is what it is bound to.
abbrev pub BindingIsOne : Type 0
BindingIsOne = (scopes : List Scope) (name : List ℕ) (d : Declared) → Means scopes name d ↔ (bound scopes name ≡ Some d)

-- The declaration whose place a site gives is the one that the name means by the relation.
abbrev pub PlaceIsMeant : Type 0
PlaceIsMeant = (scopes : List Scope) (t : Token) (place : Pos) →
    (declared_pos (meaning scopes t) ≡ Some place) ↔ ((d : Declared) × Means scopes t.text.now d × (d.name.pos ≡ place))

-- What a program's sites say of an offset is what the first name there means, in the scopes round it.
abbrev pub DeclaredIsMeant : Type 0
DeclaredIsMeant = (p : ProgramTree) (offset : ℕ) → declared_of p offset ≡ meant_at offset (names_of p)
