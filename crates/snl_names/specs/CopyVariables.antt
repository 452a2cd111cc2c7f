-- The plain form of a variable.
use Rattle.std.specs.Prelude.{Option, Some, None}
use Rattle.std.specs.Borrow.{Bor}
use Rattle.snl_syntax.specs.declared.declarations.Initialiser.{Initialiser}
use Rattle.snl_syntax.specs.Declarations.{InitialiserTree}
use Rattle.snl_syntax.specs.view.Declarations.{initialiser_view}
use Rattle.snl_names.specs.declared.copy_variables.CopyVariable.{CopyVariable}
use Rattle.snl_names.specs.Variables as plain

-- The tree of what a variable begins with, if anything is written.
abbrev pub begun : Option (Bor Initialiser) → Option InitialiserTree
begun None = None
begun (Some i) = Some (initialiser_view i.now)

-- Each field is the same, and the initialiser is its tree.
abbrev pub variable_view : CopyVariable → plain.CopyVariable
variable_view v = record { name = v.name; range = v.range; size = v.size; initial = begun v.initial }
