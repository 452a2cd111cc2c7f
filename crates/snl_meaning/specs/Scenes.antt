-- Where a piece of code runs.
use Rattle.std.specs.Prelude.{ℕ, ℤ, List, [], ◌∷◌, Option, None, Some, if◌then◌else◌}
use Rattle.snl_text.specs.declared.tokens.Token.{Token}
use Rattle.snl_names.specs.Scopes.{is_spelled}
use Rattle.snl_meaning.specs.declared.instrs.Variable.{Variable}
use Rattle.snl_meaning.specs.Names.{Here}
use Rattle.snl_meaning.specs.Ran.{Ran}
use Rattle.snl_meaning.specs.World.{World}

-- A function as a call sees it: its name, its parameters, and what its body gives once they have their values.
pub record Callable : Type 0 where
  pub name : Token
  pub parameters : List Variable
  pub body : World → Ran ℤ

-- On which state set's copy a piece of code runs: the number of the state set and its name; what is known where the
-- piece stands; and the functions that it may call, in the order of the source.
pub record Scene : Type 0 where
  pub set : ℕ
  pub set_name : List ℕ
  pub here : Here
  pub callees : List Callable

-- The function of a name, the first where there are several.
abbrev pub callee_named : List Callable → List ℕ → Option Callable
callee_named [] name = None
callee_named (c ∷ cs) name = if is_spelled name c.name then Some c else callee_named cs name
