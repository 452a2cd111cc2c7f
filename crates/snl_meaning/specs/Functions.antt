-- What the functions of a program do. Each may call those above it.
use Rattle.std.specs.Prelude.{◌≡◌, ℕ, ℤ, pos, List, [], ◌∷◌, ◌++◌, map}
use Rattle.snl_text.specs.declared.tokens.Token.{Token}
use Rattle.snl_syntax.specs.Statements.{BlockTree}
use Rattle.snl_meaning.specs.declared.instrs.Variable.{Variable}
use Rattle.snl_meaning.specs.Effect.{Way, Returned, block_effect}
use Rattle.snl_meaning.specs.Names.{Here}
use Rattle.snl_meaning.specs.Ran.{Ran, Gives, then_do}
use Rattle.snl_meaning.specs.Scenes.{Callable, Scene}
use Rattle.snl_meaning.specs.World.{World}

-- A function whose names have their meaning: its name, its parameters, what is known in its body but for the functions above it, and the
-- body.
pub record Routine : Type 0 where
  pub name : Token
  pub parameters : List Variable
  pub here : Here
  pub body : BlockTree

-- What is known in the body of a function, below functions of these names.
abbrev pub here_below : List Token → Routine → Here
here_below above r = record r.here { functions = above }

-- The names of functions.
abbrev pub callee_names : List Callable → List Token
callee_names cs = map (λ (c : Callable). c.name) cs

-- What a body gives: the value of its `return`, and 0 where it comes to its end without one.
abbrev pub result : Way → World → Ran ℤ
result (Returned z) w = Gives z w []
result _ w = Gives (pos 0) w []

-- Where the body of a function runs: on the copy of a state set, below the functions that it may call.
abbrev pub inside : (set : ℕ) → (name : List ℕ) → List Callable → Routine → Scene
inside set name above r = record { set = set; set_name = name; here = here_below (callee_names above) r; callees = above }

-- A function as a call sees it, below functions.
abbrev pub callable_of : (set : ℕ) → (name : List ℕ) → List Callable → Routine → Callable
callable_of set name above r = record {
  name = r.name;
  parameters = r.parameters;
  body = λ w. then_do (block_effect (inside set name above r) r.body w) result;
}

-- Functions as calls see them, each below those before it.
abbrev pub callables_after : (set : ℕ) → (name : List ℕ) → List Callable → List Routine → List Callable
callables_after set name above [] = above
callables_after set name above (r ∷ rs) = callables_after set name (above ++ callable_of set name above r ∷ []) rs

-- A piece runs where these functions may be called.
abbrev pub IsBelow : List Routine → Scene → Type 0
IsBelow rs m = m.callees ≡ callables_after m.set m.set_name [] rs
