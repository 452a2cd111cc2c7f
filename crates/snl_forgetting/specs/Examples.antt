-- Functions that name their own variables alone, and functions that do not.
use Rattle.std.specs.Prelude.{◌≡◌, pos, List, [], ◌∷◌, codes}
use Rattle.snl_meaning.specs.Examples.{scene}
use Rattle.snl_meaning.specs.FunctionExamples.{before, body_of, call_of, function, functions, gives_back, in_int, int_at, n, sharing}
use Rattle.snl_syntax.specs.Expressions.{named}
use Rattle.snl_meaning.specs.Functions.{Routine, callables_after}
use Rattle.snl_meaning.specs.Ran.{Gives}
use Rattle.snl_meaning.specs.Scenes.{Scene}
use Rattle.snl_meaning.specs.Value.{value_of}
use Rattle.snl_meaning.specs.World.{World}
use Rattle.snl_forgetting.specs.Own.{OwnInBodies}

-- `int peeks() { return n; }`, as if it could see the parameter `n` of `step`
abbrev pub peeks : Routine
peeks = function (codes "peeks") [] in_int (body_of (gives_back (named n) ∷ []))

-- `int step(int n) { return n; }`, and `int calls() { return step(); }`, as if a value could be missing
abbrev pub missing : List Routine
missing =
    function (codes "step") (int_at 0 ∷ []) in_int (body_of (gives_back (named n) ∷ []))
    ∷ function (codes "calls") [] in_int (body_of (gives_back (call_of (codes "step") []) ∷ []))
    ∷ []

-- a piece below some functions
abbrev pub below : List Routine → Scene
below rs = record scene { callees = callables_after scene.set scene.set_name [] rs }

-- other words of functions than those that stand there before the calls
abbrev pub other : World
other = sharing (pos 0) (pos 7 ∷ pos 7 ∷ pos 7 ∷ pos 7 ∷ pos 7 ∷ []) 3

-- Each by its name.
pub record OwnExamples : Type 0 where
  -- parameters, and variables of the body's block
  pub own : OwnInBodies 0 (codes "s") [] functions
  -- the parameter of another function
  pub peeking : OwnInBodies 0 (codes "s") [] (peeks ∷ []) → ⊥
  -- a parameter that gets no value
  pub short : OwnInBodies 0 (codes "s") [] missing → ⊥
  -- and then a call gives what was left there: 8, and 7 where other words were
  pub seen : value_of (below (peeks ∷ [])) (call_of (codes "peeks") []) before ≡ Gives (pos 8) (record before { ticks = 2 }) []
  pub seen_other : value_of (below (peeks ∷ [])) (call_of (codes "peeks") []) other ≡ Gives (pos 7) (record other { ticks = 2 }) []
  pub kept : value_of (below missing) (call_of (codes "calls") []) before ≡ Gives (pos 8) (record before { ticks = 1 }) []
  pub kept_other : value_of (below missing) (call_of (codes "calls") []) other ≡ Gives (pos 7) (record other { ticks = 1 }) []
