-- The state that a block leaves for is one that it names as a target.
use Rattle.std.proofs.Common.{ℕ, zero, suc, ℤ, Bool, true, false, List, [], ◌++◌, None, Some, Contains, if◌then◌else◌}
use Rattle.std.proofs.lemmas.List.Elements.{Contains-append_left, Contains-append_right, Contains-push}
use Rattle.snl_text.specs.declared.tokens.Token.{Token}
use Rattle.snl_syntax.specs.Statements.{StatementTree, StatementList, BlockTree, nested, empty, expression, break_loop, continue_loop, change_state, return_with, if_then, if_else, while_loop, for_loop, no_statements, statement, block}
use Rattle.snl_reach.specs.Reach.{targets_in_statement, targets_in_statements, targets_in_block}
use Rattle.snl_meaning.specs.Effect.{Way, Done, Broken, Continued, Left, Returned, ends, done, if_done, unless_broken, held_by, evaluated, turned, turns, looped, names_of, entered, returns, return_by, plain_return, left_by, effect_of, effects_of, block_effect}
use Rattle.snl_meaning.specs.Names.{Here, Within, Piece, Body, state_number}
use Rattle.snl_meaning.specs.Scenes.{Scene}
use Rattle.snl_meaning.specs.Ran.{Ran, Gives, Faults, also, then_do}
use Rattle.snl_meaning.specs.Value.{value_of, either}
use Rattle.snl_meaning.specs.Words.{fitted, spent}
use Rattle.snl_meaning.specs.World.{World}

module _ (Is : ℕ → Type 0) where
  -- how a statement came to its end: where it leaves for a state, that is such a one
  abbrev pub LeavesFor : Way → Type 0
  LeavesFor Done = Unit {0}
  LeavesFor Broken = Unit {0}
  LeavesFor Continued = Unit {0}
  LeavesFor (Left state) = Is state
  LeavesFor (Returned z) = Unit {0}

  -- and all that it gives
  abbrev pub Leads : Ran Way → Type 0
  Leads (Gives way w text) = LeavesFor way
  Leads (Faults f line w text) = Unit {0}

  -- text does not matter
  leads-also : (text : List ℕ) (r : Ran Way) → Leads r → Leads (also text r)
  leads-also text (Gives way w more) h = h
  leads-also text (Faults f line w more) h = tt

  -- after what leads to no state
  leads-then : {A : Type 0} (r : Ran A) (go : A → World → Ran Way) → ((a : A) (u : World) → Leads (go a u)) → Leads (then_do r go)
  leads-then (Gives a u text) go k = leads-also text (go a u) (k a u)
  leads-then (Faults f line u text) go k = tt

  -- after another statement
  leads-after : (r : Ran Way) (go : Way → World → Ran Way) → Leads r → ((way : Way) (u : World) → LeavesFor way → Leads (go way u)) → Leads (then_do r go)
  leads-after (Gives way u text) go h k = leads-also text (go way u) (k way u h)
  leads-after (Faults f line u text) go h k = tt

  -- what follows a statement
  done-leads : (go : World → Ran Way) → ((u : World) → Leads (go u)) → (way : Way) (u : World) → LeavesFor way → Leads (if_done go way u)
  done-leads go k Done u h = k u
  done-leads go k Broken u h = tt
  done-leads go k Continued u h = tt
  done-leads go k (Left state) u h = h
  done-leads go k (Returned z) u h = tt

  -- what follows the body of a loop
  broken-leads : (go : World → Ran Way) → ((u : World) → Leads (go u)) → (way : Way) (u : World) → LeavesFor way → Leads (unless_broken go way u)
  broken-leads go k Done u h = k u
  broken-leads go k Broken u h = tt
  broken-leads go k Continued u h = k u
  broken-leads go k (Left state) u h = h
  broken-leads go k (Returned z) u h = tt

  -- a `state`, which does nothing in a function
  left-leads : (within : Within) (state : ℕ) → Is state → (u : World) → Leads (left_by within state u)
  left-leads Piece state is u = is
  left-leads (Body least greatest) state is u = tt

  -- a `return`
  return-leads : (within : Within) (line : ℕ) (value : World → Ran ℤ) (u : World) → Leads (return_by within line value u)
  return-leads Piece line value u = tt
  return-leads (Body least greatest) line value u =
      leads-then (value u) (λ z v. then_do (fitted least greatest line z v) returns) (λ z v. leads-then (fitted least greatest line z v) returns (λ y x. tt))

  -- one without a value
  plain-leads : (within : Within) (u : World) → Leads (plain_return within u)
  plain-leads Piece u = tt
  plain-leads (Body least greatest) u = tt

  -- one of two
  either-leads : (held failed : World → Ran Way) → ((u : World) → Leads (held u)) → ((u : World) → Leads (failed u)) → (z : ℤ) (u : World) → Leads (either held failed z u)
  either-leads held failed k j z u = by _
    where
      by : (b : Bool) → Leads (if b then failed u else held u)
      by true = j u
      by false = k u

  -- a turn
  turned-leads : (line : ℕ) (body go : World → Ran Way) → ((u : World) → Leads (body u)) → ((u : World) → Leads (go u)) → (holds : Bool) (u : World) → Leads (turned line body go holds u)
  turned-leads line body go k j true u =
      leads-then (spent line u) (λ _ v. then_do (body v) (unless_broken go)) (λ _ v. leads-after (body v) (unless_broken go) (k v) (broken-leads go j))
  turned-leads line body go k j false u = tt

  -- turns
  turns-lead : (line : ℕ) (condition : World → Ran Bool) (body : World → Ran Way) (step : World → Ran (Unit {0})) → ((u : World) → Leads (body u)) →
      (n : ℕ) (u : World) → Leads (turns n line condition body step u)
  turns-lead line condition body step k zero u = tt
  turns-lead line condition body step k (suc n) u =
      let go = λ (v : World). then_do (step v) (λ _ x. turns n line condition body step x) in
      leads-then (condition u) (turned line body go)
      (turned-leads line body go k (λ v. leads-then (step v) (λ _ x. turns n line condition body step x) (λ _ x. turns-lead line condition body step k n x)))

-- each of some names is the name of such a state
abbrev pub NameOnly : Here → (ℕ → Type 0) → List Token → Type 0
NameOnly h Is names = (x : Token) → Contains names x → Is (state_number h x)

module _ (h : Here) (Is : ℕ → Type 0) where
  -- those in front
  pub front : (xs ys : List Token) → NameOnly h Is (xs ++ ys) → NameOnly h Is xs
  front xs ys all x among = all x (Contains-append_left xs ys x among)

  -- and those behind
  pub behind : (xs ys : List Token) → NameOnly h Is (xs ++ ys) → NameOnly h Is ys
  behind xs ys all x among = all x (Contains-append_right xs ys x among)

module _ (m : Scene) (Is : ℕ → Type 0) where
  mutual
    -- a statement
    effect-leads : (s : StatementTree) → NameOnly m.here Is (targets_in_statement s) → (w : World) → Leads Is (effect_of m s w)
    effect-leads (nested b) all w = block-leads b all w
    effect-leads empty all w = tt
    effect-leads (expression e) all w = leads-then Is (value_of m e w) done (λ z u. tt)
    effect-leads (break_loop t) all w = tt
    effect-leads (continue_loop t) all w = tt
    effect-leads (change_state t x) all w = left-leads Is m.here.within (state_number m.here x) (all x (Contains-push [] x)) w
    effect-leads (return_with t None) all w = plain-leads Is m.here.within w
    effect-leads (return_with t (Some e)) all w = return-leads Is m.here.within t.pos.line (value_of m e) w
    effect-leads (if_then c s) all w =
        leads-then Is (value_of m c w) (either (effect_of m s) (ends Done)) (either-leads Is (effect_of m s) (ends Done) (λ u. effect-leads s all u) (λ u. tt))
    effect-leads (if_else c s e) all w =
        let here = front m.here Is (targets_in_statement s) (targets_in_statement e) all in
        let there = behind m.here Is (targets_in_statement s) (targets_in_statement e) all in
        leads-then Is (value_of m c w) (either (effect_of m s) (effect_of m e)) (either-leads Is (effect_of m s) (effect_of m e) (λ u. effect-leads s here u) (λ u. effect-leads e there u))
    effect-leads (while_loop t c s) all w = turns-lead Is t.pos.line (held_by m (Some c)) (effect_of m s) (evaluated m None) (λ u. effect-leads s all u) (suc w.ticks) w
    effect-leads (for_loop t parts s) all w =
        leads-then Is (evaluated m parts.start w) (λ _ u. looped t.pos.line (held_by m parts.condition) (effect_of m s) (evaluated m parts.step) u)
        (λ _ u. turns-lead Is t.pos.line (held_by m parts.condition) (effect_of m s) (evaluated m parts.step) (λ v. effect-leads s all v) (suc u.ticks) u)

    -- statements in a row
    effects-lead : (ss : StatementList) → NameOnly m.here Is (targets_in_statements ss) → (w : World) → Leads Is (effects_of m ss w)
    effects-lead no_statements all w = tt
    effects-lead (statement s rest) all w =
        let here = front m.here Is (targets_in_statement s) (targets_in_statements rest) all in
        let there = behind m.here Is (targets_in_statement s) (targets_in_statements rest) all in
        leads-after Is (effect_of m s w) (if_done (effects_of m rest)) (effect-leads s here w) (done-leads Is (effects_of m rest) (λ u. effects-lead rest there u))

    -- a block
    pub block-leads : (b : BlockTree) → NameOnly m.here Is (targets_in_block b) → (w : World) → Leads Is (block_effect m b w)
    block-leads (block ds ss) all w = leads-then Is (entered m (names_of ds) w) (λ _ u. effects_of m ss u) (λ _ u. effects-lead ss all u)
