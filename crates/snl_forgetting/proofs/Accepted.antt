-- The functions of an accepted program name their own variables alone.
use Rattle.std.proofs.Common.{◌≡◌, ◌∙◌, ◌<◌, ◌⊎◌, inl, inr, refl, sym, ap, subst, ℕ, suc, true, false, List, [], ◌∷◌, ◌++◌, map, length, Option, None, Some, slice_get, append_assoc, append-nil}
use Rattle.std.specs.Prelude.{is_some}
use Rattle.std.specs.List.{AllByRecursion, flat_map}
use Rattle.snl_text.specs.declared.tokens.Pos.{Pos}
use Rattle.snl_text.specs.declared.tokens.Token.{Token}
use Rattle.snl_syntax.specs.Definitions.{DefinitionTree, function}
use Rattle.snl_syntax.specs.Functions.{FunctionTree, ParameterTree}
use Rattle.snl_syntax.specs.Programs.{ProgramTree}
use Rattle.snl_names.specs.declared.calls.Heading.{Heading}
use Rattle.snl_names.specs.declared.options.Options.{Options}
use Rattle.snl_names.specs.declared.scopes.Declared.{Declared}
use Rattle.snl_names.specs.declared.sites.Meaning.{Meaning}
use Rattle.snl_names.specs.declared.sites.Room.TheVariants as room
use Rattle.snl_names.specs.declared.sites.Site.{Site}
use Rattle.snl_names.specs.declared.sites.Site.TheVariants as sites
use Rattle.snl_names.specs.Programs.{in_all_sets, in_function, in_plain_block, in_program_part, in_program_parts, in_type, program_scopes, program_sight}
use Rattle.snl_names.specs.Programs as programs
use Rattle.snl_names.specs.Scopes.{Scope, bare_names, elements, is_hidden, scope_of}
use Rattle.snl_names.specs.Sights.{Sight, heading_of, headings_by, parameter_scope, parameters_of, within}
use Rattle.snl_names.specs.Sites.{at_type, declares, in_block, maybe}
use Rattle.snl_names.specs.Uses.{declared_in, declared_pos, use_at}
use Rattle.snl_names.specs.Variables.{CopyVariable, by_definition, by_definitions, by_function, function_by, functions_of, held_parameter, shared_variables}
use Rattle.snl_meaning.specs.declared.instrs.Variable.{Variable}
use Rattle.snl_meaning.specs.declared.names.Placed.{Placed}
use Rattle.snl_meaning.specs.Functions.{callable_of, callables_after, inside}
use Rattle.snl_meaning.specs.Names.{placed_from, variable_in}
use Rattle.snl_meaning.specs.Scenes.{Callable, Scene}
use Rattle.snl_flat.specs.Heres.{function_places, if_there, parameter_variable, routine_of, routines_in, shared_in}
use Rattle.snl_flat.specs.Inside.{FlagsAreDeclared}
use Rattle.snl_machine.specs.Accepted.{IsAcceptedTree, IsRead}
use Rattle.snl_machine.proofs.Declared.{In, in-left, in-right, of-in}
use Rattle.snl_machine.proofs.Flags.{accepted_declares_its_flags}
use Rattle.snl_machine.proofs.Ordered.{Ascends}
use Rattle.snl_machine.proofs.Scoped.{good-more, good-none}
use Rattle.snl_machine.proofs.Sized.{IsDecent, shared-decent}
use Rattle.snl_machine.proofs.TiedLinks.{at-number}
use Rattle.snl_forgetting.specs.Accepted.{AcceptedNameTheirOwn}
use Rattle.snl_forgetting.specs.Own.{AreSingle, IsParameter, OwnInBlock, OwnInBodies}
use Rattle.snl_forgetting.proofs.Called.{AreHeaded}
use Rattle.snl_forgetting.proofs.Marks.{apart-from, marks, marks-ascend, one-variable, scope-there, variables-there, vars-are, vars_by}
use Rattle.snl_forgetting.proofs.Order.{declared-at, parts-ascend, parts_of}
use Rattle.snl_forgetting.proofs.Placed.{IsFound, found-behind, found-either, found-in, found-there}
use Rattle.snl_forgetting.proofs.Walk.{All, IsMeant, IsOwn, IsRight, IsSound, KnowsOwn, back, front, own-as, own-at, own-block}

-- ---- lists

-- what holds of each by its number holds of all
pub all-numbered : {A : Type 0} (P : A → Type 0) (xs : List A) → ((n : ℕ) (x : A) → slice_get xs n ≡ Some x → P x) → AllByRecursion P xs
all-numbered P [] each = tt
all-numbered P (x ∷ xs) each = (each 0 x refl, all-numbered P xs (λ n y is. each (suc n) y is))

-- one of what one of them gives
in-given : {A B : Type 0} (f : A → List B) (a : A) (x : B) (l : List A) → In a l → In x (f a) → In x (flat_map f l)
in-given f a x [] is there = absurd is
in-given f a x (b ∷ l) (inl same) there = in-left x (f b) (flat_map f l) (subst (λ c. In x (f c)) (sym same) there)
in-given f a x (b ∷ l) (inr is) there = in-right x (f b) (flat_map f l) (in-given f a x l is there)

-- what is made of one of them
in-made : {A B : Type 0} (f : A → B) (a : A) (l : List A) → In a l → In (f a) (map f l)
in-made f a [] is = absurd is
in-made f a (b ∷ l) (inl same) = inl (ap f same)
in-made f a (b ∷ l) (inr is) = inr (in-made f a l is)

-- ---- functions and headings

-- one function more
headed-more : (cs : List Callable) (hs : List Heading) (c : Callable) (h : Heading) → AreHeaded cs hs → c.name ≡ h.name → length c.parameters ≡ h.parameters → AreHeaded (cs ++ c ∷ []) (hs ++ h ∷ [])
headed-more [] [] c h headed name count = (name, count, tt)
headed-more [] (g ∷ hs) c h headed name count = absurd headed
headed-more (d ∷ cs) [] c h headed name count = absurd headed
headed-more (d ∷ cs) (g ∷ hs) c h headed name count = (headed.0, headed.1, headed-more cs hs c h headed.2 name count)

-- ---- parameters

-- one of those behind
parameter-behind : (o : Option Variable) (rest : List Variable) (v : Variable) → IsParameter rest v → IsParameter (if_there o ++ rest) v
parameter-behind None rest v is = is
parameter-behind (Some p) rest v is = inr is

-- what is found at a parameter is one
parameter-known : (places : List Placed) (qs : List ParameterTree) (x : Declared) → In x (parameters_of qs) → (v : Variable) → variable_in places x.name.pos.offset ≡ Some v →
    IsParameter (flat_map (parameter_variable places) qs) v
parameter-known places [] x is v at = absurd is
parameter-known places (q ∷ qs) x (inl same) v at =
    let here : variable_in places q.name.pos.offset ≡ Some v = ap (λ (y : Declared). variable_in places y.name.pos.offset) same ∙ at in
    subst (λ (o : Option Variable). IsParameter (if_there o ++ flat_map (parameter_variable places) qs) v) (sym here) (inl refl)
parameter-known places (q ∷ qs) x (inr is) v at =
    parameter-behind (variable_in places q.name.pos.offset) (flat_map (parameter_variable places) qs) v (parameter-known places qs x is v at)

-- A variable of one element stands at an offset.
abbrev IsSingleAt : List Placed → ℕ → Type 0
IsSingleAt places offset = (v : Variable) × (variable_in places offset ≡ Some v) × (v.size ≡ 1)

-- where each parameter is found so, there are as many variables, each with one element
parameters-single : (places : List Placed) (qs : List ParameterTree) → ((q : ParameterTree) → In q qs → IsSingleAt places q.name.pos.offset) →
    AreSingle (flat_map (parameter_variable places) qs) × (length (flat_map (parameter_variable places) qs) ≡ length qs)
parameters-single places [] each = (tt, refl)
parameters-single places (q ∷ qs) each =
    let one = each q (inl refl) in
    let rest = parameters-single places qs (λ r is. each r (inr is)) in
    let behind = flat_map (parameter_variable places) qs in
    subst (λ (o : Option Variable). AreSingle (if_there o ++ behind) × (length (if_there o ++ behind) ≡ suc (length qs))) (sym one.1) ((one.2, rest.0), ap suc rest.1)

-- ---- a program

module _ (o : Options) (p : ProgramTree) (embedded : List Pos) (beyond : Option Pos) (read : IsRead p) (accepted : IsAcceptedTree o p embedded beyond) where
  -- the variables of functions, by definitions
  abbrev vars : List CopyVariable
  vars = flat_map (vars_by (program_scopes p)) p.definitions

  -- each place is one's own
  ascends : Ascends 0 (flat_map (marks (program_scopes p)) p.definitions)
  ascends = marks-ascend (program_scopes p) p read

  -- what functions find is a variable of the program's definitions, or one of functions
  found : (at : ℕ) (v : Variable) → variable_in (function_places p) at ≡ Some v → IsFound false (by_definitions [] p.definitions) at v ⊎ IsFound true vars at v
  found at v is = elim (found-either (placed_from 0 (by_definitions [] p.definitions)) (shared_in p) at v is) [
    | inl here ↦ inl (found-in false (by_definitions [] p.definitions) 0 at v here)
    | inr there ↦ inr (subst (λ (l : List CopyVariable). IsFound true l at v) (vars-are (program_scopes p) p.definitions) (found-in true (shared_variables p) 0 at v there))
  ]

  -- one of functions has an element
  elements-there : (at : ℕ) (v : Variable) → variable_in (function_places p) at ≡ Some v → (v.is_shared ≡ false) ⊎ (0 < v.size)
  elements-there at v is = elim (found at v is) [
    | inl f ↦ inl f.shared
    | inr f ↦ inr (subst (λ (n : ℕ). 0 < n) (sym f.size)
        (of-in IsDecent f.of (shared_variables p) (shared-decent p) (subst (λ (l : List CopyVariable). In f.of l) (sym (vars-are (program_scopes p) p.definitions)) f.among)).0)
  ]

  -- at a name of the program stands none of a function
  program-copied : (x : Declared) → In x (scope_of [] p.definitions) → (v : Variable) → variable_in (function_places p) x.name.pos.offset ≡ Some v → v.is_shared ≡ false
  program-copied x is v at = elim (found x.name.pos.offset v at) [
    | inl f ↦ f.shared
    | inr f ↦ absurd (apart-from (program_scopes p) p.definitions ascends x.name.pos.offset f.of (scope-there (is_hidden (bare_names p.definitions ∷ [])) p.definitions x is) f.among (sym f.stands))
  ]

  -- at a parameter stands that parameter
  parameter-there : (f : FunctionTree) → In f (functions_of p) → (q : ParameterTree) → In q f.parameters.each → IsSingleAt (function_places p) q.name.pos.offset
  parameter-there f is q own = (any.0, any.1, single)
    where
      s : List Scope
      s = program_scopes p

      among : In (held_parameter q) (shared_variables p)
      among =
          in-given (by_function s) f (held_parameter q) (functions_of p) is
          (in-left (held_parameter q) (map held_parameter f.parameters.each) (Rattle.snl_names.specs.Variables.by_block (parameter_scope f ∷ s) f.body)
          (in-made held_parameter q f.parameters.each own))

      among-vars : In (held_parameter q) vars
      among-vars = subst (λ (l : List CopyVariable). In (held_parameter q) l) (vars-are s p.definitions) among

      any : (v : Variable) × (variable_in (function_places p) q.name.pos.offset ≡ Some v)
      any =
          let there = found-there true (shared_variables p) 0 (held_parameter q) among in
          found-behind (placed_from 0 (by_definitions [] p.definitions)) (shared_in p) q.name.pos.offset there.0 there.1

      single : any.0.size ≡ 1
      single = elim (found q.name.pos.offset any.0 any.1) [
        | inl g ↦ absurd (apart-from s p.definitions ascends g.of.name.pos.offset (held_parameter q) (variables-there s p.definitions g.of g.among) among-vars g.stands)
        | inr g ↦ g.size ∙ ap (λ (w : CopyVariable). elements w.size) (one-variable s p.definitions ascends g.of (held_parameter q) g.among among-vars g.stands)
      ]

  -- ---- sites

  -- the rest of the sites behind the definitions
  abbrev others : List Site
  others = maybe (in_plain_block (program_sight p) []) p.entry ++ (in_all_sets (program_sight p) p.state_sets ++ maybe (in_plain_block (program_sight p) []) p.exit)

  -- all sites are those of the definitions and the rest
  sites-are : parts_of p ++ others ≡ programs.sites p
  sites-are =
      let entry = maybe (in_plain_block (program_sight p) []) p.entry in
      let sets = in_all_sets (program_sight p) p.state_sets in
      let exit = maybe (in_plain_block (program_sight p) []) p.exit in
      sym (append_assoc (parts_of p ++ entry) sets exit ∙ append_assoc (parts_of p) entry (sets ++ exit))

  -- each call is right
  pub right : AllByRecursion IsRight (programs.sites p)
  right = all-numbered IsRight (programs.sites p) by
    where
      flags : FlagsAreDeclared p
      flags = accepted_declares_its_flags o p embedded beyond read accepted

      by : (n : ℕ) (x : Site) → slice_get (programs.sites p) n ≡ Some x → IsRight x
      by n (sites.Call f known fits may given place) is = flags.calls n f known fits may given place is
      by n x is = tt

  -- those of the definitions are sound
  sound : All (programs.sites p) (function_places p) (parts_of p)
  sound = all-numbered (IsSound (programs.sites p) (function_places p)) (parts_of p) (λ n x is. (meant n x is (use_at x) refl, at-number IsRight (parts_of p) n x own is))
    where
      own : AllByRecursion IsRight (parts_of p)
      own = front IsRight (parts_of p) others (subst (AllByRecursion IsRight) (sym sites-are) right)

      meant : (n : ℕ) (x : Site) → slice_get (parts_of p) n ≡ Some x → (u : Option (Token × Meaning)) → use_at x ≡ u → IsMeant (programs.sites p) (function_places p) u
      meant n x is None none = tt
      meant n x is (Some u) some =
          inl (subst (λ (l : List Site). declared_in u.0.pos.offset l ≡ declared_pos u.1) sites-are (declared-at 0 (parts_of p) others n x u.0 u.1 (parts-ascend p read) is some).1)

  -- ---- functions

  module _ (set : ℕ) (name : List ℕ) where
    -- how a function sees those above it
    abbrev scene : List Callable → FunctionTree → Scene
    scene above f = inside set name above (routine_of p f)

    -- what the scopes of the program know
    known : (above : List Callable) (f : FunctionTree) (Own : Variable → Type 0) (hs : List Heading) → KnowsOwn (scene above f) Own (record { scopes = program_scopes p; functions = hs })
    known above f Own hs =
        good-more (IsOwn (scene above f) Own) tt tt (scope_of [] p.definitions) [] (λ x is. own-as (scene above f) Own x.size x.name (λ v at. inl (program-copied x is v at)))
        (good-none (IsOwn (scene above f) Own) tt tt)

    -- a function
    own-function : (above : List Callable) (hs : List Heading) → AreHeaded above hs → (f : FunctionTree) → In f (functions_of p) →
        All (programs.sites p) (function_places p) (in_function (record { scopes = program_scopes p; functions = hs }) f) →
        OwnInBlock (scene above f) (IsParameter (routine_of p f).parameters) f.body
    own-function above hs headed f is all =
        let m = scene above f in
        let s : Sight = record { scopes = program_scopes p; functions = hs } in
        let own = parameter_scope f in
        let Mine = IsParameter (routine_of p f).parameters in
        let front-sites = maybe in_type f.type_name ++ declares [] own ++ map (λ (q : ParameterTree). at_type q.type_name) f.parameters.each in
        let body = in_block (room.Function (is_some f.type_name)) [] (within own s) false f.body in
        let more : KnowsOwn m Mine (within own s) =
        good-more (IsOwn m Mine) tt tt own (program_scopes p)
        (λ x at. own-as m Mine x.size x.name (own-at m elements-there Mine x.name.pos.offset (parameter-known (function_places p) f.parameters.each x at))) (known above f Mine hs) in
        own-block m elements-there Mine (within own s) more headed (room.Function (is_some f.type_name)) [] false f.body
        (back (IsSound (programs.sites p) (function_places p)) front-sites body all.1)

    -- all of them
    own-parts : (above : List Callable) (hs : List Heading) → AreHeaded above hs → (ds : List DefinitionTree) → ((f : FunctionTree) → In f (flat_map function_by ds) → In f (functions_of p)) →
        All (programs.sites p) (function_places p) (in_program_parts (program_scopes p) hs ds) → OwnInBodies set name above (map (routine_of p) (flat_map function_by ds))
    own-parts above hs headed [] up all = tt
    own-parts above hs headed (function f ∷ ds) up all =
        let s : Sight = record { scopes = program_scopes p; functions = hs } in
        let P = IsSound (programs.sites p) (function_places p) in
        let first = in_function s f in
        let rest = in_program_parts (program_scopes p) (hs ++ heading_of f ∷ []) ds in
        let single = parameters-single (function_places p) f.parameters.each (parameter-there f (up f (inl refl))) in (
          (single.0, own-function above hs headed f (up f (inl refl)) (front P first rest all)),
          own-parts (above ++ callable_of set name above (routine_of p f) ∷ []) (hs ++ heading_of f ∷ [])
              (headed-more above hs (callable_of set name above (routine_of p f)) (heading_of f) headed refl single.1) ds (λ g is. up g (inr is)) (back P first rest all),
        )
    own-parts above hs headed (d ∷ ds) up all =
        own-parts above (hs ++ []) (subst (AreHeaded above) (sym (append-nil hs)) headed) ds up
        (back (IsSound (programs.sites p) (function_places p)) (in_program_part (record { scopes = program_scopes p; functions = hs }) d) (in_program_parts (program_scopes p) (hs ++ []) ds) all)

    -- the functions of a program have the headings of its definitions
    headed-parts : (above : List Callable) (hs : List Heading) → AreHeaded above hs → (ds : List DefinitionTree) → ((f : FunctionTree) → In f (flat_map function_by ds) → In f (functions_of p)) →
        AreHeaded (callables_after set name above (map (routine_of p) (flat_map function_by ds))) (hs ++ flat_map headings_by ds)
    headed-parts above hs headed [] up = subst (AreHeaded above) (sym (append-nil hs)) headed
    headed-parts above hs headed (function f ∷ ds) up =
        let single = parameters-single (function_places p) f.parameters.each (parameter-there f (up f (inl refl))) in
        let c = callable_of set name above (routine_of p f) in
        subst (AreHeaded (callables_after set name (above ++ c ∷ []) (map (routine_of p) (flat_map function_by ds)))) (append_assoc hs (heading_of f ∷ []) (flat_map headings_by ds))
        (headed-parts (above ++ c ∷ []) (hs ++ heading_of f ∷ []) (headed-more above hs c (heading_of f) headed refl single.1) ds (λ g is. up g (inr is)))
    headed-parts above hs headed (d ∷ ds) up = headed-parts above hs headed ds up

    -- all of the program
    pub headed-all : AreHeaded (callables_after set name [] (routines_in p)) (flat_map headings_by p.definitions)
    headed-all = headed-parts [] [] tt p.definitions (λ f is. is)

    -- the law
    pub names-own : OwnInBodies set name [] (routines_in p)
    names-own =
        own-parts [] [] tt p.definitions (λ f is. is)
        (back (IsSound (programs.sites p) (function_places p)) (declares [] (scope_of [] p.definitions)) (in_program_parts (program_scopes p) [] p.definitions) sound)

-- so it is of each program
pub accepted_name_their_own : AcceptedNameTheirOwn
accepted_name_their_own = names-own
