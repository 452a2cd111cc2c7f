-- What the definitions of an accepted program say: an `assign` ties elements that its variable has, and its links have no more words
-- than its site counts.
use Rattle.std.proofs.Common.{◌≡◌, ◌∙◌, ◌+◌, ◌<◌, ◌≤◌, inl, inr, refl, sym, ap, subst, arith, ℕ, suc, pos, nat_lt, Bool, true, false, not, ◌||◌, if◌then◌else◌, List, [], ◌∷◌, ◌++◌, length, map, Option, None, Some, append_assoc, append-nil}
use Rattle.std.specs.Prelude.{is_some}
use Rattle.std.specs.List.{AllByRecursion, flat_map, sum_by}
use Rattle.std.proofs.lemmas.Bool.{false≢true, ltb-true, ltb-false}
use Rattle.std.proofs.lemmas.List.Sums.{sum_by-append, sum_by-cons}
use Rattle.snl_text.specs.declared.tokens.Pos.{Pos}
use Rattle.snl_text.specs.declared.tokens.Token.{Token}
use Rattle.snl_syntax.specs.Expressions.{ExprTree}
use Rattle.snl_syntax.specs.Definitions.{NamesTree, one_name, name_list, ChannelsTree, DefinitionTree, declaration, assign, monitor, sync, sync_queue, event_flags, setting, function}
use Rattle.snl_syntax.specs.Programs.{StateTree, StateSetTree, ProgramTree}
use Rattle.snl_names.specs.declared.calls.Heading.{Heading}
use Rattle.snl_names.specs.declared.constants.Constant.{Constant}
use Rattle.snl_names.specs.declared.constants.Constant.TheVariants.{Varies, Faults, Worth}
use Rattle.snl_names.specs.declared.options.Options.{Options}
use Rattle.snl_names.specs.declared.sites.Extent.{Extent}
use Rattle.snl_names.specs.declared.sites.Extent.TheVariants.{Whole, Element}
use Rattle.snl_names.specs.declared.sites.Meaning.{Meaning}
use Rattle.snl_names.specs.declared.sites.Meaning.TheVariants.{Variable, Flag, Number, Nothing}
use Rattle.snl_names.specs.declared.sites.Part.{Part}
use Rattle.snl_names.specs.declared.sites.Site.{Site}
use Rattle.snl_names.specs.declared.sites.Site.TheVariants.{Defined, StateSet}
use Rattle.snl_names.specs.declared.sites.Size.{Size}
use Rattle.snl_names.specs.declared.sites.Sort.TheVariants.{Assign}
use Rattle.snl_names.specs.Constants.{constant_of}
use Rattle.snl_names.specs.Numbered.{is_later}
use Rattle.snl_names.specs.Parts.{listed_names, element_by, element_at, one_element, part_of, is_wrong_subscript, is_wrong_part}
use Rattle.snl_names.specs.Programs.{queue_size, in_definition, in_definitions, in_function, in_program_part, in_program_parts, program_sight, at_state, in_state, in_numbered, in_states, in_all_states, in_state_set, in_numbered_set, in_state_sets, in_all_sets, in_plain_block, in_clauses, sites}
use Rattle.snl_names.specs.Scopes.{Scope, elements, is_array, is_hidden, meaning, declared_as, scope_of}
use Rattle.snl_names.specs.Sights.{Sight, within, headings_by}
use Rattle.snl_names.specs.Sites.{declares, in_value, maybe}
use Rattle.snl_names.specs.Variables.{CopyVariable, by_definitions, by_maybe, by_clause, by_state, by_state_set}
use Rattle.snl_rules.specs.declared.rules.Rule.TheVariants.{WrongArray}
use Rattle.snl_rules.specs.Words.{assigned_by, link_words}
use Rattle.snl_channels.specs.Links.{Said, assigned, monitored, synced, place_part, of_part, flag_at, flag_if_there, first_in, count_in, said_by, said_in, said_in_state, said_in_set, said_in_program}
use Rattle.snl_machine.specs.Accepted.{IsAcceptedTree}
use Rattle.snl_machine.proofs.Declared.{declared, In, in-left, in-right}
use Rattle.snl_machine.proofs.NoErrors.{breaks-none}
use Rattle.snl_machine.proofs.Scoped.{Good, good-none, good-more, IsOf, of-scope}
use Rattle.snl_machine.proofs.Sized.{all-both}

-- ---- what is said

-- how many elements the links of some channels have
abbrev pub tied-by : Extent → NamesTree → ℕ
tied-by e (one_name t) = count_in e
tied-by e (name_list ts) = length ts

-- the same of channels that may be missing
abbrev pub tied : Part → Option ChannelsTree → ℕ
tied p None = count_in p.extent
tied p (Some c) = tied-by p.extent c.names

-- the number behind the last of them
abbrev pub top-by : Extent → NamesTree → ℕ
top-by e (one_name t) = first_in e + count_in e
top-by e (name_list ts) = length ts

-- the same of channels that may be missing
abbrev pub top : Part → Option ChannelsTree → ℕ
top p None = first_in p.extent + count_in p.extent
top p (Some c) = top-by p.extent c.names

-- the elements of all links that something makes
abbrev pub count-of : Said → ℕ
count-of (assigned t p c) = tied p c
count-of said = 0

-- those of all that is said
abbrev pub count-all : List Said → ℕ
count-all [] = 0
count-all (x ∷ xs) = count-of x + count-all xs

-- what is assigned is a variable that is declared, and has the elements
abbrev pub IsSound : ProgramTree → Said → Type 0
IsSound p (assigned t part c) = (v : CopyVariable) × In v (declared p) × (v.name.pos ≡ part.variable) × (top part c ≤ elements v.size)
IsSound p said = Unit {0}

-- those of two lists
count-both : (xs ys : List Said) → count-all (xs ++ ys) ≡ count-all xs + count-all ys
count-both [] ys = omega arith
count-both (x ∷ xs) ys = let rest = count-both xs ys in omega (arith, rest)

-- ---- sites

-- an `assign` has neither a subscript nor a list that does not fit its variable
abbrev IsFine : Site → Type 0
IsFine (Defined Assign word t (Variable d size) sub wrong part) = wrong ≡ false
IsFine s = Unit {0}

-- what holds of each of two lists holds of each of the first
all-front : {A : Type 0} (P : A → Type 0) (xs ys : List A) → AllByRecursion P (xs ++ ys) → AllByRecursion P xs
all-front P [] ys h = tt
all-front P (x ∷ xs) ys h = (h.0, all-front P xs ys h.1)

-- and of the second
all-back : {A : Type 0} (P : A → Type 0) (xs ys : List A) → AllByRecursion P (xs ++ ys) → AllByRecursion P ys
all-back P [] ys h = h
all-back P (x ∷ xs) ys h = all-back P xs ys h.1

-- what holds of each that stands in a list holds of all of it
pub all-standing : {A : Type 0} (P : A → Type 0) (all before rest : List A) → ((b : List A) (x : A) (a : List A) → all ≡ b ++ x ∷ a → P x) → all ≡ before ++ rest →
    AllByRecursion P rest
all-standing P all before [] each is = tt
all-standing P all before (x ∷ xs) each is = (each before x xs is, all-standing P all (before ++ x ∷ []) xs each (is ∙ sym (append_assoc before (x ∷ []) xs)))

-- no site of an accepted program is another
pub all-fine : (o : Options) (p : ProgramTree) (embedded : List Pos) (beyond : Option Pos) → IsAcceptedTree o p embedded beyond → AllByRecursion IsFine (sites p)
all-fine o p embedded beyond accepted = all-standing IsFine (sites p) [] (sites p) fine refl
  where
    fine : (before : List Site) (s : Site) (after : List Site) → sites p ≡ before ++ s ∷ after → IsFine s
    fine before (Defined Assign word t (Variable d size) sub true part) after is =
        absurd (breaks-none o p embedded beyond accepted (record { rule = WrongArray; site = Defined Assign word t (Variable d size) sub true part })
        (record { before = before; after = after; stands = is; breaks = inr (inl (refl, refl)) }) refl)
    fine before (Defined Assign word t (Variable d size) sub false part) after is = refl
    fine before s after is = tt

-- ---- elements

-- neither of two
or-false : (a b : Bool) → (a || b) ≡ false → (a ≡ false) × (b ≡ false)
or-false false b e = (refl, e)
or-false true b e = absurd (false≢true (sym e))

-- the element that a subscript names is there
element-within : (size : ℕ) (c : Constant) (k : ℕ) → element_by size c ≡ Some k → k < size
element-within size Varies k is = absurd (cc)
element-within size Faults k is = absurd (cc)
element-within size (Worth (pos j)) k is = by (nat_lt j size) refl is
  where
    by : (b : Bool) → nat_lt j size ≡ b → (if b then Some j else None) ≡ Some k → k < size
    by true less e = let same : j ≡ k = cc in let within = ltb-true j size less in omega (arith, same, within)
    by false less e = absurd (cc)
element-within size (Worth z) k is = absurd (cc)

module _ (p : ProgramTree) (queue : ℕ → ℕ) where
  -- the words that a site counts
  abbrev pub words-at : Site → ℕ
  words-at s = link_words queue (assigned_by s)

  -- what is said is sound, and has no more words than its sites count, if these are fine
  abbrev Fits : List Said → List Site → Type 0
  Fits xs ss = AllByRecursion IsFine ss → (count-all xs ≤ sum_by words-at ss) × AllByRecursion (IsSound p) xs

  -- nothing is
  any : (ss : List Site) → Fits [] ss
  any ss fine = (omega arith, tt)

  -- two parts
  both : (xs ys : List Said) (ss ts : List Site) → Fits xs ss → Fits ys ts → Fits (xs ++ ys) (ss ++ ts)
  both xs ys ss ts f g fine =
      let a = f (all-front IsFine ss ts fine) in
      let b = g (all-back IsFine ss ts fine) in
      let few = a.0 in
      let more = b.0 in
      (omega (arith, few, more, count-both xs ys, sum_by-append words-at ss ts), all-both (IsSound p) xs ys a.1 b.1)

  -- sites before
  after : (ss ts : List Site) (xs : List Said) → Fits xs ts → Fits xs (ss ++ ts)
  after ss ts xs f = both [] xs ss ts (any ss) f

  -- sites behind
  trail : (ss ts : List Site) (xs : List Said) → Fits xs ss → Fits xs (ss ++ ts)
  trail ss ts xs f = subst (λ (l : List Said). Fits l (ss ++ ts)) (append-nil xs) (both xs [] ss ts f (any ts))

  -- a row
  each : {A : Type 0} (f : A → List Said) (g : A → List Site) → ((x : A) → Fits (f x) (g x)) → (l : List A) → Fits (flat_map f l) (flat_map g l)
  each f g h [] = any []
  each f g h (x ∷ l) = both (f x) (flat_map f l) (g x) (flat_map g l) (h x) (each f g h l)

  -- something that is not assigned
  quiet : (say : Part → Said) → ((x : Part) → count-of (say x) ≡ 0) → ((x : Part) → IsSound p (say x)) → (o : Option Part) (ss : List Site) → Fits (of_part say o) ss
  quiet say none sound None ss = any ss
  quiet say none sound (Some x) ss = λ fine. (omega (arith, none x), (sound x, tt))

  -- ---- what is assigned

  -- a name that means a variable means one that is declared
  abbrev IsMeant : Meaning → Type 0
  IsMeant (Variable d size) = (v : CopyVariable) × In v (declared p) × (v.name.pos ≡ d) × (v.size ≡ size)
  IsMeant m = Unit {0}

  -- a list of names is no longer than the array
  list-fits : (size : Size) (n : ℕ) → (not (is_array size) || false || nat_lt (elements size) n) ≡ false → n ≤ elements size
  list-fits size n e = let few = ltb-false (elements size) n (or-false (not (is_array size) || false) (nat_lt (elements size) n) e).1 in omega (arith, few)

  -- one part, with its site
  one-part : (t : Token) (part : Part) (c : Option ChannelsTree) (site : Site) (rest : List Site) (v : CopyVariable) → In v (declared p) → v.name.pos ≡ part.variable →
      top part c ≤ elements v.size → tied part c ≤ words-at site → Fits (assigned t part c ∷ []) (site ∷ rest)
  one-part t part c site rest v is place within few = λ fine. (omega (arith, few, sum_by-cons words-at site rest), ((v, is, place, within), tt))

  module _ (h : List ℕ → Bool) (word t : Token) (rest : List Site) where
    -- the site of an `assign`
    abbrev site-of : Meaning → Option ExprTree → Option ChannelsTree → Site
    site-of m sub c = Defined Assign word.pos t m (is_some sub) (is_wrong_part h m sub (listed_names c)) (part_of h m sub (listed_names c))

    -- what it says
    abbrev says : Meaning → Option ExprTree → Option ChannelsTree → List Said
    says m sub c = of_part (λ x. assigned t x c) (part_of h m sub None)

    -- channels of a whole variable
    whole-names : (d : Pos) (size : Size) (to : Bool) (names : NamesTree) → IsMeant (Variable d size) →
        let c : Option ChannelsTree = Some (record { to = to; names = names }) in Fits (says (Variable d size) None c) (site-of (Variable d size) None c ∷ rest)
    whole-names d size to (one_name x) w =
        let long = ap elements w.3 in
        one-part t (record { variable = d; extent = Whole (elements size) }) (Some (record { to = to; names = one_name x }))
        (site-of (Variable d size) None (Some (record { to = to; names = one_name x }))) rest w.0 w.1 w.2 (omega (arith, long)) (omega arith)
    whole-names d size to (name_list xs) w = λ fine.
        let few = list-fits size (length xs) fine.0 in
        let long = ap elements w.3 in
        one-part t (record { variable = d; extent = Whole (elements size) }) (Some (record { to = to; names = name_list xs }))
        (site-of (Variable d size) None (Some (record { to = to; names = name_list xs }))) rest w.0 w.1 w.2 (omega (arith, long, few)) (omega (arith, few)) fine

    -- those of one element
    element-names : (d : Pos) (size : Size) (e : ExprTree) (k : ℕ) → k < elements size → (to : Bool) (names : NamesTree) → IsMeant (Variable d size) →
        let c : Option ChannelsTree = Some (record { to = to; names = names }) in
        Fits (assigned t (record { variable = d; extent = Element k }) c ∷ [])
        (Defined Assign word.pos t (Variable d size) true (is_wrong_part h (Variable d size) (Some e) (listed_names c)) (Some (record { variable = d; extent = Element k })) ∷ rest)
    element-names d size e k within to (one_name x) w =
        let long = ap elements w.3 in
        let c : Option ChannelsTree = Some (record { to = to; names = one_name x }) in
        one-part t (record { variable = d; extent = Element k }) c
        (Defined Assign word.pos t (Variable d size) true (is_wrong_part h (Variable d size) (Some e) (listed_names c)) (Some (record { variable = d; extent = Element k }))) rest w.0 w.1 w.2
        (omega (arith, long, within)) (omega arith)
    element-names d size e k within to (name_list xs) w = λ fine.
        let list = (or-false (is_wrong_subscript h size (Some e)) (not (is_array size) || true || nat_lt (elements size) (length xs)) fine.0).1 in
        absurd (false≢true (sym (or-false (not (is_array size)) true (or-false (not (is_array size) || true) (nat_lt (elements size) (length xs)) list).0).1))

    -- one element, if the subscript names one
    element-says : (d : Pos) (size : Size) (e : ExprTree) (c : Option ChannelsTree) (o : Option ℕ) → element_at h size e ≡ o → IsMeant (Variable d size) →
        Fits (of_part (λ x. assigned t x c) (one_element d o)) (Defined Assign word.pos t (Variable d size) true (is_wrong_part h (Variable d size) (Some e) (listed_names c)) (one_element d o) ∷ rest)
    element-says d size e c None is w = λ fine. (omega arith, tt)
    element-says d size e None (Some k) is w =
        let long = ap elements w.3 in
        let within = element-within (elements size) (constant_of h e) k is in
        one-part t (record { variable = d; extent = Element k }) None
        (Defined Assign word.pos t (Variable d size) true (is_wrong_part h (Variable d size) (Some e) None) (Some (record { variable = d; extent = Element k }))) rest w.0 w.1 w.2
        (omega (arith, long, within)) (omega arith)
    element-says d size e (Some c) (Some k) is w = element-names d size e k (element-within (elements size) (constant_of h e) k is) c.to c.names w

    -- an `assign`
    assign-says : (m : Meaning) (sub : Option ExprTree) (c : Option ChannelsTree) → IsMeant m → Fits (says m sub c) (site-of m sub c ∷ rest)
    assign-says (Variable d size) None None w =
        let long = ap elements w.3 in
        one-part t (record { variable = d; extent = Whole (elements size) }) None (site-of (Variable d size) None None) rest w.0 w.1 w.2 (omega (arith, long)) (omega arith)
    assign-says (Variable d size) None (Some c) w = whole-names d size c.to c.names w
    assign-says (Variable d size) (Some e) c w = element-says d size e c (element_at h size e) refl w
    assign-says (Flag d) sub c w = λ fine. (omega arith, tt)
    assign-says Number sub c w = λ fine. (omega arith, tt)
    assign-says Nothing sub c w = λ fine. (omega arith, tt)

  -- ---- definitions

  -- names that mean variables mean declared ones
  abbrev IsGood : List Scope → Type 0
  IsGood s = Good IsMeant tt tt s

  -- a definition
  definition : (in_state : Bool) (s : Sight) → IsGood s.scopes → (d : DefinitionTree) → Fits (said_by s.scopes d) (in_definition in_state s d)
  definition in_state s good (declaration d) = λ fine. (omega arith, tt)
  definition in_state s good (assign a) =
      assign-says (is_hidden s.scopes) a.word a.place.name (maybe (in_value s) a.place.subscript) (meaning s.scopes a.place.name) a.place.subscript a.channels (good a.place.name)
  definition in_state s good (monitor a) = quiet monitored (λ x. refl) (λ x. tt) (place_part s.scopes a) (in_definition in_state s (monitor a))
  definition in_state s good (sync y) = quiet (λ x. synced x (flag_at s.scopes y.flag) 0) (λ x. refl) (λ x. tt) (place_part s.scopes y.place) (in_definition in_state s (sync y))
  definition in_state s good (sync_queue q) =
      quiet (λ x. synced x (flag_if_there s.scopes q.flag) (queue_size q.size)) (λ x. refl) (λ x. tt) (place_part s.scopes q.place) (in_definition in_state s (sync_queue q))
  definition in_state s good (event_flags names) = λ fine. (omega arith, tt)
  definition in_state s good (setting o) = λ fine. (omega arith, tt)
  definition in_state s good (function f) = λ fine. (omega arith, tt)

  -- all of some variables are declared in the program
  abbrev Up : List CopyVariable → Type 0
  Up vs = (v : CopyVariable) → In v vs → In v (declared p)

  -- a scope of such definitions
  more-good : (outer : List Scope) (ds : List DefinitionTree) → Up (by_definitions outer ds) → IsGood outer → IsGood (scope_of outer ds ∷ outer)
  more-good outer ds up good = good-more IsMeant tt tt (scope_of outer ds) outer (λ x is. by x.size x.name (of-scope outer ds x is)) good
    where
      by : (o : Option Size) (t : Token) → IsOf (by_definitions outer ds) (record { name = t; size = o }) → IsMeant (declared_as o t)
      by None t of = tt
      by (Some z) t of = let w = of z refl in (w.0, up w.0 w.1, ap (λ (x : Token). x.pos) w.2, w.3)

  -- definitions in their scope
  definitions : (in_state : Bool) (outer : Sight) (ds : List DefinitionTree) → Up (by_definitions outer.scopes ds) → IsGood outer.scopes →
      Fits (said_in outer.scopes ds) (in_definitions in_state outer ds)
  definitions in_state outer ds up good =
      let own = scope_of outer.scopes ds in
      let inside = within own outer in
      after (declares [] own) (flat_map (in_definition in_state inside) ds) (said_in outer.scopes ds)
      (each (said_by inside.scopes) (in_definition in_state inside) (definition in_state inside (more-good outer.scopes ds up good)) ds)

  -- a definition of the program: a function says nothing of links
  program-part : (s : Sight) → IsGood s.scopes → (d : DefinitionTree) → Fits (said_by s.scopes d) (in_program_part s d)
  program-part s good (function f) = any (in_function s f)
  program-part s good (declaration d) = definition false s good (declaration d)
  program-part s good (assign a) = definition false s good (assign a)
  program-part s good (monitor a) = definition false s good (monitor a)
  program-part s good (sync y) = definition false s good (sync y)
  program-part s good (sync_queue q) = definition false s good (sync_queue q)
  program-part s good (event_flags names) = definition false s good (event_flags names)
  program-part s good (setting o) = definition false s good (setting o)

  -- those of the program
  program-parts : (s : List Scope) → IsGood s → (above : List Heading) (ds : List DefinitionTree) → Fits (flat_map (said_by s) ds) (in_program_parts s above ds)
  program-parts s good above [] = any []
  program-parts s good above (d ∷ ds) =
      let here : Sight = record { scopes = s; functions = above } in
      both (said_by s d) (flat_map (said_by s) ds) (in_program_part here d) (in_program_parts s (above ++ headings_by d) ds)
      (program-part here good d) (program-parts s good (above ++ headings_by d) ds)

  -- ---- states and state sets

  -- a state
  state : (outer : Sight) (names : List Token) (s : StateTree) → Up (by_state outer.scopes s) → IsGood outer.scopes → Fits (said_in_state outer.scopes s) (in_state outer names s)
  state outer names s up good =
      let inside = within (scope_of outer.scopes s.definitions) outer in
      let xs = said_in outer.scopes s.definitions in
      let defs = in_definitions true outer s.definitions in
      let entry = maybe (in_plain_block inside names) s.entry in
      let clauses = in_clauses inside names false s.clauses in
      let exit = maybe (in_plain_block inside names) s.exit in
      let own = by_definitions outer.scopes s.definitions in
      let first = by_maybe inside.scopes s.entry in
      let middle = flat_map (by_clause inside.scopes) s.clauses in
      let last = by_maybe inside.scopes s.exit in
      trail (defs ++ entry ++ clauses) exit xs (trail (defs ++ entry) clauses xs (trail defs entry xs
      (definitions true outer s.definitions (λ v is. up v (in-left v (own ++ first ++ middle) last (in-left v (own ++ first) middle (in-left v own first is)))) good)))

  -- states
  states : (outer : Sight) (names : List Token) (k : ℕ) (ss : List StateTree) → Up (flat_map (by_state outer.scopes) ss) → IsGood outer.scopes →
      Fits (flat_map (said_in_state outer.scopes) ss) (in_states outer names k ss)
  states outer names k [] up good = any []
  states outer names k (s ∷ ss) up good =
      let scopes = outer.scopes in
      both (said_in_state scopes s) (flat_map (said_in_state scopes) ss) (in_numbered outer names k s) (in_states outer names (suc k) ss)
      (after (at_state names k s ∷ []) (in_state outer names s) (said_in_state scopes s) (state outer names s (λ v is. up v (in-left v (by_state scopes s) (flat_map (by_state scopes) ss) is)) good))
      (states outer names (suc k) ss (λ v is. up v (in-right v (by_state scopes s) (flat_map (by_state scopes) ss) is)) good)

  -- a state set
  state-set : (outer : Sight) (g : StateSetTree) → Up (by_state_set outer.scopes g) → IsGood outer.scopes → Fits (said_in_set outer.scopes g) (in_state_set outer g)
  state-set outer g up good =
      let inside = within (scope_of outer.scopes g.definitions) outer in
      let own = by_definitions outer.scopes g.definitions in
      let rest = flat_map (by_state inside.scopes) g.states in
      let defs-up : Up own = λ v is. up v (in-left v own rest is) in
      both (said_in outer.scopes g.definitions) (flat_map (said_in_state inside.scopes) g.states) (in_definitions false outer g.definitions) (in_all_states inside g.states)
      (definitions false outer g.definitions defs-up good)
      (states inside (map (λ (s : StateTree). s.name) g.states) 0 g.states (λ v is. up v (in-right v own rest is)) (more-good outer.scopes g.definitions defs-up good))

  -- state sets
  state-sets : (outer : Sight) (names : List Token) (k : ℕ) (gs : List StateSetTree) → Up (flat_map (by_state_set outer.scopes) gs) → IsGood outer.scopes →
      Fits (flat_map (said_in_set outer.scopes) gs) (in_state_sets outer names k gs)
  state-sets outer names k [] up good = any []
  state-sets outer names k (g ∷ gs) up good =
      let scopes = outer.scopes in
      both (said_in_set scopes g) (flat_map (said_in_set scopes) gs) (in_numbered_set outer names k g) (in_state_sets outer names (suc k) gs)
      (after (StateSet g.word g.name (is_later names k g.name) ∷ []) (in_state_set outer g) (said_in_set scopes g)
      (state-set outer g (λ v is. up v (in-left v (by_state_set scopes g) (flat_map (by_state_set scopes) gs) is)) good))
      (state-sets outer names (suc k) gs (λ v is. up v (in-right v (by_state_set scopes g) (flat_map (by_state_set scopes) gs) is)) good)

  -- all of a program
  pub program : Fits (said_in_program p) (sites p)
  program =
      let s = program_sight p in
      let own = by_definitions [] p.definitions in
      let first = by_maybe s.scopes p.entry in
      let middle = flat_map (by_state_set s.scopes) p.state_sets in
      let last = by_maybe s.scopes p.exit in
      let names = declares [] (scope_of [] p.definitions) in
      let parts = in_program_parts s.scopes [] p.definitions in
      let defs = names ++ parts in
      let entry = maybe (in_plain_block s []) p.entry in
      let sets = in_all_sets s p.state_sets in
      let exit = maybe (in_plain_block s []) p.exit in
      let defs-up : Up own = λ v is. in-left v (own ++ first ++ middle) last (in-left v (own ++ first) middle (in-left v own first is)) in
      let none : IsGood [] = good-none IsMeant tt tt in
      let good = more-good [] p.definitions defs-up none in
      trail (defs ++ entry ++ sets) exit (said_in_program p)
      (both (said_in [] p.definitions) (flat_map (said_in_set s.scopes) p.state_sets) (defs ++ entry) sets
      (trail defs entry (said_in [] p.definitions) (after names parts (said_in [] p.definitions) (program-parts s.scopes good [] p.definitions)))
      (state-sets s (map (λ (g : StateSetTree). g.name) p.state_sets) 0 p.state_sets (λ v is. in-left v (own ++ first ++ middle) last (in-right v (own ++ first) middle is))
      good))
