-- The tests hold exactly where the rules are broken.
use Rattle.std.proofs.Common.{◌≡◌, ℕ, ◌+◌, ◌-◌, ◌<◌, ◌≤◌, Bool, true, false, not, ◌==◌, nat_le, nat_lt, List, [], ◌∷◌, ◌++◌, Option, None, Some, refl, sym, ap, ◌∙◌, subst, arith, if◌then◌else◌}
use Rattle.std.specs.Bool.{Decides, IsTrue}
use Rattle.std.specs.List.{Any, All, list_any}
use Rattle.std.proofs.lemmas.Bool.{false≢true, true≢false, eqb-true, eqb-false, eq-eqb, ne_eqb, leb-true, leb-false}
use Rattle.std.proofs.lemmas.Bool.Decides.{Decides-eqb, Decides-ltb, Decides-and, Decides-or, Decides-not, Decides-like, Decides-at, Decides-below_or}
use Rattle.std.proofs.lemmas.List.Folds.{Any-from_list_any, list_any-from_Any}
use Rattle.std.proofs.lemmas.List.Elements.{All-nil, All-cons, All-head, All-tail}
use Rattle.snl_text.specs.declared.tokens.Pos.{Pos}
use Rattle.snl_text.specs.declared.tokens.Token.{Token}
use Rattle.snl_names.specs.declared.sites.Extent.{Extent}
use Rattle.snl_names.specs.declared.sites.Extent.TheVariants.{Whole, Front, Element}
use Rattle.snl_names.specs.declared.sites.Meaning.{Meaning}
use Rattle.snl_names.specs.declared.sites.Meaning.TheVariants.{Variable, Flag, Number}
use Rattle.snl_names.specs.declared.sites.Part.{Part}
use Rattle.snl_names.specs.declared.sites.Purpose.{Purpose}
use Rattle.snl_names.specs.declared.sites.Purpose.TheVariants.{Read, Channel, Queued, Flagged, Delayed, Dropped, Ignored}
use Rattle.snl_names.specs.declared.sites.Size.{Size}
use Rattle.snl_names.specs.declared.sites.Size.TheVariants.{Scalar}
use Rattle.snl_names.specs.declared.sites.Sort.{Sort}
use Rattle.snl_names.specs.declared.sites.Sort.TheVariants.{Assign, Queue}
use Rattle.snl_names.specs.declared.sites.Site.{Site}
use Rattle.snl_names.specs.declared.sites.Site.TheVariants.{Defined, Use, Call}
use Rattle.snl_names.specs.Scopes.{is_array}
use Rattle.snl_rules.specs.Elements.{is_assign, is_monitor, is_queue, part_at, IsIn, HasElement, IsOf, HasExtent, NamesElement, NamesVariable, SomeElement, FirstAssign, is_whole, AssignedWhole, AssignedByElements}
use Rattle.snl_rules.specs.Rules.{WrongDefinition, NamedTwice, UnassignedExtent, Unassigned, NotMonitored, WrongChannel, WrongUse, UnassignedUse, WithoutQueue, IsMeant, IsPlace, UsesDeclared, Unused}
use Rattle.snl_rules.specs.Tests.{is_in, has_element, is_of, names_element, names_variable, some_below, named_of, overlaps, names_again, lacks, lacks_some, whole_by, first_or, first_whole, is_yes, is_no, is_meant, is_place, uses_declared, room, is_over, all_facts, is_wrong_definition, is_unassigned_extent, is_unassigned, is_wrong_channel, is_wrong_use, is_unassigned_use, is_without_queue}

-- what never holds
never : Decides false ⊥
never = (λ e. absurd (false≢true e), λ h. absurd h)

-- a test tells itself
itself : (b : Bool) → Decides b (IsTrue b)
itself b = (λ e. e, λ e. e)

-- some element passes
any_decides : {X : Type 0} (p : X → Bool) (P : X → Type 0) → ((x : X) → Decides (p x) (P x)) → (xs : List X) → Decides (list_any p xs) (Any P xs)
any_decides p P each xs = (
  (λ e. let w = Any-from_list_any p xs e in (w.0, w.1, w.2, w.3, (each w.1).0 w.4)),
  (λ w. list_any-from_Any p xs (w.0, w.1, w.2, w.3, (each w.1).1 w.4)),
)

-- ---- elements

-- an extent has an element
in_decides : (k : ℕ) (x : Extent) → Decides (is_in k x) (IsIn k x)
in_decides k (Whole n) = Decides-ltb k n
in_decides k (Front n) = Decides-ltb k n
in_decides k (Element j) = Decides-eqb k j

-- a part has an element
has_decides : (v k : ℕ) (p : Option Part) → Decides (has_element v k p) (HasElement v k p)
has_decides v k None = never
has_decides v k (Some p) = Decides-and (p.variable.offset == v) (is_in k p.extent) (Decides-eqb p.variable.offset v) (in_decides k p.extent)

-- a part is of a variable
of_decides : (v : ℕ) (p : Option Part) → Decides (is_of v p) (IsOf v p)
of_decides v None = never
of_decides v (Some p) = Decides-eqb p.variable.offset v

-- some definition names an element
element_decides : (sorts : Sort → Bool) (all : List Site) (v k : ℕ) → Decides (list_any (names_element sorts v k) all) (Any (NamesElement sorts v k) all)
element_decides sorts all v k = any_decides (names_element sorts v k) (NamesElement sorts v k) (λ s. has_decides v k (part_at sorts s)) all

-- some definition names a variable
variable_decides : (sorts : Sort → Bool) (all : List Site) (v : ℕ) → Decides (list_any (names_variable sorts v) all) (Any (NamesVariable sorts v) all)
variable_decides sorts all v = any_decides (names_variable sorts v) (NamesVariable sorts v) (λ s. of_decides v (part_at sorts s)) all

-- a number of an extent passes a test
some_in_extent : (ℕ → Bool) → Extent → Bool
some_in_extent f (Whole m) = some_below f m
some_in_extent f (Front m) = some_below f m
some_in_extent f (Element k) = f k

-- some element of an extent is such a one
extent_decides : (f : ℕ → Bool) (P : ℕ → Type 0) → ((k : ℕ) → Decides (f k) (P k)) → (x : Extent) → Decides (some_in_extent f x) ((k : ℕ) × IsIn k x × P k)
unfolding some_in_extent
extent_decides f P each (Whole m) = Decides-below_or f P (some_below f) each refl (λ _. refl) m
extent_decides f P each (Front m) = Decides-below_or f P (some_below f) each refl (λ _. refl) m
extent_decides f P each (Element j) = Decides-like (f j) (λ p. (j, refl, p)) (λ w. subst P w.1 w.2) (each j)

-- some element of a part is such a one
part_decides : (f : ℕ → ℕ → Bool) (P : ℕ → ℕ → Type 0) → ((v k : ℕ) → Decides (f v k) (P v k)) → (p : Part) → Decides (some_in_extent (f p.variable.offset) p.extent) (SomeElement (Some p) P)
part_decides f P each p =
    Decides-like (some_in_extent (f p.variable.offset) p.extent)
    (λ w. record { variable = p.variable.offset; element = w.0; has = (refl, w.1); such = w.2 })
    (λ h. (h.element, h.has.1, subst (λ v. P v h.element) (sym h.has.0) h.such))
    (extent_decides (f p.variable.offset) (P p.variable.offset) (each p.variable.offset) p.extent)

-- no part has no element
no_element : (P : ℕ → ℕ → Type 0) → Decides false (SomeElement None P)
no_element P = (λ e. absurd (false≢true e), λ h. absurd h.has)

-- what overlaps, by the elements of the extent
overlaps_is : (sorts : Sort → Bool) (all : List Site) (v : ℕ) (x : Extent) → overlaps (named_of sorts all) v x ≡ some_in_extent (λ k. list_any (names_element sorts v k) all) x
unfolding some_in_extent
overlaps_is sorts all v (Whole m) = refl
overlaps_is sorts all v (Front m) = refl
overlaps_is sorts all v (Element k) = refl

-- what lacks, by the elements of the extent
lacks_is : (sorts : Sort → Bool) (all : List Site) (v : ℕ) (x : Extent) → lacks (named_of sorts all) v x ≡ some_in_extent (λ k. not (list_any (names_element sorts v k) all)) x
unfolding some_in_extent
lacks_is sorts all v (Whole m) = refl
lacks_is sorts all v (Front m) = refl
lacks_is sorts all v (Element k) = refl

-- E19, E22
pub twice_decides : (sorts : Sort → Bool) (before : List Site) (p : Option Part) → Decides (names_again (named_of sorts before) p) (NamedTwice sorts before p)
twice_decides sorts before None = no_element (λ v k. Any (NamesElement sorts v k) before)
twice_decides sorts before (Some p) =
    Decides-at (overlaps (named_of sorts before) p.variable.offset p.extent) (some_in_extent (λ k. list_any (names_element sorts p.variable.offset k) before) p.extent)
    (overlaps_is sorts before p.variable.offset p.extent)
    (part_decides (λ v k. list_any (names_element sorts v k) before) (λ v k. Any (NamesElement sorts v k) before) (element_decides sorts before) p)

-- W4
pub unmonitored_decides : (all : List Site) (p : Option Part) → Decides (lacks_some (named_of is_monitor all) p) (NotMonitored all p)
unmonitored_decides all None = no_element (λ v k. Any (NamesElement is_monitor v k) all → ⊥)
unmonitored_decides all (Some p) =
    Decides-at (lacks (named_of is_monitor all) p.variable.offset p.extent) (some_in_extent (λ k. not (list_any (names_element is_monitor p.variable.offset k) all)) p.extent)
    (lacks_is is_monitor all p.variable.offset p.extent)
    (part_decides (λ v k. not (list_any (names_element is_monitor v k) all)) (λ v k. Any (NamesElement is_monitor v k) all → ⊥)
    (λ v k. Decides-not (list_any (names_element is_monitor v k) all) (element_decides is_monitor all v k)) p)

-- no definition names a variable
no_variable_decides : (sorts : Sort → Bool) (all : List Site) (v : ℕ) → Decides (not (list_any (names_variable sorts v) all)) (Any (NamesVariable sorts v) all → ⊥)
no_variable_decides sorts all v = Decides-not (list_any (names_variable sorts v) all) (variable_decides sorts all v)

-- E20, by the extent
unassigned_extent : (all : List Site) (v : ℕ) (x : Extent) → Decides (is_unassigned_extent (all_facts all) v x) (UnassignedExtent all v x)
unassigned_extent all v (Whole m) = no_variable_decides is_assign all v
unassigned_extent all v (Front m) = no_variable_decides is_assign all v
unassigned_extent all v (Element k) = Decides-not (list_any (names_element is_assign v k) all) (element_decides is_assign all v k)

-- E20 at a definition
pub unassigned_decides : (all : List Site) (p : Option Part) → Decides (is_unassigned (all_facts all) p) (Unassigned all p)
unassigned_decides all None = never
unassigned_decides all (Some p) = unassigned_extent all p.variable.offset p.extent

-- ---- first assigns

-- none is not some
nothing : {B : Type 0} (b : Bool) → None ≡ Some b → B
nothing b e = let h : ⊥ = cc in absurd h

-- what is inside of equal options
same_inside : (a b : Bool) → Some a ≡ Some b → a ≡ b
same_inside a b e = cc

-- the extent of a part of this variable, by the test of the variable
whole_found_by : (p : Part) (v : ℕ) (b t : Bool) → (p.variable.offset == v) ≡ t → (if t then Some (is_whole p.extent) else None) ≡ Some b
    → (e : Extent) × HasExtent v e (Some p) × (is_whole e ≡ b)
whole_found_by p v b true s h = (p.extent, (eqb-true p.variable.offset v s, refl), same_inside (is_whole p.extent) b h)
whole_found_by p v b false s h = nothing b h

-- the extent of a part of this variable
whole_found : (p : Option Part) (v : ℕ) (b : Bool) → whole_by v p ≡ Some b → (e : Extent) × HasExtent v e p × (is_whole e ≡ b)
whole_found None v b h = nothing b h
whole_found (Some p) v b h = whole_found_by p v b (p.variable.offset == v) refl h

-- a part with this extent
whole_has : (p : Option Part) (v : ℕ) (e : Extent) → HasExtent v e p → whole_by v p ≡ Some (is_whole e)
whole_has None v e h = absurd h
whole_has (Some p) v e h =
    ap (λ b. if b then Some (is_whole p.extent) else None) (eq-eqb p.variable.offset v h.0) ∙ ap (λ x. Some (is_whole x)) h.1

-- a part of another variable
whole_not : (p : Option Part) (v : ℕ) → (IsOf v p → ⊥) → whole_by v p ≡ None
whole_not None v h = refl
whole_not (Some p) v h = ap (λ b. if b then Some (is_whole p.extent) else None) (ne_eqb p.variable.offset v h)

-- it is of another variable, by the test
not_of_by : (p : Part) (v : ℕ) (t : Bool) → (p.variable.offset == v) ≡ t → (if t then Some (is_whole p.extent) else None) ≡ None → p.variable.offset ≡ v → ⊥
not_of_by p v true s h e = nothing (is_whole p.extent) (sym h)
not_of_by p v false s h e = eqb-false p.variable.offset v s e

-- a part that tells nothing is of another variable
not_of : (p : Option Part) (v : ℕ) → whole_by v p ≡ None → IsOf v p → ⊥
not_of None v h e = e
not_of (Some p) v h e = not_of_by p v (p.variable.offset == v) refl h e

-- a first `assign`, with what is told of it
abbrev Found : List Site → ℕ → Bool → Type 0
Found all v b = (e : Extent) × FirstAssign all v e × (is_whole e ≡ b)

-- the first site is it, or it comes later
found_by : (s : Site) (rest : List Site) (v : ℕ) (b : Bool) (o : Option Bool) → whole_by v (part_at is_assign s) ≡ o → first_or o (first_whole rest v) ≡ Some b
    → (first_whole rest v ≡ Some b → Found rest v b) → Found (s ∷ rest) v b
found_by s rest v b (Some x) e h later =
    let w = whole_found (part_at is_assign s) v x e in
    (w.0, record { before = []; site = s; after = rest; stands = refl; assigns = w.1; first = All-nil (λ t. NamesVariable is_assign v t → ⊥) }, w.2 ∙ same_inside x b h)
found_by s rest v b None e h later =
    let w = later h in (
      w.0,
      record {
        before = s ∷ w.1.before;
        site = w.1.site;
        after = w.1.after;
        stands = ap (λ l. s ∷ l) w.1.stands;
        assigns = w.1.assigns;
        first = All-cons (λ t. NamesVariable is_assign v t → ⊥) s w.1.before (not_of (part_at is_assign s) v e) w.1.first;
      },
      w.2,
    )

-- what is told is of a first `assign`
first_found : (all : List Site) (v : ℕ) (b : Bool) → first_whole all v ≡ Some b → Found all v b
first_found [] v b h = nothing b h
first_found (s ∷ rest) v b h = found_by s rest v b (whole_by v (part_at is_assign s)) refl h (λ e. first_found rest v b e)

-- it is told after sites that are none
first_at : (before : List Site) (s : Site) (after : List Site) (v : ℕ) (e : Extent) → HasExtent v e (part_at is_assign s) → All (λ t. NamesVariable is_assign v t → ⊥) before
    → first_whole (before ++ s ∷ after) v ≡ Some (is_whole e)
first_at [] s after v e has none = ap (λ o. first_or o (first_whole after v)) (whole_has (part_at is_assign s) v e has)
first_at (x ∷ before) s after v e has none =
    ap (λ o. first_or o (first_whole (before ++ s ∷ after) v)) (whole_not (part_at is_assign x) v (All-head (λ t. NamesVariable is_assign v t → ⊥) x before none))
    ∙ first_at before s after v e has (All-tail (λ t. NamesVariable is_assign v t → ⊥) x before none)

-- what is told of a first `assign`
first_holds : (all : List Site) (v : ℕ) (e : Extent) → FirstAssign all v e → first_whole all v ≡ Some (is_whole e)
first_holds all v e h = ap (λ l. first_whole l v) h.stands ∙ first_at h.before h.site h.after v e h.assigns h.first

-- told as whole
yes_some : (o : Option Bool) → is_yes o ≡ true → o ≡ Some true
yes_some None e = absurd (false≢true e)
yes_some (Some true) e = refl
yes_some (Some false) e = absurd (false≢true e)

-- told as by elements
no_some : (o : Option Bool) → is_no o ≡ true → o ≡ Some false
no_some None e = absurd (false≢true e)
no_some (Some true) e = absurd (false≢true e)
no_some (Some false) e = refl

-- the first is of the whole
yes_decides : (all : List Site) (v : ℕ) → Decides (is_yes (first_whole all v)) (AssignedWhole all v)
yes_decides all v = ((λ e. first_found all v true (yes_some (first_whole all v) e)), (λ w. ap is_yes (first_holds all v w.0 w.1) ∙ w.2))

-- the first is of elements
no_decides : (all : List Site) (v : ℕ) → Decides (is_no (first_whole all v)) (AssignedByElements all v)
no_decides all v = (
  (λ e. let w = first_found all v false (no_some (first_whole all v) e) in (w.0, w.1, ap not w.2)),
  (λ w. ap is_no (first_holds all v w.0 w.1) ∙ w.2),
)

-- ---- E29, E20 and E23 at names

-- E29 at a definition
pub definition_decides : (all : List Site) (sort : Sort) (m : Meaning) (sub wrong : Bool) → Decides (is_wrong_definition (all_facts all) sort m sub wrong) (WrongDefinition all sort m sub wrong)
definition_decides all Assign (Variable d size) sub wrong = itself wrong
definition_decides all (Queue n) (Variable d size) sub wrong =
    Decides-or wrong _ (itself wrong) (Decides-or sub _ (itself sub) (Decides-and (is_array size) _ (itself (is_array size)) (no_decides all d.offset)))
definition_decides all sort (Variable d size) sub wrong =
    Decides-or wrong _ (itself wrong) (Decides-and sub _ (itself sub) (yes_decides all d.offset))
definition_decides all sort m sub wrong = never

-- E29 where a channel is used
channel_decides : (all : List Site) (v : ℕ) (size : Size) (sub : Bool) → Decides (is_wrong_channel (all_facts all) v size sub) (WrongChannel all v size sub)
channel_decides all v Scalar sub = itself sub
channel_decides all v size true = yes_decides all v
channel_decides all v size false = no_decides all v

-- E29 where a value is used
plain_decides : (a sub : Bool) → Decides (if a then not sub else sub) (sub ≡ not a)
plain_decides true true = (λ e. absurd (false≢true e), λ e. absurd (true≢false e))
plain_decides true false = (λ e. refl, λ e. refl)
plain_decides false true = (λ e. refl, λ e. refl)
plain_decides false false = (λ e. e, λ e. e)

-- E29 in an expression
pub use_decides : (all : List Site) (p : Purpose) (m : Meaning) (sub : Bool) → Decides (is_wrong_use (all_facts all) p m sub) (WrongUse all p m sub)
use_decides all Ignored m sub = never
use_decides all Flagged m sub = never
use_decides all Channel (Variable d size) sub = channel_decides all d.offset size sub
use_decides all Queued (Variable d size) sub = channel_decides all d.offset size sub
use_decides all p (Variable d size) sub = plain_decides (is_array size) sub
use_decides all Read Number sub = itself sub
use_decides all Delayed Number sub = itself sub
use_decides all Dropped Number sub = itself sub
use_decides all p m sub = never

-- E20 in an expression
pub unassigned_use_decides : (all : List Site) (p : Purpose) (m : Meaning) → Decides (is_unassigned_use (all_facts all) p m) (UnassignedUse all p m)
unassigned_use_decides all Channel (Variable d size) = no_variable_decides is_assign all d.offset
unassigned_use_decides all Queued (Variable d size) = no_variable_decides is_assign all d.offset
unassigned_use_decides all p m = never

-- E23
pub queue_decides : (all : List Site) (p : Purpose) (m : Meaning) → Decides (is_without_queue (all_facts all) p m) (WithoutQueue all p m)
queue_decides all Queued (Variable d size) = no_variable_decides is_queue all d.offset
queue_decides all p m = never

-- ---- W5, W6, W8

-- a meaning is a declaration
meant_decides : (v : ℕ) (m : Meaning) → Decides (is_meant v m) (IsMeant v m)
meant_decides v (Variable d size) = Decides-eqb d.offset v
meant_decides v (Flag d) = Decides-eqb d.offset v
meant_decides v m = never

-- a function is at a place
place_decides : (v : ℕ) (p : Option Pos) → Decides (is_place v p) (IsPlace v p)
place_decides v None = never
place_decides v (Some p) = Decides-eqb p.offset v

-- a site uses a declaration or a function
uses_decides : (v : ℕ) (s : Site) → Decides (uses_declared v s) (UsesDeclared v s)
uses_decides v (Use p t m sub) = meant_decides v m
uses_decides v (Defined sort word t m sub wrong part) = meant_decides v m
uses_decides v (Call t known fitting may valued function) = place_decides v function
uses_decides v s = never

-- W5, W6, W8
pub unused_decides : (all : List Site) (t : Token) → Decides (not (list_any (uses_declared t.pos.offset) all)) (Unused all t)
unused_decides all t =
    Decides-not (list_any (uses_declared t.pos.offset) all) (any_decides (uses_declared t.pos.offset) (UsesDeclared t.pos.offset) (uses_decides t.pos.offset) all)

-- ---- limits

-- a limit is passed, by whether it was before
over_by : (limit u n : ℕ) (b : Bool) → nat_le u limit ≡ b → Decides (is_over (if b then Some (limit - u) else None) n) ((u ≤ limit) × (limit < u + n))
over_by limit u n true e =
    let h : u ≤ limit = leb-true u limit e in
    Decides-like (nat_lt (limit - u) n) (λ (l : limit - u < n). (h, (omega arith))) (λ (w : (u ≤ limit) × (limit < u + n)). let x : limit < u + n = w.1 in omega arith) (Decides-ltb (limit - u) n)
over_by limit u n false e = (λ h. absurd (false≢true h), λ w. let x : limit < u = leb-false u limit e in let y : u ≤ limit = w.0 in absurd (omega arith))

-- E04
pub over_decides : (limit u n : ℕ) → Decides (is_over (room limit u) n) ((u ≤ limit) × (limit < u + n))
over_decides limit u n = over_by limit u n (nat_le u limit) refl
