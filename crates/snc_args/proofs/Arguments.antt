-- One argument of a command, known by the rules of the command, whichever it is: what `clap` asks of an argument before it says what
-- a parse gives.
use Rattle.std.proofs.Common.{zero, suc, ◌≡◌, ◌∙◌, ◌<◌, ◌+◌, ◌&&◌, ◌||◌, ap, ℕ, Bool, true, false, not, List, [], ◌∷◌, length, map, is_some, Option, Some, None, refl, sym, subst, inl, inr, arith}
use Rattle.std.specs.Prelude.{◌==◌, codes}
use Rattle.std.specs.List.{All, list_all, slice_index_or}
use Rattle.std.specs.Str.{bytes_eq}
use Rattle.std.proofs.lemmas.Bool.{eqb-true}
use Rattle.std.proofs.lemmas.List.{length-map}
use Rattle.std.proofs.lemmas.Slice.Eq.{bytes_eq-Decides}
use Rattle.clap.specs.Facts.{args_of, groups_of}
use Rattle.clap.specs.Built.{IsAuto, IsPlain, IsPlainArg}
use Rattle.clap.specs.Simple.{App, app_of, has_plain_fields}
use Rattle.clap.specs.Walk.{Rule, Text, is_empty, is_free_arg, is_simple_arg, rule_of}
use Rattle.clap.specs.declared.builder.arg.Arg.{Arg}
use Rattle.clap.specs.declared.builder.command.Command.{Command}
use Rattle.clap.specs.declared.builder.command.Command.TheViews.{out-Command}

-- ---- tests

-- The first of two that hold together.
pub left : (a b : Bool) → (a && b) ≡ true → a ≡ true
left true b e = refl
left false b e = e

-- The second of two that hold together.
pub right : (a b : Bool) → (a && b) ≡ true → b ≡ true
right true b e = e
right false b e = let bad : false ≡ true = e in cc

-- What is not true is false.
negated : (a : Bool) → not a ≡ true → a ≡ false
negated true e = let bad : false ≡ true = e in cc
negated false e = refl

-- Nothing is there.
none_from : {X : Type 0} (o : Option X) → is_some o ≡ false → o ≡ None
none_from None e = refl
none_from (Some x) e = let bad : true ≡ false = e in cc

-- A list of no elements.
nil_from : {X : Type 0} (xs : List X) → (length xs == 0) ≡ true → xs ≡ []
nil_from [] e = refl
nil_from (x ∷ xs) e = let bad : length (x ∷ xs) ≡ 0 = eqb-true (length (x ∷ xs)) 0 e in absurd (omega arith)

-- A list of some elements has a first.
pub first_in : {X : Type 0} (xs : List X) → 0 < length xs → X
first_in [] lt = absurd (omega arith)
first_in (x ∷ xs) lt = x

-- ---- arguments by their rules

-- An element of a list, seen through a function.
at-map : {X Y : Type 0} (f : X → Y) (xs : List X) (k : ℕ) (d : X) (e : Y) → k < length xs → f (slice_index_or xs k d) ≡ slice_index_or (map f xs) k e
at-map f [] k d e lt = absurd (omega arith)
at-map f (x ∷ xs) zero d e lt = refl
at-map f (x ∷ xs) (suc k) d e lt = at-map f xs k d e (omega arith)

-- What holds of the first and of each other element holds of each.
all-cons : {X : Type 0} (P : X → Type 0) (x : X) (xs : List X) → P x → All P xs → (k : ℕ) (d : X) → k < length (x ∷ xs) → P (slice_index_or (x ∷ xs) k d)
all-cons P x xs here rest zero d lt = here
all-cons P x xs here rest (suc k) d lt = rest k d (omega arith)

-- Where a test passes on each element as a function shows it, each element has what the test says.
all_of_map : {X Y : Type 0} (f : X → Y) (test : Y → Bool) (P : X → Type 0) → ((x : X) → test (f x) ≡ true → P x)
    → (xs : List X) → list_all test (map f xs) ≡ true → All P xs
all_of_map f test P says [] e = λ k d lt. absurd (omega arith)
all_of_map f test P says (x ∷ xs) e =
    let here : test (f x) ≡ true = left (test (f x)) (list_all test (map f xs)) e in
    let rest : list_all test (map f xs) ≡ true = right (test (f x)) (list_all test (map f xs)) e in
    all-cons P x xs (says x here) (all_of_map f test P says xs rest)

-- An argument with no rule on another one, and with none of the settings that change how words are read.
abbrev pub is_lone : Rule → Bool
is_lone r = r.is_simple && r.is_free

-- Such an argument excludes nothing.
plain_arg : (a : Arg) → is_lone (rule_of a) ≡ true → IsPlainArg a
plain_arg a e =
    let simple = left (is_simple_arg a) (is_free_arg a) e in
    let free = right (is_simple_arg a) (is_free_arg a) e in
    let overrides = left _ _ simple in
    let groups = left _ _ (right _ _ (right _ _ simple)) in
    let exclusive = left _ _ free in
    let conflicts = left _ _ (right _ _ free) in
    (negated a.exclusive exclusive, nil_from a.conflicts.items conflicts, nil_from a.overrides.items overrides, nil_from a.groups.items groups)

-- Its default stands under no condition.
pub no_conditions : (a : Arg) → is_simple_arg a ≡ true → a.default_vals_ifs.items ≡ []
no_conditions a e = nil_from a.default_vals_ifs.items (left _ _ (right _ _ e))

-- Its values are not cut.
pub no_delimiter : (a : Arg) → is_simple_arg a ≡ true → a.val_delim ≡ None
no_delimiter a e =
    let one = right (is_empty a.overrides.items) _ e in
    let two = right (is_empty a.default_vals_ifs.items) _ one in
    let three = right (is_empty a.groups.items) _ two in
    let here : not (is_some a.val_delim) ≡ true = left (not (is_some a.val_delim)) _ three in
    none_from a.val_delim (negated (is_some a.val_delim) here)

-- What the rules of a command say of it as a whole: no argument has a rule on another, and none is shared with subcommands.
pub record IsOpen (c : Command) : Type 0 where
  pub plain : IsPlain c
  pub globals : (out-Command c).has_globals ≡ false
  pub negates : (out-Command c).subcommand_negates_reqs ≡ false

-- The same, as a test of what the command is.
abbrev pub is_open : App → Bool
is_open a = a.top.is_plain && (list_all is_lone a.top.rules && not a.top.subcommand_negates_reqs)

-- The test says it of the command itself.
open_of : (c : Command) → is_open (app_of c) ≡ true → IsOpen c
open_of c h =
    let fields : has_plain_fields (out-Command c) ≡ true = left _ _ h in
    let more : (list_all is_lone (map rule_of (args_of c)) && not (out-Command c).subcommand_negates_reqs) ≡ true = right _ _ h in
    let rules : list_all is_lone (map rule_of (args_of c)) ≡ true = left _ _ more in
    let negates : not (out-Command c).subcommand_negates_reqs ≡ true = right _ _ more in
    let groups = left _ _ fields in
    let one = right _ _ fields in
    let two = right _ _ one in
    let globals : not (out-Command c).has_globals ≡ true = left _ _ two in
    record {
      plain = (all_of_map rule_of is_lone IsPlainArg plain_arg (args_of c) rules, nil_from (groups_of c) groups);
      globals = negated (out-Command c).has_globals globals;
      negates = negated (out-Command c).subcommand_negates_reqs negates;
    }

-- And of a command that is a given one.
pub open_from : (c : Command) (a : App) → app_of c ≡ a → is_open a ≡ true → IsOpen c
open_from c a is e = open_of c (subst (λ (b : App). is_open b ≡ true) (sym is) e)

-- ---- one argument of a command

-- No other place than k has this id, of the places from i on.
abbrev pub is_only : ℕ → ℕ → Text → List Rule → Bool
is_only i k id [] = true
is_only i k id (r ∷ rest) = ((i == k) || not (bytes_eq r.id id)) && is_only (i + 1) k id rest

-- The id names an argument of the caller's own: it has a character, and `clap` adds none of that name.
abbrev pub is_own : Text → Bool
is_own id = not (length id == 0) && (not (bytes_eq id (codes "help")) && not (bytes_eq id (codes "version")))

-- The argument at place k of the command has the rule r. It alone has its id, which is of the caller's own.
pub record IsArgument (c : Command) (k : ℕ) (d : Arg) (r : Rule) : Type 0 where
  pub inside : k < length (args_of c)
  pub rule : rule_of (slice_index_or (args_of c) k d) ≡ r
  pub lone : (j : ℕ) (e : Arg) → j < length (args_of c)
      → bytes_eq (slice_index_or (args_of c) j e).id.now (slice_index_or (args_of c) k d).id.now ≡ true → j ≡ k
  pub named : (slice_index_or (args_of c) k d).id.now ≡ [] → ⊥
  pub own : IsAuto (slice_index_or (args_of c) k d) → ⊥
  pub simple : is_simple_arg (slice_index_or (args_of c) k d) ≡ true

-- The same, as a test of the rules.
abbrev pub is_argument : List Rule → ℕ → Rule → Bool
is_argument rules k r = is_only 0 k r.id rules && (is_own r.id && r.is_simple)

equal_places : (i k : ℕ) (same s : Bool) → (i == k) ≡ same → s ≡ true → (same || not s) ≡ true → i ≡ k
equal_places i k true s e on h = eqb-true i k e
equal_places i k false true e on h = let bad : false ≡ true = h in cc
equal_places i k false false e on h = let bad : false ≡ true = on in cc

-- Where the test passes, an argument with the id stands at place k.
only_place : (rs : List Rule) (i k : ℕ) (id : Text) → is_only i k id rs ≡ true
    → (j : ℕ) (e : Rule) → j < length rs → bytes_eq (slice_index_or rs j e).id id ≡ true → i + j ≡ k
only_place [] i k id h j e lt at = absurd (omega arith)
only_place (r ∷ rs) i k id h zero e lt at =
    let here : ((i == k) || not (bytes_eq r.id id)) ≡ true = left _ (is_only (i + 1) k id rs) h in
    let same : i ≡ k = equal_places i k (i == k) (bytes_eq r.id id) refl at here in
    omega arith
only_place (r ∷ rs) i k id h (suc j) e lt at =
    let more : is_only (i + 1) k id rs ≡ true = right ((i == k) || not (bytes_eq r.id id)) (is_only (i + 1) k id rs) h in
    let rest : i + 1 + j ≡ k = only_place rs (i + 1) k id more j e (omega arith) at in
    omega arith

-- An id of the caller's own is not empty.
has_name : (id : Text) → is_own id ≡ true → id ≡ [] → ⊥
has_name [] own e = let bad : false ≡ true = own in cc
has_name (x ∷ xs) own e = cc

-- Two texts that a test tells apart.
unlike : (id t : Text) → not (bytes_eq id t) ≡ true → id ≡ t → ⊥
unlike id t differ e =
    let yes : bytes_eq id t ≡ true = (bytes_eq-Decides id t).1 e in
    let other : bytes_eq id t ≡ false = negated (bytes_eq id t) differ in
    cc

-- And it is no flag that `clap` adds.
not_auto : (a : Arg) (id : Text) → a.id.now ≡ id → is_own id ≡ true → IsAuto a → ⊥
not_auto a id is own auto =
    let names : (not (bytes_eq id (codes "help")) && not (bytes_eq id (codes "version"))) ≡ true = right _ _ own in
    let help : not (bytes_eq id (codes "help")) ≡ true = left _ _ names in
    let version : not (bytes_eq id (codes "version")) ≡ true = right _ _ names in
    elim auto [
      | inl h ↦ unlike id (codes "help") help (sym is ∙ h)
      | inr h ↦ unlike id (codes "version") version (sym is ∙ h)
    ]

-- An argument of a command that is a given one.
pub argument_from : (c : Command) (a : App) (k : ℕ) (d : Arg) (r : Rule) → app_of c ≡ a → k < length a.top.rules
    → slice_index_or a.top.rules k r ≡ r → is_argument a.top.rules k r ≡ true → IsArgument c k d r
argument_from c a k d r is lt at e =
    let rules : map rule_of (args_of c) ≡ a.top.rules = ap (λ (b : App). b.top.rules) is in
    let lengths : length (args_of c) ≡ length a.top.rules = sym (length-map (args_of c) rule_of) ∙ ap length rules in
    let inside : k < length (args_of c) = omega arith in
    let only : is_only 0 k r.id a.top.rules ≡ true = left (is_only 0 k r.id a.top.rules) (is_own r.id && r.is_simple) e in
    let rest : (is_own r.id && r.is_simple) ≡ true = right (is_only 0 k r.id a.top.rules) (is_own r.id && r.is_simple) e in
    let own : is_own r.id ≡ true = left (is_own r.id) r.is_simple rest in
    let simple : r.is_simple ≡ true = right (is_own r.id) r.is_simple rest in
    let rule : rule_of (slice_index_or (args_of c) k d) ≡ r =
    at-map rule_of (args_of c) k d r inside ∙ (ap (λ (rs : List Rule). slice_index_or rs k r) rules ∙ at) in
    let id : (slice_index_or (args_of c) k d).id.now ≡ r.id = ap (λ (s : Rule). s.id) rule in
    record {
      inside = inside;
      rule = rule;
      lone = λ j e low same.
          let there : rule_of (slice_index_or (args_of c) j e) ≡ slice_index_or a.top.rules j r =
          at-map rule_of (args_of c) j e r low ∙ ap (λ (rs : List Rule). slice_index_or rs j r) rules in
          let id_there : (slice_index_or (args_of c) j e).id.now ≡ (slice_index_or a.top.rules j r).id = ap (λ (s : Rule). s.id) there in
          let to_id : bytes_eq (slice_index_or (args_of c) j e).id.now r.id ≡ true =
          subst (λ (t : Text). bytes_eq (slice_index_or (args_of c) j e).id.now t ≡ true) id same in
          let both : bytes_eq (slice_index_or a.top.rules j r).id r.id ≡ true = subst (λ (t : Text). bytes_eq t r.id ≡ true) id_there to_id in
          let place : 0 + j ≡ k = only_place a.top.rules 0 k r.id only j r (omega arith) both in
          omega arith;
      named = λ empty. has_name r.id own (sym id ∙ empty);
      own = not_auto (slice_index_or (args_of c) k d) r.id id own;
      simple = ap (λ (s : Rule). s.is_simple) rule ∙ simple;
    }
