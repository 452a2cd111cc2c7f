-- What a call says that is right: no part of it is ignored, and it has a value for each parameter of its function.
use Rattle.std.proofs.Common.{◌≡◌, ◌∙◌, refl, sym, ap, subst, ℕ, suc, Bool, true, false, not, ◌||◌, if◌then◌else◌, List, [], ◌∷◌, Option, None, Some, length}
use Rattle.std.specs.Prelude.{◌==◌, ◌&&◌}
use Rattle.std.proofs.lemmas.Bool.{true≢false, false≢true, eqb-true}
use Rattle.snl_text.specs.declared.tokens.Token.{Token}
use Rattle.snl_syntax.specs.Expressions.{ArgumentList, no_arguments, value, text}
use Rattle.snl_names.specs.declared.builtins.Builtin.{Builtin}
use Rattle.snl_names.specs.declared.calls.CallKind.{CallKind}
use Rattle.snl_names.specs.declared.calls.CallKind.TheVariants.{Unknown, BuiltIn, Defined}
use Rattle.snl_names.specs.declared.calls.Form.{Form}
use Rattle.snl_names.specs.declared.calls.Form.TheVariants as forms
use Rattle.snl_names.specs.declared.calls.Heading.{Heading}
use Rattle.snl_names.specs.declared.sites.Purpose.{Purpose}
use Rattle.snl_names.specs.declared.sites.Purpose.TheVariants.{Ignored}
use Rattle.snl_names.specs.Builtins.{form_of}
use Rattle.snl_names.specs.Calls.{are_values, count_of, defined, heading_in, is_fitting, is_known, or_defined}
use Rattle.snl_names.specs.Purposes.{argument, argument_of, in_parentheses, inner, is_ignored, target}
use Rattle.snl_names.specs.Scopes.{is_spelled}
use Rattle.snl_meaning.specs.Scenes.{Callable, callee_named}
use Rattle.snl_forgetting.specs.Own.{IsFull, values_in}

-- ---- purposes: no part of a call that is right is ignored

-- a part that gives a value
pub live-inner : (q : Purpose) → is_ignored q ≡ false → is_ignored (inner q) ≡ false
live-inner Ignored live = absurd (true≢false live)
live-inner _ live = refl

-- one in parentheses
pub live-parenthesized : (q : Purpose) → is_ignored q ≡ false → is_ignored (in_parentheses q) ≡ false
live-parenthesized Ignored live = absurd (true≢false live)
live-parenthesized _ live = refl

-- a target
pub live-target : (q : Purpose) → is_ignored q ≡ false → is_ignored (target q) ≡ false
live-target Ignored live = absurd (true≢false live)
live-target _ live = refl

-- an argument, by the form of its call
live-form : (f : Form) → is_ignored (argument_of f) ≡ false
live-form forms.ChannelPlace = refl
live-form forms.PutPlace = refl
live-form forms.QueueName = refl
live-form forms.FlagName = refl
live-form forms.Seconds = refl
live-form forms.Nothing = refl
live-form forms.Format = refl

-- an argument
pub live-argument : (q : Purpose) (c : CallKind) (fits : Bool) → is_ignored q ≡ false → is_known c ≡ true → fits ≡ true → is_ignored (argument q c fits) ≡ false
live-argument Ignored c fits live known fitting = absurd (true≢false live)
live-argument _ Unknown fits live known fitting = absurd (false≢true known)
live-argument _ c false live known fitting = absurd (false≢true fitting)
live-argument _ (BuiltIn b) true live known fitting = live-form (form_of b)
live-argument _ (Defined d) true live known fitting = refl

-- what the site of a call says, where it is not ignored
pub right-call : (known fits ignored : Bool) → ignored ≡ false → (known || ignored) ≡ true → (not known || fits || ignored) ≡ true → (known ≡ true) × (fits ≡ true)
right-call known fits true live k f = absurd (true≢false live)
right-call true true false live k f = (refl, refl)
right-call true false false live k f = absurd (false≢true f)
right-call false fits false live k f = absurd (false≢true k)

-- ---- calls

-- both of two
both-true : (a b : Bool) → (a && b) ≡ true → (a ≡ true) × (b ≡ true)
both-true true true is = (refl, refl)
both-true true false is = absurd (false≢true is)
both-true false b is = absurd (false≢true is)

-- all arguments are values
values-count : (all : ArgumentList) → are_values all ≡ true → values_in all ≡ count_of all
values-count no_arguments is = refl
values-count (value e rest) is = ap suc (values-count rest is)
values-count (text t rest) is = absurd (false≢true is)

-- functions have their headings, one for one
abbrev pub AreHeaded : List Callable → List Heading → Type 0
AreHeaded [] [] = Unit {0}
AreHeaded (c ∷ cs) (h ∷ hs) = (c.name ≡ h.name) × (length c.parameters ≡ h.parameters) × AreHeaded cs hs
AreHeaded [] (h ∷ hs) = ⊥
AreHeaded (c ∷ cs) [] = ⊥

-- then a call that fits a heading has a value for each parameter
full-by : (cs : List Callable) (hs : List Heading) → AreHeaded cs hs → (name : List ℕ) (all : ArgumentList) → is_fitting (defined (heading_in hs name)) all ≡ true →
    IsFull None (callee_named cs name) all
full-by [] hs headed name all fits = tt
full-by (c ∷ cs) [] headed name all fits = absurd headed
full-by (c ∷ cs) (h ∷ hs) headed name all fits =
    subst (λ (t : Token). IsFull None (if is_spelled name t then Some c else callee_named cs name) all) (sym headed.0) (by (is_spelled name h.name) fits (full-by cs hs headed.2 name all))
  where
    by : (b : Bool) → is_fitting (defined (if b then Some h else heading_in hs name)) all ≡ true →
        (is_fitting (defined (heading_in hs name)) all ≡ true → IsFull None (callee_named cs name) all) → IsFull None (if b then Some c else callee_named cs name) all
    by true fits others =
        let both = both-true (are_values all) (count_of all == h.parameters) fits in
        values-count all both.0 ∙ eqb-true (count_of all) h.parameters both.1 ∙ sym headed.1
    by false fits others = others fits

-- any call
pub full-call : (cs : List Callable) (hs : List Heading) → AreHeaded cs hs → (name : List ℕ) (function : Option Builtin) (all : ArgumentList) →
    is_fitting (or_defined function (heading_in hs name)) all ≡ true → IsFull function (callee_named cs name) all
full-call cs hs headed name None all fits = full-by cs hs headed name all fits
full-call cs hs headed name (Some b) all fits = tt
