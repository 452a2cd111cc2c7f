-- What the lists of the code hold is what is found.
use Rattle.std.proofs.Common.{◌≡◌, ◌↔◌, ◌⊎◌, inl, inr, true, false, [], Bool, List, ◌∷◌, ◌++◌, Option, map, refl, subst, sym, ◌∙◌, Contains, append_assoc}
use Rattle.snl_text.specs.declared.tokens.Pos.{Pos}
use Rattle.snl_text.specs.declared.tokens.Token.{Token}
use Rattle.snl_syntax.specs.Programs.{ProgramTree}
use Rattle.snl_names.specs.declared.options.Options.{Options}
use Rattle.snl_names.specs.Programs.{sites}
use Rattle.snl_rules.specs.declared.rules.Broken.{Broken}
use Rattle.snl_rules.specs.Rules.{IsBroken}
use Rattle.snl_reach.specs.Reach.{IsUnreached}
use Rattle.snl_rules.specs.Words.{IsOverfullSet, IsOverfull}
use Rattle.snl_messages.specs.declared.matters.Matter.TheVariants.{TooManyWords}
use Rattle.snl_messages.specs.Findings.{Finding, of_broken, of_unreached, of_embedded, of_overfull, finding}
use Rattle.snl_messages.specs.Lists.{of_beyond, of_mode, of_words, found, has_error}
use Rattle.snl_messages.specs.Says.{IsOfSite, IsOfState, IsOfEmbedded, IsOfTokens, IsOfMode, IsFound, HasNoError, IsOfWords}
use Rattle.snl_messages.specs.Silence.{is_safe}
use Rattle.snl_messages.proofs.ListLaws.{beyond_is, mode_is, words_are, some_error, no_error}
use Rattle.snl_messages.proofs.MemberLaws.{members, joined}

-- What is found by the lists is what is found by the rules.
pub found_is : (o : Options) (p : ProgramTree) (embedded : List Pos) (beyond : Option Pos) (broken : List Broken) (names : List Token) →
    ((b : Broken) → Contains broken b ↔ IsBroken (sites p) b) → ((t : Token) → Contains names t ↔ IsUnreached p t) →
    (f : Finding) → Contains (found broken names embedded beyond (is_safe o) p.word) f ↔ IsFound o p embedded beyond f
found_is o p embedded beyond broken names sites_broken unreached f =
    let mode = of_mode (is_safe o) p.word in
    let tokens = of_beyond beyond in
    let c = map of_embedded embedded in
    let states = map of_unreached names in
    let last = joined tokens mode f (IsOfTokens beyond f) (IsOfMode o p f) (beyond_is beyond f) (mode_is (is_safe o) p.word f) in
    let from_c = joined c (tokens ++ mode) f (IsOfEmbedded embedded f) (IsOfTokens beyond f ⊎ IsOfMode o p f)
    (members of_embedded embedded (Contains embedded) (λ x. ((λ h. h), (λ h. h))) f) last in
    let from_states = joined states (c ++ (tokens ++ mode)) f (IsOfState p f) (IsOfEmbedded embedded f ⊎ (IsOfTokens beyond f ⊎ IsOfMode o p f))
    (members of_unreached names (IsUnreached p) unreached f) from_c in
    joined (map of_broken broken) (states ++ (c ++ (tokens ++ mode))) f (IsOfSite p f) (IsOfState p f ⊎ (IsOfEmbedded embedded f ⊎ (IsOfTokens beyond f ⊎ IsOfMode o p f)))
    (members of_broken broken (IsBroken (sites p)) sites_broken f) from_states

-- Where an error is among what is found, that is all: more is found only without one.
pub with_error : (Is More : Finding → Type 0) (fs : List Finding) → ((f : Finding) → Contains fs f ↔ Is f) → has_error fs ≡ true →
    (f : Finding) → Contains fs f ↔ (Is f ⊎ (HasNoError Is × More f))
with_error Is More fs same error f = (
  (λ h. inl ((same f).0 h)),
  (λ h. elim h [
    | inl w ↦ (same f).1 w
    | inr w ↦ let e = some_error fs error in absurd (w.0 e.0 ((same e.0).0 e.1) e.2)
  ]),
)

-- Where none is, that is found too.
pub without_error : (Is More : Finding → Type 0) (old new : List Finding) → ((f : Finding) → Contains old f ↔ Is f) → has_error old ≡ false →
    ((f : Finding) → Contains new f ↔ (Contains old f ⊎ More f)) → (f : Finding) → Contains new f ↔ (Is f ⊎ (HasNoError Is × More f))
without_error Is More old new same none grown f = (
  (λ h. elim ((grown f).0 h) [
    | inl w ↦ inl ((same f).0 w)
    | inr w ↦ inr ((λ g there error. no_error old none g ((same g).1 there) error), w)
  ]),
  (λ h. elim h [
    | inl w ↦ (grown f).1 (inl ((same f).1 w))
    | inr w ↦ (grown f).1 (inr w.1)
  ]),
)

-- What the limits of words add is found.
pub words_grown : (p : ProgramTree) (old new : List Finding) (sets : List Token) (full : Bool) →
    ((t : Token) → Contains sets t ↔ IsOverfullSet p t) → (full ≡ true) ↔ IsOverfull p →
    new ≡ (old ++ map of_overfull sets) ++ of_words full p.word →
    (f : Finding) → Contains new f ↔ (Contains old f ⊎ IsOfWords p f)
words_grown p old new sets full same all is f =
    let set = members of_overfull sets (IsOverfullSet p) same f in
    let words = words_are full p.word f in
    let total : Contains (of_words full p.word) f ↔ (IsOverfull p × (f ≡ finding TooManyWords p.word.pos [])) = (
      (λ h. let v = words.0 h in (all.0 v.0, v.1)),
      (λ v. words.1 (all.1 v.0, v.1)),
    ) in
    let added =
    joined (map of_overfull sets) (of_words full p.word) f ((word : Token) × IsOverfullSet p word × (f ≡ of_overfull word))
    (IsOverfull p × (f ≡ finding TooManyWords p.word.pos [])) set total in
    subst (λ l. Contains l f ↔ (Contains old f ⊎ IsOfWords p f)) (sym (is ∙ append_assoc old (map of_overfull sets) (of_words full p.word)))
    (joined old (map of_overfull sets ++ of_words full p.word) f (Contains old f) (IsOfWords p f) ((λ h. h), (λ h. h)) added)
