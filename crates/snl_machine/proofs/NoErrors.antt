-- Of an accepted program no error is found, be it given or not: so its sites keep the rules, and it keeps within the limits of words.
use Rattle.std.proofs.Common.{◌≡◌, ◌∙◌, ◌<◌, ◌≤◌, ◌⊎◌, inl, inr, refl, sym, ap, ℕ, true, List, [], ◌∷◌, ◌++◌, Option, Some, slice_get, Contains, map}
use Rattle.std.specs.Cmp.{IsTotalOrder}
use Rattle.std.specs.List.{AllByRecursion}
use Rattle.std.specs.declared.cmp.Ordering.{Ordering}
use Rattle.std.specs.declared.cmp.Ordering.TheVariants.{Less, Equal}
use Rattle.std.proofs.lemmas.Bool.{cases_lt}
use Rattle.std.proofs.lemmas.Cmp.{tied_itself, nat_cmp_total, nat_list_cmp_total, on_total, then_total}
use Rattle.std.proofs.lemmas.List.Elements.{All-from_recursion, All-contains, Contains-append_left, Contains-append_right}
use Rattle.snl_text.specs.declared.tokens.Pos.{Pos}
use Rattle.snl_syntax.specs.Programs.{StateSetTree, ProgramTree}
use Rattle.snl_names.specs.declared.options.Options.{Options}
use Rattle.snl_names.specs.Programs.{sites}
use Rattle.snl_rules.specs.declared.rules.Broken.{Broken}
use Rattle.snl_rules.specs.Counts.{overfull_from}
use Rattle.snl_rules.specs.Rules.{IsBroken}
use Rattle.snl_rules.specs.Tests.{all_broken}
use Rattle.snl_rules.specs.Words.{IsOverfullSet, set_words, all_words}
use Rattle.snl_rules.proofs.BrokenLaws.{broken_law}
use Rattle.snl_rules.proofs.OverfullLaws.{overfull_is}
use Rattle.snl_messages.specs.declared.matters.Matter.TheVariants.{TooManyWords, NotSafe}
use Rattle.snl_messages.specs.declared.messages.Severity.{Severity}
use Rattle.snl_messages.specs.declared.messages.Severity.TheVariants.{Error, Warning}
use Rattle.snl_messages.specs.Findings.{Finding, finding, of_broken, of_unreached, of_embedded, of_overfull}
use Rattle.snl_messages.specs.Given.{IsAlike, choice_cmp}
use Rattle.snl_messages.specs.Lists.{of_beyond}
use Rattle.snl_messages.specs.Messages.{Said}
use Rattle.snl_messages.specs.Says.{IsFound, IsFoundAtAll, IsOfWords}
use Rattle.snl_messages.specs.Silence.{is_let_through, lets_through}
use Rattle.snl_messages.specs.Wordings.{wording_of}
use Rattle.snl_messages.proofs.FirstLaws.{weaker}
use Rattle.snl_messages.proofs.ListLaws.{beyond_is}
use Rattle.snl_messages.proofs.MemberLaws.{members, only}
use Rattle.snl_machine.specs.Accepted.{IsAcceptedTree}

-- ---- the first of those that are alike

-- the order of findings at one place
choice_total : IsTotalOrder choice_cmp
choice_total =
    then_total (on_total (λ (f : Finding). f.rank) nat_cmp_total) (then_total (on_total (λ (f : Finding). f.said.pos.file) nat_cmp_total)
    (then_total (on_total (λ (f : Finding). f.said.pos.line) nat_cmp_total) (on_total (λ (f : Finding). f.said.text) nat_list_cmp_total)))

-- none comes before itself
never-less : (f : Finding) → choice_cmp f f ≡ Less → ⊥
never-less f e = let k : ◌≡◌ {A = Ordering} Less Equal = sym e ∙ tied_itself choice_total f in cc

-- what is alike a third is alike
alike-both : (a b c : Said) → IsAlike a b → IsAlike b c → IsAlike a c
alike-both a b c x y = (x.0 ∙ y.0, x.1 ∙ y.1, x.2 ∙ y.2)

module _ (P : Finding → Type 0) where
  -- none of a list is alike and before it
  abbrev Leads : List Finding → Finding → Type 0
  Leads all g = AllByRecursion (λ h. P h → IsAlike h.said g.said → choice_cmp h g ≡ Less → ⊥) all

  -- it is not so that none of those alike comes first among a list
  first-among : (all : List Finding) (f : Finding) → P f → ((g : Finding) → P g → IsAlike g.said f.said → Leads all g → ⊥) → ⊥
  first-among [] f is none = none f is (refl, refl, refl) tt
  first-among (x ∷ xs) f is none =
      first-among xs f is (λ g own alike leads. none g own alike (
        (λ there like less.
            none x there (alike-both x.said g.said f.said like alike) (
              (λ a b back. never-less x back),
              weaker {Q = λ h. P h → IsAlike h.said x.said → choice_cmp h x ≡ Less → ⊥}
                  (λ h k a b before. k a (alike-both h.said x.said g.said b like) (choice_total.trans h x g before less)) xs leads,
            )),
        leads,
      ))

-- ---- no error

module _ (o : Options) (p : ProgramTree) (embedded : List Pos) (beyond : Option Pos) where
  -- the errors that can be found at sites
  abbrev at-sites : List Finding
  at-sites = map of_broken (all_broken (sites p))

  -- those at pieces of embedded C
  abbrev at-pieces : List Finding
  at-pieces = map of_embedded embedded

  -- those of the words of state sets
  abbrev of-sets : List Finding
  of-sets = map of_overfull (overfull_from p 0 p.state_sets)

  -- that of all words
  abbrev of-all : List Finding
  of-all = finding TooManyWords p.word.pos [] ∷ []

  -- all of them
  abbrev errors : List Finding
  errors = at-sites ++ (at-pieces ++ (of_beyond beyond ++ (of-sets ++ of-all)))

  -- one at a site
  first-part : (f : Finding) → Contains at-sites f → Contains errors f
  first-part f h = Contains-append_left at-sites (at-pieces ++ (of_beyond beyond ++ (of-sets ++ of-all))) f h

  -- one at a piece of embedded C
  second-part : (f : Finding) → Contains at-pieces f → Contains errors f
  second-part f h =
      Contains-append_right at-sites (at-pieces ++ (of_beyond beyond ++ (of-sets ++ of-all))) f (Contains-append_left at-pieces (of_beyond beyond ++ (of-sets ++ of-all)) f h)

  -- one behind those
  behind : (f : Finding) → Contains (of_beyond beyond ++ (of-sets ++ of-all)) f → Contains errors f
  behind f h =
      Contains-append_right at-sites (at-pieces ++ (of_beyond beyond ++ (of-sets ++ of-all))) f (Contains-append_right at-pieces (of_beyond beyond ++ (of-sets ++ of-all)) f h)

  -- one of words
  of-words : (f : Finding) → Contains (of-sets ++ of-all) f → Contains errors f
  of-words f h = behind f (Contains-append_right (of_beyond beyond) (of-sets ++ of-all) f h)

  -- a warning is none
  no-warning : (f g : Finding) → f ≡ g → g.said.severity ≡ Warning → f.said.severity ≡ Error → ⊥
  no-warning f g same warns error = let k : ◌≡◌ {A = Severity} Warning Error = sym warns ∙ sym (ap (λ (h : Finding). h.said.severity) same) ∙ error in cc

  -- those that are found but for the limits of words
  found-among : (f : Finding) → IsFound o p embedded beyond f → f.said.severity ≡ Error → Contains errors f
  found-among f (inl site) error = first-part f ((members of_broken (all_broken (sites p)) (IsBroken (sites p)) (broken_law (sites p)) f).1 site)
  found-among f (inr (inl state)) error = absurd (no-warning f (of_unreached state.0) state.2 refl error)
  found-among f (inr (inr (inl piece))) error = second-part f ((members of_embedded embedded (Contains embedded) (λ x. ((λ h. h), (λ h. h))) f).1 piece)
  found-among f (inr (inr (inr (inl tokens)))) error = behind f (Contains-append_left (of_beyond beyond) (of-sets ++ of-all) f ((beyond_is beyond f).1 tokens))
  found-among f (inr (inr (inr (inr mode)))) error = absurd (no-warning f (finding NotSafe p.word.pos []) mode.1 refl error)

  -- those of words
  words-among : (f : Finding) → IsOfWords p f → Contains errors f
  words-among f (inl set) = of-words f (Contains-append_left of-sets of-all f ((members of_overfull (overfull_from p 0 p.state_sets) (IsOverfullSet p) (overfull_is p) f).1 set))
  words-among f (inr all) =
      of-words f (Contains-append_right of-sets of-all f ((only (finding TooManyWords p.word.pos []) f).1 all.1))

  -- all of them
  among : (f : Finding) → IsFoundAtAll o p embedded beyond f → f.said.severity ≡ Error → Contains errors f
  among f (inl found) error = found-among f found error
  among f (inr words) error = words-among f words.1

  -- what may be given
  abbrev May : Finding → Type 0
  May f = IsFoundAtAll o p embedded beyond f × (lets_through o f ≡ true)

  module _ (accepted : IsAcceptedTree o p embedded beyond) where
    -- no error is found
    pub found-none : (f : Finding) → IsFoundAtAll o p embedded beyond f → f.said.severity ≡ Error → ⊥
    found-none f found error =
        first-among May errors f (found, ap (λ (s : Severity). is_let_through o s f.said.number) error)
        (λ g own alike leads. accepted g.said (
          g,
          own,
          (λ h there like less.
              All-contains (λ (x : Finding). May x → IsAlike x.said g.said → choice_cmp x g ≡ Less → ⊥) errors h
              (All-from_recursion (λ (x : Finding). May x → IsAlike x.said g.said → choice_cmp x g ≡ Less → ⊥) errors leads)
              (among h there.0 (like.1 ∙ alike.1 ∙ error)) there like less),
          refl,
        ) (alike.1 ∙ error))

    -- no site breaks a rule that is told as an error
    pub breaks-none : (b : Broken) → IsBroken (sites p) b → (wording_of b.rule).severity ≡ Error → ⊥
    breaks-none b is error = found-none (of_broken b) (inl (inl (b, is, refl))) error

    -- no limit of words is passed
    passes-none : (f : Finding) → IsOfWords p f → f.said.severity ≡ Error → ⊥
    passes-none f words error = found-none f (inr ((λ g found wrong. found-none g (inl found) wrong), words)) error

    -- all words are few
    pub words-few : all_words p ≤ 1048576
    words-few = by (cases_lt 1048576 (all_words p))
      where
        by : (1048576 < all_words p) ⊎ (all_words p ≤ 1048576) → all_words p ≤ 1048576
        by (inl over) = absurd (passes-none (finding TooManyWords p.word.pos []) (inr (over, refl)) refl)
        by (inr few) = few

    -- so are those of each state set
    pub set-few : (set : ℕ) (g : StateSetTree) → slice_get p.state_sets set ≡ Some g → set_words p set ≤ 65536
    set-few set g is = by (cases_lt 65536 (set_words p set))
      where
        by : (65536 < set_words p set) ⊎ (set_words p set ≤ 65536) → set_words p set ≤ 65536
        by (inl over) = absurd (passes-none (of_overfull g.word) (inl (g.word, record { number = set; state_set = g; stands = is; word = refl; full = over }, refl)) refl)
        by (inr few) = few
