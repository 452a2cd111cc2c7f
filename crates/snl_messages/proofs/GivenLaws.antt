-- Sorted entries, of which the first of each key is kept, are the messages that are given, in order.
use Rattle.std.proofs.Common.{◌≡◌, List, [], ◌∷◌, map, sym, ap, subst, ◌∙◌, Contains, Any, ◌↔◌}
use Rattle.std.specs.List.{AllByRecursion, dedup}
use Rattle.std.specs.List.Sorted.{IsStrictlySortedBy}
use Rattle.std.specs.Ordering.{ordering_then, is_eq}
use Rattle.std.specs.declared.cmp.Ordering.TheVariants.{Less, Equal}
use Rattle.std.proofs.lemmas.List.Kept.{Contains-from_dedup}
use Rattle.snl_messages.specs.declared.entries.Entry.{Entry}
use Rattle.snl_messages.specs.Entries.{finding_in, said_in, is_alike}
use Rattle.snl_messages.specs.Findings.{Finding}
use Rattle.snl_messages.specs.Given.{IsAlike, IsFirst, IsGiven, choice_cmp}
use Rattle.snl_messages.specs.Messages.{Said, IsBefore, IsInOrder}
use Rattle.snl_messages.proofs.EntryLaws.{key_cmp, rest_cmp, entry_cmp, key_total, entry_total, exact_entry, alike_by_key, key_by_alike, message_order, within, ties, alike_equiv}
use Rattle.snl_messages.proofs.FirstLaws.{tied, sorted_dedup, first_left, first_is_left}
use Rattle.snl_messages.proofs.MemberLaws.{contains_map, from_map}

-- Entries whose keys compare equal compare as what comes after the key.
by_rest : (x y : Entry) → key_cmp x y ≡ Equal → entry_cmp x y ≡ rest_cmp x y
by_rest x y e = ap (λ o. ordering_then o (rest_cmp x y)) e

-- What comes after by its key is a later message.
all_before : (x : Entry) (ys : List Entry) → AllByRecursion (λ y. key_cmp x y ≡ Less) ys → AllByRecursion (IsBefore (said_in x)) (map said_in ys)
all_before x [] h = h
all_before x (y ∷ ys) h = (message_order x y ∙ h.0, all_before x ys h.1)

-- Entries in strict order of their keys are messages in order.
in_order : (xs : List Entry) → IsStrictlySortedBy key_cmp xs → IsInOrder (map said_in xs)
unfolding IsStrictlySortedBy
in_order [] h = tt
in_order (x ∷ xs) h = (all_before x xs h.0, in_order xs h.1)

module _ (old mid new : List Entry) (kept : (x : Entry) → Contains old x → Any (λ y. entry_cmp x y ≡ Equal) mid)
    (from : (x : Entry) → Contains mid x → Contains old x) (s : IsStrictlySortedBy entry_cmp mid) (is : new ≡ dedup is_alike mid) where
  -- None that is found is alike and before one that is left.
  leads : (x : Entry) → Contains (dedup is_alike mid) x → IsFirst (Contains (map finding_in old)) (finding_in x)
  leads x left g found alike less =
      let v = from_map finding_in old g found in
      let a = kept v.0 v.1 in
      let same : g ≡ finding_in a.1 = sym v.2 ∙ exact_entry v.0 a.1 a.4 in
      let alike' : IsAlike (said_in a.1) (said_in x) = subst (λ f. IsAlike f.said (said_in x)) same alike in
      let key = key_by_alike a.1 x alike' in
      let less' : rest_cmp a.1 x ≡ Less = subst (λ f. choice_cmp f (finding_in x) ≡ Less) same less in
      first_left key_total entry_total alike_equiv ties within mid s x a.1 left (a.0, a.2, a.3) (ties a.1 x ∙ ap is_eq key) (by_rest a.1 x key ∙ less')

  -- What is left is given.
  given_of : (m : Said) → Contains (map said_in new) m → IsGiven (Contains (map finding_in old)) m
  given_of m h =
      let w = from_map said_in new m h in
      let left : Contains (dedup is_alike mid) w.0 = subst (λ l. Contains l w.0) is w.1 in
      (finding_in w.0, contains_map finding_in old w.0 (from w.0 (Contains-from_dedup is_alike mid w.0 left)), leads w.0 left, w.2)

  -- One that is found first compares equal to one that is left.
  first_stays : (f : Finding) (z : Entry) → Contains mid z → finding_in z ≡ f → IsFirst (Contains (map finding_in old)) f → Any (λ y. entry_cmp z y ≡ Equal) (dedup is_alike mid)
  first_stays f z there same first =
      first_is_left key_total entry_total alike_equiv ties within mid s z there
      (λ u in_mid alike less.
      let key : key_cmp u z ≡ Equal = tied (key_cmp u z) (sym (ties u z) ∙ alike) in
      first (finding_in u) (contains_map finding_in old u (from u in_mid))
      (subst (λ g. IsAlike (said_in u) g.said) same (alike_by_key u z key))
      (subst (λ g. choice_cmp (finding_in u) g ≡ Less) same (sym (by_rest u z key) ∙ less)))

  -- What is given is left.
  of_given : (m : Said) → IsGiven (Contains (map finding_in old)) m → Contains (map said_in new) m
  of_given m w =
      let v = from_map finding_in old w.0 w.1 in
      let a = kept v.0 v.1 in
      let same : finding_in a.1 ≡ w.0 = sym (exact_entry v.0 a.1 a.4) ∙ v.2 in
      let b = first_stays w.0 a.1 (a.0, a.2, a.3) same w.2 in
      let says : said_in b.1 ≡ m = ap (λ f. f.said) (sym (exact_entry a.1 b.1 b.4) ∙ same) ∙ w.3 in
      subst (Contains (map said_in new)) says (contains_map said_in new b.1 (subst (λ l. Contains l b.1) (sym is) (b.0, b.2, b.3)))

  -- What is left are the messages that are given.
  pub given : (m : Said) → Contains (map said_in new) m ↔ IsGiven (Contains (map finding_in old)) m
  given m = (given_of m, of_given m)

  -- What is left is in order.
  pub ordered : IsInOrder (map said_in new)
  ordered = in_order new (subst (IsStrictlySortedBy key_cmp) (sym is) (sorted_dedup key_total entry_total alike_equiv ties within mid s))

-- What is given depends on nothing but what is found.
given_same : (P Q : Finding → Type 0) → ((f : Finding) → P f ↔ Q f) → (m : Said) → IsGiven P m → IsGiven Q m
given_same P Q same m w = (w.0, (same w.0).0 w.1, (λ g found. w.2 g ((same g).1 found)), w.3)

-- In both directions.
pub given_both : (P Q : Finding → Type 0) → ((f : Finding) → P f ↔ Q f) → (m : Said) → IsGiven P m ↔ IsGiven Q m
given_both P Q same m = (given_same P Q same m, given_same Q P (λ f. ((same f).1, (same f).0)) m)

-- What is given of what is found and passes a test depends on what is found alone.
pub given_through : (P Q T : Finding → Type 0) → ((f : Finding) → P f ↔ Q f) → (m : Said) → IsGiven (λ f. P f × T f) m ↔ IsGiven (λ f. Q f × T f) m
given_through P Q T same = given_both (λ f. P f × T f) (λ f. Q f × T f) (λ f. ((λ h. ((same f).0 h.0, h.1)), (λ h. ((same f).1 h.0, h.1))))
