-- Laws of the numbers that names have by their places.
use Rattle.std.proofs.Common.{◌≡◌, ◌<◌, ◌∙◌, ◌↔◌, ℕ, Bool, true, false, List, Some, length, get_or, map, position, refl, sym, ap, arith}
use Rattle.std.specs.Bool.{IsTrue}
use Rattle.std.specs.List.{IsDistinct, position_or_len}
use Rattle.std.specs.Str.{bytes_eq}
use Rattle.std.proofs.lemmas.Bool.{lt-ltb}
use Rattle.std.proofs.lemmas.Cmp.{nat_list_eq_equiv}
use Rattle.std.proofs.lemmas.List.Quantifiers.{position-Some}
use Rattle.std.proofs.lemmas.List.Sums.{position_or_len_is}
use Rattle.std.proofs.lemmas.Map.Keys.{apart_from_distinct}
use Rattle.snl_load.proofs.Names.{position-map}

-- the name at a place of names that differ is the one that has this place
pub place-is : {A : Type 0} (view : A → List ℕ) (keys : List A) (i : ℕ) (key : A) (name : List ℕ) (same : Bool) →
    IsDistinct (λ a b. bytes_eq (view a) (view b)) keys → i < length keys → key ≡ get_or keys i key → same ≡ bytes_eq (view key) name →
    IsTrue same ↔ (position (bytes_eq name) (map view keys) ≡ Some i)
place-is {A} view keys i key name same differ within here is =
    let test : A → Bool = λ k. bytes_eq name (view k) in
    let flip : bytes_eq name (view key) ≡ bytes_eq (view key) name = nat_list_eq_equiv.symm name (view key) in (
      λ yes.
          let equal : bytes_eq (view key) name ≡ true = sym is ∙ yes in
          let before : (k : ℕ) → k < i → test (get_or keys k key) ≡ false =
          λ k below.
          sym (nat_list_eq_equiv.congr (view key) name (view (get_or keys k key)) equal) ∙ nat_list_eq_equiv.symm (view key) (view (get_or keys k key))
          ∙ ap (λ x. bytes_eq (view (get_or keys k key)) (view x)) here ∙ apart_from_distinct (λ a b. bytes_eq (view a) (view b)) keys k i key differ below within in
          let first : position_or_len test keys ≡ i =
          position_or_len_is test keys i key (omega (arith, within)) before (λ below. ap test (sym here) ∙ flip ∙ equal) in
          position-map view (bytes_eq name) keys ∙ rw (first, lt-ltb i (length keys) within) refl,
      λ place.
          let found = position-Some test keys i key (sym (position-map view (bytes_eq name) keys) ∙ place) in
          is ∙ sym flip ∙ ap test here ∙ found.1,
    )
