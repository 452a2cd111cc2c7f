-- Texts that are added to a line part by part, of which the line holds the end back.
use Rattle.std.proofs.Common.{◌≡◌, ℕ, List, [], ◌++◌, Option, Result, Ok, Err, IsErr, refl, ap, sym, ◌∙◌, subst, append_assoc, append-nil}
use Rattle.snl_output.specs.Devices.{told_more, IsCutShort, Wrote}
use Rattle.snl_output.specs.Held.{IsHeldBack, Adds}
use Rattle.snl_output.proofs.Writing.{append-lost, told_more-told_more, told_more-nil}

-- nothing was sent
pub held-all : (text held : List ℕ) (told : Option (List ℕ)) → held ≡ text → IsHeldBack text held told told
held-all text held told is = record { sent = []; is = sym is; told = sym (told_more-nil told) }

-- nothing was added
pub held_none : (held : List ℕ) (told : Option (List ℕ)) → IsHeldBack (held ++ []) held told told
held_none held told = held-all (held ++ []) held told (sym (append-nil held))

-- one part more was added
pub held-more : (text part held held' : List ℕ) (old mid new : Option (List ℕ)) → IsHeldBack text held old mid → IsHeldBack (held ++ part) held' mid new →
    IsHeldBack (text ++ part) held' old new
held-more text part held held' old mid new so_far more = record {
  sent = so_far.sent ++ more.sent;
  is = ap (λ t. t ++ part) so_far.is ∙ append_assoc so_far.sent held part ∙ ap (λ t. so_far.sent ++ t) more.is ∙ sym (append_assoc so_far.sent more.sent held');
  told = more.told ∙ ap (λ o. told_more o more.sent) so_far.told ∙ told_more-told_more old so_far.sent more.sent;
}

-- one part more was cut short
pub held-cut : (text part held : List ℕ) (old mid new : Option (List ℕ)) → IsHeldBack text held old mid → IsCutShort (held ++ part) mid new → IsCutShort (text ++ part) old new
held-cut text part held old mid new so_far cut = record {
  taken = so_far.sent ++ cut.taken;
  rest = cut.rest;
  is = ap (λ t. t ++ part) so_far.is ∙ append_assoc so_far.sent held part ∙ ap (λ t. so_far.sent ++ t) cut.is ∙ sym (append_assoc so_far.sent cut.taken cut.rest);
  lost = cut.lost;
  told = cut.told ∙ ap (λ o. told_more o cut.taken) so_far.told ∙ told_more-told_more old so_far.sent cut.taken;
}

-- a text that is cut short is cut short with more after it
pub cut-more : (text more : List ℕ) (old new : Option (List ℕ)) → IsCutShort text old new → IsCutShort (text ++ more) old new
cut-more text more old new cut = record {
  taken = cut.taken;
  rest = cut.rest ++ more;
  is = ap (λ t. t ++ more) cut.is ∙ append_assoc cut.taken cut.rest more;
  lost = append-lost cut.rest more cut.lost;
  told = cut.told;
}

-- what was held back is handed on
pub held-sent : {A E : Type 0} (r : Result A E) (text held : List ℕ) (old mid new : Option (List ℕ)) → IsHeldBack text held old mid → Wrote r held mid new → Wrote r text old new
held-sent (Ok done) text held old mid new so_far did =
    did ∙ ap (λ o. told_more o held) so_far.told ∙ told_more-told_more old so_far.sent held ∙ ap (told_more old) (sym so_far.is)
held-sent (Err fault) text held old mid new so_far cut = record {
  taken = so_far.sent ++ cut.taken;
  rest = cut.rest;
  is = so_far.is ∙ ap (λ t. so_far.sent ++ t) cut.is ∙ sym (append_assoc so_far.sent cut.taken cut.rest);
  lost = cut.lost;
  told = cut.told ∙ ap (λ o. told_more o cut.taken) so_far.told ∙ told_more-told_more old so_far.sent cut.taken;
}

-- what was held back was handed on, and so is a piece after it
pub passed-on : {A E : Type 0} (r : Result A E) (held piece : List ℕ) (old mid new : Option (List ℕ)) → mid ≡ told_more old held → Wrote r piece mid new →
    Adds r (held ++ piece) [] old new
passed-on (Ok done) held piece old mid new sent did = record {
  sent = held ++ piece;
  is = sym (append-nil (held ++ piece));
  told = did ∙ ap (λ o. told_more o piece) sent ∙ told_more-told_more old held piece;
}
passed-on (Err fault) held piece old mid new sent cut = record {
  taken = held ++ cut.taken;
  rest = cut.rest;
  is = ap (λ t. held ++ t) cut.is ∙ sym (append_assoc held cut.taken cut.rest);
  lost = cut.lost;
  told = cut.told ∙ ap (λ o. told_more o cut.taken) sent ∙ told_more-told_more old held cut.taken;
}

-- a call that failed may have handed on a prefix
pub failed-adds : {A E : Type 0} (r : Result A E) (text held : List ℕ) (old new : Option (List ℕ)) → IsErr r → IsCutShort text old new → Adds r text held old new
failed-adds (Ok done) text held old new is cut = absurd (cc)
failed-adds (Err fault) text held old new is cut = cut

-- to a line that held something back, the part of a text before a rest was added
pub record IsAdded (whole rest before held : List ℕ) (old now : Option (List ℕ)) : Type 0 where
  pub done : List ℕ
  pub is : whole ≡ done ++ rest
  pub adds : IsHeldBack (before ++ done) held old now

-- nothing was added yet
pub added-start : (whole held : List ℕ) (told : Option (List ℕ)) → IsAdded whole whole held held told told
added-start whole held told = record { done = []; is = refl; adds = held-all (held ++ []) held told (sym (append-nil held)) }

-- nothing was added yet to an empty line
pub added-begun : (whole held : List ℕ) (told : Option (List ℕ)) → held ≡ [] → IsAdded whole whole [] held told told
added-begun whole held told is = record { done = []; is = refl; adds = held-all [] held told is }

-- one part more was added
pub added-more : (whole part rest before held held' : List ℕ) (old mid new : Option (List ℕ)) → IsAdded whole (part ++ rest) before held old mid →
    IsHeldBack (held ++ part) held' mid new → IsAdded whole rest before held' old new
added-more whole part rest before held held' old mid new so_far more = record {
  done = so_far.done ++ part;
  is = so_far.is ∙ sym (append_assoc so_far.done part rest);
  adds = subst (λ (t : List ℕ). IsHeldBack t held' old new) (append_assoc before so_far.done part)
      (held-more (before ++ so_far.done) part held held' old mid new so_far.adds more);
}

-- the rest said in another way
pub added-as : (whole rest rest' before held : List ℕ) (old now : Option (List ℕ)) → rest ≡ rest' → IsAdded whole rest before held old now → IsAdded whole rest' before held old now
added-as whole rest rest' before held old now is so_far = record { done = so_far.done; is = so_far.is ∙ ap (λ r. so_far.done ++ r) is; adds = so_far.adds }

-- the next part was cut short
pub added-cut : (whole part rest before held : List ℕ) (old mid new : Option (List ℕ)) → IsAdded whole (part ++ rest) before held old mid →
    IsCutShort (held ++ part) mid new → IsCutShort (before ++ whole) old new
added-cut whole part rest before held old mid new so_far cut =
    subst (λ (t : List ℕ). IsCutShort t old new)
    (append_assoc (before ++ so_far.done) part rest ∙ append_assoc before so_far.done (part ++ rest) ∙ ap (λ t. before ++ t) (sym so_far.is))
    (cut-more ((before ++ so_far.done) ++ part) rest old new (held-cut (before ++ so_far.done) part held old mid new so_far.adds cut))

-- nothing remains
pub added-all : (whole before held : List ℕ) (old new : Option (List ℕ)) → IsAdded whole [] before held old new → IsHeldBack (before ++ whole) held old new
added-all whole before held old new so_far =
    subst (λ (t : List ℕ). IsHeldBack (before ++ t) held old new) (sym (so_far.is ∙ append-nil so_far.done)) so_far.adds

-- the last part was added, or cut short
pub added-last : {A E : Type 0} (r : Result A E) (whole part before held held' : List ℕ) (old mid new : Option (List ℕ)) → IsAdded whole (part ++ []) before held old mid →
    Adds r (held ++ part) held' mid new → Adds r (before ++ whole) held' old new
added-last (Ok done) whole part before held held' old mid new so_far more =
    added-all whole before held' old new (added-more whole part [] before held held' old mid new so_far more)
added-last (Err fault) whole part before held held' old mid new so_far cut = added-cut whole part [] before held old mid new so_far cut

-- a whole text was added to a line that was empty, and was handed on
pub added-sent : {A E : Type 0} (r : Result A E) (whole held : List ℕ) (old mid new : Option (List ℕ)) → IsAdded whole [] [] held old mid → Wrote r held mid new → Wrote r whole old new
added-sent r whole held old mid new so_far did = held-sent r whole held old mid new (added-all whole [] held old mid so_far) did
