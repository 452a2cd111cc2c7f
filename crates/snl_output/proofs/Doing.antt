-- Laws of steps that follow one another, and of calls that do them.
use Rattle.std.proofs.Common.{◌≡◌, ℕ, List, [], ◌++◌, Option, Result, Ok, Err, refl, ap, sym, ◌∙◌, append_assoc, append-nil, subst}
use Rattle.snl_meaning.specs.declared.faults.Fault.{Fault}
use Rattle.snl_output.specs.declared.faults.Stop.{Stop}
use Rattle.snl_output.specs.declared.faults.Stop.TheVariants as stop
use Rattle.snl_output.specs.Devices.{told_more, IsCutShort}
use Rattle.snl_output.specs.Does.{Does, Gave, Faulted, text_of}
use Rattle.snl_meaning.specs.Ran.{Ran, Gives, Faults, also, then_do}
use Rattle.snl_meaning.specs.World.{World}
use Rattle.snl_output.proofs.Writing.{append-lost, told_more-told_more, told_more-nil}

-- no text before
pub also-nil : {A : Type 0} (r : Ran A) → also [] r ≡ r
also-nil (Gives v w text) = refl
also-nil (Faults f line w text) = refl

-- a step that only hands its value on
pub then_do-gives : {A : Type 0} (r : Ran A) → then_do r (λ v w. Gives v w []) ≡ r
then_do-gives (Gives v w text) = ap (Gives v w) (append-nil text)
then_do-gives (Faults f line w text) = refl

-- the text of a step after another text
text_of-also : {A : Type 0} (before : List ℕ) (r : Ran A) → text_of (also before r) ≡ before ++ text_of r
text_of-also before (Gives v w text) = refl
text_of-also before (Faults f line w text) = refl

-- a text that is cut short in a step is cut short in that step and the next
pub cut-then : {A B : Type 0} (r : Ran A) (go : A → World → Ran B) (old new : Option (List ℕ)) → IsCutShort (text_of r) old new → IsCutShort (text_of (then_do r go)) old new
cut-then (Gives v w text) go old new cut = record {
  taken = cut.taken;
  rest = cut.rest ++ text_of (go v w);
  is = text_of-also text (go v w) ∙ ap (λ t. t ++ text_of (go v w)) cut.is ∙ append_assoc cut.taken cut.rest (text_of (go v w));
  lost = append-lost cut.rest (text_of (go v w)) cut.lost;
  told = cut.told;
}
cut-then (Faults f line w text) go old new cut = cut

-- a step that faults is not followed
pub faulted-then : {A B : Type 0} (r : Ran A) (go : A → World → Ran B) (fault : Fault) (line : ℕ) (w : World) (old new : Option (List ℕ)) →
    Faulted fault line w old new r → Faulted fault line w old new (then_do r go)
faulted-then r go fault line w old new did = record { text = did.text; is = ap (λ x. then_do x go) did.is; told = did.told }

-- what stopped a step stops what would follow it
pub stopped-then : {V A B : Type 0} (view : V → B) {U : Type 0} (seen : U → A) (s : Stop) (r : Ran A) (go : A → World → Ran B) (w : World) (old new : Option (List ℕ)) →
    Does seen (Err s) w old new r → Does view (Err s) w old new (then_do r go)
stopped-then view seen (stop.Fault fault line) r go w old new did = faulted-then r go fault line w old new did
stopped-then view seen stop.Sink r go w old new did = cut-then r go old new did

-- one step and then another
pub does-then : {V A B : Type 0} (view : V → B) (result : Result V Stop) (r : Ran A) (go : A → World → Ran B) (a : A) (u w : World) (old mid new : Option (List ℕ)) →
    Gave a u old mid r → Does view result w mid new (go a u) → Does view result w old new (then_do r go)
does-then view (Ok v) r go a u w old mid new did next = record {
  text = did.text ++ next.text;
  is = ap (λ x. then_do x go) did.is ∙ ap (also did.text) next.is;
  told = next.told ∙ ap (λ o. told_more o next.text) did.told ∙ told_more-told_more old did.text next.text;
}
does-then view (Err (stop.Fault fault line)) r go a u w old mid new did next = record {
  text = did.text ++ next.text;
  is = ap (λ x. then_do x go) did.is ∙ ap (also did.text) next.is;
  told = next.told ∙ ap (λ o. told_more o next.text) did.told ∙ told_more-told_more old did.text next.text;
}
does-then view (Err stop.Sink) r go a u w old mid new did next = record {
  taken = did.text ++ next.taken;
  rest = next.rest;
  is = ap (λ x. text_of (then_do x go)) did.is ∙ text_of-also did.text (go a u) ∙ ap (λ t. did.text ++ t) next.is ∙ sym (append_assoc did.text next.taken next.rest);
  lost = next.lost;
  told = next.told ∙ ap (λ o. told_more o next.taken) did.told ∙ told_more-told_more old did.text next.taken;
}

-- a step that writes nothing
pub gave-silent : {A : Type 0} (v : A) (w : World) (told : Option (List ℕ)) → Gave v w told told (Gives v w [])
gave-silent v w told = record { text = []; is = refl; told = sym (told_more-nil told) }

-- text before text
also-also : {A : Type 0} (a b : List ℕ) (r : Ran A) → also a (also b r) ≡ also (a ++ b) r
also-also a b (Gives v w text) = ap (Gives v w) (sym (append_assoc a b text))
also-also a b (Faults f line w text) = ap (Faults f line w) (sym (append_assoc a b text))

-- a sink was told a text, after which a rest of the whole remains to be done
pub record IsOnWay {A : Type 0} (old now : Option (List ℕ)) (whole rest : Ran A) : Type 0 where
  pub text : List ℕ
  pub is : whole ≡ also text rest
  pub told : now ≡ told_more old text

-- nothing was done yet
pub on_way-start : {A : Type 0} (told : Option (List ℕ)) (r : Ran A) → IsOnWay told told r r
on_way-start told r = record { text = []; is = sym (also-nil r); told = sym (told_more-nil told) }

-- the first step of the rest was done
pub on_way-then : {A B : Type 0} (old mid new : Option (List ℕ)) (whole : Ran B) (r : Ran A) (go : A → World → Ran B) (a : A) (u : World) →
    IsOnWay old mid whole (then_do r go) → Gave a u mid new r → IsOnWay old new whole (go a u)
on_way-then old mid new whole r go a u way did = record {
  text = way.text ++ did.text;
  is = way.is ∙ ap (λ x. also way.text (then_do x go)) did.is ∙ also-also way.text did.text (go a u);
  told = did.told ∙ ap (λ o. told_more o did.text) way.told ∙ told_more-told_more old way.text did.text;
}

-- what is done of the rest is done of the whole
pub on_way-does : {V A : Type 0} (view : V → A) (result : Result V Stop) (w : World) (old mid new : Option (List ℕ)) (whole rest : Ran A) →
    IsOnWay old mid whole rest → Does view result w mid new rest → Does view result w old new whole
on_way-does view (Ok v) w old mid new whole rest way did = record {
  text = way.text ++ did.text;
  is = way.is ∙ ap (also way.text) did.is;
  told = did.told ∙ ap (λ o. told_more o did.text) way.told ∙ told_more-told_more old way.text did.text;
}
on_way-does view (Err (stop.Fault fault line)) w old mid new whole rest way did = record {
  text = way.text ++ did.text;
  is = way.is ∙ ap (also way.text) did.is;
  told = did.told ∙ ap (λ o. told_more o did.text) way.told ∙ told_more-told_more old way.text did.text;
}
on_way-does view (Err stop.Sink) w old mid new whole rest way did = record {
  taken = way.text ++ did.taken;
  rest = did.rest;
  is = ap text_of way.is ∙ text_of-also way.text rest ∙ ap (λ t. way.text ++ t) did.is ∙ sym (append_assoc way.text did.taken did.rest);
  lost = did.lost;
  told = did.told ∙ ap (λ o. told_more o did.taken) way.told ∙ told_more-told_more old way.text did.taken;
}

-- what a `?` passes on
pub does-passed : {V A : Type 0} (view : V → A) (result : Result V Stop) (s y : Stop) (w : World) (old new : Option (List ℕ)) (ran : Ran A) →
    result ≡ Err y → y ≡ s → Does view (Err s) w old new ran → Does view result w old new ran
does-passed {V = V} view result s y w old new ran is same did = let P : Result V Stop → Type 0 = λ r. Does view r w old new ran in subst P (sym (is ∙ ap Err same)) did

-- a step that is known to write nothing
pub gave-is : {A : Type 0} (v : A) (w : World) (told : Option (List ℕ)) (r : Ran A) → r ≡ Gives v w [] → Gave v w told told r
gave-is v w told r is = record { text = []; is = is; told = sym (told_more-nil told) }

-- a step that is known to fault and to write nothing
pub faulted-is : {A : Type 0} (fault : Fault) (line : ℕ) (w : World) (told : Option (List ℕ)) (r : Ran A) → r ≡ Faults fault line w [] → Faulted fault line w told told r
faulted-is fault line w told r is = record { text = []; is = is; told = sym (told_more-nil told) }
