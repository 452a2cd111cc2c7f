-- The line of a fault, after what was written before.
use Rattle.std.proofs.Common.{◌≡◌, ℕ, List, ◌++◌, Option, ap, sym, ◌∙◌, append_assoc}
use Rattle.snl_meaning.specs.declared.faults.Fault.{Fault}
use Rattle.snl_output.specs.Devices.{told_more, IsCutShort}
use Rattle.snl_output.specs.Does.{Faulted, Gave, text_of}
use Rattle.snl_output.specs.Lines.{fault_line, fault_text}
use Rattle.snl_meaning.specs.Ran.{Ran, Gives, Faults}
use Rattle.snl_schedule.specs.Turn.{told_fault}
use Rattle.snl_meaning.specs.World.{World}
use Rattle.snl_output.proofs.Writing.{append-lost, told_more-told_more}

-- where there is no fault nothing is added
pub told_fault-gave : {A : Type 0} (set : List ℕ) (r : Ran A) (v : A) (w : World) (old new : Option (List ℕ)) → Gave v w old new r → Gave v w old new (told_fault set r)
told_fault-gave set r v w old new did = record { text = did.text; is = ap (λ x. told_fault set x) did.is; told = did.told }

-- a fault's line that was told
pub told_fault-told : {A : Type 0} (set : List ℕ) (r : Ran A) (f : Fault) (line : ℕ) (w : World) (old mid new : Option (List ℕ)) →
    Faulted f line w old mid r → new ≡ told_more mid (fault_line w.time set line (fault_text f)) → Faulted f line w old new (told_fault set r)
told_fault-told set r f line w old mid new did told = let more = fault_line w.time set line (fault_text f) in record {
  text = did.text ++ more;
  is = ap (λ x. told_fault set x) did.is;
  told = told ∙ ap (λ o. told_more o more) did.told ∙ told_more-told_more old did.text more;
}

-- a fault's line that is cut short
pub told_fault-cut : {A : Type 0} (set : List ℕ) (r : Ran A) (f : Fault) (line : ℕ) (w : World) (old mid new : Option (List ℕ)) →
    Faulted f line w old mid r → IsCutShort (fault_line w.time set line (fault_text f)) mid new → IsCutShort (text_of (told_fault set r)) old new
told_fault-cut set r f line w old mid new did cut = record {
  taken = did.text ++ cut.taken;
  rest = cut.rest;
  is = ap (λ x. text_of (told_fault set x)) did.is ∙ ap (λ t. did.text ++ t) cut.is ∙ sym (append_assoc did.text cut.taken cut.rest);
  lost = cut.lost;
  told = cut.told ∙ ap (λ o. told_more o cut.taken) did.told ∙ told_more-told_more old did.text cut.taken;
}

-- what is cut short before a fault's line
pub told_fault-cut_before : {A : Type 0} (set : List ℕ) (r : Ran A) (old new : Option (List ℕ)) →
    IsCutShort (text_of r) old new → IsCutShort (text_of (told_fault set r)) old new
told_fault-cut_before set (Gives v w text) old new cut = cut
told_fault-cut_before set (Faults f line w text) old new cut = let told = fault_line w.time set line (fault_text f) in record {
  taken = cut.taken;
  rest = cut.rest ++ told;
  is = ap (λ t. t ++ told) cut.is ∙ append_assoc cut.taken cut.rest told;
  lost = append-lost cut.rest told cut.lost;
  told = cut.told;
}
