-- Laws of what a line did.
use Rattle.std.proofs.Common.{◌≡◌, ◌∙◌, ℕ, false, List, [], Option, None, Some, Result, Ok, Err, IfOk, unwrap_or, ap, sym, subst}
use Rattle.snl_meaning.specs.Keeping.{world_after}
use Rattle.snl_meaning.specs.Ran.{Ran}
use Rattle.snl_meaning.specs.World.{World}
use Rattle.snl_output.specs.Devices.{told_more}
use Rattle.snl_output.specs.Does.{Gave, text_of}
use Rattle.snl_same.specs.Lines.{AreApart, AreApartAt, Did, end_in}
use Rattle.snl_same.specs.declared.differences.Apart.{Apart}
use Rattle.snl_same.specs.declared.filters.Filter.{Filter}
use Rattle.snl_trace.specs.Ends.{ends_by_sink}
use Rattle.snl_trace.specs.RunOver.{LineDoes}
use Rattle.snl_trace.specs.declared.runner.End.{End}
use Rattle.snl_trace.specs.declared.runner.End.TheVariants as end

-- what a sink tells that told nothing before
told-is : (text told : List ℕ) → Some told ≡ told_more (Some []) text → text ≡ told
told-is text told is = sym (ap (λ (o : Option (List ℕ)). unwrap_or o []) is)

-- a line that gave something
gave-did : (e : Option End) (w : World) (told : List ℕ) (ran : Ran (Option End)) → Gave e w (Some []) (Some told) ran → Did ran e w told
gave-did e w told ran did = record {
  end_is = ap end_in did.is;
  world_is = ap (λ (r : Ran (Option End)). world_after r) did.is;
  text_is = ap (λ (r : Ran (Option End)). text_of r) did.is ∙ told-is did.text told did.told;
}

-- what a line did, by what a page was told of it
pub line-did : (e : Option End) (w : World) (told : List ℕ) (ran : Ran (Option End)) → ends_by_sink e ≡ false → LineDoes e w (Some []) (Some told) ran → Did ran e w told
line-did None w told ran works did = gave-did None w told ran did
line-did (Some end.ProgramEnded) w told ran works did = gave-did (Some end.ProgramEnded) w told ran did
line-did (Some (end.TraceFault number fault)) w told ran works did = gave-did (Some (end.TraceFault number fault)) w told ran did
line-did (Some (end.Fault fault line)) w told ran works did = record {
  end_is = ap end_in did.is;
  world_is = ap (λ (r : Ran (Option End)). world_after r) did.is;
  text_is = ap (λ (r : Ran (Option End)). text_of r) did.is ∙ told-is did.text told did.told;
}
line-did (Some end.SinkFailed) w told ran works did = absurd cc
line-did (Some end.TraceEnded) w told ran works did = absurd did
line-did (Some end.SourceFailed) w told ran works did = absurd did

-- how two runs are apart at a line, by what each did
pub apart-at : (f : Filter) (x y : Ran (Option End)) (d e : Option End) (w v : World) (s t : List ℕ) (apart : Option Apart) →
    Did x d w s → Did y e v t → AreApart f s t d e apart → AreApartAt f x y apart
apart-at f x y d e w v s t apart old new are =
    subst (λ (z : List ℕ). AreApart f z (text_of y) (end_in x) (end_in y) apart) (sym old.text_is)
    (subst (λ (z : List ℕ). AreApart f s z (end_in x) (end_in y) apart) (sym new.text_is)
    (subst (λ (z : Option End). AreApart f s t z (end_in y) apart) (sym old.end_is)
    (subst (λ (z : Option End). AreApart f s t d z apart) (sym new.end_is) are)))

-- what holds of a value that was given, holds of what follows from it
pub if-ok : {A E : Type 0} (result : Result A E) (P Q : A → Type 0) → ((value : A) → P value → Q value) → IfOk result P → IfOk result Q
if-ok (Ok value) P Q so is = so value is
if-ok (Err error) P Q so is = tt
