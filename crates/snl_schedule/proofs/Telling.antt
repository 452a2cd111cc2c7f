-- A line, and what follows it.
use Rattle.std.proofs.Common.{◌≡◌, ℕ, List, Option, Result, refl}
use Rattle.snl_output.specs.declared.faults.Stop.{Stop}
use Rattle.snl_output.specs.Devices.{told_more, IsCutShort}
use Rattle.snl_output.specs.Does.{Does, text_of}
use Rattle.snl_output.proofs.Doing.{does-then, cut-then}
use Rattle.snl_meaning.specs.Ran.{Ran, Gives, then_do}
use Rattle.snl_meaning.specs.World.{World}

-- it was told, and then came the rest
pub told-then : {V A : Type 0} (view : V → A) (result : Result V Stop) (line : List ℕ) (go : Unit {0} → World → Ran A) (w u : World) (old mid new : Option (List ℕ)) →
    mid ≡ told_more old line → Does view result u mid new (go tt w) → Does view result u old new (then_do (Gives tt w line) go)
told-then view result line go w u old mid new told did =
    does-then view result (Gives tt w line) go tt w u old mid new (record { text = line; is = refl; told = told }) did

-- it was cut short
pub cut-there : {A : Type 0} (line : List ℕ) (go : Unit {0} → World → Ran A) (w : World) (old new : Option (List ℕ)) →
    IsCutShort line old new → IsCutShort (text_of (then_do (Gives tt w line) go)) old new
cut-there line go w old new cut = cut-then (Gives tt w line) go old new cut
