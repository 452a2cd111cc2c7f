-- What devices tell: the bytes that a sink was given.
use Rattle.std.specs.Prelude.{◌≡◌, ◌==◌, ◌+◌, ℕ, ◌&&◌, Bool, true, false, List, [], ◌++◌, Option, None, Some, Result, Ok, Err, nat_lt}
use Rattle.snl_output.specs.declared.faults.Stop.{Stop}
use Rattle.snl_output.specs.declared.faults.Stop.TheVariants.{Fault, Sink}
use Rattle.snl_output.specs.declared.sinks.SinkFault.{SinkFault}

-- What a sink tells once it took more bytes: nothing, where it told nothing before.
abbrev pub told_more : Option (List ℕ) → List ℕ → Option (List ℕ)
told_more None bytes = None
told_more (Some before) bytes = Some (before ++ bytes)

-- The sink took a prefix of a text, and lost the rest, which is not empty.
pub record IsCutShort (text : List ℕ) (old new : Option (List ℕ)) : Type 0 where
  pub taken : List ℕ
  pub rest : List ℕ
  pub is : text ≡ taken ++ rest
  pub lost : rest ≡ [] → ⊥
  pub told : new ≡ told_more old taken

-- What a sink tells after a call that hands it a text: all of that, or a prefix of it where the call failed.
abbrev pub Wrote : {A E : Type 0} → Result A E → List ℕ → Option (List ℕ) → Option (List ℕ) → Type 0
Wrote (Ok done) text old new = new ≡ told_more old text
Wrote (Err fault) text old new = IsCutShort text old new

-- Whether a write of a piece of some length failed: by its answer, or by taking nothing of something.
abbrev pub write_fails : Result ℕ SinkFault → ℕ → Bool
write_fails (Ok n) size = (n == 0) && nat_lt 0 size
write_fails (Err fault) size = true

-- A count of failures, after one more or none.
abbrev pub counted : Bool → ℕ → ℕ
counted true n = n + 1
counted false n = n

-- Whether it was the sink that stopped the machine.
abbrev pub stopped_by_sink : {A : Type 0} → Result A Stop → Bool
stopped_by_sink (Ok done) = false
stopped_by_sink (Err (Fault fault line)) = false
stopped_by_sink (Err Sink) = true
