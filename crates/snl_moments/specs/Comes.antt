-- What a run comes to by the lines of a trace and by its wakes.
use Rattle.std.specs.Prelude.{◌≡◌, ◌≢◌, ◌++◌, ◌<◌, ◌⊎◌, ℕ, Bool, true, false, List, [], ◌∷◌, Option, Some, Ok, All}
use Rattle.snl_meaning.specs.Keeping.{world_after}
use Rattle.snl_meaning.specs.World.{World}
use Rattle.snl_meaning.specs.declared.live.Live.TheVariants.{Ended}
use Rattle.snl_schedule.specs.Event.{wake_before}
use Rattle.snl_schedule.specs.declared.events.Event.{Event}
use Rattle.snl_schedule.specs.declared.events.Event.TheVariants.{Tick}
use Rattle.snl_trace.specs.Run.{Rules, line_done}

-- Bytes without a newline.
abbrev pub IsLine : List ℕ → Type 0
IsLine line = All (λ byte. byte ≢ 10) line

-- The rest of a trace begins with a line.
pub record HasLine (rest line : List ℕ) : Type 0 where
  pub more : List ℕ
  pub plain : IsLine line
  pub is : rest ≡ line ++ 10 ∷ more

-- The next line comes after a time, or the program has ended, so that nothing changes any more;
abbrev pub IsAhead : Rules → ℕ → World → List ℕ → Type 0
IsAhead r ms w rest = (w.phase ≡ Ended) ⊎ ((line : List ℕ) × (at : ℕ × Event) × HasLine rest line × (r.read w.time line ≡ Ok (Some at)) × (ms < at.0))

-- or, at the end of a trace, nothing follows.
abbrev pub IsLater : (at_end : Bool) → Rules → ℕ → World → List ℕ → Type 0
IsLater false r ms w rest = IsAhead r ms w rest
IsLater true r ms w rest = (rest ≡ []) ⊎ IsAhead r ms w rest

-- From its first world on a run comes over the bytes that were read to a world, in front of the rest of them. A line that can be read
-- leads on, as the run over a trace does it. And where the next line comes after the next wake, time passes up to that, as by a `tick` at
-- its time. Where the program faults, the world is the one in which it does.
pub data ComesTo (at_end : Bool) (r : Rules) (first : World) (gave : List ℕ) : (rest : List ℕ) → World → Type 0 where
  -- no line was done, and no wake
  Begins : ComesTo at_end r first gave gave first
  -- one more line, which has some number
  ByLine : (line more : List ℕ) (number : ℕ) (w u : World) (read : Option (ℕ × Event)) → ComesTo at_end r first gave (line ++ 10 ∷ more) w → IsLine line →
      r.read w.time line ≡ Ok read → u ≡ world_after (line_done r number line w) → ComesTo at_end r first gave more u
  -- one more wake, which comes before some time
  ByWake : (rest : List ℕ) (w u : World) (ms wake : ℕ) → ComesTo at_end r first gave rest w → wake_before ms w ≡ Some wake → IsLater at_end r wake w rest →
      u ≡ world_after (r.act wake Tick w) → ComesTo at_end r first gave rest u
