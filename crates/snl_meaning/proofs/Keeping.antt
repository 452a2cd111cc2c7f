-- What the pieces of a program keep of the world.
use Rattle.std.proofs.Common.{◌≡◌, ◌∙◌, refl, ℤ, List}
use Rattle.snl_meaning.specs.declared.instrs.Variable.{Variable}
use Rattle.snl_meaning.specs.Functions.{Routine, IsBelow}
use Rattle.snl_meaning.specs.Keeping.{IsKept, MayStore, AllStore, PiecesKeep, PiecesKeepTime, PiecesKeepThePhase, PiecesGiveNoTicks}
use Rattle.snl_meaning.specs.Scenes.{Scene}
use Rattle.snl_meaning.specs.World.{World}
use Rattle.snl_meaning.proofs.EffectKeeps.{held-keeps, block-keeps, callees-keep}
use Rattle.snl_meaning.proofs.Ticks.{Any, any-may, any-all, NoMore, ticks-kept}

-- what each single change keeps is kept by all pieces, with all functions that they call
pub pieces-keep : (rs : List Routine) (m : Scene) (May : Variable → ℤ → Type 0) (R : World → World → Type 0) → IsBelow rs m → MayStore m.here May → AllStore rs May →
    IsKept m.set May R → PiecesKeep m R
pieces-keep rs m May R below may all kept =
    let calls = callees-keep rs m May R below kept all in
    record { condition = held-keeps m May R may kept calls; block = block-keeps m May R may kept calls }

-- where any element may be stored to
pub pieces-keep-any : (rs : List Routine) (m : Scene) (R : World → World → Type 0) → IsBelow rs m → IsKept m.set Any R → PiecesKeep m R
pieces-keep-any rs m R below kept = pieces-keep rs m Any R below (any-may m.here) (any-all rs) kept

-- the time
pub pieces_keep_time : PiecesKeepTime
pieces_keep_time rs m below = pieces-keep-any rs m (λ w u. u.time ≡ w.time) below (record {
  nothing = λ w. refl;
  both = λ u v w a b. b ∙ a;
  stores = λ v k z w ok fits. refl;
  clears = λ v w ok. refl;
  signals = λ flag now w. refl;
  fills = λ place link t w home is. refl;
  enqueues = λ place link t w home is queued. refl;
  fetches = λ place link t w home is. refl;
  takes = λ place link t item more w home is has. refl;
  flushes = λ link w. refl;
  waits = λ link w. refl;
  marks = λ marks w same. refl;
  notes = λ t w late. refl;
  spends = λ left w is. refl;
})

-- how far the program has come
pub pieces_keep_the_phase : PiecesKeepThePhase
pieces_keep_the_phase rs m below = pieces-keep-any rs m (λ w u. u.phase ≡ w.phase) below (record {
  nothing = λ w. refl;
  both = λ u v w a b. b ∙ a;
  stores = λ v k z w ok fits. refl;
  clears = λ v w ok. refl;
  signals = λ flag now w. refl;
  fills = λ place link t w home is. refl;
  enqueues = λ place link t w home is queued. refl;
  fetches = λ place link t w home is. refl;
  takes = λ place link t item more w home is has. refl;
  flushes = λ link w. refl;
  waits = λ link w. refl;
  marks = λ marks w same. refl;
  notes = λ t w late. refl;
  spends = λ left w is. refl;
})

-- the ticks
pub pieces_give_no_ticks : PiecesGiveNoTicks
pieces_give_no_ticks rs m below = pieces-keep-any rs m NoMore below (ticks-kept m.set)
