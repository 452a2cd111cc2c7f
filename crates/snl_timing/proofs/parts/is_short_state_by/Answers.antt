use Rattle.std.proofs.Common.{Option, ℕ, subst, sym}
use Rattle.snl_alike.proofs.Delays.{any-state}
use Rattle.snl_alike.specs.Delays.{DelaysInState, IsShort}
use Rattle.snl_syntax.specs.view.Programs.{state_view}
use Rattle.snl_timing.proofs.parts.is_short_state_by.Goals as goal

pub returns-in-Some : goal.returns-in-Some
returns-in-Some c = λ yes. subst (λ (o : Option ℕ). DelaysInState (IsShort o) (state_view c.args.state.now)) (sym c.in-Some.is) (c.is_short_state.ensures yes)

pub returns-in-None : goal.returns-in-None
returns-in-None c = λ yes.
    subst (λ (o : Option ℕ). DelaysInState (IsShort o) (state_view c.args.state.now)) (sym c.in-None.is) (any-state (state_view c.args.state.now))
