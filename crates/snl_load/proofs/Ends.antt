-- What runs of pieces leave at their ends.
use Rattle.std.proofs.Common.{◌≡◌, ◌∙◌, ℕ, ℤ, List, [], ◌++◌, None, Some, refl, ap, append-nil}
use Rattle.snl_meaning.specs.Effect.{Way, Done, Broken, Continued, Left, Returned}
use Rattle.snl_meaning.specs.Ran.{Ran, Gives, Faults, then_do}
use Rattle.snl_meaning.specs.Endings.{IsOver}
use Rattle.snl_emit.specs.Right.{ends_with, leads_to}
use Rattle.snl_vm.specs.Running.{LeavesValue, value_left, state_left}
use Rattle.snl_schedule.specs.Plans.{ended}
use Rattle.snl_load.specs.Meaning.{state_left_for, finished}

-- text with nothing behind it, twice
nothing_behind : (text : List ℕ) → (text ++ []) ++ [] ≡ text
nothing_behind text = append-nil (text ++ []) ∙ append-nil text

-- the value that was computed is the one that is left
pub value-left : (r : Ran ℤ) → then_do (then_do r ends_with) value_left ≡ r
value-left (Gives z w text) = ap (λ t. Gives z w t) (nothing_behind text)
value-left (Faults f line w text) = refl

-- there is one
pub leaves-value : (r : Ran ℤ) → LeavesValue (then_do r ends_with)
leaves-value (Gives z w text) = tt
leaves-value (Faults f line w text) = tt

-- the state that a block left for is the one that its run left for
pub state-left : (r : Ran Way) → then_do (then_do r leads_to) state_left ≡ then_do r state_left_for
state-left (Gives Done w text) = ap (λ t. Gives None w t) (append-nil (text ++ []))
state-left (Gives Broken w text) = ap (λ t. Gives None w t) (append-nil (text ++ []))
state-left (Gives Continued w text) = ap (λ t. Gives None w t) (append-nil (text ++ []))
state-left (Gives (Left state) w text) = ap (λ t. Gives (Some state) w t) (append-nil (text ++ []))
state-left (Gives (Returned z) w text) = ap (λ t. Gives None w t) (append-nil (text ++ []))
state-left (Faults f line w text) = refl

-- text with nothing behind it, three times
nothing_more : (text : List ℕ) → ((text ++ []) ++ []) ++ [] ≡ text ++ []
nothing_more text = append-nil ((text ++ []) ++ []) ∙ append-nil (text ++ [])

-- where an entry or an exit block leads does not count
pub block-ended : (r : Ran Way) → then_do (then_do (then_do r leads_to) state_left) ended ≡ then_do r finished
block-ended (Gives Done w text) = ap (λ t. Gives tt w t) (nothing_more text)
block-ended (Gives Broken w text) = ap (λ t. Gives tt w t) (nothing_more text)
block-ended (Gives Continued w text) = ap (λ t. Gives tt w t) (nothing_more text)
block-ended (Gives (Left state) w text) = ap (λ t. Gives tt w t) (nothing_more text)
block-ended (Gives (Returned z) w text) = ap (λ t. Gives tt w t) (nothing_more text)
block-ended (Faults f line w text) = refl

-- a block's run comes to its end
pub is-over : (r : Ran Way) → IsOver (then_do r leads_to)
is-over (Gives Done w text) = tt
is-over (Gives Broken w text) = tt
is-over (Gives Continued w text) = tt
is-over (Gives (Left state) w text) = tt
is-over (Gives (Returned z) w text) = tt
is-over (Faults f line w text) = tt
