-- Laws of what a plain line tells both programs.
use Rattle.std.proofs.Common.{◌≡◌, ◌∙◌, ℕ, List, Option, None, Some, Ok, IfSome, refl, ap}
use Rattle.snl_machine.specs.declared.machine.Machine.{Machine}
use Rattle.std.specs.Option.{option_map}
use Rattle.snl_same.specs.Hearing.{Tells, with_number}
use Rattle.snl_same.specs.declared.plain_lines.Numbers.{Numbers}
use Rattle.snl_schedule.specs.declared.events.Event.{Event}
use Rattle.snl_schedule.specs.declared.events.Event.TheVariants as event
use Rattle.snl_trace.specs.Grammar.{Tick, Val}

-- a number takes the place of another one
pub renumbered : (n k : ℕ) (room : Event) → with_number n (with_number k room) ≡ with_number n room
renumbered n k (event.Val channel values) = refl
renumbered n k (event.Up channel) = refl
renumbered n k (event.Down channel) = refl
renumbered n k (event.Done channel) = refl
renumbered n k event.Tick = refl
renumbered n k event.Other = refl

-- the values stand in the room that the old program has used, too
pub tells-on : (room next : Event) (ms : ℕ) (old new : ℕ) (m : Machine) (line : List ℕ) → next ≡ with_number old room →
    Tells room ms (Some new) m line → Tells next ms (Some new) m line
tells-on room next ms old new m line is tells =
    ap (λ (e : Event). Ok (Some (ms, e))) (ap (λ (e : Event). with_number new e) is ∙ renumbered new old room) ∙ tells

-- what a line tells the new program it tells behind the old one, too
pub tells-known : (room next : Event) (ms : ℕ) (channel : Option Numbers) (m : Machine) (line : List ℕ) →
    IfSome (option_map (λ (n : Numbers). n.old) channel) (λ n. next ≡ with_number n room) →
    Tells room ms (option_map (λ (n : Numbers). n.new) channel) m line → Tells next ms (option_map (λ (n : Numbers). n.new) channel) m line
tells-known room next ms None m line is tells = tells
tells-known room next ms (Some numbers) m line is tells = tells-on room next ms numbers.old numbers.new m line is tells
