-- Laws of reading a line.
use Rattle.std.proofs.Common.{◌≡◌, ℕ, Bool, List, Option, Some, Result, Ok, ℤ, ap, ◌∙◌}
use Rattle.snl_schedule.specs.declared.events.Event.{Event}
use Rattle.snl_trace.specs.declared.trace_faults.TraceFault.{TraceFault}
use Rattle.snl_trace.specs.Grammar.{Told, Val, ◌>>=◌, told_of, event_at, val_at, val_of, if_fits, read_of}
use Rattle.snl_trace.specs.Seen.{event_at_time}

-- values of a channel that the machine has
pub read-values : (channel : List ℕ → Option ℕ) (fits : Event → Bool) (last ms number : ℕ) (line name : List ℕ) (values : List ℤ) (read : Result (Option (ℕ × Event)) TraceFault) →
    Ok (Some (ms, Val name values)) ≡ told_of last line → Some number ≡ channel name →
    read ≡ event_at_time ms (if_fits (fits (val_of number values)) (val_of number values)) → read ≡ read_of channel fits last line
read-values channel fits last ms number line name values read told named fit =
    fit
    ∙ ap (λ (o : Option ℕ). val_at fits o values >>= λ event. Ok (Some (ms, event))) named
    ∙ ap (λ (r : Result (Option (ℕ × Told)) TraceFault). r >>= event_at channel fits) told
