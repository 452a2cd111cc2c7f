use Rattle.std.proofs.Common.{◌≡◌, ◌∙◌, ℕ, Option, Some, Result, Ok, sym, arith, rules}
use Rattle.std.proofs.lemmas.Grind.{common_steps}
use Rattle.snl_machine.specs.Lookup.{channel_of, fits_of}
use Rattle.snl_trace.specs.declared.trace_faults.TraceFault.{TraceFault}
use Rattle.snl_trace.specs.Grammar.{Told, Val, told_of}
use Rattle.snl_trace.proofs.ReadLaws.{read-values}
use Rattle.snl_trace.proofs.reader.read_event.Goals as goal

pub returns-in-Some : goal.returns-in-Some
returns-in-Some c =
    let m = c.args.machine.now in
    let ms = c.in-Some-default-Val.ms in
    let name = c.in-Some-default-Val.name.now in
    let values = c.told.new.values.items in
    let told : ◌≡◌ {A = Result (Option (ℕ × Told)) TraceFault} (Ok (Some (ms, Val name values))) (told_of c.args.last_ms c.args.line.now) =
    first_of (search rules, cc, grind (arith, common_steps)) in
    read-values (channel_of m) (fits_of m) c.args.last_ms ms c.in-Some.number c.args.line.now name values _ told (sym c.in-Some.is ∙ c.channel.ensures) c.fitting.ensures
