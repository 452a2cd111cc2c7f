-- Which device, if any, ended a run, and whether its machine has ended.
use Rattle.std.specs.Prelude.{Bool, true, false, Option, None, Some}
use Rattle.snl_trace.specs.declared.runner.End.{End}
use Rattle.snl_trace.specs.declared.runner.End.TheVariants.{Fault, SourceFailed, SinkFailed}

-- whether the source ended it
abbrev pub source_failed : End → Bool
source_failed SourceFailed = true
source_failed _ = false

-- whether the sink ended it
abbrev pub sink_failed : End → Bool
sink_failed SinkFailed = true
sink_failed _ = false

-- whether a run ends here by the sink, if it ends here
abbrev pub ends_by_sink : Option End → Bool
ends_by_sink None = false
ends_by_sink (Some end) = sink_failed end

-- a fact that holds where the program's fault or the sink ended a run
abbrev pub OnStop : End → Type 0 → Type 0
OnStop (Fault fault line) fact = fact
OnStop SinkFailed fact = fact
OnStop _ fact = Unit {0}

-- the same of a run that ends here, if it ends here
abbrev pub OnStopHere : Option End → Type 0 → Type 0
OnStopHere None fact = Unit {0}
OnStopHere (Some end) fact = OnStop end fact
