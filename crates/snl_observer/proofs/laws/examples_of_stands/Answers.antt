use Rattle.std.proofs.Common.{refl}
use Rattle.snl_output.specs.TraceLines.{without_return}
use Rattle.snl_trace.specs.Fields.{fields, is_silent}
use Rattle.snl_trace.specs.Grammar.{spoken, tick_with, timed, told_by, told_of, word_of}
use Rattle.snl_trace.specs.Numbers.{spelled_number}
use Rattle.snl_trace.specs.Run.{run_from}
use Rattle.snl_observer.proofs.laws.examples_of_stands.Goals as goal

pub returns : goal.returns
unfolding without_return fields is_silent spoken tick_with timed told_by told_of word_of spelled_number run_from
returns c = λ n. refl
