use Rattle.std.proofs.Common.{refl}
use Rattle.std.specs.Fmt.{digits}
use Rattle.snl_heard.specs.Heard.{among, entered, heard_all, number_from}
use Rattle.snl_heard.specs.Words.{behind, word}
use Rattle.snl_observer.specs.Heard.{heard}
use Rattle.snl_output.specs.TraceLines.{lines_to, without_return}
use Rattle.snl_trace.specs.Fields.{fields, is_silent}
use Rattle.snl_trace.specs.Grammar.{done_with, name_alone, spoken, tick_with, timed, told_by, told_of, up_with, val_with, values_of, word_of}
use Rattle.snl_trace.specs.Numbers.{spelled_number, spelled_value}
use Rattle.snl_observer.proofs.laws.examples_of_runs.Goals as goal

pub returns : goal.returns
unfolding digits behind word entered number_from among heard_all heard lines_to without_return fields is_silent done_with name_alone spoken tick_with timed told_by told_of up_with val_with values_of word_of spelled_number spelled_value
returns c = record { six = refl; bad = refl; ended = refl }
