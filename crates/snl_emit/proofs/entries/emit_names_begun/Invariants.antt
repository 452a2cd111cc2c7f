use Rattle.std.proofs.Common.{◌≡◌, ◌++◌, map, drop, reverse}
use Rattle.snl_syntax.specs.view.Declarations.{declarator_view}
use Rattle.snl_emit.specs.BlockCode.{all_begun_code}
use Rattle.snl_meaning.specs.Known.{here_of}
use Rattle.snl_emit.proofs.entries.emit_names_begun.Given as goal

abbrev pub invariant-loop-number : goal.invariant-loop-number
invariant-loop-number l =
    reverse l.code.items ≡ all_begun_code (here_of l.known) (map declarator_view (drop l.number l.names)) ++ reverse l.initial.code.items
