use Rattle.std.proofs.Common.{◌≡◌, ◌++◌, map, drop, reverse}
use Rattle.snl_syntax.specs.view.Declarations.{declaration_view}
use Rattle.snl_emit.specs.BlockCode.{all_begun_code}
use Rattle.snl_meaning.specs.Effect.{names_of}
use Rattle.snl_meaning.specs.Known.{here_of}
use Rattle.snl_emit.proofs.entries.emit_all_begun.Given as goal

abbrev pub invariant-loop-number : goal.invariant-loop-number
invariant-loop-number l =
    reverse l.code.items ≡ all_begun_code (here_of l.known) (names_of (map declaration_view (drop l.number l.declarations))) ++ reverse l.initial.code.items
