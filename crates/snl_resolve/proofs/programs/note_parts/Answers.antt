use Rattle.std.proofs.Common.{map}
use Rattle.std.proofs.lemmas.Result.{on_ok_weaker}
use Rattle.snl_syntax.specs.view.Shown.{shown, held}
use Rattle.snl_syntax.specs.view.Statements.{block_view}
use Rattle.snl_syntax.specs.view.Programs.{state_set_view}
use Rattle.snl_resolve.specs.Seen.{sight_of}
use Rattle.snl_resolve.proofs.ProgramLaws.{parts_noted}
use Rattle.snl_resolve.proofs.programs.note_parts.Goals as goal

pub returns : goal.returns
returns c =
    on_ok_weaker c.note_program_block-2.result
    (parts_noted (sight_of c.args.sight.now) (shown (held block_view) c.args.entry.now) (shown (held block_view) c.args.exit.now) (map state_set_view c.args.sets.now)
    c.args.sites.now.items c.note_program_block.new.sites.items c.note_state_sets.new.sites.items c.note_program_block-2.new.sites.items
    c.in_ok-note_program_block.ensures c.in_ok-note_state_sets.ensures)
    c.note_program_block-2.ensures
