use Rattle.std.proofs.Common.{map, ◌++◌, ◌∙◌, ap, false}
use Rattle.std.proofs.lemmas.Result.{on_ok_weaker}
use Rattle.snl_syntax.specs.view.Shown.{shown, held}
use Rattle.snl_syntax.specs.view.Statements.{block_view}
use Rattle.snl_syntax.specs.view.Programs.{clause_view}
use Rattle.snl_resolve.specs.Seen.{sight_of}
use Rattle.snl_names.specs.Programs.{in_clauses}
use Rattle.snl_resolve.proofs.ProgramLaws.{blocks_noted}
use Rattle.snl_resolve.proofs.states.note_blocks.Goals as goal

pub returns : goal.returns
returns c =
    let a = c.args.state.now in
    on_ok_weaker c.note_plain_block-2.result
    (blocks_noted (sight_of c.args.sight.now) c.args.states.now (shown (held block_view) a.entry) (shown (held block_view) a.exit) (map clause_view a.clauses.items)
    c.args.sites.now.items c.note_plain_block.new.sites.items c.note_clauses.new.sites.items c.note_plain_block-2.new.sites.items
    c.in_ok-note_plain_block.ensures
    (c.in_ok-note_clauses.ensures ∙ ap (λ l. c.note_plain_block.new.sites.items ++ in_clauses (sight_of c.args.sight.now) c.args.states.now false (map clause_view l)) c.as_slice.ensures.value))
    c.note_plain_block-2.ensures
