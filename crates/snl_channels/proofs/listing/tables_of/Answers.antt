use Rattle.std.proofs.Common.{map, ap, ◌++◌, ◌∙◌}
use Rattle.std.specs.Prelude.{codes}
use Rattle.std.specs.List.{flat_map}
use Rattle.snl_syntax.specs.view.Programs.{state_set_view, program_view}
use Rattle.snl_channels.specs.Links.{ties}
use Rattle.snl_channels.specs.Tables.{name_line, channel_line, set_lines}
use Rattle.snl_channels.proofs.AppendLaws.{first_begun, second_begun, retold, on_err}
use Rattle.snl_channels.proofs.listing.tables_of.Goals as goal

pub returns-in_err-put_name-clause-begun : goal.returns-in_err-put_name-clause-begun
returns-in_err-put_name-clause-begun c =
    let p = program_view c.args.program.now in
    on_err c.from_residual-in_err-put_name.result
    (first_begun c.args.out.now.items c.put_name.new.out.items (name_line (codes "program ") p.name.text.now)
    (flat_map channel_line (ties p) ++ flat_map set_lines p.state_sets) c.in_err-put_name.ensures.begun)

pub returns-in_err-put_channels-clause-begun : goal.returns-in_err-put_channels-clause-begun
returns-in_err-put_channels-clause-begun c =
    let p = program_view c.args.program.now in
    let channels = flat_map channel_line (ties p) in
    let sets = flat_map set_lines p.state_sets in
    on_err c.from_residual-in_err-put_channels.result
    (second_begun c.args.out.now.items c.put_name.new.out.items c.put_channels.new.out.items (name_line (codes "program ") p.name.text.now) (channels ++ sets) c.in_ok-put_name.ensures.whole
    (first_begun c.put_name.new.out.items c.put_channels.new.out.items channels sets
    (retold c.put_name.new.out.items c.put_channels.new.out.items (flat_map channel_line c.as_slice.result.now) channels (ap (flat_map channel_line) (c.as_slice.ensures.value ∙ c.in_ok-ties.ensures))
    c.in_err-put_channels.ensures.begun)))

pub returns-in_err-put_sets-clause-begun : goal.returns-in_err-put_sets-clause-begun
returns-in_err-put_sets-clause-begun c =
    let p = program_view c.args.program.now in
    let channels = flat_map channel_line (ties p) in
    let sets = flat_map set_lines p.state_sets in
    on_err c.from_residual-in_err-put_sets.result
    (second_begun c.args.out.now.items c.put_name.new.out.items c.put_sets.new.out.items (name_line (codes "program ") p.name.text.now) (channels ++ sets) c.in_ok-put_name.ensures.whole
    (second_begun c.put_name.new.out.items c.put_channels.new.out.items c.put_sets.new.out.items channels sets
    (c.in_ok-put_channels.ensures.whole ∙ ap (λ l. c.put_name.new.out.items ++ flat_map channel_line l) (c.as_slice.ensures.value ∙ c.in_ok-ties.ensures))
    (retold c.put_channels.new.out.items c.put_sets.new.out.items (flat_map set_lines (map state_set_view c.as_slice-2.result.now)) sets
    (ap (λ l. flat_map set_lines (map state_set_view l)) c.as_slice-2.ensures.value) c.in_err-put_sets.ensures.begun)))
