use Rattle.std.proofs.Common.{map}
use Rattle.snl_syntax.specs.view.Definitions.{definition_view}
use Rattle.snl_resolve.specs.Seen.{sight_of}
use Rattle.snl_resolve.proofs.ProgramLaws.{definitions_noted}
use Rattle.snl_resolve.proofs.definitions.note_definitions.Goals as goal

pub returns-clause-sites : goal.returns-clause-sites
returns-clause-sites c =
    definitions_noted c.args.in_state (sight_of c.args.outer.now) (map definition_view c.args.definitions.now) c.in_ok-scope.scope (sight_of c.within.result)
    c.args.sites.now.items c.definition_scope.new.sites.items c.note_each.new.sites.items
    c.in_ok-scope.ensures.scope c.within.ensures c.in_ok-scope.ensures.sites c.in_ok-note_each.ensures
