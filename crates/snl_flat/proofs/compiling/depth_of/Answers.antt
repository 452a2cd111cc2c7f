use Rattle.std.proofs.Common.{◌∙◌, ap, map}
use Rattle.std.specs.List.{flat_map}
use Rattle.snl_syntax.specs.view.Definitions.{definition_view}
use Rattle.snl_syntax.specs.view.Programs.{program_view}
use Rattle.snl_names.specs.Variables.{function_by}
use Rattle.snl_meaning.specs.Known.{outlines}
use Rattle.snl_flat.specs.Depths.{capped, depth_with}
use Rattle.snl_flat.proofs.FunctionRows.{depth-found}
use Rattle.snl_flat.proofs.compiling.depth_of.Goals as goal

pub returns : goal.returns
returns c =
    let p = program_view c.args.program.now in
    c.program_depth.ensures
    ∙ ap (λ (os : _). capped (depth_with (outlines os) p)) c.as_slice-2.ensures.value
    ∙ depth-found p (outlines c.in_ok-outlines.outlines.items) (flat_map function_by (map definition_view c.as_slice.result.now))
    (ap (λ (l : _). flat_map function_by (map definition_view l)) c.as_slice.ensures.value) c.in_ok-outlines.ensures
