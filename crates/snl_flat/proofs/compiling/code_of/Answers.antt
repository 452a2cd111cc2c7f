use Rattle.std.proofs.Common.{◌≡◌, ◌∙◌, ap, map, sym}
use Rattle.std.specs.List.{flat_map}
use Rattle.snl_syntax.specs.Functions.{FunctionTree}
use Rattle.snl_names.specs.Variables.{function_by, functions_of}
use Rattle.snl_meaning.specs.Names.{format_at}
use Rattle.snl_syntax.specs.view.Definitions.{definition_view}
use Rattle.snl_syntax.specs.view.Programs.{state_set_view, program_view}
use Rattle.snl_flat.specs.Heres.{entries_in}
use Rattle.snl_flat.specs.Layout.{routines_code}
use Rattle.snl_flat.specs.Reached.{table_by}
use Rattle.snl_flat.specs.Starts.{entries_of}
use Rattle.snl_flat.specs.declared.code.Code.{Code}
use Rattle.snl_flat.proofs.Apart.{conditions-apart}
use Rattle.snl_flat.proofs.CodeInside.{code-inside}
use Rattle.snl_flat.proofs.CodeHeld.{short}
use Rattle.snl_flat.proofs.FunctionRows.{names-same}
use Rattle.snl_flat.proofs.Marked.{tells-reached}
use Rattle.snl_flat.proofs.Placed.{routines-are, entries-are, code-is, table-is, code-made}
use Rattle.snl_flat.proofs.compiling.code_of.Goals as goal

-- the names are those of the functions among the definitions
pub lay_functions-requires : goal.lay_functions-requires
lay_functions-requires c =
    let p = program_view c.args.program.now in
    c.requires.names ∙ names-same p (functions_of p) ∙ ap (λ l. map (λ (f : FunctionTree). f.name) (flat_map function_by (map definition_view l))) (sym c.as_slice-definitions.ensures.value)

pub returns-clause-is : goal.returns-clause-is
returns-clause-is c =
    let p = program_view c.args.program.now in
    let reached = table_by c.args.marks.now in
    let code : Code = record {
      instrs = c.lay_own-2.new.code;
      texts = c.in_ok-texts.texts;
      functions = c.in_ok-functions.functions;
      depth = c.in_ok-depth.depth;
      entry = c.in_ok-entry.entry;
      exit = c.in_ok-exit.exit;
      sets = c.in_ok-sets.sets;
    } in
    let sets = map state_set_view c.as_slice-sets.result.now in
    let are = ap (map state_set_view) c.as_slice-sets.ensures.value in
    let definitions = map definition_view c.as_slice-definitions.result.now in
    let before = c.in_ok-instrs.instrs.items in
    let placed = c.lay_functions.new.code.items in
    let front : placed ≡ routines_code p =
    routines-are p before placed c.args.common.now.sites.now c.args.common.now.bodies.now definitions c.in_ok-instrs.ensures.items c.requires.sites c.requires.bodies
    (ap (map definition_view) c.as_slice-definitions.ensures.value) c.in_ok-functions.ensures.code in
    let found : entries_of code ≡ entries_in p =
    entries-are p before (entries_of code) c.args.common.now.sites.now c.args.common.now.bodies.now definitions c.in_ok-instrs.ensures.items c.requires.sites c.requires.bodies
    (ap (map definition_view) c.as_slice-definitions.ensures.value) c.in_ok-functions.ensures.entries in
    code-made p reached code (tells-reached p c.args.marks.now c.requires.marks) (conditions-apart p reached)
    (code-is p reached placed c.lay_own.new.code.items c.lay_sets.new.code.items c.lay_own-2.new.code.items sets are front
    c.in_ok-entry.ensures.code c.in_ok-sets.ensures.code c.in_ok-exit.ensures.code)
    (table-is p reached code placed c.lay_own.new.code.items c.lay_sets.new.code.items sets are front
    c.in_ok-entry.ensures.code c.in_ok-entry.ensures.start c.in_ok-sets.ensures.code c.in_ok-sets.ensures.starts c.in_ok-exit.ensures.start)
    found (c.in_ok-texts.ensures ∙ ap (flat_map format_at) (c.as_slice.ensures ∙ c.requires.sites)) c.in_ok-depth.ensures

pub returns-clause-inside : goal.returns-clause-inside
returns-clause-inside c =
    let p = program_view c.args.program.now in
    let reached = table_by c.args.marks.now in
    let code : Code = record {
      instrs = c.lay_own-2.new.code;
      texts = c.in_ok-texts.texts;
      functions = c.in_ok-functions.functions;
      depth = c.in_ok-depth.depth;
      entry = c.in_ok-entry.entry;
      exit = c.in_ok-exit.exit;
      sets = c.in_ok-sets.sets;
    } in
    let sets = map state_set_view c.as_slice-sets.result.now in
    let are = ap (map state_set_view) c.as_slice-sets.ensures.value in
    let definitions = map definition_view c.as_slice-definitions.result.now in
    let before = c.in_ok-instrs.instrs.items in
    let placed = c.lay_functions.new.code.items in
    let front : placed ≡ routines_code p =
    routines-are p before placed c.args.common.now.sites.now c.args.common.now.bodies.now definitions c.in_ok-instrs.ensures.items c.requires.sites c.requires.bodies
    (ap (map definition_view) c.as_slice-definitions.ensures.value) c.in_ok-functions.ensures.code in
    let found : entries_of code ≡ entries_in p =
    entries-are p before (entries_of code) c.args.common.now.sites.now c.args.common.now.bodies.now definitions c.in_ok-instrs.ensures.items c.requires.sites c.requires.bodies
    (ap (map definition_view) c.as_slice-definitions.ensures.value) c.in_ok-functions.ensures.entries in
    code-inside p reached code
    (code-is p reached placed c.lay_own.new.code.items c.lay_sets.new.code.items c.lay_own-2.new.code.items sets are front
    c.in_ok-entry.ensures.code c.in_ok-sets.ensures.code c.in_ok-exit.ensures.code)
    (table-is p reached code placed c.lay_own.new.code.items c.lay_sets.new.code.items sets are front
    c.in_ok-entry.ensures.code c.in_ok-entry.ensures.start c.in_ok-sets.ensures.code c.in_ok-sets.ensures.starts c.in_ok-exit.ensures.start)
    found

pub returns-clause-short : goal.returns-clause-short
returns-clause-short c =
    let p = program_view c.args.program.now in
    let reached = table_by c.args.marks.now in
    let code : Code = record {
      instrs = c.lay_own-2.new.code;
      texts = c.in_ok-texts.texts;
      functions = c.in_ok-functions.functions;
      depth = c.in_ok-depth.depth;
      entry = c.in_ok-entry.entry;
      exit = c.in_ok-exit.exit;
      sets = c.in_ok-sets.sets;
    } in
    let sets = map state_set_view c.as_slice-sets.result.now in
    let are = ap (map state_set_view) c.as_slice-sets.ensures.value in
    let definitions = map definition_view c.as_slice-definitions.result.now in
    let before = c.in_ok-instrs.instrs.items in
    let placed = c.lay_functions.new.code.items in
    let front : placed ≡ routines_code p =
    routines-are p before placed c.args.common.now.sites.now c.args.common.now.bodies.now definitions c.in_ok-instrs.ensures.items c.requires.sites c.requires.bodies
    (ap (map definition_view) c.as_slice-definitions.ensures.value) c.in_ok-functions.ensures.code in
    short p reached code
    (code-is p reached placed c.lay_own.new.code.items c.lay_sets.new.code.items c.lay_own-2.new.code.items sets are front
    c.in_ok-entry.ensures.code c.in_ok-sets.ensures.code c.in_ok-exit.ensures.code)
    (table-is p reached code placed c.lay_own.new.code.items c.lay_sets.new.code.items sets are front
    c.in_ok-entry.ensures.code c.in_ok-entry.ensures.start c.in_ok-sets.ensures.code c.in_ok-sets.ensures.starts c.in_ok-exit.ensures.start)
