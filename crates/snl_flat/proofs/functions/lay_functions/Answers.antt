use Rattle.std.proofs.Common.{◌≡◌, ◌∙◌, ◌+◌, [], ◌∷◌, ◌++◌, List, ap, arith, drop, length, length-append, map, sym, take}
use Rattle.std.specs.List.{flat_map}
use Rattle.std.proofs.lemmas.List.{map-append}
use Rattle.snl_syntax.specs.view.Definitions.{definition_view}
use Rattle.snl_syntax.specs.view.Functions.{function_view}
use Rattle.snl_syntax.specs.Functions.{FunctionTree}
use Rattle.snl_names.specs.Variables.{function_by}
use Rattle.snl_emit.specs.FunctionCode.{body_code, entries_from, functions_code}
use Rattle.snl_meaning.specs.Functions.{here_below}
use Rattle.snl_meaning.specs.Known.{entries, entry_view, within_view}
use Rattle.snl_meaning.specs.Names.{Here}
use Rattle.snl_flat.specs.Heres.{body_of, parameter_variable, routine_by}
use Rattle.snl_flat.proofs.FunctionRows.{function-next, function-none, names-left, code-left, entries-left}
use Rattle.snl_flat.proofs.functions.lay_functions.Goals.{in-Function+in_ok-entry+in_ok-push, in_default}
use Rattle.snl_flat.proofs.functions.lay_functions.Goals as goal

pub loop-definition-preserved : goal.loop-definition-preserved
loop-definition-preserved c =
    let all = c.args.definitions.now in
    let i = c.loop-definition.definition-index in
    let d = c.definition-item.result in
    let held = c.loop-definition.invariant in
    let sites = c.args.common.now.sites.now in
    let places = c.args.common.now.bodies.now in
    let names = c.args.common.now.names.now in
    let n = length c.loop-definition.kept.items in
    let before = c.loop-definition.code.items in
    elim c.match-definition.branch [
      | in-Function+in_ok-entry+in_ok-push w ↦
          let f = function_view w.in-Function.function.value in
          let fs = flat_map function_by (map definition_view (drop (i + 1) all)) in
          let next = function-next all i d w.in-Function.function c.loop-definition-test.true c.definition-item.is w.in-Function.is in
          let behind : take n names ++ map (λ (g : FunctionTree). g.name) (f ∷ fs) ≡ names =
          ap (λ (l : List FunctionTree). take n names ++ map (λ (g : FunctionTree). g.name) l) (sym next) ∙ held.2 in
          let h : Here = record { states = c.empty-states.result; sites = sites; variables = places; within = within_view w.within_of.result; functions = take w.len.result names } in
          let stands = w.within_of.ensures ∙ ap (λ g. body_of (function_view g).type_name) w.deref.ensures in
          let known : w.len.result ≡ n = omega (arith, w.len.ensures, c.loop-definition.kept.ok.0) in
          let below : h ≡ here_below (take n names) (routine_by sites places f) =
          (λ j. record { states = c.empty-states.ensures j; sites = sites; variables = places; within = stands j; functions = take (known j) names }) in
          let after = w.lay_function.new.code.items in
          let placed : after ≡ before ++ body_code h f.body =
          w.in_ok-entry.ensures.code ∙ ap (λ g. before ++ body_code h (function_view g).body) w.deref-in-Function.ensures in
          let long : length w.push.new.self.items ≡ n + 1 = ap length w.in_ok-push.ensures.items ∙ length-append c.loop-definition.kept.items (w.in_ok-entry.entry ∷ []) in
          let entry : entry_view w.in_ok-entry.entry ≡ record { start = length before; parameters = (routine_by sites places f).parameters } =
          (λ j. record {
            start = w.in_ok-entry.ensures.start j;
            parameters = (w.in_ok-entry.ensures.parameters ∙ ap (λ g. flat_map (parameter_variable places) (function_view g).parameters.each) w.deref-in-Function.ensures) j;
          }) in
          let kept = ap entries w.in_ok-push.ensures.items ∙ map-append entry_view c.loop-definition.kept.items (w.in_ok-entry.entry ∷ []) in
          let count = ap (λ v. length v.items) w.kept-is ∙ long in
          let left = map (routine_by sites places) fs in
          let code = code-left sites places names f fs n behind h below before after placed _
          (ap (λ (l : List FunctionTree). before ++ functions_code (take n names) (map (routine_by sites places) l)) (sym next) ∙ held.0) in
          let rows = entries-left sites places names f fs n behind h below before after placed (entries c.loop-definition.kept.items) _ (entry_view w.in_ok-entry.entry) entry
          (ap (λ (l : List FunctionTree). entries c.loop-definition.kept.items ++ entries_from (length before) (take n names) (map (routine_by sites places) l)) (sym next) ∙ held.1) in
          let behind_more = names-left sites places names f fs n behind h below before after placed in (
            (λ j. (w.code-is j).items ++ functions_code (take (count j) names) left) ∙ code,
            (λ j. (ap (λ v. entries v.items) w.kept-is ∙ kept) j ++ entries_from (length (w.code-is j).items) (take (count j) names) left) ∙ rows,
            ap (λ m. take m names ++ map (λ (g : FunctionTree). g.name) fs) count ∙ behind_more,
          )
      | in_default w ↦
          let same = function-none all i d c.loop-definition-test.true c.definition-item.is w.in_default.not-Function in (
            (λ j. (w.code-is j).items ++ functions_code (take (length (w.kept-is j).items) names) (map (routine_by sites places) (sym same j))) ∙ held.0,
            (λ j. entries (w.kept-is j).items ++ entries_from (length (w.code-is j).items) (take (length (w.kept-is j).items) names) (map (routine_by sites places) (sym same j))) ∙ held.1,
            (λ j. take (length (w.kept-is j).items) names ++ map (λ (g : FunctionTree). g.name) (sym same j)) ∙ held.2,
          )
    ]
