-- The words of a state set's store in two shares: what all state sets hold, and what one holds alone.
use Rattle.std.proofs.Common.{◌≡◌, ℕ, ◌+◌, ◌-◌, ◌^◌, min, List, [], ◌∷◌, ◌++◌, map, ap, ◌∙◌, append_assoc, sum_by, arith}
use Rattle.std.proofs.lemmas.List.Sums.{sum_by-append}
use Rattle.std.specs.List.{flat_map}
use Rattle.snl_syntax.specs.declared.definitions.Def.{Def}
use Rattle.snl_syntax.specs.declared.programs.Program.{Program}
use Rattle.snl_syntax.specs.Programs.{ProgramTree}
use Rattle.snl_syntax.specs.view.Definitions.{definition_view}
use Rattle.snl_syntax.specs.view.Programs.{program_view}
use Rattle.snl_names.specs.Programs.{program_scopes}
use Rattle.snl_names.specs.Scopes.{Scope, scope_of}
use Rattle.snl_names.specs.Variables.{CopyVariable, by_definitions, by_parts, by_function, function_by, shared_variables}
use Rattle.snl_rules.specs.declared.words.Shared.{Shared}
use Rattle.snl_rules.specs.Words.{variable_words, set_words}
use Rattle.snl_rules.specs.Counts.{IsSharedIn, capped, own_words_in}

-- one part and three, cut behind the first
one_and_three : (a b c d : List CopyVariable) → ((a ++ b) ++ c) ++ d ≡ a ++ ((b ++ c) ++ d)
one_and_three a b c d = simp append_assoc

-- the words of a state set are the shared ones and its own
set_words_are : (p : ProgramTree) (k : ℕ) → set_words p k ≡ sum_by variable_words (by_definitions [] p.definitions) + own_words_in (program_scopes p) p k
set_words_are p k =
    ap (sum_by variable_words) (one_and_three (by_definitions [] p.definitions) _ _ _)
    ∙ sum_by-append variable_words (by_definitions [] p.definitions) (by_parts (program_scopes p) k p.entry p.state_sets p.exit)

-- Two counts that were stopped, added and stopped.
pub stopped_sum : (top words shared own a b all : ℕ) → all ≡ a + b → shared ≡ min a top → own ≡ min b top → words ≡ min (shared + own) top → words ≡ min all top
stopped_sum top words shared own a b all ea es eo ew = omega arith

-- the words of a state set, from the two counts
pub set_words_of : (p : ProgramTree) (k : ℕ) (shared : Shared) (own words : ℕ) → IsSharedIn p shared
    → own ≡ capped (own_words_in (shared.scope ∷ []) p k) → words ≡ capped (shared.words + own) → words ≡ capped (set_words p k)
set_words_of p k shared own words is eo ew =
    stopped_sum (2 ^ 64 - 1) words shared.words own (sum_by variable_words (by_definitions [] p.definitions)) (own_words_in (program_scopes p) p k) (set_words p k)
    (set_words_are p k) is.words (eo ∙ ap (λ s. capped (own_words_in (s ∷ []) p k)) is.scope) ew

-- The variables that were added for functions are those that all state sets share.
pub shared_are : (p : Program) (ds : List Def) (scope : Scope) (old new : List CopyVariable) → ds ≡ p.definitions.items → scope ≡ scope_of [] (map definition_view ds) → old ≡ []
    → new ≡ old ++ flat_map (by_function (scope ∷ [])) (flat_map function_by (map definition_view ds)) → new ≡ shared_variables (program_view p)
shared_are p ds scope old new ed es eo en =
    let defs = map definition_view p.definitions.items in
    let same : scope ≡ scope_of [] defs = es ∙ ap (λ x. scope_of [] (map definition_view x)) ed in
    en ∙ (λ j. eo j ++ flat_map (by_function (same j ∷ [])) (flat_map function_by (map definition_view (ed j))))
