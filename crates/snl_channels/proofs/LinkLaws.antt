-- Laws of links.
use Rattle.std.proofs.Common.{◌≡◌, ℕ, List, [], ◌∷◌, ◌++◌, map, ap, ◌∙◌, append_assoc}
use Rattle.std.specs.List.{flat_map}
use Rattle.snl_syntax.specs.declared.definitions.Def.{Def}
use Rattle.snl_syntax.specs.declared.programs.Program.{Program}
use Rattle.snl_syntax.specs.declared.programs.State.{State}
use Rattle.snl_syntax.specs.declared.programs.StateSet.{StateSet}
use Rattle.snl_syntax.specs.view.Definitions.{definition_view}
use Rattle.snl_syntax.specs.view.Programs.{state_view, state_set_view, program_view}
use Rattle.snl_names.specs.Scopes.{Scope, scope_of}
use Rattle.snl_channels.specs.declared.ties.Tie.{Tie}
use Rattle.snl_channels.specs.Links.{Said, said_in, said_in_state, said_in_set, said_in_program, link_by}

-- what a state set says: its definitions, then its states
pub set_said : (s : List Scope) (a : StateSet) (ds : List Def) (ts : List State) (scope : Scope) (old one new : List Said)
    → ds ≡ a.definitions.items → ts ≡ a.states.items → scope ≡ scope_of s (map definition_view ds)
    → one ≡ old ++ said_in s (map definition_view ds)
    → new ≡ one ++ flat_map (said_in_state (scope ∷ s)) (map state_view ts)
    → new ≡ old ++ said_in_set s (state_set_view a)
set_said s a ds ts scope old one new ed et es e1 en =
    let defs = map definition_view a.definitions.items in
    let same : scope ≡ scope_of s defs = es ∙ ap (λ x. scope_of s (map definition_view x)) ed in
    en
    ∙ (λ j. e1 j ++ flat_map (said_in_state (same j ∷ s)) (map state_view (et j)))
    ∙ (λ j. (old ++ said_in s (map definition_view (ed j))) ++ flat_map (said_in_state (scope_of s defs ∷ s)) (map state_view a.states.items))
    ∙ append_assoc old _ _

-- what a program says: its definitions, then its state sets
pub program_said : (p : Program) (ds : List Def) (ts : List StateSet) (scope : Scope) (old one new : List Said)
    → ds ≡ p.definitions.items → ts ≡ p.state_sets.items → scope ≡ scope_of [] (map definition_view ds)
    → one ≡ old ++ said_in [] (map definition_view ds)
    → new ≡ one ++ flat_map (said_in_set (scope ∷ [])) (map state_set_view ts)
    → new ≡ old ++ said_in_program (program_view p)
program_said p ds ts scope old one new ed et es e1 en =
    let defs = map definition_view p.definitions.items in
    let same : scope ≡ scope_of [] defs = es ∙ ap (λ x. scope_of [] (map definition_view x)) ed in
    en
    ∙ (λ j. e1 j ++ flat_map (said_in_set (same j ∷ [])) (map state_set_view (et j)))
    ∙ (λ j. (old ++ said_in [] (map definition_view (ed j))) ++ flat_map (said_in_set (scope_of [] defs ∷ [])) (map state_set_view p.state_sets.items))
    ∙ append_assoc old _ _

-- links have the same names where the values of macros are the same
pub named_alike : (v w : List ℕ → List ℕ) (ts us : List Tie) → ((q : List ℕ) → v q ≡ w q) → ts ≡ us → map (link_by v) ts ≡ map (link_by w) us
named_alike v w ts us e h = λ j. map (link_by (λ q. e q j)) (h j)
