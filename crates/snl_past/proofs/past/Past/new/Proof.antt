-- The proof of `new`, by hand: a struct of one field without a byte, and nothing noted yet.
use mathlib.Core.Path.{refl}
use mathlib.Core.List.{[], ◌∷◌}
use seplogic.Ra.Ura.{Ura}
use mir.Val.{Val, vstruct, vcons, vnil}
use base.Logic.{SProp}
use prog.Memory.{Memory}
use prog.Routine.{Routine}
use prog.Wp.{WpFn, Tables}
use types.Logic.{Logic}
use contract.Monad.{Fun}
use contract.Running.{tables, tables_of}
use sound.WpLaws.{WpFn-mono}
use types.Kit.{raw, ◌$◌, ◌∵◌, !, qed, keep, join, suffices, done}
use types.Run.{no_more, and_then, returns, enter}
use types.Part.{agg}
use types.ByLocal.{alloc_all, pass_all, free_all, look_at, get, sets}
use denote.Shadow.{pure_i}
use denote.Steps.{nothing}
use denote.Triple.Entry.{on_entry}
use denote.Triple.Spec.{Meets, triple_of}
use denote.Triple.Table.{entered}
use denote.Triple.Walked.{says, ends_at, walked, walk_Meets}
use Rattle.snl_past.specs.declared.past.Past.{Past}
use Rattle.snl_past.specs.contracts.past.Past as Row
use Rattle.snl_past.specs.contracts.past.Past.new.Key.{name as #new}
use Rattle.snl_past.specs.contracts.past.Past.new as new
use Rattle.snl_past.proofs.past.Past.new.Statement as claim
use Rattle.snl_past.proofs.past.Past.new.Code as body

-- what stands in memory
abbrev no_bytes : Val
no_bytes = vstruct (vcons (vstruct vnil) vnil)

-- what the proofs know of it
abbrev nothing_noted : Past
nothing_noted = record { marker = record {}; bytes = [] }

-- the body makes that value and returns it
holds : {M : Type 1} {𝓤 : Ura M} (𝓛 : Logic 𝓤) → (at_mem : Memory → SProp 𝓤) (run : Routine → Fun 𝓤) (𝓣 : Tables 𝓤 𝓛.H)
    → Meets 𝓛 new.signature (WpFn 𝓤 𝓛.H 𝓣.C 𝓣.Λ body.function) (new.spec 𝓛 at_mem run)
holds {𝓤 = 𝓤} 𝓛 at_mem run 𝓣 =
    let clauses = new.clauses 𝓛 at_mem run in
    let weakest = WpFn 𝓤 𝓛.H 𝓣.C 𝓣.Λ body.function in
    walk_Meets 𝓛 new.ended tt tt clauses weakest (WpFn-mono 𝓤 𝓛.H 𝓛.laws 𝓣 body.function)
    (walked 𝓛 new.ended tt clauses weakest (λ κs. tt) (λ κs. tt) (λ κs qs bounds a g _.
    qed 𝓛 (raw (on_entry 𝓛 new.signature κs qs a tt) ∷ raw ((new.clauses 𝓛 at_mem run κs a).requires g) ∷ []) ∵ keep ! [] $
    enter ! 𝓣.C 𝓣.Λ body.function [] _ $ alloc_all ! (λ l. pass_all ! refl tt $
    sets ! (agg ! (no_more !)) refl (tt, tt) $ sets ! (agg ! (and_then ! (get ! refl) (no_more !))) refl (tt, (tt, tt)) $
    returns ! (look_at ! 0 refl) $ free_all ! refl $
    pure_i ! ((Row.the_row).own_val nothing_noted (no_bytes ∷ [])) ((λ vss. (tt, ((λ uss. (tt, tt)), tt))), tt) (((vstruct vnil ∷ [], tt), (refl, ((tt, (refl, tt)), tt))), tt) $
    suffices ! _ (ends_at 𝓛 new.ended tt clauses ((κs, qs, bounds, a, tt), g) no_bytes nothing_noted tt tt) $ says ! refl $
    nothing ! $ join ! $ nothing ! $ done !)))

-- so the function meets its contract, whoever calls it
pub new_spec : {M : Type 1} → claim.statement M
unfolding tables_of
new_spec 𝓤 𝓛 𝓜 𝓡 wired =
    let called = tables 𝓤 𝓛.H 𝓜 𝓡 𝓡.env in
    entered 𝓤 𝓛.H (triple_of 𝓛 new.signature (new.spec 𝓛 𝓜.mem 𝓡.returns)) called.C called.Λ #new body.function (body.unfolded 𝓤 𝓛.H 𝓜 𝓡 wired)
    (holds 𝓛 𝓜.mem 𝓡.returns (tables_of 𝓤 𝓛.H 𝓜 called))
