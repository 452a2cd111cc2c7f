-- The marks of states, state by state and state set by state set.
use Rattle.std.proofs.Common.{◌≡◌, ◌∙◌, ◌++◌, ◌+◌, ◌<◌, ℕ, Bool, true, List, [], ◌∷◌, ap, get_or, length, map, subst, sym, take}
use Rattle.std.proofs.lemmas.List.{map-append, take_more}
use Rattle.snl_outline.specs.declared.shapes.SetOutline.{SetOutline}
use Rattle.snl_outline.specs.declared.shapes.StateOutline.{StateOutline}
use Rattle.snl_outline.specs.Reached.{AreMarked, marks_of}
use Rattle.snl_reach.specs.Marks.{AreReached}
use Rattle.snl_syntax.specs.Programs.{StateSetTree}

-- one state set more
marked-more : (gs : List StateSetTree) (os : List SetOutline) (g : StateSetTree) (o : SetOutline) →
    AreMarked gs os → AreReached g.states (marks_of o.states.items) → AreMarked (gs ++ g ∷ []) (os ++ o ∷ [])
marked-more [] [] g o all one = (one, tt)
marked-more (x ∷ gs) (y ∷ os) g o all one = (all.0, marked-more gs os g o all.1 one)
marked-more [] (y ∷ os) g o all one = elim all [ ]
marked-more (x ∷ gs) [] g o all one = elim all [ ]

-- the first state sets of a row, with the next one
pub next-marked : {B : Type 0} (view : B → StateSetTree) (sets : List B) (i : ℕ) (b : B) (old new : List SetOutline) (o : SetOutline) →
    i < length sets → b ≡ get_or sets i b → AreMarked (map view (take i sets)) old → new ≡ old ++ (o ∷ []) →
    AreReached (view b).states (marks_of o.states.items) → AreMarked (map view (take (i + 1) sets)) new
next-marked view sets i b old new o within here all added one =
    let front = ap (map view) (take_more sets i b within ∙ ap (λ x. take i sets ++ (x ∷ [])) (sym here)) ∙ map-append view (take i sets) (b ∷ []) in
    let grown = marked-more (map view (take i sets)) old (view b) o all one in
    subst (λ gs. AreMarked gs new) (sym front) (subst (λ os. AreMarked (map view (take i sets) ++ (view b ∷ [])) os) (sym added) grown)

-- the marks of one state more
pub next-mark : (marks : List Bool) (i : ℕ) (m : Bool) (old new : List StateOutline) (o : StateOutline) → i < length marks →
    m ≡ get_or marks i true → marks_of old ≡ take i marks → new ≡ old ++ (o ∷ []) → o.is_reached ≡ m → marks_of new ≡ take (i + 1) marks
next-mark marks i m old new o within here same added is =
    ap marks_of added ∙ map-append (λ (s : StateOutline). s.is_reached) old (o ∷ []) ∙ ap (λ l. l ++ (o.is_reached ∷ [])) same
    ∙ ap (λ x. take i marks ++ (x ∷ [])) (is ∙ here) ∙ sym (take_more marks i true within)
