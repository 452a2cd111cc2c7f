-- The doers behind one more touch, and behind one more state set.
use Rattle.std.proofs.Common.{◌≡◌, ℕ, ◌+◌, ◌<◌, suc, List, ◌∷◌, Option, length, map, drop, get_or, sym, ap, ◌∙◌, ◌≤◌, add-one, drop_of_length-le}
use Rattle.std.proofs.lemmas.List.{drop_more}
use Rattle.snl_text.specs.declared.tokens.Pos.{Pos}
use Rattle.snl_syntax.specs.declared.programs.StateSet.{StateSet}
use Rattle.snl_syntax.specs.view.Programs.{state_set_view}
use Rattle.snl_lints.specs.declared.doers.Doers.{Doers}
use Rattle.snl_lints.specs.declared.facts.Fact.{Fact}
use Rattle.snl_lints.specs.declared.touches.Touch.{Touch}
use Rattle.snl_lints.specs.Facts.{does}
use Rattle.snl_lints.specs.Touches.{in_state_set}
use Rattle.snl_lints.specs.Doers.{and_if, doers_after, doers_from}

-- a row from a place on is what stands there, and the row after it
row_from : {A : Type 0} (all : List A) (i : ℕ) (a : A) → i < length all → a ≡ get_or all i a → drop i all ≡ a ∷ drop (i + 1) all
row_from all i a h e = drop_more all i a h ∙ ap (λ x. x ∷ drop (i + 1) all) (sym e)

module _ (declared : ℕ → Option Pos) (f : Fact) (v : ℕ) where
  -- one more touch
  pub touch_step : (k : ℕ) (all : List Touch) (i : ℕ) (t : Touch) (before now start : Doers) → i < length all
      → doers_after declared f v k before (drop i all) ≡ start → now ≡ and_if (does declared f v (get_or all i t)) before k
      → doers_after declared f v k now (drop (i + 1) all) ≡ start
  touch_step k all i t before now start h inv en =
      ap (λ w. doers_after declared f v k w (drop (i + 1) all)) en ∙ ap (doers_after declared f v k before) (sym (drop_more all i t h)) ∙ inv

  -- one more state set
  pub set_step : (all : List StateSet) (i : ℕ) (g : StateSet) (before now start : Doers) → i < length all → g ≡ get_or all i g
      → doers_from declared f v i before (map state_set_view (drop i all)) ≡ start
      → now ≡ doers_after declared f v i before (in_state_set declared (state_set_view g))
      → doers_from declared f v (i + 1) now (map state_set_view (drop (i + 1) all)) ≡ start
  set_step all i g before now start h e inv en =
      let rest = drop (i + 1) all in
      ap (λ n. doers_from declared f v n now (map state_set_view rest)) (add-one i)
      ∙ ap (λ w. doers_from declared f v (suc i) w (map state_set_view rest)) en
      ∙ ap (λ l. doers_from declared f v i before (map state_set_view l)) (sym (row_from all i g h e)) ∙ inv

  -- all touches are done
  pub touch_end : (k : ℕ) (all : List Touch) (i : ℕ) (before start : Doers) → length all ≤ i → doers_after declared f v k before (drop i all) ≡ start → before ≡ start
  touch_end k all i before start h inv = ap (doers_after declared f v k before) (sym (drop_of_length-le all h)) ∙ inv

  -- all state sets are done
  pub set_end : (all : List StateSet) (i : ℕ) (before start : Doers) → length all ≤ i → doers_from declared f v i before (map state_set_view (drop i all)) ≡ start → before ≡ start
  set_end all i before start h inv = ap (λ l. doers_from declared f v i before (map state_set_view l)) (sym (drop_of_length-le all h)) ∙ inv
