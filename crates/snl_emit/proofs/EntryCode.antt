-- The code of the entry of a block, of some declarations before others.
use Rattle.std.proofs.Common.{◌≡◌, ◌∙◌, ℕ, ◌+◌, ◌-◌, ◌<◌, ◌≤◌, List, [], ◌∷◌, ◌++◌, Bool, refl, ap, sym, arith, append_assoc, length, drop, get_or, map}
use Rattle.std.proofs.lemmas.List.{drop_more}
use Rattle.snl_syntax.specs.declared.declarations.Declaration.{Declaration}
use Rattle.snl_syntax.specs.declared.declarations.Declarator.{Declarator}
use Rattle.snl_meaning.specs.declared.instrs.Instr.{Instr}
use Rattle.snl_syntax.specs.view.Declarations.{value_list, declarator_view, declaration_view}
use Rattle.snl_syntax.specs.Expressions.{ExprTree}
use Rattle.snl_syntax.specs.Declarations.{DeclaratorTree}
use Rattle.snl_names.specs.Types.{listed_values}
use Rattle.snl_names.proofs.ListLaws.{listed_of}
use Rattle.snl_emit.specs.BlockCode.{cleared_code, all_cleared_code, begun_with_code, all_begun_code}
use Rattle.snl_meaning.specs.Effect.{variable_for, values_of, names_of}
use Rattle.snl_meaning.specs.Names.{Here}

-- all of them are 0
pub cleared-append : (h : Here) (ds es : List DeclaratorTree) → all_cleared_code h (ds ++ es) ≡ all_cleared_code h ds ++ all_cleared_code h es
cleared-append h [] es = refl
cleared-append h (d ∷ ds) es =
    let c = cleared_code (variable_for h d) in
    ap (λ l. c ++ l) (cleared-append h ds es) ∙ sym (append_assoc c (all_cleared_code h ds) (all_cleared_code h es))

-- what all of them begin with
pub begun-append : (h : Here) (ds es : List DeclaratorTree) → all_begun_code h (ds ++ es) ≡ all_begun_code h ds ++ all_begun_code h es
begun-append h [] es = refl
begun-append h (d ∷ ds) es =
    let c = begun_with_code h (variable_for h d) d.name.pos.line 0 (values_of d.initial) in
    ap (λ l. c ++ l) (begun-append h ds es) ∙ sym (append_assoc c (all_begun_code h ds) (all_begun_code h es))

-- the values of a list in braces
pub values_listed : (es : List ExprTree) (comma : Bool) → listed_values (value_list es comma) ≡ es
values_listed es comma = listed_of es comma

-- The names of one more declaration, for code that is that of some names and then that of others.
pub declaration-more : (f : List DeclaratorTree → List Instr) → ((ds es : List DeclaratorTree) → f (ds ++ es) ≡ f ds ++ f es)
    → (all : List Declaration) (n : ℕ) (x : Declaration) (v : List Declarator) (old mid new : List Instr) → 0 < n → n ≤ length all
    → v ≡ (get_or all (n - 1) x).names.items → mid ≡ f (names_of (map declaration_view (drop n all))) ++ old → new ≡ f (map declarator_view v) ++ mid
    → new ≡ f (names_of (map declaration_view (drop (n - 1) all))) ++ old
declaration-more f parted all n x v old mid new some few ev em en =
    let d = get_or all (n - 1) x in
    let ds = map declarator_view d.names.items in
    let rest = names_of (map declaration_view (drop n all)) in
    let next : n - 1 + 1 ≡ n = omega (arith, some) in
    let here : n - 1 < length all = omega (arith, some, few) in
    let more : drop (n - 1) all ≡ d ∷ drop n all = drop_more all (n - 1) x here ∙ ap (λ k. d ∷ drop k all) next in
    en ∙ (λ j. f (map declarator_view (ev j)) ++ em j) ∙ sym (append_assoc (f ds) (f rest) old) ∙ ap (λ l. l ++ old) (sym (parted ds rest))
    ∙ ap (λ l. f (names_of (map declaration_view l)) ++ old) (sym more)
