-- Depths that stop at the greatest number of 64 bits.
use Rattle.std.proofs.Common.{◌≡◌, ◌∙◌, ◌+◌, ◌<◌, ◌≤◌, ℕ, Bool, List, [], ◌∷◌, ◌++◌, Option, None, Some, refl, sym, ap, arith, length, drop, get_or, map}
use Rattle.std.specs.Prelude.{◌-◌, ◌^◌, max, option_map}
use Rattle.std.proofs.lemmas.List.{drop_more}
use Rattle.snl_syntax.specs.declared.declarations.Declaration.{Declaration}
use Rattle.snl_syntax.specs.declared.declarations.Declarator.{Declarator}
use Rattle.snl_syntax.specs.declared.expressions.Argument.{Argument, Value', Text}
use Rattle.snl_syntax.specs.Expressions.{ExprTree, constant, parenthesized, named, element, call, postfix, prefix, chain, conditional, assignment, no_arguments}
use Rattle.snl_syntax.specs.view.Expressions.{list_before}
use Rattle.snl_syntax.specs.Declarations.{DeclaratorTree}
use Rattle.snl_syntax.specs.view.Declarations.{value_list, declarator_view, declaration_view}
use Rattle.snl_names.specs.Types.{listed_values}
use Rattle.snl_names.proofs.ListLaws.{listed_of}
use Rattle.snl_meaning.specs.Names.{Outline}
use Rattle.snl_emit.specs.Depths.{entered_depth, target_depth, routine_depth, arguments_depth as deepest}
use Rattle.snl_meaning.specs.Effect.{names_of}
use Rattle.snl_flat.specs.DepthParts.{value_depth, held_after}
use Rattle.snl_flat.specs.Depths.{capped}

-- the larger of two
pub capped_max : (a b : ℕ) → max (capped a) (capped b) ≡ capped (max a b)
capped_max a b = omega arith

-- the depth of a target, where what is done there is known up to the limit
pub target_capped : (fs : List Outline) (e : ExprTree) (a b i k : ℕ) → capped a ≡ capped b → capped i ≡ capped k → capped (target_depth fs e a i) ≡ capped (target_depth fs e b k)
target_capped fs (parenthesized e) a b i k h l = target_capped fs e a b i k h l
target_capped fs (element x t e) a b i k h l = omega (arith, h, l)
target_capped fs (constant t) a b i k h l = h
target_capped fs (named x) a b i k h l = h
target_capped fs (call f all) a b i k h l = h
target_capped fs (postfix e op) a b i k h l = h
target_capped fs (prefix op e) a b i k h l = h
target_capped fs (chain e rest) a b i k h l = h
target_capped fs (conditional c e f) a b i k h l = h
target_capped fs (assignment e op r) a b i k h l = h

-- the depth of a call of a function, whose body's is known up to the limit
pub routine_capped : (o : Option Outline) (values depth : ℕ) → Some depth ≡ option_map (λ (o : Outline). o.depth) o → depth ≤ 2 ^ 64 - 1 →
    max 1 (max (capped values) depth) ≡ capped (routine_depth o values)
routine_capped None values depth is fits = absurd (cc)
routine_capped (Some o) values depth is fits = let e : depth ≡ o.depth = cc in omega (arith, e, fits)

-- one more argument of `printf`
pub values_step : (fs : List Outline) (held : ℕ) (a : Argument) (rest : List Argument) →
    deepest fs held (list_before (a ∷ rest) no_arguments) ≡ max (value_depth fs held a) (deepest fs (held_after held a) (list_before rest no_arguments))
values_step fs held (Value' p e) rest = refl
values_step fs held (Text t) rest = omega arith

-- the depth of the names of one declaration and of others
pub entered_append : (fs : List Outline) (ds es : List DeclaratorTree) → entered_depth fs (ds ++ es) ≡ max (entered_depth fs ds) (entered_depth fs es)
entered_append fs [] es = omega arith
entered_append fs (d ∷ ds) es = omega (arith, entered_append fs ds es)

-- the values of a list in braces
pub values_listed : (es : List ExprTree) (comma : Bool) → listed_values (value_list es comma) ≡ es
values_listed es comma = listed_of es comma

-- the names of one declaration more
pub declarations_more : (fs : List Outline) (all : List Declaration) (n : ℕ) (x : Declaration) (v : List Declarator) (d f e w : ℕ) → n < length all → x ≡ get_or all n x
    → v ≡ x.names.items → f ≡ capped (entered_depth fs (map declarator_view v)) → e ≡ max d f
    → max d (capped (entered_depth fs (names_of (map declaration_view (drop n all))))) ≡ w
    → max e (capped (entered_depth fs (names_of (map declaration_view (drop (n + 1) all))))) ≡ w
declarations_more fs all n x v d f e w within is ev ef ee so_far =
    let y = get_or all n x in
    let rest = names_of (map declaration_view (drop (n + 1) all)) in
    let whole : entered_depth fs (names_of (map declaration_view (drop n all))) ≡ max (entered_depth fs (map declarator_view v)) (entered_depth fs rest) =
    ap (λ l. entered_depth fs (names_of (map declaration_view l))) (drop_more all n x within)
    ∙ entered_append fs (map declarator_view y.names.items) rest
    ∙ ap (λ l. max (entered_depth fs (map declarator_view l)) (entered_depth fs rest)) (ap (λ z. z.names.items) (sym is) ∙ sym ev)
    in
    omega (arith, ef, ee, so_far, whole)
