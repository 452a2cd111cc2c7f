-- The values of a list in braces.
use Rattle.std.proofs.Common.{◌≡◌, Bool, true, false, List, [], ◌∷◌, ◌++◌, refl, ap, sym, append-nil}
use Rattle.std.specs.List.{flat_map}
use Rattle.snl_syntax.specs.Expressions.{ExprTree}
use Rattle.snl_syntax.specs.view.Declarations.{value_list}
use Rattle.snl_names.specs.Types.{listed_values}
use Rattle.snl_names.specs.Sights.{Sight}
use Rattle.snl_names.specs.Sites.{in_values, in_value}

-- the values of a list in braces, with a comma after the last or not
pub listed_of : (es : List ExprTree) (comma : Bool) → listed_values (value_list es comma) ≡ es
listed_of [] comma = refl
listed_of (e ∷ []) true = refl
listed_of (e ∷ []) false = refl
listed_of (e ∷ f ∷ all) comma = ap (λ l. e ∷ l) (listed_of (f ∷ all) comma)

-- and their sites
pub sites_of_list : (s : Sight) (es : List ExprTree) (comma : Bool) → in_values s (value_list es comma) ≡ flat_map (in_value s) es
sites_of_list s [] comma = refl
sites_of_list s (e ∷ []) true = refl
sites_of_list s (e ∷ []) false = sym (append-nil (in_value s e))
sites_of_list s (e ∷ f ∷ all) comma = ap (λ l. in_value s e ++ l) (sites_of_list s (f ∷ all) comma)
