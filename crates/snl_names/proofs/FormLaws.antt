-- The forms of the arguments of calls.
use Rattle.std.proofs.Common.{◌≡◌, ◌≤◌, suc, false, List, [], ◌∷◌, length, refl, ap, arith}
use Rattle.snl_syntax.specs.declared.expressions.Argument.{Argument, Value', Text}
use Rattle.snl_syntax.specs.Expressions.{no_arguments}
use Rattle.snl_syntax.specs.view.Expressions.{list_before}
use Rattle.snl_names.specs.declared.calls.Form.TheVariants.{PutPlace}
use Rattle.snl_names.specs.Calls.{fits, has_async, count_of}

-- How many arguments there are.
pub count_list : (l : List Argument) → count_of (list_before l no_arguments) ≡ length l
count_list [] = refl
count_list (Value' p e ∷ l) = ap suc (count_list l)
count_list (Text t ∷ l) = ap suc (count_list l)

-- three of them
three : (a b c : Argument) (l : List Argument) → fits PutPlace (list_before (a ∷ b ∷ c ∷ l) no_arguments) ≡ false
three (Value' p d) (Value' q e) (Value' r f) l = refl
three (Value' p d) (Value' q e) (Text t) l = refl
three (Value' p d) (Text t) c l = refl
three (Text t) b c l = refl

-- A put takes no more than two.
pub no_put_of_three : (a : Argument) (l : List Argument) → 2 ≤ length l → fits PutPlace (list_before (a ∷ l) no_arguments) ≡ false
no_put_of_three a [] far = absurd (omega (arith, far))
no_put_of_three a (b ∷ []) far = absurd (omega (arith, far))
no_put_of_three a (b ∷ c ∷ l) far = three a b c l

-- Where more than one argument stands behind the first, none is the word `ASYNC`.
pub no_async_of_two : (l : List Argument) → 2 ≤ length l → has_async (list_before l no_arguments) ≡ false
no_async_of_two [] far = refl
no_async_of_two (a ∷ []) far = absurd (omega (arith, far))
no_async_of_two (Value' p d ∷ Value' q e ∷ l) far = refl
no_async_of_two (Value' p d ∷ Text t ∷ l) far = refl
no_async_of_two (Text t ∷ b ∷ l) far = refl
