-- What is known of a part is known of it in its box.
use Rattle.std.specs.Prelude.{◌≡◌, Result, Ok, Err, Box, IfOk}
use Rattle.std.proofs.Common.{Global, sym, subst}
use Rattle.snl_tree.specs.declared.readers.cursor.Halt.{Halt}

-- what is known of a part is known of it in its box
pub known_in_box : {A : Type 0} (P : A → Type 0) (part : A) (r : Result (Box A Global) Halt) → IfOk r (λ b. b.value ≡ part) → P part → IfOk r (λ b. P b.value)
known_in_box P part (Ok b) ok known = subst P (sym ok) known
known_in_box P part (Err halt) ok known = tt
