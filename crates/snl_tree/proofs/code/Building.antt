-- What a function gives that puts a tree into a box or into a row.
use Rattle.std.specs.Prelude.{◌≡◌, List, Result, Ok, Err, Box, IfOk, IfErr, OnOk, [], ◌∷◌, ◌++◌}
use Rattle.std.proofs.Common.{Global, ap, sym, subst, ◌∙◌}
use Rattle.snl_text.specs.declared.tokens.Token.{Token}
use Rattle.snl_tree.specs.reading.Readers.{Read}
use Rattle.snl_tree.specs.declared.readers.cursor.Halt.{Halt}
use Rattle.snl_tree.specs.declared.readers.cursor.Halt.TheVariants as halts
use Rattle.snl_tree.specs.reading.Moves.{Fails, Builds, Appends}
use Rattle.snl_syntax.specs.view.Shown.{held}

-- a part in a box is built, seen through any view
pub in_a_box : {A B : Type 0} (view : A → B) (part : A) (tree : B) (r : Result (Box A Global) Halt) → IfOk r (λ b. b.value ≡ part) → IfErr r (λ halt. halt ≡ halts.Memory) → view part ≡ tree
    → Builds (held view) r tree
in_a_box view part tree (Ok b) ok memory same left = ap (λ z. Ok (z, left)) (sym same) ∙ ap (λ z. Ok (view z, left)) (sym ok)
in_a_box view part tree (Err halt) ok memory same left = subst (λ h. Fails h left (Ok (tree, left))) (sym memory) tt

-- what is in a box is built, if it is seen as the tree
pub made_in_a_box : {A B : Type 0} (view : A → B) (tree : B) (r : Result (Box A Global) Halt) → IfOk r (λ b. view b.value ≡ tree) → IfErr r (λ halt. halt ≡ halts.Memory) → Builds (held view) r tree
made_in_a_box view tree (Ok b) ok memory left = ap (λ z. Ok (z, left)) (sym ok)
made_in_a_box view tree (Err halt) ok memory left = subst (λ h. Fails h left (Ok (tree, left))) (sym memory) tt

-- a part at the end of a row is put there, seen through any view
pub in_a_row : {A B : Type 0} (view : A → B) (part : A) (tree : B) (before after : List A) (r : Result (Unit {0}) Halt) → OnOk r (after ≡ before ++ part ∷ [])
    → IfErr r (λ halt. halt ≡ halts.Memory) → view part ≡ tree → Appends view before r after tree
in_a_row view part tree before after (Ok done) ok memory same left = (part, ok, ap (λ z. Ok (z, left)) (sym same))
in_a_row view part tree before after (Err halt) ok memory same left = subst (λ h. Fails h left (Ok (tree, left))) (sym memory) tt

-- what is built is seen as the tree
pub built : {A B : Type 0} (view : A → B) (tree : B) (a : A) → ((left : List Token) → ◌≡◌ {A = Read B} (Ok (tree, left)) (Ok (view a, left))) → tree ≡ view a
built {A} {B} view tree a h = ap first (h [])
  where
    first : Read B → B
    first (Ok x) = x.0
    first (Err f) = tree

-- where nothing is built, nothing is said of what is read
pub unbuilt : {A B : Type 0} (tree : A) (halt : Halt) → ((left : List Token) → Fails {A = A} halt left (Ok (tree, left))) → (left : List Token) (r : Read B) → Fails halt left r
unbuilt {A} {B} tree halts.Stuck h left r = absurd (let e = h [] in cc)
unbuilt {A} {B} tree halts.Deep h left r = absurd (let e = h [] in cc)
unbuilt {A} {B} tree halts.Memory h left r = tt

-- where memory ended, nothing is said of what is read
pub no_room : {B : Type 0} (halt : Halt) → halt ≡ halts.Memory → (left : List Token) (r : Read B) → Fails halt left r
no_room halt e left r = subst (λ h. Fails h left r) (sym e) tt
