-- What a function gives that moves a cursor on, against what is read. Where memory ends, nothing is said.
use Rattle.std.specs.Prelude.{◌≡◌, Result, Ok, Err, List, [], ◌∷◌, ◌++◌}
use Rattle.snl_text.specs.declared.tokens.Token.{Token}
use Rattle.snl_tree.specs.declared.readers.cursor.Halt.{Halt}
use Rattle.snl_tree.specs.declared.readers.cursor.Halt.TheVariants as halts
use Rattle.snl_tree.specs.reading.Readers as readers
use Rattle.snl_tree.specs.reading.Readers.{Read}

-- A fault, with the tokens from its place on.
abbrev pub Fails : {A : Type 0} → Halt → List Token → Read A → Type 0
Fails halts.Stuck left r = r ≡ Err (readers.Stuck left)
Fails halts.Deep left r = r ≡ Err (readers.Deep left)
Fails halts.Memory left r = Unit {0}

-- A tree, seen through a view, and the tokens after it.
abbrev pub Moves : {A B : Type 0} → (A → B) → Result A Halt → List Token → Read B → Type 0
Moves view (Ok found) left r = r ≡ Ok (view found, left)
Moves view (Err halt) left r = Fails halt left r

-- A sign that is dropped.
abbrev pub MovesSign : Result (Unit {0}) Halt → List Token → Read (Unit {0}) → Type 0
MovesSign (Ok found) left r = r ≡ Ok (tt, left)
MovesSign (Err halt) left r = Fails halt left r

-- A token that is kept.
abbrev pub MovesToken : {A : Type 0} → Result A Halt → List Token → Read A → Type 0
MovesToken (Ok found) left r = r ≡ Ok (found, left)
MovesToken (Err halt) left r = Fails halt left r

-- What a row or a record that was filled shows, and the tokens after it.
abbrev pub MovesTo : {B : Type 0} → B → Result (Unit {0}) Halt → List Token → Read B → Type 0
MovesTo shows (Ok done) left r = r ≡ Ok (shows, left)
MovesTo shows (Err halt) left r = Fails halt left r

-- A part that is put at the end of a row, seen through a view, and the tokens after it.
abbrev pub Adds : {A B : Type 0} → (A → B) → List A → Result (Unit {0}) Halt → List A → List Token → Read B → Type 0
Adds {A} view before (Ok done) after left r = (part : A) × (after ≡ before ++ part ∷ []) × (r ≡ Ok (view part, left))
Adds view before (Err halt) after left r = Fails halt left r

-- A tree that is built of its parts alone, seen through a view. Only memory may end.
abbrev pub Builds : {A B : Type 0} → (A → B) → Result A Halt → B → Type 0
Builds view result tree = (left : List Token) → Moves view result left (Ok (tree, left))

-- A part that is built and put at the end of a row, seen through a view. Only memory may end.
abbrev pub Appends : {A B : Type 0} → (A → B) → List A → Result (Unit {0}) Halt → List A → B → Type 0
Appends view before result after tree = (left : List Token) → Adds view before result after left (Ok (tree, left))
