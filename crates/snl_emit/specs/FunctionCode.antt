-- The code of functions. It stands once in the code of a program, in the order of the source, and each may call those before it.
use Rattle.std.specs.Prelude.{ℕ, ◌+◌, pos, List, [], ◌∷◌, ◌++◌, length}
use Rattle.snl_text.specs.declared.tokens.Token.{Token}
use Rattle.snl_syntax.specs.Statements.{BlockTree}
use Rattle.snl_meaning.specs.declared.instrs.Instr.{Instr}
use Rattle.snl_meaning.specs.declared.instrs.Instr.TheVariants.{Push, Return}
use Rattle.snl_meaning.specs.Functions.{Routine, here_below}
use Rattle.snl_meaning.specs.Names.{Here}
use Rattle.snl_meaning.specs.Run.{Entry}
use Rattle.snl_emit.specs.BlockCode.{block_code}

-- The code of a body. One that comes to its end gives 0.
abbrev pub body_code : Here → BlockTree → List Instr
body_code h b = block_code h 0 0 b ++ Push (pos 0) ∷ Return ∷ []

-- The code of a function, below functions of these names.
abbrev pub function_code : List Token → Routine → List Instr
function_code above r = body_code (here_below above r) r.body

-- The code of functions, one after another.
abbrev pub functions_code : List Token → List Routine → List Instr
functions_code above [] = []
functions_code above (r ∷ rs) = function_code above r ++ functions_code (above ++ r.name ∷ []) rs

-- Where each of them begins, the first at an address.
abbrev pub entries_from : ℕ → List Token → List Routine → List Entry
entries_from at above [] = []
entries_from at above (r ∷ rs) =
    record { start = at; parameters = r.parameters } ∷ entries_from (at + length (function_code above r)) (above ++ r.name ∷ []) rs
