-- How far tokens go as a program.
use Rattle.std.specs.Prelude.{◌<◌, ℕ, List, ◌⊎◌, Result, Ok, Err, alloc_error}
use Rattle.std.specs.declared.alloc.AllocError.{AllocError}
use Rattle.snl_text.specs.declared.tokens.Token.{Token}
use Rattle.snl_tree.specs.declared.faults.ParseFault.{ParseFault}
use Rattle.snl_tree.specs.declared.faults.ParseFault.TheVariants as fault
use Rattle.snl_syntax.specs.Begins.{Spells, IsUnexpected, IsTooDeep}
use Rattle.snl_syntax.specs.Programs.{ProgramTree, IsProgram, programs}
use Rattle.snl_cures.specs.declared.reach.Reach.{Reach}
use Rattle.snl_cures.specs.declared.reach.Reach.TheVariants.{Whole, Unexpected, TooDeep}

-- The tokens are a program.
abbrev pub AreProgram : List Token → Type 0
AreProgram ts = (p : ProgramTree) × IsProgram 64 p × Spells programs p ts

-- Their first fault stands at a number: no program goes on with the token there, or none that is nested so little.
abbrev pub HasFault : List Token → ℕ → Type 0
HasFault ts k = IsUnexpected programs 64 ts k ⊎ IsTooDeep programs 64 ts k

-- What an answer says of tokens.
abbrev pub IsReach : List Token → Reach → Type 0
IsReach ts Whole = AreProgram ts
IsReach ts (Unexpected k) = IsUnexpected programs 64 ts k
IsReach ts (TooDeep k) = IsTooDeep programs 64 ts k

-- The answer to what a parse found.
abbrev pub reach_of_found : {T : Type 0} → Result T ParseFault → Result Reach AllocError
reach_of_found (Ok found) = Ok Whole
reach_of_found (Err (fault.Unexpected k)) = Ok (Unexpected k)
reach_of_found (Err (fault.TooDeep k)) = Ok (TooDeep k)
reach_of_found (Err fault.Memory) = Err alloc_error

-- It says that they are a program, or that their first fault stands behind the token that follows the first n of them.
abbrev pub IsPast : ℕ → Reach → Type 0
IsPast n Whole = Unit {0}
IsPast n (Unexpected k) = n < k
IsPast n (TooDeep k) = n < k
