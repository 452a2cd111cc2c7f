-- Examples: every message on a small site, and what options let through, computed.
use Rattle.std.specs.Prelude.{◌≡◌, ℕ, true, false, List, [], ◌∷◌, None, Some, codes}
use Rattle.snl_text.specs.declared.kinds.Kind.TheVariants.{Name, Plus, Minus}
use Rattle.snl_text.specs.declared.kinds.Kind.{Kind}
use Rattle.snl_text.specs.declared.tokens.Pos.{Pos}
use Rattle.snl_text.specs.declared.tokens.Token.{Token}
use Rattle.snl_syntax.specs.Definitions.{DefinitionTree, setting}
use Rattle.snl_names.specs.declared.options.Options.{Options}
use Rattle.snl_names.specs.Options.{no_options}
use Rattle.snl_names.specs.declared.sites.Meaning.{Meaning}
use Rattle.snl_names.specs.declared.sites.Meaning.TheVariants.{Number, Nothing}
use Rattle.snl_names.specs.declared.sites.Purpose.TheVariants.{Read}
use Rattle.snl_names.specs.declared.sites.Site.{Site}
use Rattle.snl_names.specs.declared.sites.Site.TheVariants.{Declaration, Typed, Declarator, Defined, Setting, Use, Decimal, Call, Format, Change, LoopExit, StateChange, Target, Clause, State, StateSet, Function, Return}
use Rattle.snl_names.specs.declared.sites.Site.TheVariants as Sites
use Rattle.snl_names.specs.declared.sites.Size.TheVariants.{Scalar, TooLong, Wrong}
use Rattle.snl_names.specs.declared.sites.Sort.TheVariants.{Assign, Sync}
use Rattle.snl_rules.specs.declared.rules.Rule.{Rule}
use Rattle.snl_rules.specs.declared.rules.Rule.TheVariants.{TooManySets, TooManyStates, TooManyFunctions, TooManyChannels, TooManyElements, WrongType, WrongDecimal, Undeclared, DeclaredTwice, NoVariable, UnknownFunction, WrongArguments, DelayElsewhere, AssignedTwice, Unassigned, NoFlag, SyncedTwice, NoQueue, StateTwice, StateSetTwice, NoState, StateElsewhere, OutsideLoop, BadInitialiser, WrongArray, NotAssignable, UnknownOption, BadFormat, QueueSize, NoValue, ReturnElsewhere, NeverReached, NotMonitored, UnusedVariable, UnusedFlag, NoClauses, UnusedFunction}
use Rattle.snl_messages.specs.declared.matters.Matter.{Matter}
use Rattle.snl_messages.specs.declared.matters.Matter.TheVariants.{TooManyTokens, TooManyWordsOfSet, TooManyWords, EmbeddedC, NotSafe, Unreached}
use Rattle.snl_messages.specs.declared.messages.Severity.{Severity}
use Rattle.snl_messages.specs.declared.messages.Severity.TheVariants.{Error, Warning}
use Rattle.snl_messages.specs.Findings.{finding, said_at}
use Rattle.snl_messages.specs.Silence.{after_definitions, is_let_through}

-- The place at an offset of the first line.
abbrev pub place : ℕ → Pos
place offset = record { offset = offset; file = 0; line = 1 }

-- A token there.
abbrev pub token : Kind → ℕ → List ℕ → Token
token kind offset bytes = record { kind = kind; text = record { ref_ptr = (0, 0); now = bytes }; pos = place offset }

-- Its kind plays no part but in options.
abbrev pub at : ℕ → List ℕ → Token
at = token Name

-- A use of `x` at 7.
abbrev pub use_of : Meaning → Site
use_of m = Use Read (at 7 (codes "x")) m false

-- A call of `f` there.
abbrev pub call_of : Site
call_of = Call (at 7 (codes "f")) false false true false None

-- A size of a queue there.
abbrev pub at_number : Site
at_number = Sites.QueueSize (at 7 (codes "0")) false

-- A rule's message at a site has this letter, number and text, and stands at this offset.
abbrev pub Says : Rule → Site → Severity → ℕ → List ℕ → ℕ → Type 0
Says rule s severity number text offset = said_at rule s ≡ record { pos = place offset; severity = severity; number = number; text = text }

-- A message on something else, with this quoted, has this letter, number and text.
abbrev pub Tells : Matter → List ℕ → Severity → ℕ → List ℕ → Type 0
Tells matter quote severity number text = (finding matter (place 5) quote).said ≡ record { pos = place 5; severity = severity; number = number; text = text }

-- Limits at a site.
abbrev pub LimitExamples : Type 0
LimitExamples =
    Says TooManySets (StateSet (at 3 (codes "ss")) (at 6 (codes "x")) false) Error 4 (codes "limit passed: 64 state sets") 3
    × Says TooManyStates (State (at 3 (codes "state")) (at 9 (codes "x")) false true) Error 4 (codes "limit passed: 1024 states") 3
    × Says TooManyChannels (Defined Assign (at 3 (codes "assign")).pos (at 10 (codes "x")) Nothing false false None) Error 4 (codes "limit passed: 1024 channels") 3
    × Says TooManyElements (Declarator (at 7 (codes "x")) TooLong true) Error 4 (codes "limit passed: 1024 elements") 7
    × Says TooManyFunctions (Function (at 7 (codes "f")) false) Error 4 (codes "limit passed: 256 functions") 7

-- E11 to E20.
abbrev pub EarlyErrors : Type 0
EarlyErrors =
    Says WrongType (Typed (at 3 (codes "double")) None false) Error 11 (codes "type 'double' is not supported") 3
    × Says WrongType (Typed (at 3 (codes "unsigned")) (Some (at 14 (codes "long"))) false) Error 11 (codes "type 'unsigned long' is not supported") 3
    × Says WrongDecimal (Decimal (at 7 (codes "0.5")) false) Error 12 (codes "decimal constant not allowed here") 7
    × Says Undeclared (use_of Nothing) Error 13 (codes "'x' is not declared") 7
    × Says DeclaredTwice (Declaration (at 7 (codes "x")) false true 1) Error 14 (codes "'x' is declared twice") 7
    × Says DeclaredTwice (Function (at 7 (codes "f")) true) Error 14 (codes "'f' is declared twice") 7
    × Says NoVariable (use_of Number) Error 15 (codes "'x' is not a variable") 7
    × Says UnknownFunction call_of Error 16 (codes "unknown function 'f'") 7
    × Says WrongArguments call_of Error 17 (codes "wrong arguments for 'f'") 7
    × Says DelayElsewhere (Call (at 7 (codes "delay")) true true false true None) Error 18 (codes "delay is only allowed in a when condition") 7
    × Says AssignedTwice (Defined Assign (at 3 (codes "assign")).pos (at 10 (codes "x")) Nothing false false None) Error 19 (codes "'x' is assigned twice") 10
    × Says Unassigned (use_of Nothing) Error 20 (codes "'x' is not assigned") 7

-- E21 to E35.
abbrev pub LateErrors : Type 0
LateErrors =
    Says NoFlag (use_of Nothing) Error 21 (codes "'x' is not an event flag") 7
    × Says SyncedTwice (Defined Sync (at 8 (codes "x")).pos (at 8 (codes "x")) Nothing false false None) Error 22 (codes "'x' is synced twice") 8
    × Says NoQueue (use_of Nothing) Error 23 (codes "'x' has no queue") 7
    × Says StateTwice (State (at 3 (codes "state")) (at 9 (codes "x")) true true) Error 24 (codes "state 'x' is defined twice") 9
    × Says StateSetTwice (StateSet (at 3 (codes "ss")) (at 6 (codes "x")) true) Error 24 (codes "state set 'x' is defined twice") 6
    × Says NoState (Target (at 7 (codes "x")) None true) Error 25 (codes "no state 'x' in this state set") 7
    × Says StateElsewhere (StateChange (at 7 (codes "state")) false) Error 26 (codes "state statement not allowed here") 7
    × Says OutsideLoop (LoopExit (at 7 (codes "continue")) false) Error 27 (codes "'continue' outside a loop") 7
    × Says BadInitialiser (Declarator (at 7 (codes "x")) Scalar false) Error 28 (codes "bad initialiser for 'x'") 7
    × Says WrongArray (Declarator (at 7 (codes "x")) Wrong true) Error 29 (codes "wrong array use of 'x'") 7
    × Says NotAssignable (Change (at 7 (codes "++")) false) Error 30 (codes "not assignable") 7
    × Says UnknownOption (Setting (at 10 (codes "+")) (at 11 (codes "sqa")) (Some 113)) Error 31 (codes "option '+q' is not supported") 11
    × Says BadFormat (Format (at 7 (codes "\"%x\"")) false) Error 32 (codes "bad printf format") 7
    × Says QueueSize at_number Error 33 (codes "queue size must be 1 to 4096") 7
    × Says NoValue call_of Error 34 (codes "'f' has no value") 7
    × Says ReturnElsewhere (Return (at 7 (codes "return")) false) Error 35 (codes "return not allowed here") 7

-- W3 to W8.
abbrev pub Warnings : Type 0
Warnings =
    Says NeverReached (Clause (at 7 (codes "when")) true) Warning 3 (codes "clause is never reached") 7
    × Says NotMonitored (Defined Sync (at 8 (codes "x")).pos (at 8 (codes "x")) Nothing false false None) Warning 4 (codes "'x' is synced but not monitored") 8
    × Says UnusedVariable (Declaration (at 7 (codes "x")) false false 1) Warning 5 (codes "variable 'x' is not used") 7
    × Says UnusedFlag (Declaration (at 7 (codes "x")) true false 0) Warning 6 (codes "event flag 'x' is not used") 7
    × Says NoClauses (State (at 3 (codes "state")) (at 9 (codes "x")) false false) Warning 7 (codes "state 'x' has no clauses") 9
    × Says UnusedFunction (Function (at 7 (codes "f")) false) Warning 8 (codes "function 'f' is not used") 7

-- W1, W2, E10, and the limits of tokens and words.
abbrev pub OtherExamples : Type 0
OtherExamples =
    Tells NotSafe [] Warning 1 (codes "not in safe mode, safe mode is used")
    × Tells Unreached (codes "x") Warning 2 (codes "state 'x' cannot be reached")
    × Tells TooManyTokens [] Error 4 (codes "limit passed: 65536 tokens")
    × Tells TooManyWordsOfSet [] Error 4 (codes "limit passed: 65536 words in a state set")
    × Tells TooManyWords [] Error 4 (codes "limit passed: 1048576 words")
    × Tells EmbeddedC [] Error 10 (codes "embedded C is not supported")

-- Every message.
abbrev pub TextExamples : Type 0
TextExamples = LimitExamples × EarlyErrors × LateErrors × Warnings × OtherExamples

-- An option with a sign and letters.
abbrev pub option_of : Kind → List ℕ → DefinitionTree
option_of sign letters = setting (record { sign = token sign 0 []; name = at 1 letters })

-- Under `+u`.
abbrev pub with_unused : Options
with_unused = record { s = None; c = None; u = Some true; w = None }

-- Under `+u` and `-w`.
abbrev pub silent : Options
silent = record { s = None; c = None; u = Some true; w = Some false }

-- `option +qs; option -w;` after a given `+w`: the accepted letters beside a refused one count, and the last sign of each
-- is in force. W5, W6 and W8 are given under `+u` alone, and under `-w` no warning is; an error always is.
abbrev pub OptionExamples : Type 0
OptionExamples =
    (after_definitions (record { s = None; c = Some false; u = None; w = Some true }) (option_of Plus (codes "qs") ∷ option_of Minus (codes "w") ∷ [])
    ≡ record { s = Some true; c = Some false; u = None; w = Some false })
    × (is_let_through no_options Warning 5 ≡ false) × (is_let_through no_options Warning 7 ≡ true)
    × (is_let_through with_unused Warning 5 ≡ true) × (is_let_through with_unused Warning 6 ≡ true)
    × (is_let_through no_options Warning 8 ≡ false) × (is_let_through with_unused Warning 8 ≡ true) × (is_let_through silent Warning 8 ≡ false)
    × (is_let_through silent Warning 5 ≡ false) × (is_let_through silent Warning 7 ≡ false) × (is_let_through silent Error 13 ≡ true)
