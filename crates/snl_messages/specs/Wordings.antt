-- What each message says: its number, and its text round what it quotes.
use Rattle.std.specs.Prelude.{ℕ, Bool, true, false, List, [], ◌++◌, codes, if◌then◌else◌}
use Rattle.snl_rules.specs.declared.rules.Rule.{Rule}
use Rattle.snl_rules.specs.declared.rules.Rule.TheVariants.{TooManySets, TooManyStates, TooManyFunctions, TooManyChannels, TooManyElements, WrongType, WrongDecimal, Undeclared, DeclaredTwice, NoVariable, UnknownFunction, WrongArguments, DelayElsewhere, AssignedTwice, Unassigned, NoFlag, SyncedTwice, NoQueue, StateTwice, StateSetTwice, NoState, StateElsewhere, OutsideLoop, BadInitialiser, WrongArray, NotAssignable, UnknownOption, BadFormat, QueueSize, NoValue, ReturnElsewhere, NeverReached, NotMonitored, UnusedVariable, UnusedFlag, NoClauses, UnusedFunction}
use Rattle.snl_messages.specs.declared.matters.Matter.{Matter}
use Rattle.snl_messages.specs.declared.matters.Matter.TheVariants.{AtSite, TooManyTokens, TooManyWordsOfSet, TooManyWords, EmbeddedC, NotSafe, Unreached}
use Rattle.snl_messages.specs.declared.messages.Severity.{Severity}
use Rattle.snl_messages.specs.declared.messages.Severity.TheVariants.{Error, Warning}

-- The letter and the number, and the text: before, then what is quoted if something is, then after. The limits of E04 are
-- numbered by rank from 0 on, and of two at one place the first is given. All other messages have rank 0.
pub record Wording : Type 0 where
  pub severity : Severity
  pub number : ℕ
  pub rank : ℕ
  pub before : List ℕ
  pub is_quoting : Bool
  pub after : List ℕ

-- An error that quotes something between two texts.
abbrev pub error : ℕ → List ℕ → List ℕ → Wording
error number before after = record { severity = Error; number = number; rank = 0; before = before; is_quoting = true; after = after }

-- A warning that does.
abbrev pub warning : ℕ → List ℕ → List ℕ → Wording
warning number before after = record { severity = Warning; number = number; rank = 0; before = before; is_quoting = true; after = after }

-- An error that quotes nothing.
abbrev pub plain_error : ℕ → List ℕ → Wording
plain_error number text = record { severity = Error; number = number; rank = 0; before = text; is_quoting = false; after = [] }

-- A warning that quotes nothing.
abbrev pub plain_warning : ℕ → List ℕ → Wording
plain_warning number text = record { severity = Warning; number = number; rank = 0; before = text; is_quoting = false; after = [] }

-- A limit, by its rank.
abbrev pub limit : ℕ → List ℕ → Wording
limit rank text = record { severity = Error; number = 4; rank = rank; before = text; is_quoting = false; after = [] }

-- What a message says about a rule that is broken.
abbrev pub wording_of : Rule → Wording
wording_of TooManySets = limit 1 (codes "limit passed: 64 state sets")
wording_of TooManyStates = limit 2 (codes "limit passed: 1024 states")
wording_of TooManyChannels = limit 3 (codes "limit passed: 1024 channels")
wording_of TooManyElements = limit 4 (codes "limit passed: 1024 elements")
wording_of TooManyFunctions = limit 7 (codes "limit passed: 256 functions")
wording_of WrongType = error 11 (codes "type '") (codes "' is not supported")
wording_of WrongDecimal = plain_error 12 (codes "decimal constant not allowed here")
wording_of Undeclared = error 13 (codes "'") (codes "' is not declared")
wording_of DeclaredTwice = error 14 (codes "'") (codes "' is declared twice")
wording_of NoVariable = error 15 (codes "'") (codes "' is not a variable")
wording_of UnknownFunction = error 16 (codes "unknown function '") (codes "'")
wording_of WrongArguments = error 17 (codes "wrong arguments for '") (codes "'")
wording_of DelayElsewhere = plain_error 18 (codes "delay is only allowed in a when condition")
wording_of AssignedTwice = error 19 (codes "'") (codes "' is assigned twice")
wording_of Unassigned = error 20 (codes "'") (codes "' is not assigned")
wording_of NoFlag = error 21 (codes "'") (codes "' is not an event flag")
wording_of SyncedTwice = error 22 (codes "'") (codes "' is synced twice")
wording_of NoQueue = error 23 (codes "'") (codes "' has no queue")
wording_of StateTwice = error 24 (codes "state '") (codes "' is defined twice")
wording_of StateSetTwice = error 24 (codes "state set '") (codes "' is defined twice")
wording_of NoState = error 25 (codes "no state '") (codes "' in this state set")
wording_of StateElsewhere = plain_error 26 (codes "state statement not allowed here")
wording_of OutsideLoop = error 27 (codes "'") (codes "' outside a loop")
wording_of BadInitialiser = error 28 (codes "bad initialiser for '") (codes "'")
wording_of WrongArray = error 29 (codes "wrong array use of '") (codes "'")
wording_of NotAssignable = plain_error 30 (codes "not assignable")
wording_of UnknownOption = error 31 (codes "option '") (codes "' is not supported")
wording_of BadFormat = plain_error 32 (codes "bad printf format")
wording_of QueueSize = plain_error 33 (codes "queue size must be 1 to 4096")
wording_of NoValue = error 34 (codes "'") (codes "' has no value")
wording_of ReturnElsewhere = plain_error 35 (codes "return not allowed here")
wording_of NeverReached = plain_warning 3 (codes "clause is never reached")
wording_of NotMonitored = warning 4 (codes "'") (codes "' is synced but not monitored")
wording_of UnusedVariable = warning 5 (codes "variable '") (codes "' is not used")
wording_of UnusedFlag = warning 6 (codes "event flag '") (codes "' is not used")
wording_of NoClauses = warning 7 (codes "state '") (codes "' has no clauses")
wording_of UnusedFunction = warning 8 (codes "function '") (codes "' is not used")

-- What a message says about a matter.
abbrev pub wording : Matter → Wording
wording (AtSite rule) = wording_of rule
wording TooManyTokens = limit 0 (codes "limit passed: 65536 tokens")
wording TooManyWordsOfSet = limit 5 (codes "limit passed: 65536 words in a state set")
wording TooManyWords = limit 6 (codes "limit passed: 1048576 words")
wording EmbeddedC = plain_error 10 (codes "embedded C is not supported")
wording NotSafe = plain_warning 1 (codes "not in safe mode, safe mode is used")
wording Unreached = warning 2 (codes "state '") (codes "' cannot be reached")

-- The text, with this quoted.
abbrev pub wording_text : Wording → List ℕ → List ℕ
wording_text w quote = if w.is_quoting then w.before ++ quote ++ w.after else w.before

-- Whether it is a warning.
abbrev pub is_warning : Severity → Bool
is_warning Error = false
is_warning Warning = true
