-- Small calls that ask and tell of links: their queues, their buffers, their connections.
use Rattle.std.specs.Prelude.{◌≡◌, ℕ, ℤ, pos, negsuc, Bool, true, false, List, [], ◌∷◌, codes}
use Rattle.snl_text.specs.declared.kinds.Kind.TheVariants as kind
use Rattle.snl_text.specs.declared.tokens.Token.{Token}
use Rattle.snl_syntax.specs.Expressions.{ExprTree, named, call, no_arguments, value}
use Rattle.snl_meaning.specs.Examples.{token, scene, x, a, y, start, linked}
use Rattle.snl_meaning.specs.Links.{no_queue}
use Rattle.snl_meaning.specs.Printing.{put_line}
use Rattle.snl_meaning.specs.Ran.{Gives}
use Rattle.snl_meaning.specs.Value.{value_of}
use Rattle.snl_meaning.specs.World.{World}

-- `NAME(t)`
abbrev pub call_of : List ℕ → Token → ExprTree
call_of name t = call (token kind.Name 100 1 name) (value (named t) no_arguments)

-- `NAME()`
abbrev pub call_alone : List ℕ → ExprTree
call_alone name = call (token kind.Name 100 1 name) no_arguments

-- `pvPut(t, ASYNC)`
abbrev pub async_call : Token → ExprTree
async_call t = call (token kind.Name 100 1 (codes "pvPut")) (value (named t) (value (named (token kind.Name 100 1 (codes "ASYNC"))) no_arguments))

-- The first link waits for an answer.
abbrev pub answerless : World
answerless = record start { waiting = true ∷ false ∷ false ∷ [] }

-- `y` is the number, and its link, which has no channel, has a queue of at most two items. Its buffer has 4.
abbrev pub queued : Bool → ℤ → List (List ℤ) → World
queued now number items = record (linked now (pos 4) false) {
  copies = record { words = pos 0 ∷ pos 5 ∷ pos 6 ∷ number ∷ []; state = 0; entered = 1000 } ∷ [];
  queues = no_queue ∷ no_queue ∷ record { size = 2; width = 1; items = items } ∷ [];
}

-- The same with no queue, where the state set at work has a mark of its own.
abbrev pub buffered : ℤ → World
buffered number = record (linked false (pos 4) true) {
  copies = record { words = pos 0 ∷ pos 5 ∷ pos 6 ∷ number ∷ []; state = 0; entered = 1000 } ∷ [];
}

-- `pvPut` appends, and in a full queue stands in the place of the newest item; it sets the flag and leaves the buffer.
-- `pvGetQ` takes the oldest one, and clears the flag where nothing is left, also where nothing was there; `pvFlushQ` does so
-- too. `pvGet` leaves the mark; it answers -2 for `x`, whose channel was never valued, and -1 for `y` where that has no link.
-- `x` is connected, `a` is not; of two links with a channel, one is.
abbrev pub LinkExamples : Type 0
LinkExamples =
    (value_of scene (call_of (codes "pvPut") y) (queued false (pos 9) ((pos 1 ∷ []) ∷ [])) ≡ Gives (pos 0) (queued true (pos 9) ((pos 1 ∷ []) ∷ (pos 9 ∷ []) ∷ [])) [])
    × (value_of scene (call_of (codes "pvPut") y) (queued false (pos 9) ((pos 1 ∷ []) ∷ (pos 2 ∷ []) ∷ [])) ≡ Gives (pos 0) (queued true (pos 9) ((pos 1 ∷ []) ∷ (pos 9 ∷ []) ∷ [])) [])
    × (value_of scene (call_of (codes "pvGetQ") y) (queued true (pos 9) ((pos 1 ∷ []) ∷ (pos 2 ∷ []) ∷ [])) ≡ Gives (pos 1) (queued true (pos 1) ((pos 2 ∷ []) ∷ [])) [])
    × (value_of scene (call_of (codes "pvGetQ") y) (queued true (pos 9) ((pos 1 ∷ []) ∷ [])) ≡ Gives (pos 1) (queued false (pos 1) []) [])
    × (value_of scene (call_of (codes "pvGetQ") y) (queued true (pos 9) []) ≡ Gives (pos 0) (queued false (pos 9) []) [])
    × (value_of scene (call_of (codes "pvFlushQ") y) (queued true (pos 9) ((pos 1 ∷ []) ∷ [])) ≡ Gives (pos 0) (queued false (pos 9) []) [])
    × (value_of scene (call_of (codes "pvGet") y) (buffered (pos 9)) ≡ Gives (pos 0) (buffered (pos 4)) [])
    × (value_of scene (call_of (codes "pvGet") x) start ≡ Gives (negsuc 1) start [])
    × (value_of scene (call_of (codes "pvGet") y) start ≡ Gives (negsuc 0) start [])
    × (value_of scene (call_of (codes "pvConnected") x) start ≡ Gives (pos 1) start [])
    × (value_of scene (call_of (codes "pvConnected") a) start ≡ Gives (pos 0) start [])
    × (value_of scene (call_of (codes "pvConnected") y) start ≡ Gives (pos 0) start [])
    × (value_of scene (call_alone (codes "pvChannelCount")) start ≡ Gives (pos 2) start [])
    × (value_of scene (call_alone (codes "pvConnectCount")) start ≡ Gives (pos 1) start [])
    × (value_of scene (async_call x) start ≡ Gives (pos 0) answerless (put_line 1500 (codes "up") (pos 0 ∷ [])))
    × (value_of scene (async_call x) answerless ≡ Gives (negsuc 0) answerless [])
    × (value_of scene (call_of (codes "pvPut") x) answerless ≡ Gives (pos 0) answerless (put_line 1500 (codes "up") (pos 0 ∷ [])))
    × (value_of scene (async_call a) start ≡ Gives (negsuc 1) start [])
    × (value_of scene (async_call y) start ≡ Gives (negsuc 0) start [])
    × (value_of scene (call_of (codes "pvPutComplete") x) start ≡ Gives (pos 1) start [])
    × (value_of scene (call_of (codes "pvPutComplete") x) answerless ≡ Gives (pos 0) answerless [])
    × (value_of scene (call_of (codes "pvPutComplete") y) start ≡ Gives (pos 0) start [])
    × (value_of scene (async_call y) (linked false (pos 0) false) ≡ Gives (pos 0) (linked true (pos 9) true) [])
