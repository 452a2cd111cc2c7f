-- Small expressions and statements, and what they do in a world.
use Rattle.std.specs.Prelude.{◌≡◌, ℕ, ℤ, pos, negsuc, ◌++◌, Bool, true, false, List, [], ◌∷◌, codes, Option, None, Some}
use Rattle.std.specs.Fmt.{signed_decimal}
use Rattle.snl_text.specs.declared.kinds.Kind.{Kind}
use Rattle.snl_text.specs.declared.kinds.Kind.TheVariants as kind
use Rattle.snl_text.specs.declared.tokens.Token.{Token}
use Rattle.snl_syntax.specs.Expressions.{ExprTree, constant, named, element, call, postfix, chain, assignment, no_terms, term, no_arguments, value, text}
use Rattle.snl_syntax.specs.Statements.{StatementTree, StatementList, nested, expression, break_loop, continue_loop, change_state, if_then, while_loop, for_loop, no_statements, statement, block}
use Rattle.snl_names.specs.declared.sites.Meaning.TheVariants.{Variable, Flag}
use Rattle.snl_names.specs.declared.sites.Purpose.TheVariants.{Read, Flagged}
use Rattle.snl_names.specs.declared.sites.Site.TheVariants.{Declaration, Use, Format}
use Rattle.snl_names.specs.declared.sites.Size.{Size}
use Rattle.snl_names.specs.declared.sites.Size.TheVariants.{Scalar, Array}
use Rattle.snl_meaning.specs.declared.faults.Fault.TheVariants.{OutOfRange, DoesNotFit, BudgetSpent, DivisionByZero}
use Rattle.snl_meaning.specs.declared.live.Live.TheVariants.{Running}
use Rattle.snl_meaning.specs.declared.ties.Tied.{Tied}
use Rattle.snl_meaning.specs.Effect.{Done, Left, effect_of}
use Rattle.snl_names.specs.Variables.{CopyVariable}
use Rattle.snl_meaning.specs.Names.{Here, Piece, variable_in, placed_from}
use Rattle.snl_meaning.specs.Printing.{print_line, put_line}
use Rattle.snl_meaning.specs.Ran.{Gives, Faults}
use Rattle.snl_meaning.specs.Scenes.{Scene}
use Rattle.snl_meaning.specs.Value.{value_of}
use Rattle.snl_meaning.specs.World.{World}

-- a token at an offset and in a line
abbrev pub token : Kind → ℕ → ℕ → List ℕ → Token
token kind offset line bytes = record { kind = kind; text = record { ref_ptr = (0, 0); now = bytes }; pos = record { offset = offset; file = 0; line = line } }

-- a whole number
abbrev pub whole : List ℕ → ExprTree
whole bytes = constant (token kind.Whole 100 1 bytes)

-- a sign or a word, in line 7
abbrev pub sign : Kind → Token
sign k = token k 100 7 []

-- `int x` is declared at 0, `char a[2]` at 1, and `int y` of a block at 2; they are used at 10, 11 and 12
abbrev pub x : Token
x = token kind.Name 10 8 (codes "x")

-- the use of `a`
abbrev pub a : Token
a = token kind.Name 11 9 (codes "a")

-- the use of `y`
abbrev pub y : Token
y = token kind.Name 12 10 (codes "y")

-- the use of the event flag `f`, which is declared at 3
abbrev pub f : Token
f = token kind.Name 13 10 (codes "f")

-- `"x %d\n"`
abbrev pub format : Token
format = token kind.Text 20 1 (codes "\"x %d\\n\"")

-- what is known of them
abbrev pub here : Here
here = record {
  states = token kind.Name 30 1 (codes "p") ∷ token kind.Name 31 1 (codes "q") ∷ [];
  sites = Use Read x (Variable (record { offset = 0; file = 0; line = 1 }) Scalar) false
      ∷ Use Read a (Variable (record { offset = 1; file = 0; line = 1 }) (Array 2)) true
      ∷ Use Read y (Variable (record { offset = 2; file = 0; line = 1 }) Scalar) false
      ∷ Declaration (token kind.Name 3 1 (codes "f")) true false 0 ∷ Use Flagged f (Flag (record { offset = 3; file = 0; line = 1 })) false ∷ Format format true ∷ [];
  variables = record { offset = 0; variable = record { place = 0; size = 1; least = negsuc 2147483647; greatest = pos 2147483647; is_shared = false } }
      ∷ record { offset = 1; variable = record { place = 1; size = 2; least = negsuc 127; greatest = pos 127; is_shared = false } }
      ∷ record { offset = 2; variable = record { place = 3; size = 1; least = negsuc 2147483647; greatest = pos 2147483647; is_shared = false } } ∷ [];
  within = Piece;
  functions = [];
}

-- they run on the first state set
abbrev pub scene : Scene
scene = record { set = 0; set_name = codes "s"; here = here; callees = [] }

-- a link that is monitored, by its channel, its event flag, and where its buffer begins, of so many elements
abbrev pub tied : Option ℕ → Option ℕ → ℕ → ℕ → Tied
tied channel flag from count = record { channel = channel; is_monitored = true; flag = flag; from = from; count = count; least = negsuc 127; greatest = pos 127 }

-- Half a second after the state was entered: x, y, how many ticks, and the least due time. The array has 5 and 6. `x` has
-- a link to a channel that is connected, and `a` one to a channel that is not. The event flag is as it is told.
abbrev pub flagged : Bool → ℤ → ℤ → ℕ → Option ℕ → World
flagged now first last ticks due = record {
  time = 1500;
  ticks = ticks;
  due = due;
  phase = Running;
  wake = None;
  copies = record { words = first ∷ pos 5 ∷ pos 6 ∷ last ∷ []; state = 0; entered = 1000 } ∷ [];
  shared = [];
  flags = now ∷ [];
  channels = codes "up" ∷ codes "down" ∷ [];
  ups = true ∷ false ∷ [];
  valued = false ∷ false ∷ [];
  ties = tied (Some 0) None 0 1 ∷ tied (Some 1) None 1 2 ∷ tied None (Some 0) 3 1 ∷ [];
  homes = (Some 0 ∷ Some 1 ∷ None ∷ []) ∷ [];
  buffers = pos 0 ∷ pos 0 ∷ pos 0 ∷ pos 0 ∷ [];
  marks = [];
  queues = [];
  waiting = false ∷ false ∷ false ∷ [];
}

-- the same with a flag that is not set
abbrev pub world : ℤ → ℤ → ℕ → Option ℕ → World
world = flagged false

-- `x` is 0, `y` is 9, and 3 ticks are left
abbrev pub start : World
start = world (pos 0) (pos 9) 3 None

-- Two state sets have `y`, whose link has no channel: it is synced to `f`. The state set at work has a mark of its own.
abbrev pub linked : Bool → ℤ → Bool → World
linked now number mark = record (flagged now (pos 0) (pos 9) 3 None) {
  homes = (Some 0 ∷ Some 1 ∷ Some 3 ∷ []) ∷ (None ∷ None ∷ Some 0 ∷ []) ∷ (Some 0 ∷ None ∷ None ∷ []) ∷ [];
  buffers = pos 0 ∷ pos 0 ∷ pos 0 ∷ number ∷ [];
  marks = (false ∷ false ∷ true ∷ []) ∷ (false ∷ false ∷ mark ∷ []) ∷ (false ∷ false ∷ false ∷ []) ∷ [];
}

-- left, an operator, right
abbrev pub binary : Kind → ExprTree → ExprTree → ExprTree
binary k left right = chain left (term (sign k) right no_terms)

-- `NAME++`
abbrev pub increased : Token → ExprTree
increased t = postfix (named t) (sign kind.PlusPlus)

-- statements, one after another
abbrev pub in_row : List StatementTree → StatementList
in_row [] = no_statements
in_row (s ∷ ss) = statement s (in_row ss)

-- ---- expressions

-- `NAME(f)`
abbrev pub flag_call : List ℕ → ExprTree
flag_call name = call (token kind.Name 100 1 name) (value (named f) no_arguments)

-- `x++ + x`, `0 && 1 / 0`, `a[2]`, `a[1] = 200`, `delay(1)`, `delay(0.5)`, `printf("x %d\n", x)`, and `pvPut` of `x`,
-- of `a`, and of `y`, which has no link, and then one without a channel; `efSet(f)`, and `efTest(f)` and `efTestAndClear(f)` of a flag that is set
abbrev pub ExpressionExamples : Type 0
ExpressionExamples =
    (value_of scene (binary kind.Plus (increased x) (named x)) start ≡ Gives (pos 1) (world (pos 1) (pos 9) 3 None) [])
    × (value_of scene (binary kind.AmpersandAmpersand (whole (codes "0")) (binary kind.Slash (whole (codes "1")) (whole (codes "0")))) start ≡ Gives (pos 0) start [])
    × (value_of scene (binary kind.Slash (whole (codes "1")) (whole (codes "0"))) start ≡ Faults DivisionByZero 7 start [])
    × (value_of scene (element a (sign kind.OpenBracket) (whole (codes "2"))) start ≡ Faults OutOfRange 7 start [])
    × (value_of scene (assignment (element a (sign kind.OpenBracket) (whole (codes "1"))) (sign kind.Equal) (whole (codes "200"))) start ≡ Faults DoesNotFit 9 start [])
    × (value_of scene (call (token kind.Name 100 1 (codes "delay")) (value (whole (codes "1")) no_arguments)) start ≡ Gives (pos 0) (world (pos 0) (pos 9) 3 (Some 2000)) [])
    × (value_of scene (call (token kind.Name 100 1 (codes "delay")) (value (constant (token kind.Decimal 100 1 (codes "0.5"))) no_arguments)) start ≡ Gives (pos 1) start [])
    × (value_of scene (call (token kind.Name 100 1 (codes "printf")) (text format (value (named x) no_arguments))) start
    ≡ Gives (pos 0) start (print_line 1500 (codes "s") (120 ∷ 32 ∷ (signed_decimal (pos 0) ++ codes "\\n"))))
    × (value_of scene (call (token kind.Name 100 1 (codes "pvPut")) (value (named x) no_arguments)) start ≡ Gives (pos 0) start (put_line 1500 (codes "up") (pos 0 ∷ [])))
    × (value_of scene (call (token kind.Name 100 1 (codes "pvPut")) (value (named a) no_arguments)) start ≡ Gives (negsuc 1) start [])
    × (value_of scene (call (token kind.Name 100 1 (codes "pvPut")) (value (named y) no_arguments)) start ≡ Gives (negsuc 0) start [])
    × (value_of scene (call (token kind.Name 100 1 (codes "pvPut")) (value (named y) no_arguments)) (linked false (pos 0) false) ≡ Gives (pos 0) (linked true (pos 9) true) [])
    × (value_of scene (flag_call (codes "efSet")) start ≡ Gives (pos 0) (flagged true (pos 0) (pos 9) 3 None) [])
    × (value_of scene (flag_call (codes "efTest")) (flagged true (pos 0) (pos 9) 3 None) ≡ Gives (pos 1) (flagged true (pos 0) (pos 9) 3 None) [])
    × (value_of scene (flag_call (codes "efTestAndClear")) (flagged true (pos 0) (pos 9) 3 None) ≡ Gives (pos 1) start [])

-- ---- statements

-- `while (x < NUMBER) ..`
abbrev pub while_less : List ℕ → StatementTree → StatementTree
while_less bound body = while_loop (sign kind.While) (binary kind.Less (named x) (whole bound)) body

-- `{ int y; y++; x += y; }`
abbrev pub counting : StatementTree
counting = nested (block
    (record {
      type_name = record { word = sign kind.Int; second = None };
      names = record { name = token kind.Name 2 1 (codes "y"); sizes = []; initial = None } ∷ [];
    } ∷ [])
    (in_row (expression (increased y) ∷ expression (assignment (named x) (sign kind.PlusEqual) (named y)) ∷ [])))

-- Two turns of a loop; the fourth turn of one, where 3 ticks are left; a block whose variable is 0 whenever it is
-- entered; `while (1) break;`; `for (;; x++) { if (x < 2) continue; break; }`; `state q;`
abbrev pub StatementExamples : Type 0
StatementExamples =
    (effect_of scene (while_less (codes "2") (expression (increased x))) start ≡ Gives Done (world (pos 2) (pos 9) 1 None) [])
    × (effect_of scene (while_less (codes "4") (expression (increased x))) start ≡ Faults BudgetSpent 7 (world (pos 3) (pos 9) 0 None) [])
    × (effect_of scene (while_less (codes "2") counting) start ≡ Gives Done (world (pos 2) (pos 1) 1 None) [])
    × (effect_of scene (while_loop (sign kind.While) (whole (codes "1")) (break_loop (sign kind.Break))) start ≡ Gives Done (world (pos 0) (pos 9) 2 None) [])
    × (effect_of scene (for_loop (sign kind.For) (record { start = None; condition = None; step = Some (increased x) })
    (nested (block [] (in_row (if_then (binary kind.Less (named x) (whole (codes "2"))) (continue_loop (sign kind.Continue)) ∷ break_loop (sign kind.Break) ∷ [])))))
    start ≡ Gives Done (world (pos 2) (pos 9) 0 None) [])
    × (effect_of scene (while_less (codes "1") (nested (block [] (in_row (while_loop (sign kind.While) (whole (codes "1")) (break_loop (sign kind.Break)) ∷ expression (increased x) ∷ []))))) start
    ≡ Gives Done (world (pos 1) (pos 9) 1 None) [])
    × (effect_of scene (change_state (sign kind.State) (token kind.Name 32 1 (codes "q"))) start ≡ Gives (Left 1) start [])

-- ---- places

-- `int x[3]`, or `int y`
abbrev pub held_of : Token → Size → CopyVariable
held_of t size = record { name = t; range = (pos 0, pos 9); size = size; initial = None }

-- The words of two variables stand one after another.
abbrev pub PlaceExamples : Type 0
PlaceExamples = (variable_in (placed_from 0 (held_of x (Array 3) ∷ held_of y Scalar ∷ [])) 12 ≡ Some (record { place = 3; size = 1; least = pos 0; greatest = pos 9; is_shared = false }))
