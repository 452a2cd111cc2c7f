-- Examples: names after macros, and the links and tables of a small program, computed.
use Rattle.std.specs.Prelude.{◌≡◌, true, false, List, [], ◌∷◌, ◌++◌, ℕ, Option, None, Some, codes}
use Rattle.snl_text.specs.declared.tokens.Token.{Token}
use Rattle.snl_text.specs.declared.kinds.Kind.{Kind}
use Rattle.snl_text.specs.declared.kinds.Kind.TheVariants as kind
use Rattle.snl_syntax.specs.Statements.{no_statements, block}
use Rattle.snl_syntax.specs.Expressions.{ExprTree, constant}
use Rattle.snl_syntax.specs.Declarations.{DeclaratorTree}
use Rattle.snl_syntax.specs.Definitions.{DefinitionTree, PlaceTree, NamesTree, one_name, name_list, declaration, assign, monitor, sync_queue, event_flags, setting}
use Rattle.snl_syntax.specs.Programs.{TargetTree, to_state, to_exit, ClauseTree, StateTree, ProgramTree}
use Rattle.snl_channels.specs.Links.{links}
use Rattle.snl_channels.specs.Macros.{macros_of, after_macros}
use Rattle.snl_channels.specs.Tables.{tables}

-- A name after the macros of a program and of a run.
abbrev pub shown : List ℕ → List ℕ → List ℕ → List ℕ
shown of_program of_run name = after_macros (macros_of of_program of_run) name

abbrev pub MacroExamples : Type 0
MacroExamples =
    (shown (codes "P=dev:") (codes "") (codes "{P}b") ≡ codes "dev:b")
    × (shown (codes "P=dev:") (codes "P=x") (codes "{P}b{P}") ≡ codes "xbx")
    × (shown (codes "P=a,P=b,P=") (codes "") (codes "{P}c") ≡ codes "c")
    × (shown (codes "P={Q},Q=x") (codes "") (codes "{P}{Q}") ≡ codes "{Q}x")
    × (shown (codes "P=x") (codes "") (codes "{P}{P") ≡ codes "x{P")
    × (shown (codes "P=x") (codes "") (codes "a{Q}b{}}{ P }{P{P}") ≡ codes "ab}")
    × (shown (codes " P \t= a b \n,Q") (codes "R S=y,=z") (codes "{P}{Q}{R S}{}") ≡ codes "a b")
    × (shown (codes "P=a=b,_9=z") (codes "") (codes "{P}{_9}") ≡ codes "a=bz")

-- ---- a small program

-- A token at an offset.
abbrev pub token : Kind → ℕ → List ℕ → Token
token kind offset bytes = record { kind = kind; text = record { ref_ptr = (0, 0); now = bytes }; pos = record { offset = offset; file = 0; line = 1 } }

abbrev pub name : ℕ → List ℕ → Token
name = token kind.Name

-- A word or a sign, which has no meaning here but its kind.
abbrev pub word : Kind → Token
word k = token k 0 []

abbrev pub text : List ℕ → Token
text bytes = token kind.Text 0 (codes "\"" ++ bytes ++ codes "\"")

abbrev pub number : List ℕ → ExprTree
number bytes = constant (token kind.Whole 0 bytes)

abbrev pub place : List ℕ → Option ExprTree → PlaceTree
place bytes subscript = record { name = name 0 bytes; subscript = subscript }

abbrev pub sized : Token → List ExprTree → DeclaratorTree
sized t sizes = record { name = t; sizes = sizes; initial = None }

abbrev pub ints : List DeclaratorTree → DefinitionTree
ints names = declaration (record { type_name = record { word = word kind.Int; second = None }; names = names })

abbrev pub assigned_to : PlaceTree → NamesTree → DefinitionTree
assigned_to p names = assign (record { word = word kind.Assign; place = p; channels = Some (record { to = true; names = names }) })

abbrev pub option : Kind → List ℕ → DefinitionTree
option sign letters = setting (record { sign = word sign; name = name 0 letters })

abbrev pub clause : TargetTree → ClauseTree
clause target = record { word = word kind.When; condition = None; block = block [] no_statements; target = target }

-- `state lo { option -te; option +t; when () {} state lo when () {} exit }`
abbrev pub lo : StateTree
lo = record {
  word = word kind.State;
  name = name 0 (codes "lo");
  definitions = option kind.Minus (codes "te") ∷ option kind.Plus (codes "t") ∷ [];
  entry = None;
  clauses = clause (to_state (name 0 (codes "lo"))) ∷ clause to_exit ∷ [];
  exit = None;
}

-- `program p ("P=dev:") int x, a[2]; evflag f; assign x to "{P}b"; assign a to {"c", "d"}; monitor a[1]; syncQ a[1] f;
-- assign x; ss s { .. }`
abbrev pub small : ProgramTree
small = record {
  word = word kind.Program;
  name = name 0 (codes "p");
  macros = Some (text (codes "P=dev:"));
  definitions =
      ints (sized (name 4 (codes "x")) [] ∷ sized (name 7 (codes "a")) (number (codes "2") ∷ []) ∷ []) ∷ event_flags (name 20 (codes "f") ∷ [])
      ∷ assigned_to (place (codes "x") None) (one_name (text (codes "{P}b"))) ∷ assigned_to (place (codes "a") None) (name_list (text (codes "c") ∷ text (codes "d") ∷ []))
      ∷ monitor (place (codes "a") (Some (number (codes "1"))))
      ∷ sync_queue (record { word = word kind.SyncQueue; place = place (codes "a") (Some (number (codes "1"))); flag = Some (record { to = false; name = name 0 (codes "f") }); size = None })
      ∷ assign (record { word = word kind.Assign; place = place (codes "x") None; channels = None }) ∷ [];
  entry = None;
  state_sets = record { word = word kind.StateSet; name = name 0 (codes "s"); definitions = []; states = lo ∷ [] } ∷ [];
  exit = None;
}

abbrev pub LinkExample : Type 0
LinkExample =
    links small (codes "")
    ≡ record { variable = record { offset = 4; file = 0; line = 1 }; first = 0; count = 1; name = codes "dev:b"; monitored = false; flag = None; queue = 0 }
    ∷ record { variable = record { offset = 7; file = 0; line = 1 }; first = 0; count = 1; name = codes "c"; monitored = false; flag = None; queue = 0 }
    ∷ record { variable = record { offset = 7; file = 0; line = 1 }; first = 1; count = 1; name = codes "d"; monitored = true; flag = Some (record { offset = 20; file = 0; line = 1 }); queue = 100 }
    ∷ record { variable = record { offset = 4; file = 0; line = 1 }; first = 0; count = 1; name = []; monitored = false; flag = None; queue = 0 } ∷ []

abbrev pub TableExample : Type 0
TableExample =
    tables small
    ≡ codes "program p\nchannel x 0 1 \"{P}b\" - - 0\nchannel a 0 1 \"c\" - - 0\nchannel a 1 1 \"d\" monitor f 100\nchannel x 0 1 \"\" - - 0\nss s\nstate lo +t-e+x\nwhen 1 state lo\nwhen 2 exit\n"
