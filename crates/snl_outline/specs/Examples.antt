-- Examples: the outline of a program with a state set `lamp` of two states and one `door` of one, computed.
use Rattle.std.specs.Prelude.{◌≡◌, ℕ, List, [], ◌∷◌, None, codes}
use Rattle.snl_text.specs.declared.tokens.Token.{Token}
use Rattle.snl_text.specs.declared.kinds.Kind.TheVariants as kind
use Rattle.snl_syntax.specs.Programs.{StateTree, StateSetTree, ProgramTree}
use Rattle.snl_outline.specs.declared.outline.OutlineForm.TheVariants.{Numbers, Declarations}
use Rattle.snl_outline.specs.Outline.{outline}

-- a name on a line
abbrev pub name : List ℕ → ℕ → Token
name bytes line = record { kind = kind.Name; text = record { ref_ptr = (0, 0); now = bytes }; pos = record { offset = 0; file = 0; line = line } }

-- a state of this name on a line, with nothing in it
abbrev pub state : List ℕ → ℕ → StateTree
state bytes line = record { word = name [] 0; name = name bytes line; definitions = []; entry = None; clauses = []; exit = None }

-- a state set of these states
abbrev pub set : List ℕ → List StateTree → StateSetTree
set bytes states = record { word = name [] 0; name = name bytes 1; definitions = []; states = states }

-- the program
abbrev pub program : ProgramTree
program = record {
  word = name [] 0;
  name = name (codes "p") 1;
  macros = None;
  definitions = [];
  entry = None;
  state_sets = set (codes "lamp") (state (codes "off") 3 ∷ state (codes "on") 12 ∷ []) ∷ set (codes "door") (state (codes "shut") 20 ∷ []) ∷ [];
  exit = None;
}

-- Its outline in both forms.
pub record OutlineExamples : Type 0 where
  pub numbers : outline Numbers program ≡ codes "lamp 0 off line 3\nlamp 1 on line 12\ndoor 0 shut line 20\n"
  pub declarations : outline Declarations program ≡ codes "int lamp_off = 0;\nint lamp_on = 1;\nint door_shut = 0;\n"
