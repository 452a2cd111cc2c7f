-- Examples: what helps at some words, and that nothing is known of others.
use Rattle.std.specs.Prelude.{◌≡◌, ℕ, List, [], ◌∷◌, Some, None, codes}
use Rattle.snl_text.specs.declared.kinds.Kind.TheVariants.{Name}
use Rattle.snl_text.specs.declared.tokens.Token.{Token}
use Rattle.snl_helps.specs.Helps.{help_at, help_for}
use Rattle.snl_helps.specs.Names.{call_help_at, name_help_at}

-- A token on a line.
abbrev pub on : ℕ → List ℕ → Token
on line bytes = record { kind = Name; text = record { ref_ptr = (0, 0); now = bytes }; pos = record { offset = 0; file = 0; line = line } }

-- `case x` on line 1, and `y` on line 2.
abbrev pub tokens : List Token
tokens = on 1 (codes "case") ∷ on 1 (codes "x") ∷ on 2 (codes "y") ∷ []

-- One of each group, and words at which nothing helps.
pub record HelpExamples : Type 0 where
  pub operator : help_at (codes "and") ≡ Some (codes "an operator is a sign: && for 'and'")
  pub capital : help_at (codes "WHEN") ≡ Some (codes "keywords have small letters: when")
  pub definition : help_at (codes "struct") ≡ Some (codes "no 'struct': a variable for each member")
  pub statement : help_at (codes "bool") ≡ Some (codes "no 'bool': int, with 0 and 1")
  pub keyword : help_at (codes "when") ≡ None
  pub longer : help_at (codes "android") ≡ None

-- The token itself, one behind it on its line, one on another line, and no token.
pub record LineExamples : Type 0 where
  pub itself : help_for tokens 0 ≡ Some (codes "no 'case': if and else if")
  pub behind : help_for tokens 1 ≡ Some (codes "no 'case': if and else if")
  pub below : help_for tokens 2 ≡ None
  pub none : help_for tokens 3 ≡ None

-- A call of each group, names, and some of which nothing is known.
pub record NameExamples : Type 0 where
  pub text : call_help_at (codes "strcpy") ≡ Some (codes "no texts: a number with a legend, as x = 1; /* open */")
  pub reading : call_help_at (codes "sscanf") ≡ Some (codes "no texts: a channel that brings the number itself")
  pub channel : call_help_at (codes "pvSeverity") ≡ Some (codes "a channel of its own, NAME.SEVR, with a monitor: 0 to 3")
  pub number : call_help_at (codes "epicsThreadSleep") ≡ Some (codes "a state of its own, and when (delay(SECONDS))")
  pub other_call : call_help_at (codes "half") ≡ None
  pub constant : name_help_at (codes "pvSevrMAJOR") ≡ Some (codes "2, as a channel NAME.SEVR has it")
  pub other_name : name_help_at (codes "x") ≡ None
