-- What a sink tells that is given a trace.
use Rattle.std.specs.Prelude.{ℕ, List, ◌++◌, Option, None, Some}
use Rattle.snl_import.specs.Trace.{Heard}
use Rattle.snl_import.specs.Comments.{IsTraceText}

-- What a sink tells is a trace that leads a run to a moment. A sink that tells nothing says nothing of that.
abbrev pub IsTrace : Option (List ℕ) → Heard → Type 0
IsTrace None to = Unit {0}
IsTrace (Some text) to = IsTraceText text to

-- A text is the front of a trace, or all of it.
pub record IsFront (text : List ℕ) : Type 0 where
  pub rest : List ℕ
  pub to : Heard
  pub whole : IsTraceText (text ++ rest) to

-- What a sink tells is the front of a trace, or all of it.
abbrev pub IsTraceFront : Option (List ℕ) → Type 0
IsTraceFront None = Unit {0}
IsTraceFront (Some text) = IsFront text
