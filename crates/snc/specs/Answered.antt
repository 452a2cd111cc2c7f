-- What a call answers of a source: the text of its messages, and what it has to say of the program.
use Rattle.std.specs.Prelude.{◌≡◌, ℕ, List, [], Option, None, Some, string_bytes}
use Rattle.std.specs.Option.{option_map, unwrap_or}
use Rattle.snl_syntax.specs.Programs.{ProgramTree}
use Rattle.snl_messages.specs.Messages.{Said}
use Rattle.snl_messages.specs.Silence.{options_in_force}
use Rattle.snl_names.specs.declared.options.Options.{Options}
use Rattle.snc.specs.Judging.{Finds, NoErrors}
use Rattle.snc.specs.Texts.{messages_text}
use Rattle.snc_args.specs.declared.words.Job.{Job}

-- the text of the macros of a call; none where they were left out
abbrev pub macros_in : Job → List ℕ
macros_in job = unwrap_or (option_map string_bytes job.macros) []

-- How the answer goes on: with an error nothing is said of the program; else what is said is right for it, under the options in
-- force.
abbrev pub SaysIf : {O : Type 0} → (ProgramTree → Options → O → Type 0) → Options → List Said → Option ProgramTree → Option O → Type 0
SaysIf IsRight given messages tree None = NoErrors messages → ⊥
SaysIf IsRight given messages tree (Some o) =
    NoErrors messages × ((whole : ProgramTree) × ((tree ≡ Some whole) × IsRight whole (options_in_force whole given) o))

-- An answer about a source whose file is called by a word, under the options of a call.
pub record IsAnswered {O : Type 0} (IsRight : ProgramTree → Options → O → Type 0) (given : Options) (word source text : List ℕ) (said : Option O) : Type 0 where
  pub names : List (List ℕ)
  pub messages : List Said
  pub tree : Option ProgramTree
  pub finds : Finds given source names messages tree
  pub text_is : text ≡ messages_text word names messages
  pub says : SaysIf IsRight given messages tree said
