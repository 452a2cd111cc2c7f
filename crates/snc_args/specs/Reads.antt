-- What reading the words of a call comes to.
use Rattle.std.specs.Prelude.{◌≡◌, ◌≢◌, ◌≤◌, ⊤, ℕ, Bool, false, List, [], None, Some, codes, option_map}
use Rattle.std.specs.Option.{option_map_or}
use Rattle.std.specs.Str.{bytes_eq}
use Rattle.std.specs.Str.Parse.{digits_value, without_leading_plus}
use Rattle.std.specs.String.{string_bytes}
use Rattle.clap.specs.Words.{IsAmong, Kinds, Row, Text, fault_of, first_of, matches_of, one_of}
use Rattle.clap.specs.declared.error.kind.ErrorKind.{ErrorKind}
use Rattle.clap.specs.declared.error.kind.ErrorKind.TheVariants as kind
use Rattle.snc_args.specs.Commands.{command_of}
use Rattle.snc_args.specs.Options.{first_refused, options_among, options_in_force, rest_words}
use Rattle.snc_args.specs.declared.words.Job.{Job}
use Rattle.snc_args.specs.declared.words.Tool.{Tool}
use Rattle.snc_args.specs.declared.words.Tool.TheVariants.{Snc, Snlrun}
use Rattle.snc_args.specs.declared.words.WordsFault.{WordsFault}
use Rattle.snc_args.specs.declared.words.WordsFault.TheVariants as fault

-- ---- what is asked for

-- The text of a flag is "true".
abbrev pub flag_of : Text → List Row → Bool
flag_of id rows = option_map_or (bytes_eq (codes "true")) (one_of id rows) false

-- A number from 1 to 1,000,000,000.
abbrev pub IsBudget : ℕ → Type 0
IsBudget n = (1 ≤ n) × (n ≤ 1000000000)

-- The job of `snc` that the matches tell: they have FILE, and perhaps `--tables`.
pub record ReadsSnc (rows : List Row) (job : Job) : Type 0 where
  pub file : first_of (codes "FILE") rows ≡ Some (string_bytes job.file)
  pub tables : job.tables ≡ flag_of (codes "tables") rows
  pub budget : job.budget ≡ 100000
  pub macros : job.macros ≡ None

-- The job of `snlrun` that the matches tell: they have FILE, perhaps MACROS, and the digits of a budget.
pub record ReadsSnlrun (rows : List Row) (job : Job) : Type 0 where
  pub file : first_of (codes "FILE") rows ≡ Some (string_bytes job.file)
  pub tables : job.tables ≡ false
  pub digits : Text
  pub are_digits : one_of (codes "budget") rows ≡ Some digits
  pub budget : job.budget ≡ digits_value 10 (without_leading_plus digits)
  pub in_range : IsBudget job.budget
  pub macros : first_of (codes "MACROS") rows ≡ option_map string_bytes job.macros

abbrev pub ReadsMatches : Tool → List Row → Job → Type 0
ReadsMatches Snc = ReadsSnc
ReadsMatches Snlrun = ReadsSnlrun

-- The job that the words of a call ask for. No option is refused, and `clap` finds no fault in the other words. The options are those
-- in force; the rest of the job is what the matches of the other words tell.
pub record ReadsTo (tool : Tool) (words : List Text) (job : Job) : Type 0 where
  pub supported : first_refused (options_among words) ≡ None
  pub faultless : fault_of (command_of tool) (rest_words words) ≡ []
  pub options : job.options ≡ options_in_force (options_among words)
  pub matches : ReadsMatches tool (matches_of (command_of tool) (rest_words words)) job

-- ---- what is wrong

-- The fault of ours that an error of this kind comes to: a wish for help is told apart from a mistake.
abbrev pub FaultGives : ErrorKind → WordsFault → Type 0
FaultGives k fault.Memory = ⊤
FaultGives k (fault.Help text) = k ≡ kind.DisplayHelp
FaultGives k (fault.Usage text) = (k ≢ kind.DisplayHelp) × (k ≢ kind.OutOfMemory)
FaultGives k (fault.BadOption sign character) = ⊥

-- Memory ran out, or the fault has one of the kinds of `clap`.
abbrev pub FailsBy : Kinds → WordsFault → Type 0
FailsBy kinds fault.Memory = ⊤
FailsBy kinds f = (k : ErrorKind) × IsAmong k kinds × FaultGives k f

-- What is wrong with the words of a call. An option that is refused comes before all else, with its sign and its first refused
-- character; then a fault of the other words, by `clap`. Of memory nothing is said.
abbrev pub FailsOn : Tool → List Text → WordsFault → Type 0
FailsOn tool words fault.Memory = ⊤
FailsOn tool words (fault.BadOption sign character) = first_refused (options_among words) ≡ Some (sign, character)
FailsOn tool words f = (first_refused (options_among words) ≡ None) × FailsBy (fault_of (command_of tool) (rest_words words)) f

abbrev pub IsMemory : WordsFault → Type 0
IsMemory f = f ≡ fault.Memory
