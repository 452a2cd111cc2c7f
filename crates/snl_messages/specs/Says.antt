-- What is said of a program: what is found of its sites and of the whole, and which messages of that are given.
use Rattle.std.specs.Prelude.{◌≡◌, ◌⊎◌, true, false, List, [], Option, Some, Contains}
use Rattle.snl_text.specs.declared.tokens.Pos.{Pos}
use Rattle.snl_text.specs.declared.tokens.Token.{Token}
use Rattle.snl_syntax.specs.Programs.{ProgramTree}
use Rattle.snl_names.specs.declared.options.Options.{Options}
use Rattle.snl_names.specs.Programs.{sites}
use Rattle.snl_rules.specs.declared.rules.Broken.{Broken}
use Rattle.snl_rules.specs.Rules.{IsBroken}
use Rattle.snl_reach.specs.Reach.{IsUnreached}
use Rattle.snl_rules.specs.Words.{IsOverfullSet, IsOverfull}
use Rattle.snl_messages.specs.declared.matters.Matter.TheVariants.{TooManyTokens, TooManyWords, NotSafe}
use Rattle.snl_messages.specs.declared.messages.Severity.TheVariants.{Error}
use Rattle.snl_messages.specs.Findings.{Finding, finding, of_broken, of_unreached, of_embedded, of_overfull}
use Rattle.snl_messages.specs.Given.{IsGiven}
use Rattle.snl_messages.specs.Messages.{Said}
use Rattle.snl_messages.specs.Silence.{options_in_force, is_safe, lets_through}

-- A site of the program breaks a rule.
abbrev pub IsOfSite : ProgramTree → Finding → Type 0
IsOfSite p f = (b : Broken) × IsBroken (sites p) b × (f ≡ of_broken b)

-- W2: a state cannot be reached; at its name.
abbrev pub IsOfState : ProgramTree → Finding → Type 0
IsOfState p f = (name : Token) × IsUnreached p name × (f ≡ of_unreached name)

-- E10: at each piece of embedded C.
abbrev pub IsOfEmbedded : List Pos → Finding → Type 0
IsOfEmbedded embedded f = (pos : Pos) × Contains embedded pos × (f ≡ of_embedded pos)

-- E04: at the first token past the limit.
abbrev pub IsOfTokens : Option Pos → Finding → Type 0
IsOfTokens beyond f = (pos : Pos) × (beyond ≡ Some pos) × (f ≡ finding TooManyTokens pos [])

-- W1: `+s` is not in force; at the word `program`.
abbrev pub IsOfMode : Options → ProgramTree → Finding → Type 0
IsOfMode o p f = (is_safe o ≡ false) × (f ≡ finding NotSafe p.word.pos [])

-- What is found of a program under the options in force, but for the limits of words.
abbrev pub IsFound : Options → ProgramTree → List Pos → Option Pos → Finding → Type 0
IsFound o p embedded beyond f = IsOfSite p f ⊎ IsOfState p f ⊎ IsOfEmbedded embedded f ⊎ IsOfTokens beyond f ⊎ IsOfMode o p f

-- E04: a state set takes too many words, at its word `ss`; or all take too many, at the word `program`.
abbrev pub IsOfWords : ProgramTree → Finding → Type 0
IsOfWords p f =
    ((word : Token) × IsOverfullSet p word × (f ≡ of_overfull word))
    ⊎ (IsOverfull p × (f ≡ finding TooManyWords p.word.pos []))

-- No error is among what is found.
abbrev pub HasNoError : (Finding → Type 0) → Type 0
HasNoError Is = (f : Finding) → Is f → f.said.severity ≡ Error → ⊥

-- The limits of words are found only where no error is found otherwise.
abbrev pub IsOverWords : Options → ProgramTree → List Pos → Option Pos → Finding → Type 0
IsOverWords o p embedded beyond f = HasNoError (IsFound o p embedded beyond) × IsOfWords p f

-- All that is found.
abbrev pub IsFoundAtAll : Options → ProgramTree → List Pos → Option Pos → Finding → Type 0
IsFoundAtAll o p embedded beyond f = IsFound o p embedded beyond f ⊎ IsOverWords o p embedded beyond f

-- A message is said of a program: under the options in force it is let through, and it is the first for its place and number.
abbrev pub IsSaidUnder : Options → ProgramTree → List Pos → Option Pos → Said → Type 0
IsSaidUnder o p embedded beyond = IsGiven (λ f. IsFoundAtAll o p embedded beyond f × (lets_through o f ≡ true))

-- A message is said of a program, with the pieces of embedded C and the place of the first token past the limit, where
-- these options are given with it.
abbrev pub IsSaid : Options → ProgramTree → List Pos → Option Pos → Said → Type 0
IsSaid given p = IsSaidUnder (options_in_force p given) p
