-- What is found in a program, as lists.
use Rattle.std.specs.Prelude.{Bool, true, false, not, List, [], ◌∷◌, ◌++◌, map, Option, None, Some}
use Rattle.std.specs.List.{list_any}
use Rattle.snl_text.specs.declared.tokens.Pos.{Pos}
use Rattle.snl_text.specs.declared.tokens.Token.{Token}
use Rattle.snl_rules.specs.declared.rules.Broken.{Broken}
use Rattle.snl_messages.specs.declared.matters.Matter.TheVariants.{TooManyTokens, TooManyWords, NotSafe}
use Rattle.snl_messages.specs.Wordings.{is_warning}
use Rattle.snl_messages.specs.Findings.{Finding, finding, of_broken, of_unreached, of_embedded}

-- The first token past the limit.
abbrev pub of_beyond : Option Pos → List Finding
of_beyond None = []
of_beyond (Some pos) = finding TooManyTokens pos [] ∷ []

-- Safe mode is not asked for, at the word `program`.
abbrev pub of_mode : Bool → Token → List Finding
of_mode true word = []
of_mode false word = finding NotSafe word.pos [] ∷ []

-- All words pass their limit, at the word `program`.
abbrev pub of_words : Bool → Token → List Finding
of_words true word = finding TooManyWords word.pos [] ∷ []
of_words false word = []

-- Whether an error is among them.
abbrev pub has_error : List Finding → Bool
has_error = list_any (λ f. not (is_warning f.said.severity))

-- All that is found but for the limits of words.
abbrev pub found : List Broken → List Token → List Pos → Option Pos → Bool → Token → List Finding
found broken names embedded beyond safe word =
    map of_broken broken ++ (map of_unreached names ++ (map of_embedded embedded ++ (of_beyond beyond ++ of_mode safe word)))
