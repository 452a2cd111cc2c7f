-- What is found in a program: messages, with the rank of limits; and what is found at a site that breaks a rule.
use Rattle.std.specs.Prelude.{ℕ, List, [], ◌∷◌, ◌++◌, Option, None, Some, codes}
use Rattle.snl_text.specs.declared.tokens.Pos.{Pos}
use Rattle.snl_text.specs.declared.tokens.Token.{Token}
use Rattle.snl_names.specs.declared.sites.Site.{Site}
use Rattle.snl_names.specs.declared.sites.Site.TheVariants.{Declaration, Typed, Declarator, Defined, QueueSize, Setting, Use, Decimal, Call, Format, Change, LoopExit, StateChange, Target, Clause, State, StateSet, Function, Return}
use Rattle.snl_rules.specs.declared.rules.Broken.{Broken}
use Rattle.snl_rules.specs.declared.rules.Rule.{Rule}
use Rattle.snl_rules.specs.declared.rules.Rule.TheVariants.{TooManySets, TooManyStates, TooManyChannels}
use Rattle.snl_messages.specs.declared.matters.Matter.{Matter}
use Rattle.snl_messages.specs.declared.matters.Matter.TheVariants.{AtSite, TooManyWordsOfSet, EmbeddedC, Unreached}
use Rattle.snl_messages.specs.Messages.{Said}
use Rattle.snl_messages.specs.Wordings.{wording, wording_text}

-- A message, with the rank of its limit.
pub record Finding : Type 0 where
  pub rank : ℕ
  pub said : Said

-- What is found of a matter at a place, with what its message quotes.
abbrev pub finding : Matter → Pos → List ℕ → Finding
finding matter pos quote =
    record {
      rank = (wording matter).rank;
      said = record { pos = pos; severity = (wording matter).severity; number = (wording matter).number; text = wording_text (wording matter) quote };
    }

-- ---- at a site

-- The token at which the messages of a site stand, but for some limits.
abbrev pub token_of : Site → Token
token_of (Declaration t flag later words) = t
token_of (Typed word second supported) = word
token_of (Declarator t size good) = t
token_of (Defined sort word t m sub wrong part) = t
token_of (QueueSize t good) = t
token_of (Setting sign t refused) = t
token_of (Use p t m sub) = t
token_of (Decimal t good) = t
token_of (Call t known fitting may valued function) = t
token_of (Function t taken) = t
token_of (Return t may) = t
token_of (Format t good) = t
token_of (Change t good) = t
token_of (LoopExit t in_loop) = t
token_of (StateChange t in_clause) = t
token_of (Target t state may) = t
token_of (Clause t blocked) = t
token_of (State word t later clauses) = t
token_of (StateSet word t later) = t

-- Where the word stands with which a definition, a state or a state set begins.
abbrev pub word_place : Site → Pos
word_place (Defined sort word t m sub wrong part) = word
word_place (State word t later clauses) = word.pos
word_place (StateSet word t later) = word.pos
word_place s = (token_of s).pos

-- Where a rule's message stands: the limits of state sets, states and channels at the first word, all others at the token.
abbrev pub marked_place : Rule → Site → Pos
marked_place TooManySets s = word_place s
marked_place TooManyStates s = word_place s
marked_place TooManyChannels s = word_place s
marked_place rule s = (token_of s).pos

-- The words of a type, with one space between them.
abbrev pub words_of : Token → Option Token → List ℕ
words_of word None = word.text.now
words_of word (Some second) = word.text.now ++ codes " " ++ second.text.now

-- A sign, and the letter that is refused.
abbrev pub letter_of : Token → Option ℕ → List ℕ
letter_of sign None = sign.text.now
letter_of sign (Some letter) = sign.text.now ++ letter ∷ []

-- What a message at a site quotes: the words of a type, an option's sign and letter, or the token.
abbrev pub quote_of : Site → List ℕ
quote_of (Typed word second supported) = words_of word second
quote_of (Setting sign name refused) = letter_of sign refused
quote_of s = (token_of s).text.now

-- What a rule says at a site that breaks it.
abbrev pub found_at : Rule → Site → Finding
found_at rule s = finding (AtSite rule) (marked_place rule s) (quote_of s)

-- Its message.
abbrev pub said_at : Rule → Site → Said
said_at rule s = (found_at rule s).said

-- ---- of the items of lists

-- A rule that a site breaks.
abbrev pub of_broken : Broken → Finding
of_broken b = found_at b.rule b.site

-- The name of a state that cannot be reached.
abbrev pub of_unreached : Token → Finding
of_unreached t = finding Unreached t.pos t.text.now

-- Where a piece of embedded C begins.
abbrev pub of_embedded : Pos → Finding
of_embedded pos = finding EmbeddedC pos []

-- The word `ss` of a state set that takes too many words.
abbrev pub of_overfull : Token → Finding
of_overfull t = finding TooManyWordsOfSet t.pos []
