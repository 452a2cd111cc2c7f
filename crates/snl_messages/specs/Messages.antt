-- Messages, and the order in which they stand.
use Rattle.std.specs.Prelude.{◌≡◌, ℕ, List, [], ◌∷◌}
use Rattle.std.specs.List.{AllByRecursion}
use Rattle.std.specs.Ordering.{nat_cmp, ordering_then}
use Rattle.std.specs.declared.cmp.Ordering.{Ordering}
use Rattle.std.specs.declared.cmp.Ordering.TheVariants.{Less, Equal, Greater}
use Rattle.snl_text.specs.declared.tokens.Pos.{Pos}
use Rattle.snl_messages.specs.declared.messages.Message.{Message}
use Rattle.snl_messages.specs.declared.messages.Severity.{Severity}
use Rattle.snl_messages.specs.declared.messages.Severity.TheVariants.{Error, Warning}

-- A message without where its text lies in memory.
pub record Said : Type 0 where
  pub pos : Pos
  pub severity : Severity
  pub number : ℕ
  pub text : List ℕ

-- What a message says.
abbrev pub said : Message → Said
said m = record { pos = m.pos; severity = m.severity; number = m.number; text = m.text.items }

-- Errors stand before warnings.
abbrev pub severity_cmp : Severity → Severity → Ordering
severity_cmp Error Error = Equal
severity_cmp Error Warning = Less
severity_cmp Warning Error = Greater
severity_cmp Warning Warning = Equal

-- By place; at one place errors before warnings, and then by number.
abbrev pub message_cmp : Said → Said → Ordering
message_cmp m n = ordering_then (nat_cmp m.pos.offset n.pos.offset) (ordering_then (severity_cmp m.severity n.severity) (nat_cmp m.number n.number))

-- m stands before n.
abbrev pub IsBefore : Said → Said → Type 0
IsBefore m n = message_cmp m n ≡ Less

-- The messages stand in order. So for each place and number there is one at most.
abbrev pub IsInOrder : List Said → Type 0
IsInOrder [] = Unit {0}
IsInOrder (m ∷ ms) = AllByRecursion (IsBefore m) ms × IsInOrder ms
