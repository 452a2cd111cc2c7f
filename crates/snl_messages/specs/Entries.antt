-- What an entry of the list of messages says.
use Rattle.std.specs.Prelude.{Bool, ◌&&◌, ◌==◌, if◌then◌else◌}
use Rattle.std.proofs.Math.Bool.{beq}
use Rattle.snl_messages.specs.declared.entries.Entry.{Entry}
use Rattle.snl_messages.specs.declared.messages.Message.{Message}
use Rattle.snl_messages.specs.declared.messages.Severity.{Severity}
use Rattle.snl_messages.specs.declared.messages.Severity.TheVariants.{Error, Warning}
use Rattle.snl_messages.specs.Messages.{Said, said}
use Rattle.snl_messages.specs.Findings.{Finding}

-- The severity of a warning or of an error.
abbrev pub severity_by : Bool → Severity
severity_by is_warning = if is_warning then Warning else Error

-- The message that an entry becomes.
abbrev pub message_in : Entry → Message
message_in e =
    record { pos = record { offset = e.key.offset; file = e.file; line = e.line }; severity = severity_by e.key.is_warning; number = e.key.number; text = e.text }

-- What is found, by an entry.
abbrev pub finding_in : Entry → Finding
finding_in e = record { rank = e.rank; said = said (message_in e) }

-- What is said, by an entry.
abbrev pub said_in : Entry → Said
said_in e = said (message_in e)

-- Entries of one place, letter and number.
abbrev pub is_alike : Entry → Entry → Bool
is_alike x y = x.key.offset == y.key.offset && (beq x.key.is_warning y.key.is_warning && x.key.number == y.key.number)
