-- Faults of a source, and what messages say of them.
use Rattle.std.specs.Prelude.{ℕ, List, Option, Some, None, codes}
use Rattle.snl_text.specs.declared.tokens.Pos.{Pos}
use Rattle.snl_text.specs.declared.faults.LexFault.{LexFault}
use Rattle.snl_text.specs.declared.faults.LexFault.TheVariants as fault
use Rattle.snl_text.specs.declared.faults.Flaw.{Flaw}
use Rattle.snl_text.specs.declared.faults.Flaw.TheVariants as flaw

-- the words of a message about the fault
abbrev pub fault_text : LexFault → Option (List ℕ)
fault_text (fault.BadByte pos) = Some (codes "bad byte")
fault_text (fault.OpenComment pos) = Some (codes "unclosed comment")
fault_text (fault.OpenString pos) = Some (codes "unclosed string")
fault_text (fault.BadNumber pos) = Some (codes "bad number")
fault_text (fault.SourceTooLong pos) = Some (codes "source longer than 1048576 bytes")
fault_text (fault.OpenEmbeddedC pos) = Some (codes "unclosed embedded C")
fault_text fault.Memory = None

-- the fault at a place
abbrev pub fault_of : Flaw → Pos → LexFault
fault_of flaw.BadByte pos = fault.BadByte pos
fault_of flaw.OpenComment pos = fault.OpenComment pos
fault_of flaw.OpenString pos = fault.OpenString pos
fault_of flaw.BadNumber pos = fault.BadNumber pos
fault_of flaw.OpenEmbeddedC pos = fault.OpenEmbeddedC pos

-- the place of a fault
abbrev pub fault_pos : LexFault → Option Pos
fault_pos (fault.BadByte pos) = Some pos
fault_pos (fault.OpenComment pos) = Some pos
fault_pos (fault.OpenString pos) = Some pos
fault_pos (fault.BadNumber pos) = Some pos
fault_pos (fault.SourceTooLong pos) = Some pos
fault_pos (fault.OpenEmbeddedC pos) = Some pos
fault_pos fault.Memory = None
