use Rattle.std.proofs.Common.{◌≡◌, ◌&&◌, drop}
use Rattle.std.specs.List.{list_all}
use Rattle.snl_trace.specs.Fields.{is_text}
use Rattle.snl_trace.proofs.fields.is_ascii_text.Given as goal

-- what is known of those so far, and the rest
abbrev pub invariant-loop-byte : goal.invariant-loop-byte
invariant-loop-byte l = (l.all && list_all is_text (drop l.byte-index l.line)) ≡ list_all is_text l.line
