-- Which programs wait for their channels.
use Rattle.std.specs.Prelude.{Bool, true, unwrap_or}
use Rattle.snl_names.specs.declared.options.Options.{Options}

-- A program waits for its channels before it starts, but under `-c`.
abbrev pub waits : Options → Bool
waits options = unwrap_or options.c true
