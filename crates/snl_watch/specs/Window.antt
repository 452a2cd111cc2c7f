-- What a reader of lines holds.
use Rattle.std.specs.Prelude.{ℕ, List, slice_range}
use Rattle.snl_watch.specs.declared.held.InputBuffer.{InputBuffer}

-- The bytes that came and were not given on.
abbrev pub window : InputBuffer → List ℕ
window h = slice_range h.bytes.items h.from h.to
