use Rattle.std.proofs.Common.{◌≡◌, map, drop, string_bytes, bytes_eq}
use Rattle.std.specs.List.{list_any}
use Rattle.snl_lints.proofs.lines.is_among.Given as goal

abbrev pub invariant-loop-next : goal.invariant-loop-next
invariant-loop-next l =
    list_any (λ n. bytes_eq n l.name) (map string_bytes (drop l.next-index l.names)) ≡ list_any (λ n. bytes_eq n l.name) (map string_bytes l.names)
