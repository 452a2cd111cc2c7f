use Rattle.std.proofs.Common.{◌≡◌, drop}
use Rattle.snl_json.specs.Rows.{made, with_tokens}
use Rattle.snl_json.proofs.definitions.put_words.Given as goal

abbrev pub invariant-loop-number : goal.invariant-loop-number
invariant-loop-number l = made l.rows.items ≡ with_tokens (drop l.number l.words) (made l.initial.rows.items)
