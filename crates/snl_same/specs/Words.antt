-- What a line of the output says, word by word: `MS put CHANNEL V ..` is a put.
use Rattle.std.specs.Prelude.{not, ℕ, Bool, List, bytes_eq, codes, string_bytes, if◌then◌else◌}
use Rattle.std.specs.List.{list_any}
use Rattle.snl_heard.specs.Words.{behind, word}
use Rattle.snl_same.specs.declared.filters.Filter.{Filter}

-- Whether a line is a put,
abbrev pub is_put : List ℕ → Bool
is_put line = bytes_eq (word (behind line)) (codes "put")

-- and the channel of one.
abbrev pub channel_of : List ℕ → List ℕ
channel_of line = word (behind (behind line))

-- Whether a channel is left out.
abbrev pub is_left_out : Filter → List ℕ → Bool
is_left_out f channel = list_any (λ name. bytes_eq (string_bytes name) channel) f.but.now

-- Whether a line counts: no put to a channel that is left out, and with puts alone no other line.
abbrev pub counts : Filter → List ℕ → Bool
counts f line = if is_put line then not (is_left_out f (channel_of line)) else not f.puts_only
