-- Laws of the channels that are left out.
use Rattle.std.proofs.Common.{◌≡◌, ◌||◌, ℕ, List, [], ◌∷◌, bytes_eq, map, string_bytes, refl, ap}
use Rattle.std.specs.List.{list_any}
use Rattle.snl_same.specs.Words.{is_left_out}
use Rattle.snl_same.specs.declared.filters.Filter.{Filter}

-- a test of the names in a list, as one of their bytes
any-bytes : {A : Type 0} (bytes : A → List ℕ) (channel : List ℕ) (names : List A) →
    list_any (λ name. bytes_eq (bytes name) channel) names ≡ list_any (λ name. bytes_eq name channel) (map bytes names)
any-bytes bytes channel [] = refl
any-bytes bytes channel (name ∷ names) = ap (λ t. bytes_eq (bytes name) channel || t) (any-bytes bytes channel names)

-- a channel is left out by the bytes of the names
pub left-out : (f : Filter) (channel : List ℕ) → is_left_out f channel ≡ list_any (λ name. bytes_eq name channel) (map string_bytes f.but.now)
left-out f channel = any-bytes string_bytes channel f.but.now
