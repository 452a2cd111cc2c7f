-- How things are read that may be missing, and rows of things.
use Rattle.std.specs.Prelude.{Bool, true, false, List, ◌∷◌, Option, Some, None, Ok}
use Rattle.snl_text.specs.declared.kinds.Kind.{Kind}
use Rattle.snl_syntax.specs.Kinds.{is}
use Rattle.snl_tree.specs.reading.Readers.{Reader, starts, sign, both, many, made, ◌>>=◌}

-- one thing where the first token passes a test, else nothing
abbrev pub maybe : {A : Type 0} → (Kind → Bool) → Reader A → Reader (Option A)
maybe test item ts = elim (starts test ts) [ true ↦ (item ts >>= λ x. Ok (Some x.0, x.1)) | false ↦ Ok (None, ts) ]

-- whether a sign is there
abbrev pub whether : Kind → Reader Bool
whether k ts = elim (starts (is k) ts) [ true ↦ (sign k ts >>= λ x. Ok (true, x.1)) | false ↦ Ok (false, ts) ]

-- one thing after a sign
abbrev pub behind : {A : Type 0} → Kind → Reader A → Reader A
behind k item = made (λ x. x.1) (both (sign k) (λ _. item))

-- one thing before a sign
abbrev pub before : {A : Type 0} → Reader A → Kind → Reader A
before item k = made (λ x. x.0) (both item (λ _. sign k))

-- one thing between two signs
abbrev pub between : {A : Type 0} → Kind → Reader A → Kind → Reader A
between k item l = behind k (before item l)

-- at least one, as many as begin with a token that passes a test
abbrev pub some_of : {A : Type 0} → (Kind → Bool) → Reader A → Reader (List A)
some_of test item = made (λ x. x.0 ∷ x.1) (both item (λ _. many test item))

-- at least one, with a sign between each two
abbrev pub parted : {A : Type 0} → Kind → Reader A → Reader (List A)
parted k item = made (λ x. x.0 ∷ x.1) (both item (λ _. many (is k) (behind k item)))
