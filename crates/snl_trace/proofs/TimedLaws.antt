-- Laws of the time of a line, read where the line begins.
use Rattle.std.proofs.Common.{◌≡◌, ℕ, ◌<◌, ◌≤◌, false, List, [], ◌∷◌, None, Some, Ok, Err, length, drop, refl, sym, ap, ◌∙◌, arith}
use Rattle.std.proofs.lemmas.Bool.{le-ltb, lt-ltb}
use Rattle.snl_trace.specs.declared.trace_faults.TraceFault.TheVariants.{BadTime, BackInTime}
use Rattle.snl_trace.specs.Fields.{fields, begins_blank}
use Rattle.snl_trace.specs.Numbers.{spelled_number, time_of}
use Rattle.snl_trace.specs.Grammar.{◌>>=◌, in_order, timed}
use Rattle.snl_trace.specs.Reading.{front}
use Rattle.snl_trace.proofs.FieldLaws.{fields-front, fields_empty}

-- a text without a time
pub timed-none : (last : ℕ) (text : List ℕ) → begins_blank text ≡ false → time_of (front text) ≡ None → timed last (fields text) ≡ Err BadTime
unfolding timed
timed-none last [] trimmed none = ap (timed last) (fields_empty [] refl)
timed-none last (b ∷ bs) trimmed none = ap (timed last) (fields-front (b ∷ bs) trimmed (omega arith)) ∙ rw none refl

-- no bytes have no time
no-time : time_of (front []) ≡ None
unfolding front spelled_number
no-time = refl

-- a text with one
pub timed-some : (last ms : ℕ) (text : List ℕ) → begins_blank text ≡ false → time_of (front text) ≡ Some ms →
    timed last (fields text) ≡ (in_order last (Some ms) >>= λ t. Ok (t, fields (drop (length (front text)) text)))
unfolding timed
timed-some last ms [] trimmed some = let wrong : None ≡ Some ms = sym no-time ∙ some in absurd (cc)
timed-some last ms (b ∷ bs) trimmed some = ap (timed last) (fields-front (b ∷ bs) trimmed (omega arith)) ∙ rw some refl

-- one with a time before the last event's
pub timed-back : (last ms : ℕ) (text : List ℕ) → begins_blank text ≡ false → time_of (front text) ≡ Some ms → ms < last → timed last (fields text) ≡ Err BackInTime
timed-back last ms text trimmed some before = timed-some last ms text trimmed some ∙ rw (lt-ltb ms last before) refl

-- and one with a later time
pub timed-on : (last ms : ℕ) (text : List ℕ) → begins_blank text ≡ false → time_of (front text) ≡ Some ms → last ≤ ms →
    timed last (fields text) ≡ Ok (ms, fields (drop (length (front text)) text))
timed-on last ms text trimmed some later = timed-some last ms text trimmed some ∙ rw (le-ltb ms last later) refl
