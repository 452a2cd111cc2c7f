-- Laws of what a sink tells that is given a trace.
use Rattle.std.proofs.Common.{◌≡◌, ◌++◌, ℕ, List, [], Option, None, Some, Result, Ok, Err, OnErr, refl, sym, ap, ◌∙◌, subst, append_assoc, append-nil}
use Rattle.snl_output.specs.Devices.{told_more, IsCutShort}
use Rattle.snl_import.specs.Trace.{Heard, AreEvents}
use Rattle.snl_import.specs.Comments.{IsTraceText, AreComments}
use Rattle.snl_import.specs.Written.{IsTrace, IsTraceFront}
use Rattle.snl_import.proofs.CommentLaws.{trace-goes-on, comments-are, nothing-comments}

-- a sink to which nothing was given tells a trace of nothing
pub fresh-trace : (told : Option (List ℕ)) → ((text : List ℕ) → told ≡ Some text → text ≡ []) → IsTrace told (0, 0)
fresh-trace None fresh = tt
fresh-trace (Some text) fresh = comments-are text (nothing-comments text (fresh text refl))

-- events behind a trace are a trace
pub goes-on : (told : Option (List ℕ)) (from to : Heard) (piece : List ℕ) → IsTrace told from → AreEvents from piece to → IsTrace (told_more told piece) to
goes-on None from to piece trace events = tt
goes-on (Some text) from to piece trace events = trace-goes-on from to text piece trace events

-- the front of events behind a trace is the front of one
front-of : (told : Option (List ℕ)) (from to : Heard) (piece taken rest : List ℕ) → IsTrace told from → AreEvents from piece to → piece ≡ taken ++ rest → IsTraceFront (told_more told taken)
front-of None from to piece taken rest trace events is = tt
front-of (Some text) from to piece taken rest trace events is = record {
  rest = rest;
  to = to;
  whole = subst (λ t. IsTraceText t to) (ap (λ t. text ++ t) is ∙ sym (append_assoc text taken rest)) (trace-goes-on from to text piece trace events);
}

-- where a sink broke off, it tells the front of a trace
pub broken : (old new : Option (List ℕ)) (from to : Heard) (piece : List ℕ) → IsTrace old from → AreEvents from piece to → IsCutShort piece old new → IsTraceFront new
broken old new from to piece trace events cut = subst IsTraceFront (sym cut.told) (front-of old from to piece cut.taken cut.rest trace events cut.is)

-- a trace is the front of one
pub whole-front : (told : Option (List ℕ)) (to : Heard) → IsTrace told to → IsTraceFront told
whole-front None to trace = tt
whole-front (Some text) to trace = record { rest = []; to = to; whole = subst (λ t. IsTraceText t to) (sym (append-nil text)) trace }

-- comments to a sink to which nothing was given are a trace in which nothing was heard
pub comments-first : (told : Option (List ℕ)) (comments : List ℕ) → ((text : List ℕ) → told ≡ Some text → text ≡ []) → AreComments comments → IsTrace (told_more told comments) (0, 0)
comments-first None comments fresh are = tt
comments-first (Some text) comments fresh are = comments-are (text ++ comments) (subst AreComments (ap (λ t. t ++ comments) (sym (fresh text refl))) are)

-- a front of them is the front of that
front-first : (told : Option (List ℕ)) (comments taken rest : List ℕ) → ((text : List ℕ) → told ≡ Some text → text ≡ []) → AreComments comments →
    comments ≡ taken ++ rest → IsTraceFront (told_more told taken)
front-first None comments taken rest fresh are is = tt
front-first (Some text) comments taken rest fresh are is = record {
  rest = rest;
  to = (0, 0);
  whole = comments-are ((text ++ taken) ++ rest)
      (subst AreComments (is ∙ ap (λ t. (t ++ taken) ++ rest) (sym (fresh text refl))) are);
}

-- where a sink broke off in them, it tells the front of that
pub comments-broken : (old new : Option (List ℕ)) (comments : List ℕ) → ((text : List ℕ) → old ≡ Some text → text ≡ []) → AreComments comments → IsCutShort comments old new → IsTraceFront new
comments-broken old new comments fresh are cut = subst IsTraceFront (sym cut.told) (front-first old comments cut.taken cut.rest fresh are cut.is)

-- what holds anyway holds where a call failed
pub on-err : {A E : Type 0} (r : Result A E) (P : Type 0) → P → OnErr r P
on-err (Ok done) P holds = tt
on-err (Err fault) P holds = holds

-- what a sink tells to which nothing was given is the front of a trace
pub fresh-front : (told : Option (List ℕ)) → ((text : List ℕ) → told ≡ Some text → text ≡ []) → IsTraceFront told
fresh-front told fresh = whole-front told (0, 0) (fresh-trace told fresh)
