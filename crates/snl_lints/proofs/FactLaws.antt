-- What is known of each fact is what is known of all; what touches tell that variables can hold.
use Rattle.std.proofs.Common.{◌≡◌, ℕ, ◌+◌, ◌<◌, ◌≤◌, Bool, List, length, drop, get_or, Option, None, Some, refl, sym, ap, ◌∙◌, drop_of_length-le}
use Rattle.std.specs.Option.{option_or}
use Rattle.std.proofs.lemmas.List.{drop_more}
use Rattle.snl_lints.specs.declared.touches.ValueDomain.{ValueDomain}
use Rattle.snl_lints.specs.declared.touches.Touch.{Touch}
use Rattle.snl_lints.specs.Facts.{held_by, held_in}
use Rattle.snl_lints.specs.declared.facts.Fact.{Fact}
use Rattle.snl_lints.specs.declared.facts.Fact.TheVariants as fact

module _ (found known : Fact → ℕ → Bool)
    (assigned : (v : ℕ) → found fact.Assigned v ≡ known fact.Assigned v) (monitored : (v : ℕ) → found fact.Monitored v ≡ known fact.Monitored v)
    (flagged : (v : ℕ) → found fact.Flagged v ≡ known fact.Flagged v) (read : (v : ℕ) → found fact.Read v ≡ known fact.Read v)
    (set : (v : ℕ) → found fact.Set v ≡ known fact.Set v) (put : (v : ℕ) → found fact.Put v ≡ known fact.Put v)
    (put_async : (v : ℕ) → found fact.PutAsync v ≡ known fact.PutAsync v) (got : (v : ℕ) → found fact.Got v ≡ known fact.Got v) where
  -- each fact by itself
  by_fact : (f : Fact) (v : ℕ) → found f v ≡ known f v
  by_fact fact.Assigned = assigned
  by_fact fact.Monitored = monitored
  by_fact fact.Flagged = flagged
  by_fact fact.Read = read
  by_fact fact.Set = set
  by_fact fact.Put = put
  by_fact fact.PutAsync = put_async
  by_fact fact.Got = got

  -- all facts
  pub all_known : found ≡ known
  all_known = λ j f v. by_fact f v j

-- a choice of three
option_or_assoc : {A : Type 0} (a b c : Option A) → option_or (option_or a b) c ≡ option_or a (option_or b c)
option_or_assoc None b c = refl
option_or_assoc (Some x) b c = refl

-- a choice with nothing behind it
or_none : {A : Type 0} (a : Option A) → option_or a None ≡ a
or_none None = refl
or_none (Some x) = refl

-- an empty table
pub held_first : (all : List Touch) (v : ℕ) (table : Option ValueDomain) → table ≡ None → option_or (held_in all v) table ≡ held_in all v
held_first all v table e = ap (option_or (held_in all v)) e ∙ or_none (held_in all v)

-- one touch more is in the table
pub held_step : (all : List Touch) (i v : ℕ) (t : Touch) (old new start : Option ValueDomain) → i < length all
    → new ≡ option_or (held_by (get_or all i t) v) old → option_or (held_in (drop i all) v) old ≡ start
    → option_or (held_in (drop (i + 1) all) v) new ≡ start
held_step all i v t old new start h en inv =
    ap (option_or (held_in (drop (i + 1) all) v)) en
    ∙ sym (option_or_assoc (held_in (drop (i + 1) all) v) (held_by (get_or all i t) v) old)
    ∙ ap (λ l. option_or (held_in l v) old) (sym (drop_more all i t h)) ∙ inv

-- all touches are
pub held_end : (all : List Touch) (i v : ℕ) (table start : Option ValueDomain) → length all ≤ i → option_or (held_in (drop i all) v) table ≡ start → table ≡ start
held_end all i v table start h inv = ap (λ l. option_or (held_in l v) table) (sym (drop_of_length-le all h)) ∙ inv
