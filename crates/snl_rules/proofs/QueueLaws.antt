-- The table of queues has the first one of each variable.
use Rattle.std.proofs.Common.{◌≡◌, ℕ, ◌+◌, ◌<◌, ◌≤◌, ◌==◌, Bool, true, false, cond, List, length, get_or, drop, Option, None, Some, is_some, nat_eq, if◌then◌else◌, refl, sym, ap, ◌∙◌, drop_of_length-le}
use Rattle.std.proofs.lemmas.Bool.{eqb-true}
use Rattle.std.proofs.lemmas.List.{get_or_default}
use Rattle.snl_names.specs.declared.sites.Site.{Site}
use Rattle.snl_names.specs.Scopes.{or_in}
use Rattle.snl_rules.specs.Words.{queue_at, queue_by, first_queue}
use Rattle.snl_rules.proofs.CountLaws.{row_from}

-- nothing more
pub or_none : (o : Option ℕ) → o ≡ or_in o None
or_none None = refl
or_none (Some n) = refl

-- what is there stays
some_or : (o other : Option ℕ) → is_some o ≡ true → o ≡ or_in o other
some_or None other e = cc
some_or (Some n) other e = refl

-- the first of three
or_assoc : (a b c : Option ℕ) → or_in (or_in a b) c ≡ or_in a (or_in b c)
or_assoc None b c = refl
or_assoc (Some n) b c = refl

-- what is there stays, whether the same is added or another
kept_by : (b : Bool) (o : Option ℕ) (n : ℕ) → (b ≡ true → is_some o ≡ true) → o ≡ or_in o (if b then Some n else None)
kept_by true o n h = some_or o (Some n) (h refl)
kept_by false o n h = or_none o

-- a queue of a variable that has one before
pub queue_kept : (v n : ℕ) (table : ℕ → Option ℕ) → is_some (table v) ≡ true → (q : ℕ) → table q ≡ or_in (table q) (queue_at (Some (v, n)) q)
queue_kept v n table h q = kept_by (v == q) (table q) n (λ e. ap (λ k. is_some (table k)) (sym (eqb-true v q e)) ∙ h)

-- where nothing is there, what is added is found
added_by : (b : Bool) (o : Option ℕ) (n : ℕ) → (b ≡ true → o ≡ None) → cond b (Some n) o ≡ or_in o (if b then Some n else None)
added_by true o n h = ap (λ x. or_in x (Some n)) (sym (h refl))
added_by false o n h = or_none o

-- what a test finds missing
pub missing : (o : Option ℕ) → is_some o ≡ false → o ≡ None
missing None e = refl
missing (Some n) e = cc

-- the first queue of a variable
pub queue_added : (v n : ℕ) (before after : ℕ → Option ℕ) → is_some (before v) ≡ false → ((q : ℕ) → after q ≡ cond (nat_eq v q) (Some n) (before q))
    → (q : ℕ) → after q ≡ or_in (before q) (queue_at (Some (v, n)) q)
queue_added v n before after h e q = e q ∙ added_by (v == q) (before q) n (λ x. ap before (sym (eqb-true v q x)) ∙ missing (before v) h)

-- one more site is in the table
queue_step : (all : List Site) (i : ℕ) (s : Site) (before after : ℕ → Option ℕ) → i < length all → s ≡ get_or all i s
    → ((q : ℕ) → or_in (before q) (first_queue (drop i all) q) ≡ first_queue all q)
    → ((q : ℕ) → after q ≡ or_in (before q) (queue_at (queue_by s) q))
    → (q : ℕ) → or_in (after q) (first_queue (drop (i + 1) all) q) ≡ first_queue all q
queue_step all i s before after h e inv step q =
    let rest = first_queue (drop (i + 1) all) q in
    ap (λ o. or_in o rest) (step q) ∙ or_assoc (before q) (queue_at (queue_by s) q) rest
    ∙ ap (λ l. or_in (before q) (first_queue l q)) (sym (row_from all i s h e)) ∙ inv q

-- the same with what the list has there, or else another site
pub queue_step_at : (all : List Site) (i : ℕ) (d : Site) (before after : ℕ → Option ℕ) → i < length all
    → ((q : ℕ) → or_in (before q) (first_queue (drop i all) q) ≡ first_queue all q)
    → ((q : ℕ) → after q ≡ or_in (before q) (queue_at (queue_by (get_or all i d)) q))
    → (q : ℕ) → or_in (after q) (first_queue (drop (i + 1) all) q) ≡ first_queue all q
queue_step_at all i d before after h inv step =
    queue_step all i (get_or all i d) before after h (get_or_default all i d (get_or all i d) h) inv step

-- all sites are in the table
pub queue_end : (all : List Site) (i : ℕ) (table : ℕ → Option ℕ) → length all ≤ i
    → ((q : ℕ) → or_in (table q) (first_queue (drop i all) q) ≡ first_queue all q)
    → (q : ℕ) → table q ≡ first_queue all q
queue_end all i table h inv q = or_none (table q) ∙ ap (λ l. or_in (table q) (first_queue l q)) (sym (drop_of_length-le all h)) ∙ inv q
