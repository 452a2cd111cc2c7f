-- The forms in which the code reads definitions.
use Rattle.std.proofs.Common.{◌≡◌, ℕ, true, false, List, Ok, Err, ◌⊎◌, inr, refl, ◌∙◌}
use Rattle.snl_text.specs.declared.tokens.Token.{Token}
use Rattle.snl_text.specs.declared.kinds.Kind.TheVariants.{Assign, Monitor, OptionWord, Sync, SyncQueue}
use Rattle.snl_syntax.specs.Kinds.{is}
use Rattle.snl_tree.specs.reading.Readers.{Read, Reader, starts, either, ◌>>=◌}
use Rattle.snl_syntax.specs.Declarations.{starts_declaration}
use Rattle.snl_tree.specs.reading.Declarations.{declaration_at}
use Rattle.snl_syntax.specs.Definitions.{PlaceTree, SyncTree, QueueTree, DefinitionTree, declaration, assign, monitor, sync, sync_queue, event_flags, setting}
use Rattle.snl_tree.specs.reading.Definitions.{assign_at, monitor_at, sync_at, queue_at, event_flags_at, setting_at, other, other_at, definition, definition_at, part, part_at}
use Rattle.snl_tree.proofs.code.Forms.{either_form, elim_same}

-- the readers that are left after each test

-- reads a queue or event flags
abbrev from_queue : ℕ → Reader (QueueTree ⊎ List Token)
from_queue n = either (is SyncQueue) (queue_at n) event_flags_at

-- reads a synced place, a queue or event flags
abbrev from_sync : ℕ → Reader (SyncTree ⊎ (QueueTree ⊎ List Token))
from_sync n = either (is Sync) (sync_at n) (from_queue n)

-- reads all definitions but declarations and assignments of channels
abbrev from_monitor : ℕ → Reader (PlaceTree ⊎ (SyncTree ⊎ (QueueTree ⊎ List Token)))
from_monitor n = either (is Monitor) (monitor_at n) (from_sync n)

-- a definition that is no declaration is read by the word that it begins with
pub other_cases : (n : ℕ) (ts : List Token) → other_at n ts ≡ elim (starts (is Assign) ts) [
  | true ↦ (assign_at n ts >>= λ x. Ok (assign x.0, x.1))
  | false ↦ elim (starts (is Monitor) ts) [
    | true ↦ (monitor_at n ts >>= λ x. Ok (monitor x.0, x.1))
    | false ↦ elim (starts (is Sync) ts) [
      | true ↦ (sync_at n ts >>= λ x. Ok (sync x.0, x.1))
      | false ↦ elim (starts (is SyncQueue) ts) [ true ↦ (queue_at n ts >>= λ x. Ok (sync_queue x.0, x.1)) | false ↦ (event_flags_at ts >>= λ x. Ok (event_flags x.0, x.1)) ]
    ]
  ]
]
unfolding other_at
other_cases n ts =
    either_form (is Assign) (assign_at n) (from_monitor n) ts (λ x. Ok (other x.0, x.1)) ∙ elim_same (starts (is Assign) ts) _ _ _ _ refl
    (either_form (is Monitor) (monitor_at n) (from_sync n) ts (λ x. Ok (other (inr x.0), x.1)) ∙ elim_same (starts (is Monitor) ts) _ _ _ _ refl
    (either_form (is Sync) (sync_at n) (from_queue n) ts (λ x. Ok (other (inr (inr x.0)), x.1)) ∙ elim_same (starts (is Sync) ts) _ _ _ _ refl
    (either_form (is SyncQueue) (queue_at n) event_flags_at ts (λ x. Ok (other (inr (inr (inr x.0))), x.1)))))

-- what was read is given as it is
pub as_read : (r : Read DefinitionTree) → (r >>= λ x. Ok (x.0, x.1)) ≡ r
as_read (Ok x) = refl
as_read (Err f) = refl

-- a declaration is read where a type is next, else a definition that is none
pub definition_cases : (n : ℕ) (ts : List Token) → definition_at n ts ≡ elim (starts starts_declaration ts) [ true ↦ (declaration_at n ts >>= λ x. Ok (declaration x.0, x.1)) | false ↦ other_at n ts ]
unfolding definition_at
definition_cases n ts =
    either_form starts_declaration (declaration_at n) (other_at n) ts (λ x. Ok (definition x.0, x.1)) ∙ elim_same (starts starts_declaration ts) _ _ _ _ refl (as_read (other_at n ts))

-- an option is read where the word `option` is next, else a definition
pub part_cases : (n : ℕ) (ts : List Token) → part_at n ts ≡ elim (starts (is OptionWord) ts) [ true ↦ (setting_at ts >>= λ x. Ok (setting x.0, x.1)) | false ↦ definition_at n ts ]
unfolding part_at
part_cases n ts = either_form (is OptionWord) setting_at (definition_at n) ts (λ x. Ok (part x.0, x.1)) ∙ elim_same (starts (is OptionWord) ts) _ _ _ _ refl (as_read (definition_at n ts))
