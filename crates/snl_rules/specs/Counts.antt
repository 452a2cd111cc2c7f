-- Counts in 64 bits, and tables of queues.
use Rattle.std.specs.Prelude.{◌≡◌, ℕ, ◌-◌, ◌^◌, suc, min, nat_lt, nat_eq, List, [], ◌∷◌, ◌++◌, if◌then◌else◌}
use Rattle.std.specs.HashMap.{HashMap, get}
use Rattle.std.specs.List.{sum_by}
use Rattle.std.specs.Option.{unwrap_or}
use Rattle.snl_text.specs.declared.tokens.Token.{Token}
use Rattle.snl_syntax.specs.Programs.{StateSetTree, ProgramTree}
use Rattle.snl_names.specs.declared.sites.Site.{Site}
use Rattle.snl_names.specs.Scopes.{Scope, scope_of}
use Rattle.snl_names.specs.Variables.{by_definitions, by_parts}
use Rattle.snl_rules.specs.declared.words.Shared.{Shared}
use Rattle.snl_rules.specs.Words.{variable_words, set_words, first_queue}

-- A count that stops at the greatest number of 64 bits.
abbrev pub capped : ℕ → ℕ
capped n = min n (2 ^ 64 - 1)

-- The words that a state set holds beside those of the program's definitions, within their scope.
abbrev pub own_words_in : List Scope → ProgramTree → ℕ → ℕ
own_words_in s p k = sum_by variable_words (by_parts s k p.entry p.state_sets p.exit)

-- What all state sets of a program hold: the scope of its definitions, and the words of their variables.
pub record IsSharedIn (p : ProgramTree) (shared : Shared) : Type 0 where
  pub scope : shared.scope ≡ scope_of [] p.definitions
  pub words : shared.words ≡ capped (sum_by variable_words (by_definitions [] p.definitions))

-- The `ss` of a state set of this number, if its store is overfull.
abbrev pub overfull_at : ProgramTree → ℕ → StateSetTree → List Token
overfull_at p k g = if nat_lt 65536 (set_words p k) then g.word ∷ [] else []

-- The `ss` of each overfull one of these state sets, counted from a number on.
abbrev pub overfull_from : ProgramTree → ℕ → List StateSetTree → List Token
overfull_from p k [] = []
overfull_from p k (g ∷ rest) = overfull_at p k g ++ overfull_from p (suc k) rest

-- The table has the queue of each variable that has one.
abbrev pub IsQueueTable : {S : Type 0} → HashMap ℕ ℕ S → List Site → Type 0
IsQueueTable table all = (variable : ℕ) → get nat_eq table variable ≡ first_queue all variable

-- The size of a queue, by the table.
abbrev pub size_in : {S : Type 0} → HashMap ℕ ℕ S → ℕ → ℕ
size_in table variable = unwrap_or (get nat_eq table variable) 0
