-- What the tables of a program know.
use Rattle.std.specs.Prelude.{◌≡◌, ℕ, Bool, false, None, is_some, nat_eq}
use Rattle.std.specs.HashMap.{get}
use Rattle.std.specs.HashSet.{contains}
use Rattle.snl_channels.specs.declared.macros.MacroTable.{MacroTable}
use Rattle.snl_channels.specs.MacroTables.{found_in, value_in}
use Rattle.snl_lints.specs.declared.facts.Fact.{Fact}
use Rattle.snl_lints.specs.declared.facts.Fact.TheVariants as fact
use Rattle.snl_lints.specs.declared.facts.VariableFacts.{VariableFacts}
use Rattle.snl_lints.specs.declared.tables.Tables.{Tables}
use Rattle.snl_lints.specs.Channels.{Given}
use Rattle.snl_lints.specs.Doers.{doers_in}
use Rattle.snl_lints.specs.Lints.{Known}

-- What is known of a variable.
abbrev pub known_in : VariableFacts → Fact → ℕ → Bool
known_in k fact.Assigned v = contains nat_eq k.assigned v
known_in k fact.Monitored v = contains nat_eq k.monitored v
known_in k fact.Flagged v = contains nat_eq k.flagged v
known_in k fact.Read v = contains nat_eq k.read v
known_in k fact.Set v = contains nat_eq k.set v
known_in k fact.Put v = contains nat_eq k.put v
known_in k fact.PutAsync v = contains nat_eq k.put_async v
known_in k fact.Got v = contains nat_eq k.got v

-- Nothing is known.
pub record IsBlank (k : VariableFacts) : Type 0 where
  pub assigned : (v : ℕ) → contains nat_eq k.assigned v ≡ false
  pub monitored : (v : ℕ) → contains nat_eq k.monitored v ≡ false
  pub flagged : (v : ℕ) → contains nat_eq k.flagged v ≡ false
  pub read : (v : ℕ) → contains nat_eq k.read v ≡ false
  pub set : (v : ℕ) → contains nat_eq k.set v ≡ false
  pub put : (v : ℕ) → contains nat_eq k.put v ≡ false
  pub put_async : (v : ℕ) → contains nat_eq k.put_async v ≡ false
  pub got : (v : ℕ) → contains nat_eq k.got v ≡ false

-- What all tables know.
abbrev pub known_by_tables : Tables → Known
known_by_tables t = record { done = known_in t.facts; setters = doers_in t.setters; readers = doers_in t.readers; held = get nat_eq t.held }

-- All tables are empty.
pub record AreBlank (t : Tables) : Type 0 where
  pub facts : IsBlank t.facts
  pub setters : (v : ℕ) → get nat_eq t.setters v ≡ None
  pub readers : (v : ℕ) → get nat_eq t.readers v ≡ None
  pub held : (v : ℕ) → get nat_eq t.held v ≡ None

-- What a table of macros gives.
abbrev pub given_in : MacroTable → Given
given_in table = record { defined = λ name. is_some (found_in table name); value = value_in table }
