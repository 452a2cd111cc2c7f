-- What the lines of a trace make two programs do, by their meaning.
use Rattle.std.specs.Prelude.{◌≡◌, ◌+◌, ℕ, List, [], ◌∷◌, Option, None, Some, length, option_map}
use Rattle.snl_meaning.specs.Ran.{Ran, Gives, Faults}
use Rattle.snl_meaning.specs.Keeping.{world_after}
use Rattle.snl_meaning.specs.World.{World}
use Rattle.snl_output.specs.Does.{text_of}
use Rattle.snl_same.specs.Firsts.{first_difference}
use Rattle.snl_same.specs.Kept.{kept}
use Rattle.snl_same.specs.declared.differences.Apart.{Apart}
use Rattle.snl_same.specs.declared.differences.Apart.TheVariants.{Ends, Lines}
use Rattle.snl_same.specs.declared.filters.Filter.{Filter}
use Rattle.snl_trace.specs.Run.{Rules, line_done}
use Rattle.snl_trace.specs.declared.runner.End.{End}
use Rattle.snl_trace.specs.declared.runner.End.TheVariants as end

-- ---- one line

-- How a run ends at a line, if it ends there.
abbrev pub end_in : Ran (Option End) → Option End
end_in (Gives e w text) = e
end_in (Faults fault line w text) = Some (end.Fault fault line)

-- What it did: how it ends there, the world that it leaves, and the text that it wrote.
pub record Did (ran : Ran (Option End)) (e : Option End) (w : World) (text : List ℕ) : Type 0 where
  pub end_is : end_in ran ≡ e
  pub world_is : world_after ran ≡ w
  pub text_is : text_of ran ≡ text

-- An end, wherever in the source its fault stands.
abbrev pub placeless : End → End
placeless (end.Fault fault line) = end.Fault fault 0
placeless e = e

-- Two runs end alike at a line, or both go on.
abbrev pub EndAlike : Option End → Option End → Type 0
EndAlike old new = option_map placeless old ≡ option_map placeless new

-- How two runs are apart at a line, by what each wrote there and how it ended: by the first two lines that differ; or they wrote
-- the same, as far as it is compared, and do not end alike. Else they are not.
abbrev pub AreApart : Filter → (old new : List ℕ) → (old_end new_end : Option End) → Option Apart → Type 0
AreApart f old new old_end new_end None = (kept f old ≡ kept f new) × EndAlike old_end new_end
AreApart f old new old_end new_end (Some Ends) = (kept f old ≡ kept f new) × (EndAlike old_end new_end → ⊥)
AreApart f old new old_end new_end (Some (Lines line other)) =
    first_difference (kept f old) (kept f new) ≡ Some (option_map (λ l. l.items) line, option_map (λ l. l.items) other)

-- The same of what the line did.
abbrev pub AreApartAt : Filter → (old new : Ran (Option End)) → Option Apart → Type 0
AreApartAt f old new apart = AreApart f (text_of old) (text_of new) (end_in old) (end_in new) apart

-- ---- many lines

-- Two programs, by what each makes of lines and events, and where each begins; and what is compared of what they write.
pub record Pair : Type 0 where
  pub filter : Filter
  pub old : Rules
  pub new : Rules
  pub old_first : World
  pub new_first : World

-- The world that lines leave, of which the first has a number.
unfoldable pub world_behind : Rules → ℕ → List (List ℕ) → World → World
world_behind rules number [] w = w
world_behind rules number (line ∷ lines) w = world_behind rules (number + 1) lines (world_after (line_done rules number line w))

-- Both go on behind a line, and what they wrote there is the same, as far as it is compared.
pub record GoOnAlike (f : Filter) (old new : Ran (Option End)) : Type 0 where
  pub old_goes_on : end_in old ≡ None
  pub new_goes_on : end_in new ≡ None
  pub same : kept f (text_of old) ≡ kept f (text_of new)

-- So they do at each of some lines, from two worlds on.
unfoldable pub AreAlike : Filter → Rules → Rules → ℕ → List (List ℕ) → World → World → Type 0
AreAlike f a b number [] w v = Unit {0}
AreAlike f a b number (line ∷ lines) w v =
    GoOnAlike f (line_done a number line w) (line_done b number line v)
    × AreAlike f a b (number + 1) lines (world_after (line_done a number line w)) (world_after (line_done b number line v))

-- So a pair does at each line of a trace.
abbrev pub PairIsAlike : Pair → List (List ℕ) → Type 0
PairIsAlike p lines = AreAlike p.filter p.old p.new 1 lines p.old_first p.new_first

-- What the old program of a pair does at a line that follows others,
abbrev pub old_at : Pair → List (List ℕ) → List ℕ → Ran (Option End)
old_at p before line = line_done p.old (1 + length before) line (world_behind p.old 1 before p.old_first)

-- and what the new one does.
abbrev pub new_at : Pair → List (List ℕ) → List ℕ → Ran (Option End)
new_at p before line = line_done p.new (1 + length before) line (world_behind p.new 1 before p.new_first)
