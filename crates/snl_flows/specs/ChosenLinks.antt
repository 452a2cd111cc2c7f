-- Links whose values are chosen where they are read: their words, when these can be free or chosen, and when two worlds are alike by such a choice.
use Rattle.std.specs.Prelude.{◌≡◌, ℕ, zero, suc, ℤ, true, false, List, [], ◌∷◌, ◌++◌, Option, None, Some, map, slice_get, slice_index_or}
use Rattle.snl_channels.specs.Links.{Link}
use Rattle.snl_flat.specs.declared.code.Code.{Code}
use Rattle.snl_meaning.specs.declared.live.Live.TheVariants.{Waiting}
use Rattle.snl_meaning.specs.declared.ties.Tied.{Tied}
use Rattle.snl_meaning.specs.Links.{buffer_of, elements_at}
use Rattle.snl_meaning.specs.World.{World, copy_of}
use Rattle.snl_schedule.specs.Refresh.{is_marked}
use Rattle.snl_syntax.specs.Programs.{ProgramTree}
use Rattle.snl_flows.specs.Chosen.{AreChosen, AreFree, IsSameByChoice, Share, Strays, with_more}
use Rattle.snl_flows.specs.Flows.{ground_of}
use Rattle.snl_flows.specs.Outside.{IsSameByState, Places, has, places_for, places_of}
use Rattle.snl_flows.specs.Settled.{CanBeFree, IsFree, IsSettled, Layout, home_at, layout_for}

-- ---- the words of links

-- So many numbers from one on.
abbrev pub span : (from many : ℕ) → List ℕ
span from zero = []
span from (suc many) = from ∷ span (suc from) many

-- The words of a link in a copy, by where they begin, if it has them,
abbrev pub words_from : Option Tied → Option ℕ → List ℕ
words_from (Some t) (Some home) = span home t.count
words_from _ _ = []

-- and those of its buffer.
abbrev pub words_in_buffer : Option Tied → List ℕ
words_in_buffer (Some t) = span t.from t.count
words_in_buffer None = []

-- The words of some links in a copy, by where each link stands there,
abbrev pub words_of_links : List Tied → (homes : List (Option ℕ)) → (links : List ℕ) → List ℕ
words_of_links ties homes [] = []
words_of_links ties homes (link ∷ links) = words_from (slice_get ties link) (slice_index_or homes link None) ++ words_of_links ties homes links

-- and those of their buffers.
abbrev pub buffers_of_links : List Tied → (links : List ℕ) → List ℕ
buffers_of_links ties [] = []
buffers_of_links ties (link ∷ links) = words_in_buffer (slice_get ties link) ++ buffers_of_links ties links

-- All of them.
abbrev pub share_of : Layout → (links : List ℕ) → Share
share_of l links = record { words = map (λ (homes : List (Option ℕ)). words_of_links l.ties homes links) l.homes; buffers = buffers_of_links l.ties links }

-- Links are among others.
abbrev pub AreAmongLinks : (links others : List ℕ) → Type 0
AreAmongLinks links others = (link : ℕ) → has links link ≡ true → has others link ≡ true

-- ---- two worlds

-- Some links have the same in two worlds: in their buffers, and in each copy.
pub record HaveSame (links : List ℕ) (l : Layout) (w u : World) : Type 0 where
  pub buffers : (link : ℕ) (t : Tied) → IsFree links l link t → buffer_of t w ≡ buffer_of t u
  pub copies : (set link home : ℕ) (t : Tied) → IsFree links l link t → home_at l set link ≡ Some home → elements_at set home t w ≡ elements_at set home t u

-- No copy that has the variable of one of some links is marked for it.
abbrev pub AreUnmarked : (links : List ℕ) → Layout → World → Type 0
AreUnmarked links l w = (set link home : ℕ) (t : Tied) → IsFree links l link t → home_at l set link ≡ Some home → is_marked set link w ≡ false

-- ---- laws

-- Links that can be free are so by their words, where none of these is hidden in each state; and any of them may be chosen.
pub record LinksCanBeChosen : Type 0 where
  pub can_be_free : (p : ProgramTree) (ls : List Link) (c : Code) (hidden : List Places) (stale lines : List ℕ) (names : List (List ℕ)) (free : List ℕ) →
      CanBeFree free (layout_for p ls) →
      ((set k : ℕ) → has (places_of (share_of (layout_for p ls) free).words set) k ≡ true → has (places_for hidden set).always k ≡ false) →
      AreFree (ground_of p ls c [] stale lines names) hidden (share_of (layout_for p ls) free)
  pub can_be_chosen : (p : ProgramTree) (ls : List Link) (c : Code) (stale lines : List ℕ) (names : List (List ℕ)) (free chosen : List ℕ) → CanBeFree free (layout_for p ls) →
      AreAmongLinks chosen free → AreChosen (ground_of p ls c [] stale lines names) (share_of (layout_for p ls) free) (share_of (layout_for p ls) chosen)

-- Links that are settled in two worlds have the same, where both have the same in their buffers, and no mark for them.
abbrev pub SettledHaveSame : Type 0
SettledHaveSame = (free chosen : List ℕ) (values : List (List (List ℤ))) (l : Layout) (w u : World) → AreAmongLinks chosen free →
    IsSettled free values l w → IsSettled free values l u →
    AreUnmarked chosen l w → AreUnmarked chosen l u → ((link : ℕ) (t : Tied) → IsFree chosen l link t → buffer_of t w ≡ buffer_of t u) → HaveSame chosen l w u

-- Two worlds of a program that does not wait, which are the same but for all free words, are alike by a choice if the chosen links have the same in
-- both, and no state set is in a state in which runs stray. And worlds that are alike by any choice are the same but for all free words.
pub record ChoicesAreOfValues : Type 0 where
  pub alike : (hidden : List Places) (stale free chosen : List ℕ) (l : Layout) (w u : World) → (w.phase ≡ Waiting → ⊥) →
      IsSameByState (with_more hidden (share_of l free).words) (stale ++ (share_of l free).buffers) w u → HaveSame chosen l w u →
      ((set : ℕ) → Strays hidden (share_of l free) (share_of l chosen) set (copy_of set w).state → ⊥) → IsSameByChoice hidden stale (share_of l free) (share_of l chosen) w u
  pub apart : (hidden : List Places) (stale : List ℕ) (free chosen : Share) (w u : World) → IsSameByChoice hidden stale free chosen w u →
      IsSameByState (with_more hidden free.words) (stale ++ free.buffers) w u
