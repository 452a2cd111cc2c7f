-- Laws of layout: a world keeps the variables of a copy, those of functions, and the buffers of all links, as flat lists of words.
-- What was stored is read where it was stored, and everything else is as before.
use Rattle.std.specs.Prelude.{◌≡◌, ◌<◌, ◌≤◌, ◌+◌, ◌-◌, ◌^◌, ◌⊎◌, Bool, true, false, ℕ, ℤ, pos, List, [], ◌∷◌, ◌++◌, length, take, drop, replicate, None, Some, slice_get, slice_set, slice_index_or}
use Rattle.snl_syntax.specs.Programs.{ProgramTree}
use Rattle.snl_channels.specs.Links.{Link}
use Rattle.snl_load.specs.Meaning.{program_meaning}
use Rattle.snl_load.specs.Places.{placed_in, placed_sets, ties_in, homes_in}
use Rattle.snl_flat.specs.Heres.{shared_in}
use Rattle.snl_machine.specs.Ranges.{IsSized, IsTied, counts}
use Rattle.snl_machine.specs.Worlds.{IsWorldOf}
use Rattle.snl_meaning.specs.declared.instrs.Variable.{Variable}
use Rattle.snl_meaning.specs.declared.names.Placed.{Placed}
use Rattle.snl_meaning.specs.declared.ties.Tied.{Tied}
use Rattle.snl_meaning.specs.Links.{home_of, elements_at, with_elements, buffer_of, with_buffer, queue_of, is_queued}
use Rattle.snl_meaning.specs.Names.{placed_from, placed_shared, variable_in, words_of}
use Rattle.snl_meaning.specs.Queues.{put_in}
use Rattle.snl_meaning.specs.World.{World, copy_of, is_set, element_of, words_at, with_element, with_zeros}
use Rattle.snl_names.specs.Variables.{CopyVariable, variables_of, shared_variables}
use Rattle.snl_schedule.specs.Arrivals.{is_of, received}
use Rattle.snl_schedule.specs.Refresh.{is_marked, refreshed}

-- ---- one copy

-- A state set's copy is there, and has so many words from a word on.
abbrev pub HasWords : (set place n : ℕ) → World → Type 0
HasWords set place n w = (set < length w.copies) × (place + n ≤ length (copy_of set w).words)

-- Each other copy is as before.
abbrev pub CopiesStay : ℕ → World → World → Type 0
CopiesStay set w u = (other : ℕ) → (set ≡ other → ⊥) → copy_of other u ≡ copy_of other w

-- Numbers were written into a copy from a word on: they stand there; each other word of the copy, its state and the time of its
-- entry, each other copy and all the rest of the world are as before.
pub record IsWritten (set place : ℕ) (zs : List ℤ) (w u : World) : Type 0 where
  pub there : words_at (copy_of set u).words place (length zs) ≡ zs
  pub elsewhere : (q : ℕ) → (q < place) ⊎ (place + length zs ≤ q) → slice_index_or (copy_of set u).words q (pos 0) ≡ slice_index_or (copy_of set w).words q (pos 0)
  pub own : record (copy_of set u) { words = (copy_of set w).words } ≡ copy_of set w
  pub copies : CopiesStay set w u
  pub rest : record u { copies = w.copies } ≡ w

-- Numbers were written into the words of functions from a word on: they stand there; each other one of these words and all the
-- rest of the world are as before.
pub record IsWrittenShared (place : ℕ) (zs : List ℤ) (w u : World) : Type 0 where
  pub there : words_at u.shared place (length zs) ≡ zs
  pub elsewhere : (q : ℕ) → (q < place) ⊎ (place + length zs ≤ q) → slice_index_or u.shared q (pos 0) ≡ slice_index_or w.shared q (pos 0)
  pub rest : record u { shared = w.shared } ≡ w

-- A store to an element, the clearing of a variable, and numbers that come to a copy write just this: into the copy, or where the
-- variable is a function's into the words of functions.
pub record StoresWrite : Type 0 where
  pub element : (set k : ℕ) (v : Variable) (z : ℤ) (w : World) → v.is_shared ≡ false → HasWords set (v.place + k) 1 w →
      IsWritten set (v.place + k) (z ∷ []) w (with_element set v k z w)
  pub zeros : (set : ℕ) (v : Variable) (w : World) → v.is_shared ≡ false → HasWords set v.place v.size w → IsWritten set v.place (replicate v.size (pos 0)) w (with_zeros set v w)
  pub elements : (set place : ℕ) (zs : List ℤ) (w : World) → HasWords set place (length zs) w → IsWritten set place zs w (with_elements set place zs w)
  pub shared_element : (set k : ℕ) (v : Variable) (z : ℤ) (w : World) → v.is_shared ≡ true → v.place + k < length w.shared →
      IsWrittenShared (v.place + k) (z ∷ []) w (with_element set v k z w)
  pub shared_zeros : (set : ℕ) (v : Variable) (w : World) → v.is_shared ≡ true → v.place + v.size ≤ length w.shared →
      IsWrittenShared v.place (replicate v.size (pos 0)) w (with_zeros set v w)

-- ---- the world of a program

-- A world is laid out as a program with some links says: it has a copy for each state set, with the words of its variables, those
-- of the variables of functions, and buffers with a word for each element of each link; what links are tied to, and where their
-- elements stand, is the program's.
pub record IsLaidOut (p : ProgramTree) (ls : List Link) (w : World) : Type 0 where
  pub sets : length w.copies ≡ length p.state_sets
  pub words : (set : ℕ) → set < length p.state_sets → length (copy_of set w).words ≡ words_of (variables_of p set)
  pub shared : length w.shared ≡ words_of (shared_variables p)
  pub buffers : length w.buffers ≡ counts ls
  pub ties : w.ties ≡ ties_in p ls
  pub homes : w.homes ≡ homes_in (placed_sets p 0 p.state_sets) ls

-- So is every world of the program.
abbrev pub WorldsAreLaidOut : Type 0
WorldsAreLaidOut = (p : ProgramTree) (ls : List Link) (w : World) → IsWorldOf p ls w → IsLaidOut p ls w

-- ---- variables

-- The elements of the variables of a copy are as before, but for some; each goes by the number of its variable and its own.
abbrev pub ElementsStay : ProgramTree → (set : ℕ) → (ℕ → ℕ → Type 0) → World → World → Type 0
ElementsStay p set Touched w u =
    (j m : ℕ) (y : Placed) → slice_get (placed_in p set) j ≡ Some y → m < y.variable.size → (Touched j m → ⊥) →
    element_of set y.variable m u ≡ element_of set y.variable m w

-- A link ties an element of the copy of a state set: that of this number, of the variable of this number.
pub record IsTiedTo (p : ProgramTree) (ls : List Link) (set link j m : ℕ) : Type 0 where
  pub l : Link
  pub y : Placed
  pub is : slice_get ls link ≡ Some l
  pub placed : slice_get (placed_in p set) j ≡ Some y
  pub variable : variable_in (placed_in p set) l.variable.offset ≡ Some y.variable
  pub within : (l.first ≤ m) × (m < l.first + l.count)

-- No other link that is marked for the state set ties an element that a link ties.
abbrev pub IsAlone : ProgramTree → List Link → (set : ℕ) → World → (link : ℕ) → Type 0
IsAlone p ls set w link =
    (other j m : ℕ) → (link ≡ other → ⊥) → is_marked set other w ≡ true → IsTiedTo p ls set link j m → IsTiedTo p ls set other j m → ⊥

-- Variables are rows of cells. Each has words of its own, within those of the copy. What was stored in an element is read there; a
-- variable that was cleared is 0; numbers that came to a link, one for each of its elements, are read there. Each other element of
-- each variable, each other copy and all the rest are as before.
pub record VariablesAreCells : Type 0 where
  pub apart : (vs : List CopyVariable) (i j k m : ℕ) (x y : Placed) → words_of vs ≤ 2 ^ 64 - 1 → slice_get (placed_from 0 vs) i ≡ Some x → slice_get (placed_from 0 vs) j ≡ Some y →
      k < x.variable.size → m < y.variable.size → x.variable.place + k ≡ y.variable.place + m → (i ≡ j) × (k ≡ m)
  pub within : (vs : List CopyVariable) (i : ℕ) (x : Placed) → words_of vs ≤ 2 ^ 64 - 1 → slice_get (placed_from 0 vs) i ≡ Some x → x.variable.place + x.variable.size ≤ words_of vs
  pub stores : (p : ProgramTree) (ls : List Link) (set i k : ℕ) (x : Placed) (z : ℤ) (w : World) → IsSized p → IsLaidOut p ls w → set < length p.state_sets →
      slice_get (placed_in p set) i ≡ Some x → k < x.variable.size → let u = with_element set x.variable k z w in
      (element_of set x.variable k u ≡ z) × ElementsStay p set (λ j m. (i ≡ j) × (k ≡ m)) w u × CopiesStay set w u × (record u { copies = w.copies } ≡ w)
  pub clears : (p : ProgramTree) (ls : List Link) (set i : ℕ) (x : Placed) (w : World) → IsSized p → IsLaidOut p ls w → set < length p.state_sets →
      slice_get (placed_in p set) i ≡ Some x → let u = with_zeros set x.variable w in
      ((k : ℕ) → k < x.variable.size → element_of set x.variable k u ≡ pos 0) × ElementsStay p set (λ j m. i ≡ j) w u × CopiesStay set w u
      × (record u { copies = w.copies } ≡ w)
  pub takes : (p : ProgramTree) (ls : List Link) (set i place : ℕ) (t : Tied) (zs : List ℤ) (w : World) → IsSized p → IsTied p ls → IsLaidOut p ls w → set < length p.state_sets →
      slice_get (ties_in p ls) i ≡ Some t → home_of set i w ≡ Some place → length zs ≡ t.count → let u = with_elements set place zs w in
      (elements_at set place t u ≡ zs) × ElementsStay p set (IsTiedTo p ls set i) w u × CopiesStay set w u × (record u { copies = w.copies } ≡ w)

-- ---- variables of functions

-- The elements of the variables of functions are as before, but for some; each goes by the number of its variable and its own.
-- They are the same whatever state set looks at them.
abbrev pub SharedElementsStay : ProgramTree → (ℕ → ℕ → Type 0) → World → World → Type 0
SharedElementsStay p Touched w u =
    (set j m : ℕ) (y : Placed) → slice_get (shared_in p) j ≡ Some y → m < y.variable.size → (Touched j m → ⊥) → element_of set y.variable m u ≡ element_of set y.variable m w

-- They are rows of cells, too, and lie apart from all copies: a store to one, and the clearing of one, leave every copy as it is.
pub record FunctionVariablesAreCells : Type 0 where
  pub apart : (vs : List CopyVariable) (i j k m : ℕ) (x y : Placed) → words_of vs ≤ 2 ^ 64 - 1 → slice_get (placed_shared 0 vs) i ≡ Some x → slice_get (placed_shared 0 vs) j ≡ Some y →
      k < x.variable.size → m < y.variable.size → x.variable.place + k ≡ y.variable.place + m → (i ≡ j) × (k ≡ m)
  pub within : (vs : List CopyVariable) (i : ℕ) (x : Placed) → words_of vs ≤ 2 ^ 64 - 1 → slice_get (placed_shared 0 vs) i ≡ Some x → x.variable.place + x.variable.size ≤ words_of vs
  pub stores : (p : ProgramTree) (ls : List Link) (set i k : ℕ) (x : Placed) (z : ℤ) (w : World) → IsSized p → IsLaidOut p ls w →
      slice_get (shared_in p) i ≡ Some x → k < x.variable.size → let u = with_element set x.variable k z w in
      ((other : ℕ) → element_of other x.variable k u ≡ z) × SharedElementsStay p (λ j m. (i ≡ j) × (k ≡ m)) w u × (record u { shared = w.shared } ≡ w)
  pub clears : (p : ProgramTree) (ls : List Link) (set i : ℕ) (x : Placed) (w : World) → IsSized p → IsLaidOut p ls w →
      slice_get (shared_in p) i ≡ Some x → let u = with_zeros set x.variable w in
      ((other k : ℕ) → k < x.variable.size → element_of other x.variable k u ≡ pos 0) × SharedElementsStay p (λ j m. i ≡ j) w u × (record u { shared = w.shared } ≡ w)

-- ---- buffers

-- So are buffers. Each link has words of its own, within those of all. Numbers that came to the buffer of a link, no more than its
-- elements, are read there, and what stood behind them still does; the buffer of each other link and all the rest are as before.
pub record BuffersAreCells : Type 0 where
  pub apart : (p : ProgramTree) (ls : List Link) (i j k m : ℕ) (t r : Tied) → counts ls ≤ 2 ^ 64 - 1 → slice_get (ties_in p ls) i ≡ Some t → slice_get (ties_in p ls) j ≡ Some r →
      k < t.count → m < r.count → t.from + k ≡ r.from + m → (i ≡ j) × (k ≡ m)
  pub within : (p : ProgramTree) (ls : List Link) (i : ℕ) (t : Tied) → counts ls ≤ 2 ^ 64 - 1 → slice_get (ties_in p ls) i ≡ Some t → t.from + t.count ≤ counts ls
  pub fills : (p : ProgramTree) (ls : List Link) (i : ℕ) (t : Tied) (zs : List ℤ) (w : World) → counts ls ≤ 2 ^ 64 - 1 → length w.buffers ≡ counts ls →
      slice_get (ties_in p ls) i ≡ Some t → length zs ≤ t.count → let u = with_buffer t zs w in
      (buffer_of t u ≡ zs ++ drop (length zs) (buffer_of t w))
      × ((j : ℕ) (r : Tied) → slice_get (ties_in p ls) j ≡ Some r → (i ≡ j → ⊥) → buffer_of r u ≡ buffer_of r w)
      × (record u { buffers = w.buffers } ≡ w)

-- ---- feeds

-- A link is a monitored one of a channel, and has this number.
abbrev pub IsMonitored : ProgramTree → List Link → (channel i : ℕ) → Tied → Type 0
IsMonitored p ls channel i t = (slice_get (ties_in p ls) i ≡ Some t) × (is_of channel t ≡ true) × (t.is_monitored ≡ true)

-- A world has a mark of a link for a state set, set or not.
abbrev pub HasMark : (set link : ℕ) → World → Type 0
HasMark set link w = link < length (slice_index_or w.marks set [])

-- The queue of a link and its marks are as before.
abbrev pub QueueAndMarksStay : (link : ℕ) → World → World → Type 0
QueueAndMarksStay link w u = (queue_of link u ≡ queue_of link w) × ((set : ℕ) → is_marked set link u ≡ is_marked set link w)

-- A link with a queue got an item: its whole buffer, with what came, is the newest one. A full queue lost what was its newest item
-- before. All else of the queue, and the link's marks, are as before.
pub record IsEnqueued (link : ℕ) (t : Tied) (w u : World) : Type 0 where
  pub queue : let q = queue_of link w in q.width ≡ t.count → queue_of link u ≡ record q { items = put_in q.size (buffer_of t u) q.items }
  pub marks : (set : ℕ) → is_marked set link u ≡ is_marked set link w

-- A link without a queue is marked for each state set whose copy has its variable, if the world has that mark. Its marks for
-- other state sets are as before, and so is its queue.
pub record IsAllMarked (link : ℕ) (w u : World) : Type 0 where
  pub marks : (set place : ℕ) → home_of set link w ≡ Some place → HasMark set link w → is_marked set link u ≡ true
  pub others : (set : ℕ) → home_of set link w ≡ None → is_marked set link u ≡ is_marked set link w
  pub queue : queue_of link u ≡ queue_of link w

-- What is known after values of a channel came. Each link of the channel has them in its buffer: missing ones leave what was
-- there, surplus ones are dropped. If it is monitored, its queue got the whole buffer as an item, or it is marked where it has no
-- queue, and its event flag is set. All else that changes is that the channel was valued: queues and marks of links of the channel
-- that are not monitored, buffers, queues and marks of other links, other event flags, and all the rest are as before.
pub record IsFed (p : ProgramTree) (ls : List Link) (channel : ℕ) (values : List ℤ) (w u : World) : Type 0 where
  pub own : (i : ℕ) (t : Tied) → slice_get (ties_in p ls) i ≡ Some t → is_of channel t ≡ true →
      buffer_of t u ≡ take t.count values ++ drop (length (take t.count values)) (buffer_of t w)
  pub queued : (i : ℕ) (t : Tied) → IsMonitored p ls channel i t → is_queued i w ≡ true → IsEnqueued i t w u
  pub marked : (i : ℕ) (t : Tied) → IsMonitored p ls channel i t → is_queued i w ≡ false → IsAllMarked i w u
  pub flagged : (i flag : ℕ) (t : Tied) → IsMonitored p ls channel i t → t.flag ≡ Some flag → flag < length w.flags → is_set flag u ≡ true
  pub unmonitored : (i : ℕ) (t : Tied) → slice_get (ties_in p ls) i ≡ Some t → is_of channel t ≡ true → t.is_monitored ≡ false → QueueAndMarksStay i w u
  pub others : (i : ℕ) (t : Tied) → slice_get (ties_in p ls) i ≡ Some t → is_of channel t ≡ false → (buffer_of t u ≡ buffer_of t w) × QueueAndMarksStay i w u
  pub flags : (flag : ℕ) → ((i : ℕ) (t : Tied) → IsMonitored p ls channel i t → t.flag ≡ Some flag → ⊥) → is_set flag u ≡ is_set flag w
  pub valued : u.valued ≡ slice_set w.valued channel true
  pub rest : record u { valued = w.valued; buffers = w.buffers; queues = w.queues; marks = w.marks; flags = w.flags } ≡ w

-- So it is after each feed.
abbrev pub FeedsFillBuffers : Type 0
FeedsFillBuffers = (p : ProgramTree) (ls : List Link) (waits : Bool) (channel : ℕ) (values : List ℤ) (w : World) → IsTied p ls → IsLaidOut p ls w →
    IsFed p ls channel values w (received (program_meaning p ls waits) channel values w)

-- ---- refreshes

-- What is known after a refresh of a state set. A marked link whose variable the copy has, and whose elements no other one ties, has
-- in them what its buffer has. No link is marked for the state set any more. Each element that no marked link ties, the marks of
-- other state sets, other copies and all the rest are as before.
pub record IsRefreshed (p : ProgramTree) (ls : List Link) (set : ℕ) (w u : World) : Type 0 where
  pub fresh : (i place : ℕ) (t : Tied) → slice_get (ties_in p ls) i ≡ Some t → is_marked set i w ≡ true → home_of set i w ≡ Some place → IsAlone p ls set w i →
      elements_at set place t u ≡ buffer_of t w
  pub elements : ElementsStay p set (λ j m. (i : ℕ) × (is_marked set i w ≡ true) × IsTiedTo p ls set i j m) w u
  pub copies : CopiesStay set w u
  pub cleared : (i : ℕ) → i < length (ties_in p ls) → is_marked set i u ≡ false
  pub marks : (other i : ℕ) → (set ≡ other → ⊥) → is_marked other i u ≡ is_marked other i w
  pub rest : record u { copies = w.copies; marks = w.marks } ≡ w

-- So it is after each refresh.
abbrev pub RefreshesFillVariables : Type 0
RefreshesFillVariables = (p : ProgramTree) (ls : List Link) (set : ℕ) (w : World) → IsSized p → IsTied p ls → IsLaidOut p ls w → set < length p.state_sets →
    IsRefreshed p ls set w (refreshed set w)
