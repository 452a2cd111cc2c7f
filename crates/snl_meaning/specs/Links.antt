-- What is done with links: where their elements stand in a copy, their buffers, their marks, their event flags and their
-- queues.
use Rattle.std.specs.Prelude.{ℕ, ◌+◌, ℤ, Bool, true, false, ◌==◌, nat_lt, List, [], ◌∷◌, Option, None, Some, is_some, slice_index_or, slice_set, if◌then◌else◌}
use Rattle.snl_meaning.specs.declared.ties.Tied.{Tied}
use Rattle.snl_meaning.specs.Queues.{put_in}
use Rattle.snl_meaning.specs.World.{Queue, World, copy_of, with_words, words_at, overwritten, with_flag}

-- ---- where the elements of a link stand

-- The word of a state set's copy where the elements of a link begin, if that copy has them.
abbrev pub home_of : ℕ → ℕ → World → Option ℕ
home_of set link w = slice_index_or (slice_index_or w.homes set []) link None

-- Whether a link begins at this word.
abbrev pub begins_at : ℕ → Option ℕ → Bool
begins_at place None = false
begins_at place (Some home) = home == place

-- The first of some links, with numbers from one on, whose elements begin at a word.
abbrev pub link_from : ℕ → List (Option ℕ) → ℕ → Option ℕ
link_from number [] place = None
link_from number (home ∷ homes) place = if begins_at place home then Some number else link_from (number + 1) homes place

-- The link whose elements begin at a word of a state set's copy, if there is one.
abbrev pub link_at : ℕ → ℕ → World → Option ℕ
link_at set place w = link_from 0 (slice_index_or w.homes set []) place

-- The elements of a link that begin at a word of a state set's copy.
abbrev pub elements_at : ℕ → ℕ → Tied → World → List ℤ
elements_at set place t w = words_at (copy_of set w).words place t.count

-- The world in which numbers stand in a state set's copy from a word on.
abbrev pub with_elements : ℕ → ℕ → List ℤ → World → World
with_elements set place zs w = with_words set (overwritten (copy_of set w).words place zs) w

-- ---- buffers

-- The numbers in the buffer of a link.
abbrev pub buffer_of : Tied → World → List ℤ
buffer_of t w = words_at w.buffers t.from t.count

-- The world in which numbers came to the buffer of a link.
abbrev pub with_buffer : Tied → List ℤ → World → World
with_buffer t zs w = record w { buffers = overwritten w.buffers t.from zs }

-- ---- queues

-- The queue of a link that is not there.
abbrev pub no_queue : Queue
no_queue = record { size = 0; width = 0; items = [] }

-- The queue of a link.
abbrev pub queue_of : ℕ → World → Queue
queue_of link w = slice_index_or w.queues link no_queue

-- Whether a link has a queue.
abbrev pub is_queued : ℕ → World → Bool
is_queued link w = nat_lt 0 (queue_of link w).size

-- The world in which a link's queue holds other items.
abbrev pub with_items : ℕ → List (List ℤ) → World → World
with_items link items w = record w { queues = slice_set w.queues link (record (queue_of link w) { items = items }) }

-- A queue after words, from a place on, came to it as one item.
abbrev pub put_into : List ℤ → ℕ → Queue → Queue
put_into words place q = record q { items = put_in q.size (words_at words place q.width) q.items }

-- The world in which that came to the queue of a link.
abbrev pub enqueued : ℕ → List ℤ → ℕ → World → World
enqueued link words place w = record w { queues = slice_set w.queues link (put_into words place (queue_of link w)) }

-- ---- event flags

-- The world in which an event flag is set, if there is one.
abbrev pub flagged : Option ℕ → World → World
flagged None w = w
flagged (Some flag) w = with_flag flag true w

-- The world in which it is cleared.
abbrev pub unflagged : Option ℕ → World → World
unflagged None w = w
unflagged (Some flag) w = with_flag flag false w

-- ---- new numbers at a link

-- Marks after a link was marked for a state set, if the copy of that has the link's variable.
abbrev pub marked_at : ℕ → ℕ → List (Option ℕ) → List (List Bool) → List (List Bool)
marked_at set link homes marks =
    if is_some (slice_index_or homes link None) then slice_set marks set (slice_set (slice_index_or marks set []) link true) else marks

-- Whether a state set is the one that is left out, if one is.
abbrev pub is_left_out : Option ℕ → ℕ → Bool
is_left_out None set = false
is_left_out (Some own) set = own == set

-- Marks after that was done, unless the state set is left out.
abbrev pub marked_but : Option ℕ → ℕ → ℕ → List (Option ℕ) → List (List Bool) → List (List Bool)
marked_but but set link homes marks = if is_left_out but set then marks else marked_at set link homes marks

-- The same for the state sets from a number on.
abbrev pub marked_from : Option ℕ → ℕ → ℕ → List (List (Option ℕ)) → List (List Bool) → List (List Bool)
marked_from but link set [] marks = marks
marked_from but link set (homes ∷ more) marks = marked_from but link (set + 1) more (marked_but but set link homes marks)

-- The world in which a link is marked for all state sets that have its variable, but for one.
abbrev pub all_marked : Option ℕ → ℕ → World → World
all_marked but link w = record w { marks = marked_from but link 0 w.homes w.marks }

-- The same where the link is monitored.
abbrev pub marked : Option ℕ → ℕ → Tied → World → World
marked but link t w = if t.is_monitored then all_marked but link w else w

-- What is in the buffer of a link is announced: the whole buffer comes to its queue; where it has none, it is marked.
abbrev pub announced : ℕ → Tied → World → World
announced link t w = if is_queued link w then enqueued link w.buffers t.from w else all_marked None link w

-- Numbers of its channel came to the buffer of a link: where it is monitored, that is announced, and its event flag is set.
abbrev pub noticed : ℕ → Tied → World → World
noticed link t w = if t.is_monitored then flagged t.flag (announced link t w) else w

-- The elements of a link stand in its queue, or where it has none in its buffer; then, where it is monitored, it is marked
-- for the other state sets. What the own copy was marked for stays.
abbrev pub kept_for : ℕ → ℕ → ℕ → Tied → World → World
kept_for set place link t w =
    if is_queued link w then enqueued link (copy_of set w).words place w
    else marked (Some set) link t (with_buffer t (elements_at set place t w) w)

-- A state set puts the elements of a link that has no channel: they are kept for the others, and its event flag is set,
-- whether it is monitored or not.
abbrev pub handed_over : ℕ → ℕ → ℕ → Tied → World → World
handed_over set place link t w = flagged t.flag (kept_for set place link t w)
