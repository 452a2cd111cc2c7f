-- What each word of links, of lines, of ticks and of calls does comes out the same, whatever the words of functions are.
use Rattle.std.proofs.Common.{◌≡◌, refl, subst, ℕ, zero, suc, ℤ, pos, negsuc, ◌+ℤ◌, ◌*ℤ◌, Bool, true, false, List, [], ◌∷◌, Option, None, Some, not, count_by, slice_get, reverse, if◌then◌else◌}
use Rattle.std.specs.Prelude.{◌&&◌, int_le, slice_index_or}
use Rattle.snl_arithmetic.specs.Arithmetic.{truth}
use Rattle.snl_names.specs.declared.builtins.Query.{Query}
use Rattle.snl_names.specs.declared.builtins.Query.TheVariants.{EfClear, EfSet, EfTest, EfTestAndClear, PvChannelCount, PvConnectCount, PvConnected, PvFlushQ, PvGet, PvGetQ, PvPutComplete}
use Rattle.snl_meaning.specs.declared.faults.Fault.TheVariants.{DoesNotFit, BudgetSpent}
use Rattle.snl_meaning.specs.declared.instrs.Variable.{Variable}
use Rattle.snl_meaning.specs.declared.ties.Tied.{Tied}
use Rattle.snl_meaning.specs.Asking.{is_named, is_named_up, is_connected, is_readable, asked, fetched, drained, taken_of, asked_of, unlinked, ask_element}
use Rattle.snl_meaning.specs.Links.{link_at, with_elements, buffer_of, with_buffer, elements_at, queue_of, is_queued, with_items, enqueued, flagged, unflagged, all_marked, marked, kept_for, handed_over}
use Rattle.snl_meaning.specs.Printing.{printed_line, put_line}
use Rattle.snl_meaning.specs.Ran.{Gives, Faults}
use Rattle.snl_meaning.specs.Words.{natural, printed, put_out, put_async, put_by, OnLink, at_tie, at_number, at_link, element_place, put_element, spent_of, spent, fitted, noted, waited_until, waited}
use Rattle.snl_meaning.specs.World.{World, copy_of, words_at, is_set, with_flag, is_waiting, with_waiting}
use Rattle.snl_forgetting.specs.Forgotten.{with_shared}
use Rattle.snl_forgetting.proofs.Words.{Agrees, AgreesOn, IsBlind, Keeps, blind, keeps-then, kept, gives-same, here, fails, chosen, agrees-if, agrees-test}

module _ (Known : Variable → Type 0) where
  -- a value, a world that is changed, and a text, where none knows of the words of functions
  gives : {A : Type 0} (v : World → A) (f : World → World) (text : World → List ℕ) → IsBlind Known v → Keeps Known f → IsBlind Known text →
      Agrees Known (λ w. Gives (v w) (f w) (text w))
  gives v f text h k t = gives-same Known v f text (blind Known v h) (kept Known f k) (blind Known text t)

  -- the same without a text
  tells : {A : Type 0} (v : World → A) (f : World → World) → IsBlind Known v → Keeps Known f → Agrees Known (λ w. Gives (v w) (f w) [])
  tells v f h k = gives v f (λ w. []) h k (λ w words. refl)

  -- nothing is changed
  stays : Keeps Known (λ w. w)
  stays w words = (refl, refl)

  -- ---- lines

  -- `printf`
  pub agrees-printed : (name format : List ℕ) (taken : List ℤ) → Agrees Known (printed name format taken)
  agrees-printed name format taken = gives (λ w. pos 0) (λ w. w) (λ w. printed_line w.time name format (reverse taken)) (λ w words. refl) stays (λ w words. refl)

  module _ (set : ℕ) where
    -- the line of a put
    abbrev line : (place count channel : ℕ) → World → List ℕ
    line place count channel w = put_line w.time (slice_index_or w.channels channel []) (words_at (copy_of set w).words place count)

    -- `pvPut` to a channel
    agrees-put_out : (place count channel : ℕ) → Agrees Known (put_out set place count channel)
    agrees-put_out place count channel =
        agrees-test Known (λ w. slice_index_or w.ups channel false) (λ w. Gives (pos 0) w (line place count channel w)) (λ w. Gives (negsuc 1) w [])
        (blind Known (λ w. slice_index_or w.ups channel false) (λ w words. refl))
        (gives (λ w. pos 0) (λ w. w) (line place count channel) (λ w words. refl) stays (λ w words. refl)) (here Known (negsuc 1))

    -- the same with `ASYNC`
    agrees-put_async : (place link count channel : ℕ) → Agrees Known (put_async set place link count channel)
    agrees-put_async place link count channel =
        agrees-test Known (λ w. slice_index_or w.ups channel false)
        (λ w. if is_waiting link w then Gives (negsuc 0) w [] else Gives (pos 0) (with_waiting link true w) (line place count channel w)) (λ w. Gives (negsuc 1) w [])
        (blind Known (λ w. slice_index_or w.ups channel false) (λ w words. refl))
        (agrees-test Known (is_waiting link) (λ w. Gives (negsuc 0) w []) (λ w. Gives (pos 0) (with_waiting link true w) (line place count channel w))
        (blind Known (is_waiting link) (λ w words. refl)) (here Known (negsuc 0))
        (gives (λ w. pos 0) (with_waiting link true) (line place count channel) (λ w words. refl) (λ w words. (refl, refl)) (λ w words. refl)))
        (here Known (negsuc 1))

  -- ---- links

  -- a flag of a link is set
  flagged-keeps : (flag : Option ℕ) → Keeps Known (flagged flag)
  flagged-keeps None w words = (refl, refl)
  flagged-keeps (Some flag) w words = (refl, refl)

  -- it is cleared
  unflagged-keeps : (flag : Option ℕ) → Keeps Known (unflagged flag)
  unflagged-keeps None w words = (refl, refl)
  unflagged-keeps (Some flag) w words = (refl, refl)

  -- one of two changes
  keeps-if : (b : World → Bool) (f g : World → World) → IsBlind Known b → Keeps Known f → Keeps Known g → Keeps Known (λ w. if b w then f w else g w)
  keeps-if b f g s h k w words =
      subst (λ (c : Bool). ((if c then f (with_shared words w) else g (with_shared words w)) ≡ with_shared words (if b w then f w else g w))
      × ((if b w then f w else g w).shared ≡ w.shared)) (s w words) (by (b w))
    where
      by : (c : Bool) → ((if c then f (with_shared words w) else g (with_shared words w)) ≡ with_shared words (if c then f w else g w)) × ((if c then f w else g w).shared ≡ w.shared)
      by true = h w words
      by false = k w words

  -- a link is marked where it is monitored
  marked-keeps : (but : Option ℕ) (link : ℕ) (t : Tied) → Keeps Known (marked but link t)
  marked-keeps but link t = keeps-if (λ w. t.is_monitored) (all_marked but link) (λ w. w) (λ w words. refl) (λ w words. (refl, refl)) stays

  -- elements of a link are kept for others
  kept_for-keeps : (set place link : ℕ) (t : Tied) → Keeps Known (kept_for set place link t)
  kept_for-keeps set place link t =
      keeps-if (is_queued link) (λ w. enqueued link (copy_of set w).words place w) (λ w. marked (Some set) link t (with_buffer t (elements_at set place t w) w))
      (λ w words. refl) (λ w words. (refl, refl))
      (keeps-then Known (λ w. with_buffer t (elements_at set place t w) w) (marked (Some set) link t) (λ w words. (refl, refl)) (marked-keeps (Some set) link t))

  -- they are handed over
  handed-keeps : (set place link : ℕ) (t : Tied) → Keeps Known (handed_over set place link t)
  handed-keeps set place link t = keeps-then Known (kept_for set place link t) (flagged t.flag) (kept_for-keeps set place link t) (flagged-keeps t.flag)

  -- `pvPut` of a link
  agrees-by : (async : Bool) (set place link : ℕ) (t : Tied) (channel : Option ℕ) → Agrees Known (put_by async set place link t channel)
  agrees-by async set place link t None = tells (λ w. pos 0) (handed_over set place link t) (λ w words. refl) (handed-keeps set place link t)
  agrees-by false set place link t (Some channel) = agrees-put_out set place t.count channel
  agrees-by true set place link t (Some channel) = agrees-put_async set place link t.count channel

  -- what is done with a link, if there is one
  agrees-tie : (none : ℤ) (go : OnLink) (link : ℕ) → ((t : Tied) → Agrees Known (go link t)) → AgreesOn Known (at_tie none go link)
  agrees-tie none go link h None = here Known none
  agrees-tie none go link h (Some t) = h t

  -- by its number
  agrees-number : (none : ℤ) (go : OnLink) → ((link : ℕ) (t : Tied) → Agrees Known (go link t)) → AgreesOn Known (at_number none go)
  agrees-number none go h None = here Known none
  agrees-number none go h (Some link) =
      chosen Known (λ w. slice_get w.ties link) (at_tie none go link) (blind Known (λ w. slice_get w.ties link) (λ w words. refl)) (agrees-tie none go link (h link))

  -- by the word where it begins
  agrees-link : (none : ℤ) (go : OnLink) (set place : ℕ) → ((link : ℕ) (t : Tied) → Agrees Known (go link t)) → Agrees Known (at_link none go set place)
  agrees-link none go set place h = chosen Known (link_at set place) (at_number none go) (blind Known (link_at set place) (λ w words. refl)) (agrees-number none go h)

  -- `pvPut` of an element
  pub agrees-put_element : (async : Bool) (set : ℕ) (v : Variable) → AgreesOn Known (put_element async set v)
  agrees-put_element async set v k =
      agrees-link (negsuc 0) (λ link t. put_by async set (element_place v (natural k)) link t t.channel) set (element_place v (natural k))
      (λ link t. agrees-by async set (element_place v (natural k)) link t t.channel)

  -- ---- what is asked

  -- what is asked or told of a flag
  pub agrees-asked : (query : Query) (flag : ℕ) → Agrees Known (asked query flag)
  agrees-asked EfClear flag = tells (λ w. truth (is_set flag w)) (with_flag flag false) (λ w words. refl) (λ w words. (refl, refl))
  agrees-asked EfSet flag = tells (λ w. pos 0) (with_flag flag true) (λ w words. refl) (λ w words. (refl, refl))
  agrees-asked EfTest flag = tells (λ w. truth (is_set flag w)) (λ w. w) (λ w words. refl) stays
  agrees-asked EfTestAndClear flag = tells (λ w. truth (is_set flag w)) (with_flag flag false) (λ w words. refl) (λ w words. (refl, refl))
  agrees-asked PvChannelCount flag = tells (λ w. pos (count_by is_named w.ties)) (λ w. w) (λ w words. refl) stays
  agrees-asked PvConnectCount flag = tells (λ w. pos (count_by (is_named_up w) w.ties)) (λ w. w) (λ w words. refl) stays
  agrees-asked PvConnected flag = here Known (pos 0)
  agrees-asked PvFlushQ flag = here Known (pos 0)
  agrees-asked PvGet flag = here Known (pos 0)
  agrees-asked PvGetQ flag = here Known (pos 0)
  agrees-asked PvPutComplete flag = here Known (pos 0)

  -- whether a link can be read
  readable-blind : (channel : Option ℕ) → IsBlind Known (is_readable channel)
  readable-blind None w words = refl
  readable-blind (Some channel) w words = refl

  -- whether a channel is connected
  connected-blind : (channel : Option ℕ) → IsBlind Known (λ w. truth (is_connected channel w))
  connected-blind None w words = refl
  connected-blind (Some channel) w words = refl

  -- `pvGet`
  agrees-fetched : (set place : ℕ) (t : Tied) → Agrees Known (fetched set place t)
  agrees-fetched set place t =
      agrees-test Known (is_readable t.channel) (λ w. Gives (pos 0) (with_elements set place (buffer_of t w) w) []) (λ w. Gives (negsuc 1) w [])
      (blind Known (is_readable t.channel) (readable-blind t.channel))
      (tells (λ w. pos 0) (λ w. with_elements set place (buffer_of t w) w) (λ w words. refl) (λ w words. (refl, refl))) (here Known (negsuc 1))

  -- a flag that is cleared where nothing is left
  drained-keeps : (flag : Option ℕ) (items : List (List ℤ)) → Keeps Known (drained flag items)
  drained-keeps flag [] = unflagged-keeps flag
  drained-keeps flag (item ∷ more) = stays

  -- `pvGetQ`
  agrees-taken : (set place link : ℕ) (t : Tied) → AgreesOn Known (taken_of set place link t)
  agrees-taken set place link t [] = tells (λ w. pos 0) (unflagged t.flag) (λ w words. refl) (unflagged-keeps t.flag)
  agrees-taken set place link t (item ∷ more) =
      tells (λ w. pos 1) (λ w. drained t.flag more (with_items link more (with_elements set place item w))) (λ w words. refl)
      (keeps-then Known (λ w. with_items link more (with_elements set place item w)) (drained t.flag more) (λ w words. (refl, refl)) (drained-keeps t.flag more))

  -- what is asked or told of a link
  agrees-asked_of : (query : Query) (set place link : ℕ) (t : Tied) → Agrees Known (asked_of query set place link t)
  agrees-asked_of PvGet set place link t = agrees-fetched set place t
  agrees-asked_of PvGetQ set place link t =
      chosen Known (λ w. (queue_of link w).items) (taken_of set place link t) (blind Known (λ w. (queue_of link w).items) (λ w words. refl)) (agrees-taken set place link t)
  agrees-asked_of PvFlushQ set place link t =
      tells (λ w. pos 0) (λ w. unflagged t.flag (with_items link [] w)) (λ w words. refl)
      (keeps-then Known (with_items link []) (unflagged t.flag) (λ w words. (refl, refl)) (unflagged-keeps t.flag))
  agrees-asked_of PvConnected set place link t = tells (λ w. truth (is_connected t.channel w)) (λ w. w) (connected-blind t.channel) stays
  agrees-asked_of PvPutComplete set place link t = tells (λ w. truth (not (is_waiting link w))) (λ w. w) (λ w words. refl) stays
  agrees-asked_of PvChannelCount set place link t = here Known (pos 0)
  agrees-asked_of PvConnectCount set place link t = here Known (pos 0)
  agrees-asked_of EfClear set place link t = here Known (pos 0)
  agrees-asked_of EfSet set place link t = here Known (pos 0)
  agrees-asked_of EfTest set place link t = here Known (pos 0)
  agrees-asked_of EfTestAndClear set place link t = here Known (pos 0)

  -- of an element
  pub agrees-ask_element : (query : Query) (set : ℕ) (v : Variable) → AgreesOn Known (ask_element query set v)
  agrees-ask_element query set v k =
      agrees-link (unlinked query) (asked_of query set (element_place v (natural k))) set (element_place v (natural k)) (agrees-asked_of query set (element_place v (natural k)))

  -- ---- ticks, delays and values

  -- a tick of those that are left
  agrees-spent_of : (line : ℕ) → AgreesOn Known (spent_of line)
  agrees-spent_of line zero = fails Known BudgetSpent line
  agrees-spent_of line (suc left) = tells (λ w. tt) (λ w. record w { ticks = left }) (λ w words. refl) (λ w words. (refl, refl))

  -- a tick
  pub agrees-spent : (line : ℕ) → Agrees Known (spent line)
  agrees-spent line = chosen Known (λ w. w.ticks) (spent_of line) (blind Known (λ w. w.ticks) (λ w words. refl)) (agrees-spent_of line)

  -- the check of a value that a function gives
  pub agrees-fitted : (least greatest : ℤ) (line : ℕ) → AgreesOn Known (fitted least greatest line)
  agrees-fitted least greatest line z =
      agrees-if Known (int_le least z && int_le z greatest) (λ w. Gives z w []) (λ w. Faults DoesNotFit line w []) (here Known z) (fails Known DoesNotFit line)

  -- until a time
  agrees-until : AgreesOn Known waited_until
  agrees-until t =
      agrees-test Known (λ w. int_le t (pos w.time)) (λ w. Gives (pos 1) w []) (λ w. Gives (pos 0) (record w { due = noted t w.due }) [])
      (blind Known (λ w. int_le t (pos w.time)) (λ w words. refl)) (here Known (pos 1))
      (tells (λ w. pos 0) (λ w. record w { due = noted t w.due }) (λ w words. refl) (λ w words. (refl, refl)))

  -- `delay`
  pub agrees-waited : (set : ℕ) (in_seconds : Bool) → AgreesOn Known (waited set in_seconds)
  agrees-waited set in_seconds z =
      chosen Known (λ w. pos (copy_of set w).entered +ℤ (if in_seconds then z *ℤ pos 1000 else z)) waited_until
      (blind Known (λ w. pos (copy_of set w).entered +ℤ (if in_seconds then z *ℤ pos 1000 else z)) (λ w words. refl)) agrees-until
