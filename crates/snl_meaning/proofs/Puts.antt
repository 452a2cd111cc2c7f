-- Puts with `ASYNC` and without.
use Rattle.std.proofs.Common.{◌≡◌, refl, ap, ◌∙◌, ℕ, ℤ, pos, negsuc, Bool, true, false, List, [], Option, None, Some, if◌then◌else◌}
use Rattle.std.specs.Prelude.{slice_get, slice_index_or}
use Rattle.snl_meaning.specs.declared.ties.Tied.{Tied}
use Rattle.snl_meaning.specs.Links.{link_at, elements_at, with_buffer, is_queued, enqueued, flagged, all_marked, marked, kept_for, handed_over}
use Rattle.snl_meaning.specs.Printing.{put_line}
use Rattle.snl_meaning.specs.Ran.{Gives}
use Rattle.snl_meaning.specs.Words.{natural, put_out, put_by, OnLink, at_tie, at_number, put_word, element_place}
use Rattle.snl_meaning.specs.World.{World, copy_of, words_at, is_waiting, with_waiting}
use Rattle.snl_meaning.specs.Puts.{remarked, PlainPutsKnowNoMarks, WaitingPutsNothing}

module _ (marks : List Bool) where
  -- other links wait
  abbrev on : World → World
  on w = record w { waiting = marks }

  -- a link is marked where it is monitored
  marked-on : (but : Option ℕ) (link : ℕ) (t : Tied) (w : World) → marked but link t (on w) ≡ on (marked but link t w)
  marked-on but link t w = by t.is_monitored
    where
      by : (b : Bool) → (if b then all_marked but link (on w) else on w) ≡ on (if b then all_marked but link w else w)
      by true = refl
      by false = refl

  -- elements of a link are kept for others
  kept-on : (set place link : ℕ) (t : Tied) (w : World) → kept_for set place link t (on w) ≡ on (kept_for set place link t w)
  kept-on set place link t w = by (is_queued link w)
    where
      filled : World
      filled = with_buffer t (elements_at set place t w) w

      by : (b : Bool) → (if b then enqueued link (copy_of set w).words place (on w) else marked (Some set) link t (on filled))
          ≡ on (if b then enqueued link (copy_of set w).words place w else marked (Some set) link t filled)
      by true = refl
      by false = marked-on (Some set) link t filled

  -- a flag is set
  flagged-on : (flag : Option ℕ) (w : World) → flagged flag (on w) ≡ on (flagged flag w)
  flagged-on None w = refl
  flagged-on (Some flag) w = refl

  -- they are handed over
  handed-on : (set place link : ℕ) (t : Tied) (w : World) → handed_over set place link t (on w) ≡ on (handed_over set place link t w)
  handed-on set place link t w = ap (flagged t.flag) (kept-on set place link t w) ∙ flagged-on t.flag (kept_for set place link t w)

  -- a line is written
  out-on : (set place count channel : ℕ) (w : World) → put_out set place count channel (on w) ≡ remarked marks (put_out set place count channel w)
  out-on set place count channel w = by (slice_index_or w.ups channel false)
    where
      line : List ℕ
      line = put_line w.time (slice_index_or w.channels channel []) (words_at (copy_of set w).words place count)

      by : (b : Bool) → (if b then Gives (pos 0) (on w) line else Gives (negsuc 1) (on w) []) ≡ remarked marks (if b then Gives (pos 0) w line else Gives (negsuc 1) w [])
      by true = refl
      by false = refl

  -- by its channel
  by-on : (set place link : ℕ) (t : Tied) (channel : Option ℕ) (w : World) → put_by false set place link t channel (on w) ≡ remarked marks (put_by false set place link t channel w)
  by-on set place link t None w = ap (λ (u : World). Gives (pos 0) u []) (handed-on set place link t w)
  by-on set place link t (Some channel) w = out-on set place t.count channel w

  -- a put of a link
  abbrev putting : (set place : ℕ) → OnLink
  putting set place link t = put_by false set place link t t.channel

  -- by what it is tied to
  tie-on : (set place link : ℕ) (tie : Option Tied) (w : World) → at_tie (negsuc 0) (putting set place) link tie (on w) ≡ remarked marks (at_tie (negsuc 0) (putting set place) link tie w)
  tie-on set place link None w = refl
  tie-on set place link (Some t) w = by-on set place link t t.channel w

  -- by its number
  number-on : (set place : ℕ) (number : Option ℕ) (w : World) → at_number (negsuc 0) (putting set place) number (on w) ≡ remarked marks (at_number (negsuc 0) (putting set place) number w)
  number-on set place None w = refl
  number-on set place (Some link) w = tie-on set place link (slice_get w.ties link) w

  -- by the word where it begins
  pub word-on : (set place : ℕ) (w : World) → put_word false set place (on w) ≡ remarked marks (put_word false set place w)
  word-on set place w = number-on set place (link_at set place w) w

-- plain puts
pub plain_puts_know_no_marks : PlainPutsKnowNoMarks
plain_puts_know_no_marks set v k marks w = word-on marks set (element_place v (natural k)) w

-- while a link waits
pub waiting_puts_nothing : WaitingPutsNothing
waiting_puts_nothing set place link channel t w waits = by (slice_index_or w.ups channel false) (is_waiting link w) waits
  where
    line : List ℕ
    line = put_line w.time (slice_index_or w.channels channel []) (words_at (copy_of set w).words place t.count)

    by : (up waiting : Bool) → waiting ≡ true →
        (if up then (if waiting then Gives (negsuc 0) w [] else Gives (pos 0) (with_waiting link true w) line) else Gives (negsuc 1) w [])
        ≡ Gives (if up then negsuc 0 else negsuc 1) w []
    by true true is = refl
    by true false is = absurd (cc)
    by false waiting is = refl
