-- What is compared of small texts, and where they differ.
use Rattle.std.specs.Prelude.{◌≡◌, Bool, true, false, [], ◌∷◌, None, Some, codes, map, string_bytes}
use Rattle.snl_meaning.specs.declared.faults.Fault.{Fault}
use Rattle.snl_same.specs.Firsts.{first_difference}
use Rattle.snl_same.specs.Kept.{kept, last_puts}
use Rattle.snl_same.specs.Lines.{EndAlike}
use Rattle.snl_heard.specs.Words.{time_of}
use Rattle.snl_same.specs.Words.{channel_of, counts, is_put}
use Rattle.snl_same.specs.declared.filters.Filter.{Filter}
use Rattle.snl_trace.specs.declared.runner.End.TheVariants as end

-- The words of a put, and of a line that prints the same words.
pub record WordExamples : Type 0 where
  pub time : time_of (codes "15 put LAB:LAMP 1") ≡ codes "15"
  pub channel : channel_of (codes "15 put LAB:LAMP 1") ≡ codes "LAB:LAMP"
  pub put : is_put (codes "15 put LAB:LAMP 1") ≡ true
  pub print : is_put (codes "15 print put LAB:LAMP 1") ≡ false
  pub go : is_put (codes "15 go room dark lit") ≡ false

-- Of two puts to one channel at one time the last one is kept, and of others each.
pub record LastExamples : Type 0 where
  pub one : last_puts (codes "15 put A 1" ∷ codes "15 put B 1" ∷ codes "15 put A 2" ∷ []) ≡ codes "15 put B 1" ∷ codes "15 put A 2" ∷ []
  pub later : last_puts (codes "15 put A 1" ∷ codes "16 put A 1" ∷ []) ≡ codes "15 put A 1" ∷ codes "16 put A 1" ∷ []

-- A filter that leaves out no channel: all lines, or puts alone.
abbrev pub of_all : (puts_only : Bool) → Filter
of_all puts_only = record { puts_only = puts_only; but = record { ref_ptr = (0, 0); now = [] } }

-- All lines of a text, the last puts of one, and puts to a channel that is left out, beside one that is not. What no newline ends is no line.
pub record KeptExamples : Type 0 where
  pub all : kept (of_all false) (codes "15 go s a b\n15 put A 1\n15 pu") ≡ codes "15 go s a b" ∷ codes "15 put A 1" ∷ []
  pub puts : kept (of_all true) (codes "15 put A 1\n15 go s a b\n15 put A 2\n16 put A 3\n") ≡ codes "15 put A 2" ∷ codes "16 put A 3" ∷ []
  pub out : (f : Filter) → map string_bytes f.but.now ≡ codes "A" ∷ codes "C" ∷ [] → counts f (codes "15 put C 1") ≡ false
  pub left : (f : Filter) → map string_bytes f.but.now ≡ codes "A" ∷ codes "C" ∷ [] → counts f (codes "15 put B 1") ≡ true

-- A fault at two places is one end; a program that ends and one that goes on do not end alike.
pub record EndExamples : Type 0 where
  pub placeless : (fault : Fault) → EndAlike (Some (end.Fault fault 3)) (Some (end.Fault fault 9))
  pub alone : EndAlike (Some end.ProgramEnded) None → ⊥

-- The first two lines that differ, and a line that one list has alone.
pub record DifferenceExamples : Type 0 where
  pub other : first_difference (codes "a" ∷ codes "b" ∷ codes "c" ∷ []) (codes "a" ∷ codes "d" ∷ codes "c" ∷ []) ≡ Some (Some (codes "b"), Some (codes "d"))
  pub more : first_difference (codes "a" ∷ []) (codes "a" ∷ codes "b" ∷ []) ≡ Some (None, Some (codes "b"))
  pub fewer : first_difference (codes "a" ∷ codes "b" ∷ []) (codes "a" ∷ []) ≡ Some (Some (codes "b"), None)
  pub none : first_difference (codes "a" ∷ []) (codes "a" ∷ []) ≡ None
