-- Stores with one picture, whose parts have the same sizes, have equal worlds but for the clock.
use Rattle.std.proofs.Common.{◌≡◌, ◌∙◌, ◌*◌, ◌<◌, ◌^◌, refl, sym, ap, arith, w64, ℕ, zero, suc, ℤ, pos, Bool, true, false, List, [], ◌∷◌, ◌++◌, map, length, take, drop}
use Rattle.std.specs.Int.{cast_unsigned}
use Rattle.std.specs.List.{All, flat_map}
use Rattle.std.proofs.lemmas.Int.{of_z-to_z}
use Rattle.std.proofs.lemmas.List.{append-nil, append_assoc, drop_at, length-map, take_at}
use Rattle.snl_meaning.specs.Frames.{Frame}
use Rattle.snl_meaning.specs.World.{World}
use Rattle.snl_vm.specs.declared.stores.Store.{Store}
use Rattle.snl_vm.specs.Footprint.{mark_words}
use Rattle.snl_vm.specs.Marks.{marks_in, marks_of}
use Rattle.snl_vm.specs.Pictures.{CopyFits, IsPicture, MarksFit, QueueFits, clocked, copy_picture, copy_size, lasting_frame, marks_picture, number_word, queue_picture, truth_word}
use Rattle.snl_vm.specs.Queues.{items_in, queue_view, room_of_queue}
use Rattle.snl_vm.specs.Views.{copy_view, world_of}
use Rattle.snl_vm.proofs.Framed.{framed-alike}

-- Where words begin with the pictures of two members of one size, the members look alike, and the same words are left.
abbrev IsApart : {X S V : Type 0} (picture : X → List ℤ) (size : X → S) (Fits : X → Type 0) (view : X → V) → Type 0
IsApart {X} picture size Fits view = (x y : X) (r s : List ℤ) → size x ≡ size y → Fits x → Fits y → picture x ++ r ≡ picture y ++ s → (view x ≡ view y) × (r ≡ s)

-- ---- words

-- a number is told by its word
number-apart : (m n : ℕ) → m < 2 ^ 64 → n < 2 ^ 64 → number_word m ≡ number_word n → m ≡ n
number-apart m n first second same = sym (of_z-to_z w64 m first) ∙ ap (cast_unsigned w64) same ∙ of_z-to_z w64 n second

-- and whether something is so
truth-apart : (a b : Bool) → truth_word a ≡ truth_word b → a ≡ b
truth-apart true true same = refl
truth-apart true false same = ap is_some same
  where
    is_some : ℤ → Bool
    is_some (pos zero) = false
    is_some _ = true
truth-apart false true same = ap is_some same
  where
    is_some : ℤ → Bool
    is_some (pos zero) = false
    is_some _ = true
truth-apart false false same = refl

-- as many words
words-apart : (a b r s : List ℤ) → length a ≡ length b → a ++ r ≡ b ++ s → (a ≡ b) × (r ≡ s)
words-apart a b r s long same = (
  sym (take_at a r (length a) refl) ∙ ap (take (length a)) same ∙ take_at b s (length a) (sym long),
  sym (drop_at a r (length a) refl) ∙ ap (drop (length a)) same ∙ drop_at b s (length a) (sym long),
)

-- lists of which each member has a word that tells it
map-apart : {X : Type 0} (f : X → ℤ) (Fits : X → Type 0) → ((x y : X) → Fits x → Fits y → f x ≡ f y → x ≡ y) →
    (xs ys : List X) → All Fits xs → All Fits ys → map f xs ≡ map f ys → xs ≡ ys
map-apart f Fits apart [] [] first second same = refl
map-apart f Fits apart [] (y ∷ ys) first second same = absurd (cc)
map-apart f Fits apart (x ∷ xs) [] first second same = absurd (cc)
map-apart f Fits apart (x ∷ xs) (y ∷ ys) first second same =
    let here : f x ≡ f y = cc in
    let there : map f xs ≡ map f ys = cc in
    let one = apart x y (first 0 x (omega arith)) (second 0 y (omega arith)) here in
    let others = map-apart f Fits apart xs ys (λ k d within. first (suc k) d (omega (arith, within))) (λ k d within. second (suc k) d (omega (arith, within))) there in
    λ j. one j ∷ others j

-- truths
truths-apart : (a b : List Bool) (r s : List ℤ) → length a ≡ length b → map truth_word a ++ r ≡ map truth_word b ++ s → (a ≡ b) × (r ≡ s)
truths-apart a b r s long same =
    let words = words-apart (map truth_word a) (map truth_word b) r s (length-map a truth_word ∙ long ∙ sym (length-map b truth_word)) same in
    (map-apart truth_word (λ (truth : Bool). Unit {0}) (λ x y first second e. truth-apart x y e) a b (λ k d within. tt) (λ k d within. tt) words.0, words.1)

-- ---- members

-- lists of members
list-apart : {X S V : Type 0} (picture : X → List ℤ) (size : X → S) (Fits : X → Type 0) (view : X → V) → IsApart picture size Fits view →
    (xs ys : List X) (r s : List ℤ) → map size xs ≡ map size ys → All Fits xs → All Fits ys → flat_map picture xs ++ r ≡ flat_map picture ys ++ s →
    (map view xs ≡ map view ys) × (r ≡ s)
list-apart picture size Fits view apart [] [] r s sizes first second same = (refl, same)
list-apart picture size Fits view apart [] (y ∷ ys) r s sizes first second same = absurd (cc)
list-apart picture size Fits view apart (x ∷ xs) [] r s sizes first second same = absurd (cc)
list-apart picture size Fits view apart (x ∷ xs) (y ∷ ys) r s sizes first second same =
    let here : size x ≡ size y = cc in
    let there : map size xs ≡ map size ys = cc in
    let left = sym (append_assoc (picture x) (flat_map picture xs) r) ∙ same ∙ append_assoc (picture y) (flat_map picture ys) s in
    let one = apart x y (flat_map picture xs ++ r) (flat_map picture ys ++ s) here (first 0 x (omega arith)) (second 0 y (omega arith)) left in
    let others = list-apart picture size Fits view apart xs ys r s there (λ k d within. first (suc k) d (omega (arith, within)))
    (λ k d within. second (suc k) d (omega (arith, within))) one.1 in
    (λ j. one.0 j ∷ others.0 j, others.1)

-- a state set
copy-apart : IsApart copy_picture copy_size CopyFits copy_view
copy-apart x y r s size first second same =
    let all : number_word x.state ∷ (number_word x.entered ∷ (x.words.items ++ r)) ≡ number_word y.state ∷ (number_word y.entered ∷ (y.words.items ++ s)) = same in
    let state : number_word x.state ≡ number_word y.state = cc all in
    let entered : number_word x.entered ≡ number_word y.entered = cc all in
    let others : x.words.items ++ r ≡ y.words.items ++ s = cc all in
    let words = words-apart x.words.items y.words.items r s size others in
    let states = number-apart x.state y.state first.0 second.0 state in
    let times = number-apart x.entered y.entered first.1 second.1 entered in
    (λ j. record { words = words.0 j; state = states j; entered = times j }, words.1)

-- marks
marks-apart : IsApart marks_picture mark_words MarksFit marks_of
marks-apart x y r s count first second same =
    let long : length x.words.items ≡ length y.words.items = omega (arith, x.held, x.tight, y.held, y.tight, count) in
    let words = words-apart (marks_picture x) (marks_picture y) r s (length-map x.words.items number_word ∙ long ∙ sym (length-map y.words.items number_word)) same in
    let alike = map-apart number_word (λ (n : ℕ). n < 2 ^ 64) number-apart x.words.items y.words.items first second words.0 in
    (λ j. marks_in (alike j) (count j), words.1)

-- a queue
queue-apart : IsApart queue_picture room_of_queue QueueFits queue_view
queue-apart x y r s room first second same =
    let all : number_word x.held ∷ (x.ring.items ++ r) ≡ number_word y.held ∷ (y.ring.items ++ s) = same in
    let held : x.held ≡ y.held = number-apart x.held y.held first second (cc all) in
    let others : x.ring.items ++ r ≡ y.ring.items ++ s = cc all in
    let many : x.held * x.width ≡ y.held * y.width = λ j. held j * (room j).1 in
    let words = words-apart x.ring.items y.ring.items r s (x.whole ∙ many ∙ sym y.whole) others in
    (λ j. record { size = (room j).0; width = (room j).1; items = items_in (held j) (room j).1 (words.0 j) }, words.1)

-- ---- stores

-- two with one picture
pub stores-apart : (a b : Store) (words : List ℤ) (w : World) → lasting_frame (world_of a) ≡ lasting_frame (world_of b) → IsPicture words a → IsPicture words b →
    clocked w (world_of a) ≡ clocked w (world_of b)
stores-apart a b words w frame first second =
    let sized = framed-alike a b frame in
    let d1 = list-apart copy_picture copy_size CopyFits copy_view copy-apart a.copies.items b.copies.items _ _ sized.copies first.copies_fit second.copies_fit (sym first.is ∙ second.is) in
    let d2 = words-apart a.shared.items b.shared.items _ _ sized.shared d1.1 in
    let d3 = truths-apart a.flags.items b.flags.items _ _ sized.flags d2.1 in
    let d4 = truths-apart a.ups.items b.ups.items _ _ sized.ups d3.1 in
    let d5 = truths-apart a.valued.items b.valued.items _ _ sized.valued d4.1 in
    let d6 = words-apart a.buffers.items b.buffers.items _ _ sized.buffers d5.1 in
    let d7 = list-apart marks_picture mark_words MarksFit marks_of marks-apart a.marks.items b.marks.items _ _ sized.marks first.marks_fit second.marks_fit d6.1 in
    let d8 = list-apart queue_picture room_of_queue QueueFits queue_view queue-apart a.queues.items b.queues.items _ _ sized.queues first.queues_fit second.queues_fit d7.1 in
    let ws = map truth_word a.waiting.items in
    let us = map truth_word b.waiting.items in
    let d9 = truths-apart a.waiting.items b.waiting.items [] [] sized.waiting (append-nil ws ∙ d8.1 ∙ sym (append-nil us)) in
    let channels = ap (λ (f : Frame). f.channels) frame in
    let ties = ap (λ (f : Frame). f.ties) frame in
    let homes = ap (λ (f : Frame). f.homes) frame in
    λ j. record w {
      copies = d1.0 j;
      shared = d2.0 j;
      flags = d3.0 j;
      channels = channels j;
      ups = d4.0 j;
      valued = d5.0 j;
      ties = ties j;
      homes = homes j;
      buffers = d6.0 j;
      marks = d7.0 j;
      queues = d8.0 j;
      waiting = d9.0 j;
    }
