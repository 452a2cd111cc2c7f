-- Laws of runs that are folded.
use Rattle.std.proofs.Common.{◌≡◌, ◌≤◌, ◌<◌, ◌+◌, ◌-◌, ℕ, true, false, List, [], ◌∷◌, ◌++◌, Option, None, Some, Result, Ok, Err, length, take, drop, map, refl, sym, ap, ◌∙◌, arith, append_assoc, append-nil, length-append, if◌then◌else◌, subst}
use Rattle.std.specs.Prelude.{All, slice_get}
use Rattle.std.proofs.lemmas.List.{map-append, take-append-drop, length-map}
use Rattle.std.proofs.lemmas.List.Elements.{All-append, All-cons, All-nil, All-push}
use Rattle.circular_buffer.proofs.Places.{slice_get-append_right}
use Rattle.circular_buffer.specs.Buffer.{keep_last}
use Rattle.std.proofs.lemmas.Option.{none-some, same_Some}
use Rattle.snl_output.proofs.Writing.{told_more-told_more}
use Rattle.snl_output.specs.Devices.{told_more, Wrote}
use Rattle.snl_output.specs.declared.sinks.SinkFault.{SinkFault}
use Rattle.std.specs.Result.{OnOk}
use Rattle.std.proofs.Math.Logic.{∥∥₁_map}
use Rattle.snl_output.specs.Lines.{joined}
use Rattle.snl_watch.specs.Blocks.{is_none, told_again}
use Rattle.snl_watch.specs.Folding.{IsFolded, IsNoted, Piece, Line, Note, StandFor, last_of, lines_behind, lines_of, repeated, without_time, written, are_notes}
use Rattle.snl_watch.specs.Folds.{Folds, TellsMore, ends_line, is_in_line, lines_held, lines_on, pieces_of, texts_of, unfolded}
use Rattle.snl_watch.specs.Recents.{recent_texts}
use Rattle.snl_watch.specs.Turning.{Turning}
use Rattle.snl_watch.specs.declared.block.Block.{Block}
use Rattle.snl_watch.specs.declared.recent.Recent.{Recent}
use Rattle.snl_output.proofs.Writing.{told_more-nil, told_more-told_more}
use Rattle.std.proofs.Math.Seq.{take-append-add}
use Rattle.snl_watch.proofs.FoldTexts.{again-noted, again_of, released, released-lines, written-append}
use Rattle.snl_watch.proofs.LineLaws.{goes-on-unended}
use Rattle.snl_watch.proofs.StandLaws.{folded-more, held-more, stand-released}
use Rattle.snl_watch.proofs.TurningLaws.{turned-whole, turns}

-- a line that was ended is one more
pub cut-ended : (run line rest : List ℕ) (lines : List (List ℕ)) → lines_of (run ++ rest) ≡ lines ++ lines_on line rest → ends_line line ≡ true →
    lines_of (run ++ rest) ≡ (lines ++ line ∷ []) ++ lines_on [] rest
cut-ended run line rest lines is ends =
    is ∙ ap (λ b. lines ++ (if b then line ∷ lines_of rest else lines_behind line rest)) ends ∙ sym (append_assoc lines (line ∷ []) (lines_of rest))

-- its text is one more
pub texts-more : (lines : List (List ℕ)) (line : List ℕ) → map without_time (lines ++ line ∷ []) ≡ map without_time lines ++ without_time line ∷ []
texts-more lines line = map-append without_time lines (line ∷ [])

-- what is known of the last lines goes on
pub record Knows (lines : List (List ℕ)) (recent : Recent) : Type 0 where
  pub older : List (List ℕ)
  pub is : lines ≡ older ++ recent_texts recent

-- with one more
pub knows-more : (lines older : List (List ℕ)) (text : List ℕ) (n : ℕ) (recent recent' : Recent) → lines ≡ older ++ recent_texts recent →
    recent_texts recent' ≡ keep_last n (recent_texts recent ++ text ∷ []) → Knows (lines ++ text ∷ []) recent'
knows-more lines older text n recent recent' is kept =
    let all : List (List ℕ) = recent_texts recent ++ text ∷ [] in
    let k : ℕ = length all - n in
    record {
      older = older ++ take k all;
      is = ap (λ l. l ++ text ∷ []) is ∙ append_assoc older (recent_texts recent) (text ∷ []) ∙ ap (λ l. older ++ l) (sym (take-append-drop k all))
          ∙ sym (append_assoc older (take k all) (drop k all)) ∙ ap (λ l. (older ++ take k all) ++ l) (sym kept);
    }

-- with none
pub knows-none : (lines : List (List ℕ)) (recent' : Recent) → recent_texts recent' ≡ [] → Knows lines recent'
knows-none lines recent' none = record { older = lines; is = sym (append-nil lines) ∙ ap (λ l. lines ++ l) (sym none) }

-- no block comes again behind what is written
pub begins-at : {A : Type 0} (all done : List A) (size times : ℕ) → done ≡ all → times ≡ 0 → size ≤ length all → Turning all done size times []
begins-at all done size times same none within = record {
  rest = last_of size done;
  all_is = sym same ∙ sym (append-nil done) ∙ ap (λ k. done ++ (repeated k (last_of size done) ++ [])) (sym none);
  block = refl;
  turned = ap (last_of size) (sym same) ∙ sym (append-nil (last_of size done));
  within = omega (arith, within, ap length same);
}

-- a line was written, behind what was left of a block
pub printed : (run output line note : List ℕ) (recent recent' : Recent) (block block' : Block) → Folds run output line recent block → ends_line line ≡ true →
    are_notes note ≡ true → ((lines older : List (List ℕ)) → lines ≡ older ++ recent_texts recent → Knows (lines ++ without_time line ∷ []) recent') →
    block'.size ≤ length (recent_texts recent') → block'.times ≡ 0 → block'.count ≡ 0 → block'.held.items ≡ [] →
    Folds run ((output ++ (told_again block ++ block.held.items)) ++ (note ++ line)) [] recent' block'
printed run output line note recent recent' block block' f ends is_note knows size times count held =
    let texts : List (List ℕ) = map without_time f.lines in
    let known : Knows (texts ++ without_time line ∷ []) recent' = knows texts f.older f.known in
    let all : map without_time (f.lines ++ line ∷ []) ≡ texts ++ without_time line ∷ [] = texts-more f.lines line in
    let more : List Piece = Line note line ∷ [] in
    let pieces : List Piece = f.pieces ++ (again_of block ++ (pieces_of f.held ++ more)) in
    let done : unfolded pieces ≡ map without_time (f.lines ++ line ∷ []) = released-lines texts f.pieces f.held block more f.turning ∙ sym all in
    let text : joined (map written pieces) ≡ joined (map written f.pieces) ++ ((told_again block ++ block.held.items) ++ (note ++ line)) =
    written-append f.pieces (again_of block ++ (pieces_of f.held ++ more)) ∙ ap (λ t. joined (map written f.pieces) ++ t)
    (released block (pieces_of f.held) more f.held_is ∙ ap (λ t. (told_again block ++ block.held.items) ++ t) (append-nil (note ++ line))) in
    record {
      lines = f.lines ++ line ∷ [];
      pieces = pieces;
      held = [];
      older = known.older;
      cut = λ rest. cut-ended run line rest f.lines (f.cut rest) ends;
      output_is = append_assoc output (told_again block ++ block.held.items) (note ++ line) ∙ ap (λ t. t ++ ((told_again block ++ block.held.items) ++ (note ++ line))) f.output_is ∙ sym text;
      noted = All-append IsNoted f.pieces (again_of block ++ (pieces_of f.held ++ more)) f.noted (All-append IsNoted (again_of block) (pieces_of f.held ++ more) (again-noted block)
          (All-append IsNoted (pieces_of f.held) more f.held_noted (All-cons IsNoted (Line note line) [] is_note (All-nil IsNoted))));
      held_noted = All-nil IsNoted;
      held_is = held;
      count_is = count;
      told = f.lines ++ line ∷ [];
      folded = [];
      stand = stand-released f.lines f.told f.folded f.pieces more f.held block (line ∷ []) f.stand f.lines_are f.turning (λ before. (line ∷ [], ([], (refl, (refl, refl)))));
      lines_are = sym (append-nil (f.lines ++ line ∷ []));
      turning = begins-at (map without_time (f.lines ++ line ∷ [])) (unfolded pieces) block'.size block'.times done times
          (omega (arith, size, ap length all, ap length known.is, length-append known.older (recent_texts recent')));
      known = all ∙ known.is;
    }

-- the same turning, by what it speaks of
pub turning-as : {A : Type 0} (all all' done : List A) (size size' times times' : ℕ) (held held' : List A) → all ≡ all' → size ≡ size' → times ≡ times' → held ≡ held' →
    Turning all done size times held → Turning all' done size' times' held'
turning-as {A = A} all all' done size size' times times' held held' a s t h turning =
    let named : Turning all' done size' times held = subst (λ it. Turning all' done it times held) s (subst (λ it. Turning it done size times held) a turning) in
    subst (λ it. Turning all' done size' times' it) h (subst (λ it. Turning all' done size' it held) t named)

-- what stands so many before the end of the last lines stands there among all
pub before-end : (lines older last : List (List ℕ)) (size : ℕ) (text : List ℕ) → lines ≡ older ++ last → size ≤ length last →
    slice_get last (length last - size) ≡ Some text → slice_get lines (length lines - size) ≡ Some text
before-end lines older last size text is within at =
    let index : length (older ++ last) - size ≡ length older + (length last - size) = omega (arith, within, length-append older last) in
    ap (λ l. slice_get l (length l - size)) is ∙ slice_get-append_right older last (length (older ++ last) - size) (length last - size) index ∙ at

-- a line of a block that comes again is held
pub held-line : (run output line note : List ℕ) (recent recent' : Recent) (block block' : Block) (n : ℕ) → Folds run output line recent block → ends_line line ≡ true →
    are_notes note ≡ true → recent_texts recent' ≡ keep_last n (recent_texts recent ++ without_time line ∷ []) → 0 < block.size →
    block.size ≤ length (recent_texts recent) → slice_get (recent_texts recent) (length (recent_texts recent) - block.size) ≡ Some (without_time line) →
    block.count + 1 < block.size → block'.size ≡ block.size → block'.times ≡ block.times → block'.count ≡ block.count + 1 →
    block'.held.items ≡ block.held.items ++ (note ++ line) → Folds run output [] recent' block'
held-line run output line note recent recent' block block' n f ends is_note kept some within at few size times count held =
    let texts : List (List ℕ) = map without_time f.lines in
    let known : Knows (texts ++ without_time line ∷ []) recent' = knows-more texts f.older (without_time line) n recent recent' f.known kept in
    let all : map without_time (f.lines ++ line ∷ []) ≡ texts ++ without_time line ∷ [] = texts-more f.lines line in
    let one : List (List ℕ × List ℕ) = (note, line) ∷ [] in
    let size_held : length (texts_of f.held) ≡ length f.held = length-map f.held (λ h. without_time h.1) in
    let turned : Turning (texts ++ without_time line ∷ []) (unfolded f.pieces) block.size block.times (texts_of f.held ++ without_time line ∷ []) =
    turns texts (unfolded f.pieces) (texts_of f.held) block.size block.times (without_time line) f.turning some
    (omega (arith, within, ap length f.known, length-append f.older (recent_texts recent))) (before-end texts f.older (recent_texts recent) block.size (without_time line) f.known within at)
    (omega (arith, few, f.count_is, size_held)) in
    record {
      lines = f.lines ++ line ∷ [];
      pieces = f.pieces;
      held = f.held ++ one;
      older = known.older;
      cut = λ rest. cut-ended run line rest f.lines (f.cut rest) ends;
      output_is = f.output_is;
      noted = f.noted;
      held_noted = subst (All IsNoted) (sym (map-append (λ h. Line h.0 h.1) f.held one)) (All-push IsNoted (pieces_of f.held) (Line note line) f.held_noted is_note);
      held_is = held ∙ ap (λ t. t ++ (note ++ line)) f.held_is ∙ ap (λ t. joined (map written (pieces_of f.held)) ++ t) (sym (append-nil (note ++ line)))
          ∙ sym (written-append (pieces_of f.held) (Line note line ∷ [])) ∙ ap (λ ps. joined (map written ps)) (sym (map-append (λ h. Line h.0 h.1) f.held one));
      count_is = omega (arith, count, f.count_is, length-append f.held one);
      told = f.told;
      folded = f.folded;
      stand = f.stand;
      lines_are = held-more f.lines f.told f.folded f.held note line f.lines_are;
      turning = turning-as _ _ _ _ _ _ _ _ _ (sym all) (sym size) (sym times) (sym (map-append (λ h. without_time h.1) f.held one)) turned;
      known = all ∙ known.is;
    }

-- with it the block came once more, whole
pub held-whole : (run output line note : List ℕ) (recent recent' : Recent) (block block' : Block) (n : ℕ) → Folds run output line recent block → ends_line line ≡ true →
    recent_texts recent' ≡ keep_last n (recent_texts recent ++ without_time line ∷ []) → 0 < block.size →
    block.size ≤ length (recent_texts recent) → slice_get (recent_texts recent) (length (recent_texts recent) - block.size) ≡ Some (without_time line) →
    block.count + 1 ≡ block.size → block'.size ≡ block.size → block'.times ≡ block.times + 1 → block'.count ≡ 0 → block'.held.items ≡ [] → Folds run output [] recent' block'
held-whole run output line note recent recent' block block' n f ends kept some within at whole size times count held =
    let texts : List (List ℕ) = map without_time f.lines in
    let known : Knows (texts ++ without_time line ∷ []) recent' = knows-more texts f.older (without_time line) n recent recent' f.known kept in
    let all : map without_time (f.lines ++ line ∷ []) ≡ texts ++ without_time line ∷ [] = texts-more f.lines line in
    let size_held : length (texts_of f.held) ≡ length f.held = length-map f.held (λ h. without_time h.1) in
    let turned : Turning (texts ++ without_time line ∷ []) (unfolded f.pieces) block.size block.times (texts_of f.held ++ without_time line ∷ []) =
    turns texts (unfolded f.pieces) (texts_of f.held) block.size block.times (without_time line) f.turning some
    (omega (arith, within, ap length f.known, length-append f.older (recent_texts recent))) (before-end texts f.older (recent_texts recent) block.size (without_time line) f.known within at)
    (omega (arith, whole, f.count_is, size_held)) in
    let again : Turning (texts ++ without_time line ∷ []) (unfolded f.pieces) block.size (block.times + 1) [] =
    turned-whole (texts ++ without_time line ∷ []) (unfolded f.pieces) (texts_of f.held ++ without_time line ∷ []) block.size block.times turned
    (omega (arith, whole, f.count_is, size_held, length-append (texts_of f.held) (without_time line ∷ []))) in
    record {
      lines = f.lines ++ line ∷ [];
      pieces = f.pieces;
      held = [];
      older = known.older;
      cut = λ rest. cut-ended run line rest f.lines (f.cut rest) ends;
      output_is = f.output_is;
      noted = f.noted;
      held_noted = All-nil IsNoted;
      held_is = held;
      count_is = count;
      told = f.told;
      folded = f.folded ++ (lines_held f.held ++ line ∷ []);
      stand = f.stand;
      lines_are = folded-more f.lines f.told f.folded f.held line f.lines_are;
      turning = turning-as _ _ _ _ _ _ _ _ _ (sym all) (sym size) (sym times) refl again;
      known = all ∙ known.is;
    }

-- what was told, once two texts more were
pub told-both : (old new : Option (List ℕ)) (output output' a b : List ℕ) → new ≡ told_more (told_more old a) b → old ≡ Some output → new ≡ Some output' →
    (output ++ a) ++ b ≡ output'
told-both old new output output' a b is was now = same_Some _ _ (sym (is ∙ ap (λ t. told_more (told_more t a) b) was) ∙ now)

-- what was told, once nothing was
pub told-none : (told : Option (List ℕ)) (output output' : List ℕ) → told ≡ Some output → told ≡ Some output' → output ≡ output'
told-none told output output' was now = same_Some output output' (sym was ∙ now)

-- bytes came behind a line that no newline ended
pub took : (run output line piece : List ℕ) (recent : Recent) (block : Block) → Folds run output line recent block → ends_line line ≡ false → is_in_line piece ≡ true →
    Folds (run ++ piece) output (line ++ piece) recent block
took run output line piece recent block f unended within = record {
  lines = f.lines;
  pieces = f.pieces;
  held = f.held;
  older = f.older;
  cut = λ rest. ap lines_of (append_assoc run piece rest) ∙ f.cut (piece ++ rest) ∙ ap (λ l. f.lines ++ l) (goes-on-unended line piece rest unended within);
  output_is = f.output_is;
  noted = f.noted;
  held_noted = f.held_noted;
  held_is = f.held_is;
  count_is = f.count_is;
  told = f.told;
  folded = f.folded;
  stand = f.stand;
  lines_are = f.lines_are;
  turning = f.turning;
  known = f.known;
}

-- nothing was written
pub nothing : (recent : Recent) (block : Block) → recent_texts recent ≡ [] → is_none block → Folds [] [] [] recent block
nothing recent block none is = record {
  lines = [];
  pieces = [];
  held = [];
  older = [];
  cut = λ rest. refl;
  output_is = refl;
  noted = All-nil IsNoted;
  held_noted = All-nil IsNoted;
  held_is = is.3;
  count_is = is.2;
  told = [];
  folded = [];
  stand = refl;
  lines_are = refl;
  turning = begins-at [] [] block.size block.times refl is.1 (omega (arith, is.0));
  known = sym none;
}

-- the run is over, and notes were written behind it
pub finished : (run output waiting notes : List ℕ) (recent : Recent) (block : Block) → Folds run output [] recent block → are_notes waiting ≡ true →
    are_notes notes ≡ true → IsFolded run ((output ++ (told_again block ++ block.held.items)) ++ (waiting ++ notes))
finished run output waiting notes recent block f is_waiting is_note =
    let more : List Piece = Note waiting ∷ Note notes ∷ [] in
    let pieces : List Piece = f.pieces ++ (again_of block ++ (pieces_of f.held ++ more)) in
    let rest : List ℕ = told_again block ++ block.held.items in
    let text : joined (map written pieces) ≡ joined (map written f.pieces) ++ (rest ++ (waiting ++ notes)) =
    written-append f.pieces (again_of block ++ (pieces_of f.held ++ more)) ∙ ap (λ t. joined (map written f.pieces) ++ t)
    (released block (pieces_of f.held) more f.held_is ∙ ap (λ t. rest ++ (waiting ++ t)) (append-nil notes)) in
    let all : lines_of run ≡ f.lines = ap lines_of (sym (append-nil run)) ∙ f.cut [] ∙ append-nil f.lines in
    record {
      pieces = pieces;
      output_is = append_assoc output rest (waiting ++ notes) ∙ ap (λ t. t ++ (rest ++ (waiting ++ notes))) f.output_is ∙ sym text;
      noted = All-append IsNoted f.pieces (again_of block ++ (pieces_of f.held ++ more)) f.noted (All-append IsNoted (again_of block) (pieces_of f.held ++ more) (again-noted block)
          (All-append IsNoted (pieces_of f.held) more f.held_noted (All-cons IsNoted (Note waiting) (Note notes ∷ []) is_waiting (All-cons IsNoted (Note notes) [] is_note (All-nil IsNoted)))));
      stand = subst (λ (l : List (List ℕ)). StandFor [] pieces l) (append-nil f.lines ∙ sym all)
          (stand-released f.lines f.told f.folded f.pieces more f.held block [] f.stand f.lines_are f.turning (λ before. ([], ([], (refl, (refl, ([], ([], (refl, (refl, refl))))))))));
    }

-- a sink that was told two texts more, and one that was told none
pub tells-both : (old new : Option (List ℕ)) (a b : List ℕ) → new ≡ told_more (told_more old a) b → TellsMore old new
tells-both old new a b is = record { more = a ++ b; is = is ∙ told_more-told_more old a b }

-- one that was told no more
pub tells-none : (told : Option (List ℕ)) → TellsMore told told
tells-none told = record { more = []; is = sym (told_more-nil told) }

-- what a sink told before that tells something now
pub told-before : (old new : Option (List ℕ)) (text : List ℕ) → TellsMore old new → new ≡ Some text → (before : List ℕ) × (old ≡ Some before)
told-before None new text more is = absurd (none-some text (sym more.is ∙ is))
told-before (Some before) new text more is = (before, refl)

-- what a sink told before it was told a piece
pub told-piece : (old new : Option (List ℕ)) (piece run : List ℕ) → new ≡ told_more old piece → new ≡ Some run → (before : List ℕ) × (old ≡ Some before) × (before ++ piece ≡ run)
told-piece None new piece run is now = absurd (none-some run (sym is ∙ now))
told-piece (Some before) new piece run is now = (before, refl, same_Some (before ++ piece) run (sym is ∙ now))

-- a line behind which a piece was put, of which a part was taken
pub line-taken : (line front all new : List ℕ) (before taken : ℕ) → before ≡ length line → all ≡ line ++ front → new ≡ take (before + taken) all → line ++ take taken front ≡ new
line-taken line front all new before taken size is kept =
    sym (take-append-add line front taken) ∙ ap (λ k. take (k + taken) (line ++ front)) (sym size) ∙ ap (take (before + taken)) (sym is) ∙ sym kept

-- the same folding, by what it speaks of
pub folds-as : (run run' output line line' : List ℕ) (recent : Recent) (block : Block) → run ≡ run' → line ≡ line' → Folds run output line recent block →
    Folds run' output line' recent block
folds-as run run' output line line' recent block r l f = subst (λ it. Folds run' output it recent block) l (subst (λ it. Folds it output line recent block) r f)

-- the run is over, by what was told of it
pub finished-by : (r : Result (Unit {0}) SinkFault) (line waiting notes : List ℕ) (recent : Recent) (block : Block) (witness told mid new : Option (List ℕ)) →
    ((run output : List ℕ) → witness ≡ Some run → told ≡ Some output → ∥ Folds run output line recent block ∥₁) → line ≡ [] → are_notes waiting ≡ true →
    are_notes notes ≡ true → mid ≡ told_more told (told_again block ++ block.held.items) → Wrote r (waiting ++ (notes ++ [])) mid new →
    OnOk r ((run output : List ℕ) → witness ≡ Some run → new ≡ Some output → ∥ IsFolded run output ∥₁)
finished-by (Err fault) line waiting notes recent block witness told mid new folds none is_waiting is_note mid_is wrote = tt
finished-by (Ok done) line waiting notes recent block witness told mid new folds none is_waiting is_note mid_is wrote = λ run output was now.
    let rest : List ℕ = told_again block ++ block.held.items in
    let more : List ℕ = waiting ++ notes in
    let both : new ≡ told_more (told_more told rest) more = wrote ∙ ap (λ t. told_more mid (waiting ++ t)) (append-nil notes) ∙ ap (λ o. told_more o more) mid_is in
    let before = told-before told new output (tells-both told new rest more both) now in
    ∥∥₁_map (folds run before.0 was before.1) (λ f. subst (IsFolded run) (told-both told new before.0 output rest more both before.1 now)
    (finished run before.0 waiting notes recent block (folds-as run run before.0 line [] recent block refl none f) is_waiting is_note))

-- no element
pub none-of : (xs : List ℕ) → length xs ≡ 0 → xs ≡ []
none-of [] none = refl
none-of (x ∷ xs) none = absurd (omega (arith, none))

-- what is folded stays where the same lines are kept
pub recents-as : (run output line : List ℕ) (recent recent' : Recent) (block : Block) → recent'.lines ≡ recent.lines → Folds run output line recent block →
    Folds run output line recent' block
recents-as run output line recent recent' block same f = record {
  lines = f.lines;
  pieces = f.pieces;
  held = f.held;
  older = f.older;
  cut = f.cut;
  output_is = f.output_is;
  noted = f.noted;
  held_noted = f.held_noted;
  held_is = f.held_is;
  count_is = f.count_is;
  told = f.told;
  folded = f.folded;
  stand = f.stand;
  lines_are = f.lines_are;
  turning = f.turning;
  known = f.known ∙ ap (λ t. f.older ++ map (λ line. without_time line.items) t.items) (sym same);
}

-- what holds after a call that went well, where something that follows from it is asked for
pub on-ok : {A E : Type 0} (r : Result A E) (P Q : Type 0) → (P → Q) → OnOk r P → OnOk r Q
on-ok (Ok x) P Q f p = f p
on-ok (Err e) P Q f p = p

-- a text and another behind it were written
pub wrote-both : {A : Type 0} (r : Result A SinkFault) (first second : List ℕ) (old mid new : Option (List ℕ)) → mid ≡ told_more old first → Wrote r second mid new →
    OnOk r (new ≡ told_more old (first ++ second))
wrote-both (Ok x) first second old mid new one two = two ∙ ap (λ t. told_more t second) one ∙ told_more-told_more old first second
wrote-both (Err e) first second old mid new one two = tt
