-- Laws of lanes: from the bits of a comparison to the bytes at the front of a text.
use Rattle.std.proofs.Common.{◌≡◌, ℕ, ◌+◌, ◌%◌, ◌^◌, ◌<◌, ◌≤◌, Bool, true, false, not, ◌||◌, List, map, length, get_or, take, drop, Fits, w8, refl, sym, ap, ◌∙◌, arith, length-drop, take-add}
use Rattle.std.proofs.lemmas.Bool.{agree_below, agree_below_at}
use Rattle.std.proofs.lemmas.List.{get_or-take, length-map, length-take-le}
use Rattle.std.proofs.lemmas.List.Folds.{list_all-append}
use Rattle.std.proofs.lemmas.List.Elements.{All-from_get_or}
use Rattle.std.proofs.lemmas.List.Sums.{list_all-from_AllPass}
use Rattle.std.proofs.lemmas.Simd.{first_set_mask_l, length-chunk, map-map, mask_l-mod, run_in_chunk_fails, run_in_chunk_le}
use Rattle.std.specs.List.{prefix_len, list_all}
use lib.Lanes.{chunk, mask_l, top}
use Rattle.snl_trace.specs.Reading.{IsFront, lowest_of}

-- a comparison of the first bytes of a text, which answers something of each, and how many there are before the lowest bit of what it
-- answers
module _ (has : ℕ → Bool) (text : List ℕ) (lanes count : ℕ) (compared : List ℕ) (room : lanes ≤ length text) (few : lanes ≤ 64)
    (fits : (k : ℕ) → Fits w8 (get_or text k 0)) (counted : count ≡ lowest_of lanes (mask_l (map (top 7) compared) % 2 ^ 64))
    (compare : ℕ → ℕ) (is : compared ≡ map compare (chunk 0 lanes text)) where
  -- whether it stops at a byte
  abbrev stops : ℕ → Bool
  stops byte = top 7 (compare byte)

  -- the text has so many
  inside : 0 + lanes ≤ length text
  inside = omega (arith, room)

  -- as many bytes are compared as there are lanes
  long : length (chunk 0 lanes text) ≡ lanes
  long = length-chunk 0 lanes text inside

  -- the count is that of the bytes before the first at which it stops
  before : count ≡ prefix_len (λ byte. not (stops byte)) (chunk 0 lanes text)
  before =
      let bytes = chunk 0 lanes text in
      let mask = ap (λ l. mask_l l % 2 ^ 64) (ap (map (top 7)) is ∙ map-map (top 7) compare bytes) ∙ mask_l-mod (map stops bytes) 64 (omega (arith, length-map bytes stops, long)) in
      counted ∙ ap (lowest_of lanes) mask ∙ first_set_mask_l stops bytes lanes long few

  -- where it stops at each byte without the class, those have the class
  passes : agree_below (λ byte. stops byte || has byte) (λ _. true) 256 ≡ true → (k : ℕ) → k < count → has (get_or text k 0) ≡ true
  passes each k below =
      sym (ap (λ b. b || has (get_or text k 0)) (run_in_chunk_fails stops text 0 lanes count 0 inside before k (omega arith) (omega (arith, below))))
      ∙ agree_below_at (λ byte. stops byte || has byte) (λ _. true) 256 (get_or text k 0) each (fits k).fits

  -- there are no more than lanes
  pub lanes_few : count ≤ lanes
  lanes_few = run_in_chunk_le stops text 0 lanes count 0 inside before

  -- so they are a front of the class
  pub lanes_front : agree_below (λ byte. stops byte || has byte) (λ _. true) 256 ≡ true → IsFront has count text
  lanes_front each =
      let within : count ≤ length text = omega (arith, lanes_few, room) in
      let size = length-take-le count text within in record {
        within = within;
        all = list_all-from_AllPass has (take count text) (All-from_get_or (λ byte. has byte ≡ true) (take count text) 0
            (λ k below. let small : k < count = omega (arith, size, below) in ap has (get_or-take count text k 0 small) ∙ passes each k small));
      }

-- bytes of a class at the front, and behind them more of the class
pub front-joins : (has : ℕ → Bool) (count more : ℕ) (text : List ℕ) → IsFront has count text → IsFront has more (drop count text) → IsFront has (count + more) text
front-joins has count more text first then = record {
  within = omega (arith, first.within, then.within, length-drop count text);
  all = ap (list_all has) (take-add count more text) ∙ list_all-append has (take count text) (take more (drop count text)) ∙ rw (first.all, then.all) refl;
}
