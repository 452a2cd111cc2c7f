-- Laws of a file of counts that is read line by line.
use Rattle.std.proofs.Common.{◌≡◌, ◌≢◌, ◌<◌, ◌≤◌, ◌+◌, ◌^◌, ◌∙◌, ℕ, List, [], ◌∷◌, ◌++◌, All, ap, append_assoc, arith, drop, get_or, length, sym, take}
use Rattle.std.proofs.lemmas.List.{append-nil, drop_more, length-append, length-drop, length-map, length-take-le, map-append, map_more, take-append-drop, take_all}
use Rattle.std.proofs.lemmas.List.Elements.{All-drop}
use Rattle.snl_tallies.specs.Counts.{IsNoFileOf, counts_of, line_of, names_of, text_of}
use Rattle.snl_tallies.specs.declared.tally.Tally.{Tally}
use Rattle.snl_tallies.proofs.TextLaws.{IsSmall, no-line, rest-once, text-more}

-- ---- written

-- the lines of the counts from a place on are that of the next one, and those behind it
pub write-on : (all : List Tally) (i : ℕ) (a : Tally) (before now start : List ℕ) → i < length all → a ≡ get_or all i a →
    before ++ text_of (names_of (drop i all)) (counts_of (drop i all)) ≡ start → now ≡ before ++ line_of a.name.items a.count →
    now ++ text_of (names_of (drop (i + 1) all)) (counts_of (drop (i + 1) all)) ≡ start
write-on all i a before now start below is whole added =
    let rest = drop (i + 1) all in
    let lines : List Tally → List ℕ = λ l. text_of (names_of l) (counts_of l) in
    ap (λ l. l ++ lines rest) added ∙ append_assoc before (line_of a.name.items a.count) (lines rest)
    ∙ ap (λ l. before ++ lines l) (ap (λ x. x ∷ rest) is ∙ sym (drop_more all i a below)) ∙ whole

-- ---- read

-- as many names as counts were taken
names-taken : (all : List Tally) (i : ℕ) → i ≤ length all → length (names_of (take i all)) ≡ i
names-taken all i below = length-map (take i all) (λ (t : Tally). t.name.items) ∙ length-take-le i all below

-- the names are those that were taken, and those that are left
names-parted : (all : List Tally) (i : ℕ) → names_of all ≡ names_of (take i all) ++ names_of (drop i all)
names-parted all i = ap names_of (sym (take-append-drop i all)) ∙ map-append (λ (t : Tally). t.name.items) (take i all) (drop i all)

-- one line more was read
pub read-on : (all : List Tally) (i : ℕ) (a : Tally) (ns : List ℕ) (n : ℕ) (text rest behind : List ℕ) → i < length all → a ≡ get_or all i a → length ns ≡ i →
    text ≡ text_of (names_of (take i all)) ns ++ rest → rest ≡ line_of a.name.items n ++ behind → text ≡ text_of (names_of (take (i + 1) all)) (ns ++ n ∷ []) ++ behind
read-on all i a ns n text rest behind below is long before line =
    let names = names_of (take i all) in
    let name = a.name.items in
    let front = map_more (λ (t : Tally). t.name.items) all i a below ∙ ap (λ (t : Tally). names ++ t.name.items ∷ []) (sym is) in
    let each = long ∙ sym (names-taken all i (omega (arith, below))) in
    let more = text-more names ns name n each ∙ ap (λ l. text_of names ns ++ l) (append-nil (line_of name n)) in
    before ∙ ap (λ l. text_of names ns ++ l) line ∙ sym (append_assoc (text_of names ns) (line_of name n) behind)
    ∙ ap (λ l. l ++ behind) (sym (ap (λ k. text_of k (ns ++ n ∷ [])) front ∙ more))

-- a text of which the next line is none of the next name is no file
pub read-no-more : (all : List Tally) (i : ℕ) (a : Tally) (ns text rest : List ℕ) → i < length all → a ≡ get_or all i a → length ns ≡ i → All IsSmall ns →
    text ≡ text_of (names_of (take i all)) ns ++ rest → ((n : ℕ) (behind : List ℕ) → n < 2 ^ 64 → rest ≢ line_of a.name.items n ++ behind) → IsNoFileOf [] (names_of all) text
read-no-more all i a ns text rest below is long small before none = λ cs file.
    let names = names_of (take i all) in
    let name = a.name.items in
    let more = names_of (drop (i + 1) all) in
    let parted : names_of all ≡ names ++ name ∷ more = names-parted all i ∙ ap (λ l. names ++ names_of l) (drop_more all i a below ∙ ap (λ x. x ∷ drop (i + 1) all) (sym is)) in
    let each = long ∙ sym (names-taken all i (omega (arith, below))) in
    let size = file.each ∙ ap length parted in
    let lines = sym before ∙ file.text_is ∙ ap (λ k. text_of k cs) parted in
    let left = rest-once names (name ∷ more) ns cs rest each size small file.small lines in
    let sizes = length-append names (name ∷ more) in
    let cut = length-drop (length ns) cs in
    no-line name more (drop (length ns) cs) rest (omega (arith, size, sizes, cut, each)) (All-drop IsSmall (length ns) cs file.small) none left

-- a text is no file where something follows the lines that were read
pub read-too-much : (all : List Tally) (i : ℕ) (ns text rest : List ℕ) → i ≤ length all → length all ≤ i → length ns ≡ i → All IsSmall ns →
    text ≡ text_of (names_of (take i all)) ns ++ rest → rest ≢ [] → IsNoFileOf [] (names_of all) text
read-too-much all i ns text rest low high long small before some = λ cs file.
    let names = names_of (take i all) in
    let same : names_of all ≡ names ++ [] = ap names_of (sym (take_all i all high)) ∙ sym (append-nil names) in
    let each = long ∙ sym (names-taken all i low) in
    some (rest-once names [] ns cs rest each (file.each ∙ ap length same) small file.small (sym before ∙ file.text_is ∙ ap (λ k. text_of k cs) same))
