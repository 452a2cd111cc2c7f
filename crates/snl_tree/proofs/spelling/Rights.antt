-- Readers that are right at every depth, in one record of laws, and the ways of joining them.
use Rattle.std.proofs.Common.{◌≡◌, ℕ, suc, ◌+◌, Bool, true, false, List, [], ◌∷◌, ◌++◌, Option, Some, None, Ok, Err, ◌⊎◌, inl, inr, refl, sym, subst, arith, ◌<◌, ◌≤◌, length}
use Rattle.snl_text.specs.declared.tokens.Token.{Token}
use Rattle.snl_text.specs.declared.kinds.Kind.{Kind}
use Rattle.snl_syntax.specs.Kinds.{is}
use Rattle.snl_syntax.specs.Slots.{Slot, The, Sign, Spelled}
use Rattle.snl_tree.specs.reading.Readers.{Read, Reader, starts, one, sign, both, either, nothing, many, made, ◌>>=◌}
use Rattle.snl_syntax.specs.Sequences.{maybe_slots, IfThere, sign_slots, row_slots, Each, EachOfSome, parted_slots}
use Rattle.snl_tree.specs.reading.Sequences.{maybe, whether, behind, before, between, some_of, parted}
use Rattle.snl_tree.proofs.spelling.Spelling.{spelled_length}
use Rattle.snl_tree.proofs.spelling.Laws.{Shape, Sound, Reads, Links}
use Rattle.snl_tree.proofs.spelling.Both.{reads_both}
use Rattle.snl_tree.proofs.spelling.Choices.{Heads, Avoids, is_true, true_is, reads_one, reads_sign, reads_nothing, either_shape, reads_either, reads_made}
use Rattle.snl_tree.proofs.spelling.Lists.{reads_many}
use Rattle.snl_tree.proofs.grammar.Inside.{links_any}
use Rattle.snl_tree.proofs.spelling.Growth.{Grows, grows_one, grows_sign, grows_nothing, grows_made, grows_both, grows_either, grows_many}

-- What is read at each depth: a spelling, when it is well formed at a depth, and what may follow.
pub record Form (A : Type 0) : Type 1 where
  pub slots : A → List Slot
  pub good : ℕ → A → Type 0
  pub follow : A → Kind → Type 0

-- what is read at one depth
abbrev pub at_depth : {A : Type 0} → Form A → ℕ → Shape A
at_depth F n = record { slots = F.slots; good = F.good n; follow = F.follow }

-- A reader is right at every depth.
pub record Right {A : Type 0} (F : Form A) (read : ℕ → Reader A) : Type 0 where
  pub reads : (n : ℕ) → Reads (at_depth F n) (read n)
  -- with more depth the same is read, but it goes on past what was too deep
  pub grows : (n k : ℕ) → Grows (read n) (read (suc n + k))
  -- something well formed, to fill what is left open
  pub some : (n : ℕ) → (a : A) × F.good n a
  -- what is well formed stays so where more depth is left
  pub raise : (n : ℕ) (a : A) → F.good n a → F.good (suc n) a

-- one token

-- a token of a kind, with no text
abbrev pub token_of : Kind → Token
token_of k = record { kind = k; text = record { ref_ptr = (0, 0); now = [] }; pos = record { offset = 0; file = 0; line = 1 } }

-- a token of a kind that passes a test, at any depth
abbrev pub one_form : (Kind → Bool) → Form Token
one_form test = record { slots = λ t. The t ∷ []; good = λ _ t. test t.kind ≡ true; follow = λ _ _. Unit {0} }

-- the reader of one token is right where some token passes its test
pub right_one : (test : Kind → Bool) (t : Token) → test t.kind ≡ true → Right (one_form test) (λ _. one test)
right_one test t e = record { reads = λ _. reads_one test; grows = λ _ _. grows_one test; some = λ _. (t, e); raise = λ _ _ g. g }

-- the reader of a token of one kind is right
pub right_kind : (k : Kind) → Right (one_form (is k)) (λ _. one (is k))
right_kind k = right_one (is k) (token_of k) (true_is k _ refl)

-- any token of a kind, which the tree drops, at any depth
abbrev pub sign_form : Kind → Form (Unit {0})
sign_form k = record { slots = λ _. Sign k ∷ []; good = λ _ _. Unit {0}; follow = λ _ _. Unit {0} }

-- the reader of a sign is right
pub right_sign : (k : Kind) → Right (sign_form k) (λ _. sign k)
right_sign k = record { reads = λ _. reads_sign k; grows = λ _ _. grows_sign k; some = λ _. (tt, tt); raise = λ _ _ g. g }

-- nothing

-- nothing at all, which the kinds of P may follow, at any depth
abbrev pub nothing_form : (Kind → Type 0) → Form (Unit {0})
nothing_form P = record { slots = λ _. []; good = λ _ _. Unit {0}; follow = λ _ k. P k }

-- the reader of nothing is right
pub right_nothing : (P : Kind → Type 0) → Right (nothing_form P) (λ _. nothing)
right_nothing P = record { reads = λ _. reads_nothing P; grows = λ _ _. grows_nothing; some = λ _. (tt, tt); raise = λ _ _ g. g }

-- one thing and then another

-- one thing and then another whose form may hang on the first
abbrev pub both_form : {A B : Type 0} → Form A → (A → Form B) → Form (A × B)
both_form F G = record {
  slots = λ x. F.slots x.0 ++ (G x.0).slots x.1;
  good = λ n x. F.good n x.0 × (G x.0).good n x.1;
  follow = λ x. (G x.0).follow x.1;
}

-- the reader of two things is right where each is and the second may follow the first
pub right_both : {A B : Type 0} (F : Form A) (G : A → Form B) (first : ℕ → Reader A) (second : ℕ → A → Reader B) → Right F first → ((a : A) → Right (G a) (λ n. second n a))
    → ((n : ℕ) (a : A) (b : B) → F.good n a → (G a).good n b → Links (F.follow a) ((G a).follow b) ((G a).slots b))
    → Right (both_form F G) (λ n. both (first n) (second n))
right_both F G first second one two link = record {
  reads = λ n. reads_both (at_depth F n) (λ a. at_depth (G a) n) (first n) (second n) (one.reads n) (λ a _. (two a).reads n) (link n) (λ a _. (two a).some n);
  grows = λ n k. grows_both (first n) (first (suc n + k)) (second n) (second (suc n + k)) (one.grows n k) (λ a. (two a).grows n k);
  some = λ n. (((one.some n).0, ((two (one.some n).0).some n).0), ((one.some n).1, ((two (one.some n).0).some n).1));
  raise = λ n x g. (one.raise n x.0 g.0, (two x.0).raise n x.1 g.1);
}

-- what is made of parts

-- a reader is right that makes each well-formed thing of what a right one reads
pub right_made : {A B : Type 0} (F : Form A) (G : Form B) (make : A → B) (read : ℕ → Reader A) → Right F read
    → ((n : ℕ) (a : A) → F.good n a → G.good n (make a) × (G.slots (make a) ≡ F.slots a))
    → ((n : ℕ) (b : B) → G.good n b → (a : A) × F.good n a × (make a ≡ b))
    → ((n : ℕ) (a : A) → F.good n a → (k : Kind) → G.follow (make a) k → F.follow a k)
    → Right G (λ n. made make (read n))
right_made F G make read laws into onto follows = record {
  reads = λ n. reads_made (at_depth F n) (at_depth G n) make (read n) (laws.reads n) (into n) (onto n) (follows n);
  grows = λ n k. grows_made make (read n) (read (suc n + k)) (laws.grows n k);
  some = λ n. (make (laws.some n).0, (into n (laws.some n).0 (laws.some n).1).0);
  raise = λ n b g. let p = onto n b g in subst (G.good (suc n)) p.2 (into (suc n) p.0 (laws.raise n p.0 p.1)).0;
}

-- a choice by the first token

-- one thing or another
abbrev pub either_form : {A B : Type 0} → Form A → Form B → Form (A ⊎ B)
either_form F G = record {
  slots = (either_shape (at_depth F 0) (at_depth G 0)).slots;
  good = λ n. (either_shape (at_depth F n) (at_depth G n)).good;
  follow = (either_shape (at_depth F 0) (at_depth G 0)).follow;
}

-- a choice by the first token is right even if nothing is well formed in its first form
either_laws : {A B : Type 0} (test : Kind → Bool) (F : Form A) (G : Form B) (first : ℕ → Reader A) (second : ℕ → Reader B)
    → ((n : ℕ) → Reads (at_depth F n) (first n)) → ((n k : ℕ) → Grows (first n) (first (suc n + k))) → ((n : ℕ) (a : A) → F.good n a → F.good (suc n) a)
    → Right G second
    → ((n : ℕ) (a : A) → F.good n a → Heads (λ k. test k ≡ true) (F.slots a))
    → ((n : ℕ) (b : B) → G.good n b → Avoids test (G.follow b) (G.slots b))
    → Right (either_form F G) (λ n. either test (first n) (second n))
either_laws {A} {B} test F G first second reads grows raise two heads avoids = record {
  reads = λ n. reads_either test (at_depth F n) (at_depth G n) (first n) (second n) (reads n) (two.reads n) (heads n) (avoids n);
  grows = λ n k. grows_either test (first n) (first (suc n + k)) (second n) (second (suc n + k)) (grows n k) (two.grows n k);
  some = λ n. (inr (two.some n).0, (two.some n).1);
  raise = raises;
}
  where
    raises : (n : ℕ) (x : A ⊎ B) → (either_form F G).good n x → (either_form F G).good (suc n) x
    raises n (inl a) g = raise n a g
    raises n (inr b) g = two.raise n b g

-- a choice by the first token is right where the test tells the two things apart
pub right_either : {A B : Type 0} (test : Kind → Bool) (F : Form A) (G : Form B) (first : ℕ → Reader A) (second : ℕ → Reader B) → Right F first → Right G second
    → ((n : ℕ) (a : A) → F.good n a → Heads (λ k. test k ≡ true) (F.slots a))
    → ((n : ℕ) (b : B) → G.good n b → Avoids test (G.follow b) (G.slots b))
    → Right (either_form F G) (λ n. either test (first n) (second n))
right_either test F G first second one two heads avoids = either_laws test F G first second one.reads one.grows one.raise two heads avoids

-- a reader that gives the same as a right one is right
pub right_same : {A : Type 0} (F : Form A) (low high : ℕ → Reader A) → ((n : ℕ) (ts : List Token) → low n ts ≡ high n ts) → Right F low → Right F high
right_same F low high same laws = let e : low ≡ high = λ i n ts. same n ts i in subst (λ r. Right F r) e laws

-- something that may be missing

-- what may follow something that may be missing
abbrev pub maybe_follow : {A : Type 0} → Form A → (Kind → Type 0) → Option A → Kind → Type 0
maybe_follow F P None k = P k
maybe_follow F P (Some a) k = F.follow a k

-- a thing, or nothing where the kinds of P may follow
abbrev pub maybe_form : {A : Type 0} → Form A → (Kind → Type 0) → Form (Option A)
maybe_form F P = record { slots = maybe_slots F.slots; good = λ n. IfThere (F.good n); follow = maybe_follow F P }

-- the first thing, or none in place of nothing
abbrev setting_of : {A : Type 0} → A ⊎ Unit {0} → Option A
setting_of (inl a) = Some a
setting_of (inr u) = None

-- something that may be missing is read as a choice between it and nothing
maybe_same : {A : Type 0} (test : Kind → Bool) (item : Reader A) (ts : List Token) → made setting_of (either test item nothing) ts ≡ maybe test item ts
maybe_same {A} test item ts = go (starts test ts)
  where
    some : (r : Read A) → ◌≡◌ {A = Read (Option A)} (let s : Read (A ⊎ Unit {0}) = (r >>= λ x. Ok (inl x.0, x.1)) in s >>= λ x. Ok (setting_of x.0, x.1)) (r >>= λ x. Ok (Some x.0, x.1))
    some (Ok x) = refl
    some (Err f) = refl

    go : (b : Bool) → ◌≡◌ {A = Read (Option A)} (let s : Read (A ⊎ Unit {0}) = elim b [ true ↦ (item ts >>= λ x. Ok (inl x.0, x.1)) | false ↦ (nothing ts >>= λ y. Ok (inr y.0, y.1)) ] in s
        >>= λ x. Ok (setting_of x.0, x.1)) (elim b [ true ↦ (item ts >>= λ x. Ok (Some x.0, x.1)) | false ↦ Ok (None, ts) ])
    go true = some (item ts)
    go false = refl

-- the reader of something that may be missing is right even if nothing of it is well formed
maybe_laws : {A : Type 0} (test : Kind → Bool) (F : Form A) (P : Kind → Type 0) (item : ℕ → Reader A)
    → ((n : ℕ) → Reads (at_depth F n) (item n)) → ((n k : ℕ) → Grows (item n) (item (suc n + k))) → ((n : ℕ) (a : A) → F.good n a → F.good (suc n) a)
    → ((n : ℕ) (a : A) → F.good n a → Heads (λ k. test k ≡ true) (F.slots a))
    → ((k : Kind) → P k → test k ≡ false)
    → Right (maybe_form F P) (λ n. maybe test (item n))
maybe_laws {A} test F P item reads grows raise heads stop =
    right_same (maybe_form F P) (λ n. made setting_of (either test (item n) nothing)) (λ n. maybe test (item n)) (λ n ts. maybe_same test (item n) ts)
    (right_made (either_form F (nothing_form P)) (maybe_form F P) setting_of (λ n. either test (item n) nothing)
    (either_laws test F (nothing_form P) item (λ _. nothing) reads grows raise (right_nothing P) heads (λ _ _ _. stop)) into onto follows)
  where
    into : (n : ℕ) (x : A ⊎ Unit {0}) → (either_form F (nothing_form P)).good n x → IfThere (F.good n) (setting_of x) × (maybe_slots F.slots (setting_of x) ≡ (either_form F (nothing_form P)).slots x)
    into n (inl a) g = (g, refl)
    into n (inr u) g = (tt, refl)

    onto : (n : ℕ) (o : Option A) → IfThere (F.good n) o → (x : A ⊎ Unit {0}) × (either_form F (nothing_form P)).good n x × (setting_of x ≡ o)
    onto n None g = (inr tt, tt, refl)
    onto n (Some a) g = (inl a, g, refl)

    follows : (n : ℕ) (x : A ⊎ Unit {0}) → (either_form F (nothing_form P)).good n x → (k : Kind) → maybe_follow F P (setting_of x) k → (either_form F (nothing_form P)).follow x k
    follows n (inl a) g k f = f
    follows n (inr u) g k f = f

-- the reader of something that may be missing is right where the thing's reader is
pub right_maybe : {A : Type 0} (test : Kind → Bool) (F : Form A) (P : Kind → Type 0) (item : ℕ → Reader A) → Right F item
    → ((n : ℕ) (a : A) → F.good n a → Heads (λ k. test k ≡ true) (F.slots a))
    → ((k : Kind) → P k → test k ≡ false)
    → Right (maybe_form F P) (λ n. maybe test (item n))
right_maybe test F P item laws heads stop = maybe_laws test F P item laws.reads laws.grows laws.raise heads stop

-- the reader of a token that may be missing is right where what follows fails its test
pub right_maybe_one : (test : Kind → Bool) (P : Kind → Type 0) → ((k : Kind) → P k → test k ≡ false) → Right (maybe_form (one_form test) P) (λ _. maybe test (one test))
right_maybe_one test P stop = maybe_laws test (one_form test) P (λ _. one test) (λ _. reads_one test) (λ _ _. grows_one test) (λ _ _ g. g) (λ _ _ g. g) stop

-- whether a sign is there

-- what may follow a sign that may be missing
abbrev pub whether_follow : (Kind → Type 0) → Bool → Kind → Type 0
whether_follow P true k = Unit {0}
whether_follow P false k = P k

-- whether a sign is there, and the kinds of P may follow where it is not
abbrev pub whether_form : Kind → (Kind → Type 0) → Form Bool
whether_form k P = record { slots = sign_slots k; good = λ _ _. Unit {0}; follow = whether_follow P }

-- something is there
abbrev is_there : Option (Unit {0}) → Bool
is_there None = false
is_there (Some u) = true

-- whether a sign is there is read as a sign that may be missing
whether_same : (k : Kind) (ts : List Token) → made is_there (maybe (is k) (sign k)) ts ≡ whether k ts
whether_same k ts = go (starts (is k) ts)
  where
    some : (r : Read (Unit {0})) → ◌≡◌ {A = Read Bool} (let s : Read (Option (Unit {0})) = (r >>= λ x. Ok (Some x.0, x.1)) in s >>= λ x. Ok (is_there x.0, x.1)) (r >>= λ x. Ok (true, x.1))
    some (Ok x) = refl
    some (Err f) = refl

    go : (b : Bool) → ◌≡◌ {A = Read Bool} (let s : Read (Option (Unit {0})) = elim b [ true ↦ (sign k ts >>= λ x. Ok (Some x.0, x.1)) | false ↦ Ok (None, ts) ] in s >>= λ x.
        Ok (is_there x.0, x.1)) (elim b [ true ↦ (sign k ts >>= λ x. Ok (true, x.1)) | false ↦ Ok (false, ts) ])
    go true = some (sign k ts)
    go false = refl

-- the reader of whether a sign is there is right
pub right_whether : (k : Kind) (P : Kind → Type 0) → ((j : Kind) → P j → is k j ≡ false) → Right (whether_form k P) (λ _. whether k)
right_whether k P stop = right_same (whether_form k P) (λ _. made is_there (maybe (is k) (sign k))) (λ _. whether k) (λ _ ts. whether_same k ts)
    (right_made (maybe_form (sign_form k) P) (whether_form k P) is_there (λ _. maybe (is k) (sign k))
    (right_maybe (is k) (sign_form k) P (λ _. sign k) (right_sign k) (λ _ _ _. true_is k k refl) stop) into onto follows)
  where
    into : (n : ℕ) (o : Option (Unit {0})) → (maybe_form (sign_form k) P).good n o → Unit {0} × (sign_slots k (is_there o) ≡ maybe_slots (sign_form k).slots o)
    into n None g = (tt, refl)
    into n (Some u) g = (tt, refl)

    onto : (n : ℕ) (b : Bool) → Unit {0} → (o : Option (Unit {0})) × (maybe_form (sign_form k) P).good n o × (is_there o ≡ b)
    onto n true g = (Some tt, tt, refl)
    onto n false g = (None, tt, refl)

    follows : (n : ℕ) (o : Option (Unit {0})) → (maybe_form (sign_form k) P).good n o → (j : Kind) → whether_follow P (is_there o) j → maybe_follow (sign_form k) P o j
    follows n None g j f = f
    follows n (Some u) g j f = tt

-- one thing after a sign, before one, and between two

-- a thing after a sign
abbrev pub behind_form : {A : Type 0} → Kind → Form A → Form A
behind_form k F = record { slots = λ a. Sign k ∷ F.slots a; good = F.good; follow = F.follow }

-- the reader of a thing after a sign is right
pub right_behind : {A : Type 0} (k : Kind) (F : Form A) (item : ℕ → Reader A) → Right F item → Right (behind_form k F) (λ n. behind k (item n))
right_behind k F item laws = right_made (both_form (sign_form k) (λ _. F)) (behind_form k F) (λ x. x.1) (λ n. both (sign k) (λ _. item n))
    (right_both (sign_form k) (λ _. F) (λ _. sign k) (λ n _. item n) (right_sign k) (λ _. laws) (λ n _ b _ _. links_any (λ _. Unit {0}) (F.follow b) (F.slots b) (λ _. tt)))
    (λ n x g. (g.1, refl)) (λ n a g. ((tt, a), (tt, g), refl)) (λ n x g j f. f)

-- a thing before a sign
abbrev pub before_form : {A : Type 0} → Form A → Kind → Form A
before_form F k = record { slots = λ a. F.slots a ++ Sign k ∷ []; good = F.good; follow = λ _ _. Unit {0} }

-- the reader of a thing before a sign is right where the sign may follow the thing
pub right_before : {A : Type 0} (F : Form A) (item : ℕ → Reader A) (k : Kind) → Right F item → ((n : ℕ) (a : A) → F.good n a → F.follow a k) → Right (before_form F k) (λ n. before (item n) k)
right_before F item k laws link = right_made (both_form F (λ _. sign_form k)) (before_form F k) (λ x. x.0) (λ n. both (item n) (λ _. sign k))
    (right_both F (λ _. sign_form k) item (λ _ _. sign k) laws (λ _. right_sign k) (λ n a _ g _. link n a g))
    (λ n x g. (g.0, refl)) (λ n a g. ((a, tt), (g, tt), refl)) (λ n x g j f. tt)

-- a thing between two signs
abbrev pub between_form : {A : Type 0} → Kind → Form A → Kind → Form A
between_form k F l = behind_form k (before_form F l)

-- the reader of a thing between two signs is right where the second may follow it
pub right_between : {A : Type 0} (k : Kind) (F : Form A) (item : ℕ → Reader A) (l : Kind) → Right F item → ((n : ℕ) (a : A) → F.good n a → F.follow a l)
    → Right (between_form k F l) (λ n. between k (item n) l)
right_between k F item l laws link = right_behind k (before_form F l) (λ n. before (item n) l) (right_before F item l laws link)

-- rows

-- a row of things, which the kinds of P may follow
abbrev pub many_form : {A : Type 0} → Form A → (Kind → Type 0) → Form (List A)
many_form F P = record { slots = row_slots F.slots; good = λ n. Each (F.good n); follow = λ _ k. P k }

-- the reader of a row is right where its items and what follows are told apart
pub right_many : {A : Type 0} (test : Kind → Bool) (F : Form A) (P : Kind → Type 0) (item : ℕ → Reader A) → Right F item
    → ((n : ℕ) (a : A) → F.good n a → Heads (λ k. test k ≡ true) (F.slots a))
    → ((k : Kind) → P k → test k ≡ false)
    → ((n : ℕ) (a : A) → F.good n a → (k : Kind) → test k ≡ true → F.follow a k)
    → ((n : ℕ) (a : A) → F.good n a → (k : Kind) → P k → F.follow a k)
    → Right (many_form F P) (λ n. many test (item n))
right_many {A} test F P item laws heads stop next last = record {
  reads = λ n. reads_many test (at_depth F n) P (item n) (laws.reads n) (heads n) stop (next n) (last n);
  grows = λ n k. grows_many test (item n) (item (suc n + k)) (laws.grows n k);
  some = λ n. ([], tt);
  raise = raises;
}
  where
    raises : (n : ℕ) (xs : List A) → Each (F.good n) xs → Each (F.good (suc n)) xs
    raises n [] g = tt
    raises n (x ∷ xs) g = (laws.raise n x g.0, raises n xs g.1)

-- a row of at least one thing, which the kinds of P may follow
abbrev pub some_form : {A : Type 0} → Form A → (Kind → Type 0) → Form (List A)
some_form F P = record { slots = row_slots F.slots; good = λ n. EachOfSome (F.good n); follow = λ _ k. P k }

-- the reader of a row of at least one thing is right where any kind may follow each
pub right_some_of : {A : Type 0} (test : Kind → Bool) (F : Form A) (P : Kind → Type 0) (item : ℕ → Reader A) → Right F item
    → ((n : ℕ) (a : A) → F.good n a → Heads (λ k. test k ≡ true) (F.slots a))
    → ((k : Kind) → P k → test k ≡ false)
    → ((a : A) (k : Kind) → F.follow a k)
    → Right (some_form F P) (λ n. some_of test (item n))
right_some_of {A} test F P item laws heads stop free = right_made (both_form F (λ _. many_form F P)) (some_form F P) (λ x. x.0 ∷ x.1) (λ n. both (item n) (λ _. many test (item n)))
    (right_both F (λ _. many_form F P) item (λ n _. many test (item n)) laws (λ _. right_many test F P item laws heads stop (λ _ a _ k _. free a k) (λ _ a _ k _. free a k))
    (λ n a xs _ _. links_any (F.follow a) P (row_slots F.slots xs) (free a)))
    (λ n x g. (g, refl)) onto (λ n x g k f. f)
  where
    onto : (n : ℕ) (xs : List A) → EachOfSome (F.good n) xs → (x : A × List A) × (both_form F (λ _. many_form F P)).good n x × (x.0 ∷ x.1 ≡ xs)
    onto n [] g = absurd g
    onto n (x ∷ xs) g = ((x, xs), g, refl)

-- at least one thing with a sign between each two, which the kinds of P may follow
abbrev pub parted_form : {A : Type 0} → Kind → Form A → (Kind → Type 0) → Form (List A)
parted_form k F P = record { slots = parted_slots k F.slots; good = λ n. EachOfSome (F.good n); follow = λ _ j. P j }

-- the reader of things with a sign between each two is right where the sign may follow each
pub right_parted : {A : Type 0} (k : Kind) (F : Form A) (P : Kind → Type 0) (item : ℕ → Reader A) → Right F item
    → ((j : Kind) → P j → is k j ≡ false)
    → ((n : ℕ) (a : A) → F.good n a → F.follow a k)
    → ((n : ℕ) (a : A) → F.good n a → (j : Kind) → P j → F.follow a j)
    → Right (parted_form k F P) (λ n. parted k (item n))
right_parted {A} k F P item laws stop next last =
    right_made (both_form F (λ _. many_form (behind_form k F) P)) (parted_form k F P) (λ x. x.0 ∷ x.1) (λ n. both (item n) (λ _. many (is k) (behind k (item n))))
    (right_both F (λ _. many_form (behind_form k F) P) item (λ n _. many (is k) (behind k (item n))) laws
    (λ _. right_many (is k) (behind_form k F) P (λ n. behind k (item n)) (right_behind k F item laws) (λ _ _ _. true_is k k refl) stop
    (λ n a g j e. subst (F.follow a) (sym (is_true k j e)) (next n a g)) last)
    links)
    (λ n x g. (g, refl)) onto (λ n x g j f. f)
  where
    links : (n : ℕ) (a : A) (xs : List A) → F.good n a → Each (F.good n) xs → Links (F.follow a) P (row_slots (λ y. Sign k ∷ F.slots y) xs)
    links n a [] g h = last n a g
    links n a (x ∷ xs) g h = next n a g

    onto : (n : ℕ) (xs : List A) → EachOfSome (F.good n) xs → (x : A × List A) × (both_form F (λ _. many_form (behind_form k F) P)).good n x × (x.0 ∷ x.1 ≡ xs)
    onto n [] g = absurd g
    onto n (x ∷ xs) g = ((x, xs), g, refl)

-- what was read

-- what a right reader reads is well formed, and spelled by the tokens that it took
pub right_ok : {A : Type 0} (F : Form A) (read : ℕ → Reader A) → Right F read → (n : ℕ) (ts rest : List Token) (a : A) → read n ts ≡ Ok (a, rest) → F.good n a × Spelled (F.slots a) ts rest
right_ok {A} F read laws n ts rest a e = subst (λ (r : Read A). Sound (at_depth F n) ts r) e ((laws.reads n).sound ts)

-- fewer tokens are left after slots, where there is at least one
pub spelled_less : (ss : List Slot) (ts rest : List Token) → Heads (λ _. Unit {0}) ss → Spelled ss ts rest → length rest < length ts
spelled_less [] ts rest a h = absurd a
spelled_less (s ∷ ss) [] rest a h = absurd h
spelled_less (s ∷ ss) (t ∷ ts) rest a h = let e = spelled_length ss ts rest h.1 in omega arith

-- fewer tokens are left after what begins with one
pub right_less : {A : Type 0} (F : Form A) (read : ℕ → Reader A) → Right F read → ((n : ℕ) (a : A) → F.good n a → Heads (λ _. Unit {0}) (F.slots a)) → (n : ℕ) (ts rest : List Token) (a : A)
    → read n ts ≡ Ok (a, rest) → length rest < length ts
right_less F read laws heads n ts rest a e = let h = right_ok F read laws n ts rest a e in spelled_less (F.slots a) ts rest (heads n a h.0) h.1

-- what a right reader leaves is no more than there was
pub right_at_most : {A : Type 0} (F : Form A) (read : ℕ → Reader A) → Right F read → (n : ℕ) (ts rest : List Token) (a : A) → read n ts ≡ Ok (a, rest) → length rest ≤ length ts
right_at_most F read laws n ts rest a e = spelled_length (F.slots a) ts rest (right_ok F read laws n ts rest a e).1
