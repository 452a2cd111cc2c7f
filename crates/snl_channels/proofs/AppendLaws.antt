-- Laws of texts that are appended piece by piece.
use Rattle.std.proofs.Common.{◌≡◌, ℕ, ◌+◌, ◌<◌, suc, List, [], ◌∷◌, ◌++◌, length, drop, get_or, refl, sym, ap, ◌∙◌, append_assoc, append-nil, add-one, Result, Ok, Err, OnErr}
use Rattle.std.proofs.lemmas.List.{drop_more, get_or_default}
use Rattle.snl_channels.specs.Appended.{Begun}

-- Of a text that is appended, so much is left.
pub record Left (old now text rest : List ℕ) : Type 0 where
  pub front : List ℕ
  pub appended : now ≡ old ++ front
  pub whole : text ≡ front ++ rest

-- at first all is left
pub all_left : (old text : List ℕ) → Left old old text text
all_left old text = record { front = []; appended = sym (append-nil old); whole = refl }

-- a piece of what is left is appended
pub less_left : (old mid new text piece rest : List ℕ) → Left old mid text (piece ++ rest) → new ≡ mid ++ piece → Left old new text rest
less_left old mid new text piece rest l e = record {
  front = l.front ++ piece;
  appended = e ∙ ap (λ x. x ++ piece) l.appended ∙ append_assoc old l.front piece;
  whole = l.whole ∙ sym (append_assoc l.front piece rest);
}

-- nothing is left
pub none_left : (old now text : List ℕ) → Left old now text [] → now ≡ old ++ text
none_left old now text l = l.appended ∙ ap (λ x. old ++ x) (sym (l.whole ∙ append-nil l.front))

-- a beginning of a piece of what is left is appended
pub begun_left : (old mid new text piece rest : List ℕ) → Left old mid text (piece ++ rest) → Begun mid new piece → Begun old new text
begun_left old mid new text piece rest l b = record {
  front = l.front ++ b.front;
  rest = b.rest ++ rest;
  appended = b.appended ∙ ap (λ x. x ++ b.front) l.appended ∙ append_assoc old l.front b.front;
  whole = l.whole ∙ ap (λ x. l.front ++ (x ++ rest)) b.whole ∙ ap (λ x. l.front ++ x) (append_assoc b.front b.rest rest) ∙ sym (append_assoc l.front b.front (b.rest ++ rest));
}

-- nothing was appended
pub none_begun : (old new text : List ℕ) → new ≡ old → Begun old new text
none_begun old new text e = record { front = []; rest = text; appended = e ∙ sym (append-nil old); whole = refl }

-- Rows of texts: what stands for a row, by the number of its first thing, is what stands for that and then for the others.
module _ {A : Type 0} (one : ℕ → A → List ℕ) (go : ℕ → List A → List ℕ) (more : (k : ℕ) (x : A) (xs : List A) → go k (x ∷ xs) ≡ one k x ++ go (suc k) xs) where
  -- what is left begins with what stands for the next thing
  pub next_left : (all : List A) (i : ℕ) (a : A) (old mid text : List ℕ) → i < length all → a ≡ get_or all i a
      → Left old mid text (go i (drop i all)) → Left old mid text (one i a ++ go (suc i) (drop (i + 1) all))
  next_left all i a old mid text h ea l =
      let rest = drop (i + 1) all in
      record { front = l.front; appended = l.appended; whole = l.whole ∙ ap (λ x. l.front ++ x) (ap (go i) (drop_more all i a h ∙ ap (λ x. x ∷ rest) (sym ea)) ∙ more i a rest) }

  -- the next thing is appended
  pub row_goes_on : (all : List A) (i : ℕ) (a : A) (old mid new text : List ℕ) → i < length all → a ≡ get_or all i a
      → Left old mid text (go i (drop i all)) → new ≡ mid ++ one i a → Left old new text (go (i + 1) (drop (i + 1) all))
  row_goes_on all i a old mid new text h ea l e =
      let r = less_left old mid new text (one i a) (go (suc i) (drop (i + 1) all)) (next_left all i a old mid text h ea l) e in
      record { front = r.front; appended = r.appended; whole = r.whole ∙ ap (λ k. r.front ++ go k (drop (i + 1) all)) (sym (add-one i)) }

  -- a beginning of the next thing is appended
  pub row_begun : (all : List A) (i : ℕ) (a : A) (old mid new text : List ℕ) → i < length all → a ≡ get_or all i a
      → Left old mid text (go i (drop i all)) → Begun mid new (one i a) → Begun old new text
  row_begun all i a old mid new text h ea l b =
      begun_left old mid new text (one i a) (go (suc i) (drop (i + 1) all)) (next_left all i a old mid text h ea l) b

  -- the same of the thing at a number, which any other stands for where there is none
  pub row_begun_at : (all : List A) (i : ℕ) (d : A) (old mid new text : List ℕ) → i < length all
      → Left old mid text (go i (drop i all)) → Begun mid new (one i (get_or all i d)) → Begun old new text
  row_begun_at all i d old mid new text h l b = row_begun all i (get_or all i d) old mid new text h (get_or_default all i d (get_or all i d) h) l b

-- the first of two texts is appended, or a beginning of it
pub first_begun : (old new text more : List ℕ) → Begun old new text → Begun old new (text ++ more)
first_begun old new text more b = record { front = b.front; rest = b.rest ++ more; appended = b.appended; whole = ap (λ x. x ++ more) b.whole ∙ append_assoc b.front b.rest more }

-- the first of two texts, and a beginning of the second
pub second_begun : (old mid new text more : List ℕ) → mid ≡ old ++ text → Begun mid new more → Begun old new (text ++ more)
second_begun old mid new text more e b = record {
  front = text ++ b.front;
  rest = b.rest;
  appended = b.appended ∙ ap (λ x. x ++ b.front) e ∙ append_assoc old text b.front;
  whole = ap (λ x. text ++ x) b.whole ∙ sym (append_assoc text b.front b.rest);
}

-- the same text, said in another way
pub retold : (old new text other : List ℕ) → text ≡ other → Begun old new text → Begun old new other
retold old new text other e b = record { front = b.front; rest = b.rest; appended = b.appended; whole = sym e ∙ b.whole }

-- what holds is so on an error too
pub on_err : {A E P : Type 0} (r : Result A E) → P → OnErr r P
on_err (Ok x) p = tt
on_err (Err e) p = p
