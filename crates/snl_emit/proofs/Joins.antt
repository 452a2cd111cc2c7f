-- The code of a word, and how such codes are joined.
use Rattle.std.proofs.Common.{◌≡◌, ◌∙◌, ◌+◌, ◌<◌, ◌≤◌, ℕ, ℤ, pos, Bool, true, false, List, [], ◌∷◌, ◌++◌, Option, None, Some, refl, sym, ap, subst, arith, length, length-append, slice_get, if◌then◌else◌}
use Rattle.std.proofs.lemmas.Bool.{lt-ltb}
use Rattle.snl_text.specs.declared.kinds.Kind.{Kind}
use Rattle.snl_arithmetic.specs.Arithmetic.{is_zero}
use Rattle.snl_meaning.specs.declared.instrs.Instr.{Instr}
use Rattle.snl_meaning.specs.declared.instrs.Instr.TheVariants.{Push, Apply, ApplyNumber, Settle, Drop, Jump}
use Rattle.snl_emit.specs.Depths.{joint_depth}
use Rattle.snl_emit.specs.ExpressionCode.{joint_code}
use Rattle.snl_meaning.specs.Ran.{Ran, Gives, then_do}
use Rattle.snl_meaning.specs.Endings.{HasAt}
use Rattle.snl_meaning.specs.Run.{PieceContext, GoesTo, Sticks, goes_with, pushes, done_by}
use Rattle.snl_meaning.specs.declared.operators.Joint.{Joint}
use Rattle.snl_meaning.specs.declared.operators.Joint.TheVariants.{And, Or, Sequel, Operation}
use Rattle.snl_meaning.specs.Value.{both, one_of, joined_by}
use Rattle.snl_meaning.specs.Words.{settled, operated}
use Rattle.snl_meaning.specs.World.{World}
use Rattle.snl_meaning.proofs.Following.{also-nil, has_front, has_back, Quiet, Follows, follows-on, follows-step, follows-here, follows-quiet, follows-then, follows-to, quiet-none, quiet-jump, quiet-if_zero, quiet-quiet, quiet-step}

module _ (g : PieceContext) (code : List Instr) where
  -- from an address with operands to another address, with what a word gives on top of others
  abbrev pub Runs : ℕ → List ℤ → World → Ran ℤ → ℕ → List ℤ → Type 0
  Runs at o w r to s = Follows g code at o w r (λ _. to) (λ z. z ∷ s)

  -- such code pushes what a word gives, in so much room
  abbrev pub Codes : (World → Ran ℤ) → List Instr → ℕ → Type 0
  Codes word c d = (at : ℕ) (s : List ℤ) (w : World) → HasAt code at c → length s + d ≤ g.room → Runs at s w (word w) (at + length c) s

  -- such code puts what a word makes of the topmost number in its place
  abbrev pub CodesOn : (ℤ → World → Ran ℤ) → List Instr → ℕ → Type 0
  CodesOn word c d = (at : ℕ) (x : ℤ) (s : List ℤ) (w : World) → HasAt code at c → length s + d ≤ g.room → Runs at (x ∷ s) w (word x w) (at + length c) s

  -- an instruction that pushes what a word gives
  pub codes-pushes : (i : Instr) (word : World → Ran ℤ) → ((at : ℕ) (s : List ℤ) (w : World) → done_by g i at s w ≡ pushes g at s w (word w)) → (d : ℕ) → 1 ≤ d → Codes word (i ∷ []) d
  codes-pushes i word is d some at s w has room =
      follows-step g code i at s w (word w) (λ _. at + 1) (λ z. z ∷ s) has.0
      (is at s w ∙ ap (λ (b : Bool). if b then then_do (word w) (goes_with (at + 1) s) else Gives Sticks w []) (lt-ltb (length s) g.room (omega arith)))

  -- an instruction that takes one operand
  pub on-one : (i : Instr) (word : ℤ → World → Ran ℤ) → ((at : ℕ) (x : ℤ) (s : List ℤ) (w : World) → done_by g i at (x ∷ s) w ≡ then_do (word x w) (goes_with (at + 1) s)) →
      (d : ℕ) → CodesOn word (i ∷ []) d
  on-one i word is d at x s w has room = follows-step g code i at (x ∷ s) w (word x w) (λ _. at + 1) (λ z. z ∷ s) has.0 (is at x s w)

  -- more room does no harm
  pub codes-more : (word : World → Ran ℤ) (c : List Instr) (d e : ℕ) → d ≤ e → Codes word c d → Codes word c e
  codes-more word c d e le f at s w has room = f at s w has (omega arith)

  -- nor here
  pub on-more : (word : ℤ → World → Ran ℤ) (c : List Instr) (d e : ℕ) → d ≤ e → CodesOn word c d → CodesOn word c e
  on-more word c d e le f at x s w has room = f at x s w has (omega arith)

  -- the end of two codes that stand in a row
  joined : (at : ℕ) (c c' : List Instr) → at + length c + length c' ≡ at + length (c ++ c')
  joined at c c' = omega (arith, length-append c c')

  -- a word, and then a word on what it gives
  pub codes-then : (word : World → Ran ℤ) (go : ℤ → World → Ran ℤ) (c c' : List Instr) (d : ℕ) → Codes word c d → CodesOn go c' d → Codes (λ w. then_do (word w) go) (c ++ c') d
  codes-then word go c c' d f h at s w has room =
      follows-to g code at s w _ _ _ (λ z. z ∷ s) (joined at c c')
      (follows-then g code at s w (word w) go (λ _. at + length c) (λ z. z ∷ s) (λ _. at + length c + length c') (λ z. z ∷ s)
      (f at s w (has_front code at c c' has) room) (λ x u. h (at + length c) x s u (has_back code at c c' has) room))

  -- the same on an operand
  pub on-then : (word go : ℤ → World → Ran ℤ) (c c' : List Instr) (d : ℕ) → CodesOn word c d → CodesOn go c' d → CodesOn (λ x w. then_do (word x w) go) (c ++ c') d
  on-then word go c c' d f h at x s w has room =
      follows-to g code at (x ∷ s) w _ _ _ (λ z. z ∷ s) (joined at c c')
      (follows-then g code at (x ∷ s) w (word x w) go (λ _. at + length c) (λ z. z ∷ s) (λ _. at + length c + length c') (λ z. z ∷ s)
      (f at x s w (has_front code at c c' has) room) (λ y u. h (at + length c) y s u (has_back code at c c' has) room))

  -- no code leaves an operand as it is
  pub on-none : (d : ℕ) → CodesOn (λ x w. Gives x w []) [] d
  on-none d at x s w has room =
      let e : at ≡ at + 0 = omega arith in
      follows-to g code at (x ∷ s) w _ at (at + 0) (λ z. z ∷ s) e (follows-here g code x at (x ∷ s) w (λ _. at) (λ z. z ∷ s) (quiet-none g code at (x ∷ s) w))

  -- on a number that stays below, and an instruction on both
  -- an operand is held while code pushes another; then an instruction takes both
  pub on-held : (i : Instr) (right : ℤ → World → Ran ℤ) (word : ℤ → ℤ → World → Ran ℤ) (c : List Instr) (d e : ℕ) → d + 1 ≤ e →
      ((at : ℕ) (x y : ℤ) (s : List ℤ) (w : World) → done_by g i at (y ∷ x ∷ s) w ≡ then_do (word x y w) (goes_with (at + 1) s)) →
      ((at : ℕ) (x : ℤ) (s : List ℤ) (w : World) → HasAt code at c → length (x ∷ s) + d ≤ g.room → Runs at (x ∷ s) w (right x w) (at + length c) (x ∷ s)) →
      CodesOn (λ x w. then_do (right x w) (word x)) (c ++ i ∷ []) e
  on-held i right word c d e le is f at x s w has room =
      let h = has_back code at c (i ∷ []) has in
      follows-to g code at (x ∷ s) w _ _ _ (λ z. z ∷ s) (joined at c (i ∷ []))
      (follows-then g code at (x ∷ s) w (right x w) (word x) (λ _. at + length c) (λ y. y ∷ x ∷ s) (λ _. at + length c + 1) (λ z. z ∷ s)
      (f at x s w (has_front code at c (i ∷ []) has) (omega arith))
      (λ y u. follows-step g code i (at + length c) (y ∷ x ∷ s) u (word x y u) (λ _. at + length c + 1) (λ z. z ∷ s) h.0 (is (at + length c) x y s u)))

  -- the same with code that does not look at the operand
  pub on-two : (i : Instr) (right : World → Ran ℤ) (word : ℤ → ℤ → World → Ran ℤ) (c : List Instr) (d e : ℕ) → d + 1 ≤ e →
      ((at : ℕ) (x y : ℤ) (s : List ℤ) (w : World) → done_by g i at (y ∷ x ∷ s) w ≡ then_do (word x y w) (goes_with (at + 1) s)) →
      Codes right c d → CodesOn (λ x w. then_do (right w) (word x)) (c ++ i ∷ []) e
  on-two i right word c d e le is f = on-held i (λ _. right) word c d e le is (λ at x s w. f at (x ∷ s) w)

  -- a number is pushed
  pub quiet-push : (z : ℤ) (at : ℕ) (s : List ℤ) (w : World) → slice_get code at ≡ Some (Push z) → length s < g.room → Quiet g code at s w (at + 1) (z ∷ s)
  quiet-push z at s w there room =
      quiet-step g code (Push z) at s w (at + 1) (z ∷ s) there (ap (λ (b : Bool). if b then Gives (GoesTo (at + 1) (z ∷ s)) w [] else Gives Sticks w []) (lt-ltb (length s) g.room room))

  -- the topmost number is dropped
  pub on-drop : (right : World → Ran ℤ) (c : List Instr) (d : ℕ) → Codes right c d → CodesOn (λ _ w. right w) (Drop ∷ c) d
  on-drop right c d f at x s w has room =
      let e : at + 1 + length c ≡ at + length (Drop ∷ c) = omega arith in
      follows-to g code at (x ∷ s) w _ _ _ (λ z. z ∷ s) e
      (follows-quiet g code at (x ∷ s) w (at + 1) s (right w) _ (λ z. z ∷ s) (quiet-step g code Drop at (x ∷ s) w (at + 1) s has.0 refl) (f (at + 1) s w has.1 room))

  -- `&&` after its left side
  pub on-both : (line : ℕ) (right : World → Ran ℤ) (c : List Instr) (d : ℕ) → 1 ≤ d → Codes right c d → CodesOn (both right) (joint_code And line None c) d
  on-both line right c d some f at x s w has room = by (is_zero x) (quiet-if_zero g code (length c + 2) at shut (at + 1) x s w has.0 e refl)
    where
      tail : List Instr
      tail = Settle ∷ Jump 1 ∷ Push (pos 0) ∷ []

      settle : ℕ
      settle = at + 1 + length c

      shut : ℕ
      shut = settle + 1 + 1

      after : ℕ
      after = at + length (joint_code And line None c)

      e : at + 1 + (length c + 2) ≡ shut
      e = omega arith

      last : HasAt code settle (Settle ∷ Jump 1 ∷ Push (pos 0) ∷ [])
      last = has_back code (at + 1) c _ has.1

      is_after : shut + 1 ≡ after
      is_after = omega (arith, length-append c (Settle ∷ Jump 1 ∷ Push (pos 0) ∷ []))

      zero-there : Quiet g code shut s w after (pos 0 ∷ s)
      zero-there = subst (λ n. Quiet g code shut s w n (pos 0 ∷ s)) is_after (quiet-push (pos 0) shut s w last.1.1.0 (omega arith))

      settles : (y : ℤ) (u : World) → Runs settle (y ∷ s) u (settled y u) after s
      settles y u =
          follows-on g code settle (y ∷ s) u (settled y u) (settle + 1) after (λ z. z ∷ s) (λ z v. quiet-jump g code 1 (settle + 1) after (z ∷ s) v last.1.0 is_after)
          (follows-step g code Settle settle (y ∷ s) u (settled y u) (λ _. settle + 1) (λ z. z ∷ s) last.0 refl)

      by : (b : Bool) → Quiet g code at (x ∷ s) w (if b then shut else at + 1) s → Runs at (x ∷ s) w (if b then Gives (pos 0) w [] else then_do (right w) settled) after s
      by true q = follows-here g code (pos 0) at (x ∷ s) w (λ _. after) (λ y. y ∷ s) (quiet-quiet g code _ _ w _ s _ _ q zero-there)
      by false q =
          follows-quiet g code at (x ∷ s) w (at + 1) s (then_do (right w) settled) (λ _. after) (λ y. y ∷ s) q
          (follows-then g code (at + 1) s w (right w) settled (λ _. settle) (λ y. y ∷ s) (λ _. after) (λ y. y ∷ s) (f (at + 1) s w (has_front code (at + 1) c _ has.1) room) settles)

  -- `||` after its left side
  pub on-or : (line : ℕ) (right : World → Ran ℤ) (c : List Instr) (d : ℕ) → 1 ≤ d → Codes right c d → CodesOn (one_of right) (joint_code Or line None c) d
  on-or line right c d some f at x s w has room = by (is_zero x) (quiet-if_zero g code 2 at start (at + 1) x s w has.0 e refl)
    where
      start : ℕ
      start = at + 1 + 1 + 1

      settle : ℕ
      settle = start + length c

      after : ℕ
      after = at + length (joint_code Or line None c)

      e : at + 1 + 2 ≡ start
      e = omega arith

      is_after : settle + 1 ≡ after
      is_after = omega (arith, length-append c (Settle ∷ []))

      over : at + 1 + 1 + 1 + (length c + 1) ≡ after
      over = omega (arith, length-append c (Settle ∷ []))

      last : HasAt code settle (Settle ∷ [])
      last = has_back code start c _ has.1.1.1

      settles : (y : ℤ) (u : World) → Runs settle (y ∷ s) u (settled y u) after s
      settles y u = follows-to g code settle (y ∷ s) u (settled y u) (settle + 1) after (λ z. z ∷ s) is_after
          (follows-step g code Settle settle (y ∷ s) u (settled y u) (λ _. settle + 1) (λ z. z ∷ s) last.0 refl)

      one-there : Quiet g code (at + 1) s w after (pos 1 ∷ s)
      one-there = quiet-quiet g code (at + 1) s w (at + 1 + 1) (pos 1 ∷ s) after (pos 1 ∷ s) (quiet-push (pos 1) (at + 1) s w has.1.0 (omega arith))
          (quiet-jump g code (length c + 1) (at + 1 + 1) after (pos 1 ∷ s) w has.1.1.0 over)

      by : (b : Bool) → Quiet g code at (x ∷ s) w (if b then start else at + 1) s → Runs at (x ∷ s) w (if b then then_do (right w) settled else Gives (pos 1) w []) after s
      by true q =
          follows-quiet g code at (x ∷ s) w start s (then_do (right w) settled) (λ _. after) (λ y. y ∷ s) q
          (follows-then g code start s w (right w) settled (λ _. settle) (λ y. y ∷ s) (λ _. after) (λ y. y ∷ s) (f start s w (has_front code start c _ has.1.1.1) room) settles)
      by false q = follows-here g code (pos 1) at (x ∷ s) w (λ _. after) (λ y. y ∷ s) (quiet-quiet g code _ _ w _ s _ _ q one-there)

  -- an operator whose operand is a number
  on-number : (o : Kind) (line : ℕ) (z : ℤ) (right : World → Ran ℤ) (d : ℕ) → ((w : World) → right w ≡ Gives z w []) →
      CodesOn (λ x w. then_do (right w) (operated o line x)) (ApplyNumber o z line ∷ []) d
  on-number o line z right d is =
      on-one (ApplyNumber o z line) (λ x w. then_do (right w) (operated o line x))
      (λ at x s w.
      sym (ap (λ (r : Ran ℤ). then_do (then_do r (operated o line x)) (goes_with (at + 1) s)) (is w) ∙ ap (λ (r : Ran ℤ). then_do r (goes_with (at + 1) s)) (also-nil (operated o line x z w)))) d

  -- an operator with its operand, after what stands left of it
  pub on-joint : (j : Joint) (line : ℕ) (n : Option ℤ) (right : World → Ran ℤ) (c : List Instr) (d : ℕ) → ((z : ℤ) → n ≡ Some z → (w : World) → right w ≡ Gives z w []) → 1 ≤ d →
      Codes right c d → CodesOn (joined_by j line right) (joint_code j line n c) (joint_depth j d)
  on-joint And line n right c d is some f = on-both line right c d some f
  on-joint Or line n right c d is some f = on-or line right c d some f
  on-joint Sequel line n right c d is some f = on-drop right c d f
  on-joint (Operation o) line None right c d is some f = on-two (Apply o line) right (operated o line) c d (d + 1) (omega arith) (λ at x y s w. refl) f
  on-joint (Operation o) line (Some z) right c d is some f = on-number o line z right (d + 1) (is z refl)
