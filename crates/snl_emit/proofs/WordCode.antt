-- The code of the words of an expression does what they do.
use Rattle.std.proofs.Common.{◌≡◌, ◌∙◌, ◌+◌, ◌<◌, ◌≤◌, ℕ, ℤ, pos, Bool, true, false, List, [], ◌∷◌, ◌++◌, Option, None, Some, refl, sym, ap, arith, length, length-append, slice_get, if◌then◌else◌}
use Rattle.std.specs.Prelude.{nat_le, take, drop}
use Rattle.std.proofs.lemmas.Bool.{lt-ltb, le-leb}
use Rattle.snl_text.specs.declared.kinds.Kind.{Kind}
use Rattle.snl_text.specs.declared.tokens.Token.{Token}
use Rattle.snl_arithmetic.specs.Arithmetic.{is_zero}
use Rattle.snl_meaning.specs.declared.instrs.Instr.{Instr}
use Rattle.snl_meaning.specs.declared.instrs.Instr.TheVariants.{Push, Load, Check, Peek, Store, StoreAt, Apply, ApplyPrefix, Jump, JumpIfZero, Print}
use Rattle.snl_meaning.specs.declared.instrs.Variable.{Variable}
use Rattle.snl_emit.specs.Depths.{held_depth, called_depth, signed_depth}
use Rattle.snl_emit.specs.ExpressionCode.{name_code, at_code, put_at_code, renewed_code, put_code, CodeOn, at_name_code, called_code, signed_code, if_code}
use Rattle.snl_meaning.specs.declared.names.Sense.{Sense}
use Rattle.snl_meaning.specs.declared.names.Sense.TheVariants.{Varies, Stands}
use Rattle.snl_meaning.specs.Names.{format_text}
use Rattle.snl_meaning.specs.Ran.{Ran, Gives, then_do}
use Rattle.snl_meaning.specs.Endings.{HasAt}
use Rattle.snl_meaning.specs.Run.{PieceContext, Sticks, goes_with, takes, with_room}
use Rattle.snl_names.specs.declared.builtins.Builtin.{Builtin}
use Rattle.snl_names.specs.declared.builtins.Builtin.TheVariants.{Delay, Printf, PvPut, Ask}
use Rattle.snl_names.specs.declared.builtins.Query.{Query}
use Rattle.snl_meaning.specs.Value.{OnTarget, at_name, called, either, renewed, put_at, at_subscript, named_value, signed}
use Rattle.snl_meaning.specs.declared.operators.Unary.{Unary}
use Rattle.snl_meaning.specs.declared.operators.Unary.TheVariants.{ByOne, OfValue}
use Rattle.snl_meaning.specs.Words.{operated, operated_prefix, subscript, read, stored, printed}
use Rattle.snl_meaning.specs.World.{World}
use Rattle.snl_meaning.proofs.Following.{has_front, has_back, Quiet, follows-on, follows-step, follows-quiet, follows-then, follows-to, quiet-jump, quiet-if_zero}
use Rattle.snl_emit.proofs.Joins.{Runs, Codes, CodesOn, codes-pushes, on-one, codes-more, codes-then, on-then, on-held, on-two, on-drop}

module _ (g : PieceContext) (code : List Instr) where
  -- the state set
  abbrev set : ℕ
  set = g.set

  -- a name
  pub codes-name : (x : Sense) (d : ℕ) → 1 ≤ d → Codes g code (named_value set x) (name_code x ∷ []) d
  codes-name (Varies v) d some = codes-pushes g code (Load v) (read set v (pos 0)) (λ at s w. refl) d some
  codes-name (Stands z) d some = codes-pushes g code (Push z) (λ w. Gives z w []) (λ at s w. refl) d some

  -- what is done at a subscript
  pub on-subscript : (x : Sense) (line : ℕ) (go : Variable → ℤ → World → Ran ℤ) (other : World → Ran ℤ) (gc : Variable → List Instr) (oc : List Instr) (d : ℕ) →
      ((v : Variable) → CodesOn g code (go v) (gc v) d) → Codes g code other oc d → CodesOn g code (at_subscript x line go other) (at_code x line gc oc) d
  on-subscript (Varies v) line go other gc oc d f h = on-then g code (subscript v line) (go v) (Check v line ∷ []) (gc v) d (on-one g code (Check v line) (subscript v line) (λ at x s w. refl) d) (f v)
  on-subscript (Stands z) line go other gc oc d f h = on-drop g code other oc d h

  -- an assignment to an element
  pub on-put : (op : Option Kind) (op_line : ℕ) (right : World → Ran ℤ) (c : List Instr) (d : ℕ) (line : ℕ) → Codes g code right c d → (v : Variable) →
      CodesOn g code (put_at op op_line right set v line) (put_at_code op op_line c line v) (d + held_depth op + 1)
  on-put None op_line right c d line f v = on-two g code (StoreAt v line) right (stored set v line) c d (d + 0 + 1) (omega arith) (λ at x y s w. refl) f
  on-put (Some o) op_line right c d line f v =
      on-held g code (StoreAt v line) (renewed (Some o) op_line right set v) (stored set v line) (Peek v ∷ (c ++ Apply o op_line ∷ [])) (d + 1) (d + 1 + 1) (omega arith) (λ at x y s w. refl)
      (λ at k s w has room.
      let e : at + 1 + length (c ++ Apply o op_line ∷ []) ≡ at + length (Peek v ∷ (c ++ Apply o op_line ∷ [])) = omega arith in
      let free : length (k ∷ s) < g.room = omega arith in
      follows-to g code at (k ∷ s) w _ _ _ (λ z. z ∷ k ∷ s) e
      (follows-then g code at (k ∷ s) w (read set v k w) (λ old u. then_do (right u) (operated o op_line old)) (λ _. at + 1) (λ z. z ∷ k ∷ s)
      (λ _. at + 1 + length (c ++ Apply o op_line ∷ [])) (λ z. z ∷ k ∷ s)
      (follows-step g code (Peek v) at (k ∷ s) w (read set v k w) (λ _. at + 1) (λ z. z ∷ k ∷ s) has.0
      (ap (λ (b : Bool). if b then then_do (read set v k w) (goes_with (at + 1) (k ∷ s)) else Gives Sticks w []) (lt-ltb (length (k ∷ s)) g.room free)))
      (λ old u. on-two g code (Apply o op_line) right (operated o op_line) c d (d + 1) (omega arith) (λ at x y s w. refl) f (at + 1) old (k ∷ s) u has.1 room)))

  -- what is stored in a variable
  pub codes-renewed : (op : Option Kind) (op_line : ℕ) (right : World → Ran ℤ) (c : List Instr) (d : ℕ) → Codes g code right c d → (v : Variable) →
      Codes g code (renewed op op_line right set v (pos 0)) (renewed_code op op_line c v) (d + held_depth op)
  codes-renewed None op_line right c d f v = codes-more g code right c d (d + 0) (omega arith) f
  codes-renewed (Some o) op_line right c d f v =
      codes-then g code (read set v (pos 0)) (λ old u. then_do (right u) (operated o op_line old)) (Load v ∷ []) (c ++ Apply o op_line ∷ []) (d + 1)
      (codes-pushes g code (Load v) (read set v (pos 0)) (λ at s w. refl) (d + 1) (omega arith))
      (on-two g code (Apply o op_line) right (operated o op_line) c d (d + 1) (omega arith) (λ at x y s w. refl) f)

  -- an assignment to a variable
  pub codes-put : (op : Option Kind) (op_line : ℕ) (right : World → Ran ℤ) (c : List Instr) (d : ℕ) (line : ℕ) → Codes g code right c d → (v : Variable) →
      Codes g code (put_at op op_line right set v line (pos 0)) (put_code op op_line c v line) (d + held_depth op)
  codes-put op op_line right c d line f v =
      codes-then g code (renewed op op_line right set v (pos 0)) (stored set v line (pos 0)) (renewed_code op op_line c v) (Store v line ∷ []) (d + held_depth op)
      (codes-renewed op op_line right c d f v) (on-one g code (Store v line) (stored set v line (pos 0)) (λ at x s w. refl) (d + held_depth op))

  -- what is done at a name
  pub codes-at_name : (y : Sense) (x : Token) (go : OnTarget) (other : World → Ran ℤ) (ac : CodeOn) (oc : List Instr) (d : ℕ) →
      ((v : Variable) → Codes g code (go v (pos 0) x) (ac v x) d) → Codes g code other oc d → Codes g code (at_name y x go other) (at_name_code y x ac oc) d
  codes-at_name (Varies v) x go other ac oc d f h = f v
  codes-at_name (Stands z) x go other ac oc d f h = h

  -- a call
  pub codes-called : (function : Option Builtin) (print wait put : World → Ran ℤ) (ask : Query → World → Ran ℤ) (routine : World → Ran ℤ)
      (pc wc uc : List Instr) (ac : Query → List Instr) (rc : List Instr) (d e i r : ℕ) →
      Codes g code print pc d → Codes g code wait wc e → Codes g code put uc i → ((query : Query) → Codes g code (ask query) (ac query) i) → Codes g code routine rc r →
      Codes g code (called function print wait put ask routine) (called_code function pc wc uc ac rc) (called_depth function d e i r)
  codes-called None print wait put ask routine pc wc uc ac rc d e i r f h k a l = l
  codes-called (Some Delay) print wait put ask routine pc wc uc ac rc d e i r f h k a l = h
  codes-called (Some Printf) print wait put ask routine pc wc uc ac rc d e i r f h k a l = f
  codes-called (Some PvPut) print wait put ask routine pc wc uc ac rc d e i r f h k a l = k
  codes-called (Some (Ask query)) print wait put ask routine pc wc uc ac rc d e i r f h k a l = a query

  -- a sign
  pub codes-signed : (sg : Unary) (stepping : Kind → World → Ran ℤ) (operand : World → Ran ℤ) (sc : Kind → List Instr) (oc : List Instr) (line d e : ℕ) →
      ((op : Kind) → Codes g code (stepping op) (sc op) d) → Codes g code operand oc e → Codes g code (signed sg stepping operand line) (signed_code sg sc oc line) (signed_depth sg d e)
  codes-signed (ByOne op) stepping operand sc oc line d e f h = f op
  codes-signed (OfValue u) stepping operand sc oc line d e f h =
      codes-then g code operand (operated_prefix u line) oc (ApplyPrefix u line ∷ []) e h (on-one g code (ApplyPrefix u line) (operated_prefix u line) (λ at x s w. refl) e)

  -- one of two
  pub codes-either : (test held failed : World → Ran ℤ) (tc hc fc : List Instr) (d : ℕ) → Codes g code test tc d → Codes g code held hc d → Codes g code failed fc d →
      Codes g code (λ w. then_do (test w) (either held failed)) (if_code tc hc fc) d
  codes-either test held failed tc hc fc d t h f = codes-then g code test (either held failed) tc (JumpIfZero (length hc + 1) ∷ (hc ++ Jump (length fc) ∷ fc)) d t chosen
    where
      chosen : CodesOn g code (either held failed) (JumpIfZero (length hc + 1) ∷ (hc ++ Jump (length fc) ∷ fc)) d
      chosen at x s w has room = by (is_zero x) (quiet-if_zero g code (length hc + 1) at second (at + 1) x s w has.0 is_second refl)
        where
          second : ℕ
          second = at + 1 + length hc + 1

          after : ℕ
          after = at + length (JumpIfZero (length hc + 1) ∷ (hc ++ Jump (length fc) ∷ fc))

          is_second : at + 1 + (length hc + 1) ≡ second
          is_second = omega arith

          over : at + 1 + length hc + 1 + length fc ≡ after
          over = omega (arith, length-append hc (Jump (length fc) ∷ fc))

          rest : HasAt code (at + 1 + length hc) (Jump (length fc) ∷ fc)
          rest = has_back code (at + 1) hc _ has.1

          by : (b : Bool) → Quiet g code at (x ∷ s) w (if b then second else at + 1) s → Runs g code at (x ∷ s) w (if b then failed w else held w) after s
          by true q = follows-quiet g code at (x ∷ s) w second s (failed w) (λ _. after) (λ y. y ∷ s) q
              (follows-to g code second s w _ _ _ (λ z. z ∷ s) over (f second s w rest.1 room))
          by false q = follows-quiet g code at (x ∷ s) w (at + 1) s (held w) (λ _. after) (λ y. y ∷ s) q
              (follows-on g code (at + 1) s w (held w) (at + 1 + length hc) after (λ z. z ∷ s) (λ z v. quiet-jump g code (length fc) (at + 1 + length hc) after (z ∷ s) v rest.0 over)
              (h (at + 1) s w (has_front code (at + 1) hc _ has.1) room))

  -- the operands of a call
  takes-is : (at : ℕ) (taken s : List ℤ) (w : World) (word : List ℤ → World → Ran ℤ) → length s < g.room →
      takes g (length taken) at (taken ++ s) w word ≡ then_do (word taken w) (goes_with (at + 1) s)
  takes-is at taken s w word room =
      ap (λ (b : Bool). if b then with_room g.room (drop (length taken) (taken ++ s)) w (then_do (word (take (length taken) (taken ++ s)) w)
      (goes_with (at + 1) (drop (length taken) (taken ++ s)))) else Gives Sticks w []) (enough taken)
      ∙ ap (λ (l : List ℤ). with_room g.room l w (then_do (word (take (length taken) (taken ++ s)) w) (goes_with (at + 1) l))) (dropped taken)
      ∙ ap (λ (l : List ℤ). with_room g.room s w (then_do (word l w) (goes_with (at + 1) s))) (kept taken)
      ∙ ap (λ (b : Bool). if b then then_do (word taken w) (goes_with (at + 1) s) else Gives Sticks w []) (lt-ltb (length s) g.room room)
    where
      enough : (t : List ℤ) → nat_le (length t) (length (t ++ s)) ≡ true
      enough t = le-leb (length t) (length (t ++ s)) (omega (arith, length-append t s))

      dropped : (t : List ℤ) → drop (length t) (t ++ s) ≡ s
      dropped [] = refl
      dropped (z ∷ t) = dropped t

      kept : (t : List ℤ) → take (length t) (t ++ s) ≡ t
      kept [] = refl
      kept (z ∷ t) = ap (λ l. z ∷ l) (kept t)

  -- `printf` with its numbers on top
  pub runs-print : (format n at : ℕ) (taken s : List ℤ) (w : World) → slice_get code at ≡ Some (Print format n) → length taken ≡ n → length s < g.room →
      Runs g code at (taken ++ s) w (printed g.name (format_text g.formats format) taken w) (at + 1) s
  runs-print format n at taken s w there is room =
      let word = printed g.name (format_text g.formats format) in
      follows-step g code (Print format n) at (taken ++ s) w (word taken w) (λ _. at + 1) (λ z. z ∷ s) there
      (ap (λ m. takes g m at (taken ++ s) w word) (sym is) ∙ takes-is at taken s w word room)
