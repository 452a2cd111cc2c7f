-- What each instruction does in two runs, where a table is right at its address.
use Rattle.std.proofs.Common.{◌≡◌, ◌∙◌, ◌+◌, ◌-◌, ⊎_elim, refl, sym, ap, subst, ℕ, ℤ, pos, Bool, true, false, List, [], ◌∷◌, Option, reverse, take, if◌then◌else◌}
use Rattle.std.specs.Prelude.{◌&&◌, int_le, slice_get, slice_index_or}
use Rattle.snl_arithmetic.specs.Arithmetic.{computed, computed_prefix, is_zero}
use Rattle.snl_text.specs.declared.kinds.Kind.{Kind}
use Rattle.snl_meaning.specs.declared.instrs.Instr.{Instr}
use Rattle.snl_meaning.specs.declared.instrs.Instr.TheVariants.{Push, Load, Check, Get, Peek, Store, StoreAt, Adjust, Increment, AdjustAt, Apply, ApplyNumber, ApplyPrefix, Settle, Drop, Jump, JumpIfZero, Tick, Print, Wait, Put, PutAt, Ask, AskLink, AskElement, Clear, Assign, Call, Fit, Return, Leave, End}
use Rattle.snl_meaning.specs.declared.instrs.Variable.{Variable}
use Rattle.snl_meaning.specs.declared.ties.Tied.{Tied}
use Rattle.snl_meaning.specs.Asking.{asked, ask_element}
use Rattle.snl_meaning.specs.Links.{buffer_of, link_from}
use Rattle.snl_meaning.specs.Names.{format_text}
use Rattle.snl_meaning.specs.Printing.{printed_line}
use Rattle.snl_meaning.specs.Ran.{Ran, Gives, then_do}
use Rattle.snl_meaning.specs.declared.faults.Fault.TheVariants.{DoesNotFit}
use Rattle.snl_meaning.specs.Run.{Entry, PieceContext, GoesTo, EndsWith, goes, goes_with, on_top, pushes, done_by}
use Rattle.snl_meaning.specs.Words.{adjusted, cleared, element_place, fitted, gives, natural, operated, operated_prefix, printed, put_element, read, settled, spent, subscript, waited}
use Rattle.snl_meaning.specs.World.{World}
use Rattle.snl_names.specs.declared.builtins.Query.{Query}
use Rattle.snl_names.specs.declared.builtins.Query.TheVariants.{EfClear, EfSet, EfTest, EfTestAndClear, PvChannelCount, PvConnectCount, PvConnected, PvFlushQ, PvGet, PvGetQ, PvPutComplete}
use Rattle.snl_alike.specs.TwoRuns.{ComesBy}
use Rattle.snl_alike.proofs.Linked.{agrees-printed, agrees-asked, agrees-ask_element}
use Rattle.snl_flows.specs.Fine.{AreRead, Begins, IsAnyElement, IsFineAt, IsFirstSame, IsGot, IsPrinted, LeadsTo, MayBecomeOther, MayBecomeOthers, MayOverflowBy, MayOverflowOver, PrefixMayOverflow, Takes, settled_of}
use Rattle.snl_flows.specs.LeftOut.{left_out}
use Rattle.snl_flows.specs.Outside.{has}
use Rattle.snl_flows.specs.Tables.{Operand, Another, Same, Within, IsSameIn, top_of, below, Flow, Ground, HasLinks}
use Rattle.snl_flows.specs.Texts.{IsNamed, SameButValues}
use Rattle.snl_flows.proofs.Kept.{KeptLinked, SameKept, keeps-linked, linked, settled-to, waited-to, takes-linked}
use Rattle.snl_flows.proofs.Links.{links-elements}
use Rattle.snl_flows.proofs.Operands.{HoldsOf, HoldOf, all-same, can-be, first-same, same-of}
use Rattle.snl_flows.proofs.Operators.{fitted-other, operated-other-by, operated-other-over, outcome-to, prefix-other}
use Rattle.snl_flows.proofs.Outcomes.{AlikeTo, BothLead, lead, stop, test-to, then-to}
use Rattle.snl_flows.proofs.Puts.{put-to, spent-to}
use Rattle.snl_flows.proofs.Steps.{K, ops, At, Next, Holds, AreBack, IsOfGround, BothEnd, BothLeave, led, led-after, on, pushed, topped, two-topped, twice, free, kept, known, apart, stores, assigns, stores-at, checked, jumped, taken, returned, called-on}
use Rattle.snl_flows.proofs.Texts.{one-print}
use Rattle.snl_flows.proofs.Variables.{With, adjusted-to-other, adjusted-to-same, cleared-to, read-other, read-to}
use Rattle.snl_flows.proofs.Worlds.{SameOn, buffer-comes, same-outside}

module _ (g : Ground) (f : Flow) (c : PieceContext) where
  -- an instruction does the same in both runs, but for what the table says
  abbrev Does : Instr → ℕ → List ℤ → List ℤ → World → World → Type 0
  Does i at s t w u = IsFineAt g c.set f at i → HoldOf (ops g f c at) s t → At g f c at w u → AlikeTo g (Next g f c) (done_by c i at s w) (done_by c i at t u)

  -- ---- variables

  -- an element that a subscript names
  element : (at : ℕ) (v : Variable) (o : Operand) (x y : ℤ) (w u : World) → AreRead g c.set f at v o → HoldsOf o x y → At g f c at w u →
      AlikeTo g (Holds g f c at Same) (read c.set v x w) (read c.set v y u)
  element at v o x y w u fine h e =
      twice g f c (Holds g f c at Same) (read c.set v) x y w u (same-of o x y fine.0 h)
      (read-to g c.set (K g f c at) v x w u (known g f c at v.is_shared (v.place + natural x) (fine.1 (natural x) (can-be o x y fine.0 h))) e)

  -- one of which nothing is known
  any-element : (at : ℕ) (v : Variable) (x y : ℤ) (w u : World) → At g f c at w u → AlikeTo g (Holds g f c at Another) (read c.set v x w) (read c.set v y u)
  any-element at v x y w u e = lead g (Holds g f c at Another) _ _ w u (tt, e)

  -- a load
  loads : (at : ℕ) (v : Variable) (s t : List ℤ) (w u : World) → Does (Load v) at s t w u
  loads at v s t w u fine h e =
      ⊎_elim
      (λ (same : IsFirstSame g c.set f at v × LeadsTo g c.set f at (at + 1) (Same ∷ ops g f c at)).
      pushed g f c at Same (ops g f c at) s t w u (read c.set v (pos 0) w) (read c.set v (pos 0) u) same.1 h e
      (read-to g c.set (K g f c at) v (pos 0) w u (known g f c at v.is_shared (v.place + 0) same.0) e))
      (λ other. pushed g f c at Another (ops g f c at) s t w u (read c.set v (pos 0) w) (read c.set v (pos 0) u) other h e (read-other g c.set (K g f c at) v (pos 0) w u e)) fine

  -- `++` and `--` with their value
  adjusts : (at : ℕ) (v : Variable) (op : Kind) (op_line line : ℕ) (is_before : Bool) (s t : List ℤ) (w u : World) → Does (Adjust v op op_line line is_before) at s t w u
  adjusts at v op op_line line is_before s t w u fine h e =
      ⊎_elim
      (λ (same : IsFirstSame g c.set f at v × LeadsTo g c.set f at (at + 1) (Same ∷ ops g f c at)).
      pushed g f c at Same (ops g f c at) s t w u (adjusted c.set v op op_line line is_before (pos 0) w) (adjusted c.set v op op_line line is_before (pos 0) u) same.1 h e
      (adjusted-to-same g c.set (K g f c at) v op op_line line is_before (pos 0) w u (known g f c at v.is_shared (v.place + 0) same.0) e))
      (λ (other : MayBecomeOther g c.set f v op op_line line × LeadsTo g c.set f at (at + 1) (Another ∷ ops g f c at)).
      pushed g f c at Another (ops g f c at) s t w u (adjusted c.set v op op_line line is_before (pos 0) w) (adjusted c.set v op op_line line is_before (pos 0) u) other.1 h e
      (adjusted-to-other g c.set (K g f c at) v op op_line line is_before (pos 0) w u other.0.1 other.0.0.1 (apart g f c at v.is_shared (v.place + 0) other.0.0.0) e)) fine

  -- and without
  increments : (at : ℕ) (v : Variable) (op : Kind) (op_line line : ℕ) (s t : List ℤ) (w u : World) → Does (Increment v op op_line line) at s t w u
  increments at v op op_line line s t w u fine h e =
      ⊎_elim
      (λ same. go Same (adjusted-to-same g c.set (K g f c at) v op op_line line true (pos 0) w u (known g f c at v.is_shared (v.place + 0) same) e))
      (λ (other : MayBecomeOther g c.set f v op op_line line).
      go Another (adjusted-to-other g c.set (K g f c at) v op op_line line true (pos 0) w u other.1 other.0.1 (apart g f c at v.is_shared (v.place + 0) other.0.0) e)) fine.0
    where
      go : (o : Operand) → AlikeTo g (Holds g f c at o) (adjusted c.set v op op_line line true (pos 0) w) (adjusted c.set v op op_line line true (pos 0) u) →
          AlikeTo g (Next g f c) (done_by c (Increment v op op_line line) at s w) (done_by c (Increment v op op_line line) at t u)
      go o both =
          then-to g (Holds g f c at o) (Next g f c) (adjusted c.set v op op_line line true (pos 0) w) (adjusted c.set v op op_line line true (pos 0) u) (goes (at + 1) s) (goes (at + 1) t) both
          (λ _ _ p q more. led g f c at (at + 1) (ops g f c at) s t p q fine.1 h more.1)

  -- of an element
  adjusts-at : (at : ℕ) (v : Variable) (op : Kind) (op_line line : ℕ) (is_before : Bool) (s t : List ℤ) (w u : World) → Does (AdjustAt v op op_line line is_before) at s t w u
  adjusts-at at v op op_line line is_before s t w u fine h e =
      topped g f c at (ops g f c at) s t
      (λ z more. then_do (adjusted c.set v op op_line line is_before z w) (goes_with (at + 1) more))
      (λ z more. then_do (adjusted c.set v op op_line line is_before z u) (goes_with (at + 1) more)) w u h e
      (λ x y s' t' top rest. ⊎_elim
      (λ (same : AreRead g c.set f at v (top_of (ops g f c at)) × LeadsTo g c.set f at (at + 1) (Same ∷ below (ops g f c at))).
      on g f c at (at + 1) Same (below (ops g f c at)) s' t' (adjusted c.set v op op_line line is_before x w) (adjusted c.set v op op_line line is_before y u) same.1 rest
      (twice g f c (Holds g f c at Same) (adjusted c.set v op op_line line is_before) x y w u (same-of (top_of (ops g f c at)) x y same.0.0 top)
      (adjusted-to-same g c.set (K g f c at) v op op_line line is_before x w u
      (known g f c at v.is_shared (v.place + natural x) (same.0.1 (natural x) (can-be (top_of (ops g f c at)) x y same.0.0 top))) e)))
      (λ (other : MayBecomeOthers g c.set f v (top_of (ops g f c at)) op op_line line × LeadsTo g c.set f at (at + 1) (Another ∷ below (ops g f c at))).
      on g f c at (at + 1) Another (below (ops g f c at)) s' t' (adjusted c.set v op op_line line is_before x w) (adjusted c.set v op op_line line is_before y u) other.1 rest
      (twice g f c (Holds g f c at Another) (adjusted c.set v op op_line line is_before) x y w u (same-of (top_of (ops g f c at)) x y other.0.0.0 top)
      (adjusted-to-other g c.set (K g f c at) v op op_line line is_before x w u other.0.1 other.0.0.2
      (apart g f c at v.is_shared (v.place + natural x) (other.0.0.1 (natural x) (can-be (top_of (ops g f c at)) x y other.0.0.0 top))) e))) fine)

  -- a variable that becomes 0
  clears : (at : ℕ) (v : Variable) (s t : List ℤ) (w u : World) → Does (Clear v) at s t w u
  clears at v s t w u fine h e =
      then-to g {A = Unit {0}} (λ _ _. SameOn g c.set (With (K g f c at) (IsAnyElement v))) (Next g f c) (cleared c.set v w) (cleared c.set v u) (goes (at + 1) s) (goes (at + 1) t)
      (cleared-to g c.set (K g f c at) v w u e) (λ _ _ p q more. led-after g f c at (at + 1) (ops g f c at) (IsAnyElement v) s t p q fine h more)

  -- ---- operators

  -- a binary operator
  applies : (at : ℕ) (op : Kind) (line : ℕ) (s t : List ℤ) (w u : World) → Does (Apply op line) at s t w u
  applies at op line s t w u fine h e =
      two-topped g f c at (ops g f c at) s t
      (λ a b more. then_do (operated op line a b w) (goes_with (at + 1) more))
      (λ a b more. then_do (operated op line a b u) (goes_with (at + 1) more)) w u h e
      (λ x x' y y' s' t' top next rest. ⊎_elim
      (λ (same : IsSameIn (top_of (ops g f c at)) × IsSameIn (top_of (below (ops g f c at))) × LeadsTo g c.set f at (at + 1) (Same ∷ below (below (ops g f c at)))).
      on g f c at (at + 1) Same (below (below (ops g f c at))) s' t' (operated op line x y w) (operated op line x' y' u) same.2 rest
      (subst (λ (z : ℤ). AlikeTo g (Holds g f c at Same) (operated op line x y w) (operated op line z y' u)) (same-of (top_of (below (ops g f c at))) x x' same.1 next)
      (twice g f c (Holds g f c at Same) (operated op line x) y y' w u (same-of (top_of (ops g f c at)) y y' same.0 top)
      (outcome-to g c.set (K g f c at) line (computed op x y) w u e))))
      (λ (other : MayOverflowOver g.lines op (top_of (ops g f c at)) line × LeadsTo g c.set f at (at + 1) (Another ∷ below (below (ops g f c at)))).
      on g f c at (at + 1) Another (below (below (ops g f c at))) s' t' (operated op line x y w) (operated op line x' y' u) other.1 rest
      (operated-other-over g c.set (K g f c at) op (top_of (ops g f c at)) line x x' y y' w u other.0 top e)) fine)

  -- one with a number
  applies-number : (at : ℕ) (op : Kind) (z : ℤ) (line : ℕ) (s t : List ℤ) (w u : World) → Does (ApplyNumber op z line) at s t w u
  applies-number at op z line s t w u fine h e =
      topped g f c at (ops g f c at) s t
      (λ a more. then_do (operated op line a z w) (goes_with (at + 1) more))
      (λ a more. then_do (operated op line a z u) (goes_with (at + 1) more)) w u h e
      (λ x y s' t' top rest. ⊎_elim
      (λ (same : IsSameIn (top_of (ops g f c at)) × LeadsTo g c.set f at (at + 1) (Same ∷ below (ops g f c at))).
      on g f c at (at + 1) Same (below (ops g f c at)) s' t' (operated op line x z w) (operated op line y z u) same.1 rest
      (twice g f c (Holds g f c at Same) (λ a. operated op line a z) x y w u (same-of (top_of (ops g f c at)) x y same.0 top)
      (outcome-to g c.set (K g f c at) line (computed op x z) w u e)))
      (λ (other : MayOverflowBy g.lines op z line × LeadsTo g c.set f at (at + 1) (Another ∷ below (ops g f c at))).
      on g f c at (at + 1) Another (below (ops g f c at)) s' t' (operated op line x z w) (operated op line y z u) other.1 rest
      (operated-other-by g c.set (K g f c at) op line x y z w u other.0 e)) fine)

  -- a prefix operator
  applies-prefix : (at : ℕ) (op : Kind) (line : ℕ) (s t : List ℤ) (w u : World) → Does (ApplyPrefix op line) at s t w u
  applies-prefix at op line s t w u fine h e =
      topped g f c at (ops g f c at) s t
      (λ z more. then_do (operated_prefix op line z w) (goes_with (at + 1) more))
      (λ z more. then_do (operated_prefix op line z u) (goes_with (at + 1) more)) w u h e
      (λ x y s' t' top rest. ⊎_elim
      (λ (same : IsSameIn (top_of (ops g f c at)) × LeadsTo g c.set f at (at + 1) (Same ∷ below (ops g f c at))).
      on g f c at (at + 1) Same (below (ops g f c at)) s' t' (operated_prefix op line x w) (operated_prefix op line y u) same.1 rest
      (twice g f c (Holds g f c at Same) (operated_prefix op line) x y w u (same-of (top_of (ops g f c at)) x y same.0 top)
      (outcome-to g c.set (K g f c at) line (computed_prefix op x) w u e)))
      (λ (other : PrefixMayOverflow g.lines op line × LeadsTo g c.set f at (at + 1) (Another ∷ below (ops g f c at))).
      on g f c at (at + 1) Another (below (ops g f c at)) s' t' (operated_prefix op line x w) (operated_prefix op line y u) other.1 rest
      (prefix-other g c.set (K g f c at) op line x y w u other.0 e)) fine)

  -- ---- words of a number that is the same

  -- a word of the topmost number, in whose place the value comes
  same-word : (at : ℕ) (o : Operand) (word : ℤ → World → Ran ℤ) (s t : List ℤ) (w u : World) → IsSameIn (top_of (ops g f c at)) → LeadsTo g c.set f at (at + 1) (o ∷ below (ops g f c at)) →
      ((x : ℤ) → AlikeTo g (Holds g f c at o) (word x w) (word x u)) → HoldOf (ops g f c at) s t → At g f c at w u →
      AlikeTo g (Next g f c) (on_top s w (λ x s. then_do (word x w) (goes_with (at + 1) s))) (on_top t u (λ x s. then_do (word x u) (goes_with (at + 1) s)))
  same-word at o word s t w u same leads k h e =
      topped g f c at (ops g f c at) s t
      (λ z more. then_do (word z w) (goes_with (at + 1) more))
      (λ z more. then_do (word z u) (goes_with (at + 1) more)) w u h e
      (λ x y s' t' top rest.
      on g f c at (at + 1) o (below (ops g f c at)) s' t' (word x w) (word y u) leads rest
      (twice g f c (Holds g f c at o) word x y w u (same-of (top_of (ops g f c at)) x y same top) (k x)))

  -- the check that a number fits, which leaves what is known of it
  fits : (at : ℕ) (least greatest : ℤ) (line : ℕ) (s t : List ℤ) (w u : World) → Does (Fit least greatest line) at s t w u
  fits at least greatest line s t w u fine h e =
      topped g f c at (ops g f c at) s t
      (λ z more. then_do (fitted least greatest line z w) (goes_with (at + 1) more))
      (λ z more. then_do (fitted least greatest line z u) (goes_with (at + 1) more)) w u h e
      (λ x y s' t' top rest.
      then-to g (Holds g f c at (top_of (ops g f c at))) (Next g f c) (fitted least greatest line x w) (fitted least greatest line y u) (goes_with (at + 1) s') (goes_with (at + 1) t')
      (fitted-to x y top) (λ a b p q more. led g f c at (at + 1) (ops g f c at) (a ∷ s') (b ∷ t') p q fine.1 (more.0, rest) more.1))
    where
      o : Operand
      o = top_of (ops g f c at)

      fitted-to : (x y : ℤ) → HoldsOf o x y → AlikeTo g (Holds g f c at o) (fitted least greatest line x w) (fitted least greatest line y u)
      fitted-to x y top =
          ⊎_elim
          (λ (same : IsSameIn o).
          subst (λ (z : ℤ). AlikeTo g (Holds g f c at o) (fitted least greatest line x w) (fitted least greatest line z u)) (same-of o x y same top)
          (test-to g (Holds g f c at o) (int_le least x && int_le x greatest) _ _ _ _ (lead g (Holds g f c at o) x x w u (subst (HoldsOf o x) (sym (same-of o x y same top)) top, e))
          (stop g (Holds g f c at o) DoesNotFit line w u (same-outside g c.set (K g f c at) w u e))))
          (λ (left : has g.lines line ≡ true). fitted-other g c.set (K g f c at) o least greatest line x y w u left top e) fine.0

  -- ---- puts

  -- `pvPut`
  puts : (at : ℕ) (v : Variable) (async : Bool) (s t : List ℤ) (w u : World) → HasLinks g w → Does (Put v async) at s t w u
  puts at v async s t w u links fine h e =
      pushed g f c at Same (ops g f c at) s t w u (put_element async c.set v (pos 0) w) (put_element async c.set v (pos 0) u) fine.1 h e
      (put-to g c.set (K g f c at) f at (known g f c at) async v.place w u links fine.0 e)

  -- of an element
  puts-at : (at : ℕ) (v : Variable) (async : Bool) (s t : List ℤ) (w u : World) → HasLinks g w → Does (PutAt v async) at s t w u
  puts-at at v async s t w u links fine h e =
      topped g f c at (ops g f c at) s t
      (λ z more. then_do (put_element async c.set v z w) (goes_with (at + 1) more))
      (λ z more. then_do (put_element async c.set v z u) (goes_with (at + 1) more)) w u h e
      (λ x y s' t' top rest.
      on g f c at (at + 1) Same (below (ops g f c at)) s' t' (put_element async c.set v x w) (put_element async c.set v y u) fine.2 rest
      (twice g f c (Holds g f c at Same) (put_element async c.set v) x y w u (same-of (top_of (ops g f c at)) x y fine.0 top)
      (put-to g c.set (K g f c at) f at (known g f c at) async (element_place v (natural x)) w u links (fine.1 (natural x) (can-be (top_of (ops g f c at)) x y fine.0 top)) e)))

  -- ---- prints

  -- a line that both print, of numbers that are the same, or by a string whose lines may have others
  prints : (at format n : ℕ) (s t : List ℤ) (w u : World) → g.formats ≡ c.formats → IsPrinted g c.set f at format n → HoldOf (ops g f c at) s t → At g f c at w u →
      AlikeTo g (Holds g f c at Same) (printed c.name (format_text c.formats format) (take n s) w) (printed c.name (format_text c.formats format) (take n t) u)
  prints at format n s t w u same fine h e =
      ⊎_elim
      (λ first. subst (λ (zs : List ℤ). AlikeTo g (Holds g f c at Same) (printed c.name text (take n s) w) (printed c.name text zs u)) (first-same n s t (ops g f c at) first h)
      (free g f c at (printed c.name text (take n s)) (λ keep. agrees-printed (left_out g.lines) c.set (At g f c at) (SameButValues g.names) keep c.name text (take n s)) w u e))
      (λ named. BothLead (pos 0) (pos 0) w u _ _ (refl, e)
      (subst (λ (ms : ℕ). SameButValues g.names (printed_line w.time c.name text (reverse (take n s))) (printed_line ms c.name text (reverse (take n t)))) (ap (λ (v : World). v.time) e.same)
      (one-print g.names w.time c.name text (reverse (take n s)) (reverse (take n t)) (subst (λ (fs : List (List ℕ)). IsNamed g.names (format_text fs format)) same named)))) fine
    where
      text : List ℕ
      text = format_text c.formats format

  -- ---- what is asked

  -- the buffer of a link comes to words that may get what is not the same
  gets : (at place : ℕ) (query : Query) → IsGot g c.set f query place → ComesBy query c.set place (KeptLinked g c.set (K g f c at))
  gets at place PvGet got = λ link t w u found tied e. record {
    links = links-elements g c.set place (buffer_of t w) w e.links;
    kept = buffer-comes g c.set (K g f c at) place t w u
        (λ k low stale known. apart g f c at false (place + k)
        (got link k t (ap (λ (homes : List (List (Option ℕ))). link_from 0 (slice_index_or homes c.set []) place) (sym e.links.homes) ∙ found)
        (ap (λ (ties : List Tied). slice_get ties link) (sym e.links.ties) ∙ tied) low stale) (place + k) known refl) e.kept;
  }
  gets at place PvGetQ got = takes-linked g c.set (K g f c at) place
  gets at place PvFlushQ got = tt
  gets at place PvConnected got = tt
  gets at place PvPutComplete got = tt
  gets at place PvChannelCount got = tt
  gets at place PvConnectCount got = tt
  gets at place EfClear got = tt
  gets at place EfSet got = tt
  gets at place EfTest got = tt
  gets at place EfTestAndClear got = tt

  -- what is asked of an element
  asks : (at : ℕ) (query : Query) (v : Variable) (x : ℤ) (w u : World) → HasLinks g w → IsGot g c.set f query (element_place v (natural x)) → At g f c at w u →
      AlikeTo g (Holds g f c at Same) (ask_element query c.set v x w) (ask_element query c.set v x u)
  asks at query v x w u links got e =
      linked g c.set (K g f c at) (ask_element query c.set v x)
      (agrees-ask_element (left_out g.lines) c.set (KeptLinked g c.set (K g f c at)) (SameButValues g.names) (keeps-linked g c.set (K g f c at)) query v x
      (gets at (element_place v (natural x)) query got)) w u links e

  -- ---- all of them

  -- no step more
  ends : (at : ℕ) (s t : List ℤ) (w u : World) → Does End at s t w u
  ends at s t w u fine h e =
      subst (λ (x : List ℤ). AlikeTo g (Next g f c) (Gives (EndsWith s) w []) (Gives (EndsWith x) u [])) (all-same s t (ops g f c at) fine.0 h)
      (lead g (Next g f c) _ _ w u (BothEnd s w u (same-outside g c.set (K g f c at) w u e) (kept g f c at f.ends w u fine.1 e)))

  -- a call
  calls-on : (at function n line : ℕ) (s t : List ℤ) (w u : World) → AreBack f c.returns → IsOfGround g c → Does (Call function n line) at s t w u
  calls-on at function n line s t w u backs same fine h e =
      called-on g f c (slice_get c.functions function) n line at s t w u backs (subst (λ (fs : List Entry). Takes g c.set f (slice_get fs function) n (ops g f c at) line) same.functions fine.0) fine.1
      (subst (λ (fs : List Entry). Begins g c.set f (slice_get fs function) n) same.functions fine.2) fine.3 h e

  -- each
  pub done-alike : (i : Instr) (at : ℕ) (s t : List ℤ) (w u : World) → HasLinks g w → AreBack f c.returns → IsOfGround g c → Does i at s t w u
  done-alike (Push z) at s t w u links backs same = λ fine h e. pushed g f c at Same (ops g f c at) s t w u (gives z w) (gives z u) fine h e (lead g (Holds g f c at Same) z z w u (refl, e))
  done-alike (Load v) at s t w u links backs same = loads at v s t w u
  done-alike (Check v line) at s t w u links backs same = λ fine h e. same-word at (Within v.size) (subscript v line) s t w u fine.0 fine.1 (λ x. checked g f c at v line x w u e) h e
  done-alike (Get v) at s t w u links backs same = λ fine h e.
      topped g f c at (ops g f c at) s t
      (λ z more. then_do (read c.set v z w) (goes_with (at + 1) more))
      (λ z more. then_do (read c.set v z u) (goes_with (at + 1) more)) w u h e
      (λ x y s' t' top rest. ⊎_elim
      (λ (same : AreRead g c.set f at v (top_of (ops g f c at)) × LeadsTo g c.set f at (at + 1) (Same ∷ below (ops g f c at))).
      on g f c at (at + 1) Same (below (ops g f c at)) s' t' (read c.set v x w) (read c.set v y u) same.1 rest (element at v (top_of (ops g f c at)) x y w u same.0 top e))
      (λ other. on g f c at (at + 1) Another (below (ops g f c at)) s' t' (read c.set v x w) (read c.set v y u) other rest (any-element at v x y w u e)) fine)
  done-alike (Peek v) at s t w u links backs same = λ fine h e.
      topped g f c at (ops g f c at) s t
      (λ z more. pushes c at (z ∷ more) w (read c.set v z w))
      (λ z more. pushes c at (z ∷ more) u (read c.set v z u)) w u h e
      (λ x y s' t' top rest. ⊎_elim
      (λ (same : AreRead g c.set f at v (top_of (ops g f c at)) × LeadsTo g c.set f at (at + 1) (Same ∷ ops g f c at)).
      pushed g f c at Same (ops g f c at) (x ∷ s') (y ∷ t') w u (read c.set v x w) (read c.set v y u) same.1 (top, rest) e (element at v (top_of (ops g f c at)) x y w u same.0 top e))
      (λ other. pushed g f c at Another (ops g f c at) (x ∷ s') (y ∷ t') w u (read c.set v x w) (read c.set v y u) other (top, rest) e (any-element at v x y w u e)) fine)
  done-alike (Store v line) at s t w u links backs same = λ fine h e. stores g f c at v line s t w u fine h e
  done-alike (StoreAt v line) at s t w u links backs same = λ fine h e. stores-at g f c at v line s t w u fine h e
  done-alike (Adjust v op op_line line is_before) at s t w u links backs same = adjusts at v op op_line line is_before s t w u
  done-alike (Increment v op op_line line) at s t w u links backs same = increments at v op op_line line s t w u
  done-alike (AdjustAt v op op_line line is_before) at s t w u links backs same = adjusts-at at v op op_line line is_before s t w u
  done-alike (Apply op line) at s t w u links backs same = applies at op line s t w u
  done-alike (ApplyNumber op z line) at s t w u links backs same = applies-number at op z line s t w u
  done-alike (ApplyPrefix op line) at s t w u links backs same = applies-prefix at op line s t w u
  done-alike Settle at s t w u links backs same = λ fine h e.
      topped g f c at (ops g f c at) s t
      (λ z more. then_do (settled z w) (goes_with (at + 1) more))
      (λ z more. then_do (settled z u) (goes_with (at + 1) more)) w u h e
      (λ x y s' t' top rest.
      on g f c at (at + 1) (settled_of (top_of (ops g f c at))) (below (ops g f c at)) s' t' (settled x w) (settled y u) fine rest
      (settled-to g c.set (K g f c at) (top_of (ops g f c at)) x y w u top e))
  done-alike Drop at s t w u links backs same = λ fine h e.
      topped g f c at (ops g f c at) s t
      (λ z more. Gives (GoesTo (at + 1) more) w [])
      (λ z more. Gives (GoesTo (at + 1) more) u []) w u h e
      (λ x y s' t' top rest. led g f c at (at + 1) (below (ops g f c at)) s' t' w u fine rest e)
  done-alike (Jump n) at s t w u links backs same = λ fine h e. led g f c at (at + 1 + n) (ops g f c at) s t w u fine h e
  done-alike (JumpIfZero n) at s t w u links backs same = λ fine h e.
      topped g f c at (ops g f c at) s t
      (λ z more. Gives (GoesTo (if is_zero z then at + 1 + n else at + 1) more) w [])
      (λ z more. Gives (GoesTo (if is_zero z then at + 1 + n else at + 1) more) u []) w u h e
      (λ x y s' t' top rest.
      subst (λ (z : ℤ). AlikeTo g (Next g f c) (Gives (GoesTo (if is_zero x then at + 1 + n else at + 1) s') w []) (Gives (GoesTo (if is_zero z then at + 1 + n else at + 1) t') u []))
      (same-of (top_of (ops g f c at)) x y fine.0 top) (jumped g f c at n (below (ops g f c at)) x s' t' w u fine.1 fine.2 rest e))
  done-alike (Tick line back) at s t w u links backs same = λ fine h e.
      then-to g {A = Unit {0}} (SameKept g c.set (K g f c at)) (Next g f c) (spent line w) (spent line u) (goes (at - back) s) (goes (at - back) t) (spent-to g c.set (K g f c at) line w u e)
      (λ _ _ p q more. led g f c at (at - back) (ops g f c at) s t p q fine h more.1)
  done-alike (Print format n) at s t w u links backs same = λ fine h e.
      taken g f c at n s t (printed c.name (format_text c.formats format)) w u fine.1 h e (prints at format n s t w u same.formats fine.0 h e)
  done-alike (Wait in_seconds) at s t w u links backs same = λ fine h e.
      same-word at Same (waited c.set in_seconds) s t w u fine.0 fine.1 (λ x. waited-to g c.set (K g f c at) in_seconds x w u e) h e
  done-alike (Put v async) at s t w u links backs same = puts at v async s t w u links
  done-alike (PutAt v async) at s t w u links backs same = puts-at at v async s t w u links
  done-alike (Ask query number) at s t w u links backs same = λ fine h e.
      pushed g f c at Same (ops g f c at) s t w u (asked query number w) (asked query number u) fine h e
      (free g f c at (asked query number) (λ keep. agrees-asked (left_out g.lines) c.set (At g f c at) (SameButValues g.names) keep query number) w u e)
  done-alike (AskLink query v) at s t w u links backs same = λ fine h e.
      pushed g f c at Same (ops g f c at) s t w u (ask_element query c.set v (pos 0) w) (ask_element query c.set v (pos 0) u) fine.1 h e (asks at query v (pos 0) w u links fine.0 e)
  done-alike (AskElement query v) at s t w u links backs same = λ fine h e.
      topped g f c at (ops g f c at) s t
      (λ z more. then_do (ask_element query c.set v z w) (goes_with (at + 1) more))
      (λ z more. then_do (ask_element query c.set v z u) (goes_with (at + 1) more)) w u h e
      (λ x y s' t' top rest.
      on g f c at (at + 1) Same (below (ops g f c at)) s' t' (ask_element query c.set v x w) (ask_element query c.set v y u) fine.2 rest
      (twice g f c (Holds g f c at Same) (ask_element query c.set v) x y w u (same-of (top_of (ops g f c at)) x y fine.0 top)
      (asks at query v x w u links (fine.1 (natural x) (can-be (top_of (ops g f c at)) x y fine.0 top)) e)))
  done-alike (Clear v) at s t w u links backs same = clears at v s t w u
  done-alike (Assign v k line) at s t w u links backs same = λ fine h e. assigns g f c at v k line s t w u fine h e
  done-alike (Call function n line) at s t w u links backs same = calls-on at function n line s t w u backs same
  done-alike (Fit least greatest line) at s t w u links backs same = fits at least greatest line s t w u
  done-alike Return at s t w u links backs same = λ fine h e. returned g f c c.returns at s t w u fine backs h e
  done-alike (Leave state) at s t w u links backs same = λ fine h e.
      lead g (Next g f c) _ _ w u (BothLeave state w u (same-outside g c.set (K g f c at) w u e) (kept g f c at f.leaves w u fine e))
  done-alike End at s t w u links backs same = ends at s t w u
