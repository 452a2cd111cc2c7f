-- What every step keeps of two worlds that are the same outside and at some more words; what those words do that need none of them.
use Rattle.std.proofs.Common.{◌≡◌, refl, sym, ap, subst, ℕ, ℤ, pos, Bool, true, false, List, Some, if◌then◌else◌}
use Rattle.std.specs.Prelude.{◌+ℤ◌, ◌*ℤ◌, int_le, length, not, slice_index_or}
use Rattle.snl_arithmetic.specs.Arithmetic.{is_zero, truth}
use Rattle.snl_meaning.specs.declared.ties.Tied.{Tied}
use Rattle.snl_meaning.specs.Links.{all_marked, marked, with_buffer, with_elements}
use Rattle.snl_meaning.specs.Printing.{print_line}
use Rattle.snl_meaning.specs.Ran.{Ran}
use Rattle.snl_meaning.specs.Words.{noted, settled, waited, waited_until}
use Rattle.snl_meaning.specs.World.{SetMemory, World, copy_of, no_copy}
use Rattle.snl_alike.specs.TwoRuns.{Agrees, Alike, BothGive, BothFault, FirstLeftOut, SecondLeftOut, SecondWrote, KeepsAlike, TakesAlike, common_of, with_common}
use Rattle.snl_flows.specs.Fine.{settled_of}
use Rattle.snl_flows.specs.LeftOut.{left_out}
use Rattle.snl_flows.specs.Tables.{Operand, Another, Same, Within, Ground, HasLinks}
use Rattle.snl_flows.specs.Texts.{SameButValues, NoLines}
use Rattle.snl_flows.proofs.Agree.{AgreeOn, agree-overwritten}
use Rattle.snl_flows.proofs.Links.{links-elements, links-with}
use Rattle.snl_flows.proofs.Operands.{HoldsOf}
use Rattle.snl_flows.proofs.Outcomes.{AlikeTo, BothLead, BothStop, FirstStops, SecondStops, lead, test-to}
use Rattle.snl_flows.proofs.Texts.{one-line, print-ends, texts-joined}
use Rattle.snl_flows.proofs.Worlds.{CopiesAgree, Fresh, Own, Known, SameOn, buffer-change, level, same-outside, words-agree, words-change}

module _ (g : Ground) (set : ℕ) (K : Bool → ℕ → Type 0) where
  -- two worlds
  abbrev pub Kept : World → World → Type 0
  Kept = SameOn g set K

  -- values that are the same, and two worlds
  abbrev pub SameKept : {A : Type 0} → A → A → World → World → Type 0
  SameKept x y w u = (x ≡ y) × Kept w u

  -- another world with the same words, beside one that has those of the second one
  pub same-rest : (w v : World) (cs : List SetMemory) (xs bs : List ℤ) → v.copies ≡ w.copies → v.shared ≡ w.shared → v.buffers ≡ w.buffers →
      Kept w (record w { copies = cs; shared = xs; buffers = bs }) → Kept v (record v { copies = cs; shared = xs; buffers = bs })
  same-rest w v cs xs bs p q r e = record {
    same = refl;
    count = subst (λ (ws : List SetMemory). length ws ≡ length cs) (sym p) e.count;
    copies = subst (λ (ws : List SetMemory). (n : ℕ) → CopiesAgree (Own g set K n) (slice_index_or ws n no_copy) (slice_index_or cs n no_copy)) (sym p) e.copies;
    functions = subst (λ (zs : List ℤ). AgreeOn (K true) zs xs) (sym q) e.functions;
    buffers = subst (λ (zs : List ℤ). AgreeOn (Fresh g set) zs bs) (sym r) e.buffers;
  }

  -- numbers come to a link, which is marked for the others where it is monitored
  pub handed : (link : ℕ) (t : Tied) (zs : List ℤ) (w u : World) → Kept w u → Kept (marked (Some set) link t (with_buffer t zs w)) (marked (Some set) link t (with_buffer t zs u))
  handed link t zs w u e = by (buffer-change g set K t zs w u e) t.is_monitored
    where
      by : Kept (with_buffer t zs w) (with_buffer t zs u) → (b : Bool) →
          Kept (if b then all_marked (Some set) link (with_buffer t zs w) else with_buffer t zs w) (if b then all_marked (Some set) link (with_buffer t zs u) else with_buffer t zs u)
      by k true = record { same = ap (all_marked (Some set) link) k.same; count = k.count; copies = k.copies; functions = k.functions; buffers = k.buffers }
      by k false = k

  -- the same values come to the own copy
  elements-come : (place : ℕ) (zs : List ℤ) (w u : World) → Kept w u → Kept (with_elements set place zs w) (with_elements set place zs u)
  elements-come place zs w u e = words-change g set K K false _ _ w u (λ k p. p) (agree-overwritten zs (Known g set K false) _ _ place (words-agree g set K false w u e)) e

  -- the same of a word
  pub keeps-words : KeepsAlike set Kept (SameButValues g.names)
  keeps-words = record {
    rest = λ w u e. ap common_of e.same;
    rest_changes = λ r w u phase homes ties channels queues e.
        record { same = ap (with_common r) e.same; count = e.count; copies = e.copies; functions = e.functions; buffers = e.buffers };
    prints = λ name text w u e.
        subst (λ (ms : ℕ). SameButValues g.names (print_line w.time name text) (print_line ms name text)) (ap (λ (v : World). v.time) e.same)
        (one-line g.names (print_line w.time name text) (print-ends w.time name text));
    silent = NoLines;
    joined = texts-joined g.names;
  }

  -- ---- with the links of a program

  -- Two worlds, the first of which has them.
  pub record KeptLinked (w u : World) : Type 0 where
    pub links : HasLinks g w
    pub kept : Kept w u

  -- all steps keep that
  pub keeps-linked : KeepsAlike set KeptLinked (SameButValues g.names)
  keeps-linked = record {
    rest = λ w u e. keeps-words.rest w u e.kept;
    rest_changes = λ r w u phase homes ties channels queues e. record {
      links = links-with g r w homes ties channels queues e.links;
      kept = keeps-words.rest_changes r w u phase homes ties channels queues e.kept;
    };
    prints = λ name text w u e. keeps-words.prints name text w u e.kept;
    silent = keeps-words.silent;
    joined = keeps-words.joined;
  }

  -- an item of a queue comes to the own copy
  pub takes-linked : (place : ℕ) → TakesAlike set place KeptLinked
  takes-linked place link item more w u at holds e = record { links = links-elements g set place item w e.links; kept = elements-come place item w u e.kept }

  -- what comes out alike
  pub from-alike : {A : Type 0} (E : World → World → Type 0) → ((w u : World) → E w u → Kept w u) → (r s : Ran A) → Alike (left_out g.lines) E (SameButValues g.names) r s → AlikeTo g SameKept r s
  from-alike E less _ _ (BothGive v w u a b e t) = BothLead v v w u a b (refl, less w u e) t
  from-alike E less _ _ (BothFault fault line w u a b e t) = BothStop fault line w u a b (same-outside g set K w u (less w u e)) t
  from-alike E less _ _ (FirstLeftOut fault line w a r left) = FirstStops fault line w a r left
  from-alike E less _ _ (SecondLeftOut fault line u b r left) = SecondStops fault line u b r left
  from-alike E less _ _ (SecondWrote r s never) = absurd never

  -- a word that needs none
  pub plain : {A : Type 0} (word : World → Ran A) → Agrees (left_out g.lines) Kept (SameButValues g.names) word → (w u : World) → Kept w u → AlikeTo g SameKept (word w) (word u)
  plain word h w u e = from-alike Kept (λ x y k. k) (word w) (word u) (h w u e)

  -- one that asks of links
  pub linked : {A : Type 0} (word : World → Ran A) → Agrees (left_out g.lines) KeptLinked (SameButValues g.names) word → (w u : World) → HasLinks g w → Kept w u →
      AlikeTo g SameKept (word w) (word u)
  linked word h w u links e = from-alike KeptLinked (λ x y k. k.kept) (word w) (word u) (h w u (record { links = links; kept = e }))

  -- `delay`
  pub waited-to : (in_seconds : Bool) (z : ℤ) (w u : World) → Kept w u → AlikeTo g SameKept (waited set in_seconds z w) (waited set in_seconds z u)
  waited-to in_seconds z w u e = level g set K (λ x y. AlikeTo g SameKept (waited set in_seconds z x) (waited set in_seconds z y)) at w u e
    where
      by : (w : World) (cs : List SetMemory) (xs bs : List ℤ) → Kept w (record w { copies = cs; shared = xs; buffers = bs }) → (t : ℤ) →
          AlikeTo g SameKept (waited_until t w) (waited_until t (record w { copies = cs; shared = xs; buffers = bs }))
      by w cs xs bs e t =
          test-to g SameKept (int_le t (pos w.time)) _ _ _ _ (lead g SameKept (pos 1) (pos 1) _ _ (refl, e))
          (lead g SameKept (pos 0) (pos 0) _ _ (refl, same-rest w (record w { due = noted t w.due }) cs xs bs refl refl refl e))

      at : (w : World) (cs : List SetMemory) (xs bs : List ℤ) → Kept w (record w { copies = cs; shared = xs; buffers = bs }) →
          AlikeTo g SameKept (waited set in_seconds z w) (waited set in_seconds z (record w { copies = cs; shared = xs; buffers = bs }))
      at w cs xs bs e =
          let since : ℕ → ℤ = λ entered. pos entered +ℤ (if in_seconds then z *ℤ pos 1000 else z) in
          subst (λ (entered : ℕ). AlikeTo g SameKept (waited set in_seconds z w) (waited_until (since entered) (record w { copies = cs; shared = xs; buffers = bs })))
          ((e.copies set).entered) (by w cs xs bs e (since (copy_of set w).entered))

  -- 1 for a number other than 0
  pub settled-to : (o : Operand) (x y : ℤ) (w u : World) → HoldsOf o x y → Kept w u → AlikeTo g (λ a b v t. HoldsOf (settled_of o) a b × Kept v t) (settled x w) (settled y u)
  settled-to Another x y w u h e = lead g _ _ _ w u (tt, e)
  settled-to Same x y w u h e = lead g _ _ _ w u (ap (λ (z : ℤ). truth (not (is_zero z))) h, e)
  settled-to (Within n) x y w u h e = lead g _ _ _ w u (ap (λ (z : ℤ). truth (not (is_zero z))) h.0, e)
