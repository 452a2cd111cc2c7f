-- Where code spares the words of free links, whatever its operands are, its pieces keep links settled.
use Rattle.std.proofs.Common.{◌-◌, pos, drop, reverse, take, ◌≡◌, ◌+◌, ◌≤◌, inl, inr, ⊎_elim, refl, sym, subst, arith, ℕ, suc, ℤ, Bool, true, false, List, [], ◌∷◌, ◌*◌, Option, None, Some, length, nat_lt, slice_get, if◌then◌else◌}
use Rattle.std.specs.Prelude.{nat_le, slice_index_or}
use Rattle.snl_arithmetic.specs.Arithmetic.{is_zero}
use Rattle.snl_channels.specs.Links.{Link}
use Rattle.snl_flat.specs.declared.code.Code.{Code}
use Rattle.snl_flat.specs.Heres.{scene_in}
use Rattle.snl_flat.specs.declared.starts.Piece.{Piece}
use Rattle.snl_flat.specs.Pieces.{IsPlaced, PieceTree, kept_piece}
use Rattle.snl_flat.specs.Starts.{entries_of, holds_in, start_in, table_of}
use Rattle.snl_meaning.specs.declared.instrs.Instr.{Instr}
use Rattle.snl_meaning.specs.declared.instrs.Instr.TheVariants.{Push, Load, Check, Get, Peek, Store, StoreAt, Adjust, Increment, AdjustAt, Apply, ApplyNumber, ApplyPrefix, Settle, Drop, Jump, JumpIfZero, Tick, Print, Wait, Put, PutAt, Ask, AskLink, AskElement, Clear, Assign, Call, Fit, Return, Leave, End}
use Rattle.snl_meaning.specs.declared.instrs.Variable.{Variable}
use Rattle.snl_meaning.specs.declared.ties.Tied.{Tied}
use Rattle.snl_meaning.specs.Keeping.{world_after}
use Rattle.snl_meaning.specs.Ran.{Ran, Gives, Faults, then_do}
use Rattle.snl_meaning.specs.Run.{Entry, PieceContext, Step, GoesTo, Sticks, calls, context_of, credit, done_by, goes_over, goes_with, returns_to, run_of, step_of}
use Rattle.snl_meaning.specs.Asking.{ask_element, asked}
use Rattle.snl_meaning.specs.Names.{format_text}
use Rattle.snl_meaning.specs.Words.{adjusted, called_with, cleared, fitted, gives, natural, operated, operated_prefix, printed, put_element, read, settled, spent, stored, subscript, waited}
use Rattle.snl_meaning.specs.World.{World}
use Rattle.snl_syntax.specs.Programs.{ProgramTree}
use Rattle.snl_flows.specs.Flows.{set_of}
use Rattle.snl_flows.specs.Settled.{CanBeFree, IsFree, IsSettled, Layout, PieceSettles, home_at, layout_for}
use Rattle.snl_flows.specs.Spared.{AreSparing, BeginsAmong, IsAmong, IsBehindFree, IsSparing, LeadsAmong, LinesSpare, PiecesSpare}
use Rattle.snl_flows.specs.Unwritten.{IsElementClear, IsUnwritten}
use Rattle.snl_flows.proofs.SettledLines.{lines_settle}
use Rattle.snl_flows.proofs.SettledPieces.{piece-settles}
use Rattle.snl_flows.proofs.SettledSteps.{LeadsTo, exec-settles}

module _ (free : List ℕ) (l : Layout) (set : ℕ) (functions : List Entry) (reached : List Bool) (code : List Instr) (right : AreSparing free l set functions reached code) where
  -- Each of some addresses is one that pieces can come to.
  abbrev AreAmong : List ℕ → Type 0
  AreAmong [] = Unit {0}
  AreAmong (at ∷ more) = IsAmong reached at × AreAmong more

  -- What is known of a run at an address.
  pub record IsThere (c : PieceContext) (at : ℕ) (s : List ℤ) (w : World) : Type 0 where
    pub is : c.set ≡ set
    pub functions_are : c.functions ≡ functions
    pub backs : AreAmong c.returns
    pub there : IsAmong reached at

  module _ (c : PieceContext) (is : c.set ≡ set) (same : c.functions ≡ functions) (backs : AreAmong c.returns) where
    -- Such a step leads to such an address.
    abbrev Leads : Ran Step → Type 0
    Leads = LeadsTo IsThere c

    -- at an address
    known : (at : ℕ) (s : List ℤ) (w : World) → IsAmong reached at → IsThere c at s w
    known at s w there = record { is = is; functions_are = same; backs = backs; there = there }

    -- on with what was given on top,
    topped : (at : ℕ) (s : List ℤ) (r : Ran ℤ) → IsAmong reached at → Leads (then_do r (goes_with at s))
    topped at s (Gives z w a) there = known at (z ∷ s) w there
    topped at s (Faults fault line w a) there = tt

    -- or without it
    went : {A : Type 0} (at : ℕ) (s : List ℤ) (r : Ran A) → IsAmong reached at → Leads (then_do r (λ _ w. Gives (GoesTo at s) w []))
    went at s (Gives x w a) there = known at s w there
    went at s (Faults fault line w a) there = tt

    -- where there is room
    with-room : (b : Bool) (w : World) (r : Ran Step) → Leads r → Leads (if b then r else Gives Sticks w [])
    with-room true w r h = h
    with-room false w r h = tt

    -- a number more
    pushed : (at : ℕ) (s : List ℤ) (w : World) (r : Ran ℤ) → IsAmong reached (at + 1) →
        Leads (if nat_lt (length s) c.room then then_do r (goes_with (at + 1) s) else Gives Sticks w [])
    pushed at s w r there = with-room (nat_lt (length s) c.room) w _ (topped (at + 1) s r there)

    -- into a function
    begun : {A : Type 0} (at start : ℕ) (s : List ℤ) (r : Ran A) → IsAmong reached at → IsAmong reached start → Leads (then_do r (goes_over (at ∷ c.returns) start s))
    begun at start s (Gives x w a) back there = record { is = is; functions_are = same; backs = (back, backs); there = there }
    begun at start s (Faults fault line w a) back there = tt

    -- a call
    called : (o : Option Entry) (n line at : ℕ) (s : List ℤ) (w : World) → IsAmong reached (at + 1) → BeginsAmong reached o → Leads (calls c o n line at s w)
    called None n line at s w back begins = tt
    called (Some e) n line at s w back begins =
        with-room (nat_le n (length s)) w _
        (with-room (nat_lt (length c.returns) (length c.functions)) w _
        (begun (at + 1) e.start (drop n s) (called_with c.set e.parameters line (reverse (take n s)) w) back begins))

    -- a return
    returned : (rs : List ℕ) (s : List ℤ) (w : World) → AreAmong rs → Leads (returns_to rs s w)
    returned [] s w all = tt
    returned (back ∷ rs) s w all = record { is = is; functions_are = same; backs = all.1; there = all.0 }

    -- each instruction
    done-leads : (i : Instr) (at : ℕ) (s : List ℤ) (w : World) → LeadsAmong reached c.functions at i → Leads (done_by c i at s w)
    done-leads (Push z) at s w to = pushed at s w (gives z w) to
    done-leads (Load v) at s w to = pushed at s w (read c.set v (pos 0) w) to
    done-leads (Check v line) at [] w to = tt
    done-leads (Check v line) at (k ∷ s) w to = topped (at + 1) s (subscript v line k w) to
    done-leads (Get v) at [] w to = tt
    done-leads (Get v) at (k ∷ s) w to = topped (at + 1) s (read c.set v k w) to
    done-leads (Peek v) at [] w to = tt
    done-leads (Peek v) at (k ∷ s) w to = pushed at (k ∷ s) w (read c.set v k w) to
    done-leads (Store v line) at [] w to = tt
    done-leads (Store v line) at (z ∷ s) w to = topped (at + 1) s (stored c.set v line (pos 0) z w) to
    done-leads (StoreAt v line) at [] w to = tt
    done-leads (StoreAt v line) at (z ∷ []) w to = tt
    done-leads (StoreAt v line) at (z ∷ k ∷ s) w to = topped (at + 1) s (stored c.set v line k z w) to
    done-leads (Adjust v op op_line line is_before) at s w to = pushed at s w (adjusted c.set v op op_line line is_before (pos 0) w) to
    done-leads (Increment v op op_line line) at s w to = went (at + 1) s (adjusted c.set v op op_line line true (pos 0) w) to
    done-leads (AdjustAt v op op_line line is_before) at [] w to = tt
    done-leads (AdjustAt v op op_line line is_before) at (k ∷ s) w to = topped (at + 1) s (adjusted c.set v op op_line line is_before k w) to
    done-leads (Apply op line) at [] w to = tt
    done-leads (Apply op line) at (y ∷ []) w to = tt
    done-leads (Apply op line) at (y ∷ x ∷ s) w to = topped (at + 1) s (operated op line x y w) to
    done-leads (ApplyNumber op z line) at [] w to = tt
    done-leads (ApplyNumber op z line) at (x ∷ s) w to = topped (at + 1) s (operated op line x z w) to
    done-leads (ApplyPrefix op line) at [] w to = tt
    done-leads (ApplyPrefix op line) at (z ∷ s) w to = topped (at + 1) s (operated_prefix op line z w) to
    done-leads Settle at [] w to = tt
    done-leads Settle at (z ∷ s) w to = topped (at + 1) s (settled z w) to
    done-leads Drop at [] w to = tt
    done-leads Drop at (z ∷ s) w to = known (at + 1) s w to
    done-leads (Jump n) at s w to = known (at + 1 + n) s w to
    done-leads (JumpIfZero n) at [] w to = tt
    done-leads (JumpIfZero n) at (z ∷ s) w to = known _ s w (by (is_zero z))
      where
        by : (b : Bool) → IsAmong reached (if b then at + 1 + n else at + 1)
        by true = to.1
        by false = to.0
    done-leads (Tick line back) at s w to = went (at - back) s (spent line w) to
    done-leads (Print format n) at s w to =
        with-room (nat_le n (length s)) w _
        (with-room (nat_lt (length (drop n s)) c.room) w _ (topped (at + 1) (drop n s) (printed c.name (format_text c.formats format) (take n s) w) to))
    done-leads (Wait in_seconds) at [] w to = tt
    done-leads (Wait in_seconds) at (z ∷ s) w to = topped (at + 1) s (waited c.set in_seconds z w) to
    done-leads (Put v async) at s w to = pushed at s w (put_element async c.set v (pos 0) w) to
    done-leads (PutAt v async) at [] w to = tt
    done-leads (PutAt v async) at (k ∷ s) w to = topped (at + 1) s (put_element async c.set v k w) to
    done-leads (Ask query number) at s w to = pushed at s w (asked query number w) to
    done-leads (AskLink query v) at s w to = pushed at s w (ask_element query c.set v (pos 0) w) to
    done-leads (AskElement query v) at [] w to = tt
    done-leads (AskElement query v) at (k ∷ s) w to = topped (at + 1) s (ask_element query c.set v k w) to
    done-leads (Clear v) at s w to = went (at + 1) s (cleared c.set v w) to
    done-leads (Assign v k line) at [] w to = tt
    done-leads (Assign v k line) at (z ∷ s) w to = went (at + 1) s (stored c.set v line (pos k) z w) to
    done-leads (Call f n line) at s w to = called (slice_get c.functions f) n line at s w to.0 to.1
    done-leads (Fit least greatest line) at [] w to = tt
    done-leads (Fit least greatest line) at (z ∷ s) w to = topped (at + 1) s (fitted least greatest line z w) to
    done-leads Return at s w to = returned c.returns s w backs
    done-leads (Leave state) at s w to = tt
    done-leads End at s w to = tt

  -- a step
  leads : (c : PieceContext) (at : ℕ) (s : List ℤ) (w : World) → IsThere c at s w → LeadsTo IsThere c (step_of c (slice_get code at) at s w)
  leads c at s w here = by (slice_get code at) refl
    where
      by : (o : Option Instr) → slice_get code at ≡ o → LeadsTo IsThere c (step_of c o at s w)
      by None found = tt
      by (Some i) found =
          done-leads c here.is here.functions_are here.backs i at s w
          (subst (λ (fs : List Entry). LeadsAmong reached fs at i) (sym here.functions_are) (right.leads at i found here.there))

  -- an element of a variable behind the words of free links is none of theirs
  element-clear : (v : Variable) (k : ℕ) → IsBehindFree free l set v → IsElementClear free l set v k
  element-clear v k behind =
      ⊎_elim (λ shared. inl shared)
      (λ (clear : (link home : ℕ) (t : Tied) → IsFree free l link t → home_at l set link ≡ Some home → home + t.count ≤ v.place).
      inr (λ link home t is begins. let low = clear link home t is begins in inl (omega (arith, low)))) behind

  -- what an instruction writes
  may : (c : PieceContext) (at : ℕ) (s : List ℤ) (w : World) (i : Instr) → IsThere c at s w → slice_get code at ≡ Some i → IsUnwritten free l c i s
  may c at s w i here found =
      by i s (subst (λ (n : ℕ). IsSparing free l n c.functions i) (sym here.is)
      (subst (λ (fs : List Entry). IsSparing free l set fs i) (sym here.functions_are) (right.spares at i found here.there)))
    where
      element : (v : Variable) (k : ℕ) → IsBehindFree free l c.set v → IsElementClear free l c.set v k
      element v k behind =
          subst (λ (n : ℕ). IsElementClear free l n v k) (sym here.is) (element-clear v k (subst (λ (n : ℕ). IsBehindFree free l n v) here.is behind))

      by : (j : Instr) (t : List ℤ) → IsSparing free l c.set c.functions j → IsUnwritten free l c j t
      by (Push z) t spares = tt
      by (Load v) t spares = tt
      by (Check v line) t spares = tt
      by (Get v) t spares = tt
      by (Peek v) t spares = tt
      by (Store v line) t spares = spares
      by (StoreAt v line) [] spares = tt
      by (StoreAt v line) (z ∷ []) spares = tt
      by (StoreAt v line) (z ∷ k ∷ t) spares = element v (natural k) spares
      by (Adjust v op op_line line is_before) t spares = spares
      by (Increment v op op_line line) t spares = spares
      by (AdjustAt v op op_line line is_before) [] spares = tt
      by (AdjustAt v op op_line line is_before) (k ∷ t) spares = element v (natural k) spares
      by (Apply op line) t spares = tt
      by (ApplyNumber op z line) t spares = tt
      by (ApplyPrefix op line) t spares = tt
      by Settle t spares = tt
      by Drop t spares = tt
      by (Jump n) t spares = tt
      by (JumpIfZero n) t spares = tt
      by (Tick line back) t spares = tt
      by (Print format n) t spares = tt
      by (Wait in_seconds) t spares = tt
      by (Put v async) t spares = tt
      by (PutAt v async) t spares = tt
      by (Ask query number) t spares = tt
      by (AskLink query v) t spares = spares
      by (AskElement query v) t spares = spares
      by (Clear v) t spares = spares
      by (Assign v k line) t spares = spares
      by (Call function n line) t spares = spares
      by (Fit least greatest line) t spares = tt
      by Return t spares = tt
      by (Leave state) t spares = tt
      by End t spares = tt

-- ---- the law

-- a run from an address keeps links settled
run-spares : (p : ProgramTree) (ls : List Link) (c : Code) (free : List ℕ) (values : List (List (List ℤ))) (reached : List Bool) → CanBeFree free (layout_for p ls) → (set start : ℕ) →
    IsAmong reached start → AreSparing free (layout_for p ls) set (entries_of c) reached c.instrs.items → (room : ℕ) (w : World) → IsSettled free values (layout_for p ls) w →
    IsSettled free values (layout_for p ls) (world_after (run_of (context_of (scene_in p set) (entries_of c) room) c.instrs.items start w))
run-spares p ls c free values reached can set start there right room w s =
    let d = context_of (scene_in p set) (entries_of c) room in
    let l = layout_for p ls in
    exec-settles free values l can c.instrs.items (IsThere free l set (entries_of c) reached c.instrs.items right)
    (leads free l set (entries_of c) reached c.instrs.items right) (may free l set (entries_of c) reached c.instrs.items right)
    (suc (credit d w) * length c.instrs.items) d start [] w (record { is = refl; functions_are = refl; backs = tt; there = there }) s

-- and so does a piece that begins there
pub pieces_spare : PiecesSpare
pieces_spare p ls c free values name piece start reached code can is found there right =
    piece-settles p ls c free values code (set_of piece) start (run-spares p ls c free values reached can (set_of piece) start there right) name piece is found refl

-- so do lines
pub lines_spare : LinesSpare
lines_spare p ls c free values tables waits budget ms event w code some can sparing comes there settled =
    lines_settle p ls c free values waits budget ms event w code some can (λ name piece is. settles name piece is (start_in (table_of c) name) refl) comes there settled
  where
    settles : (name : Piece) (piece : PieceTree) → kept_piece (holds_in (table_of c)) p name ≡ Some piece → (o : Option ℕ) → start_in (table_of c) name ≡ o →
        PieceSettles (IsSettled free values (layout_for p ls)) p piece
    settles name piece is None found =
        absurd (subst (IsPlaced p c.instrs.items (entries_of c) (Some piece)) found
        (subst (λ (o : Option PieceTree). IsPlaced p c.instrs.items (entries_of c) o (start_in (table_of c) name)) is (code.placed name)))
    settles name piece is (Some start) found =
        pieces_spare p ls c free values name piece start (slice_index_or tables (set_of piece) []) code can is found (sparing.begins name piece start is found)
        (sparing.spares (set_of piece))
