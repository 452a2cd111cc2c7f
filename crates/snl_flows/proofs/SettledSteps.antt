-- Code that writes no word of a free link keeps links settled: each instruction does, and so does each run.
use Rattle.std.proofs.Common.{◌≡◌, ◌+◌, ◌-◌, refl, ℕ, zero, suc, ℤ, pos, true, List, [], ◌∷◌, Option, None, Some, length, nat_lt, slice_get, reverse, take, drop}
use Rattle.std.specs.Prelude.{◌&&◌, int_le, nat_le}
use Rattle.snl_meaning.specs.declared.instrs.Instr.{Instr}
use Rattle.snl_meaning.specs.declared.instrs.Instr.TheVariants.{Push, Load, Check, Get, Peek, Store, StoreAt, Adjust, Increment, AdjustAt, Apply, ApplyNumber, ApplyPrefix, Settle, Drop, Jump, JumpIfZero, Tick, Print, Wait, Put, PutAt, Ask, AskLink, AskElement, Clear, Assign, Call, Fit, Return, Leave, End}
use Rattle.snl_meaning.specs.Asking.{ask_element, asked}
use Rattle.snl_meaning.specs.Keeping.{world_after}
use Rattle.snl_meaning.specs.Names.{format_text}
use Rattle.snl_meaning.specs.Ran.{Ran, Gives, Faults, then_do}
use Rattle.snl_meaning.specs.Run.{Entry, PieceContext, Step, EndsWith, GoesOver, GoesTo, LeavesFor, Sticks, calls, done_by, exec, from_there, goes, goes_over, goes_with, pushes, returns_to, step_of, with_returns}
use Rattle.snl_meaning.specs.Words.{adjusted, called_with, fitted, gives, is_subscript, operated, operated_prefix, printed, put_element, read, settled, spent, stored, subscript, waited}
use Rattle.snl_meaning.specs.World.{World}
use Rattle.snl_meaning.proofs.WordKeeps.{after-test}
use Rattle.snl_flows.specs.Settled.{CanBeFree, IsSettled, Layout}
use Rattle.snl_flows.specs.Unwritten.{IsUnwritten, TakesClear}
use Rattle.snl_flows.proofs.SettledWords.{behind, keeps-adjusted, keeps-ask, keeps-asked, keeps-called, keeps-operated, keeps-prefix, keeps-put, keeps-spent, keeps-stored, keeps-waited, two-steps, zeros-come}

-- What is known where a step leads.
abbrev pub LeadsTo : (PieceContext → ℕ → List ℤ → World → Type 0) → PieceContext → Ran Step → Type 0
LeadsTo Q c (Gives (GoesTo at s) w a) = Q c at s w
LeadsTo Q c (Gives (GoesOver returns at s) w a) = Q (with_returns c returns) at s w
LeadsTo Q c _ = Unit {0}

module _ (free : List ℕ) (values : List (List (List ℤ))) (l : Layout) (can : CanBeFree free l) where
  -- links are settled
  abbrev Settled : World → Type 0
  Settled = IsSettled free values l

  -- a word, and then a step that changes nothing
  stepped : {A B : Type 0} (r : Ran A) (go : A → World → Ran B) → Settled (world_after r) → ((x : A) (u : World) → world_after (go x u) ≡ u) → Settled (world_after (then_do r go))
  stepped r go s same = two-steps Settled r go s (λ x u p. rw (same x u) p)

  module _ (c : PieceContext) where
    -- on with what it gave on top
    topped : (at : ℕ) (s : List ℤ) (r : Ran ℤ) → Settled (world_after r) → Settled (world_after (then_do r (goes_with at s)))
    topped at s r p = stepped r (goes_with at s) p (λ z u. refl)

    -- a number more
    pushed : (at : ℕ) (s : List ℤ) (w : World) (r : Ran ℤ) → Settled w → Settled (world_after r) → Settled (world_after (pushes c at s w r))
    pushed at s w r p q = after-test Settled (nat_lt (length s) c.room) _ _ (topped (at + 1) s r q) p

    -- a call
    called : (o : Option Entry) (n line at : ℕ) (s : List ℤ) (w : World) → TakesClear free l c.set o → Settled w → Settled (world_after (calls c o n line at s w))
    called None n line at s w clear p = p
    called (Some e) n line at s w clear p =
        after-test Settled (nat_le n (length s)) _ _
        (after-test Settled (nat_lt (length c.returns) (length c.functions)) _ _
        (stepped (called_with c.set e.parameters line (reverse (take n s)) w) (goes_over ((at + 1) ∷ c.returns) e.start (drop n s))
        (keeps-called free values l can c.set e.parameters line (reverse (take n s)) clear w p) (λ x u. refl)) p) p

    -- a return
    returned : (rs : List ℕ) (s : List ℤ) (w : World) → Settled w → Settled (world_after (returns_to rs s w))
    returned [] s w p = p
    returned (back ∷ rs) s w p = p

    -- each instruction
    pub done-settles : (i : Instr) (at : ℕ) (s : List ℤ) (w : World) → IsUnwritten free l c i s → Settled w → Settled (world_after (done_by c i at s w))
    done-settles (Push z) at s w may p = pushed at s w (gives z w) p p
    done-settles (Load v) at s w may p = pushed at s w (read c.set v (pos 0) w) p p
    done-settles (Check v line) at [] w may p = p
    done-settles (Check v line) at (k ∷ s) w may p = topped (at + 1) s (subscript v line k w) (after-test Settled (is_subscript v.size k) _ _ p p)
    done-settles (Get v) at [] w may p = p
    done-settles (Get v) at (k ∷ s) w may p = topped (at + 1) s (read c.set v k w) p
    done-settles (Peek v) at [] w may p = p
    done-settles (Peek v) at (k ∷ s) w may p = pushed at (k ∷ s) w (read c.set v k w) p p
    done-settles (Store v line) at [] w may p = p
    done-settles (Store v line) at (z ∷ s) w may p = topped (at + 1) s (stored c.set v line (pos 0) z w) (keeps-stored free values l can c.set v line (pos 0) may z w p)
    done-settles (StoreAt v line) at [] w may p = p
    done-settles (StoreAt v line) at (z ∷ []) w may p = p
    done-settles (StoreAt v line) at (z ∷ k ∷ s) w may p = topped (at + 1) s (stored c.set v line k z w) (keeps-stored free values l can c.set v line k may z w p)
    done-settles (Adjust v op op_line line is_before) at s w may p =
        pushed at s w (adjusted c.set v op op_line line is_before (pos 0) w) p (keeps-adjusted free values l can c.set v op op_line line is_before (pos 0) may w p)
    done-settles (Increment v op op_line line) at s w may p =
        stepped (adjusted c.set v op op_line line true (pos 0) w) (goes (at + 1) s) (keeps-adjusted free values l can c.set v op op_line line true (pos 0) may w p) (λ x u. refl)
    done-settles (AdjustAt v op op_line line is_before) at [] w may p = p
    done-settles (AdjustAt v op op_line line is_before) at (k ∷ s) w may p =
        topped (at + 1) s (adjusted c.set v op op_line line is_before k w) (keeps-adjusted free values l can c.set v op op_line line is_before k may w p)
    done-settles (Apply op line) at [] w may p = p
    done-settles (Apply op line) at (y ∷ []) w may p = p
    done-settles (Apply op line) at (y ∷ x ∷ s) w may p = topped (at + 1) s (operated op line x y w) (keeps-operated free values l can c.set op line x y w p)
    done-settles (ApplyNumber op z line) at [] w may p = p
    done-settles (ApplyNumber op z line) at (x ∷ s) w may p = topped (at + 1) s (operated op line x z w) (keeps-operated free values l can c.set op line x z w p)
    done-settles (ApplyPrefix op line) at [] w may p = p
    done-settles (ApplyPrefix op line) at (z ∷ s) w may p = topped (at + 1) s (operated_prefix op line z w) (keeps-prefix free values l can c.set op line z w p)
    done-settles Settle at [] w may p = p
    done-settles Settle at (z ∷ s) w may p = topped (at + 1) s (settled z w) p
    done-settles Drop at [] w may p = p
    done-settles Drop at (z ∷ s) w may p = p
    done-settles (Jump n) at s w may p = p
    done-settles (JumpIfZero n) at [] w may p = p
    done-settles (JumpIfZero n) at (z ∷ s) w may p = p
    done-settles (Tick line back) at s w may p = stepped (spent line w) (goes (at - back) s) (keeps-spent free values l can c.set line w p) (λ x u. refl)
    done-settles (Print format n) at s w may p =
        after-test Settled (nat_le n (length s)) _ _
        (after-test Settled (nat_lt (length (drop n s)) c.room) _ _ (topped (at + 1) (drop n s) (printed c.name (format_text c.formats format) (take n s) w) p) p) p
    done-settles (Wait in_seconds) at [] w may p = p
    done-settles (Wait in_seconds) at (z ∷ s) w may p = topped (at + 1) s (waited c.set in_seconds z w) (keeps-waited free values l can c.set in_seconds z w p)
    done-settles (Put v async) at s w may p = pushed at s w (put_element async c.set v (pos 0) w) p (keeps-put free values l can c.set async v (pos 0) w p)
    done-settles (PutAt v async) at [] w may p = p
    done-settles (PutAt v async) at (k ∷ s) w may p = topped (at + 1) s (put_element async c.set v k w) (keeps-put free values l can c.set async v k w p)
    done-settles (Ask query number) at s w may p = pushed at s w (asked query number w) p (keeps-asked free values l can c.set query number w p)
    done-settles (AskLink query v) at s w may p = pushed at s w (ask_element query c.set v (pos 0) w) p (keeps-ask free values l can c.set query v (pos 0) may w p)
    done-settles (AskElement query v) at [] w may p = p
    done-settles (AskElement query v) at (k ∷ s) w may p = topped (at + 1) s (ask_element query c.set v k w) (keeps-ask free values l can c.set query v k may w p)
    done-settles (Clear v) at s w may p = zeros-come free values l can c.set v w may p
    done-settles (Assign v k line) at [] w may p = p
    done-settles (Assign v k line) at (z ∷ s) w may p =
        stepped (stored c.set v line (pos k) z w) (goes (at + 1) s) (keeps-stored free values l can c.set v line (pos k) may z w p) (λ x u. refl)
    done-settles (Call f n line) at s w may p = called (slice_get c.functions f) n line at s w may p
    done-settles (Fit least greatest line) at [] w may p = p
    done-settles (Fit least greatest line) at (z ∷ s) w may p = topped (at + 1) s (fitted least greatest line z w) (after-test Settled (int_le least z && int_le z greatest) _ _ p p)
    done-settles Return at s w may p = returned c.returns s w p
    done-settles (Leave state) at s w may p = p
    done-settles End at s w may p = p

  -- ---- runs

  module _ (code : List Instr) (Q : PieceContext → ℕ → List ℤ → World → Type 0)
      (leads : (c : PieceContext) (at : ℕ) (s : List ℤ) (w : World) → Q c at s w → LeadsTo Q c (step_of c (slice_get code at) at s w))
      (may : (c : PieceContext) (at : ℕ) (s : List ℤ) (w : World) (i : Instr) → Q c at s w → slice_get code at ≡ Some i → IsUnwritten free l c i s) where
    -- a step
    step-settles : (c : PieceContext) (at : ℕ) (s : List ℤ) (w : World) → Q c at s w → Settled w → Settled (world_after (step_of c (slice_get code at) at s w))
    step-settles c at s w q p = by (slice_get code at) refl
      where
        by : (o : Option Instr) → slice_get code at ≡ o → Settled (world_after (step_of c o at s w))
        by None is = p
        by (Some i) is = done-settles c i at s w (may c at s w i q is) p

    -- What is claimed of runs of so many instructions.
    abbrev Claim : ℕ → Type 0
    Claim n = (c : PieceContext) (at : ℕ) (s : List ℤ) (w : World) → Q c at s w → Settled w → Settled (world_after (exec code n c at s w))

    -- where a step leads
    on : (n : ℕ) → Claim n → (c : PieceContext) (x : Step) (u : World) (a : List ℕ) → LeadsTo Q c (Gives x u a) → Settled u → Settled (world_after (from_there c (exec code n) x u))
    on n claim c (GoesTo pc more) u a known r = claim c pc more u known r
    on n claim c (GoesOver returns pc more) u a known r = claim (with_returns c returns) pc more u known r
    on n claim c (EndsWith more) u a known r = r
    on n claim c (LeavesFor state) u a known r = r
    on n claim c Sticks u a known r = r

    -- a step, and the rest of the run
    onward : (n : ℕ) → Claim n → (c : PieceContext) (r : Ran Step) → LeadsTo Q c r → Settled (world_after r) → Settled (world_after (then_do r (from_there c (exec code n))))
    onward n claim c (Gives x u a) known r = behind Settled a (from_there c (exec code n) x u) (on n claim c x u a known r)
    onward n claim c (Faults fault line u a) known r = r

    -- as many instructions as a run takes, of each address of which that is known
    pub exec-settles : (n : ℕ) → Claim n
    exec-settles zero c at s w q p = p
    exec-settles (suc n) c at s w q p =
        onward n (λ d pc more u known r. exec-settles n d pc more u known r) c (step_of c (slice_get code at) at s w) (leads c at s w q) (step-settles c at s w q p)
