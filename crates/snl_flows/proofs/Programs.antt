-- Where the pieces of a program come out alike, each in its states, so do its clauses, states and state sets, without those that no run can come to.
use Rattle.std.proofs.Common.{◌≡◌, ◌∙◌, ◌⊎◌, ◌+◌, ◌≤◌, ◌<◌, inl, inr, sym, ap, subst, refl, arith, ℕ, suc, ℤ, Bool, true, false, List, [], ◌∷◌, ◌++◌, Option, None, Some, length, map, if◌then◌else◌}
use Rattle.std.specs.Prelude.{slice_get, option_and_then, option_map}
use Rattle.std.proofs.lemmas.List.{append-nil}
use Rattle.snl_channels.specs.Links.{Link}
use Rattle.snl_flat.specs.declared.starts.Piece.{Piece}
use Rattle.snl_flat.specs.declared.starts.Piece.TheVariants.{Entry, Exit, Condition, Block}
use Rattle.snl_flat.specs.Heres.{scene_in}
use Rattle.snl_flat.specs.Pieces.{PieceTree, Test, Action, clause_at, kept_piece, piece_of, state_at}
use Rattle.snl_flat.specs.Reached.{Table}
use Rattle.snl_load.specs.Meaning.{block_meaning, clause_meaning, finished, program_meaning, set_meaning, set_meanings, state_left_for, state_meaning, target_of}
use Rattle.snl_load.specs.Reached.{if_reached, only_reached, set_reached, states_reached}
use Rattle.snl_meaning.specs.Effect.{Way, Done, Broken, Continued, Left, Returned, block_effect, held_by}
use Rattle.snl_meaning.specs.Ran.{Ran, Gives, Faults, also, then_do}
use Rattle.snl_meaning.specs.World.{World}
use Rattle.snl_schedule.specs.Turn.{target_by}
use Rattle.snl_syntax.specs.Expressions.{ExprTree}
use Rattle.snl_syntax.specs.Programs.{ClauseTree, ProgramTree, StateTree, StateSetTree}
use Rattle.snl_syntax.specs.Statements.{BlockTree}
use Rattle.snl_alike.specs.Runs.{ClausesAgree, GoesTo, HoldsBehind, ProgramAgrees, ReceiveAlike, SetsAgree, StateAgrees, StatesAgree, TellsStrays}
use Rattle.snl_alike.specs.TwoRuns.{Agrees, Alike, BothGive, BothFault, FirstLeftOut, SecondLeftOut, SecondWrote, Exempt}
use Rattle.snl_alike.proofs.Words.{wrote-then}

-- A piece is one of a state.
abbrev pub IsOf : Piece → (state : ℕ) → Type 0
IsOf (Entry set s) state = s ≡ state
IsOf (Exit set s) state = s ≡ state
IsOf (Condition set s k) state = s ≡ state
IsOf (Block set s k) state = s ≡ state
IsOf _ state = ⊥

-- what does not depend on a value holds behind two runs, whatever becomes of their values
dropped-behind : (P : World → World → Type 0) (r s : Ran (Option ℕ)) (drop : Option ℕ → World → Ran (Unit {0})) → ((o : Option ℕ) (w : World) → drop o w ≡ Gives tt w []) →
    HoldsBehind (λ _. P) r s → HoldsBehind (λ _. P) (then_do r drop) (then_do s drop)
dropped-behind P (Gives o w a) (Gives q u b) drop is h =
    subst (λ (x : Ran (Unit {0})). HoldsBehind (λ _. P) (also a x) (also b (drop q u))) (sym (is o w))
    (subst (λ (x : Ran (Unit {0})). HoldsBehind (λ _. P) (also a (Gives tt w [])) (also b x)) (sym (is q u)) h)
dropped-behind P (Gives o w a) (Faults fault line u b) drop is h =
    subst (λ (x : Ran (Unit {0})). HoldsBehind (λ _. P) (also a x) (Faults fault line u b)) (sym (is o w)) tt
dropped-behind P (Faults fault line w a) s drop is h = tt

-- an entry or an exit block, by the state that it leaves for, which does not count
abbrev drop : Option ℕ → World → Ran (Unit {0})
drop o w = Gives tt w []

-- it is the same
dropped : (x : Ran Way) → then_do (then_do x state_left_for) drop ≡ then_do x finished
dropped (Gives Done w a) = ap (λ (b : List ℕ). Gives tt w b) (append-nil (a ++ []))
dropped (Gives Broken w a) = ap (λ (b : List ℕ). Gives tt w b) (append-nil (a ++ []))
dropped (Gives Continued w a) = ap (λ (b : List ℕ). Gives tt w b) (append-nil (a ++ []))
dropped (Gives (Left state) w a) = ap (λ (b : List ℕ). Gives tt w b) (append-nil (a ++ []))
dropped (Gives (Returned z) w a) = ap (λ (b : List ℕ). Gives tt w b) (append-nil (a ++ []))
dropped (Faults fault line w a) = refl

-- so what holds behind the one holds behind the other
finished-behind : (P : World → World → Type 0) (r s : Ran Way) → HoldsBehind (λ _. P) (then_do r state_left_for) (then_do s state_left_for) →
    HoldsBehind (λ _. P) (then_do r finished) (then_do s finished)
finished-behind P r s h =
    subst (λ (x : Ran (Unit {0})). HoldsBehind (λ _. P) x (then_do s finished)) (dropped r)
    (subst (λ (x : Ran (Unit {0})). HoldsBehind (λ _. P) (then_do (then_do r state_left_for) drop) x) (dropped s)
    (dropped-behind P (then_do r state_left_for) (then_do s state_left_for) drop (λ o w. refl) h))

module _ (X : Exempt) (T : List ℕ → List ℕ → Type 0) (silent : T [] []) (joined : (a b c d : List ℕ) → T a b → T c d → T (a ++ c) (b ++ d)) where
  module _ (R : World → World → Type 0) where
    -- a condition comes out alike,
    abbrev pub TestAgrees : ProgramTree → (set : ℕ) → ExprTree → Type 0
    TestAgrees p set e = Agrees X R T (held_by (scene_in p set) (Some e))

    -- and a block
    abbrev pub ActionAgrees : ProgramTree → (set : ℕ) → BlockTree → Type 0
    ActionAgrees p set b = Agrees X R T (λ w. then_do (block_effect (scene_in p set) b w) state_left_for)

    -- what does nothing
    nothing-agrees : {A : Type 0} (x : A) → Agrees X R T (λ w. Gives x w [])
    nothing-agrees x w u e = BothGive x w u [] [] e silent

    -- an entry or an exit block
    finished-alike : (r s : Ran Way) → Alike X R T (then_do r state_left_for) (then_do s state_left_for) → Alike X R T (then_do r finished) (then_do s finished)
    finished-alike r s h =
        subst (λ (x : Ran (Unit {0})). Alike X R T x (then_do s finished)) (dropped r)
        (subst (λ (x : Ran (Unit {0})). Alike X R T (then_do (then_do r state_left_for) drop) x) (dropped s) (by _ _ h))
      where
        by : (x y : Ran (Option ℕ)) → Alike X R T x y → Alike X R T (then_do x drop) (then_do y drop)
        by _ _ (BothGive o w u a b e t) = BothGive tt w u (a ++ []) (b ++ []) e (joined a b [] [] t silent)
        by _ _ (BothFault fault line w u a b e t) = BothFault fault line w u a b e t
        by _ _ (FirstLeftOut fault line w a r out) = FirstLeftOut fault line w a (then_do r drop) out
        by _ _ (SecondLeftOut fault line u b r out) = SecondLeftOut fault line u b (then_do r drop) out
        by _ _ (SecondWrote r s wrote) = SecondWrote (then_do r drop) (then_do s drop) (wrote-then X s drop wrote)

    -- one that may be missing
    block-agrees : (p : ProgramTree) (set : ℕ) (b : Option BlockTree) → ((x : BlockTree) → b ≡ Some x → ActionAgrees p set x) → Agrees X R T (block_meaning (scene_in p set) b)
    block-agrees p set None agrees w u e = BothGive tt w u [] [] e silent
    block-agrees p set (Some b) agrees w u e = finished-alike (block_effect (scene_in p set) b w) (block_effect (scene_in p set) b u) (agrees b refl w u e)

  module _ (E : World → World → Type 0) (In : (set state : ℕ) → World → World → Type 0) (Strays : (set state : ℕ) → Type 0) (Leaves : (set from to : ℕ) → World → World → Type 0)
      (p : ProgramTree) (reached : Table) where
    -- The pieces that the code has come out alike, those of a state while a state set is in it; behind the block of a clause more is known, by
    -- where it leads, and an exit block keeps that.
    pub record PiecesAgree : Type 0 where
      pub tests : (set state : ℕ) (name : Piece) (x : ExprTree) → IsOf name state → kept_piece reached p name ≡ Some (Test set x) → TestAgrees (In set state) p set x
      pub blocks : (set state : ℕ) (name : Piece) (b : BlockTree) → IsOf name state → kept_piece reached p name ≡ Some (Action set b) → ActionAgrees (In set state) p set b
      pub own : (b : BlockTree) → (p.entry ≡ Some b) ⊎ (p.exit ≡ Some b) → ActionAgrees E p 0 b
      pub leads : (set state k : ℕ) (c : ClauseTree) → clause_at p set state k ≡ Some c → kept_piece reached p (Block set state k) ≡ Some (Action set c.block) → (w u : World) →
          In set state w u → HoldsBehind (λ left. GoesTo (Strays set) (Leaves set state) (target_by left (target_of (scene_in p set).here.states c.target)))
          (then_do (block_effect (scene_in p set) c.block w) state_left_for) (then_do (block_effect (scene_in p set) c.block u) state_left_for)
      pub keeps : (set state to : ℕ) (b : BlockTree) → kept_piece reached p (Exit set state) ≡ Some (Action set b) → (w u : World) → In set state w u → Leaves set state to w u →
          HoldsBehind (λ _. Leaves set state to) (then_do (block_effect (scene_in p set) b w) state_left_for) (then_do (block_effect (scene_in p set) b u) state_left_for)

    module _ (all : PiecesAgree) (tells : (set : ℕ) (g : StateSetTree) → slice_get p.state_sets set ≡ Some g → TellsStrays X Strays (set_reached reached (set_meaning p set g))) where
      module _ (set state : ℕ) (q : StateTree) (at : state_at p set state ≡ Some q) (is : reached set state ≡ true) where
        -- what the code has of a state that is reached
        kept : (name : Piece) (o : Option PieceTree) → (if reached set state then piece_of p name else None) ≡ kept_piece reached p name → piece_of p name ≡ o → kept_piece reached p name ≡ o
        kept name o same piece = sym same ∙ ap (λ (b : Bool). if b then piece_of p name else None) is ∙ piece

        -- its clauses
        clauses-agree : (n : ℕ) (cs : List ClauseTree) → ((i : ℕ) → slice_get cs i ≡ slice_get q.clauses (n + i)) →
            ClausesAgree X (In set state) (Strays set) (Leaves set state) T (map (clause_meaning (scene_in p set)) cs)
        clauses-agree n [] here = tt
        clauses-agree n (c ∷ cs) here = (
          record {
            holds = holds c.condition refl;
            acts = λ w u e. all.blocks set state (Block set state n) c.block refl block w u e;
            leads = λ w u e. all.leads set state n c clause block w u e;
          },
          clauses-agree (suc n) cs (λ i. here (suc i) ∙ ap (slice_get q.clauses) (omega arith)),
        )
          where
            clause : clause_at p set state n ≡ Some c
            clause = ap (option_and_then (λ (s : StateTree). slice_get s.clauses n)) at ∙ ap (slice_get q.clauses) (omega arith) ∙ sym (here 0)

            block : kept_piece reached p (Block set state n) ≡ Some (Action set c.block)
            block = kept (Block set state n) _ refl (ap (option_map (λ (x : ClauseTree). Action set x.block)) clause)

            holds : (o : Option ExprTree) → c.condition ≡ o → Agrees X (In set state) T (held_by (scene_in p set) o)
            holds None none = nothing-agrees (In set state) true
            holds (Some x) some =
                all.tests set state (Condition set state n) x refl
                (kept (Condition set state n) _ refl
                (ap (option_and_then (λ (y : ClauseTree). option_map (Test set) y.condition)) clause ∙ ap (option_map (Test set)) some))

        -- a block of the state
        state-block : (name : Piece) (b : Option BlockTree) → IsOf name state → kept_piece reached p name ≡ option_map (Action set) b → Agrees X (In set state) T (block_meaning (scene_in p set) b)
        state-block name b of has =
            block-agrees (In set state) p set b (λ x some. all.blocks set state name x of (has ∙ ap (option_map (Action set)) some))

        -- the exit block
        exit-keeps : (to : ℕ) (b : Option BlockTree) → kept_piece reached p (Exit set state) ≡ option_map (Action set) b → (w u : World) → In set state w u → Leaves set state to w u →
            HoldsBehind (λ _. Leaves set state to) (block_meaning (scene_in p set) b w) (block_meaning (scene_in p set) b u)
        exit-keeps to None has w u e l = l
        exit-keeps to (Some b) has w u e l =
            finished-behind (Leaves set state to) (block_effect (scene_in p set) b w) (block_effect (scene_in p set) b u) (all.keeps set state to b has w u e l)

        -- where it is in the code
        exit-kept : kept_piece reached p (Exit set state) ≡ option_map (Action set) q.exit
        exit-kept = kept (Exit set state) _ refl (ap (option_and_then (λ (s : StateTree). option_map (Action set) s.exit)) at)

        -- all of it
        state-agrees : StateAgrees X (In set state) (Strays set) (Leaves set state) T (state_meaning (scene_in p set) q)
        state-agrees = record {
          entry = state-block (Entry set state) q.entry refl (kept (Entry set state) _ refl (ap (option_and_then (λ (s : StateTree). option_map (Action set) s.entry)) at));
          clauses = clauses-agree 0 q.clauses (λ i. ap (slice_get q.clauses) (omega arith));
          exit = state-block (Exit set state) q.exit refl exit-kept;
          keeps = λ to w u e l. exit-keeps to q.exit exit-kept w u e l;
        }

      -- a state that may be reached or not
      reached-agrees : (set state : ℕ) (q : StateTree) → state_at p set state ≡ Some q → (b : Bool) → reached set state ≡ b →
          StateAgrees X (In set state) (Strays set) (Leaves set state) T (if_reached b (state_meaning (scene_in p set) q))
      reached-agrees set state q at true is = state-agrees set state q at is
      reached-agrees set state q at false is = record {
        entry = nothing-agrees (In set state) tt;
        clauses = tt;
        exit = nothing-agrees (In set state) tt;
        keeps = λ to w u e l. l;
      }

      -- states
      states-agree : (set : ℕ) (g : StateSetTree) → slice_get p.state_sets set ≡ Some g → (n : ℕ) (qs : List StateTree) → ((i : ℕ) → slice_get qs i ≡ slice_get g.states (n + i)) →
          StatesAgree X In Strays Leaves T set n (states_reached (reached set) n (map (state_meaning (scene_in p set)) qs))
      states-agree set g at n [] here = tt
      states-agree set g at n (q ∷ qs) here = (
        reached-agrees set n q (ap (option_and_then (λ (x : StateSetTree). slice_get x.states n)) at ∙ ap (slice_get g.states) (omega arith) ∙ sym (here 0)) (reached set n) refl,
        states-agree set g at (n + 1) qs (λ i. here (suc i) ∙ ap (slice_get g.states) (omega arith)),
      )

      -- state sets
      sets-agree : (k : ℕ) (gs : List StateSetTree) → ((i : ℕ) → slice_get gs i ≡ slice_get p.state_sets (k + i)) → k + length gs ≤ length p.state_sets →
          SetsAgree X In Strays Leaves T (length p.state_sets) (map (set_reached reached) (set_meanings p k gs))
      sets-agree k [] here within = tt
      sets-agree k (g ∷ gs) here within =
          let low : k < length p.state_sets = omega (arith, within) in
          let at : slice_get p.state_sets k ≡ Some g = ap (slice_get p.state_sets) (omega arith) ∙ sym (here 0) in (
            record { low = low; states = states-agree k g at 0 g.states (λ i. ap (slice_get g.states) (omega arith)); strays = tells k g at },
            sets-agree (k + 1) gs (λ i. here (suc i) ∙ ap (slice_get p.state_sets) (omega arith)) (omega (arith, within)),
          )

      -- a program
      pub program-agrees : (Comes : (channel : ℕ) → List ℤ → Type 0) (ls : List Link) (waits : Bool) → ReceiveAlike Comes E (only_reached reached (program_meaning p ls waits)).links →
          ProgramAgrees X Comes E In Strays Leaves T (length p.state_sets) (only_reached reached (program_meaning p ls waits))
      program-agrees Comes ls waits received = record {
        entry = block-agrees E p 0 p.entry (λ b is. all.own b (inl is));
        exit = block-agrees E p 0 p.exit (λ b is. all.own b (inr is));
        sets_agree = sets-agree 0 p.state_sets (λ i. ap (slice_get p.state_sets) (omega arith)) (omega arith);
        receives = received;
      }
