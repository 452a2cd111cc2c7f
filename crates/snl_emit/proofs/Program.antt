-- A function of a program is right, where it stands below functions that are.
use Rattle.std.proofs.Common.{◌≡◌, ◌∙◌, ◌+◌, ◌≤◌, ℕ, suc, ℤ, pos, List, [], ◌∷◌, Some, refl, sym, ap, subst, arith, length, slice_get}
use Rattle.snl_meaning.specs.declared.instrs.Instr.{Instr}
use Rattle.snl_meaning.specs.declared.instrs.Instr.TheVariants.{Push, Return}
use Rattle.snl_meaning.specs.Effect.{Way, Done, Broken, Continued, Left, Returned, block_effect}
use Rattle.snl_meaning.specs.Endings.{HasAt}
use Rattle.snl_meaning.specs.Functions.{Routine, result, inside, callable_of}
use Rattle.snl_meaning.specs.Names.{Outline, Within, Piece, Body}
use Rattle.snl_meaning.specs.Ran.{Ran, Gives, then_do}
use Rattle.snl_meaning.specs.Run.{Entry, PieceContext, Exit, step_of, from_there, exec}
use Rattle.snl_meaning.specs.Scenes.{Callable, Scene}
use Rattle.snl_meaning.specs.World.{World}
use Rattle.snl_meaning.proofs.Following.{also-nil, has_front, has_back, Continues, run_at, continues-then, continues-quiet}
use Rattle.snl_meaning.proofs.Ticks.{AllKeep}
use Rattle.snl_emit.specs.BlockCode.{block_code}
use Rattle.snl_emit.specs.Depths.{outline_of}
use Rattle.snl_emit.specs.FunctionCode.{body_code}
use Rattle.snl_emit.specs.Right.{IsBody}
use Rattle.snl_emit.proofs.Callees.{IsCallee, AreCallees, callees-over}
use Rattle.snl_emit.proofs.Joins.{quiet-push}
use Rattle.snl_emit.proofs.Leading.{Away, led}
use Rattle.snl_emit.proofs.Settings.{Setting, running, IsSet}
use Rattle.snl_emit.proofs.StatementCode.{IsAway, block-follows}

-- what is known of the ways out of a body
away-home : (x : Within) (g : PieceContext) (code : List Instr) (below : List ℤ) (off : Away) → IsBody x → length below + 1 ≤ g.room →
    ((at : ℕ) (z : ℤ) (u : World) (k : ℕ) → slice_get code at ≡ Some Return → exec code (suc k) g at (z ∷ below) u ≡ off (Returned z) u k) → IsAway x g code below off
away-home Piece g code below off body some returns = absurd body
away-home (Body least greatest) g code below off body some returns = (some, returns)

module _ (set : ℕ) (name : List ℕ) (entries : List Entry) (room : ℕ) (code : List Instr) (above : List Callable) (os : List Outline) (r : Routine) (e : Entry) where
  -- where the body stands
  abbrev m : Scene
  m = inside set name above r

  -- what it runs with, with these calls under way
  abbrev setting : List ℕ → Setting
  setting returns = record { entries = entries; room = room; returns = returns; outlines = os }

  -- where the body ends
  abbrev last : ℕ
  last = e.start + length (block_code m.here 0 0 r.body)

  module _ (callees : AreCallees (running m (setting [])) code 0 above os) (keep : AllKeep above) (body : IsBody r.here.within)
      (there : HasAt code e.start (body_code m.here r.body)) where
    -- the body, with operands below and a call under way
    module _ (back : ℕ) (rs : List ℕ) (t : List ℤ) (some : length t + 1 ≤ room) (deep : length t + (outline_of os r).depth ≤ room)
        (places : suc (length rs) + length above ≤ length entries) where
      -- what it runs with
      abbrev g : PieceContext
      g = running m (setting (back ∷ rs))

      -- the call goes on with a value
      abbrev onward : ℤ → World → ℕ → Ran Exit
      onward z u = run_at (running m (setting rs)) code back (z ∷ t) u

      -- the ways out of the body lead to there
      abbrev off : Away
      off (Returned z) u = onward z u
      off _ u = onward (pos 0) u

      -- what is known where the body stands
      is : IsSet m (setting (back ∷ rs)) code
      is = record { callees = callees-over (running m (setting [])) (back ∷ rs) code 0 above os callees; names = refl; places = omega (arith, places); keep = keep }

      -- the instruction of a `return`
      returns : (at : ℕ) (z : ℤ) (u : World) (k : ℕ) → slice_get code at ≡ Some Return → exec code (suc k) g at (z ∷ t) u ≡ onward z u k
      returns at z u k at_return = ap (λ o. then_do (step_of g o at (z ∷ t) u) (from_there g (exec code k))) at_return ∙ also-nil (onward z u k)

      -- the end of the body gives 0
      ends-there : HasAt code last (Push (pos 0) ∷ Return ∷ []) → (u : World) → Continues (run_at g code last t u) (Gives (pos 0) u []) onward
      ends-there has u =
          continues-quiet g code last t u (last + 1) (pos 0 ∷ t) (Gives (pos 0) u []) onward (quiet-push g code (pos 0) last t u has.0 (omega (arith, some)))
          (record { by = λ k. (suc k, returns (last + 1) (pos 0) u k has.1.0 ∙ sym (also-nil (onward (pos 0) u k))) })

      -- what the body gives
      gives-result : HasAt code last (Push (pos 0) ∷ Return ∷ []) → (way : Way) (u : World) → Continues (led g code t off last (last + 0) (last + 0) way u) (result way u) onward
      gives-result has Done u = ends-there has u
      gives-result has Broken u = let same : last ≡ last + 0 = omega arith in subst (λ (p : ℕ). Continues (run_at g code p t u) (Gives (pos 0) u []) onward) same (ends-there has u)
      gives-result has Continued u = let same : last ≡ last + 0 = omega arith in subst (λ (p : ℕ). Continues (run_at g code p t u) (Gives (pos 0) u []) onward) same (ends-there has u)
      gives-result has (Left state) u = record { by = λ k. (k, sym (also-nil (onward (pos 0) u k))) }
      gives-result has (Returned z) u = record { by = λ k. (k, sym (also-nil (onward z u k))) }

      -- the whole function
      runs-body : (w : World) → Continues (run_at g code e.start t w) (then_do (block_effect m r.body w) result) onward
      runs-body w =
          let bc = block_code m.here 0 0 r.body in
          let has = has_back code e.start bc (Push (pos 0) ∷ Return ∷ []) there in
          continues-then (run_at g code e.start t w) (block_effect m r.body w) result (led g code t off last (last + 0) (last + 0)) onward
          (block-follows m (setting (back ∷ rs)) code is t off (away-home r.here.within g code t off body some returns) r.body 0 0 e.start w (has_front code e.start bc _ there) deep)
          (gives-result has)

    -- it is right
    pub callee-right : slice_get entries (length above) ≡ Some e → e.parameters ≡ r.parameters →
        IsCallee (running m (setting [])) code (length above) (callable_of set name above r) (outline_of os r)
    callee-right found same = record {
      name = refl;
      entry = e;
      there = found;
      parameters = same;
      runs = λ back rs t w some deep places. runs-body back rs t some deep places w;
    }
