-- The proof of `note`, by hand: the body does nothing, and what was lent goes back with the bytes of the piece behind those that were
-- noted before.
use Rattle.std.proofs.Common.{ℕ, List, [], ◌∷◌, ◌++◌, refl, MutBor}
use seplogic.Ra.Ura.{Ura}
use mir.Syntax.{named}
use mir.Val.{Val, vunit, vptr}
use base.Logic.{SProp, ent, sep, emp, via, fst∗, id⊢}
use base.Fml.{GName, Lft, Share, ftrue, flft, fobs, fbor}
use prog.Memory.{Memory}
use prog.Routine.{Routine}
use prog.Wp.{Calls, Loops, WpFn, Tables}
use types.Logic.{Logic}
use contract.Monad.{Fun}
use contract.Running.{tables, tables_of}
use types.Kit.{‵, ◌⊛◌, ◌$◌, ◌∵◌, !, qed, by, move, keep, drop, use1, split, join, fsplit, fsplit3, fjoin, fjoin3, feq_i, suffices, frame, done}
use types.Run.{unit_lit, of_opd, returns, enter}
use types.SemTy.{Body}
use types.ByLocal.{alloc_all, pass_all, free_all, look_at, sets}
use sound.WpLaws.{WpFn-mono}
use denote.RattleType.{owns}
use denote.Memory.{mem}
use denote.Ref.{MutRef, mut_vals, mut_Tells}
use denote.Signature.{plain}
use denote.Steps.{opens, closes}
use denote.Triple.Entry.{on_entry}
use denote.Triple.Spec.{Meets, triple_of}
use denote.Triple.Table.{entered}
use denote.Triple.Walked.{says, Stays, stay_ref, walk_of, AllGo, Goes-ref, Walks, ends_at, walked, walk_Meets}
use Rattle.snl_past.specs.declared.past.Past.{Past}
use Rattle.snl_past.specs.contracts.past.Past as Row
use Rattle.snl_past.specs.contracts.past.Past.note.Key.{name as #note}
use Rattle.snl_past.specs.contracts.past.Past.note as note
use Rattle.snl_past.proofs.past.Past.note.Statement as claim
use Rattle.snl_past.proofs.past.Past.note.Code as body
use denote.Ref.{Bor}
use denote.Builtin.{u8}
use denote.Exit.{yes}
use denote.Slice.{ShrSlice, slice_val, shr_slice_vals, shr_slice_Tells}
use denote.Triple.Walked.{stay_none_slice, Goes-none_slice}
use Rattle.std.proofs.Common.{◌<◌, ◌^◌, length}

-- what the call is lent: what was noted before, and the piece
abbrev Lent : Type 0
Lent = MutBor Past × (Bor (List ℕ) × Unit {0})

-- neither of them is moved
abbrev unmoved : Stays (note.ended).signature.params (note.ended).kept
unmoved = (stay_ref (0 ∷ []) tt (plain (λ _. Row.the_row)), (stay_none_slice (1 ∷ []) tt (plain (λ _. u8)) yes, tt))

module _ {M : Type 1} {𝓤 : Ura M} (𝓛 : Logic 𝓤) (at_mem : Memory → SProp 𝓤) (run : Routine → Fun 𝓤) (κ κ' : Lft) (q q' : Share) (b o : ℕ) (γ : GName)
    (before : Past) (piece : Bor (List ℕ)) where
  open 𝓛 use {H, A}

  -- both, by where they lie
  abbrev lent : Lent
  lent = (record { ref_ptr = (b, o); ghost_name = γ; now = before }, (piece, tt))

  -- what is noted then
  abbrev after : Past
  after = record { marker = before.marker; bytes = before.bytes ++ piece.now }

  -- the two words that the call gets
  abbrev values : List Val × (List Val × Unit {0})
  values = (vptr b o ∷ [], (slice_val piece.ref_ptr (length piece.now) ∷ [], tt))

  -- what is known of the piece
  abbrev of_piece : base.Fml.Fml
  of_piece = owns (ShrSlice (named 1) κ' u8 ∷ []) lent.1 values.1

  -- what has to hold behind the call
  abbrev Then : Val → SProp 𝓤
  Then = (walk_of 𝓛 note.ended unmoved (note.clauses 𝓛 at_mem run)).post (((κ, (κ', tt)), (q, (q', tt)), tt, lent, values), tt)

  -- what was lent goes back, at its new value
  goes_back : ent 𝓤 (sep 𝓤 (A.obs γ ((Row.the_row).coded.code after)) (sep 𝓤 (A.bor κ (Body (mem Row.the_row) b o γ))
      (sep 𝓤 (A.lft κ q) (sep 𝓤 (types.Logic.sem 𝓛 of_piece) (sep 𝓤 (A.lft κ' q') (emp 𝓤)))))) (Then vunit)
  goes_back =
      qed 𝓛 (‵ (fobs γ ((Row.the_row).coded.code after)) ∷ ‵ (fbor κ (Body (mem Row.the_row) b o γ)) ∷ ‵ (flft κ q) ∷ ‵ of_piece ∷ (‵ (flft κ' q') ⊛ ‵ ftrue) ∷ []) ∵
      suffices ! _ (ends_at 𝓛 note.ended unmoved (note.clauses 𝓛 at_mem run) (((κ, (κ', tt)), (q, (q', tt)), tt, lent, values), tt) vunit tt (after, (tt, tt)) (tt, (tt, tt))) $
      says ! refl $ move ! (2 ∷ 4 ∷ []) $ join ! $
      frame ! $ feq_i ! (List Val) (vptr b o ∷ []) (vptr b o ∷ []) refl $ fjoin3 ! $ fjoin ! $
      feq_i ! (List Val) (vunit ∷ []) (vunit ∷ []) refl $ move ! (1 ∷ 0 ∷ []) $ done !

  module _ (C : Calls 𝓤 H) (Λ : Loops 𝓤 H) where
    -- the body, a step at a time
    does_nothing : length piece.now < 2 ^ 64 → ent 𝓤 (on_entry 𝓛 note.signature (κ, (κ', tt)) (q, (q', tt)) lent values)
        (WpFn 𝓤 H C Λ body.function (vptr b o ∷ slice_val piece.ref_ptr (length piece.now) ∷ []) Then)
    does_nothing fk =
        qed 𝓛 ((‵ (flft κ q) ⊛ (‵ (flft κ' q') ⊛ ‵ ftrue)) ∷ ‵ (owns (MutRef (named 0) κ Row.the_row ∷ ShrSlice (named 1) κ' u8 ∷ []) lent values) ∷ []) ∵
        split ! $ move ! (2 ∷ []) $ fsplit ! $ fsplit3 ! $ drop ! $ move ! (0 ∷ 1 ∷ 3 ∷ []) $
        enter ! C Λ body.function (vptr b o ∷ slice_val piece.ref_ptr (length piece.now) ∷ []) _ $
        alloc_all ! (λ l. pass_all ! refl ((tt, tt), ((tt, (tt, (record { fits = fk }, tt))), tt)) $
        move ! (0 ∷ 1 ∷ 2 ∷ []) $ opens ! tt Row.the_row {h = before} b o (λ vs.
        sets ! (of_opd ! (unit_lit !)) refl (tt, tt) $
        move ! (1 ∷ []) $ use1 𝓛 (‵ ((Row.the_row).own_val after vs)) (id⊢ 𝓤 _) $ move ! (1 ∷ 0 ∷ []) $ closes ! tt Row.the_row after vs b o $
        returns ! (look_at ! 0 refl) $ free_all ! refl $
        keep ! (0 ∷ 1 ∷ 2 ∷ 3 ∷ 4 ∷ []) $ by ! goes_back))

module _ {M : Type 1} {𝓤 : Ura M} (𝓛 : Logic 𝓤) (at_mem : Memory → SProp 𝓤) (run : Routine → Fun 𝓤) where
  open 𝓛 use {H}

  -- the same for whoever calls it
  steps : (C : Calls 𝓤 H) (Λ : Loops 𝓤 H) → Walks 𝓛 note.ended unmoved (WpFn 𝓤 H C Λ body.function) (note.clauses 𝓛 at_mem run)
  steps C Λ = walked 𝓛 note.ended unmoved (note.clauses 𝓛 at_mem run) (WpFn 𝓤 H C Λ body.function)
      (λ κs. (mut_vals, (shr_slice_vals, tt))) (λ κs. (mut_Tells (named 0) κs.0 Row.the_row, (shr_slice_Tells (named 1) κs.1.0 u8, tt)))
      (λ κs qs bounds a _ are. via 𝓤 _ (fst∗ 𝓤 _ (emp 𝓤))
      (does_nothing 𝓛 at_mem run κs.0 κs.1.0 qs.0 qs.1.0 a.0.ref_ptr.0 a.0.ref_ptr.1 a.0.ghost_name a.0.now a.1.0 C Λ are.1.0.0.1.0))

  -- what it was lent goes on as before
  all_go : AllGo 𝓛 2 (note.signature).params (note.ended).kept unmoved
  all_go = (Goes-ref 𝓛 2 0 tt (plain (λ _. Row.the_row)), (Goes-none_slice 𝓛 2 (1 ∷ []) tt (plain (λ _. u8)) yes, tt))

-- the body meets the contract
holds : {M : Type 1} {𝓤 : Ura M} (𝓛 : Logic 𝓤) → (at_mem : Memory → SProp 𝓤) (run : Routine → Fun 𝓤) (𝓣 : Tables 𝓤 𝓛.H)
    → Meets 𝓛 note.signature (WpFn 𝓤 𝓛.H 𝓣.C 𝓣.Λ body.function) (note.spec 𝓛 at_mem run)
holds {𝓤 = 𝓤} 𝓛 at_mem run 𝓣 =
    walk_Meets 𝓛 note.ended unmoved (all_go 𝓛 at_mem run) (note.clauses 𝓛 at_mem run)
    (WpFn 𝓤 𝓛.H 𝓣.C 𝓣.Λ body.function) (WpFn-mono 𝓤 𝓛.H 𝓛.laws 𝓣 body.function) (steps 𝓛 at_mem run 𝓣.C 𝓣.Λ)

-- so the function meets its contract, whoever calls it
pub note_spec : {M : Type 1} → claim.statement M
unfolding tables_of
note_spec 𝓤 𝓛 𝓜 𝓡 wired =
    entered 𝓤 𝓛.H (triple_of 𝓛 note.signature (note.spec 𝓛 𝓜.mem 𝓡.returns))
    (tables 𝓤 𝓛.H 𝓜 𝓡 𝓡.env).C (tables 𝓤 𝓛.H 𝓜 𝓡 𝓡.env).Λ #note body.function (body.unfolded 𝓤 𝓛.H 𝓜 𝓡 wired)
    (holds 𝓛 𝓜.mem 𝓡.returns (tables_of 𝓤 𝓛.H 𝓜 (tables 𝓤 𝓛.H 𝓜 𝓡 𝓡.env)))
