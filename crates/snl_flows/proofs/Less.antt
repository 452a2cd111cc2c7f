-- What a table says of code is right, too, where less is hidden, but no word of those that may differ, and where less of buffers is stale.
use Rattle.std.proofs.Common.{◌≡◌, ◌∙◌, ◌⊎◌, ◌+◌, ◌-◌, inl, inr, ⊎_elim, sym, ℕ, zero, suc, Bool, true, false, List, [], ◌∷◌, Option, None, Some}
use Rattle.std.specs.Prelude.{slice_get}
use Rattle.std.proofs.lemmas.Bool.{false≢true}
use Rattle.snl_meaning.specs.declared.instrs.Instr.{Instr}
use Rattle.snl_meaning.specs.declared.instrs.Instr.TheVariants.{Push, Load, Check, Get, Peek, Store, StoreAt, Adjust, Increment, AdjustAt, Apply, ApplyNumber, ApplyPrefix, Settle, Drop, Jump, JumpIfZero, Tick, Print, Wait, Put, PutAt, Ask, AskLink, AskElement, Clear, Assign, Call, Fit, Return, Leave, End}
use Rattle.snl_meaning.specs.declared.instrs.Variable.{Variable}
use Rattle.snl_meaning.specs.Run.{Entry}
use Rattle.snl_names.specs.declared.builtins.Query.{Query}
use Rattle.snl_names.specs.declared.builtins.Query.TheVariants.{EfClear, EfSet, EfTest, EfTestAndClear, PvChannelCount, PvConnectCount, PvConnected, PvFlushQ, PvGet, PvGetQ, PvPutComplete}
use Rattle.snl_flows.specs.Fine.{AreRead, AreTaken, Begins, IsFineAt, IsGot, IsPut, IsPutBy, MayGetOther, MayGetOthers, Takes}
use Rattle.snl_flows.specs.Outside.{has, places_of}
use Rattle.snl_flows.specs.Quiet.{AreFine, ArePassed, IsPassed, IsQuietAt, StaysIn}
use Rattle.snl_flows.specs.Tables.{Operand, Flow, Ground, IsOpen, IsSameAt, MayDiffer, facts_at}

module _ (g : Ground) (places : List (List ℕ)) (stale : List ℕ) (set : ℕ) (f : Flow) (shows : (k : ℕ) → has (places_of g.hidden set) k ≡ false → has (places_of places set) k ≡ false)
    (firm : (k : ℕ) → has f.loose k ≡ true → has (places_of places set) k ≡ true) (fewer : (k : ℕ) → has stale k ≡ true → has g.stale k ≡ true) where
  -- the same, where these places are hidden, and these are stale
  abbrev less : Ground
  less = record g { hidden = places; stale = stale }

  -- ---- words

  -- a word that is not hidden
  open-less : (b : Bool) (k : ℕ) → IsOpen (places_of g.hidden set) b k → IsOpen (places_of places set) b k
  open-less true k seen = seen
  open-less false k seen = shows k seen

  -- one that is the same
  same-less : (at : ℕ) (b : Bool) (k : ℕ) → IsSameAt g set f at b k → IsSameAt less set f at b k
  same-less at b k same = ⊎_elim (λ seen. inl (open-less b k seen)) (λ known. inr known) same

  -- one that may differ
  differs-less : (b : Bool) (k : ℕ) → MayDiffer (places_of g.hidden set) f b k → MayDiffer (places_of places set) f b k
  differs-less true k may = record { loose = may.loose; hides = λ seen. seen }
  differs-less false k may = record { loose = may.loose; hides = λ (seen : has (places_of places set) k ≡ false). false≢true (sym seen ∙ firm k may.loose) }

  -- elements that a subscript can name
  read-less : (at : ℕ) (v : Variable) (o : Operand) → AreRead g set f at v o → AreRead less set f at v o
  read-less at v o read = (read.0, λ k can. same-less at v.is_shared (v.place + k) (read.1 k can))

  -- an element that may get what is not the same
  gets-less : (v : Variable) (element line : ℕ) → MayGetOther g set f v element line → MayGetOther less set f v element line
  gets-less v element line may = (differs-less v.is_shared (v.place + element) may.0, may.1)

  -- elements that may
  get-less : (v : Variable) (o : Operand) (line : ℕ) → MayGetOthers g set f v o line → MayGetOthers less set f v o line
  get-less v o line may = (may.0, (λ k can. differs-less v.is_shared (v.place + k) (may.1 k can)), may.2)

  -- a put
  put-by-less : (at place count : ℕ) (o : Option ℕ) → IsPutBy g set f at place count o → IsPutBy less set f at place count o
  put-by-less at place count None all = λ k. same-less at false (place + k) (all k)
  put-by-less at place count (Some channel) all = ⊎_elim (λ same. inl (λ k low. same-less at false (place + k) (same k low))) (λ named. inr named) all

  -- at a place
  put-less : (at place : ℕ) → IsPut g set f at place → IsPut less set f at place
  put-less at place put = λ link t found tied. put-by-less at place t.count t.channel (put link t found tied)

  -- what is got
  got-less : (query : Query) (place : ℕ) → IsGot g set f query place → IsGot less set f query place
  got-less PvGet place got = λ link k t found tied low old. differs-less false (place + k) (got link k t found tied low (fewer (t.from + k) old))
  got-less PvGetQ place got = tt
  got-less PvFlushQ place got = tt
  got-less PvConnected place got = tt
  got-less PvPutComplete place got = tt
  got-less PvChannelCount place got = tt
  got-less PvConnectCount place got = tt
  got-less EfClear place got = tt
  got-less EfSet place got = tt
  got-less EfTest place got = tt
  got-less EfTestAndClear place got = tt

  -- parameters
  taken-less : (ps : List Variable) (values : ℕ) (os : List Operand) (line : ℕ) → AreTaken g set f ps values os line → AreTaken less set f ps values os line
  taken-less [] values os line all = tt
  taken-less (p ∷ ps) zero os line all = tt
  taken-less (p ∷ ps) (suc values) os line all = (⊎_elim (λ same. inl same) (λ may. inr (gets-less p 0 line may)) all.0, taken-less ps values os line all.1)

  -- ---- instructions

  -- each of them
  fine-less : (at : ℕ) (i : Instr) → IsFineAt g set f at i → IsFineAt less set f at i
  fine-less at (Push z) h = h
  fine-less at (Load v) h = ⊎_elim (λ same. inl (same-less at v.is_shared (v.place + 0) same.0, same.1)) (λ other. inr other) h
  fine-less at (Check v line) h = h
  fine-less at (Get v) h = ⊎_elim (λ same. inl (read-less at v _ same.0, same.1)) (λ other. inr other) h
  fine-less at (Peek v) h = ⊎_elim (λ same. inl (read-less at v _ same.0, same.1)) (λ other. inr other) h
  fine-less at (Store v line) h = ⊎_elim (λ same. inl same) (λ other. inr (gets-less v 0 line other.0, other.1)) h
  fine-less at (StoreAt v line) h = (⊎_elim (λ same. inl same) (λ may. inr (get-less v _ line may)) h.0, h.1)
  fine-less at (Adjust v op op_line line is_before) h =
      ⊎_elim (λ same. inl (same-less at v.is_shared (v.place + 0) same.0, same.1)) (λ other. inr ((gets-less v 0 line other.0.0, other.0.1), other.1)) h
  fine-less at (Increment v op op_line line) h =
      (⊎_elim (λ same. inl (same-less at v.is_shared (v.place + 0) same)) (λ other. inr (gets-less v 0 line other.0, other.1)) h.0, h.1)
  fine-less at (AdjustAt v op op_line line is_before) h =
      ⊎_elim (λ same. inl (read-less at v _ same.0, same.1)) (λ other. inr ((get-less v _ line other.0.0, other.0.1), other.1)) h
  fine-less at (Apply op line) h = h
  fine-less at (ApplyNumber op z line) h = h
  fine-less at (ApplyPrefix op line) h = h
  fine-less at Settle h = h
  fine-less at Drop h = h
  fine-less at (Jump n) h = h
  fine-less at (JumpIfZero n) h = h
  fine-less at (Tick line back) h = h
  fine-less at (Print format n) h = h
  fine-less at (Wait in_seconds) h = h
  fine-less at (Put v is_async) h = (put-less at v.place h.0, h.1)
  fine-less at (PutAt v is_async) h = (h.0, (λ k can. put-less at _ (h.1 k can)), h.2)
  fine-less at (Ask query number) h = h
  fine-less at (AskLink query v) h = (got-less query v.place h.0, h.1)
  fine-less at (AskElement query v) h = (h.0, (λ k can. got-less query _ (h.1 k can)), h.2)
  fine-less at (Clear v) h = h
  fine-less at (Assign v element line) h = ⊎_elim (λ same. inl same) (λ other. inr (gets-less v element line other.0, other.1)) h
  fine-less at (Call function n line) h =
      (takes (slice_get g.functions function) h.0, h.1, begins (slice_get g.functions function) h.2, h.3)
    where
      takes : (o : Option Entry) → Takes g set f o n (facts_at f at).operands line → Takes less set f o n (facts_at f at).operands line
      takes None all = tt
      takes (Some e) all = taken-less e.parameters n (facts_at f at).operands line all

      begins : (o : Option Entry) → Begins g set f o n → Begins less set f o n
      begins None all = all
      begins (Some e) all = all
  fine-less at (Fit least greatest line) h = h
  fine-less at Return h = h
  fine-less at (Leave state) h = h
  fine-less at End h = h

  -- ---- quiet parts

  -- a step that stays in one
  stays-less : (base join at to taken given : ℕ) → StaysIn g set f base join at to taken given → StaysIn less set f base join at to taken given
  stays-less base join at to taken given stays = record { within = stays.within; own = stays.own; many = stays.many }

  -- each of its instructions
  quiet-less : (base join at : ℕ) (i : Instr) → IsQuietAt g set f base join at i → IsQuietAt less set f base join at i
  quiet-less base join at (Push z) h = stays-less base join at (at + 1) 0 1 h
  quiet-less base join at (Load v) h = stays-less base join at (at + 1) 0 1 h
  quiet-less base join at (Store v line) h = (gets-less v 0 line h.0, stays-less base join at (at + 1) 1 1 h.1)
  quiet-less base join at (Assign v element line) h = (gets-less v element line h.0, stays-less base join at (at + 1) 1 0 h.1)
  quiet-less base join at (Adjust v op op_line line is_before) h = ((gets-less v 0 line h.0.0, h.0.1), stays-less base join at (at + 1) 0 1 h.1)
  quiet-less base join at (Increment v op op_line line) h = ((gets-less v 0 line h.0.0, h.0.1), stays-less base join at (at + 1) 0 0 h.1)
  quiet-less base join at (Apply op line) h = (h.0, stays-less base join at (at + 1) 2 1 h.1)
  quiet-less base join at (ApplyNumber op z line) h = (h.0, stays-less base join at (at + 1) 1 1 h.1)
  quiet-less base join at (ApplyPrefix op line) h = (h.0, stays-less base join at (at + 1) 1 1 h.1)
  quiet-less base join at Settle h = stays-less base join at (at + 1) 1 1 h
  quiet-less base join at Drop h = stays-less base join at (at + 1) 1 0 h
  quiet-less base join at (Jump n) h = stays-less base join at (at + 1 + n) 0 0 h
  quiet-less base join at (JumpIfZero n) h = (stays-less base join at (at + 1) 1 0 h.0, stays-less base join at (at + 1 + n) 1 0 h.1)
  quiet-less base join at (Print format n) h = (h.0, stays-less base join at (at + 1) n 1 h.1)
  quiet-less base join at _ h = absurd h

  module _ (code : List Instr) where
    -- both ways of a jump
    ways-less : (at n : ℕ) → ArePassed g set f code at n → ArePassed less set f code at n
    ways-less at n p = record {
      inside = p.inside;
      near = p.near;
      far = p.far;
      level = p.level;
      each = λ k i past low found. quiet-less _ _ k i (p.each k i past low found);
      leads = p.leads;
    }

    -- a jump of which it does not matter where it leads
    passed-less : (at : ℕ) (i : Instr) → IsPassed g set f code at i → IsPassed less set f code at i
    passed-less at (JumpIfZero n) h = ways-less at n h
    passed-less at _ h = absurd h

    -- all of the code
    pub all-less : AreFine g set f code → AreFine less set f code
    all-less fine at i found reached = ⊎_elim (λ right. inl (fine-less at i right)) (λ passed. inr (passed-less at i passed)) (fine at i found reached)
