-- A semicolon at the begin is no cure: no program begins with it.
use Rattle.std.proofs.Common.{◌≡◌, ◌<◌, ℕ, zero, suc, List, [], ◌∷◌, ◌++◌, take, sym, ap, ◌∙◌, subst, inl, inr, arith}
use Rattle.snl_text.specs.declared.kinds.Kind.{Kind}
use Rattle.snl_text.specs.declared.kinds.Kind.TheVariants as kind
use Rattle.snl_text.specs.declared.tokens.Pos.{Pos}
use Rattle.snl_text.specs.declared.tokens.Token.{Token}
use Rattle.snl_syntax.specs.Begins.{Begins}
use Rattle.snl_syntax.specs.Slots.{Slot, The, Sign, Fits, Spelled, slot_kind}
use Rattle.snl_syntax.specs.Programs.{ProgramTree, program_slots, programs}
use Rattle.snl_cures.specs.Cures.{IsCure, GoesBeyond, token_of}
use Rattle.snl_cures.specs.Reaching.{HasFault}
use Rattle.snl_cures.specs.declared.cures.Cure.TheVariants.{Before}
use Rattle.snl_cures.specs.Examples.{at_byte, token, piece}

-- the kind of the word with which a program begins
abbrev IsFirst : Kind → Type 0
IsFirst kind.Program = Unit {0}
IsFirst _ = ⊥

-- it is no semicolon
no_semicolon : kind.Semicolon ≡ kind.Program → ⊥
no_semicolon e = subst IsFirst (sym e) tt

-- a token that fits a slot has its kind
fitting : (s : Slot) (t : Token) → Fits s t → t.kind ≡ slot_kind s
fitting (The u) t f = ap (λ (x : Token). x.kind) f
fitting (Sign k) t f = f

-- the kind of the first slot
abbrev first_kind : List Slot → Kind
first_kind [] = kind.Name
first_kind (s ∷ ss) = slot_kind s

-- there is no such list
not_nothing : (t : Token) (ts : List Token) → t ∷ ts ≡ [] → ⊥
not_nothing t ts e = let P : List Token → Type 0 = λ xs. elim xs [ [] ↦ ⊥ | y ∷ ys ↦ Unit {0} ] in subst P e tt

-- what begins a program begins with its word
first_is : (front back : List Slot) (p : ProgramTree) (t : Token) (ts : List Token) → p.word.kind ≡ kind.Program →
    program_slots p ≡ front ++ back → Spelled front (t ∷ ts) [] → t.kind ≡ kind.Program
first_is [] back p t ts w e f = absurd (not_nothing t ts f)
first_is (s ∷ ss) back p t ts w e f = fitting s t f.0 ∙ sym (ap first_kind e) ∙ w

-- the semicolon
abbrev semicolon : Token
semicolon = token_of (piece kind.Semicolon) (at_byte 0)

-- so tokens that begin with another one begin none
begin_none : (ts : List Token) → Begins programs 64 (semicolon ∷ ts) → ⊥
begin_none ts b = no_semicolon (first_is b.front b.back b.whole semicolon ts b.is.0 b.halves b.fits)

-- with a fault behind the first of them
past_none : (ts : List Token) (k : ℕ) → 1 < k → HasFault (semicolon ∷ ts) k → ⊥
past_none ts zero past fault = omega (arith, past)
past_none ts (suc k) past (inl u) = begin_none (take k ts) u.before
past_none ts (suc k) past (inr d) = begin_none (take k ts) d.before

-- the semicolon goes nowhere
goes_nowhere : (from : Pos) (ts : List Token) (eof : Pos) → GoesBeyond 1 from (semicolon ∷ ts) eof → ⊥
goes_nowhere from ts eof (inl p) = no_semicolon (ap (λ (x : Token). x.kind) p.2.0 ∙ p.1.0)
goes_nowhere from ts eof (inr f) = past_none ts f.0 f.1 f.3

-- the example
pub no_cure : IsCure (token kind.CloseBrace 0 ∷ []) (at_byte 1) 0 (Before (piece kind.Semicolon)) → ⊥
no_cure c = goes_nowhere (at_byte 0) (token kind.CloseBrace 0 ∷ []) (at_byte 1) c.beyond
