-- The push of a number does what the constant expression means that is worth it.
use Rattle.std.proofs.Common.{◌≡◌, ◌+◌, ◌≤◌, ℕ, ℤ, List, [], ◌∷◌, refl, sym, subst, length}
use Rattle.snl_names.specs.declared.constants.Constant.{Constant}
use Rattle.snl_names.specs.declared.constants.Constant.TheVariants.{Varies, Faults, Worth}
use Rattle.snl_meaning.specs.declared.instrs.Instr.{Instr}
use Rattle.snl_meaning.specs.declared.instrs.Instr.TheVariants.{Push}
use Rattle.snl_meaning.specs.Ran.{Ran, Gives}
use Rattle.snl_meaning.specs.Run.{PieceContext}
use Rattle.snl_meaning.specs.Words.{gives}
use Rattle.snl_meaning.specs.World.{World}
use Rattle.snl_emit.specs.ExpressionCode.{folded}
use Rattle.snl_emit.specs.Worth.{worth_or}
use Rattle.snl_emit.proofs.Joins.{Runs, Codes, codes-pushes}

module _ (g : PieceContext) (code : List Instr) where
  -- a word under another name
  pub codes-same : (word other : World → Ran ℤ) (c : List Instr) (d : ℕ) → ((w : World) → word w ≡ other w) → Codes g code word c d → Codes g code other c d
  codes-same word other c d same f at s w has room = subst (λ (r : Ran ℤ). Runs g code at s w r (at + length c) s) (same w) (f at s w has room)

  -- the push of a number
  pub codes-number : (z : ℤ) (d : ℕ) → 1 ≤ d → Codes g code (gives z) (Push z ∷ []) d
  codes-number z d some = codes-pushes g code (Push z) (gives z) (λ at s w. refl) d some

  -- what is constant, or what it would be
  pub codes-folded : (c : Constant) (word : World → Ran ℤ) (own : List Instr) (d : ℕ) → 1 ≤ d → ((z : ℤ) (w : World) → c ≡ Worth z → word w ≡ Gives z w []) →
      Codes g code word own d → Codes g code word (folded c own) d
  codes-folded Varies word own d some is f = f
  codes-folded Faults word own d some is f = f
  codes-folded (Worth z) word own d some is f = codes-same (gives z) word (Push z ∷ []) d (λ w. sym (is z w refl)) (codes-number z d some)

  -- what goes on with a number, or something else
  pub codes-or : (c : Constant) (word : World → Ran ℤ) (led : ℤ → List Instr) (own : List Instr) (d : ℕ) → ((z : ℤ) → c ≡ Worth z → Codes g code word (led z) d) →
      Codes g code word own d → Codes g code word (worth_or c led own) d
  codes-or Varies word led own d l f = f
  codes-or Faults word led own d l f = f
  codes-or (Worth z) word led own d l f = l z refl
