-- The functions of a program stand at the front of its code.
use Rattle.std.proofs.Common.{◌≡◌, ◌∙◌, ◌+◌, ◌<◌, ◌≤◌, ℕ, zero, suc, List, [], ◌∷◌, ◌++◌, Some, refl, sym, ap, subst, arith, append_assoc, length, length-append, slice_get}
use Rattle.std.specs.Prelude.{◌-◌, take}
use Rattle.std.proofs.Math.Seq.{get_or-append_seam}
use Rattle.std.proofs.lemmas.Option.{slice_get-get_or}
use Rattle.snl_text.specs.declared.tokens.Token.{Token}
use Rattle.snl_meaning.specs.declared.instrs.Instr.{Instr}
use Rattle.snl_meaning.specs.Endings.{HasAt}
use Rattle.snl_meaning.specs.Functions.{Routine}
use Rattle.snl_meaning.specs.Run.{Entry}
use Rattle.snl_emit.specs.FunctionCode.{entries_from, function_code, functions_code}
use Rattle.snl_emit.specs.Right.{AreThere, ProgramsAreReady}

-- what stands between two parts stands behind the first
has-between : (pre is post : List Instr) → HasAt (pre ++ (is ++ post)) (length pre) is
has-between pre [] post = tt
has-between pre (i ∷ is) post =
    let within : length pre < length (pre ++ i ∷ (is ++ post)) = omega (arith, length-append pre (i ∷ (is ++ post))) in
    let here = slice_get-get_or (pre ++ i ∷ (is ++ post)) (length pre) i within ∙ ap Some (get_or-append_seam pre i (is ++ post) i) in
    let n : length (pre ++ i ∷ []) ≡ length pre + 1 = omega (arith, length-append pre (i ∷ [])) in
    let rest = has-between (pre ++ i ∷ []) is post in
    let rest' = subst (λ (l : List Instr). HasAt l (length (pre ++ i ∷ [])) is) (append_assoc pre (i ∷ []) (is ++ post)) rest in
    (here, subst (λ (m : ℕ). HasAt (pre ++ i ∷ (is ++ post)) m is) n rest')

-- the member after some
after-some : {A : Type 0} (pre : List A) (a : A) (post : List A) → slice_get (pre ++ a ∷ post) (length pre) ≡ Some a
after-some [] a post = refl
after-some (b ∷ pre) a post = after-some pre a post

-- functions after others
there : (before : List Instr) (entries : List Entry) (above : List Token) (rs : List Routine) (pieces : List Instr) → length entries ≡ length above →
    AreThere (before ++ (functions_code above rs ++ pieces)) (entries ++ entries_from (length before) above rs) above rs
there before entries above [] pieces same = tt
there before entries above (r ∷ rs) pieces same =
    let c = function_code above r in
    let next = above ++ r.name ∷ [] in
    let e : Entry = record { start = length before; parameters = r.parameters } in
    let rest = functions_code next rs ++ pieces in
    let code : before ++ ((c ++ functions_code next rs) ++ pieces) ≡ before ++ (c ++ rest) = ap (λ l. before ++ l) (append_assoc c (functions_code next rs) pieces) in
    let code' : (before ++ c) ++ rest ≡ before ++ (c ++ rest) = append_assoc before c rest in
    let here = subst (λ (l : List Instr). HasAt l (length before) c) (sym code) (has-between before c rest) in
    let number = after-some entries e (entries_from (length before + length c) next rs) in
    let at : length (before ++ c) ≡ length before + length c = length-append before c in
    let as_many : length (entries ++ e ∷ []) ≡ length next = omega (arith, same, length-append entries (e ∷ []), length-append above (r.name ∷ [])) in
    let others = there (before ++ c) (entries ++ e ∷ []) next rs pieces as_many in
    let others' = subst (λ (n : ℕ). AreThere ((before ++ c) ++ rest) ((entries ++ e ∷ []) ++ entries_from n next rs) next rs) at others in
    let others'' = subst (λ (es : List Entry). AreThere ((before ++ c) ++ rest) es next rs) (append_assoc entries (e ∷ []) (entries_from (length before + length c) next rs)) others' in (
      (e, subst (λ (n : ℕ). slice_get (entries ++ e ∷ entries_from (length before + length c) next rs) n ≡ Some e) same number, record { parameters = refl; there = here }),
      subst (λ (l : List Instr). AreThere l (entries ++ e ∷ entries_from (length before + length c) next rs) next rs) (code' ∙ sym code) others'',
    )

-- the first members of two parts, up to some behind the first part
take-behind : {A : Type 0} (a b : List A) (n : ℕ) → length a ≤ n → take n (a ++ b) ≡ a ++ take (n - length a) b
take-behind [] b n le = let e : n ≡ n - 0 = omega arith in ap (λ m. take m b) e
take-behind (x ∷ a) b zero le = absurd (omega (arith, le))
take-behind (x ∷ a) b (suc n) le =
    let e : n - length a ≡ suc n - length (x ∷ a) = omega arith in ap (λ l. x ∷ l) (take-behind a b n (omega (arith, le)) ∙ ap (λ m. a ++ take m b) e)

-- all of a program
pub programs-ready : ProgramsAreReady
programs-ready = record {
  whole = λ rs pieces. there [] [] [] rs pieces refl;
  front = λ rs pieces end le. subst (λ (l : List Instr). AreThere l (entries_from 0 [] rs) [] rs) (sym (take-behind (functions_code [] rs) pieces end le))
      (there [] [] [] rs (take (end - length (functions_code [] rs)) pieces) refl);
}
