-- The code of a loop, made from its end.
use Rattle.std.proofs.Common.{◌≡◌, ◌∙◌, ℕ, ◌+◌, ◌-◌, ◌<◌, ◌≤◌, List, [], ◌∷◌, ◌++◌, ap, sym, arith, append_assoc, length, length-append, reverse, set, Box, Global}
use Rattle.std.proofs.lemmas.List.{reverse-append, reverse-reverse, length-reverse, set-append_left}
use Rattle.std.proofs.Math.Seq.{set-append_seam}
use Rattle.snl_text.specs.declared.tokens.Token.{Token}
use Rattle.snl_syntax.specs.declared.expressions.Expr.{Expr}
use Rattle.snl_syntax.specs.declared.statements.Block.{Block as DeclaredBlock}
use Rattle.snl_syntax.specs.declared.statements.Header.{Header}
use Rattle.snl_syntax.specs.declared.statements.Stmt.{Stmt, Block, While, For}
use Rattle.snl_syntax.specs.Statements.{StatementTree}
use Rattle.snl_syntax.specs.view.Expressions.{view, boxed}
use Rattle.snl_syntax.specs.view.Shown.{shown}
use Rattle.snl_syntax.specs.view.Statements.{statement_view, block_view}
use Rattle.snl_syntax.proofs.StatementRows.{view_block}
use Rattle.snl_meaning.specs.declared.instrs.Instr.{Instr}
use Rattle.snl_meaning.specs.declared.instrs.Instr.TheVariants.{Jump, JumpIfZero, Tick}
use Rattle.snl_emit.specs.BlockCode.{loop_code, statement_code, block_code, dropped_code, test_code}
use Rattle.snl_emit.specs.Emission.{turn_code}
use Rattle.snl_emit.specs.ExpressionCode.{expression_code}
use Rattle.snl_meaning.specs.Names.{Here}

-- a list from its end, with one instruction between two parts
seam : (old front : List Instr) (t : Instr) → reverse (old ++ t ∷ reverse front) ≡ front ++ t ∷ reverse old
seam old front t =
    reverse-append old (t ∷ reverse front) ∙ ap (λ l. l ++ reverse old) (reverse-append (t ∷ []) (reverse front) ∙ ap (λ l. l ++ t ∷ []) (reverse-reverse front))
    ∙ append_assoc front (t ∷ []) (reverse old)

-- another instruction in the place of one
rewritten : (old front items : List Instr) (t i : Instr) → reverse items ≡ front ++ t ∷ reverse old → reverse (set items (length old) i) ≡ front ++ i ∷ reverse old
rewritten old front items t i h =
    let same : items ≡ old ++ t ∷ reverse front =
    sym (reverse-reverse items) ∙ ap reverse (h ∙ sym (seam old front t)) ∙ reverse-reverse (old ++ t ∷ reverse front) in
    ap (λ l. reverse (set l (length old) i)) same ∙ ap reverse (set-append_seam old t (reverse front) i) ∙ seam old front i

-- how long a list is, by what stands before another
pub longer : (items old front : List Instr) → reverse items ≡ front ++ reverse old → length items ≡ length front + length old
longer items old front h =
    sym (length-reverse items) ∙ ap length h ∙ length-append front (reverse old) ∙ ap (λ n. length front + n) (length-reverse old)

-- The body of a loop and the jump to its test, with the tick put right.
pub turn-made : (h : Here) (s : StatementTree) (line end test again : ℕ) (old mid new : List Instr) → end < length old → test ≤ length old → again ≡ length old
    → reverse mid ≡ statement_code h (length old - end) (length old - again) s ++ reverse old
    → new ≡ Jump (length mid - test) ∷ reverse (set mid end (Tick line (length mid - end - 1)))
    → new ≡ turn_code h line end test s old
turn-made h s line end test again old mid new less most ea em en =
    let body = statement_code h (length old - end) 0 s in
    let none : length old - again ≡ 0 = omega (arith, ea) in
    let made : reverse mid ≡ body ++ reverse old = em ∙ ap (λ n. statement_code h (length old - end) n s ++ reverse old) none in
    let long = longer mid old body made in
    let same : mid ≡ old ++ reverse body =
    sym (reverse-reverse mid) ∙ ap reverse made ∙ reverse-append body (reverse old) ∙ ap (λ l. l ++ reverse body) (reverse-reverse old) in
    let forth : length mid - test ≡ length body + (length old - test) = omega (arith, long, most) in
    let back : length mid - end - 1 ≡ length body + (length old - end - 1) = omega (arith, long, less) in
    let tick = Tick line (length body + (length old - end - 1)) in
    en ∙ (λ j. Jump (forth j) ∷ reverse (set mid end (Tick line (back j))))
    ∙ ap (λ l. Jump (length body + (length old - test)) ∷ l)
    (ap (λ l. reverse (set l end tick)) same ∙ ap reverse (set-append_left old (reverse body) end tick less)
    ∙ reverse-append (set old end tick) (reverse body) ∙ ap (λ l. l ++ reverse (set old end tick)) (reverse-reverse body))

-- A loop: its tick, its test, its step, and then its body.
pub loop-made : (h : Here) (s : StatementTree) (line end test : ℕ) (old step condition mid new : List Instr) → end ≡ length old
    → reverse mid ≡ step ++ (condition ++ Tick 0 0 ∷ reverse old) → test ≡ length condition + 1 + length old → new ≡ turn_code h line end test s mid
    → new ≡ loop_code line (statement_code h (length step + length condition + 1) 0 s) step condition ++ reverse old
loop-made h s line end test old step condition mid new ee em et en =
    let front = step ++ condition in
    let parted : reverse mid ≡ front ++ Tick 0 0 ∷ reverse old = em ∙ sym (append_assoc step condition (Tick 0 0 ∷ reverse old)) in
    let long = longer mid old (front ++ Tick 0 0 ∷ []) (parted ∙ sym (append_assoc front (Tick 0 0 ∷ []) (reverse old))) in
    let both = length-append front (Tick 0 0 ∷ []) in
    let sum = length-append step condition in
    let out : length mid - end ≡ length step + length condition + 1 = omega (arith, long, both, sum, ee) in
    let body = statement_code h (length step + length condition + 1) 0 s in
    let forth : length body + (length mid - test) ≡ length body + length step = omega (arith, long, both, sum, et) in
    let back : length body + (length mid - end - 1) ≡ length condition + length step + length body = omega (arith, long, both, sum, ee) in
    let tick = Tick line (length condition + length step + length body) in
    let named : turn_code h line end test s mid ≡ Jump (length body + (length mid - test)) ∷ (body ++ reverse (set mid end (Tick line (length body + (length mid - end - 1))))) =
    ap (λ n. (let b = statement_code h n 0 s in Jump (length b + (length mid - test)) ∷ (b ++ reverse (set mid end (Tick line (length b + (length mid - end - 1))))))) out in
    en ∙ named ∙ (λ j. Jump (forth j) ∷ (body ++ reverse (set mid (ee j) (Tick line (back j)))))
    ∙ ap (λ l. Jump (length body + length step) ∷ (body ++ l)) (rewritten old front mid (Tick 0 0) tick parted ∙ append_assoc step condition (tick ∷ reverse old))
    ∙ ap (λ l. Jump (length body + length step) ∷ l)
    (ap (λ l. body ++ (step ++ l)) (sym (append_assoc condition (tick ∷ []) (reverse old)))
    ∙ ap (λ l. body ++ l) (sym (append_assoc step (condition ++ tick ∷ []) (reverse old)))
    ∙ sym (append_assoc body (step ++ (condition ++ tick ∷ [])) (reverse old)))

-- A block that stands among statements.
pub nested-made : (h : Here) (a : Stmt) (b : DeclaredBlock) (out again : ℕ) (old new : List Instr) → a ≡ Block b
    → new ≡ block_code h out again (block_view b) ++ old → new ≡ statement_code h out again (statement_view a) ++ old
nested-made h a b out again old new ea e = e ∙ ap (λ x. statement_code h out again x ++ old) (sym (ap statement_view ea ∙ view_block b))

-- A `while`, with its parts in boxes.
pub while-made : (h : Here) (a : Stmt) (t : Token) (b : Box Expr Global) (p : Box Stmt Global) (d : Expr) (d2 : Stmt) (out again end test : ℕ) (old first mid new : List Instr)
    → a ≡ While t b p → d ≡ b.value → d2 ≡ p.value → end ≡ length old → reverse first ≡ Tick 0 0 ∷ reverse old
    → reverse mid ≡ (expression_code h (view d) ++ JumpIfZero 1 ∷ []) ++ reverse first → test ≡ length mid
    → new ≡ turn_code h t.pos.line end test (statement_view d2) mid → new ≡ statement_code h out again (statement_view a) ++ reverse old
while-made h a t b p d d2 out again end test old first mid new ea ed e2 ee ef em et en =
    let condition = expression_code h (view b.value) ++ JumpIfZero 1 ∷ [] in
    let s = statement_view p.value in
    let made : reverse mid ≡ condition ++ Tick 0 0 ∷ reverse old = em ∙ (λ j. (expression_code h (view (ed j)) ++ JumpIfZero 1 ∷ []) ++ ef j) in
    let long = longer mid old (condition ++ Tick 0 0 ∷ []) (made ∙ sym (append_assoc condition (Tick 0 0 ∷ []) (reverse old))) in
    let both = length-append condition (Tick 0 0 ∷ []) in
    let at : test ≡ length condition + 1 + length old = omega (arith, et, long, both) in
    let out-of : 0 + length condition + 1 ≡ length condition + 1 = omega arith in
    loop-made h s t.pos.line end test old [] condition mid new ee made at (en ∙ ap (λ x. turn_code h t.pos.line end test (statement_view x) mid) e2)
    ∙ ap (λ n. loop_code t.pos.line (statement_code h n 0 s) [] condition ++ reverse old) out-of
    ∙ ap (λ x. statement_code h out again (statement_view x) ++ reverse old) (sym ea)

-- A `for`, with its parts in boxes.
pub for-made : (h : Here) (a : Stmt) (t : Token) (b : Box Header Global) (p : Box Stmt Global) (d d2 d4 : Header) (d3 : Stmt) (out again end test : ℕ)
    (old second mid turned new : List Instr) → a ≡ For t b p → d ≡ b.value → d2 ≡ b.value → d3 ≡ p.value → d4 ≡ b.value → end ≡ length old
    → reverse second ≡ test_code h (shown boxed d.condition) ++ Tick 0 0 ∷ reverse old → test ≡ length second
    → reverse mid ≡ dropped_code h (shown boxed d2.step) ++ reverse second → turned ≡ turn_code h t.pos.line end test (statement_view d3) mid
    → new ≡ dropped_code h (shown boxed d4.start) ++ turned → new ≡ statement_code h out again (statement_view a) ++ reverse old
for-made h a t b p d d2 d4 d3 out again end test old second mid turned new ea ed e2 e3 e4 ee es et em er en =
    let condition = test_code h (shown boxed b.value.condition) in
    let step = dropped_code h (shown boxed b.value.step) in
    let start = dropped_code h (shown boxed b.value.start) in
    let s = statement_view p.value in
    let tested : reverse second ≡ condition ++ Tick 0 0 ∷ reverse old = es ∙ (λ j. test_code h (shown boxed (ed j).condition) ++ Tick 0 0 ∷ reverse old) in
    let long = longer second old (condition ++ Tick 0 0 ∷ []) (tested ∙ sym (append_assoc condition (Tick 0 0 ∷ []) (reverse old))) in
    let both = length-append condition (Tick 0 0 ∷ []) in
    let at : test ≡ length condition + 1 + length old = omega (arith, et, long, both) in
    let stepped : reverse mid ≡ step ++ (condition ++ Tick 0 0 ∷ reverse old) = em ∙ (λ j. dropped_code h (shown boxed (e2 j).step) ++ tested j) in
    let loop = loop_code t.pos.line (statement_code h (length step + length condition + 1) 0 s) step condition in
    let looped : turned ≡ loop ++ reverse old =
    loop-made h s t.pos.line end test old step condition mid turned ee stepped at (er ∙ ap (λ x. turn_code h t.pos.line end test (statement_view x) mid) e3) in
    en ∙ (λ j. dropped_code h (shown boxed (e4 j).start) ++ looped j) ∙ sym (append_assoc start loop (reverse old))
    ∙ ap (λ x. statement_code h out again (statement_view x) ++ reverse old) (sym ea)
