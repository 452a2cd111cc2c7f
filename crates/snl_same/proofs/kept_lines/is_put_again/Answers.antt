use Rattle.std.proofs.Common.{◌∙◌, ◌+◌, [], ℕ, List, ap, drop, get_or, map, sym}
use Rattle.std.proofs.lemmas.List.{drop_all}
use denote.Ref.{Bor}
use Rattle.snl_same.specs.Kept.{is_put_again}
use Rattle.snl_same.proofs.KeptLaws.{again-later, again-none, again-on, again-there, lines-at}
use Rattle.snl_same.proofs.kept_lines.is_put_again.Goals as goal

pub returns-then-not-has_time_of : goal.returns-then-not-has_time_of
returns-then-not-has_time_of c =
    let now = λ (x : Bor (List ℕ)). x.now in
    let i = c.loop-next.next-index in
    let xs = c.args.lines.now in
    let line = c.args.line.now in
    let none : Bor (List ℕ) = record { ref_ptr = (0, 0); now = [] } in
    let next = (get_or xs i none).now in
    sym (again-later line next (map now (drop (i + 1) xs)) (sym c.has_time_of.ensures ∙ c.if-not-has_time_of.true))
    ∙ ap (is_put_again line) (sym (lines-at now xs i none c.loop-next-test.true)) ∙ c.loop-next.invariant

pub returns-then-eq : goal.returns-then-eq
returns-then-eq c =
    let now = λ (x : Bor (List ℕ)). x.now in
    let i = c.loop-next.next-index in
    let xs = c.args.lines.now in
    let line = c.args.line.now in
    let none : Bor (List ℕ) = record { ref_ptr = (0, 0); now = [] } in
    let next = (get_or xs i none).now in
    sym (again-there line next (map now (drop (i + 1) xs)) (sym c.has_time_of.ensures ∙ c.if-not-has_time_of.false)
    (rw (c.channel_of.ensures, c.channel_of-in-loop-next.ensures) at (sym c.eq.ensures ∙ c.if-eq.true)))
    ∙ ap (is_put_again line) (sym (lines-at now xs i none c.loop-next-test.true)) ∙ c.loop-next.invariant

pub loop-next-preserved : goal.loop-next-preserved
loop-next-preserved c =
    let now = λ (x : Bor (List ℕ)). x.now in
    let i = c.loop-next.next-index in
    let xs = c.args.lines.now in
    let line = c.args.line.now in
    let none : Bor (List ℕ) = record { ref_ptr = (0, 0); now = [] } in
    let next = (get_or xs i none).now in
    sym (again-on line next (map now (drop (i + 1) xs)) (sym c.has_time_of.ensures ∙ c.if-not-has_time_of.false)
    (rw (c.channel_of.ensures, c.channel_of-in-loop-next.ensures) at (sym c.eq.ensures ∙ c.if-eq.false)))
    ∙ ap (is_put_again line) (sym (lines-at now xs i none c.loop-next-test.true)) ∙ c.loop-next.invariant

pub returns : goal.returns
returns c =
    let now = λ (x : Bor (List ℕ)). x.now in
    let line = c.args.line.now in
    sym (again-none line)
    ∙ ap (λ (xs : List (Bor (List ℕ))). is_put_again line (map now xs)) (sym (drop_all c.loop-next.next-index c.args.lines.now c.loop-next-test.false))
    ∙ c.loop-next.invariant
