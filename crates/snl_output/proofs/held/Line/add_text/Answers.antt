use Rattle.std.proofs.Common.{◌≡◌, ◌∙◌, ◌++◌, ℕ, List, [], ap, sym, subst, append-nil, rules}
use Rattle.std.proofs.lemmas.List.{nil_from_length}
use Rattle.snl_output.specs.Held.{IsHeldBack}
use Rattle.snl_output.specs.Texts.{short_of}
use Rattle.snl_output.proofs.Adding.{added-as, added-cut, added-last, added-more, added-start, failed-adds}
use Rattle.snl_output.proofs.held.Line.add_text.Goals as goal

pub returns-in_err-add_short-clause-told : goal.returns-in_err-add_short-clause-told
returns-in_err-add_short-clause-told g c =
    let t = c.args.text.now in
    failed-adds _ _ _ _ _ c.from_residual.ensures.0 (added-cut _ (short_of t.front) t.more.items _ _ _ _ _ (added-start _ _ _) c.in_err-add_short.ensures.told)

pub returns-then-is_empty-clause-told : goal.returns-then-is_empty-clause-told
returns-then-is_empty-clause-told g c =
    let t = c.args.text.now in
    let none : t.more.items ≡ [] = nil_from_length t.more.items (search rules) in
    let all = ap (λ m. c.args.self.now.held.items ++ (short_of t.front ++ m)) none ∙ ap (λ s. c.args.self.now.held.items ++ s) (append-nil (short_of t.front)) in
    subst (λ (whole : List ℕ). IsHeldBack whole c.add_short.new.self.held.items (g.S.Sink.told c.args.sink.now) (g.S.Sink.told c.add_short.new.sink)) (sym all)
    c.in_ok-add_short.ensures.told

pub returns-clause-told : goal.returns-clause-told
returns-clause-told g c =
    let t = c.args.text.now in
    let behind : t.more.items ≡ c.as_slice.result.now = search rules in
    let parts = ap (λ m. short_of t.front ++ m) (behind ∙ sym (append-nil c.as_slice.result.now)) in
    let front = added-more _ (short_of t.front) (c.as_slice.result.now ++ []) _ _ _ _ _ _ (added-as _ _ _ _ _ _ _ parts (added-start _ _ _)) c.in_ok-add_short.ensures.told in
    added-last c.add.result _ c.as_slice.result.now _ _ _ _ _ _ front c.add.ensures.told
