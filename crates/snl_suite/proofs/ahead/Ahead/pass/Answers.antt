use Rattle.std.proofs.Common.{ap, append_assoc, sym, slice_range, ◌≡◌, ◌+◌, ◌++◌, ◌∙◌, ℕ, List}
use Rattle.snl_suite.proofs.AgreementLaws.{part-front, part-parts}
use Rattle.snl_suite.proofs.ahead.Ahead.pass.Goals as goal

pub invariant_of-self-clause-gave : goal.invariant_of-self-clause-gave
invariant_of-self-clause-gave g c =
    let s = c.args.self.now in
    let n : ℕ = c.args.count in
    let xs : List ℕ = s.room.items in
    let back : List ℕ = slice_range xs (s.from + n) s.to in
    let noted = c.note.ensures ∙ ap (λ (l : List ℕ). s.past.bytes ++ slice_range l s.from (s.from + n)) c.deref.ensures.value in
    s.gave ∙ ap (λ (l : List ℕ). s.past.bytes ++ l) (sym (part-parts xs s.from s.to n c.requires)) ∙ sym (append_assoc s.past.bytes (slice_range xs s.from (s.from + n)) back)
    ∙ ap (λ (l : List ℕ). l ++ back) (sym noted)

pub returns-clause-past : goal.returns-clause-past
returns-clause-past g c =
    let s = c.args.self.now in
    let n : ℕ = c.args.count in
    c.note.ensures ∙ ap (λ (l : List ℕ). s.past.bytes ++ slice_range l s.from (s.from + n)) c.deref.ensures.value
    ∙ ap (λ (l : List ℕ). s.past.bytes ++ l) (part-front s.room.items s.from s.to n c.requires)
