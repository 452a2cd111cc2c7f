use Rattle.snl_syntax.specs.view.Shown.{held}
use Rattle.snl_syntax.specs.view.Programs.{program_view}
use Rattle.snl_tree.proofs.code.ProgramWithin.{answer_found, answer_only, answer_unexpected, answer_too_deep}
use Rattle.snl_tree.proofs.parsing.parse_within.Goals as goal

-- the program answered is well formed and spelled by the tokens
pub returns-clause-found : goal.returns-clause-found
returns-clause-found c =
    rw (c.answer.ensures, c.as_slice-tokens.ensures.value) (answer_found (held program_view) c.args.limit c.args.lexed.now.tokens.items c.program-found.new.cursor.left.now
    c.program-found.result c.requires (rw c.as_slice-tokens.ensures.value at c.program-found.ensures.tree))

-- the program answered is the one that the tokens spell
pub returns-clause-only : goal.returns-clause-only
returns-clause-only c = λ p g k.
    rw (c.answer.ensures, c.as_slice-tokens.ensures.value) (answer_only (held program_view) c.args.limit c.args.lexed.now.tokens.items c.program-found.new.cursor.left.now
    c.program-found.result c.requires (rw c.as_slice-tokens.ensures.value at c.program-found.ensures.tree) p g k)

-- a token that is answered as unexpected is so
pub returns-clause-unexpected : goal.returns-clause-unexpected
returns-clause-unexpected c = λ k e.
    answer_unexpected (held program_view) c.args.limit c.args.lexed.now.tokens.items c.program-found.new.cursor.left.now
    c.program-found.result c.requires (rw c.as_slice-tokens.ensures.value at c.program-found.ensures.tree) k (rw (c.answer.ensures, c.as_slice-tokens.ensures.value) at e)

-- a token that is answered as nested too deep is so
pub returns-clause-too_deep : goal.returns-clause-too_deep
returns-clause-too_deep c = λ k e.
    answer_too_deep (held program_view) c.args.limit c.args.lexed.now.tokens.items c.program-found.new.cursor.left.now
    c.program-found.result c.requires (rw c.as_slice-tokens.ensures.value at c.program-found.ensures.tree) k (rw (c.answer.ensures, c.as_slice-tokens.ensures.value) at e)
