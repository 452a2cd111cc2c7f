use Rattle.snl_tree.proofs.grammar.ProgramParsing.{read_within}
use Rattle.snl_tree.proofs.laws.tokens_have_a_program_or_a_fault.Goals as goal

-- tokens are a program, or one is unexpected, or one is nested too deep
pub returns : goal.returns
returns c = λ limit ts h. read_within limit ts h
