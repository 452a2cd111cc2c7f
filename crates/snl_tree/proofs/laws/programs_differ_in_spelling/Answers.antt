use Rattle.snl_tree.proofs.grammar.ProgramParsing.{one_program}
use Rattle.snl_tree.proofs.laws.programs_differ_in_spelling.Goals as goal

-- no two programs have one spelling
pub returns : goal.returns
returns c = λ n ts a b g h k l. one_program n ts a b g h k l
