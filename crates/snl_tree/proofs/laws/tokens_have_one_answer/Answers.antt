use Rattle.snl_syntax.specs.Programs.{programs}
use Rattle.snl_tree.proofs.grammar.OneAnswer as one
use Rattle.snl_tree.proofs.grammar.ProgramParsing.{one_program}
use Rattle.snl_tree.proofs.laws.tokens_have_one_answer.Goals as goal

-- tokens have one answer at most
pub returns : goal.returns
returns c = λ limit ts. record {
  one_program = λ p q g h k l. one_program limit ts p q g h k l;
  one_unexpected = λ k j u v. one.one_unexpected programs limit ts k j u v;
  one_too_deep = λ k j d e. one.one_too_deep programs limit ts k j d e;
  program_or_unexpected = λ p k g s u. one.spelled_not_unexpected programs limit ts k p g s u;
  program_or_too_deep = λ p k g s d. one.spelled_not_too_deep programs limit ts k p g s d;
  unexpected_or_too_deep = λ k j u d. one.unexpected_not_too_deep programs limit ts k j u d;
}
