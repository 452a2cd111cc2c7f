use Rattle.snl_text.proofs.Cuts.{whole, broken}
use Rattle.snl_text.proofs.lexer.lex.Goals as goal

pub returns-clause-whole : goal.returns-clause-whole
returns-clause-whole c = λ lexemes end short cut. whole c.args.source.now c.lex_within.result c.lex_within.ensures.cut c.lex_within.ensures.fault short lexemes end cut

pub returns-clause-broken : goal.returns-clause-broken
returns-clause-broken c = λ kind pos short fault. broken c.args.source.now c.lex_within.result c.lex_within.ensures.cut c.lex_within.ensures.fault short kind pos fault
