use Rattle.std.proofs.Common.{arith}
use Rattle.snl_tree.proofs.code.Places.{first_none, first_some}
use Rattle.snl_tree.proofs.readers.boxes.programs.beyond.Goals as goal

-- there is no place beyond where the tokens are no more than the limit
pub returns-then-tokens-le-TOKEN_LIMIT : goal.returns-then-tokens-le-TOKEN_LIMIT
returns-then-tokens-le-TOKEN_LIMIT c = first_none 65536 c.args.tokens.now (omega arith)

-- the place beyond is that of the first token after the limit
pub returns : goal.returns
returns c = first_some 65536 c.args.tokens.now _ (omega arith)
