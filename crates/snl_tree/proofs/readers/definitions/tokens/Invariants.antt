use Rattle.std.proofs.Common.{length}
use Rattle.snl_text.specs.declared.tokens.Token.{Token}
use Rattle.snl_text.specs.declared.kinds.Kind.TheVariants.{Comma}
use Rattle.snl_syntax.specs.Kinds.{is}
use Rattle.snl_tree.specs.reading.Readers.{one}
use Rattle.snl_tree.specs.reading.Sequences.{behind, parted}
use Rattle.snl_tree.proofs.code.Turns.{Found}
use Rattle.snl_tree.proofs.readers.definitions.tokens.Given as goal

-- the tokens of the kind are those found, and those left to read
abbrev pub invariant-loop-kind : goal.invariant-loop-kind
invariant-loop-kind l = Found (is Comma) (behind Comma (one (is l.kind))) (λ (t : Token). t) (parted Comma (one (is l.fn.kind)) l.fn.cursor.left.now) l.found.items l.cursor.left.now

-- the count of the tokens that are left
abbrev pub decreases-loop-kind : goal.decreases-loop-kind
decreases-loop-kind l = length l.cursor.left.now
