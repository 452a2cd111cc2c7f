use Rattle.std.proofs.Common.{List, Ok, sym, ap, ◌∙◌}
use Rattle.std.proofs.lemmas.Result.{err_from_is_err_and}
use Rattle.snl_text.specs.declared.tokens.Token.{Token}
use Rattle.snl_text.specs.declared.kinds.Kind.TheVariants.{Comma}
use Rattle.snl_syntax.specs.Kinds.{is}
use Rattle.snl_tree.specs.reading.Readers.{one}
use Rattle.snl_tree.specs.reading.Sequences.{behind, parted}
use Rattle.snl_tree.proofs.code.Turns.{found_part, part_fails, found_more, found_all, map_same}
use Rattle.snl_tree.proofs.grammar.DefinitionLaws.{next_token_less}
use Rattle.snl_tree.proofs.readers.definitions.tokens.Goals as goal

-- fewer tokens are left after a comma and a token
pub loop-kind-smaller : goal.loop-kind-smaller
loop-kind-smaller c = next_token_less c.args.kind c.loop-kind.cursor.left.now c.next_token.new.cursor.left.now c.in_ok-next.next c.in_ok-next.ensures

-- where no comma is next, the tokens found are all of them
pub returns : goal.returns
returns c =
    found_all (is Comma) (behind Comma (one (is c.args.kind))) (λ (t : Token). t) (parted Comma (one (is c.args.kind)) c.args.cursor.now.left.now) c.loop-kind.found.items
    c.loop-kind.cursor.left.now c.loop-kind.invariant (sym c.loop-kind-test.ensures)
    ∙ ap (λ (z : List Token). Ok (z, c.loop-kind.cursor.left.now)) (map_same c.loop-kind.found.items)

-- a fault in the first token is a fault of them all
pub returns-in_err-first : goal.returns-in_err-first
returns-in_err-first c =
    let p = err_from_is_err_and c.from_residual.result c.from_residual.ensures.1 in
    rw (p.1, p.2) (part_fails Comma (one (is c.args.kind)) c.args.cursor.now.left.now c.in_err-first.field-0.0 c.token.new.cursor.left.now c.in_err-first.ensures)

-- with the first token found, those after each comma are left to read
pub loop-kind-init : goal.loop-kind-init
loop-kind-init c =
    found_part Comma (one (is c.args.kind)) (λ (t : Token). t) c.args.cursor.now.left.now c.token.new.cursor.left.now c.in_ok-first.first c.pushed.new.row.items c.new-found.result.items
    c.new-found.ensures.items c.in_ok-pushed.ensures.items c.in_ok-first.ensures

-- with one more token found, the others are left to read
pub loop-kind-preserved : goal.loop-kind-preserved
loop-kind-preserved c =
    found_more (is Comma) (behind Comma (one (is c.args.kind))) (next_token_less c.args.kind) (λ (t : Token). t) (parted Comma (one (is c.args.kind)) c.args.cursor.now.left.now)
    c.loop-kind.found.items c.loop-kind.cursor.left.now c.in_ok-next.next c.next_token.new.cursor.left.now _
    c.in_ok-pushed-2.ensures.items c.loop-kind.invariant (sym c.loop-kind-test.ensures) c.in_ok-next.ensures
