use Rattle.std.proofs.Common.{◌≡◌, ◌-◌, List, ℕ, drop, take, length, sym, arith, length-drop, subst}
use Rattle.std.proofs.lemmas.List.{take_all}
use Rattle.snl_text.specs.Cut.{Reading}
use Rattle.snl_text.specs.Lexing.{FaultHolds}
use Rattle.snl_text.specs.Scanning.{reading}
use Rattle.snl_text.specs.declared.faults.LexFault.{LexFault}
use Rattle.snl_text.proofs.Cuts.{Reached, begun, step, stuck_fault, fault_holds}
use Rattle.snl_text.proofs.lexer.scan.Goals as goal

-- what `&source[place..]` is
rest_is : (source : List ℕ) (place : ℕ) → take (length source - place) (drop place source) ≡ drop place source
rest_is source place = take_all (length source - place) (drop place source) (omega (arith, length-drop place source))

pub loop-scanner-init : goal.loop-scanner-init
loop-scanner-init c = subst (λ (r : Reading). Reached c.args.source.now r) (sym c.new-scanner.ensures) (begun c.args.source.now)

pub returns-in_default : goal.returns-in_default
returns-in_default c =
    let source = c.args.source.now in
    let r = reading c.loop-scanner.scanner in
    let rest = take (length source - r.pos.offset) (drop r.pos.offset source) in
    let holds = stuck_fault source r rest c.flaw_at.result c.loop-scanner.invariant (rest_is source r.pos.offset) c.loop-scanner-test.true c.in_default.ensures.value c.flaw_at.ensures in
    subst (λ (f : LexFault). FaultHolds source f) (sym c.at.ensures) (fault_holds source c.flaw_at.result r.pos holds)

pub loop-scanner-preserved : goal.loop-scanner-preserved
loop-scanner-preserved c =
    let source = c.args.source.now in
    let r = reading c.loop-scanner.scanner in
    let rest = take (length source - r.pos.offset) (drop r.pos.offset source) in
    let next = step source r rest c.in-Some.lexeme c.loop-scanner.invariant (rest_is source r.pos.offset) c.loop-scanner-test.true c.in-Some.ensures.value c.in-Some.ensures.fits in
    subst (λ (s : Reading). Reached source s) (sym c.in_ok-take.ensures) next
