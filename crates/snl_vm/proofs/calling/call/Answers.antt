use Rattle.std.proofs.Common.{◌∙◌, ◌<◌, Ok, [], ap, arith, length, reverse, sym, take}
use Rattle.std.proofs.lemmas.List.{length-map}
use Rattle.snl_meaning.specs.Known.{entry_view}
use Rattle.snl_meaning.specs.Ran.{Gives}
use Rattle.snl_meaning.specs.Run.{GoesOver}
use Rattle.snl_meaning.specs.Words.{called_with}
use Rattle.snl_vm.specs.Running.{context_of}
use Rattle.snl_vm.specs.Stack.{stack_of}
use Rattle.snl_vm.specs.Views.{world_of}
use Rattle.snl_vm.proofs.Called.{found-in, calls-there, calls-operands, calls-place, calls-does}
use Rattle.snl_vm.proofs.calling.call.Goals as goal

pub bounds-context-site : goal.bounds-context-site
bounds-context-site c =
    let g = context_of c.args.context.now c.args.calls.now c.args.operands.now in
    let there = calls-there g c.args.site.function c.args.site.count c.args.site.line c.args.pc (stack_of c.args.operands.now) (world_of c.args.store.now) c.requires.possible in
    omega (arith, there, length-map c.args.context.now.program.now.functions.now entry_view)

pub topmost-values-requires : goal.topmost-values-requires
topmost-values-requires c =
    let g = context_of c.args.context.now c.args.calls.now c.args.operands.now in
    let all = c.args.context.now.program.now.functions.now in
    let f = c.args.site.function in
    let there = calls-there g f c.args.site.count c.args.site.line c.args.pc (stack_of c.args.operands.now) (world_of c.args.store.now) c.requires.possible in
    let within : f < length all = omega (arith, there, length-map all entry_view) in
    let entry = c.index-context-site.result in
    calls-operands g f c.args.site.count c.args.site.line c.args.pc (stack_of c.args.operands.now) (world_of c.args.store.now) (entry_view entry)
    (found-in entry_view all f entry within c.index-context-site.is) c.requires.possible

pub take_away-requires : goal.take_away-requires
take_away-requires c =
    let g = context_of c.args.context.now c.args.calls.now c.args.operands.now in
    let all = c.args.context.now.program.now.functions.now in
    let f = c.args.site.function in
    let there = calls-there g f c.args.site.count c.args.site.line c.args.pc (stack_of c.args.operands.now) (world_of c.args.store.now) c.requires.possible in
    let within : f < length all = omega (arith, there, length-map all entry_view) in
    let entry = c.index-context-site.result in
    calls-operands g f c.args.site.count c.args.site.line c.args.pc (stack_of c.args.operands.now) (world_of c.args.store.now) (entry_view entry)
    (found-in entry_view all f entry within c.index-context-site.is) c.requires.possible

pub keep-requires : goal.keep-requires
keep-requires c =
    let g = context_of c.args.context.now c.args.calls.now c.args.operands.now in
    let all = c.args.context.now.program.now.functions.now in
    let f = c.args.site.function in
    let there = calls-there g f c.args.site.count c.args.site.line c.args.pc (stack_of c.args.operands.now) (world_of c.args.store.now) c.requires.possible in
    let within : f < length all = omega (arith, there, length-map all entry_view) in
    let entry = c.index-context-site.result in
    let place = calls-place g f c.args.site.count c.args.site.line c.args.pc (stack_of c.args.operands.now) (world_of c.args.store.now) (entry_view entry)
    (found-in entry_view all f entry within c.index-context-site.is) c.requires.possible in
    omega (arith, place, length-map all entry_view, c.requires.places)

pub returns-clause-does : goal.returns-clause-does
returns-clause-does c =
    let g = context_of c.args.context.now c.args.calls.now c.args.operands.now in
    let all = c.args.context.now.program.now.functions.now in
    let f = c.args.site.function in
    let n = c.args.site.count in
    let line = c.args.site.line in
    let s = stack_of c.args.operands.now in
    let w = world_of c.args.store.now in
    let u = world_of c.enter.new.store in
    let there = calls-there g f n line c.args.pc s w c.requires.possible in
    let within : f < length all = omega (arith, there, length-map all entry_view) in
    let entry = c.index-context-site.result in
    let found = found-in entry_view all f entry within c.index-context-site.is in
    let did = ap (λ ps. called_with g.set ps line (reverse (take n s)) w) ((λ j. (c.index-context-site.is j).parameters.items) ∙ sym c.as_slice-parameters.ensures.value)
    ∙ ap (λ zs. called_with g.set c.as_slice-parameters.result.now line zs w) (sym c.topmost-values.ensures) ∙ c.in_ok-enter.ensures in
    calls-does g f n line c.args.pc s w (entry_view entry) found (calls-operands g f n line c.args.pc s w (entry_view entry) found c.requires.possible)
    (calls-place g f n line c.args.pc s w (entry_view entry) found c.requires.possible) (Ok tt) u did
    ∙ (λ j. Gives (GoesOver (sym c.keep.ensures.returns j) (c.index-context-site.is j).start (sym c.take_away.ensures.stack j)) u [])

pub returns-clause-room : goal.returns-clause-room
returns-clause-room c = c.take_away.ensures.room

pub returns-clause-places : goal.returns-clause-places
returns-clause-places c = c.keep.ensures.places
