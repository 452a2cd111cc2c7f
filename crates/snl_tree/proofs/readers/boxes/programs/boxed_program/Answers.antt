use Rattle.snl_syntax.specs.view.Programs.{Carries}
use Rattle.snl_tree.proofs.code.Boxed.{known_in_box}
use Rattle.snl_tree.proofs.readers.boxes.programs.boxed_program.Goals as goal

-- a program carries what it is given of its source
pub returns-clause-carried : goal.returns-clause-carried
returns-clause-carried c = λ lexed held.
    known_in_box (λ p. Carries p lexed) _ c.in_box.result c.in_box.ensures.ok record { embedded = held.embedded; files = held.files; token_count = held.token_count; beyond = held.beyond }
