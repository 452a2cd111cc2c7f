use Rattle.snl_lints.proofs.tables.note_all.Goals as goal

pub returns : goal.returns
returns c = λ j. record {
  done = c.in_ok-note_all.ensures j;
  setters = λ v. c.in_ok-note_program.ensures v j;
  readers = λ v. c.in_ok-note_program-2.ensures v j;
  held = λ v. c.in_ok-note_held_by.ensures v j;
}
