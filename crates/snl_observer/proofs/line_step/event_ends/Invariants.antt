use Rattle.snl_observer.proofs.line_step.event_ends.Given as goal

-- the ledger of the count that is made there
abbrev pub ghosts-event_told : goal.ghosts-event_told
ghosts-event_told a = record { name = a.blank.name; parts = a.blank.parts }
