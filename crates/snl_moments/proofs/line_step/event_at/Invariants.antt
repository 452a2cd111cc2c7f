use Rattle.snl_moments.proofs.line_step.event_at.Given as goal

-- the ledger of the count that is made there
abbrev pub ghosts-event_told : goal.ghosts-event_told
ghosts-event_told a = record { name = a.blank.name; parts = a.blank.parts }
