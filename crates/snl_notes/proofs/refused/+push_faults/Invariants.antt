use Rattle.snl_notes.proofs.refused.+push_faults.Given as goal

-- each fault behind another one leaves one less to tell
abbrev pub decreases-push_faults : goal.decreases-push_faults
decreases-push_faults l = l.further
