use Rattle.snl_text.proofs.lexemes.to_line_end.Goals as goal

pub returns-clause-fits : goal.returns-clause-fits
returns-clause-fits c = (c.run.ensures.some c.requires.nonempty c.requires.in_line, c.run.ensures.within, c.requires.plain c.run.result)
