use Rattle.std.proofs.Common.{◌∙◌, ◌++◌, ap, append_assoc, take}
use Rattle.snl_output.specs.Texts.{short_of}
use Rattle.snl_output.proofs.texts.Short.lay_with.Goals as goal

pub returns-clause-front : goal.returns-clause-front
returns-clause-front c =
    c.place.ensures.front ∙ ap (λ t. t ++ c.args.text.now) c.lay.ensures.front
    ∙ append_assoc (take c.args.at c.args.bytes.now) (short_of c.args.self.now) c.args.text.now
