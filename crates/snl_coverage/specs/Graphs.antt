-- What `graph` draws of a program.
use Rattle.std.specs.Prelude.{◌≡◌}
use Rattle.snl_coverage.specs.Pictures.{drawn, pictured}
use Rattle.snl_outline.specs.Shapes.{Shape}
use Rattle.snl_coverage.specs.declared.graph_answer.Drawing.{Drawing}

-- A picture of a program of some shape: it has that shape, so it shows each state of each state set, and from each state one arrow
-- for each of its clauses, in order, to where the clause leads; and its text is that of the picture.
pub record Draws (shape : Shape) (d : Drawing) : Type 0 where
  pub shape_is : pictured d.picture ≡ shape
  pub text_is : d.text.items ≡ drawn d.picture
