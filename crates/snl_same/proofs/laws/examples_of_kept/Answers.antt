use Rattle.std.proofs.Common.{◌∙◌, ap, bytes_eq, codes, not, refl}
use Rattle.std.specs.List.{list_any}
use Rattle.snl_output.specs.TraceLines.{lines_to}
use Rattle.snl_same.specs.Kept.{counting, is_put_again, last_puts}
use Rattle.snl_heard.specs.Words.{behind, word}
use Rattle.snl_same.proofs.WordLaws.{left-out}
use Rattle.snl_same.proofs.laws.examples_of_kept.Goals as goal

pub returns : goal.returns
unfolding behind counting is_put_again last_puts lines_to word
returns c = record {
  all = refl;
  puts = refl;
  out = λ f are. ap not (left-out f (codes "C") ∙ ap (list_any (λ name. bytes_eq name (codes "C"))) are);
  left = λ f are. ap not (left-out f (codes "B") ∙ ap (list_any (λ name. bytes_eq name (codes "B"))) are);
}
