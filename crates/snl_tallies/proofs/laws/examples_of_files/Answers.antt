use Rattle.std.proofs.Common.{◌≡◌, ◌∙◌, ◌++◌, ◌∷◌, [], All, ℕ, List, ap, arith, codes, get_or, length, refl, sym}
use Rattle.std.proofs.lemmas.List.Elements.{All-cons, All-nil}
use Rattle.std.specs.Fmt.{digits}
use Rattle.snl_tallies.specs.Counts.{IsFileOf, line_of}
use Rattle.snl_tallies.proofs.TextLaws.{IsSmall}
use Rattle.snl_tallies.proofs.FileExamples.{cut-is-none, more-is-none, other-is-none}
use Rattle.snl_tallies.proofs.laws.examples_of_files.Goals as goal

pub returns : goal.returns
unfolding digits
returns c = record {
  line = refl;
  lines = refl;
  file = record {
    text_is = refl;
    each = refl;
    small = All-cons IsSmall 1 (20 ∷ []) (omega arith) (All-cons IsSmall 20 [] (omega arith) (All-nil IsSmall));
  };
  cut = cut-is-none;
  more = more-is-none;
  other = other-is-none;
}
