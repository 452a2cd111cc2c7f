-- What is told of small outputs, and which program some traces are of.
use Rattle.std.specs.Prelude.{◌≡◌, true, false, List, ℕ, [], ◌∷◌, None, Some, codes}
use Rattle.snl_suite.specs.Agreement.{IsApart, IsSettled}
use Rattle.snl_suite.specs.Escaped.{escaped}
use Rattle.snl_suite.specs.Fitting.{Fits, IsProgramOf}
use Rattle.snl_suite.specs.declared.agreement.Agreement.TheVariants.{Apart, Broken, Same}

-- An output that is what its file has; one that has another byte; one that ends too early, and one that goes on where the file has ended.
pub record SettledExamples : Type 0 where
  pub same : IsSettled Same (codes "0 go\n") (codes "0 go\n") true false
  pub other : IsSettled Apart (codes "0 go\n") (codes "0 no\n") false false
  pub shorter : IsSettled Apart (codes "0 go\n") (codes "0 go\n1 go\n") false false
  pub longer : IsSettled Apart (codes "0 go\n1 go\n") (codes "0 go\n") true false
  pub unfinished : IsSettled Same (codes "0 go\n") (codes "0 go\n") false false → ⊥
  pub alike : IsSettled Apart (codes "0 go\n") (codes "0 go\n") true false → ⊥

-- The names of programs that some stems fit, and of two that fit the longer one.
pub record FittingExamples : Type 0 where
  pub own : IsProgramOf (codes "light" ∷ []) (codes "light") (Some (codes "light"))
  pub day : IsProgramOf (codes "light" ∷ []) (codes "light-monday") (Some (codes "light"))
  pub none : Fits (codes "light") (codes "lights") → ⊥
  pub longest : IsProgramOf (codes "lock" ∷ codes "lock-watched" ∷ []) (codes "lock-watched-down") (Some (codes "lock-watched"))

-- A text with what XML uses itself.
pub record EscapedExamples : Type 0 where
  pub all : escaped (codes "a<b && \"c\">d") ≡ codes "a&lt;b &amp;&amp; &quot;c&quot;&gt;d"
  pub none : escaped (codes "10100 put LAB:LAMP 1") ≡ codes "10100 put LAB:LAMP 1"
