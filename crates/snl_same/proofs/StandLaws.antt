-- Laws of two programs that stand behind some lines.
use Rattle.std.proofs.Common.{◌≡◌, ◌∙◌, ◌+◌, ℕ, List, [], ◌∷◌, ◌++◌, Option, None, Some, IsSome, length, refl, ap, sym, subst, arith, append_assoc, length-append}
use Rattle.snl_machine.specs.MachineOf.{world_held}
use Rattle.snl_meaning.specs.Keeping.{world_after}
use Rattle.snl_meaning.specs.World.{World}
use Rattle.snl_same.proofs.LineLaws.{apart-at}
use Rattle.snl_same.specs.Answers.{DiffersAt, IsFound, OrDiffers, first_of}
use Rattle.snl_same.specs.Lines.{AreAlike, AreApart, AreApartAt, Did, EndAlike, GoOnAlike, Pair, PairIsAlike, new_at, old_at, world_behind}
use Rattle.snl_same.specs.Sides.{MeansAs, SoFar, Stand, StepsTo, close_by}
use Rattle.snl_same.specs.declared.differences.Apart.{Apart}
use Rattle.snl_same.specs.declared.differences.Close.TheVariants.{RunEnded}
use Rattle.snl_same.specs.declared.differences.Difference.{Difference}
use Rattle.snl_same.specs.declared.filters.Filter.{Filter}
use Rattle.snl_trace.specs.Run.{Rules, line_done}
use Rattle.snl_trace.specs.declared.runner.End.{End}

-- one more line at which both go on alike
alike-on : (f : Filter) (a b : Rules) (n number : ℕ) (done : List (List ℕ)) (line : List ℕ) (w v : World) → number ≡ n + length done →
    AreAlike f a b n done w v → GoOnAlike f (line_done a number line (world_behind a n done w)) (line_done b number line (world_behind b n done v)) →
    AreAlike f a b n (done ++ line ∷ []) w v
unfolding AreAlike world_behind
alike-on f a b n number [] line w v is are go =
    let here : number ≡ n = omega (arith, is) in
    (subst (λ (k : ℕ). GoOnAlike f (line_done a k line w) (line_done b k line v)) here go, tt)
alike-on f a b n number (l ∷ ls) line w v is are go =
    (are.0, alike-on f a b (n + 1) number ls line (world_after (line_done a n l w)) (world_after (line_done b n l v)) (omega (arith, is)) are.1 go)

-- and the world behind it
world-on : (r : Rules) (n number : ℕ) (done : List (List ℕ)) (line : List ℕ) (w : World) → number ≡ n + length done →
    world_behind r n (done ++ line ∷ []) w ≡ world_after (line_done r number line (world_behind r n done w))
unfolding world_behind
world-on r n number [] line w is =
    let here : n ≡ number = omega (arith, is) in
    ap (λ (k : ℕ). world_after (line_done r k line w)) here
world-on r n number (l ∷ ls) line w is = world-on r (n + 1) number ls line (world_after (line_done r n l w)) (omega (arith, is))

-- a difference stays the first one, whatever follows
pub differs-more : (p : Pair) (lines more : List (List ℕ)) (d : Difference) → DiffersAt p lines d → DiffersAt p (lines ++ more) d
differs-more p lines more d at = record {
  before = at.before;
  line = at.line;
  after = at.after ++ more;
  are = ap (λ (z : List (List ℕ)). z ++ more) at.are ∙ append_assoc at.before (at.line ∷ at.after) more;
  number_is = at.number_is;
  alike = at.alike;
  apart = at.apart;
}

-- what each does at a line, by the world in which it stands
did-here : (r : Rules) (first w v : World) (done : List (List ℕ)) (line text : List ℕ) (number : ℕ) (e : Option End) → number ≡ 1 + length done → w ≡ world_behind r 1 done first →
    Did (line_done r number line w) e v text → Did (line_done r (1 + length done) line (world_behind r 1 done first)) e v text
did-here r first w v done line text number e is at did =
    subst (λ (u : World). Did (line_done r (1 + length done) line u) e v text) at
    (subst (λ (k : ℕ). Did (line_done r k line w) e v text) is did)

-- both are apart at a line for the first time
apart-here : (p : Pair) (done after : List (List ℕ)) (line : List ℕ) (number : ℕ) (apart : Apart) → number ≡ 1 + length done → PairIsAlike p done →
    AreApartAt p.filter (old_at p done line) (new_at p done line) (Some apart) →
    DiffersAt p (done ++ line ∷ after) (record { number = number; apart = apart })
apart-here p done after line number apart is alike are = record {
  before = done;
  line = line;
  after = after;
  are = refl;
  number_is = is;
  alike = alike;
  apart = are;
}

-- both go on behind a line
pub goes-on : (p : Pair) (done : List (List ℕ)) (line s t : List ℕ) (number : ℕ) (w v w' v' : World) (first : Option Difference) (apart : Option Apart) → number ≡ 1 + length done →
    SoFar p done w v first → Did (line_done p.old number line w) None w' s → Did (line_done p.new number line v) None v' t → AreApart p.filter s t None None apart →
    SoFar p (done ++ line ∷ []) w' v' (first_of first number apart)
goes-on p done line s t number w v w' v' (Some d) apart is so old new are = differs-more p done (line ∷ []) d so
goes-on p done line s t number w v w' v' None None is so old new are =
    let x = did-here p.old p.old_first w w' done line s number None is so.1 old in
    let y = did-here p.new p.new_first v v' done line t number None is so.2 new in
    let go : GoOnAlike p.filter (old_at p done line) (new_at p done line) =
    record { old_goes_on = x.end_is; new_goes_on = y.end_is; same = (apart-at p.filter (old_at p done line) (new_at p done line) None None w' v' s t None x y are).0 } in (
      alike-on p.filter p.old p.new 1 (1 + length done) done line p.old_first p.new_first refl so.0 go,
      sym (world-on p.old 1 (1 + length done) done line p.old_first refl ∙ x.world_is),
      sym (world-on p.new 1 (1 + length done) done line p.new_first refl ∙ y.world_is),
    )
goes-on p done line s t number w v w' v' None (Some apart) is so old new are =
    let x = did-here p.old p.old_first w w' done line s number None is so.1 old in
    let y = did-here p.new p.new_first v v' done line t number None is so.2 new in
    apart-here p done [] line number apart is so.0 (apart-at p.filter (old_at p done line) (new_at p done line) None None w' v' s t (Some apart) x y are)

-- a run ends at a line, or both do
pub ends-there : (p : Pair) (done after : List (List ℕ)) (line s t : List ℕ) (number : ℕ) (w v w' v' : World) (d e : Option End) (first : Option Difference) (apart : Option Apart) →
    number ≡ 1 + length done → SoFar p done w v first → Did (line_done p.old number line w) d w' s → Did (line_done p.new number line v) e v' t →
    AreApart p.filter s t d e apart → (EndAlike d e → IsSome d) → IsFound p (done ++ line ∷ after) (first_of first number apart) (RunEnded d e)
ends-there p done after line s t number w v w' v' d e (Some known) apart is so old new are ends = differs-more p done (line ∷ after) known so
ends-there p done after line s t number w v w' v' d e None None is so old new are ends =
    let x = did-here p.old p.old_first w w' done line s number d is so.1 old in
    let y = did-here p.new p.new_first v v' done line t number e is so.2 new in
    record {
      before = done;
      line = line;
      after = after;
      are = refl;
      alike = so.0;
      same = apart-at p.filter (old_at p done line) (new_at p done line) d e w' v' s t None x y are;
      ends = ends are.1;
      old_is = x.end_is;
      new_is = y.end_is;
    }
ends-there p done after line s t number w v w' v' d e None (Some apart) is so old new are ends =
    let x = did-here p.old p.old_first w w' done line s number d is so.1 old in
    let y = did-here p.new p.new_first v v' done line t number e is so.2 new in
    apart-here p done after line number apart is so.0 (apart-at p.filter (old_at p done line) (new_at p done line) d e w' v' s t (Some apart) x y are)

-- what was found so far is found, where the trace ends
pub found-so-far : (p : Pair) (done : List (List ℕ)) (w v : World) (first : Option Difference) → SoFar p done w v first → OrDiffers p done first (PairIsAlike p done)
found-so-far p done w v (Some d) so = so
found-so-far p done w v None so = so.0

module _ (line s t : List ℕ) (a b : Stand) (apart : Option Apart) (filter_is : b.filter ≡ a.filter) (number_is : b.number ≡ a.number + 1)
    (first_is : b.first ≡ first_of a.first a.number apart) (old_means : (r : Rules) → MeansAs r a.old → MeansAs r b.old) (new_means : (r : Rules) → MeansAs r a.new → MeansAs r b.new) where
  -- a step that ends the comparison
  steps-end : (d e : Option End) → ((r : Rules) → MeansAs r a.old → Did (line_done r a.number line (world_held a.old)) d (world_held b.old) s) →
      ((r : Rules) → MeansAs r a.new → Did (line_done r a.number line (world_held a.new)) e (world_held b.new) t) → AreApart a.filter s t d e apart →
      (EndAlike d e → IsSome d) → StepsTo line a b (Some (RunEnded d e))
  steps-end d e old new are ends p done after at =
      subst (λ (o : Option Difference). IsFound p (done ++ line ∷ after) o (RunEnded d e)) (sym first_is)
      (ends-there p done after line s t a.number (world_held a.old) (world_held a.new) (world_held b.old) (world_held b.new) d e a.first apart at.number_is at.so_far
      (old p.old at.old_means) (new p.new at.new_means) (subst (λ (f : Filter). AreApart f s t d e apart) (sym at.filter_is) are) ends)

  -- a step, by how the runs end at the line
  pub steps-by : (d e : Option End) → ((r : Rules) → MeansAs r a.old → Did (line_done r a.number line (world_held a.old)) d (world_held b.old) s) →
      ((r : Rules) → MeansAs r a.new → Did (line_done r a.number line (world_held a.new)) e (world_held b.new) t) → AreApart a.filter s t d e apart →
      StepsTo line a b (close_by d e)
  steps-by None None old new are = λ p done at. record {
    filter_is = at.filter_is ∙ sym filter_is;
    old_means = old_means p.old at.old_means;
    new_means = new_means p.new at.new_means;
    number_is = omega (arith, number_is, at.number_is, length-append done (line ∷ []));
    so_far =
        subst (λ (o : Option Difference). SoFar p (done ++ line ∷ []) (world_held b.old) (world_held b.new) o) (sym first_is)
        (goes-on p done line s t a.number (world_held a.old) (world_held a.new) (world_held b.old) (world_held b.new) a.first apart at.number_is at.so_far
        (old p.old at.old_means) (new p.new at.new_means) (subst (λ (f : Filter). AreApart f s t None None apart) (sym at.filter_is) are));
  }
  steps-by None (Some e) old new are = steps-end None (Some e) old new are (λ alike. absurd cc)
  steps-by (Some d) e old new are = steps-end (Some d) e old new are (λ _. refl)
