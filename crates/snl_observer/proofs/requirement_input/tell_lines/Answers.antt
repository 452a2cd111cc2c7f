use Rattle.std.proofs.Common.{◌∙◌, refl, sym}
use Rattle.snl_observer.proofs.TellLaws.{way-all, way-ends, way-halts, way-on, way-start}
use Rattle.snl_observer.proofs.requirement_input.tell_lines.Goals as goal

pub loop-line-init : goal.loop-line-init
loop-line-init g c = record { way = way-start _ _ _ _ _ _ _; lasts = refl }

pub loop-line-preserved : goal.loop-line-preserved
loop-line-preserved g c = record {
  way =
      way-on _ _ _ _ c.in-Some.line.now c.in-Some.rest.now _ _ _ _ _ _ _ _ _ _ _ _ c.loop-line.invariant.way c.in-Some.ensures.cut c.in-Some.ensures.first
      (sym c.is_at.ensures ∙ c.if-is_at.false) c.tell_line.ensures.led (c.tell_line.ensures.whole c.if-not-tell_line.false);
  lasts = c.tell_line.ensures.lasts ∙ c.loop-line.invariant.lasts;
}

pub returns-then-is_at-clause-tells : goal.returns-then-is_at-clause-tells
returns-then-is_at-clause-tells g c =
    way-halts _ _ _ _ c.in-Some.line.now c.in-Some.rest.now _ _ _ _ _ _ _ _ c.loop-line.invariant.way c.in-Some.ensures.cut c.in-Some.ensures.first (sym c.is_at.ensures ∙ c.if-is_at.true)

pub returns-then-not-tell_line-clause-lasts : goal.returns-then-not-tell_line-clause-lasts
returns-then-not-tell_line-clause-lasts g c = c.tell_line.ensures.lasts ∙ c.loop-line.invariant.lasts

pub returns-then-not-tell_line-clause-ends : goal.returns-then-not-tell_line-clause-ends
returns-then-not-tell_line-clause-ends g c =
    way-ends _ _ _ _ c.in-Some.line.now c.in-Some.rest.now _ _ _ _ _ _ _ _ _ _ _ _ c.loop-line.invariant.way c.in-Some.ensures.cut c.in-Some.ensures.first
    (sym c.is_at.ensures ∙ c.if-is_at.false) c.tell_line.ensures.led c.tell_line.ensures.adds (c.tell_line.ensures.ended c.if-not-tell_line.true)

pub returns-clause-tells : goal.returns-clause-tells
returns-clause-tells g c = way-all _ _ _ _ _ _ _ _ _ _ _ _ c.loop-line.invariant.way c.in_default.ensures.none
