-- The words say whose part is wanted, and the run begins at empty buffers.
use Rattle.std.proofs.Common.{ap, inl, inr, refl, subst, sym, ◌∙◌}
use Rattle.buffer_redux.specs.Block.{IsNew, Plain}
use Rattle.multipart.specs.Multipart.{IsForm, IsBegun}
use Rattle.parts.specs.Asked.{run_limits}
use Rattle.parts.proofs.run.run_asked.Goals as goal

pub returns-in_default : goal.returns-in_default
returns-in_default g c = inl (c.asked.ensures.none c.in_default.is, refl, refl, refl)

pub returns-in-Err : goal.returns-in-Err
returns-in-Err g c =
    let asked = c.in-Some.ensures in
    let refused = c.in-Err.ensures.refused in
    inr (
      _,
      _,
      asked.boundary,
      asked.some,
      inl (record {
        memory = refl;
        read_same = refused.read_same;
        written_same = refused.written_same;
      }),
    )

pub returns-in-Err-new : goal.returns-in-Err-new
returns-in-Err-new g c =
    let asked = c.in-Some.ensures in
    inr (
      _,
      _,
      asked.boundary,
      asked.some,
      inl (record {
        memory = refl;
        read_same = c.into_inner.ensures.log ∙ ap (λ x. x.log) c.in-Err-new.ensures.handed_back ∙ c.in-Ok.ensures.read;
        written_same = c.into_inner_with_buffer-writer.ensures.log ∙ c.in-Ok.ensures.written;
      }),
    )

pub returns-in-Ok-new : goal.returns-in-Ok-new
returns-in-Ok-new g c =
    let asked = c.in-Some.ensures in
    let new = c.in-Ok-new.ensures in
    let parts = c.in-Ok-new.parts in
    let over = new.over.0 in
    inr (
      _,
      _,
      asked.boundary,
      asked.some,
      inr (record {
        s = parts;
        u = c.in-Ok.buffers.1;
        begun = subst (λ r. IsBegun r c.in-Some.boundary.now run_limits parts) (sym over) new.begun;
        codings = subst (λ x. IsForm x parts) new.begun.stand new.whole;
        source = subst (λ r. IsNew Plain 16384 r.block) (sym over) c.in-Ok.ensures.source;
        target = c.in-Ok.ensures.target;
        read_from = ap (λ r. r.log) over ∙ c.in-Ok.ensures.read;
        written_from = c.in-Ok.ensures.written;
        did = c.run.ensures;
      }),
    )
