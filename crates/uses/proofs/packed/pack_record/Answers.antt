-- Two writes in order are one of both, and why the second stopped holds since before the first.
use Rattle.std.proofs.Common.{refl, ◌∙◌}
use Rattle.std.proofs.lemmas.Result.{IfErr-weaker, err_from_is_err_and, on_ok_weaker}
use Rattle.buffer_redux.specs.WriterLaws.{InnerWent-joins, WritesInOrder-joins}
use Rattle.buffer_redux.specs.WritesAlongLaws.{BegunAlong-more, FrontAlong-after, WriterStopped-after, WritesAll-front, WritesAll-took, WritesAlong-steady}
use Rattle.uses.proofs.packed.pack_record.Goals as goal

pub returns-in_err-write_all : goal.returns-in_err-write_all
returns-in_err-write_all g c =
    let p = err_from_is_err_and c.from_residual.result c.from_residual.ensures.1 in
    let wrote = c.in_err-write_all.ensures.steps in
    let front = WritesAll-front _ _ _ _ _ _ _ wrote in
    rw (p.1, p.2) (record {
      packed = tt;
      caused = wrote.steadily;
      flushes = wrote.front.keeps.flushes;
      capacity = wrote.front.keeps.same_capacity;
      front = rw c.to_be_bytes.ensures at (BegunAlong-more _ _ _ _ _ _ c.args.bytes.now front);
      went = wrote.front.keeps.went;
      writes = record {
        first = _;
        between = c.write_all.new.self;
        head = rw c.to_be_bytes.ensures at wrote;
        rest = (refl, refl);
      };
    })

pub returns : goal.returns
returns g c =
    let joins = g.met.W.TellWrite.trace_joins in
    let s = c.args.writer.now in
    let m = c.write_all.new.self in
    let t = c.write_all-2.new.self in
    let r = c.write_all-2.result in
    let bytes = c.args.bytes.now in
    let first = rw c.to_be_bytes.ensures at c.in_ok-write_all.ensures.steps in
    let last = c.write_all-2.ensures.steps in
    let took = WritesAll-took _ _ g.P.WriterPolicy.rules s _ _ m first in
    record {
      packed = on_ok_weaker r (WritesInOrder-joins s m t _ bytes took.in_order) c.write_all-2.ensures.in_order;
      caused = λ steady. IfErr-weaker r _ _ (λ e. WriterStopped-after s.log.writes m.log.writes t.log.writes e took.grows)
          (last.steadily (WritesAlong-steady _ _ _ s m _ took steady));
      flushes = last.front.keeps.flushes ∙ first.front.keeps.flushes;
      capacity = λ leaves. last.front.keeps.same_capacity leaves ∙ first.front.keeps.same_capacity leaves;
      front = FrontAlong-after _ _ _ joins s m t _ bytes r took (WritesAll-front _ _ _ m bytes r t last);
      went = InnerWent-joins _ _ joins s m t first.front.keeps.went last.front.keeps.went;
      writes = record { first = _; between = m; head = first; rest = last };
    }
