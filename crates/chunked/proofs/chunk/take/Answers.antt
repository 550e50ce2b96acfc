-- What doesn't fit once space was made doesn't fit the capacity, so it goes past the buffer, and else inside.
use Rattle.std.proofs.Common.{[], Ok, ap, subst, sym, ◌+◌, ◌∙◌, arith, length, refl}
use Rattle.chunked.specs.Names.{after_write, PutsIn-joins}
use Rattle.chunked.proofs.Going.{has_room, puts_roomy}
use Rattle.chunked.proofs.chunk.take.Goals as goal

pub returns-then-capacity-buf_len-clause-takes : goal.returns-then-capacity-buf_len-clause-takes
returns-then-capacity-buf_len-clause-takes g c =
    let m = c.make_space.new.writer in
    let part = c.args.part.now in record {
      sending = Ok tt;
      spaced = m;
      makes_space = c.in-Ok.ensures;
      ended = record {
        inside = λ small.
            let there = has_room g.W.Tell.log g.W.TellWrite.trace g.met.W.TellWrite.trace_none g.met.W.TellWrite.trace_joins _ m
            (length part + 2) c.in-Ok.ensures small in
            absurd (omega (arith, there, c.if-capacity-buf_len.true, c.capacity.ensures.value, c.buf_len.ensures.value));
        past = λ _. (
          record {
            policy = refl;
            block = refl;
            bound = c.write_told.ensures.bound;
            told = c.write_told.ensures.told ∙ ap (λ l. after_write l part c.write_told.result) c.get_mut.ensures.log;
          },
          record {
            calls = subst (λ x. g.W.TellWrite.trace x c.write_told.new.self) c.get_mut.ensures.inner
                c.write_told.ensures.trace;
            told_before = sym c.get_mut.ensures.log ∙ ap g.W.Tell.log c.get_mut.ensures.inner;
            told_after = refl;
            noted = refl;
          },
        );
      };
    }

pub returns-else-capacity-buf_len-clause-takes : goal.returns-else-capacity-buf_len-clause-takes
returns-else-capacity-buf_len-clause-takes g c =
    let m = c.make_space.new.writer in record {
      sending = Ok tt;
      spaced = m;
      makes_space = c.in-Ok.ensures;
      ended = record {
        inside = λ _. (
          refl,
          PutsIn-joins m c.make_room.new.self c.put.new.self [] c.args.part.now
              (puts_roomy m c.make_room.new.self c.make_room.ensures.room c.make_room.ensures.others c.make_room.ensures.whole)
              c.put.ensures.put,
        );
        past = λ large.
            absurd (omega (arith, large, c.if-capacity-buf_len.false, c.capacity.ensures.value, c.buf_len.ensures.value));
      };
    }
