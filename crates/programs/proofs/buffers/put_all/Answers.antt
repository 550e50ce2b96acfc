-- Making room takes nothing in, and `put` calls no stream, so just the bytes are taken in; where room couldn't be made, none are.
use Rattle.std.proofs.Common.{Err, Ok, [], ◌++◌, ap, refl, subst, sym, length, ◌∙◌}
use Rattle.std.proofs.lemmas.Result.{err_from_is_err_and}
use Rattle.buffer_redux.specs.Transfer.{Sends}
use Rattle.buffer_redux.specs.WriteParts.{PutsIn}
use Rattle.buffer_redux.specs.WritePartsLaws.{PutsIn-joins, PutsIn-order, PutsIn-told}
use Rattle.buffer_redux.specs.WriterLaws.{WritesInOrder-joins}
use Rattle.programs.proofs.buffers.put_all.Goals as goal

pub returns-in_err-make_room : goal.returns-in_err-make_room
returns-in_err-make_room g c =
    let p = err_from_is_err_and c.from_residual.result c.from_residual.ensures.1 in
    let made = c.in_err-make_room.ensures in
    rw (p.1, p.2) (record {
      in_order = tt;
      none = made.none;
      kind = made.kind;
      capacity = made.capacity;
      takes = record {
        taken = made.none;
        fits = λ fit. (let odd = (made.fits fit).0 in cc);
        sends = λ full.
            let (m, sent, same) = made.sends full in
            record {
              sending = Err c.in_err-make_room.field-0.0;
              left = m.block;
              sends = rw same sent.sends;
              ended = (refl, ap (λ w. w.block) same);
            };
      };
    })

pub returns : goal.returns
returns g c =
    let made = c.in_ok-make_room.ensures in
    let u = c.args.target.now in
    let bytes = c.args.first.now ++ c.args.second.now in
    let puts : PutsIn c.make_room.new.target bytes c.put-2.new.self =
    PutsIn-joins _ _ _ c.args.first.now c.args.second.now c.put.ensures.put c.put-2.ensures.put in
    let told = PutsIn-told _ _ bytes puts in
    let order = WritesInOrder-joins _ _ _ [] bytes made.none (PutsIn-order _ _ bytes puts) in
    record {
      in_order = order;
      none = tt;
      kind = puts.kind ∙ made.kind;
      capacity = puts.capacity ∙ made.capacity;
      takes = record {
        taken = order;
        fits = λ fit. (refl, told ∙ ap (λ w. w.log) (made.fits fit).2);
        sends = λ full.
            let (m, sent, room) = made.sends full in
            record {
              sending = Ok tt;
              left = m.block;
              sends = subst (Sends (length u.block.bytes) u.block u.log (Ok tt) m.block)
                  (sym (told ∙ ap (λ w. w.log) room.1)) sent.sends;
              ended = tt;
            };
      };
    }
