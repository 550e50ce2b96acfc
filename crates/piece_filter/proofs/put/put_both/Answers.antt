-- A send and the room made behind it take nothing in, so all or none of the bytes go in by `write_parts`.
use Rattle.std.proofs.Common.{◌≡◌, Ok, [], ◌++◌, append-nil, subst, sym, arith, length-append}
use Rattle.buffer_redux.specs.Block.{MakesRoom}
use Rattle.buffer_redux.specs.BufWriter.{WasSent, WritesInOrder}
use Rattle.buffer_redux.specs.Buffered.{with_block}
use Rattle.buffer_redux.specs.WriteParts.{WritesParts}
use Rattle.piece_filter.proofs.Putting.{puts_fitting, puts_say, puts_sent}
use Rattle.piece_filter.proofs.put.put_both.Goals as goal
use Rattle.piece_filter.proofs.put.put_both.Goals.{then-lacks_room+in_default, else-lacks_room}

pub returns : goal.returns
returns g c =
    let s = c.args.writer.now in
    let u = c.if-lacks_room.writer in
    let m = c.make_room.new.self in
    let t = c.write_parts.new.self in
    let bytes = c.args.first.now ++ c.args.second.now in
    let parts : WritesParts g.W.Tell.log g.W.TellWrite.trace m bytes c.write_parts.result t =
    subst (λ l. WritesParts g.W.Tell.log g.W.TellWrite.trace m (c.args.first.now ++ l) c.write_parts.result t)
    (append-nil c.args.second.now) c.write_parts.ensures.parts in
    let made = c.make_room.ensures in
    elim c.if-lacks_room.branch [
      | then-lacks_room+in_default w ↦
          puts_say _ (puts_sent g.W.Tell.log g.W.TellWrite.trace s t bytes u m
          (subst (WasSent g.W.Tell.log g.W.TellWrite.trace s (Ok tt)) (sym w.writer-is) w.in_default.ensures.sent)
          made.in_order made.others made.room
          (omega (arith, rw w.if-lacks_room.true at c.lacks_room.ensures.full, length-append c.args.first.now c.args.second.now))
          c.write_parts.result parts)
      | else-lacks_room w ↦
          puts_say _ (puts_fitting g.W.Tell.log g.W.TellWrite.trace s t bytes m
          (subst (λ u. WritesInOrder u [] m) w.writer-is made.in_order)
          (subst (λ u. m ≡ with_block u m.block) w.writer-is made.others)
          (subst (λ u. MakesRoom u.block m.block) w.writer-is made.room)
          (omega (arith, rw w.if-lacks_room.false at c.lacks_room.ensures.fits, length-append c.args.first.now c.args.second.now))
          c.write_parts.result parts)
    ]
