-- The bytes fill a front of the tail, which is then taken in.
use Rattle.std.proofs.Common.{rules, refl}
use Rattle.redux_buffer.specs.BufImpl.{as_placed}
use Rattle.redux_buffer.proofs.Written.{front_adds}
use Rattle.redux_buffer.proofs.buf_impl.BufImpl.append_all.Goals as goal

pub returns-clause-bytes : goal.returns-clause-bytes
returns-clause-bytes c =
    front_adds c.draw_back.new.self c.commit.new.self (as_placed c.args.self.now) _ _ _ c.draw_back.ensures.drawn
    c.copy_from_slice.ensures.after refl c.requires.fits c.commit.ensures.bytes (search rules)
