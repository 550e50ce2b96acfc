-- The first read is the filling's first turn, or its end where it failed or gave nothing.
use Rattle.std.proofs.Common.{refl}
use Rattle.std.proofs.lemmas.Result.{err_from_is_err_and}
use Rattle.buffer_redux.proofs.ReadSteps.{fault_did, dry_did, more_did}
use Rattle.buffer_redux.proofs.buf_reader.BufReader.fill_on.Goals as goal

pub returns-in_err-read_into_buf : goal.returns-in_err-read_into_buf
returns-in_err-read_into_buf g c =
    let p = err_from_is_err_and c.from_residual.result c.from_residual.ensures.1 in
    let r = c.in_err-read_into_buf.ensures in
    record {
      fill = λ s asked. rw (p.1, p.2)
          (fault_did g.R.TellRead.remaining g.P.ReaderPolicy.rules s _ asked c.requires.room _ _ r.reads);
    }

pub returns-then-branch-eq0 : goal.returns-then-branch-eq0
returns-then-branch-eq0 g c =
    let r = c.in_ok-read_into_buf.ensures in
    record {
      fill = λ s asked. dry_did g.R.TellRead.remaining g.P.ReaderPolicy.rules s _ asked c.requires.room _ tt
          c.in_ok-read_into_buf.field-0 c.if-branch-eq0.true
          r.reads (r.end (rw c.if-branch-eq0.true refl) c.requires.room);
    }

pub returns : goal.returns
returns g c =
    let r = c.in_ok-read_into_buf.ensures in
    let f = c.fill.ensures in
    record {
      fill = λ s asked. more_did g.R.TellRead.remaining g.P.ReaderPolicy.rules s _ asked c.requires.room _
          c.in_ok-read_into_buf.field-0 c.if-branch-eq0.false
          r.reads c.fill.result c.fill.new.self
          (record { filled = f.filled; known = f.known; ended = f.end; noted = f.noted; whole = f.whole });
    }
