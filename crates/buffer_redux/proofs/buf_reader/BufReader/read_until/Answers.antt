-- Where the byte is buffered, the bytes through it are appended, or none of them for want of memory.
use Rattle.std.proofs.Common.{◌≡◌, ◌+◌, ◌∙◌, [], take, subst, sym, ap, arith, append-nil, inl, inr, length}
use Rattle.std.proofs.lemmas.Result.{err_from_is_err_and}
use Rattle.std.specs.Io.BufRead.{take_through}
use Rattle.redux_buffer.specs.Block.{IsBlock}
use Rattle.buffer_redux.specs.ReadBehind.{FillsOn}
use Rattle.buffer_redux.specs.ReadUntil.{FirstAt, ReadsUntil, no_memory}
use Rattle.buffer_redux.specs.UntilLaws.{ReadsUntil-known}
use Rattle.buffer_redux.proofs.Searching.{first_through}
use Rattle.buffer_redux.proofs.UntilSteps.{reaches, shows_none, stopped, through_length}
use Rattle.buffer_redux.proofs.buf_reader.BufReader.read_until.Goals as goal

pub returns-in_err-append_first-in-Some : goal.returns-in_err-append_first-in-Some
returns-in_err-append_first-in-Some g c =
    let remaining = g.R.TellRead.remaining in
    let rules = g.P.ReaderPolicy.rules in
    let s = c.args.self.now in
    let a = c.in_err-append_first-in-Some.ensures.appends in
    let p = err_from_is_err_and c.from_residual.result c.from_residual.ensures.1 in
    let shown : c.buf.result.now ≡ s.block.bytes = c.buf.ensures ∙ ap (λ x. x.block.bytes) c.self.view_is in
    let first = subst (FirstAt c.args.byte c.in-Some.at) shown c.in-Some.ensures.found in
    let whole = subst (λ x. IsBlock x.block) c.self.view_is c.self.invariant in
    let ends = stopped remaining rules c.args.byte s s [] (shows_none remaining rules c.args.byte s whole) no_memory
    c.in-Some.at _ c.append_first.new.self first a.1
    (a.3, omega (arith, through_length c.args.byte c.in-Some.at s.block.bytes first)) in
    rw (p.1, p.2) (record {
      appended = ([], a.0 ∙ sym (append-nil _), ends.0.in_order, tt);
      until = record {
        handed = [];
        appended = a.0 ∙ sym (append-nil _);
        front = ends.0;
        ends = ends.1;
        count = tt;
        buffered = λ some. (c.in-Some.at, first, a);
      };
      bytes = tt;
      full = λ kind. inr (omega (
        arith,
        c.in_err-append_first-in-Some.ensures.full,
        through_length c.args.byte c.in-Some.at s.block.bytes first,
        ap length (first_through c.args.byte c.in-Some.at s.block.bytes first),
        ap (λ x. length (take_through c.args.byte x.block.bytes)) a.1,
      ));
    })

pub returns-in_ok-append_first-in-Some : goal.returns-in_ok-append_first-in-Some
returns-in_ok-append_first-in-Some g c =
    let remaining = g.R.TellRead.remaining in
    let rules = g.P.ReaderPolicy.rules in
    let s = c.args.self.now in
    let a = c.in_ok-append_first-in-Some.ensures.appends in
    let shown : c.buf.result.now ≡ s.block.bytes = c.buf.ensures ∙ ap (λ x. x.block.bytes) c.self.view_is in
    let first = subst (FirstAt c.args.byte c.in-Some.at) shown c.in-Some.ensures.found in
    let whole = subst (λ x. IsBlock x.block) c.self.view_is c.self.invariant in
    let until : ReadsUntil remaining rules c.args.byte s _ _ _ _ = record {
      handed = take (c.in-Some.at + 1) s.block.bytes;
      appended = a.0;
      front = a.1;
      ends = inl (reaches {step = FillsOn (λ left. left ≡ []) remaining rules} remaining rules c.args.byte s s []
          (shows_none remaining rules c.args.byte s whole) c.in-Some.at
          c.append_first.new.self first a.2);
      count = sym (through_length c.args.byte c.in-Some.at s.block.bytes first);
      buffered = λ some. (c.in-Some.at, first, a);
    } in
    record {
      appended = (until.handed, until.appended, until.front.in_order, until.count);
      until = until;
      bytes = ReadsUntil-known remaining rules c.args.byte s _ _ _ _ until;
      full = tt;
    }

pub returns-in-None : goal.returns-in-None
returns-in-None g c =
    let until = c.read_until_apart.ensures.until in record {
      appended = (until.handed, until.appended, until.front.in_order, until.count);
      until = until;
      bytes = ReadsUntil-known g.R.TellRead.remaining g.P.ReaderPolicy.rules c.args.byte c.args.self.now _ _ _ _ until;
      full = c.read_until_apart.ensures.full;
    }
