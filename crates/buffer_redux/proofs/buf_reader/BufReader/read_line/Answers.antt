-- A whole line that is no UTF-8 is mended by nothing that follows; any other is appended, or none of it.
use Rattle.std.proofs.Common.{◌+◌, ◌∙◌, [], length, take, subst, sym, ap, arith, append-nil, inl, inr}
use Rattle.std.proofs.lemmas.Result.{err_from_is_err_and}
use Rattle.std.proofs.lemmas.Str.{IsUtf8-nil}
use Rattle.std.specs.Io.BufRead.{take_through}
use Rattle.redux_buffer.specs.Block.{IsBlock}
use Rattle.buffer_redux.specs.ReadBehind.{FillsOn}
use Rattle.buffer_redux.specs.ReadLine.{IsPart, no_text}
use Rattle.buffer_redux.specs.ReadUntil.{FirstAt}
use Rattle.buffer_redux.specs.BufReader.{ReadsInOrder}
use Rattle.buffer_redux.specs.LineLaws.{ReadsLine-invalid, ReadsLine-known}
use Rattle.buffer_redux.specs.ReaderLaws.{ReadsInOrder-none}
use Rattle.buffer_redux.proofs.Searching.{first_through}
use Rattle.buffer_redux.proofs.UntilSteps.{Shows, reaches, shows_none, stopped, through_length}
use Rattle.buffer_redux.proofs.Utf8Fronts.{never_line}
use Rattle.buffer_redux.proofs.buf_reader.BufReader.read_line.Goals as goal
use Rattle.buffer_redux.proofs.buf_reader.BufReader.read_line.Goals.{In-Some}

-- a line feed is buffered
first_feed : (g : _) (c : goal.In-Some g) → FirstAt 10 c.in-Some.at c.args.self.now.block.bytes
first_feed g c = subst (FirstAt 10 c.in-Some.at) (c.buf.ensures ∙ ap (λ x. x.block.bytes) c.self.view_is)
    c.in-Some.ensures.found

-- nothing was handed out before
none_before : (g : _) (c : goal.In-Some g) → Shows g.R.TellRead.remaining g.P.ReaderPolicy.rules
    (FillsOn IsPart g.R.TellRead.remaining g.P.ReaderPolicy.rules) 10 c.args.self.now [] c.args.self.now
none_before g c = shows_none _ _ 10 c.args.self.now (subst (λ x. IsBlock x.block) c.self.view_is c.self.invariant)

pub returns-in_err-n-in-Some-clause-line : goal.returns-in_err-n-in-Some-clause-line
returns-in_err-n-in-Some-clause-line g c =
    let at = (goal.at.returns-in_err-n-in-Some-clause-line g c).In-Some in
    let s = c.args.self.now in
    let e = c.in_err-n-in-Some.field-0.0 in
    let a = c.in_err-n-in-Some.ensures.appends in
    let p = err_from_is_err_and c.from_residual.result c.from_residual.ensures.1 in
    let first = first_feed g at in
    let why : no_text [] e (take (c.in-Some.at + 1) s.block.bytes) = elim a.2 [
      | inl refused ↦ inl (refused.0, omega (arith, through_length 10 c.in-Some.at s.block.bytes first))
      | inr bad ↦ inr (bad.0, never_line c.in-Some.at s.block.bytes first bad.1)
    ] in
    let ends = stopped _ _ 10 s s [] (none_before g at) no_text c.in-Some.at e c.append_line.new.self first a.1 why in
    rw (p.1, p.2) (record {
      handed = [];
      appended = a.0 ∙ sym (append-nil _);
      text = IsUtf8-nil;
      front = ends.0;
      ends = ends.1;
      count = tt;
      buffered = λ some. (c.in-Some.at, first, a);
    })

pub returns-in_ok-n-in-Some-clause-line : goal.returns-in_ok-n-in-Some-clause-line
returns-in_ok-n-in-Some-clause-line g c =
    let at = (goal.at.returns-in_ok-n-in-Some-clause-line g c).In-Some in
    let s = c.args.self.now in
    let a = c.in_ok-n-in-Some.ensures.appends in
    let first = first_feed g at in record {
      handed = take (c.in-Some.at + 1) s.block.bytes;
      appended = a.0.0;
      text = a.1;
      front = a.0.1;
      ends = inl (reaches _ _ 10 s s [] (none_before g at) c.in-Some.at c.append_line.new.self first a.0.2);
      count = c.in_ok-n-in-Some.ensures.count ∙ sym (through_length 10 c.in-Some.at s.block.bytes first);
      buffered = λ some. (c.in-Some.at, first, a);
    }

pub returns-in_ok-n-in-Some-clause-bytes : goal.returns-in_ok-n-in-Some-clause-bytes
returns-in_ok-n-in-Some-clause-bytes g c =
    ReadsLine-known _ _ c.args.self.now _ _ _ c.append_line.new.self (returns-in_ok-n-in-Some-clause-line g c)

pub returns-in-None-clause-bytes : goal.returns-in-None-clause-bytes
returns-in-None-clause-bytes g c =
    ReadsLine-known _ _ c.args.self.now _ _ _ c.read_line_apart.new.self c.read_line_apart.ensures.line

pub returns-in_err-n-in-Some-clause-invalid : goal.returns-in_err-n-in-Some-clause-invalid
returns-in_err-n-in-Some-clause-invalid g c =
    ReadsLine-invalid _ _ c.args.self.now _ _ _ c.append_line.new.self (returns-in_err-n-in-Some-clause-line g c)

pub returns-in-None-clause-invalid : goal.returns-in-None-clause-invalid
returns-in-None-clause-invalid g c =
    ReadsLine-invalid _ _ c.args.self.now _ _ _ c.read_line_apart.new.self c.read_line_apart.ensures.line

pub returns-in_err-n-in-Some-clause-appended : goal.returns-in_err-n-in-Some-clause-appended
returns-in_err-n-in-Some-clause-appended g c =
    let a = c.in_err-n-in-Some.ensures.appends in
    let p = err_from_is_err_and c.from_residual.result c.from_residual.ensures.1 in
    let none = subst (ReadsInOrder c.args.self.now []) (sym a.1) (ReadsInOrder-none c.args.self.now) in
    rw p.1 ([], a.0 ∙ sym (append-nil _), none, tt)

pub returns-in_err-n-in-Some-clause-full : goal.returns-in_err-n-in-Some-clause-full
returns-in_err-n-in-Some-clause-full g c =
    let s = c.args.self.now in
    let p = err_from_is_err_and c.from_residual.result c.from_residual.ensures.1 in
    let first = first_feed g (goal.at.returns-in_err-n-in-Some-clause-full g c).In-Some in
    rw (p.1, p.2) (λ kind. inr (omega (
      arith,
      c.in_err-n-in-Some.ensures.full kind,
      through_length 10 c.in-Some.at s.block.bytes first,
      ap length (first_through 10 c.in-Some.at s.block.bytes first),
      ap (λ x. length (take_through 10 x.block.bytes)) c.in_err-n-in-Some.ensures.appends.1,
    )))
