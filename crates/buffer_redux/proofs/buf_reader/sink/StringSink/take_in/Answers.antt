-- Where memory was refused, there was no room for a part of the bytes.
use Rattle.std.proofs.Common.{◌<◌, ◌+◌, sym, arith, append-nil, ap, drop, length, length-append, string_capacity, string_len, refl, inl, ◌∙◌}
use Rattle.std.proofs.lemmas.Result.{err_from_is_err_and}
use Rattle.std.proofs.lemmas.Str.{IsUtf8-nil}
use Rattle.buffer_redux.proofs.buf_reader.sink.StringSink.take_in.Goals as goal

pub returns-in_err-push_str-clause-refused : goal.returns-in_err-push_str-clause-refused
returns-in_err-push_str-clause-refused g c =
    let p = err_from_is_err_and c.from_residual.result c.from_residual.ensures.1 in
    let e = c.in_err-push_str.ensures in
    let all : string_capacity c.args.self.now < string_len c.push_str.new.self + length c.args.bytes.now =
    omega (
      arith,
      e.full,
      e.len,
      ap length c.in-Some.ensures.front.0,
      length-append c.in-Some.text.now (drop (length c.in-Some.text.now) c.args.bytes.now),
    ) in
    rw (p.1, p.2) (
      (e.bytes ∙ sym (append-nil _), IsUtf8-nil, e.capacity),
      (inl (refl, omega (arith, all, c.args.self.now.bytes.ok.1)), λ kind. all),
    )
