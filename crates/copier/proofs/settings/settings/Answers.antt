-- A word that names a buffer is no capacity, and names one only, so words ask for one thing at most.
use Rattle.std.proofs.Common.{◌≡◌, arith, sym, string_bytes, None}
use Rattle.copier.proofs.SettingsFacts.{unnamed, tells_named, tells_none_alone, tells_none_named, tells_both, map_one, map_two}
use Rattle.copier.proofs.settings.settings.Goals as goal

pub returns-in_err-capacity-in-None : goal.returns-in_err-capacity-in-None
returns-in_err-capacity-in-None c =
    let none : c.from_residual.result ≡ None = c.from_residual.ensures in
    let no_name = unnamed c.as_str.result.now c.buffer.result c.buffer.ensures c.in-None.is in
    rw (none, map_one string_bytes c.args.words.now c.word-item.result (omega arith) (omega arith) c.word-item.is)
    (tells_none_alone (string_bytes c.word-item.result) (rw (sym c.as_str.ensures.value) no_name)
    (rw (sym c.as_str-in-None.ensures.value) c.in_err-capacity-in-None.ensures))

pub returns-in-Some : goal.returns-in-Some
returns-in-Some c =
    rw (map_one string_bytes c.args.words.now c.word-item.result (omega arith) (omega arith) c.word-item.is)
    (tells_named (string_bytes c.word-item.result) c.in-Some.ring
    (rw (sym c.as_str.ensures.value) ((c.buffer.ensures c.in-Some.ring).0 c.in-Some.is)))

pub returns-in_err-buffer-in-len2 : goal.returns-in_err-buffer-in-len2
returns-in_err-buffer-in-len2 c =
    let none : c.from_residual-in_err-buffer-in-len2.result ≡ None =
    c.from_residual-in_err-buffer-in-len2.ensures in
    let no_name = unnamed c.as_str-in-len2.result.now c.buffer-in-len2.result c.buffer-in-len2.ensures
    c.in_err-buffer-in-len2.was in
    rw (
      none,
      map_two string_bytes c.args.words.now c.first-item.result c.last-item.result (omega arith) (omega arith)
          c.first-item.is c.last-item.is,
    )
    (tells_none_named (string_bytes c.first-item.result) (string_bytes c.last-item.result)
    (rw (sym c.as_str-in-len2.ensures.value) no_name))

pub returns-in_ok-capacity-in-len2 : goal.returns-in_ok-capacity-in-len2
returns-in_ok-capacity-in-len2 c =
    let is = c.in_ok-capacity-in-len2.ensures in
    rw (map_two string_bytes c.args.words.now c.first-item.result c.last-item.result (omega arith) (omega arith)
    c.first-item.is c.last-item.is)
    (tells_both (string_bytes c.first-item.result) (string_bytes c.last-item.result) c.in_ok-buffer-in-len2.field-0
    c.in_ok-capacity-in-len2.field-0
    (rw (sym c.as_str-in-len2.ensures.value)
    ((c.buffer-in-len2.ensures c.in_ok-buffer-in-len2.field-0).0 c.in_ok-buffer-in-len2.was))
    (rw (sym c.as_str-in-len2-2.ensures.value) is.0) (rw (sym c.as_str-in-len2-2.ensures.value) is.1))
