-- The bytes that were read so far lead to where the header stands, so each byte goes on from there.
use Rattle.std.proofs.Common.{◌≡◌, ℕ, ◌<◌, ◌+◌, ◌-◌, ◌∙◌, List, ap, arith, drop, get_or, length, length-drop, subst, sym, take}
use Rattle.std.proofs.lemmas.List.{get_or-drop, get_or-take, take-append-drop}
use Rattle.codec.specs.Scanning.{scan_notes, scanned}
use Rattle.codec.specs.ScanningLaws.{scanned_headers}
use Rattle.codec.proofs.Scanning.{scans_from, scans_more, scans_says, scans_short}
use Rattle.piece_reader.specs.declared.header.Header.TheVariants.{Sized}
use Rattle.codec.proofs.scan.scan_header.Goals as goal

-- what is read: the bytes behind those that were
abbrev ahead : List ℕ → ℕ → List ℕ
ahead bytes seen = take (length bytes - seen) (drop seen bytes)

-- a byte of it, where it stands among them all
next_byte : (bytes : List ℕ) (seen used at : ℕ) → used ≡ seen + at → used < length bytes
    → get_or (ahead bytes seen) at 0 ≡ get_or bytes used 0
next_byte bytes seen used at is inside =
    get_or-take (length bytes - seen) (drop seen bytes) at 0 (omega (arith, is, inside))
    ∙ get_or-drop seen bytes at 0 ∙ ap (λ i. get_or bytes i 0) (sym is)

-- a header that was whole before says the same of more bytes
still : (g : _) (c : goal.In-Whole g)
    → (scanned (g.S.Scan.scanning c.args.protocol.now)).header c.args.bytes.now ≡ Sized c.in-Whole.len c.in-Whole.used
still g c =
    let s = g.S.Scan.scanning c.args.protocol.now in
    let seen = c.args.seen in
    let bytes = c.args.bytes.now in
    ap (scanned s).header (sym (take-append-drop seen bytes))
    ∙ (scanned_headers s (g.met.S.Scan.small c.args.protocol.now)).sized (take seen bytes) (drop seen bytes) c.in-Whole.len
    c.in-Whole.used (subst (scan_notes s (take seen bytes)) c.in-Whole.is c.requires.noted)

pub returns-in-Whole-clause-says : goal.returns-in-Whole-clause-says
returns-in-Whole-clause-says g c = sym (still g c)

pub returns-in-Whole-clause-leaves : goal.returns-in-Whole-clause-leaves
returns-in-Whole-clause-leaves g c =
    subst (scan_notes (g.S.Scan.scanning c.args.protocol.now) c.args.bytes.now) (sym c.in-Whole.is) (still g c)

pub loop-byte-init : goal.loop-byte-init
loop-byte-init g c =
    let s = g.S.Scan.scanning c.args.protocol.now in
    let noted = subst (scan_notes s (take c.args.seen c.args.bytes.now)) c.in-Within.is c.requires.noted in
    (scans_from _ _ _ _ c.in-Within.state c.args.seen c.requires.within noted.0 noted.1, omega arith)

pub returns-in-Sized-clause-says : goal.returns-in-Sized-clause-says
returns-in-Sized-clause-says g c =
    let so = c.loop-byte.invariant in
    let inside : c.loop-byte.used < length c.args.bytes.now =
    omega (arith, so.1, c.loop-byte-test.true, length-drop c.args.seen c.args.bytes.now) in
    sym (scans_says _ _ _ _ _ c.loop-byte.used so.0 (get_or (ahead c.args.bytes.now c.args.seen) c.loop-byte.byte-index 0) 0
    inside (next_byte c.args.bytes.now c.args.seen c.loop-byte.used c.loop-byte.byte-index so.1 inside)
    (λ is. c.if-used-most.false (is ∙ sym c.most_header-most.ensures)) _ (sym c.turn.ensures ∙ c.in-Sized.is))

pub returns-in-Sized-clause-leaves : goal.returns-in-Sized-clause-leaves
returns-in-Sized-clause-leaves g c = sym (returns-in-Sized-clause-says g c)

pub returns-in-Bad-clause-says : goal.returns-in-Bad-clause-says
returns-in-Bad-clause-says g c =
    let so = c.loop-byte.invariant in
    let inside : c.loop-byte.used < length c.args.bytes.now =
    omega (arith, so.1, c.loop-byte-test.true, length-drop c.args.seen c.args.bytes.now) in
    sym (scans_says _ _ _ _ _ c.loop-byte.used so.0 (get_or (ahead c.args.bytes.now c.args.seen) c.loop-byte.byte-index 0) 0
    inside (next_byte c.args.bytes.now c.args.seen c.loop-byte.used c.loop-byte.byte-index so.1 inside)
    (λ is. c.if-used-most.false (is ∙ sym c.most_header-most.ensures)) _ (sym c.turn.ensures ∙ c.in-Bad.is))

pub loop-byte-preserved : goal.loop-byte-preserved
loop-byte-preserved g c =
    let so = c.loop-byte.invariant in
    let inside : c.loop-byte.used < length c.args.bytes.now =
    omega (arith, so.1, c.loop-byte-test.true, length-drop c.args.seen c.args.bytes.now) in (
      scans_more _ _ _ _ _ c.loop-byte.used so.0 (get_or (ahead c.args.bytes.now c.args.seen) c.loop-byte.byte-index 0) 0
          inside (next_byte c.args.bytes.now c.args.seen c.loop-byte.used c.loop-byte.byte-index so.1 inside)
          (λ is. c.if-used-most.false (is ∙ sym c.most_header-most.ensures)) _ (sym c.turn.ensures ∙ c.in-More.is),
      omega (arith, so.1),
    )

pub returns-clause-says : goal.returns-clause-says
returns-clause-says g c =
    let so = c.loop-byte.invariant in
    sym (scans_short _ _ _ _ _ c.loop-byte.used so.0
    (omega (arith, so.1, c.loop-byte-test.false, length-drop c.args.seen c.args.bytes.now))
    (λ is. c.if-used-most-2.false (is ∙ sym c.most_header-most.ensures)))
