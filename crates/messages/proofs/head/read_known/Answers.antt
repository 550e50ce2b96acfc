-- A text reads as one head, so what is found in its spans is said of that head.
use Rattle.std.proofs.Common.{◌≡◌, ◌↔◌, ◌∙◌, ◌≤◌, [], length, ap, arith, inl, inr, sym, map, take, Some}
use Rattle.messages.specs.Names.{known_fields, known_of, method_kind, ReadsRequest, request_unique, RequestHead, Extent, header_bytes, name_and_value}
use Rattle.messages.specs.Faults.{IsFew}
use Rattle.messages.specs.Heads.{SaysPlainly}
use Rattle.messages.proofs.Spans.{fields_counted, reads_whole}
use Rattle.messages.proofs.head.read_known.Goals.{After-plain_extent}
use Rattle.messages.proofs.head.read_known.Goals as goal

pub returns-then-spans-fields_of : goal.returns-then-spans-fields_of
returns-then-spans-fields_of c =
    let found = rw c.in-Ok-Complete.field-0-is at c.in-Ok-Complete.ensures.complete in
    let within = rw c.in-Ok-Complete.field-0-is at c.in-Ok-Complete.ensures.within in
    let more : (h : RequestHead) → ReadsRequest c.args.head.now h [] → length h.fields ≤ c.fields_of.result → ⊥ =
    λ h reads few. omega (
      arith,
      c.if-spans-fields_of.true,
      few,
      ap (λ h. length h.fields) (request_unique c.args.head.now found.0 h _ [] found.1.reads reads).0,
      fields_counted found.1 within.section.count_fits,
    ) in
    record {
      head = tt;
      none = λ said is. more is.head is.reads (omega (arith, is.few, c.fields_of.ensures));
      fault = inr (
        λ h few. more h few.0 (omega (arith, few.1, c.fields_of.ensures)),
        c.text_fault-then-spans-fields_of.ensures,
      );
    }

-- what was found in the spans is said of the one head that the text is
found : (c : After-plain_extent) → (h : RequestHead) × IsFew c.args.limits c.args.head.now h
    × (c.of-method.result ≡ method_kind h.method) × (c.in-Ok-Complete.spans.version ≡ h.minor)
    × (c.from_spans-known.result ≡ known_of h.fields)
    × (map (header_bytes c.args.head.now) (take c.in-Ok-Complete.spans.headers c.parse_request.new.headers)
    ≡ map name_and_value h.fields)
    × ((extent : Extent) → c.plain_extent.result ≡ Some extent
    ↔ SaysPlainly h.method h.target h.minor (map name_and_value h.fields) (known_of h.fields) extent)
found c =
    let (h, at) = rw c.in-Ok-Complete.field-0-is at c.in-Ok-Complete.ensures.complete in
    let within = rw c.in-Ok-Complete.field-0-is at c.in-Ok-Complete.ensures.within in
    let count = fields_counted at within.section.count_fits in
    let method = c.of-name.ensures ∙ at.method in
    let target = c.of-target.ensures ∙ at.path in
    let known = c.from_spans-known.ensures ∙ ap known_fields at.fields in (
      h,
      (reads_whole at c.if-spans-head.false, omega (arith, c.fields_of.ensures, c.if-spans-fields_of.false, count)),
      c.of-method.ensures ∙ ap method_kind method,
      at.version,
      known,
      at.fields,
      λ extent. rw (← method, ← target, ← at.version, ← known, ← at.fields)
          (c.plain_extent.ensures _ extent c.look_at_fields-hosts.ensures.hosts),
    )

pub returns-in-None : goal.returns-in-None
returns-in-None c =
    let (h, few, kind, minor, known, fields, plain) = found (goal.at.returns-in-None c).After-plain_extent in
    record {
      head = tt;
      none = λ said is.
          let same = (request_unique c.args.head.now h is.head [] [] few.0 is.reads).0 in
          let odd = sym c.in-None.is ∙ (plain said.extent).1 (rw same is.plain) in
          cc;
      fault = inl (h, few, c.said_fault.ensures ∙ cc (kind, minor, known));
    }

pub returns-in-Some-clause-head : goal.returns-in-Some-clause-head
returns-in-Some-clause-head c =
    let (h, few, kind, minor, known, fields, plain) = found (goal.at.returns-in-Some-clause-head c).After-plain_extent in
    record {
      head = h;
      reads = few.0;
      few = few.1;
      plain = (plain c.in-Some.extent).0 c.in-Some.is;
      bare = rw kind at c.is_bare.ensures;
      keeps = c.keeps.ensures ∙ cc (minor, known);
      expects = c.expects.ensures ∙ cc (minor, known);
      met = rw fields at c.look_at_fields-hosts.ensures.met;
    }
