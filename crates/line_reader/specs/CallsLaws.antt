-- Any calls hand out and skip whole lines of the stream: what they do joins, and what each of them does.
use Rattle.std.specs.Prelude.{◌+◌, ◌≡◌, ℕ, ◌<◌, ◌≤◌, ◌⊎◌, List, [], ◌∷◌, ◌++◌, length, true, false, Bool, MatchBool, Option, None, Some, Result, Ok, Err}
use Rattle.std.proofs.Common.{sym, ap, subst, ◌∙◌, arith, refl, inl, inr, append-nil, append_assoc, length-append}
use Rattle.std.proofs.lemmas.List.Elements.{All-nil, All-append}
use Rattle.std.proofs.lemmas.List.Sums.{sum_by-append}
use Rattle.std.specs.List.{sum_by}
use Rattle.std.specs.declared.io.Error.{Error}
use Rattle.piece_reader.specs.DelimitedLaws.{isnt_end}
use Rattle.piece_reader.specs.NextPiece.{MetEnd, PiecesWent, empty_reads}
use Rattle.piece_reader.specs.PiecesWentLaws.{PiecesWent-joins, PiecesWent-unasked}
use Rattle.piece_reader.specs.PieceReader.{ReaderState, rest}
use Rattle.piece_reader.specs.StaysLeftLaws.{StaysLeft-went}
use Rattle.piece_reader.specs.Trimming.{IsTrimmed}
use Rattle.line_reader.specs.declared.error.LineError.TheVariants.{TooLong, Io}
use Rattle.line_reader.specs.Calls.{Handed, Skipped, Ended, Event, LinesAlong, CutsInto, EndNext, Shows, event_ends, events_of, pending}
use Rattle.line_reader.specs.declared.line.Lines.{Lines}
use Rattle.line_reader.specs.Lines.{IsLine, newline, with_newline}
use Rattle.line_reader.specs.LineReader.{LineState, lined}
use Rattle.line_reader.specs.NextLine.{LineAnswer, NextBufferedLine, Trims}
use Rattle.line_reader.specs.NextLineLaws.{IsHanded-fits, NextOpen, same_none}
use Rattle.line_reader.specs.SkipLine.{SkipsLine}

pub no_line : IsLine []
no_line = All-nil (isnt_end newline)

nil_front : (a b : List ℕ) → a ++ b ≡ [] → a ≡ []
nil_front [] b is = refl
nil_front (x ∷ a) b is = cc

-- what is left of a line that is being skipped is the beginning of one
pub CutsInto-after : (ended : Bool) (events : List Event) (after bytes : List ℕ) → CutsInto ended events after bytes
    → IsLine after
CutsInto-after ended [] after bytes (plain, same) = subst IsLine same plain
CutsInto-after ended (Handed trims shown ∷ events) after bytes (line, more, plain, begins, cut) =
    CutsInto-after ended events after more cut
CutsInto-after ended (Skipped line ∷ events) after bytes (more, plain, begins, cut) =
    CutsInto-after ended events after more cut
CutsInto-after ended (Ended ∷ events) after bytes cut = CutsInto-after ended events after bytes cut

-- what is cut joins: an end of the stream that no event has told is told by the next
module _ (was is : Bool) (later : List Event) (told : was ≡ true → EndNext is later) where
  end_joins : (events : List Event) → EndNext was events → EndNext is (events ++ later)
  end_joins [] ended = told ended
  end_joins (Handed trims shown ∷ events) ended = absurd ended
  end_joins (Skipped line ∷ events) ended = absurd ended
  end_joins (Ended ∷ events) ended = tt

  module _ (mid after more : List ℕ) (then : CutsInto is later after (mid ++ more)) where
    with_joins : (line bytes rest : List ℕ) → bytes ≡ with_newline line ++ rest
        → bytes ++ more ≡ with_newline line ++ (rest ++ more)
    with_joins line bytes rest is = ap (λ l. l ++ more) is ∙ append_assoc (with_newline line) rest more

    without_joins : (events : List Event) (line bytes rest : List ℕ)
        → (bytes ≡ line ++ rest) × (0 < length line) × EndNext was events
        → (bytes ++ more ≡ line ++ (rest ++ more)) × (0 < length line) × EndNext is (events ++ later)
    without_joins events line bytes rest (is, some, ended) =
        (ap (λ l. l ++ more) is ∙ append_assoc line rest more, some, end_joins events ended)

    cuts_join : (events : List Event) (bytes : List ℕ) → CutsInto was events mid bytes
        → CutsInto is (events ++ later) after (bytes ++ more)
    cuts_join [] bytes (plain, same) = subst (λ l. CutsInto is later after (l ++ more)) (sym same) then
    cuts_join (Handed trims shown ∷ events) bytes (line, rest, plain, inl (whole, shows), cut) =
        (line, rest ++ more, plain, inl (with_joins line bytes rest whole, shows), cuts_join events rest cut)
    cuts_join (Handed trims shown ∷ events) bytes (line, rest, plain, inr (last, same), cut) =
        (line, rest ++ more, plain, inr (without_joins events line bytes rest last, same), cuts_join events rest cut)
    cuts_join (Skipped line ∷ events) bytes (rest, plain, inl whole, cut) =
        (rest ++ more, plain, inl (with_joins line bytes rest whole), cuts_join events rest cut)
    cuts_join (Skipped line ∷ events) bytes (rest, plain, inr last, cut) =
        (rest ++ more, plain, inr (without_joins events line bytes rest last), cuts_join events rest cut)
    cuts_join (Ended ∷ events) bytes cut = cuts_join events bytes cut

-- an end that was met is told, or is to be
met_once : (was : Bool) (before after : ℕ) → MatchBool was (after ≡ before) (after ≡ before + 1)
    → before + 1 ≤ after + pending was
met_once true before after same = omega (arith, same)
met_once false before after one = omega (arith, one)

module _ {S : Type 0} (remaining : S → Option (List ℕ)) (s t : LineState S) (bytes : List ℕ)
    (went : PiecesWent remaining (1 + s.pieces.decoder.max) s.pieces bytes t.pieces) where
  no_end : (events : List Event) → sum_by event_ends events ≡ 0 → t.pieces.ended ≡ false
      → sum_by event_ends events + pending t.pieces.ended + empty_reads s.pieces.reader
      ≤ empty_reads t.pieces.reader + pending s.pieces.ended
  no_end events none going = omega (arith, none, ap pending going, went.grows.zero_reads)

  one_end : (events : List Event) → sum_by event_ends events ≡ 0 → t.pieces.ended ≡ true → MetEnd s.pieces t.pieces
      → sum_by event_ends events + pending t.pieces.ended + empty_reads s.pieces.reader
      ≤ empty_reads t.pieces.reader + pending s.pieces.ended
  one_end events none ended met = omega (
    arith,
    none,
    ap pending ended,
    met_once s.pieces.ended (empty_reads s.pieces.reader) (empty_reads t.pieces.reader) met,
  )

module _ {S : Type 0} (remaining : S → Option (List ℕ)) where
  -- calls join, since the lines stay as long
  pub lines_join : (s m t : ReaderState S Lines) (h k : List ℕ) → PiecesWent remaining (1 + s.decoder.max) s h m
      → PiecesWent remaining (1 + m.decoder.max) m k t → PiecesWent remaining (1 + s.decoder.max) s (h ++ k) t
  lines_join s m t h k p q = PiecesWent-joins remaining (1 + s.decoder.max) s m t h k p
      (subst (λ d. PiecesWent remaining (1 + d.max) m k t) p.decoder q)

  -- nothing was handed out, told or skipped
  pub LinesAlong-still : (s t : LineState S) (before : List ℕ) → IsLine before → (t.skipping ≡ false → before ≡ [])
      → PiecesWent remaining (1 + s.pieces.decoder.max) s.pieces [] t.pieces → t.pieces.ended ≡ s.pieces.ended
      → LinesAlong remaining before s [] before t
  LinesAlong-still s t before plain closed went same = record {
    bytes = [];
    went = went;
    cut = (subst IsLine (sym (append-nil before)) plain, append-nil before);
    closed = closed;
    told = λ ended. same ∙ ended;
    ends = omega (arith, ap pending same, went.grows.zero_reads);
  }

  pub LinesAlong-joins : (s m t : LineState S) (before mid after : List ℕ) (first later : List Event)
      → LinesAlong remaining before s first mid m → LinesAlong remaining mid m later after t
      → LinesAlong remaining before s (first ++ later) after t
  LinesAlong-joins s m t before mid after first later p q = record {
    bytes = p.bytes ++ q.bytes;
    went = lines_join s.pieces m.pieces t.pieces p.bytes q.bytes p.went q.went;
    cut = subst (CutsInto t.pieces.ended (first ++ later) after) (append_assoc before p.bytes q.bytes)
        (cuts_join m.pieces.ended t.pieces.ended later q.told mid after q.bytes q.cut first (before ++ p.bytes) p.cut);
    closed = q.closed;
    told = λ ended. end_joins m.pieces.ended t.pieces.ended later q.told first (p.told ended);
    ends = omega (arith, p.ends, q.ends, sum_by-append event_ends first later);
  }

-- a call of `next` where no line is being skipped
module _ {S : Type 0} (remaining : S → Option (List ℕ)) (s t : LineState S) where
  nothing : (answer : LineAnswer) (n : NextOpen remaining s answer t) → n.0.bytes ≡ [] → t.pieces.ended ≡ false
      → ¬ (answer ≡ Ok None) → LinesAlong remaining [] s [] [] t
  nothing answer n none going isnt = record {
    bytes = n.0.bytes;
    went = n.0.went;
    cut = (subst IsLine (sym none) no_line, none);
    closed = λ open'. refl;
    told = λ ended. absurd (isnt (same_none answer (n.0.told ended)));
    ends = no_end remaining s t n.0.bytes n.0.went [] refl going;
  }

  -- a line was handed out, and shown so
  shown_along : (trims : Bool) (line shown : List ℕ) → NextOpen remaining s (Ok (Some line)) t
      → (t.pieces.ended ≡ false → Shows trims line shown) → (t.pieces.ended ≡ true → shown ≡ line)
      → LinesAlong remaining [] s (Handed trims shown ∷ []) [] t
  shown_along trims line shown n shows last = record {
    bytes = n.0.bytes;
    went = n.0.went;
    cut = (
      line,
      [],
      (IsHanded-fits s.pieces.decoder.max s.pieces t.pieces line n.0.bytes n.0.answers.1).plain,
      elim n.0.answers.1 [
        | inl (is, going, none) ↦ inl (is.2 ∙ sym (append-nil (with_newline line)), shows going)
        | inr (is, part, some, none, ended, met) ↦
            inr ((sym is ∙ sym (append-nil line), omega (arith, some, ap length is), ended), last ended)
      ],
      (no_line, refl),
    );
    closed = λ open'. refl;
    told = λ ended. (let odd : Ok (Some line) ≡ Ok None = same_none (Ok (Some line)) (n.0.told ended) in cc);
    ends = elim n.0.answers.1 [
      | inl (is, going, none) ↦ no_end remaining s t n.0.bytes n.0.went (Handed trims shown ∷ []) refl going
      | inr (is, part, some, none, ended, met) ↦ one_end remaining s t n.0.bytes n.0.went (Handed trims shown ∷ []) refl ended met
    ];
  }

  pub NextLine-along : (answer : LineAnswer) → NextOpen remaining s answer t
      → LinesAlong remaining [] s (events_of false answer) [] t
  NextLine-along (Ok (Some line)) n = shown_along false line line n (λ _. refl) (λ _. refl)
  NextLine-along (Ok None) n = record {
    bytes = n.0.bytes;
    went = n.0.went;
    cut = (subst IsLine (sym n.0.answers.0) no_line, n.0.answers.0);
    closed = λ open'. refl;
    told = λ ended. tt;
    ends = omega (
      arith,
      ap pending n.0.answers.3,
      met_once s.pieces.ended (empty_reads s.pieces.reader) (empty_reads t.pieces.reader) n.0.answers.4,
    );
  }
  NextLine-along (Err (TooLong most)) n =
      nothing (Err (TooLong most)) n n.0.answers.0 n.0.answers.2 (λ is. (let odd : Err (TooLong most) ≡ Ok None = is in cc))
  NextLine-along (Err (Io e)) n =
      nothing (Err (Io e)) n n.0.answers.0 n.0.answers.3 (λ is. (let odd : Err (Io e) ≡ Ok None = is in cc))

  -- a call of `next_buffered`; where it finds none nothing is done, also of a line that is being skipped
  pub NextBufferedLine-along : (line : List ℕ) → NextBufferedLine remaining s (Some line) t
      → LinesAlong remaining [] s (Handed false line ∷ []) [] t
  NextBufferedLine-along line n = NextLine-along (Ok (Some line)) (n.piece.0, n.skipping ∙ n.open')

  pub NextBufferedLine-stays : (before : List ℕ) → IsLine before → (s.skipping ≡ false → before ≡ [])
      → NextBufferedLine remaining s None t → LinesAlong remaining before s [] before t
  NextBufferedLine-stays before plain closed n = LinesAlong-still remaining s t before plain
      (λ open'. closed (sym n.skipping ∙ open'))
      (StaysLeft-went remaining (lined s.pieces.decoder.max) s.pieces t.pieces n.piece.0)
      (ap (λ x. x.ended) n.piece.0.same)

  -- a call of `next_trimmed` where no line is being skipped
  pub Trims-along : (whole answer : LineAnswer) → NextOpen remaining s whole t → Trims whole answer t.pieces.ended
      → LinesAlong remaining [] s (events_of true answer) [] t
  Trims-along (Ok (Some line)) (Ok (Some shown)) n trims =
      let Said : Bool → Type 0 = λ b. MatchBool b (shown ≡ line) (IsTrimmed line shown) in
      shown_along true line shown n (λ going. subst Said going trims) (λ ended. subst Said ended trims)
  Trims-along (Ok (Some line)) (Ok None) n trims = absurd trims
  Trims-along (Ok (Some line)) (Err e) n trims = absurd trims
  Trims-along (Ok None) answer n trims =
      subst (λ a. LinesAlong remaining [] s (events_of true a) [] t) (sym trims) (NextLine-along (Ok None) n)
  Trims-along (Err e) answer n trims =
      subst (λ a. LinesAlong remaining [] s (events_of true a) [] t) (sym trims) (NextLine-along (Err e) n)

-- a line was skipped, or what was left of one; of one that was being skipped nothing may be left at the end of the stream
abbrev pub IsSkip : List Event → Type 0
IsSkip events = ((line : List ℕ) × (events ≡ Skipped line ∷ [])) ⊎ (events ≡ [])

-- a call of `skip_line`, or the part of another call that goes on skipping, behind so many bytes of the line
module _ {S : Type 0} (remaining : S → Option (List ℕ)) (s t : LineState S) (before : List ℕ) (plain : IsLine before)
    (closed : s.skipping ≡ false → before ≡ [])
    (empty : s.pieces.ended ≡ true → (rest s.pieces ≡ []) × (s.skipping ≡ false)) where
  -- behind the end of the stream nothing is dropped
  unasked : (answer : Result ℕ Error) (k : SkipsLine remaining s answer t) → s.pieces.ended ≡ true
      → (k.drops.bytes ≡ []) × (t.pieces.reader.log ≡ s.pieces.reader.log)
  unasked answer k ended =
      let told : t.pieces.reader.log ≡ s.pieces.reader.log = elim k.drops.asked [
        | inl same ↦ same
        | inr over ↦ (let odd : true ≡ false = sym ended ∙ over.0 in cc)
      ] in
      let same = PiecesWent-unasked remaining _ s.pieces t.pieces k.drops.bytes k.drops.went told ∙ (empty ended).0 in
      (nil_front k.drops.bytes (rest t.pieces) same, told)

  -- the stream has ended before, so nothing was skipped
  told_skip : (answer : Result ℕ Error) (k : SkipsLine remaining s answer t) → s.pieces.ended ≡ true
      → ¬ (0 < length (before ++ k.drops.bytes))
  told_skip answer k ended some = omega (
    arith,
    some,
    length-append before k.drops.bytes,
    ap length (closed (empty ended).1),
    ap length (unasked answer k ended).0,
  )

  -- through the end of the line
  pub skip_whole : (count : ℕ) (k : SkipsLine remaining s (Ok count) t) → t.pieces.ended ≡ false → (line : List ℕ) → IsLine line
      → k.drops.bytes ≡ with_newline line → LinesAlong remaining before s (Skipped (before ++ line) ∷ []) [] t
  skip_whole count k going line is_line equal =
      let all : before ++ k.drops.bytes ≡ with_newline (before ++ line) ++ [] =
      ap (λ l. before ++ l) equal ∙ sym (append_assoc before line (newline ∷ []))
      ∙ sym (append-nil (with_newline (before ++ line))) in
      record {
        bytes = k.drops.bytes;
        went = k.drops.went;
        cut = ([], All-append (isnt_end newline) before line plain is_line, inl all, (no_line, refl));
        closed = λ open'. refl;
        told = λ ended. told_skip (Ok count) k ended (omega (
          arith,
          length-append before k.drops.bytes,
          ap length equal,
          length-append line (newline ∷ []),
        ));
        ends = no_end remaining s t k.drops.bytes k.drops.went (Skipped (before ++ line) ∷ []) refl going;
      }

  -- the last line, which has none
  pub skip_last : (count : ℕ) (k : SkipsLine remaining s (Ok count) t) → IsLine k.drops.bytes → t.pieces.ended ≡ true
      → MetEnd s.pieces t.pieces → 0 < length (before ++ k.drops.bytes)
      → LinesAlong remaining before s (Skipped (before ++ k.drops.bytes) ∷ []) [] t
  skip_last count k line ended met some = record {
    bytes = k.drops.bytes;
    went = k.drops.went;
    cut = (
      [],
      All-append (isnt_end newline) before k.drops.bytes plain line,
      inr (sym (append-nil (before ++ k.drops.bytes)), some, ended),
      (no_line, refl),
    );
    closed = λ open'. refl;
    told = λ over. told_skip (Ok count) k over some;
    ends = one_end remaining s t k.drops.bytes k.drops.went (Skipped (before ++ k.drops.bytes) ∷ []) refl ended met;
  }

  -- nothing, at the end of the stream
  skip_none : (count : ℕ) (k : SkipsLine remaining s (Ok count) t) → t.pieces.ended ≡ true → MetEnd s.pieces t.pieces
      → before ++ k.drops.bytes ≡ [] → LinesAlong remaining before s [] [] t
  skip_none count k ended met none = record {
    bytes = k.drops.bytes;
    went = k.drops.went;
    cut = (subst IsLine (sym none) no_line, none);
    closed = λ open'. refl;
    told = λ over. ended;
    ends = one_end remaining s t k.drops.bytes k.drops.went [] refl ended met;
  }

  -- any of these
  pub skip_along : (count : ℕ) → SkipsLine remaining s (Ok count) t
      → (events : List Event) × IsSkip events × LinesAlong remaining before s events [] t
  skip_along count k = elim k.drops.answers.2 [
    | inl (w, going, met) ↦ (
      Skipped (before ++ w.line) ∷ [],
      inl (before ++ w.line, refl),
      skip_whole count k going w.line w.plain w.equal,
    )
    | inr (line, none, ended, met) ↦ last line ended met (before ++ k.drops.bytes) refl
  ]
    where
      last : IsLine k.drops.bytes → t.pieces.ended ≡ true → MetEnd s.pieces t.pieces → (all : List ℕ)
          → all ≡ before ++ k.drops.bytes
          → (events : List Event) × IsSkip events × LinesAlong remaining before s events [] t
      last line ended met [] is = ([], inr refl, skip_none count k ended met (sym is))
      last line ended met (byte ∷ all) is = (
        Skipped (before ++ k.drops.bytes) ∷ [],
        inl (before ++ k.drops.bytes, refl),
        skip_last count k line ended met (omega (arith, ap length is)),
      )

  -- the stream failed in the line
  pub skip_fails : (e : Error) (k : SkipsLine remaining s (Err e) t)
      → LinesAlong remaining before s [] (before ++ k.drops.bytes) t
  skip_fails e k = record {
    bytes = k.drops.bytes;
    went = k.drops.went;
    cut = (All-append (isnt_end newline) before k.drops.bytes plain k.drops.answers.0, refl);
    closed = λ open'. (let odd : true ≡ false = sym k.skipping ∙ open' in cc);
    told = λ ended.
        let u = unasked (Err e) k ended in
        elim k.drops.answers.4 [
          | inl met ↦ absurd (omega (
            arith,
            ap length met,
            ap (λ l. length l.reads.faults) u.1,
            length-append s.pieces.reader.log.reads.faults (e ∷ []),
          ))
          | inr (fault, other, above) ↦ absurd (omega (arith, above, ap length u.0))
        ];
    ends = no_end remaining s t k.drops.bytes k.drops.went [] refl k.drops.answers.2;
  }
