-- What the turns of `drop_through` come to.
use Rattle.std.proofs.Common.{◌≡◌, ℕ, ◌+◌, ◌<◌, ◌≤◌, ◌^◌, List, [], ◌∷◌, ◌++◌, length, length-take-le, drop, take, Bool, true, false, refl, sym, ap, subst, ◌∙◌, arith, inl, inr, append-nil, append_assoc, length-append, Option, Result, Ok, Err, length-drop}
use Rattle.std.proofs.lemmas.List.{nil_from_length}
use Rattle.std.proofs.lemmas.List.Elements.{All-append, All-nil}
use Rattle.std.specs.IoError.{error_kind}
use Rattle.std.specs.declared.io.Error.{Error}
use Rattle.std.specs.declared.io.ErrorKind.TheVariants.{Other}
use Rattle.buffer_redux.specs.AskingLaws.{AskedOver-on}
use Rattle.piece_reader.specs.DelimitedLaws.{isnt_end}
use Rattle.piece_reader.specs.NextPiece.{AskedUnlessEnded, AsksGive, NoEnd, NoFault, OffersAll, PiecesWent, Refills}
use Rattle.piece_reader.specs.NextPieceLaws.{AskedUnlessEnded-told, MetEnd-joins, still_going}
use Rattle.piece_reader.specs.PiecesWentLaws.{PiecesWent-inside, PiecesWent-joins, PiecesWent-none, Skips-left}
use Rattle.piece_reader.specs.PieceReader.{ReaderState, left_of, rest}
use Rattle.line_reader.specs.declared.line.Lines.{Lines}
use Rattle.line_reader.specs.CallsLaws.{lines_join}
use Rattle.line_reader.specs.Lines.{newline, IsLine, with_newline}
use Rattle.line_reader.specs.LineReader.{lined}
use Rattle.line_reader.specs.NextLineLaws.{IsPieceReader-same}
use Rattle.line_reader.specs.SkipLine.{DropsLine, DropsThrough}

-- what holds before each turn of `drop_through`: so many bytes went, and none of them ends a line. Neither a fault nor an end
-- was met, and each ask gave a byte
pub record SkipHead {S : Type 0} (remaining : S → Option (List ℕ)) (s m : ReaderState S Lines) (dropped : ℕ) : Type 0 where
  pub bytes : List ℕ
  pub went : PiecesWent remaining (1 + s.decoder.max) s bytes m
  pub count : dropped ≡ length bytes
  pub plain : IsLine bytes
  pub ended : m.ended ≡ s.ended
  pub faults : NoFault s m
  pub no_end : NoEnd s m
  pub gave : AsksGive s m
  pub asked : AskedUnlessEnded IsLine s m
  pub offered : OffersAll s m

-- before the first
pub SkipHead-none : {S : Type 0} (remaining : S → Option (List ℕ)) (s : ReaderState S Lines) → SkipHead remaining s s 0
SkipHead-none remaining s = record {
  bytes = [];
  went = PiecesWent-none remaining (1 + s.decoder.max) s;
  count = refl;
  plain = All-nil (isnt_end newline);
  ended = refl;
  faults = refl;
  no_end = refl;
  gave = omega arith;
  asked = inl refl;
  offered = inl refl;
}

module _ {S : Type 0} (remaining : S → Option (List ℕ)) (s m : ReaderState S Lines) (dropped : ℕ)
    (h : SkipHead remaining s m dropped) where
  offered_told : (t : ReaderState S Lines) → t.reader.log ≡ m.reader.log → OffersAll s t
  offered_told t told = elim h.offered [
    | inl same ↦ inl (told ∙ same)
    | inr all ↦ inr (ap (λ l. l.reads.offer) told ∙ all)
  ]

  -- bytes that are left are dropped
  module _ (count : ℕ) (found : Bool) (t : ReaderState S Lines) (drops : DropsLine m count found t) where
    same_reader : t.reader ≡ m.reader
    same_reader = ap (λ x. x.reader) drops.skips.same

    same_ended : t.ended ≡ m.ended
    same_ended = ap (λ x. x.ended) drops.skips.same

    went_on : (more : List ℕ) → more ++ rest t ≡ rest m → PiecesWent remaining (1 + s.decoder.max) s (h.bytes ++ more) t
    went_on more split = PiecesWent-joins remaining _ s m t h.bytes more h.went
        (PiecesWent-inside remaining _ m t more same_reader (ap (λ x. x.decoder) drops.skips.same) split)

    asked_still : AskedUnlessEnded IsLine s t
    asked_still = AskedUnlessEnded-told IsLine s m t (ap (λ r. r.log) same_reader) h.asked

    offered_still : OffersAll s t
    offered_still = offered_told t (ap (λ r. r.log) same_reader)

    faults_still : NoFault s t
    faults_still = ap (λ r. r.log.reads.faults) same_reader ∙ h.faults

    no_end_still : NoEnd s t
    no_end_still = ap (λ r. r.log.reads.zero_reads) same_reader ∙ h.no_end

    -- the end was buffered
    pub skip_found : found ≡ true → DropsThrough remaining s (Ok (dropped + count)) t
    skip_found is =
        let at = drops.ends is in
        let front = take at.0 (rest m) in
        let inside : at.0 < length (rest m) = omega (arith, drops.inside, at.1) in
        let size = length-take-le at.0 (rest m) (omega (arith, inside)) in
        let left : rest t ≡ drop (1 + at.0) (rest m) =
        Skips-left (lined m.decoder.max) m count t drops.skips ∙ ap (λ n. drop n (rest m)) at.1 in
        let split : with_newline front ++ rest t ≡ rest m =
        append_assoc front (newline ∷ []) (rest t) ∙ ap (λ l. front ++ newline ∷ l) left ∙ at.2.equal in
        record {
          bytes = h.bytes ++ with_newline front;
          went = went_on (with_newline front) split;
          answers = (
            omega (
              arith,
              h.count,
              size,
              at.1,
              length-append h.bytes (with_newline front),
              length-append front (newline ∷ []),
            ),
            faults_still,
            inl (
              record {
                line = h.bytes ++ front;
                plain = All-append (isnt_end newline) h.bytes front h.plain at.2.plain;
                equal = sym (append_assoc h.bytes front (newline ∷ []));
              },
              same_ended ∙ still_going m.ended (rest m) drops.before.ended (omega (arith, inside)),
              no_end_still,
            ),
          );
          asked = asked_still;
          offered = offered_still;
          whole = IsPieceReader-same m t (ap (λ x. x.decoder) drops.skips.same) drops.skips.whole;
        }

    -- no end was there: all that was left is gone
    module _ (is : found ≡ false) where
      pub none_left : rest t ≡ []
      none_left = Skips-left (lined m.decoder.max) m count t drops.skips
          ∙ nil_from_length (drop count (rest m)) (omega (arith, length-drop count (rest m), (drops.none is).0))

      pub skip_all : SkipHead remaining s t (dropped + count)
      skip_all =
          let all = drops.none is in
          record {
            bytes = h.bytes ++ rest m;
            went = went_on (rest m) (ap (λ l. rest m ++ l) none_left ∙ append-nil (rest m));
            count = omega (arith, h.count, all.0, length-append h.bytes (rest m));
            plain = All-append (isnt_end newline) h.bytes (rest m) h.plain all.1;
            ended = same_ended ∙ h.ended;
            faults = faults_still;
            no_end = no_end_still;
            gave = omega (
              arith,
              h.gave,
              ap (λ r. r.log.reads.asks) same_reader,
              ap (λ r. length r.log.reads.given) same_reader,
            );
            asked = asked_still;
            offered = offered_still;
          }

      -- more bytes are gone than one call drops
      pub skip_too_long : (e : Error) → error_kind e ≡ Other → dropped ≤ 2 ^ 63 → 2 ^ 63 < dropped + count
          → DropsThrough remaining s (Err e) t
      skip_too_long e other before above =
          let some : 0 < length (rest m) = omega (arith, (drops.none is).0, before, above) in record {
            bytes = skip_all.bytes;
            went = skip_all.went;
            answers = (
              skip_all.plain,
              none_left,
              same_ended ∙ still_going m.ended (rest m) drops.before.ended some,
              skip_all.no_end,
              inr (skip_all.faults, other, omega (arith, above, skip_all.count)),
            );
            asked = skip_all.asked;
            offered = skip_all.offered;
            whole = IsPieceReader-same m t (ap (λ x. x.decoder) drops.skips.same) drops.skips.whole;
          }

  -- nothing is left, so the stream is asked
  module _ (none : rest m ≡ []) (answer : Result Bool Error) (t : ReaderState S Lines)
      (r : Refills remaining (lined m.decoder.max) m answer t) where
    came_on : PiecesWent remaining (1 + s.decoder.max) s h.bytes t
    came_on = subst (λ l. PiecesWent remaining (1 + s.decoder.max) s l t) (append-nil h.bytes)
        (lines_join remaining s m t h.bytes [] h.went r.went)

    asked_on : AskedUnlessEnded IsLine s t
    asked_on = elim r.asked [
      | inl same ↦ AskedUnlessEnded-told IsLine s m t same h.asked
      | inr over ↦ inr (
        sym h.ended ∙ over.0,
        AskedOver-on (λ bytes. bytes ≡ []) IsLine (left_of s) (left_of m) (left_of t) h.bytes h.went.hands h.went.grows.asks
            h.gave (λ more is. subst (λ l. IsLine (h.bytes ++ l)) (sym is)
            (subst IsLine (sym (append-nil h.bytes)) h.plain)) over.1,
      )
    ]

    offered_on : OffersAll s t
    offered_on = elim r.offered [ inl same ↦ offered_told t same | inr all ↦ inr (all ∙ h.went.capacity) ]

    pub skip_more : answer ≡ Ok true → SkipHead remaining s t dropped
    skip_more is =
        let more = r.more is in
        record {
          bytes = h.bytes;
          went = came_on;
          count = h.count;
          plain = h.plain;
          ended = more.2 ∙ sym more.1 ∙ h.ended;
          faults = more.4 ∙ h.faults;
          no_end = more.3 ∙ h.no_end;
          gave = elim r.asked [
            | inl same ↦ omega (
              arith,
              h.gave,
              ap (λ l. l.reads.asks) same,
              ap (λ l. length l.reads.given) same,
            )
            | inr over ↦ omega (
              arith,
              h.gave,
              over.1.asks,
              more.0,
              ap length none,
              ap length over.1.such,
              ap length r.went.hands.equal,
              ap length r.went.hands.given,
              length-append (rest m) over.1.came,
              length-append (rest m) r.went.hands.got,
              length-append m.reader.log.reads.given r.went.hands.got,
            )
          ];
          asked = asked_on;
          offered = offered_on;
        }

    pub skip_fails : (e : Error) → answer ≡ Err e → DropsThrough remaining s (Err e) t
    skip_fails e is =
        let f = r.failed e is in
        record {
          bytes = h.bytes;
          went = came_on;
          answers = (h.plain, f.0, f.2, f.3 ∙ h.no_end, inl (f.4 ∙ ap (λ l. l ++ e ∷ []) h.faults));
          asked = asked_on;
          offered = offered_on;
          whole = IsPieceReader-same m t r.went.decoder r.whole;
        }

    pub skip_ends : answer ≡ Ok false → DropsThrough remaining s (Ok dropped) t
    skip_ends is =
        let end = r.end is in
        record {
          bytes = h.bytes;
          went = came_on;
          answers = (
            h.count,
            end.3 ∙ h.faults,
            inr (h.plain, end.0, end.1, MetEnd-joins s m t h.ended h.no_end end.2),
          );
          asked = asked_on;
          offered = offered_on;
          whole = IsPieceReader-same m t r.went.decoder r.whole;
        }
