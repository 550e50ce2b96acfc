-- Payload is read past the buffer.
use Rattle.std.proofs.Common.{◌≡◌, ℕ, ◌<◌, ◌≤◌, List, [], ◌++◌, length, min, take, drop, Option, Result, Ok, Err, sym, ap, subst, ◌∙◌, arith, inl, inr, append-nil, length-append, length-drop}
use Rattle.std.proofs.lemmas.List.{length-take-le, nil_from_length, take-append-le}
use Rattle.std.specs.declared.io.Error.{Error}
use Rattle.buffer_redux.specs.BlockLaws.{OnlyRingMoves-none}
use Rattle.buffer_redux.specs.Buffered.{Buffered, GoesDirect, GoesPast}
use Rattle.buffer_redux.specs.BufReader.{ReaderKeeps, ReadsAlong, ReadsInOrder}
use Rattle.buffer_redux.specs.Policy.{ReadRules}
use Rattle.buffer_redux.specs.ReaderLaws.{ReaderKeeps-along}
use Rattle.buffer_redux.specs.StreamLog.{after_read}
use Rattle.body_reader.specs.declared.error.BodyError.TheVariants.{Truncated, Io}
use Rattle.body_reader.specs.declared.progress.Progress.{Progress}
use Rattle.body_reader.specs.Between.{HandsOn, KeepsBuffer, TakesBytes}
use Rattle.body_reader.specs.BetweenLaws.{EachGave-once, PassesTo-none}
use Rattle.body_reader.specs.Coding.{Carries, Grammar, IsLawful, Leads, heeded}
use Rattle.body_reader.specs.CodingLaws.{Leads-none}
use Rattle.body_reader.proofs.Once.{once_asks, once_dry, once_fails}
use Rattle.body_reader.proofs.Skipping.{Notes}

-- one read past the buffer, into the first bytes of a slice, which it left so
module _ {S Q P W : Type 0} (remaining : S → Option (List ℕ)) (rules : ReadRules Q) (g : Grammar P W) (lawful : IsLawful g)
    (s : Buffered S Q) (p : Progress P) (place : g.is_place p.place) (most : ℕ)
    (carries : Carries g p.place most s.block.bytes) (past : GoesPast s.block most) (slice : List ℕ) (fits : most ≤ length slice)
    (t : Buffered S Q) (keeps : ReaderKeeps remaining rules s t) (lent : List ℕ) (size : length lent ≡ length (take most slice))
  where
    abbrev out : List ℕ
    out = lent ++ drop most slice

    long : length lent ≡ most
    long = omega (arith, size, length-take-le most slice fits)

    empty : s.block.bytes ≡ []
    empty = nil_from_length s.block.bytes past.0

    -- so the read goes to the stream
    abbrev Went : Result ℕ Error → Type 0
    Went answer = GoesPast s.block (length (take most slice)) → GoesDirect after_read s lent answer t

    went : (answer : Result ℕ Error) → Went answer → GoesDirect after_read s lent answer t
    went answer goes = grind (arith, length-take-le)

    buffer_kept : t.block ≡ s.block → KeepsBuffer rules g.ahead s t
    buffer_kept same = grind (arith, OnlyRingMoves-none)

    pub past_carries : (n : ℕ) → n ≤ length lent → Went (Ok n) → ReadsInOrder s (take n lent) t
        → g.carries p.place (take n out) t.block.bytes
    past_carries n within goes order = grind (arith, take-append-le, length-take-le)

    module _ (offers : min (length slice) (g.sure p.place) ≤ most) (known : ℕ) (unknown : known ≡ 0) where
      room : length out ≡ length slice
      room = omega (arith, long, fits, length-append lent (drop most slice), length-drop most slice)

      offered : min (length out) (g.sure p.place) ≤ length lent
      offered = omega (arith, offers, room, long)

      still : t.block ≡ s.block → ReadsInOrder s [] t → TakesBytes remaining rules g s p [] [] t p
      still same order = grind (arith, ReaderKeeps-along, Leads-none, append-nil, buffer_kept)

      some : 0 < length out
      some = omega (arith, carries.some, room, fits)

      pub past_fails : (e : Error) → Went (Err e) → ReadsInOrder s [] t
          → HandsOn remaining rules g known s p out (Err (Io e)) t p known
      past_fails e goes order =
          let direct = went (Err e) goes in (
            once_fails remaining rules g lawful s p place carries.goes_on empty (length out) lent offered t
                (still direct.block order) (omega (arith, ap (λ b. b.consumed) direct.block)) direct.policy
                (ap (λ b. b.bytes) direct.block ∙ empty) e direct.told,
            λ none. absurd (omega (arith, none, some)),
          )

      pub past_dry : Went (Ok 0) → ReadsInOrder s [] t
          → HandsOn remaining rules g known s p out (Err (Truncated p.count)) t p known
      past_dry goes order =
          let direct = went (Ok 0) goes in (
            once_dry remaining rules g lawful s p place carries.goes_on empty (length out) lent offered t
                (still direct.block order) (omega (arith, ap (λ b. b.consumed) direct.block)) direct.policy
                (ap (λ b. b.bytes) direct.block ∙ empty) direct.told (omega (arith, long, carries.some)),
            λ none. absurd (omega (arith, none, some)),
          )

      pub past_given : (n : ℕ) → 0 < n → n ≤ length lent → Went (Ok n) → ReadsInOrder s (take n lent) t → (there : P)
          (q : Progress P) → Notes p there (take n out) q
          → Leads g p.place (take n out) (take n out) there (heeded g t.block.bytes) → g.is_place there
          → HandsOn remaining rules g known s p out (Ok n) t q known
      past_given n given within goes order there q notes leads is_place =
          let direct = went (Ok n) goes in
          let same : take n out ≡ take n lent = take-append-le n lent (drop most slice) within in (
            (
              record {
                wire = take n out;
                takes = record {
                  along = subst (λ l. ReadsAlong remaining rules s l t) (sym same)
                      (ReaderKeeps-along remaining rules s (take n lent) t order keeps);
                  leads = subst (λ x. Leads g p.place (take n out) (take n out) x (heeded g t.block.bytes)) (sym notes.place)
                      leads;
                  taken = notes.taken;
                  place = subst g.is_place (sym notes.place) is_place;
                  keeps = buffer_kept direct.block;
                };
                asked = once_asks remaining rules g lawful s p place carries.goes_on empty (length out) lent offered t (Ok n)
                    direct.told;
                through = inr (
                  omega (arith, given, ap length same, length-take-le n lent within),
                  omega (arith, past.1, long, ap (λ l. l.reads.offer) direct.told),
                );
                tells = record {
                  front = s;
                  place = p.place;
                  passes = PassesTo-none;
                  once = inr (
                    omega (arith, given, ap length same, length-take-le n lent within),
                    inr (direct.block, direct.policy),
                  );
                };
                idle = λ done. absurd (carries.goes_on done);
              },
              (
                EachGave-once s t lent n direct.told given within,
                (
                  omega (arith, within, length-append lent (drop most slice)),
                  (λ none _. absurd (omega (arith, none, given))),
                  inr unknown,
                  (λ _ _. record {
                    wire = [];
                    equal = notes.taken;
                    place = p.place;
                    is_place = place;
                    leads = Leads-none g p.place (heeded g (take n out ++ t.block.bytes));
                    all = inl (omega (
                      arith,
                      unknown,
                      ap (λ b. length b.bytes) direct.block,
                      ap length empty,
                      length-append (take n out) t.block.bytes,
                    ));
                  }),
                ),
              ),
            ),
            λ none. absurd (omega (arith, none, some)),
          )
