-- One read of the stream, where nothing is buffered and payload comes next.
use Rattle.std.proofs.Common.{◌≡◌, ℕ, ◌<◌, ◌≤◌, List, [], ◌++◌, length, min, Option, Result, Ok, Err, sym, ap, ◌∙◌, arith, inl, inr, refl, append-nil}
use Rattle.std.specs.declared.io.Error.{Error}
use Rattle.buffer_redux.specs.Buffered.{Buffered}
use Rattle.buffer_redux.specs.Policy.{ReadRules}
use Rattle.buffer_redux.specs.StreamLog.{after_read, zero_of_none}
use Rattle.body_reader.specs.declared.error.BodyError.TheVariants.{Truncated, Io}
use Rattle.body_reader.specs.declared.progress.Progress.{Progress}
use Rattle.body_reader.specs.Between.{AsksWithRoom, PayloadFails, TakenThrough, TakesBytes, Way}
use Rattle.body_reader.specs.BetweenLaws.{AsksWithRoom-here, PassesTo-once, TellsOnce-none}
use Rattle.body_reader.specs.Coding.{Grammar, IsDone, IsLawful, IsOpen}
use Rattle.body_reader.specs.CodingLaws.{open_at}

module _ {S Q P W : Type 0} (remaining : S → Option (List ℕ)) (rules : ReadRules Q) (g : Grammar P W) (lawful : IsLawful g)
    (s : Buffered S Q) (p : Progress P) (place : g.is_place p.place) (goes_on : ¬ IsDone g p.place) (empty : s.block.bytes ≡ [])
    (room : ℕ) (out : List ℕ) (offers : min room (g.sure p.place) ≤ length out) (t : Buffered S Q) where
  is_open : (bytes : List ℕ) → bytes ≡ [] → IsOpen g p.place bytes
  is_open bytes none = open_at g lawful p.place place goes_on bytes (omega (arith, ap length none))

  pub once_asks : (answer : Result ℕ Error) → t.log ≡ after_read s.log out answer
      → AsksWithRoom remaining rules g room s p.place t
  once_asks answer told =
      AsksWithRoom-here remaining rules g room s p.place t place (omega (arith, offers, ap (λ l. l.reads.offer) told))
      (inr (record {
        came = [];
        given = ap (λ l. l.reads.given) told ∙ ap (λ l. s.log.reads.given ++ l.reads.latest) (sym told);
        such = is_open (s.block.bytes ++ []) (append-nil s.block.bytes ∙ empty);
        some = omega (arith, ap (λ l. l.reads.asks) told);
        asks = omega (arith, ap (λ l. l.reads.asks) told);
      }))

  module _ (takes : TakesBytes remaining rules g s p [] [] t p) (through : TakenThrough s [] t) (policy : t.policy ≡ s.policy)
    where
      pub once_way : (answer : Result ℕ Error) → t.log ≡ after_read s.log out answer → Way remaining rules g room s p [] t p
      once_way answer told = record {
        wire = [];
        takes = takes;
        asked = once_asks answer told;
        through = inl through;
        tells = TellsOnce-none (PassesTo-once (inr (takes.along, policy, refl)));
        idle = λ done. absurd (goes_on done);
      }

      -- it failed, or gave nothing
      module _ (none : t.block.bytes ≡ []) where
        pub once_fails : (e : Error) → t.log ≡ after_read s.log out (Err e)
            → Way remaining rules g room s p [] t p × PayloadFails remaining rules g s (Io e) t p
        once_fails e told = (
          once_way (Err e) told,
          ((ap (λ l. l.reads.faults) told, ap (λ l. l.reads.zero_reads) told), is_open t.block.bytes none),
        )

        pub once_dry : t.log ≡ after_read s.log out (Ok 0) → 0 < length out
            → Way remaining rules g room s p [] t p × PayloadFails remaining rules g s (Truncated p.count) t p
        once_dry told some = (
          once_way (Ok 0) told,
          (
            refl,
            (
              ap (λ l. l.reads.faults) told,
              ap (λ l. l.reads.zero_reads) told ∙ zero_of_none 0 out s.log.reads.zero_reads refl (omega (arith, some)),
            ),
            is_open t.block.bytes none,
          ),
        )
