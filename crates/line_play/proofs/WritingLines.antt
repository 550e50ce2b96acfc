-- What calls take in that write lines with their ends, by their exact relations.
use Rattle.std.proofs.Common.{◌≡◌, ℕ, ◌+◌, ◌≤◌, List, [], ◌∷◌, ◌++◌, length, map, take, sym, ap, subst, refl, ◌∙◌, arith, length-append, Result, Ok, Err, IfErr, MatchResult, OnOk}
use Rattle.std.proofs.Math.Seq.{take-append-add, take-append_seam, take-length}
use Rattle.std.proofs.lemmas.List.{take-append-le}
use Rattle.std.specs.declared.io.Error.{Error}
use Rattle.buffer_redux.specs.BufWriter.{WritesInOrder, WriterStopped}
use Rattle.buffer_redux.specs.Buffered.{Buffered}
use Rattle.buffer_redux.specs.LineWriter.{line_rules}
use Rattle.buffer_redux.specs.LogGrows.{WriteLogGrows, WriteLogGrows-joins, WriteLogGrows-none}
use Rattle.buffer_redux.specs.StreamLog.{StreamLog}
use Rattle.buffer_redux.specs.WriteAll.{WritesAll}
use Rattle.buffer_redux.specs.WriterLaws.{WritesInOrder-joins, WritesInOrder-none}
use Rattle.buffer_redux.specs.WriterTells.{LeavesCapacity-std}
use Rattle.buffer_redux.specs.WritesAlongLaws.{WriterStopped-after}
use Rattle.codec.specs.WriteRuns.{CallRuns, CallsEach}
use Rattle.codec.specs.declared.laws.runs.WriteEachError.{WriteEachError}
use Rattle.line_reader.specs.Lines.{newline, with_newline, with_newlines}
use Rattle.line_play.specs.WrittenLines.{StopsInLine, WritesLine}

-- these bytes were taken in, and nothing was flushed or grown
record Took {S P : Type 0} (trace : S → S → Type 0) (s : Buffered S P) (bytes : List ℕ) (t : Buffered S P) : Type 0 where
  in_order : WritesInOrder s bytes t
  went : trace s.inner t.inner
  grows : WriteLogGrows s.log.writes t.log.writes
  capacity : t.block.capacity ≡ s.block.capacity
  not_flushed : t.log.writes.flushed ≡ s.log.writes.flushed

module _ {S P : Type 0} (tells : S → StreamLog) (trace : S → S → Type 0)
    (joins : (a b c : S) → trace a b → trace b c → trace a c) where
  took_both : (s m t : Buffered S P) (a b : List ℕ) → Took trace s a m → Took trace m b t → Took trace s (a ++ b) t
  took_both s m t a b p q = record {
    in_order = WritesInOrder-joins s m t a b p.in_order q.in_order;
    went = joins s.inner m.inner t.inner p.went q.went;
    grows = WriteLogGrows-joins _ _ _ p.grows q.grows;
    capacity = q.capacity ∙ p.capacity;
    not_flushed = q.not_flushed ∙ p.not_flushed;
  }

  -- at an `Err` a beginning was, and the inner writer stopped it
  abbrev Began : Buffered S P → List ℕ → Result (Unit {0}) Error → Buffered S P → Type 0
  Began s bytes (Ok x) t = Took trace s bytes t
  Began s bytes (Err e) t =
      (count : ℕ) × (count ≤ length bytes) × Took trace s (take count bytes) t × WriterStopped s.log.writes t.log.writes e

  took_front : (s : Buffered S P) (bytes : List ℕ) (answer : Result (Unit {0}) Error) (t : Buffered S P)
      → (all : WritesAll tells trace line_rules s bytes answer t) → Took trace s (take all.count bytes) t
  took_front s bytes answer t all = record {
    in_order = all.front.in_order;
    went = all.front.keeps.went.calls;
    grows = all.front.keeps.grows;
    capacity = all.front.keeps.same_capacity LeavesCapacity-std;
    not_flushed = all.front.keeps.not_flushed;
  }

  began_all : (s : Buffered S P) (bytes : List ℕ) (answer : Result (Unit {0}) Error) (t : Buffered S P)
      → WritesAll tells trace line_rules s bytes answer t → Began s bytes answer t
  began_all s bytes (Ok x) t all = subst (λ l. Took trace s l t) (ap (λ n. take n bytes) all.ended.0 ∙ take-length bytes)
      (took_front s bytes (Ok x) t all)
  began_all s bytes (Err e) t all = (all.count, all.within, took_front s bytes (Err e) t all, all.steadily refl)

  -- behind others; and where more was to come
  began_then : (s m t : Buffered S P) (a b : List ℕ) (answer : Result (Unit {0}) Error) → Took trace s a m → Began m b answer t
      → Began s (a ++ b) answer t
  began_then s m t a b (Ok x) p q = took_both s m t a b p q
  began_then s m t a b (Err e) p (count, within, took, why) = (
    length a + count,
    omega (arith, within, length-append a b),
    subst (λ l. Took trace s l t) (sym (take-append-add a b count)) (took_both s m t a (take count b) p took),
    WriterStopped-after s.log.writes m.log.writes t.log.writes e p.grows why,
  )

  began_more : (s t : Buffered S P) (a b : List ℕ) (e : Error) → Began s a (Err e) t → Began s (a ++ b) (Err e) t
  began_more s t a b e (count, within, took, why) = (
    count,
    omega (arith, within, length-append a b),
    subst (λ l. Took trace s l t) (sym (take-append-le count a b within)) took,
    why,
  )

  began_line : (s : Buffered S P) (line : List ℕ) (answer : Result (Unit {0}) Error) (t : Buffered S P)
      → WritesLine tells trace line_rules s line answer t → Began s (with_newline line) answer t
  began_line s line answer t w = of w.writing w.between w.wrote w.ended
    where
      of : (writing : Result (Unit {0}) Error) (m : Buffered S P) → WritesAll tells trace line_rules s line writing m
          → MatchResult writing (λ _. WritesAll tells trace line_rules m (newline ∷ []) answer t)
          (λ e. (answer ≡ Err e) × (t ≡ m)) → Began s (with_newline line) answer t
      of (Ok x) m wrote ended = began_then s m t line (newline ∷ []) answer (began_all s line (Ok x) m wrote)
          (began_all m (newline ∷ []) answer t ended)
      of (Err e) m wrote (is, same) = rw (is, same) (began_more s m line (newline ∷ []) e (began_all s line (Err e) m wrote))

  abbrev Runs : Buffered S P → List (List ℕ) → List (Result (Unit {0}) Error) → Buffered S P → Type 0
  Runs = CallRuns (WritesLine tells trace line_rules)

  module _ (none : (u : S) → trace u u) where
    took_run : (lines : List (List ℕ)) (s t : Buffered S P) → Runs s lines (map (λ line. Ok tt) lines) t
        → Took trace s (with_newlines lines) t
    took_run [] s t same = subst (Took trace s []) same (record {
      in_order = WritesInOrder-none s;
      went = none s.inner;
      grows = WriteLogGrows-none s.log.writes;
      capacity = refl;
      not_flushed = refl;
    })
    took_run (line ∷ lines) s t (m, first, run) =
        took_both s m t (with_newline line) (with_newlines lines) (began_line s line (Ok tt) m first) (took_run lines m t run)

    -- all that is said of them
    pub each_says : (s : Buffered S P) (lines : List (List ℕ)) (answer : Result (Unit {0}) (WriteEachError Error))
        (t : Buffered S P) → CallsEach (WritesLine tells trace line_rules) Runs s lines answer t → record {
          written : OnOk answer (WritesInOrder s (with_newlines lines) t);
          stopped : IfErr answer (λ e. StopsInLine lines e.taken s t);
          calls : CallsEach (WritesLine tells trace line_rules) Runs s lines answer t;
          caused : IfErr answer (λ e. WriterStopped s.log.writes t.log.writes e.error);
          not_flushed : t.log.writes.flushed ≡ s.log.writes.flushed;
          capacity : t.block.capacity ≡ s.block.capacity;
          trace : trace s.inner t.inner;
        }
    each_says s lines (Ok x) t each =
        let took = took_run lines s t each in record {
          written = took.in_order;
          stopped = tt;
          calls = each;
          caused = tt;
          not_flushed = took.not_flushed;
          capacity = took.capacity;
          trace = took.went;
        }
    each_says s lines (Err e) t each =
        let before = took_run each.done s each.before each.wrote in
        let last = began_line each.before each.payload (Err e.error) t each.failed in
        let all = took_both s each.before t (with_newlines each.done) (take last.0 (with_newline each.payload)) before last.2 in
        let front : take e.taken lines ≡ each.done = ap (λ n. take n lines) each.taken
        ∙ ap (λ l. take (length each.done) l) each.all ∙ take-append_seam each.done (each.payload ∷ each.later) in
        record {
          written = tt;
          stopped = record {
            line = each.payload;
            later = each.later;
            all = each.all ∙ ap (λ l. l ++ each.payload ∷ each.later) (sym front);
            between = each.before;
            whole = subst (λ l. WritesInOrder s (with_newlines l) each.before) (sym front) before.in_order;
            part = record { count = last.0; within = last.1; in_order = last.2.in_order };
          };
          calls = each;
          caused = WriterStopped-after s.log.writes each.before.log.writes t.log.writes e.error before.grows last.3;
          not_flushed = all.not_flushed;
          capacity = all.capacity;
          trace = all.went;
        }
