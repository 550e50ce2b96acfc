-- What a run moves from a reader to a writer.
use Rattle.std.proofs.Common.{◌≡◌, ℕ, List, [], ◌++◌, ap, ◌∙◌, sym, append-nil}
use Rattle.bodies.specs.Words.{StreamLog, ReceivedFlushed}

-- of what was given these bytes were taken, and the rest was not; of what becomes of them this was received, and that is unsent
pub record Moved (read read' written written' : StreamLog) : Type 0 where
  pub taken : List ℕ
  pub rest : List ℕ
  pub given : read'.reads.given ≡ read.reads.given ++ (taken ++ rest)
  pub sent : List ℕ
  pub unsent : List ℕ
  pub received : written'.writes.received ≡ written.writes.received ++ sent

-- nothing is unsent, and the writer was flushed
pub record MovedAll (read read' written written' : StreamLog) : Type 0 where
  pub moved : Moved read read' written written'
  pub all : moved.unsent ≡ []
  pub flushed : ReceivedFlushed written'

-- all that was given was taken
pub all_given : {read read' written written' : StreamLog} (m : Moved read read' written written') → m.rest ≡ []
    → read'.reads.given ≡ read.reads.given ++ m.taken
all_given {read} m none = m.given ∙ ap (λ l. read.reads.given ++ (m.taken ++ l)) none
    ∙ ap (λ l. read.reads.given ++ l) (append-nil m.taken)

-- no stream was called
abbrev pub moved_none : (read written : StreamLog) → Moved read read written written
moved_none read written = record {
  taken = [];
  rest = [];
  given = sym (append-nil read.reads.given);
  sent = [];
  unsent = [];
  received = sym (append-nil written.writes.received);
}
